-- Taking a point out of a tree takes its row out of the rows, and leaves the tree lawful.
use Rattle.std.proofs.Common.{◌≡◌, ℕ, suc, ◌+◌, ◌-◌, ◌^◌, ◌<◌, ◌≤◌, refl, sym, ◌∙◌, ap, subst, arith, List, ◌∷◌}
use Rattle.std.proofs.Common.{◌++◌, length, map, replicate, true, false, Bool, cond, eqb-true, eq-eqb}
use Rattle.std.specs.Prelude.{ℤ, Option, Some, None, is_some, ◌==◌}
use Rattle.std.specs.List.{AllByRecursion as Each}
use Rattle.std.proofs.lemmas.Bool.{and_parts}
use Rattle.std.proofs.lemmas.List.{length-replicate}
use Rattle.ph_specs.specs.Coordinate.{coordinate, is_point, same_point}
use Rattle.ph_specs.specs.ZOrder.{address}
use Rattle.ph_specs.specs.Table.{Row, row, find, has, put, del, move, move_value, is_value, IsTable}
use Rattle.ph_specs.specs.Node.{Entries, end, point, child, PlainNode}
use Rattle.ph_model.specs.EntryList.{Entry, What, value, node, in_front}
use Rattle.ph_specs.specs.Shape.{row_address, digits_below, digits_between, shape}
use Rattle.ph_specs.specs.TreeRows.{put_together, rows_behind, rows, count}
use Rattle.ph_model.specs.Lawful.{IsLawfulFrom, IsLawful, IsBody, HasZerosFrom, IsAbove}
use Rattle.ph_specs.specs.DelTree.{same_digits, merged_child, del_entries}
use Rattle.ph_model.specs.DelTree.{root_of, del_tree}
use Rattle.ph_specs.proofs.laws.Del.{is_table-del, find-del, found-value}
use Rattle.ph_model.proofs.laws.LawfulRows.{put_together-small}
use Rattle.ph_model.proofs.laws.TableShape.{table-shape}
use Rattle.ph_model.proofs.laws.Unique.{shape-rows, zeros_known}
use Rattle.ph_specs.proofs.laws.Put.{same_from_test, test_from_same}
use Rattle.ph_model.proofs.lemmas.Joined.{offsets, from_place, above-child, length-put_together, zeros-put_together}
use Rattle.ph_specs.proofs.lemmas.Members.{Each-each}
use Rattle.ph_model.proofs.lemmas.RowsBehind.{point-address, child-addresses, addresses-from, point-body, child-bodies}
use Rattle.ph_model.proofs.lemmas.Taken.{IsElsewhere, del-absent, del-front, del-back, rows-merged, point-there, child-there, fits-back, fits-above}
use Rattle.ph_model.proofs.lemmas.PointDigits.{same_digits-true, same_digits-refl}

-- ---- which rows are not at a point

not_true : (b : Bool) → (b ≡ true → ⊥) → b ≡ false
not_true true n = absurd (n refl)
not_true false n = refl

not_false : {b : Bool} → b ≡ false → b ≡ true → ⊥
not_false f t = let e : true ≡ false = sym t ∙ f in cc

elsewhere : (p : List ℤ) (r : Row) → (r.point ≡ p → ⊥) → IsElsewhere p r
elsewhere p r n = not_true (same_point r.point p) (λ t. n (same_from_test r.point p t))

other-address : (w b : ℕ) (p : List ℤ) (r : Row) → (row_address w b r ≡ address w p b → ⊥) → IsElsewhere p r
other-address w b p r n = elsewhere p r (λ e. n (ap (λ q. address w q b) e))

-- ---- the rows

-- a point of which these digits are known from above a level
pub record IsPointUnder (w b : ℕ) (above : List ℕ) (p : List ℤ) : Type 0 where
  pub back : map (coordinate w) (offsets w p) ≡ p
  pub under : from_place (b + 1) (offsets w p) ≡ from_place (b + 1) above

-- rows behind entries of greater addresses are not at the point
rest-elsewhere : (w dims b a : ℕ) (above : List ℕ) (rest : Entries) (p : List ℤ) → IsAbove dims b above →
    IsLawfulFrom dims b (a + 1) rest → address w p b ≡ a → Each (IsElsewhere p) (rows_behind w b above rest)
rest-elsewhere w dims b a above rest p h k e =
    Each-each (rows_behind w b above rest) (λ s l. other-address w b p s (λ q. omega (arith, l, q, e))) (addresses-from w dims b (a + 1) above rest h k)

pub rows-del_entries : (w dims b least : ℕ) (above : List ℕ) (e : Entries) (p : List ℤ) → IsAbove dims b above →
    IsLawfulFrom dims b least e → IsPointUnder w b above p →
    rows_behind w b above (del_entries w b e p) ≡ del (rows_behind w b above e) p
rows-del_entries w dims b least above end p h k i = refl
rows-del_entries w dims b least above (point a body v rest) p h k i =
    by_tests (a == address w p b) (same_digits body (digits_below w b p)) refl refl (rows-del_entries w dims b (a + 1) above rest p h k.3 i)
  where
    by_tests : (s t : Bool) → (a == address w p b) ≡ s → same_digits body (digits_below w b p) ≡ t →
        rows_behind w b above (del_entries w b rest p) ≡ del (rows_behind w b above rest) p →
        rows_behind w b above (cond s (cond t rest (point a body v rest)) (point a body v (del_entries w b rest p))) ≡
        del (row (map (coordinate w) (put_together b a above body)) v ∷ rows_behind w b above rest) p
    by_tests true true e f ih =
        let q : List ℤ = map (coordinate w) (put_together b a above body) in
        let same : same_point (map (coordinate w) (put_together b a above body)) p ≡ true =
        test_from_same q p (point-there w b a above body p i.under h.zeros i.back
        (sym (eqb-true a (address w p b) e)) (same_digits-true body (digits_below w b p) f)) in
        sym (ap (λ t. cond t (rows_behind w b above rest) (row q v ∷ del (rows_behind w b above rest) p)) same)
    by_tests true false e f ih =
        let q : List ℤ = map (coordinate w) (put_together b a above body) in
        sym (del-absent (row q v ∷ rows_behind w b above rest) p (
          elsewhere p (row q v) (λ s. not_false f (same_digits-refl body (digits_below w b p) (sym (point-body w dims b a above body h k.2) ∙ ap (digits_below w b) s))),
          rest-elsewhere w dims b a above rest p h k.3 (sym (eqb-true a (address w p b) e)),
        ))
    by_tests false t e f ih =
        let q : List ℤ = map (coordinate w) (put_together b a above body) in
        let other : IsElsewhere p (row q v) = other-address w b p (row q v)
        (λ s. not_false e (eq-eqb a (address w p b) (sym (point-address w dims b a v above body h k.2 k.1) ∙ s))) in
        ap {B = List Row} (λ t. row q v ∷ t) ih ∙ sym (ap (λ t. cond t (rows_behind w b above rest) (row q v ∷ del (rows_behind w b above rest) p)) other)
rows-del_entries w dims b least above (child a body c chain rest) p h k i =
    by_tests (a == address w p b) (same_digits body (digits_between w b c p)) refl refl
    (rows-del_entries w dims c 0 (put_together b a above body) chain p (above-child dims b c a above body k.3 h k.2 k.4) k.6)
    (rows-del_entries w dims b (a + 1) above rest p h k.7 i)
  where
    by_tests : (s t : Bool) → (a == address w p b) ≡ s → same_digits body (digits_between w b c p) ≡ t →
        (IsPointUnder w c (put_together b a above body) p →
        rows_behind w c (put_together b a above body) (del_entries w c chain p) ≡
        del (rows_behind w c (put_together b a above body) chain) p) →
        rows_behind w b above (del_entries w b rest p) ≡ del (rows_behind w b above rest) p →
        rows_behind w b above (cond s (cond t (merged_child a body c (del_entries w c chain p) rest)
        (child a body c chain rest)) (child a body c chain (del_entries w b rest p))) ≡
        del (rows_behind w c (put_together b a above body) chain ++ rows_behind w b above rest) p
    by_tests true true e f ic ir =
        let known : List ℕ = put_together b a above body in
        let u : IsPointUnder w c (put_together b a above body) p =
        record {
          back = i.back;
          under = child-there w b c a above body p k.3 i.under h.zeros
              (sym (eqb-true a (address w p b) e)) (same_digits-true body (digits_between w b c p) f);
        } in
        rows-merged w b a c above body (del_entries w c chain p) rest (h.long ∙ sym k.2.0)
        ∙ ap {B = List Row} (λ t. t ++ rows_behind w b above rest) (ic u)
        ∙ sym (del-front (rows_behind w c known chain) (rows_behind w b above rest) p (rest-elsewhere w dims b a above rest p h k.7 (sym (eqb-true a (address w p b) e))))
    by_tests true false e f ic ir =
        let known : List ℕ = put_together b a above body in
        sym (del-back (rows_behind w c known chain) (rows_behind w b above rest) p
        (Each-each (rows_behind w c known chain)
        (λ r q. elsewhere p r (λ s. not_false f
        (same_digits-refl body (digits_between w b c p) (sym q ∙ ap (digits_between w b c) s))))
        (child-bodies w dims b a c above body chain h k.2 k.3 k.4 k.6))
        ∙ ap {B = List Row} (λ t. rows_behind w c known chain ++ t)
        (del-absent (rows_behind w b above rest) p
        (rest-elsewhere w dims b a above rest p h k.7 (sym (eqb-true a (address w p b) e)))))
    by_tests false t e f ic ir =
        let known : List ℕ = put_together b a above body in
        ap {B = List Row} (λ t. rows_behind w c known chain ++ t) ir
        ∙ sym (del-back (rows_behind w c known chain) (rows_behind w b above rest) p
        (Each-each (rows_behind w c known chain)
        (λ r q. other-address w b p r (λ s. not_false e (eq-eqb a (address w p b) (sym q ∙ s))))
        (child-addresses w dims b a c above body chain h k.2 k.1 k.3 k.4 k.6)))

-- ---- lawfulness

least-lower : (dims b l m : ℕ) (e : Entries) → l ≤ m → IsLawfulFrom dims b m e → IsLawfulFrom dims b l e
least-lower dims b l m end h k = tt
least-lower dims b l m (point a body v rest) h k = (omega (arith, h, k.0), k.1, k.2, k.3, k.4)
least-lower dims b l m (child a body c chain rest) h k = (omega (arith, h, k.0), k.1, k.2, k.3, k.4, k.5, k.6, k.7)

abbrev whole-child : ℕ → ℕ → List ℕ → Entries → Entry
whole-child a c body chain = record { addr = a; body = body; what = node (record { level = c; chain = chain }) }

-- a child that is merged is one entry in front of the others
pub merged-front : (a c : ℕ) (body : List ℕ) (chain : Entries) →
    (x : Entry) × ((rest : Entries) → merged_child a body c chain rest ≡ in_front x.addr x.body x.what rest)
merged-front a c body end = (whole-child a c body end, λ rest. refl)
merged-front a c body (point d low v end) = (record { addr = a; body = put_together c d body low; what = value v }, λ rest. refl)
merged-front a c body (point d low v (point d' low' v' more)) = (whole-child a c body (point d low v (point d' low' v' more)), λ rest. refl)
merged-front a c body (point d low v (child d' low' e' chain' more)) = (whole-child a c body (point d low v (child d' low' e' chain' more)), λ rest. refl)
merged-front a c body (child d low e chain end) =
    (record { addr = a; body = put_together c d body low; what = node (record { level = e; chain = chain }) }, λ rest. refl)
merged-front a c body (child d low e chain (point d' low' v' more)) = (whole-child a c body (child d low e chain (point d' low' v' more)), λ rest. refl)
merged-front a c body (child d low e chain (child d' low' e' chain' more)) = (whole-child a c body (child d low e chain (child d' low' e' chain' more)), λ rest. refl)

count-front : (a : ℕ) (body : List ℕ) (o : What) (rest : Entries) → count (in_front a body o rest) ≡ suc (count rest)
count-front a body (value v) rest = refl
count-front a body (node n) rest = refl

count-merged : (a c : ℕ) (body : List ℕ) (chain rest : Entries) → count (merged_child a body c chain rest) ≡ suc (count rest)
count-merged a c body chain rest =
    let m = merged-front a c body chain in ap count (m.1 rest) ∙ count-front m.0.addr m.0.body m.0.what rest

-- at most one entry goes
pub count-del_entries : (w b : ℕ) (e : Entries) (p : List ℤ) → count e ≤ count (del_entries w b e p) + 1
count-del_entries w b end p = omega arith
count-del_entries w b (point a body v rest) p =
    by_tests (a == address w p b) (same_digits body (digits_below w b p)) (count-del_entries w b rest p)
  where
    by_tests : (s t : Bool) → count rest ≤ count (del_entries w b rest p) + 1 →
        suc (count rest) ≤ count (cond s (cond t rest (point a body v rest)) (point a body v (del_entries w b rest p))) + 1
    by_tests true true ih = omega arith
    by_tests true false ih = omega arith
    by_tests false t ih = omega (arith, ih)
count-del_entries w b (child a body c chain rest) p =
    by_tests (a == address w p b) (same_digits body (digits_between w b c p)) (count-del_entries w b rest p)
  where
    by_tests : (s t : Bool) → count rest ≤ count (del_entries w b rest p) + 1 →
        suc (count rest) ≤ count (cond s
        (cond t (merged_child a body c (del_entries w c chain p) rest) (child a body c chain rest))
        (child a body c chain (del_entries w b rest p))) + 1
    by_tests true true ih = omega (arith, count-merged a c body (del_entries w c chain p) rest)
    by_tests true false ih = omega arith
    by_tests false t ih = omega (arith, ih)

body-joined : (dims b c d : ℕ) (body low : List ℕ) → c < b → HasZerosFrom c body → IsBody dims b body → IsBody dims c low → IsBody dims b (put_together c d body low)
body-joined dims b c d body low l z h k =
    (length-put_together c d body low (h.0 ∙ sym k.0) ∙ h.0, put_together-small b c d body low l z h.1 k.1)

merged-lawful : (dims b least a c : ℕ) (body : List ℕ) (chain rest : Entries) → least ≤ a → a < 2 ^ dims →
    IsBody dims b body → c < b → HasZerosFrom c body → 1 ≤ count chain → IsLawfulFrom dims c 0 chain →
    IsLawfulFrom dims b (a + 1) rest → IsLawfulFrom dims b least (merged_child a body c chain rest)
merged-lawful dims b least a c body end rest l s h m z n k r = absurd (omega (arith, n))
merged-lawful dims b least a c body (point d low v end) rest l s h m z n k r =
    (l, s, body-joined dims b c d body low m z h k.2, r, k.4)
merged-lawful dims b least a c body (point d low v (point d' low' v' more)) rest l s h m z n k r = (l, s, h, m, z, omega arith, k, r)
merged-lawful dims b least a c body (point d low v (child d' low' e' chain' more)) rest l s h m z n k r = (l, s, h, m, z, omega arith, k, r)
merged-lawful dims b least a c body (child d low e chain end) rest l s h m z n k r =
    (l, s, body-joined dims b c d body low m z h k.2, omega (arith, m, k.3), zeros-put_together c e d body low k.3 z k.4, k.5, k.6, r)
merged-lawful dims b least a c body (child d low e chain (point d' low' v' more)) rest l s h m z n k r = (l, s, h, m, z, omega arith, k, r)
merged-lawful dims b least a c body (child d low e chain (child d' low' e' chain' more)) rest l s h m z n k r = (l, s, h, m, z, omega arith, k, r)

pub lawful-del_entries : (w dims b least : ℕ) (e : Entries) (p : List ℤ) → IsLawfulFrom dims b least e → IsLawfulFrom dims b least (del_entries w b e p)
lawful-del_entries w dims b least end p k = tt
lawful-del_entries w dims b least (point a body v rest) p k =
    by_tests (a == address w p b) (same_digits body (digits_below w b p)) (lawful-del_entries w dims b (a + 1) rest p k.3)
  where
    by_tests : (s t : Bool) → IsLawfulFrom dims b (a + 1) (del_entries w b rest p) →
        IsLawfulFrom dims b least (cond s (cond t rest (point a body v rest)) (point a body v (del_entries w b rest p)))
    by_tests true true ih = least-lower dims b least (a + 1) rest (omega (arith, k.0)) k.3
    by_tests true false ih = k
    by_tests false t ih = (k.0, k.1, k.2, ih, k.4)
lawful-del_entries w dims b least (child a body c chain rest) p k =
    by_tests (a == address w p b) (same_digits body (digits_between w b c p)) (lawful-del_entries w dims c 0 chain p k.6) (lawful-del_entries w dims b (a + 1) rest p k.7)
  where
    by_tests : (s t : Bool) → IsLawfulFrom dims c 0 (del_entries w c chain p) →
        IsLawfulFrom dims b (a + 1) (del_entries w b rest p) →
        IsLawfulFrom dims b least (cond s
        (cond t (merged_child a body c (del_entries w c chain p) rest) (child a body c chain rest))
        (child a body c chain (del_entries w b rest p)))
    by_tests true true ic ir = merged-lawful dims b least a c body (del_entries w c chain p) rest k.0 k.1 k.2 k.3 k.4
        (omega (arith, k.5, count-del_entries w c chain p)) ic k.7
    by_tests true false ic ir = k
    by_tests false t ic ir = (k.0, k.1, k.2, k.3, k.4, k.5, k.6, ir)

-- ---- trees

root-lawful : (w dims level : ℕ) (e : Entries) → level ≡ w - 1 → IsLawfulFrom dims level 0 e → IsLawful w dims (root_of level e)
root-lawful w dims level end n k = tt
root-lawful w dims level (point a body v rest) n k = (n, omega arith, k)
root-lawful w dims level (child a body c chain rest) n k = (n, omega arith, k)

root-rows : (w dims level : ℕ) (e : Entries) → rows w dims (root_of level e) ≡ rows_behind w level (replicate dims 0) e
root-rows w dims level end = refl
root-rows w dims level (point a body v rest) = refl
root-rows w dims level (child a body c chain rest) = refl

-- a lawful tree without a point is lawful
pub lawful-del_tree : (w dims : ℕ) (t : Option PlainNode) (p : List ℤ) → IsLawful w dims t → IsLawful w dims (del_tree w dims t p)
lawful-del_tree w dims None p h = tt
lawful-del_tree w dims (Some n) p h =
    root-lawful w dims n.level (del_entries w n.level n.chain p) h.0 (lawful-del_entries w dims n.level 0 n.chain p h.2)

-- its rows are those of the tree without the row at the point
pub rows-del_tree : (w dims : ℕ) (t : Option PlainNode) (p : List ℤ) → 1 ≤ w → is_point w dims p ≡ true →
    IsLawful w dims t → rows w dims (del_tree w dims t p) ≡ del (rows w dims t) p
rows-del_tree w dims None p l i h = refl
rows-del_tree w dims (Some n) p l i h =
    let above : IsAbove dims n.level (replicate dims 0) = record { long = length-replicate dims 0; zeros = zeros_known n.level dims } in
    let long : length p ≡ dims = eqb-true (length p) dims (and_parts _ _ i).0 in
    let top : w ≡ n.level + 1 = omega (arith, h.0, l) in
    let under : from_place w (offsets w p) ≡ from_place w (replicate dims 0) = fits-above w p l (and_parts _ _ i).1 ∙ ap (λ d. from_place w (replicate d 0)) long in
    root-rows w dims n.level (del_entries w n.level n.chain p)
    ∙ rows-del_entries w dims n.level 0 (replicate dims 0) n.chain p above h.2
    (record {
      back = fits-back w p (and_parts _ _ i).1;
      under = subst (λ k. from_place k (offsets w p) ≡ from_place k (replicate dims 0)) top under;
    })

-- the shape of a table without a row is the tree without the point
pub shape-del : (w dims : ℕ) (table : List Row) (p : List ℤ) → 1 ≤ w → is_point w dims p ≡ true →
    IsTable w dims table → shape w (del table p) ≡ del_tree w dims (shape w table) p
shape-del w dims table p l i h =
    let s : IsLawful w dims (shape w table) × (rows w dims (shape w table) ≡ table) = table-shape w dims table l h in
    ap (λ t. shape w (del t p)) (sym s.1)
    ∙ ap (shape w) (sym (rows-del_tree w dims (shape w table) p l i s.0))
    ∙ shape-rows w dims (del_tree w dims (shape w table) p) (lawful-del_tree w dims (shape w table) p s.0)

-- ---- a move, as taking away and putting

-- where the first point has a row and the second has none, a move takes the row away and puts its value at the
-- second. These are the conditions of the law of putting, and the tree that it starts from
pub record IsMove (w dims : ℕ) (table : List Row) (from to : List ℤ) (v : ℕ) : Type 0 where
  pub small : is_value v ≡ true
  pub between : IsTable w dims (del table from)
  pub free : find (del table from) to ≡ None
  pub tree : shape w (del table from) ≡ del_tree w dims (shape w table) from
  pub moved : move w table from to ≡ put w (del table from) to v

pub move-steps : (w dims : ℕ) (table : List Row) (from to : List ℤ) (v : ℕ) → 1 ≤ w → is_point w dims from ≡ true →
    IsTable w dims table → find table to ≡ None → find table from ≡ Some v → IsMove w dims table from to v
move-steps w dims table from to v l i h n f = record {
  small = found-value table from v (and_parts _ _ (and_parts _ _ h).1).1 f;
  between = is_table-del w dims table from h;
  free = find-del w table from to (and_parts _ _ h).0 ∙ ap (λ o. cond (same_point from to) None o) n ∙ none (same_point from to);
  tree = shape-del w dims table from l i h;
  moved = ap (λ o. cond (is_some o) table (move_value w table from to (find table from))) n ∙ ap (move_value w table from to) f;
}
  where
    none : (b : Bool) → ◌≡◌ {A = Option ℕ} (cond b None None) None
    none true = refl
    none false = refl

-- and else it leaves the table
pub move-none : (w : ℕ) (table : List Row) (from to : List ℤ) → find table from ≡ None → move w table from to ≡ table
move-none w table from to n = ap (λ o. cond (has table to) table (move_value w table from to o)) n ∙ same (has table to)
  where
    same : (b : Bool) → cond b table table ≡ table
    same true = refl
    same false = refl

pub move-taken : (w : ℕ) (table : List Row) (from to : List ℤ) → has table to ≡ true → move w table from to ≡ table
move-taken w table from to n = ap (λ b. cond b table (move_value w table from to (find table from))) n
