-- What is read of lawful tables, with lawful children, is lawful.
use Rattle.std.proofs.Common.{◌≡◌, ℕ, suc, ◌+◌, ◌-◌, ◌*◌, ◌/◌, ◌%◌, ◌^◌, ◌<◌, ◌≤◌, refl, sym, ◌∙◌, ap, arith, List, []}
use Rattle.std.proofs.Common.{◌∷◌, ◌++◌, length, map, take, drop, Bool, true, false, leb-true, ltb-true}
use Rattle.std.specs.Prelude.{if◌then◌else◌, ◌==◌, nat_le, count_by}
use Rattle.std.specs.List.{AllByRecursion as Each, list_all}
use Rattle.std.proofs.lemmas.Nat.{pow-add}
use Rattle.std.proofs.Math.Nat.{mul-add-mod_self_right}
use Rattle.ph_specs.specs.declared.Kind.{Kind}
use Rattle.ph_specs.specs.declared.Kind.TheVariants.{Points, Boxes}
use Rattle.ph_specs.specs.Coordinate.{coordinate, is_box}
use Rattle.ph_specs.specs.KindRows.{row_fits}
use Rattle.ph_specs.specs.Node.{PlainNode}
use Rattle.ph_specs.specs.TreeRows.{count, put_together, rows_behind}
use Rattle.ph_model.specs.Lawful.{IsBody, IsLawfulFrom, HasZerosFrom, IsAbove}
use Rattle.ph_specs.specs.Record.{First, Read, read_point, read_child, read, read_linear, read_cube, parts, widths, tables_in, rises_from, filled}
use Rattle.ph_specs.specs.Load.{Place, known, level_fits, least_entries, places_under, box_fits, boxes_fit}
use Rattle.ph_specs.proofs.lemmas.Numbers.{Fit}
use Rattle.ph_model.proofs.lemmas.RowsBehind.{Each-append}
use Rattle.ph_specs.proofs.lemmas.Tests.{and-parts}
use Rattle.ph_model.proofs.lemmas.Counted.{kids}
use Rattle.ph_specs.proofs.lemmas.Places.{front}
use Rattle.ph_model.proofs.lemmas.TablesAgain.{many_fields, linear-addrs-fit, linear-bodies, cube-kinds, cube-bodies}
use Rattle.ph_specs.proofs.laws.ReadBack.{fields_of}

-- ---- what is read

-- what is read has addresses that rise from the least one on, and bodies
abbrev pub AreReads : ℕ → ℕ → ℕ → List Read → Type 0
AreReads dims level least [] = Unit {0}
AreReads dims level least (read_point a body ∷ rs) =
    (least ≤ a) × (a < 2 ^ dims) × IsBody dims level body × AreReads dims level (a + 1) rs
AreReads dims level least (read_child a body ∷ rs) =
    (least ≤ a) × (a < 2 ^ dims) × IsBody dims level body × AreReads dims level (a + 1) rs

reads-from : (dims level least more : ℕ) (rs : List Read) → least ≤ more → AreReads dims level more rs → AreReads dims level least rs
reads-from dims level least more [] l h = tt
reads-from dims level least more (read_point a body ∷ rs) l h = (omega (arith, l, h.0), h.1, h.2, h.3)
reads-from dims level least more (read_child a body ∷ rs) l h = (omega (arith, l, h.0), h.1, h.2, h.3)

linear-reads : (dims level least : ℕ) (ks addrs : List ℕ) (bs : List (List ℕ)) → rises_from least addrs ≡ true →
    Each (λ a. a < 2 ^ dims) addrs → Each (IsBody dims level) bs → AreReads dims level least (read_linear ks addrs bs)
linear-reads dims level least [] addrs bs r h k = tt
linear-reads dims level least (x ∷ ks) [] bs r h k = tt
linear-reads dims level least (x ∷ ks) (a ∷ addrs) [] r h k = tt
linear-reads dims level least (x ∷ ks) (a ∷ addrs) (b ∷ bs) r h k =
    let p : (nat_le least a ≡ true) × (rises_from (a + 1) addrs ≡ true) = and-parts (nat_le least a) (rises_from (a + 1) addrs) r in
    by_kind (x == 1) (leb-true least a p.0) (linear-reads dims level (a + 1) ks addrs bs p.1 h.1 k.1)
  where
    by_kind : (t : Bool) → least ≤ a → AreReads dims level (a + 1) (read_linear ks addrs bs) → AreReads dims level least (read t a b ∷ read_linear ks addrs bs)
    by_kind true l i = (l, h.0, k.0, i)
    by_kind false l i = (l, h.0, k.0, i)

cube-reads : (dims level a : ℕ) (ks : List ℕ) (bs : List (List ℕ)) → a + length ks ≤ 2 ^ dims → Each (IsBody dims level) bs → AreReads dims level a (read_cube a ks bs)
cube-reads dims level a [] bs l k = tt
cube-reads dims level a (x ∷ ks) [] l k = tt
cube-reads dims level a (x ∷ ks) (b ∷ bs) l k =
    by_kind (x == 0) (x == 2) (omega (arith, l)) (cube-reads dims level (a + 1) ks bs (omega (arith, l)) k.1)
  where
    by_kind : (z t : Bool) → a < 2 ^ dims → AreReads dims level (a + 1) (read_cube (a + 1) ks bs) →
        AreReads dims level a (if z then read_cube (a + 1) ks bs else read t a b ∷ read_cube (a + 1) ks bs)
    by_kind true t m i = reads-from dims level a (a + 1) (read_cube (a + 1) ks bs) (omega arith) i
    by_kind false true m i = (omega arith, m, k.0, i)
    by_kind false false m i = (omega arith, m, k.0, i)

pub tables-reads : (cube : Bool) (dims : ℕ) (f : First) (xs : List ℕ) → length xs ≡ many_fields cube dims f →
    Fit (fields_of (widths cube dims f) xs) → (tables_in cube dims f xs).is_lawful ≡ true →
    AreReads dims f.level 0 (tables_in cube dims f xs).entries
tables-reads true dims f xs l h t =
    cube-reads dims f.level 0 (take (2 ^ dims) xs) (parts (2 ^ dims) dims (drop (2 ^ dims) xs)) (omega (arith, cube-kinds dims f xs l h)) (cube-bodies dims f xs l h)
tables-reads false dims f xs l h t =
    let a : ((count_by (λ k. k == 1) (take f.entries xs) == f.children) ≡ true) × (rises_from 0 (take f.entries (drop f.entries xs)) ≡ true) = and-parts _ _ t in
    linear-reads dims f.level 0 (take f.entries xs) (take f.entries (drop f.entries xs))
    (parts f.entries dims (drop (f.entries + f.entries) xs)) a.1 (linear-addrs-fit dims f xs l h)
    (linear-bodies dims f xs l h)

-- ---- nodes at places

-- a node that may stand at a place, lawful, whose rows go with the kind
pub record Stands (kind : Kind) (width dims : ℕ) (place : Place) (n : PlainNode) : Type 0 where
  pub at_level : level_fits width place n.level ≡ true
  pub many : least_entries place ≤ count n.chain
  pub zeros : HasZerosFrom n.level (known dims place)
  pub lawful : IsLawfulFrom dims n.level 0 n.chain
  pub boxes : Each (λ r. row_fits kind r ≡ true) (rows_behind width n.level (known dims place) n.chain)

-- a node for each place
abbrev pub AllStand : Kind → ℕ → ℕ → List Place → List PlainNode → Type 0
AllStand kind width dims [] [] = Unit {0}
AllStand kind width dims [] (n ∷ ns) = ⊥
AllStand kind width dims (p ∷ ps) [] = ⊥
AllStand kind width dims (p ∷ ps) (n ∷ ns) = Stands kind width dims p n × AllStand kind width dims ps ns

pub split-stand : (kind : Kind) (width dims : ℕ) (ps qs : List Place) (ns : List PlainNode) →
    AllStand kind width dims (ps ++ qs) ns → (cs : List PlainNode) × (ms : List PlainNode) × (ns ≡ cs ++ ms) ×
    AllStand kind width dims ps cs × AllStand kind width dims qs ms
split-stand kind width dims [] qs ns h = ([], ns, refl, tt, h)
split-stand kind width dims (p ∷ ps) qs [] h = absurd h
split-stand kind width dims (p ∷ ps) qs (n ∷ ns) h =
    let i : (cs : List PlainNode) × (ms : List PlainNode) × (ns ≡ cs ++ ms) × AllStand kind width dims ps cs ×
    AllStand kind width dims qs ms = split-stand kind width dims ps qs ns h.1 in
    (n ∷ i.0, i.1, ap {B = List PlainNode} (λ t. n ∷ t) i.2, (h.0, i.3), i.4)

pub length-stand : (kind : Kind) (width dims level : ℕ) (above : List ℕ) (rs : List Read) (cs : List PlainNode) →
    AllStand kind width dims (places_under level above rs) cs → length cs ≡ kids rs
length-stand kind width dims level above [] [] h = refl
length-stand kind width dims level above [] (c ∷ cs) h = absurd h
length-stand kind width dims level above (read_point a body ∷ rs) cs h =
    length-stand kind width dims level above rs cs h
length-stand kind width dims level above (read_child a body ∷ rs) [] h = absurd h
length-stand kind width dims level above (read_child a body ∷ rs) (c ∷ cs) h =
    ap suc (length-stand kind width dims level above rs cs h.1)

-- zeros of what is known behind an entry are zeros of its body
zeros-one : (b c x bit y : ℕ) → c < b → x % 2 ^ (b + 1) ≡ 0 → (x + bit * 2 ^ b + y) % 2 ^ (c + 1) ≡ 0 → y % 2 ^ (c + 1) ≡ 0
zeros-one b c x bit y l h z =
    let m : b ≡ (c + 1) + (b - (c + 1)) = omega (arith, l) in
    let p : 2 ^ b ≡ 2 ^ (c + 1) * 2 ^ (b - (c + 1)) = ap (λ t. 2 ^ t) m ∙ pow-add 2 (c + 1) (b - (c + 1)) in
    let e : (x / 2 ^ (b + 1) * 2 + bit) * 2 ^ b ≡ (x / 2 ^ (b + 1) * 2 + bit) * (2 ^ (c + 1) * 2 ^ (b - (c + 1))) = ap (λ t. (x / 2 ^ (b + 1) * 2 + bit) * t) p in
    let f : x + bit * 2 ^ b + y ≡ (x / 2 ^ (b + 1) * 2 + bit) * 2 ^ b + y = front b x bit y h in
    let g : x + bit * 2 ^ b + y ≡ (x / 2 ^ (b + 1) * 2 + bit) * 2 ^ (b - (c + 1)) * 2 ^ (c + 1) + y = omega (arith, e, f) in
    sym (mul-add-mod_self_right ((x / 2 ^ (b + 1) * 2 + bit) * 2 ^ (b - (c + 1))) (2 ^ (c + 1)) y) ∙ sym (ap (λ t. t % 2 ^ (c + 1)) g) ∙ z

zeros-body : (dims b c a : ℕ) (above body : List ℕ) → c < b → length above ≡ length body → HasZerosFrom b above →
    HasZerosFrom c (put_together b a above body) → HasZerosFrom c body
zeros-body dims b c a [] [] l e h z = tt
zeros-body dims b c a [] (y ∷ body) l e h z = absurd (omega (arith, e))
zeros-body dims b c a (x ∷ above) [] l e h z = tt
zeros-body dims b c a (x ∷ above) (y ∷ body) l e h z =
    (zeros-one b c x (a / 2 ^ length above % 2) y l h.0 z.0, zeros-body dims b c a above body l (omega (arith, e)) h.1 z.1)

-- ---- the node

-- entries that are read, with values of a word and children that stand at the places, are lawful
pub filled-lawful : (kind : Kind) (width dims level least : ℕ) (above : List ℕ) (rs : List Read) (vs : List ℕ)
    (cs : List PlainNode) → IsAbove dims level above → AreReads dims level least rs → Each (λ v. v < 2 ^ 64) vs →
    AllStand kind width dims (places_under level above rs) cs → IsLawfulFrom dims level least (filled rs vs cs)
filled-lawful kind width dims level least above [] vs cs i h s k = tt
filled-lawful kind width dims level least above (read_point a body ∷ rs) [] cs i h s k = tt
filled-lawful kind width dims level least above (read_point a body ∷ rs) (v ∷ vs) cs i h s k =
    (h.0, h.1, h.2, filled-lawful kind width dims level (a + 1) above rs vs cs i h.3 s.1 k, s.0)
filled-lawful kind width dims level least above (read_child a body ∷ rs) vs [] i h s k = tt
filled-lawful kind width dims level least above (read_child a body ∷ rs) vs (c ∷ cs) i h s k =
    let l : c.level < level = ltb-true c.level level k.0.at_level in (
      h.0,
      h.1,
      h.2,
      l,
      zeros-body dims level c.level a above body l (i.long ∙ sym h.2.0) i.zeros k.0.zeros,
      k.0.many,
      k.0.lawful,
      filled-lawful kind width dims level (a + 1) above rs vs cs i h.3 s k.1,
    )

-- their rows go with the kind
pub filled-boxes : (kind : Kind) (width dims level : ℕ) (above : List ℕ) (rs : List Read) (vs : List ℕ)
    (cs : List PlainNode) → boxes_fit kind width level above rs ≡ true →
    AllStand kind width dims (places_under level above rs) cs →
    Each (λ r. row_fits kind r ≡ true) (rows_behind width level above (filled rs vs cs))
filled-boxes kind width dims level above [] vs cs h k = tt
filled-boxes kind width dims level above (read_point a body ∷ rs) [] cs h k = tt
filled-boxes Points width dims level above (read_point a body ∷ rs) (v ∷ vs) cs h k =
    (refl, filled-boxes Points width dims level above rs vs cs refl k)
filled-boxes Boxes width dims level above (read_point a body ∷ rs) (v ∷ vs) cs h k =
    let p : (is_box (map (coordinate width) (put_together level a above body)) ≡ true) ×
    (list_all (box_fits width level above) rs ≡ true) =
    and-parts (is_box (map (coordinate width) (put_together level a above body)))
    (list_all (box_fits width level above) rs) h in
    (p.0, filled-boxes Boxes width dims level above rs vs cs p.1 k)
filled-boxes kind width dims level above (read_child a body ∷ rs) vs [] h k = tt
filled-boxes Points width dims level above (read_child a body ∷ rs) vs (c ∷ cs) h k =
    Each-append (λ r. row_fits Points r ≡ true) (rows_behind width c.level (put_together level a above body) c.chain)
    (rows_behind width level above (filled rs vs cs)) k.0.boxes (filled-boxes Points width dims level above rs vs cs refl k.1)
filled-boxes Boxes width dims level above (read_child a body ∷ rs) vs (c ∷ cs) h k =
    Each-append (λ r. row_fits Boxes r ≡ true) (rows_behind width c.level (put_together level a above body) c.chain)
    (rows_behind width level above (filled rs vs cs)) k.0.boxes (filled-boxes Boxes width dims level above rs vs cs h k.1)
