-- What a descent of two trees lists where two parts meet, and how many nodes it opens there.
use Rattle.std.proofs.Common.{◌≡◌, ◌≢◌, ℕ, ◌+◌, ◌*◌, ◌/◌, ◌%◌, ◌^◌, ◌<◌, ◌≤◌, Bool, true, false, List, [], ◌∷◌, ◌++◌}
use Rattle.std.proofs.Common.{length, cond, inl, inr, refl, sym, ◌∙◌, ap, subst, arith}
use Rattle.std.specs.Prelude.{ℤ, Some, None, map, take, is_some, if◌then◌else◌}
use Rattle.std.specs.List.{AllByRecursion as Each}
use Rattle.std.proofs.lemmas.Bool.{cases_lt}
use Rattle.ph_specs.specs.Coordinate.{coordinate}
use Rattle.ph_specs.specs.Table.{Row, row, has}
use Rattle.ph_specs.specs.ZOrder.{before}
use Rattle.ph_specs.proofs.laws.Order.{before_irrefl}
use Rattle.ph_specs.proofs.laws.Put.{test_from_same}
use Rattle.ph_specs.specs.Node.{PlainNode}
use Rattle.ph_model.specs.EntryList.{Entry, What, value, node, entries}
use Rattle.ph_model.specs.PutTree.{body_address, body_address_from}
use Rattle.ph_specs.specs.Shape.{row_address}
use Rattle.ph_specs.specs.WorkSets.{Placed}
use Rattle.ph_model.proofs.lemmas.Joined.{from_place, number_at}
use Rattle.ph_specs.proofs.lemmas.Members.{Each-each}
use Rattle.ph_digits.proofs.Cuts.{other_address}
use Rattle.ph_digits.proofs.Tops.{top-lower}
use Rattle.ph_model.specs.Combined.{chosen, seen_nodes}
use Rattle.ph_set.specs.Meeting.{kept, work, kept_of, work_of, IsParting}
use Rattle.ph_set.specs.declared.plan.Plan.{Plan}
use Rattle.ph_set.specs.Parts.{IsPart, height, part_rows, part_nodes, rows_in, nodes_in, rows_on, nodes_on, stretch}
use Rattle.ph_model.proofs.laws.Combined.{AreParted, combined-left}
use Rattle.ph_set.proofs.Parting.{IsRowAt, part-at, parted-by}
use Rattle.ph_set.proofs.Missed.{part-missed}
use Rattle.ph_set.proofs.Sights.{seen-none}
use Rattle.ph_set.proofs.Walking.{whole-rows, whole-nodes, stretch-none}

-- ---- addresses of digits

pub body-number : (s b : ℕ) (xs : List ℕ) → body_address_from s b xs ≡ number_at s b xs
body-number s b [] = refl
body-number s b (x ∷ xs) = body-number (s * 2 + x / 2 ^ b % 2) b xs

-- the address of known digits where the number of dimensions was read
pub address-known : (place : ℕ) {dims d a : ℕ} (known : List ℕ) → dims ≡ d → a ≡ body_address place (take dims known) → a ≡ body_address place (take d known)
address-known place {a = a} known same at = subst (λ k. a ≡ body_address place (take k known)) same at

-- ---- two parts with no point in common

module _ (p : Plan) (d : ℕ) (dx dy : List ℕ) (ox oy : What) (h : IsPart p.width d dx ox) (k : IsPart p.width d dy oy) where
  abbrev xs : List Row
  xs = part_rows p.width dx ox

  abbrev ys : List Row
  ys = part_rows p.width dy oy

  module _ (t : ℕ) (q : IsParting (height ox) (height oy) dx dy (Some t)) where
    inside : t < p.width
    inside = top-lower d p.width t dx dy (h.long, h.small) (k.long, k.small) q.0

    xs-at : Each (IsRowAt p.width t (number_at 0 t dx) dx) xs
    xs-at = part-at p.width d t dx dx ox h q.1 refl

    ys-at : Each (IsRowAt p.width t (number_at 0 t dy) dx) ys
    ys-at = part-at p.width d t dx dy oy k q.2 (sym q.0.agree)

    pub apart-first : body_address t dx < body_address t dy → AreParted p.width xs ys
    apart-first l =
        parted-by p.width t (number_at 0 t dy) dx xs ys inside
        (Each-each xs (λ r u. (
          u.under,
          (let e : row_address p.width t r ≡ number_at 0 t dx = u.address in
              omega (arith, e, l, body-number 0 t dx, body-number 0 t dy)),
        )) xs-at)
        (Each-each ys (λ r u. (u.under, (let e : row_address p.width t r ≡ number_at 0 t dy = u.address in omega (arith, e)))) ys-at)

    pub apart-second : body_address t dy ≤ body_address t dx → AreParted p.width ys xs
    apart-second l =
        let n : body_address t dx ≢ body_address t dy = other_address t dx dy (h.long ∙ sym k.long) q.0.agree q.0.differ in
        parted-by p.width t (number_at 0 t dx) dx ys xs inside
        (Each-each ys (λ r u. (
          u.under,
          (let e : row_address p.width t r ≡ number_at 0 t dy = u.address in
              omega (arith, e, l, n, body-number 0 t dx, body-number 0 t dy)),
        )) ys-at)
        (Each-each xs (λ r u. (u.under, (let e : row_address p.width t r ≡ number_at 0 t dx = u.address in omega (arith, e)))) xs-at)

    pub apart-work : seen_nodes p.width p.left [] (part_nodes p.width dx ox) + seen_nodes p.width p.right [] (part_nodes p.width dy oy) ≡ work_of p dx ox dy oy
    apart-work =
        let n : body_address t dx ≢ body_address t dy = other_address t dx dy (h.long ∙ sym k.long) q.0.agree q.0.differ in
        let ns = part_nodes p.width dx ox in
        let ms = part_nodes p.width dy oy in
        let a : seen_nodes p.width p.left ys ns ≡ seen_nodes p.width p.left [] ns = seen-none p.width p.left ys ns
        (part-missed p.width d t dx ox h q.1 ys
        (Each-each ys (λ r u. λ e. n (body-number 0 t dx ∙ sym e ∙ u.address ∙ sym (body-number 0 t dy))) ys-at)) in
        let b : seen_nodes p.width p.right xs ms ≡ seen_nodes p.width p.right [] ms = seen-none p.width p.right xs ms
        (part-missed p.width d t dy oy k q.2 xs
        (Each-each xs (λ r u. λ e. n (body-number 0 t dx ∙ sym u.address ∙ e ∙ sym (body-number 0 t dy))) xs-at)) in
        omega (arith, a, b)

-- ---- all entries of two nodes at one level

module _ (p : Plan) (dx dz : List ℕ) (a b : PlainNode) where
  abbrev left-rows : ℕ → List Row
  left-rows i = rows_on p.width a.level dx (entries a) i

  abbrev right-rows : ℕ → List Row
  right-rows j = rows_on p.width b.level dz (entries b) j

  abbrev left-nodes : ℕ → List Placed
  left-nodes i = nodes_on p.width a.level dx (entries a) i

  abbrev right-nodes : ℕ → List Placed
  right-nodes j = nodes_on p.width b.level dz (entries b) j

  pub sides-start : kept p (left-rows 0) (right-rows 0) ≡ kept_of p dx (node a) dz (node b)
  sides-start =
      ap (λ t. kept p t (right-rows 0)) (whole-rows p.width dx a (length (entries a)) refl)
      ∙ ap (kept p (part_rows p.width dx (node a))) (whole-rows p.width dz b (length (entries b)) refl)

  pub sides-work : work p (left-rows 0) (left-nodes 0) (right-rows 0) (right-nodes 0) ≡ work_of p dx (node a) dz (node b)
  sides-work =
      let x = whole-rows p.width dx a (length (entries a)) refl in
      let y = whole-rows p.width dz b (length (entries b)) refl in
      let u = whole-nodes p.width dx a (length (entries a)) refl in
      let v = whole-nodes p.width dz b (length (entries b)) refl in
      ap (λ t. work p t (left-nodes 0) (right-rows 0) (right-nodes 0)) x
      ∙ ap (λ t. work p (part_rows p.width dx (node a)) t (right-rows 0) (right-nodes 0)) u
      ∙ ap (λ t. work p (part_rows p.width dx (node a)) (part_nodes p.width dx (node a)) t (right-nodes 0)) y
      ∙ ap (λ t. work p (part_rows p.width dx (node a)) (part_nodes p.width dx (node a)) (part_rows p.width dz (node b)) t) v

  -- where all entries of one of them are passed
  pub sides-end : (i j : ℕ) → (i < length (entries a) → length (entries b) ≤ j)
      → kept p (left-rows i) (right-rows j) ≡ chosen p.left (left-rows i) ++ chosen p.right (right-rows j)
  sides-end i j done =
      elim (cases_lt i (length (entries a))) [
        | inl l ↦
            let e : right-rows j ≡ [] = ap (rows_in p.width b.level dz) (stretch-none j (length (entries b)) (entries b) (done l)) in
            ap (kept p (left-rows i)) e ∙ combined-left p.width p.left p.both p.right (left-rows i)
            ∙ sym (nothing (chosen p.left (left-rows i)))
            ∙ ap (λ t. chosen p.left (left-rows i) ++ t) (sym (none p.right)) ∙ ap (λ t. chosen p.left (left-rows i) ++ chosen p.right t) (sym e)
        | inr l ↦
            let e : left-rows i ≡ [] = ap (rows_in p.width a.level dx) (stretch-none i (length (entries a)) (entries a) l) in
            ap (λ t. kept p t (right-rows j)) e ∙ ap (λ t. t ++ chosen p.right (right-rows j)) (sym (none p.left))
            ∙ ap (λ t. chosen p.left t ++ chosen p.right (right-rows j)) (sym e)
      ]
    where
      nothing : (xs : List Row) → xs ++ [] ≡ xs
      nothing [] = refl
      nothing (y ∷ ys) = ap {B = List Row} (λ t. y ∷ t) (nothing ys)

      none : (keep : Bool) → chosen keep [] ≡ []
      none true = refl
      none false = refl

  pub sides-end-work : (i j : ℕ) → (i < length (entries a) → length (entries b) ≤ j)
      → seen_nodes p.width p.left [] (left-nodes i) + seen_nodes p.width p.right [] (right-nodes j) ≡ work p (left-rows i) (left-nodes i) (right-rows j) (right-nodes j)
  sides-end-work i j done =
      elim (cases_lt i (length (entries a))) [
        | inl l ↦
            let e : stretch j (length (entries b)) (entries b) ≡ [] = stretch-none j (length (entries b)) (entries b) (done l) in
            let u : seen_nodes p.width p.left (right-rows j) (left-nodes i) ≡ seen_nodes p.width p.left [] (left-nodes i) =
            ap (λ t. seen_nodes p.width p.left (rows_in p.width b.level dz t) (left-nodes i)) e in
            let v : (rows : List Row) → seen_nodes p.width p.right rows (right-nodes j) ≡ 0 =
            λ rows. ap (λ t. seen_nodes p.width p.right rows (nodes_in p.width b.level dz t)) e in
            omega (arith, u, v (left-rows i), v [])
        | inr l ↦
            let e : stretch i (length (entries a)) (entries a) ≡ [] = stretch-none i (length (entries a)) (entries a) l in
            let u : seen_nodes p.width p.right (left-rows i) (right-nodes j) ≡ seen_nodes p.width p.right [] (right-nodes j) =
            ap (λ t. seen_nodes p.width p.right (rows_in p.width a.level dx t) (right-nodes j)) e in
            let v : (rows : List Row) → seen_nodes p.width p.left rows (left-nodes i) ≡ 0 =
            λ rows. ap (λ t. seen_nodes p.width p.left rows (nodes_in p.width a.level dx t)) e in
            omega (arith, u, v (right-rows j), v [])
      ]

-- the nodes below the entries from one place on, where the number of entries was read
pub rest-seen : (w : ℕ) (keep : Bool) (level : ℕ) (ds : List ℕ) (es : List Entry) (i last : ℕ) → last ≡ length es →
    seen_nodes w keep [] (nodes_in w level ds (stretch i last es)) ≡ seen_nodes w keep [] (nodes_on w level ds es i)
rest-seen w keep level ds es i last read = ap (λ k. seen_nodes w keep [] (nodes_in w level ds (stretch i k es))) read

-- ---- two rows at one point

zero-from : (xs : List ℕ) → from_place 0 xs ≡ xs
zero-from [] = refl
zero-from (x ∷ xs) = let e : x / 2 ^ 0 ≡ x = omega arith in ap (λ t. t ∷ from_place 0 xs) e ∙ ap {B = List ℕ} (λ t. x ∷ t) (zero-from xs)

pub both-values : (p : Plan) (dx dy : List ℕ) (v u : ℕ) → IsParting 0 0 dx dy None → kept_of p dx (value v) dy (value u) ≡ chosen p.both (part_rows p.width dx (value v))
both-values p dx dy v u q =
    let same : dx ≡ dy = sym (zero-from dx) ∙ q 0 (omega arith) (omega arith) ∙ zero-from dy in
    ap (λ t. kept_of p dx (value v) t (value u)) (sym same) ∙ at_point (map (coordinate p.width) dx)
  where
    none : (keep : Bool) (b : Bool) (r : Row) → b ≡ false → chosen keep (cond b (r ∷ []) []) ≡ []
    none true b r e = ap (λ t. cond t (r ∷ []) []) e
    none false b r e = refl

    at_point : (x : List ℤ) → kept p (row x v ∷ []) (row x u ∷ []) ≡ chosen p.both (row x v ∷ [])
    at_point x =
        let n : before p.width x x ≡ false = before_irrefl p.width x in
        ap (λ t. t ++ (chosen (if has (row x u ∷ []) x then p.both else p.left) (row x v ∷ []) ++
        chosen p.right (cond (before p.width x x) (row x u ∷ []) []))) (none p.right (before p.width x x) (row x u) n)
        ∙ ap (λ t. chosen (if has (row x u ∷ []) x then p.both else p.left) (row x v ∷ []) ++ t) (none p.right (before p.width x x) (row x u) n)
        ∙ ap (λ t. chosen (if is_some (if t then Some u else None) then p.both else p.left) (row x v ∷ []) ++ []) (test_from_same x x refl)
        ∙ nothing (chosen p.both (row x v ∷ []))
      where
        nothing : (xs : List Row) → xs ++ [] ≡ xs
        nothing [] = refl
        nothing (y ∷ ys) = ap {B = List Row} (λ t. y ∷ t) (nothing ys)
