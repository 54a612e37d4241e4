-- Trees as tables.
use Rattle.std.proofs.Common.{◌≡◌, ℕ, ◌+◌, ◌-◌, ◌*◌, ◌^◌, ◌<◌, ◌≤◌, ltb, lt-ltb, le-ltb, ltb-false, List, [], length, true, false, refl, arith, ap, sym, ◌∙◌, subst, inl, inr}
use Rattle.std.specs.Prelude.{◌↔◌, ℤ, Option, Some, None}
use Rattle.std.specs.Borrow.{Bor}
use Rattle.std.specs.Option.{option_copied}
use Rattle.std.proofs.lemmas.Bool.{and_parts, cases_lt}
use Rattle.ph_specs.specs.Coordinate.{is_point}
use Rattle.ph_specs.specs.Table.{Row, find, put, is_rising, IsTable}
use Rattle.ph_specs.specs.Node.{PlainNode}
use Rattle.ph_specs.specs.Shape.{shape}
use Rattle.ph_specs.specs.TreeRows.{rows}
use Rattle.ph_model.specs.Lawful.{IsLawful}
use Rattle.ph_model.specs.PutTree.{find_tree, put_tree}
use Rattle.ph_specs.specs.WorkSets.{path}
use Rattle.ph_specs.proofs.laws.Edits.{length-put, length-put_old}
use Rattle.ph_model.proofs.laws.FindTree.{find-tree}
use Rattle.ph_model.proofs.laws.PutTree.{lawful-put_tree, rows-put_tree}
use Rattle.ph_model.proofs.laws.Paths.{path-few}
use Rattle.ph_model.proofs.laws.Unique.{shape-rows}
use Rattle.ph_model.proofs.laws.LawfulRows.{rows-table}
use Rattle.ph_table.specs.declared.table.Put.TheVariants.{New, Old}
use Rattle.ph_table.specs.Rows.{put_answer}
use Rattle.ph_tree.specs.Opened.{opened_in}
use Rattle.ph_tree.specs.Key.{Key}
use Rattle.ph_tree.specs.Rooms.{spare_wanted_in}
use Rattle.ph_tree.specs.Tree.{TreeTable, tree_table, with_row, IsTree}
use Rattle.ph_tree.proofs.Ways.{path-opened}

-- another tree of the same width, within the same limit
pub tree_of : {dims w max len more : ℕ} {t u : Option PlainNode} → IsTree dims w t max len → IsLawful w dims u →
    more ≡ length (rows w dims u) → more ≤ max → IsTree dims w u max more
tree_of k ok counted limit =
    record { some = k.some; few = k.few; wide = k.wide; lawful = ok; counted = counted; limit = limit }

-- ---- a tree as it is seen

module _ {dims w max len : ℕ} {t : Option PlainNode} {s : TreeTable} (is : tree_table dims w t max ≡ s) (k : IsTree dims w t max len) where
  pub rows_are : rows w dims t ≡ s.table
  rows_are = ap (λ u. u.table) is

  pub width_is : w ≡ s.width
  width_is = ap (λ u. u.width) is

  pub shape_is : t ≡ shape s.width s.table
  shape_is = sym (shape-rows w dims t k.lawful) ∙ ap (λ u. shape u.width u.table) is

  pub table_is : IsTable s.width dims s.table
  table_is =
      let here : IsTable w dims (rows w dims t) = rows-table w dims t k.wide k.lawful in
      subst (λ u. IsTable u.width dims u.table) is here

  pub none_is : t ≡ None → s.table ≡ []
  none_is e = sym rows_are ∙ ap (rows w dims) e

  pub empty_is : s.table ≡ [] → t ≡ None
  empty_is e = shape_is ∙ ap (shape s.width) e

  pub counted_is : length s.table ≡ len
  counted_is = ap (λ (r : List Row). length r) (sym rows_are) ∙ sym k.counted

  pub max_is : max ≡ s.max
  max_is = ap (λ z. z.max) is

-- ---- what an answer tells

pub new_absent : (o : Option ℕ) → New ≡ put_answer o → o ≡ None
new_absent None e = refl
new_absent (Some x) e = cc

pub old_present : (o : Option ℕ) (u : ℕ) → Old u ≡ put_answer o → o ≡ Some u
old_present None u e = cc
old_present (Some x) u e = let q : u ≡ x = cc in ap (λ n. Some n) (sym q)

-- nothing is lent of nothing
pub no_copy : {X : Type 0} (r : Option (Bor X)) → option_copied r ≡ None → r ≡ None
no_copy None e = refl
no_copy (Some x) e = cc

-- ---- a point of a tree, by its key

-- a tree as it is seen, a point that may stand in it, and the key of the point
pub record IsKeyed (dims w max len : ℕ) (t : Option PlainNode) (s : TreeTable) (p : List ℤ) (key : Key) : Type 0 where
  pub seen : tree_table dims w t max ≡ s
  pub tree : IsTree dims w t max len
  pub at : is_point s.width dims p ≡ true
  pub width : key.width ≡ w
  pub point : key.point ≡ p

-- the key that was made of a point
pub key_made : {dims w max len : ℕ} {t : Option PlainNode} {s : TreeTable} {p made : List ℤ} {key : Key} → tree_table dims w t max ≡ s →
    IsTree dims w t max len → is_point s.width dims p ≡ true → key.width ≡ w → key.point ≡ made → made ≡ p → IsKeyed dims w max len t s p key
key_made seen tree at width point is = record { seen = seen; tree = tree; at = at; width = width; point = point ∙ is }

module _ {dims w max len : ℕ} {t : Option PlainNode} {s : TreeTable} {p : List ℤ} {key : Key} (k : IsKeyed dims w max len t s p key) where
  pub at_width : is_point w dims p ≡ true
  at_width = subst (λ n. is_point n dims p ≡ true) (sym (width_is k.seen k.tree)) k.at

  pub found_before : find_tree key.width dims t key.point ≡ find (rows w dims t) p
  found_before =
      (λ i. find_tree (k.width i) dims t (k.point i)) ∙ find-tree w dims t p k.tree.wide at_width k.tree.lawful

  -- what the tree finds by the key is what its table has at the point
  pub found_is : find_tree key.width dims t key.point ≡ find s.table p
  found_is = found_before ∙ ap (λ u. find u.table p) k.seen

  -- as many nodes are opened as the path of the point has
  pub opened_is : opened_in key.width t key.point ≡ length (path s.width dims s.table p)
  opened_is =
      (λ i. opened_in (k.width i) t (k.point i)) ∙ sym (path-opened w dims t p k.tree.wide at_width k.tree.lawful) ∙ ap (λ u. length (path u.width dims u.table p)) k.seen

  -- a removal wants the room that one from the shape of the table wants
  pub wanted_is : spare_wanted_in key.width dims t key.point ≡ spare_wanted_in s.width dims (shape s.width s.table) p
  wanted_is =
      (λ i. spare_wanted_in (k.width i) dims t (k.point i)) ∙ (λ i. spare_wanted_in (width_is k.seen k.tree i) dims (shape_is k.seen k.tree i) p)

  pub opened_few : opened_in key.width t key.point ≤ s.width
  opened_few =
      omega (arith, opened_is, path-few s.width dims s.table p (omega (arith, k.tree.wide, width_is k.seen k.tree)) (table_is k.seen k.tree))

  -- what a call visits that opens these nodes twice at most, and the root once
  pub opened_twice : (before seen : ℕ) → seen ≤ before + (2 * opened_in key.width t key.point - 1) →
      (seen ≤ before + (2 * length (path s.width dims s.table p) - 1)) × (seen ≤ before + 2 * s.width)
  opened_twice before seen h = (omega (arith, h, opened_is), omega (arith, h, opened_few))

  -- a put is refused exactly where the point is new and the tree is full
  pub full_when : {F : Type 0} → (F → find_tree key.width dims t key.point ≡ None) → (F → ltb len max ≡ false) →
      (find_tree key.width dims t key.point ≡ None → ltb len max ≡ false → F) →
      F ↔ ((find s.table p ≡ None) × (length s.table ≡ s.max))
  full_when absent full refused =
      let count = counted_is k.seen k.tree in
      let most = max_is k.seen k.tree in (
        λ f. let least : max ≤ len = ltb-false len max (full f) in (sym found_is ∙ absent f, omega (arith, least, count, most, k.tree.limit)),
        λ h. refused (found_is ∙ h.0) (le-ltb len max (omega (arith, h.1, count, most))),
      )

  -- a tree with a value put at the point
  module _ {v : ℕ} {u : Option PlainNode} (small : v < 2 ^ 64) (made : u ≡ put_tree key.width dims t key.point v) where
    made_at : u ≡ put_tree w dims t p v
    made_at = made ∙ (λ i. put_tree (k.width i) dims t (k.point i) v)

    lawful_made : IsLawful w dims u
    lawful_made =
        subst (IsLawful w dims) (sym made_at) (lawful-put_tree w dims t p v k.tree.wide at_width (lt-ltb v (2 ^ 64) small) k.tree.lawful)

    rows_made : rows w dims u ≡ put w (rows w dims t) p v
    rows_made = ap (rows w dims) made_at ∙ rows-put_tree w dims t p v k.tree.wide at_width k.tree.lawful

    -- a row more, where the answer is that the point is new and a full tree would have refused it
    pub new_tree : New ≡ put_answer (find_tree key.width dims t key.point) →
        (find_tree key.width dims t key.point ≡ None → ltb len max ≡ false → ⊥) → IsTree dims w u max (len + 1)
    new_tree answer refused =
        let none = new_absent _ answer in
        let room : len < max = elim (cases_lt len max) [ inl l ↦ l | inr l ↦ absurd (refused none (le-ltb len max l)) ] in
        let more : length (rows w dims u) ≡ length (rows w dims t) + 1 = ap (λ (r : List Row). length r) rows_made ∙
        length-put w (rows w dims t) p v (sym found_before ∙ none) in
        tree_of k.tree lawful_made (omega (arith, more, k.tree.counted)) (omega (arith, room))

    -- as many rows, where the answer is the value that stood there
    pub old_tree : (o : ℕ) → Old o ≡ put_answer (find_tree key.width dims t key.point) → IsTree dims w u max len
    old_tree o answer =
        let rising : is_rising w (rows w dims t) ≡ true = (and_parts _ _ (rows-table w dims t k.tree.wide k.tree.lawful)).0 in
        let same : length (rows w dims u) ≡ length (rows w dims t) = ap (λ (r : List Row). length r) rows_made ∙
        length-put_old w (rows w dims t) p o v rising (sym found_before ∙ old_present _ o answer) in
        tree_of k.tree lawful_made (omega (arith, same, k.tree.counted)) k.tree.limit

    pub put_table : tree_table dims w u max ≡ with_row s p v
    put_table =
        ap {B = TreeTable} (λ (r : List Row). record { table = r; width = w; max = max }) rows_made ∙ ap (λ z. with_row z p v) k.seen
