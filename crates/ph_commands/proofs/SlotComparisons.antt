-- Slots that are compared.
use Rattle.std.proofs.Common.{◌≡◌, ◌↔◌, ◌≤◌, ℕ, ◌+◌, Bool, true, false, List, [], ◌∷◌, length, refl, sym, subst, ◌∙◌}
use Rattle.std.specs.Prelude.{◌&&◌, ◌==◌, IsTrue}
use Rattle.std.specs.Cmp.Lexicographic.{pointwise}
use Rattle.std.proofs.lemmas.Bool.{and_parts, eqb-true, eq-eqb}
use Rattle.ph_specs.specs.declared.Kind.TheVariants.{Points}
use Rattle.ph_specs.specs.Engine.{same_slots}
use Rattle.ph_specs.specs.Coordinate.{same_point}
use Rattle.ph_specs.specs.Table.{Row, same_row}
use Rattle.ph_specs.specs.WorkSets.{all_nodes}
use Rattle.ph_specs.proofs.laws.Put.{same_from_test, test_from_same}
use Rattle.ph_specs.proofs.lemmas.Tests.{and-made}
use Rattle.ph_specs.specs.Past.{Past}
use Rattle.ph_tree.specs.Tree.{TreeTable}
use Rattle.ph_undo.specs.Kept.{tree_of}
use Rattle.ph_commands.specs.Comparing.{IsCompared}
use Rattle.ph_commands.specs.Tables.{table_at, slot_of}

same-is : (r s : Row) → same_row r s ≡ true → r ≡ s
same-is r s h =
    let p = and_parts (same_point r.point s.point) (r.value == s.value) h in
    (λ i. record { point = same_from_test r.point s.point p.0 i; value = eqb-true r.value s.value p.1 i })

same-itself : (r : Row) → same_row r r ≡ true
same-itself r = and-made (same_point r.point r.point) (r.value == r.value) (test_from_same r.point r.point refl) (eq-eqb r.value r.value refl)

rows-are : (rs ss : List Row) → pointwise same_row rs ss ≡ true → rs ≡ ss
rows-are [] [] h = refl
rows-are [] (s ∷ ss) h = absurd (let no : false ≡ true = h in cc)
rows-are (r ∷ rs) [] h = absurd (let no : false ≡ true = h in cc)
rows-are (r ∷ rs) (s ∷ ss) h =
    let p = and_parts (same_row r s) (pointwise same_row rs ss) h in
    (λ i. same-is r s p.0 i ∷ rows-are rs ss p.1 i)

rows-themselves : (rs : List Row) → pointwise same_row rs rs ≡ true
rows-themselves [] = refl
rows-themselves (r ∷ rs) = and-made (same_row r r) (pointwise same_row rs rs) (same-itself r) (rows-themselves rs)

-- an answer that tells whether tables are equal is that of the comparison row by row
decided : (result test : Bool) (P : Type 0) → IsTrue result ↔ P → (test ≡ true → P) → (P → test ≡ true) → result ≡ test
decided true test P h f g = sym (g (h.0 refl))
decided false true P h f g = h.1 (f refl)
decided false false P h f g = refl

row-test : (result : Bool) (rs ss : List Row) → IsTrue result ↔ (rs ≡ ss) → result ≡ pointwise same_row rs ss
row-test result rs ss h = decided result (pointwise same_row rs ss) (rs ≡ ss) h (rows-are rs ss)
    (λ e. subst (λ xs. pointwise same_row rs xs ≡ true) e (rows-themselves rs))

same-frame-test : (d v w : ℕ) (test : Bool) → v ≡ w → test ≡ (true && (d == d) && (v == w) && test)
same-frame-test d v w test e = rw (eq-eqb d d refl, eq-eqb v w e) refl

-- trees of as many dimensions and one width
pub trees-compared : (d : ℕ) (t u : Past) (visits now_visits : ℕ) (result : Bool) → t.width ≡ u.width →
    IsTrue result ↔ (t.table ≡ u.table) → visits ≤ now_visits →
    now_visits ≤ visits + (length (all_nodes t.width d t.table) + length (all_nodes u.width d u.table)) →
    (IsTrue result → now_visits ≡ visits +
    (length (all_nodes t.width d t.table) + length (all_nodes u.width d u.table))) →
    IsCompared (slot_of Points (table_at d t) []) (slot_of Points (table_at d u) []) visits now_visits result
trees-compared d t u visits now_visits result e h later few all =
    let same : result ≡ same_slots (slot_of Points (table_at d t) []) (slot_of Points (table_at d u) []) =
    row-test result t.table u.table h ∙ same-frame-test d t.width u.width (pointwise same_row t.table u.table) e in
    record { same = same; later = later; few = few; all = λ k. all (same ∙ k) }

-- the same by the trees of both
pub kept-compared : (d : ℕ) (t u : Past) (x y : TreeTable) → x ≡ tree_of t → y ≡ tree_of u →
    (visits now_visits : ℕ) (result : Bool) → x.width ≡ y.width → IsTrue result ↔ (x.table ≡ y.table) →
    visits ≤ now_visits → now_visits ≤ visits +
    (length (all_nodes x.width d x.table) + length (all_nodes y.width d y.table)) →
    (IsTrue result → now_visits ≡ visits +
    (length (all_nodes x.width d x.table) + length (all_nodes y.width d y.table))) →
    IsCompared (slot_of Points (table_at d t) []) (slot_of Points (table_at d u) []) visits now_visits result
kept-compared d t u x y ex ey visits now_visits result =
    subst {A = TreeTable × TreeTable} (λ p. p.0.width ≡ p.1.width → IsTrue result ↔ (p.0.table ≡ p.1.table) →
    visits ≤ now_visits → now_visits ≤ visits +
    (length (all_nodes p.0.width d p.0.table) + length (all_nodes p.1.width d p.1.table)) →
    (IsTrue result → now_visits ≡ visits +
    (length (all_nodes p.0.width d p.0.table) + length (all_nodes p.1.width d p.1.table))) →
    IsCompared (slot_of Points (table_at d t) []) (slot_of Points (table_at d u) []) visits now_visits result)
    (λ i. (sym ex i, sym ey i)) (trees-compared d t u visits now_visits result)
