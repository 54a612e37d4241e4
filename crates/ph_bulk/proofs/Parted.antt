-- The parts of rows.
use Rattle.std.proofs.Common.{◌≡◌, ℕ, ◌-◌, ◌<◌, ◌≤◌, List, [], ◌∷◌, ◌++◌, length, map, get_or, sym, ◌∙◌, ap, subst, arith}
use Rattle.std.specs.Prelude.{Option, Some, None, MatchOption}
use Rattle.std.specs.List.{AllByRecursion as Each}
use Rattle.std.proofs.lemmas.List.{map-append}
use Rattle.ph_specs.specs.Node.{Entries}
use Rattle.ph_model.specs.EntryList.{Entry, in_front}
use Rattle.ph_specs.specs.Shape.{entries_of, groups, node_below}
use Rattle.ph_specs.specs.Table.{Row}
use Rattle.ph_model.proofs.lemmas.RowsBehind.{Each-append}
use Rattle.ph_zorder.specs.Compared.{IsTopDifference}
use Rattle.ph_shape.specs.Groups.{IsGroup, group_entry}
use Rattle.ph_shape.proofs.Chains.{with_front, with_front-end, with_front-more}
use Rattle.ph_shape.proofs.Steps.{point-of-map, child-of-map}
use Rattle.ph_bulk.specs.declared.parts.Part.{Part}
use Rattle.ph_bulk.specs.Parts.{rows_in, entry_in, chain_of, IsSplit, IsPart}

same-first : {X : Type 0} (xs : List X) (x y : X) → 1 ≤ length xs → x ≡ get_or xs 0 x → y ≡ get_or xs 0 y → x ≡ y
same-first [] x y l e h = absurd (let no : ⊥ = omega (arith, l) in no)
same-first (z ∷ xs) x y l e h = e ∙ sym h

-- rows of one address, of which the first and the last differ so
pub split-is : {R : Type 0} (f : R → Row) (w dims place : ℕ) (xs : List R) (x y : R) (o : Option ℕ) → place < w →
    IsGroup w dims place (map f xs) → 1 ≤ length xs → x ≡ get_or xs 0 x → y ≡ get_or xs (length xs - 1) y →
    MatchOption o ((f x).point ≡ (f y).point) (λ t. IsTopDifference w (f x).point (f y).point t) →
    IsSplit w dims place (map f xs) (f x) o
split-is f w dims place xs x y None l g s e h m = point-of-map f w dims place (node_below w place) xs x y g s e h m
split-is f w dims place xs x y (Some t) l g s e h m =
    let k = child-of-map f w dims place t xs x y l g s e h m in
    (k.lower, k.group, k.entry)

pub part-is : {R : Type 0} (f : R → Row) (w dims place : ℕ) (p : Part R) (x y : R) → place < w →
    IsGroup w dims place (rows_in f p) → 1 ≤ length p.rows.now → x ≡ get_or p.rows.now 0 x →
    y ≡ get_or p.rows.now (length p.rows.now - 1) y →
    MatchOption p.level ((f x).point ≡ (f y).point) (λ t. IsTopDifference w (f x).point (f y).point t) → IsPart f w dims place p
part-is f w dims place p x y l g s e h m = record {
  some = s;
  group = g;
  split = λ first k. subst (λ z. IsSplit w dims place (rows_in f p) (f z) p.level)
      (same-first p.rows.now x first s e k) (split-is f w dims place p.rows.now x y p.level l g s e h m);
}

-- ---- parts one behind the other

pub made-next : {R : Type 0} (f : R → Row) (w place : ℕ) (items pushed : List (Part R)) (p : Part R) (rows : List Row)
    (rest more all : Entries) → pushed ≡ items ++ p ∷ [] → rows_in f p ≡ rows →
    rest ≡ in_front (group_entry w place (node_below w place) rows).addr
    (group_entry w place (node_below w place) rows).body (group_entry w place (node_below w place) rows).what more →
    with_front (map (entry_in f w place) items) rest ≡ all → with_front (map (entry_in f w place) pushed) more ≡ all
made-next {R} f w place items pushed p rows rest more all push same next m =
    let E : List Row → Entry = λ rs. group_entry w place (node_below w place) rs in
    ap (λ (t : List (Part R)). with_front (map (entry_in f w place) t) more) push
    ∙ ap (λ t. with_front t more) (map-append (entry_in f w place) items (p ∷ []))
    ∙ with_front-more (map (entry_in f w place) items) (entry_in f w place p) more
    ∙ ap (λ (t : List Row). with_front (map (entry_in f w place) items)
    (in_front (group_entry w place (node_below w place) t).addr (group_entry w place (node_below w place) t).body
    (group_entry w place (node_below w place) t).what more)) same
    ∙ ap (with_front (map (entry_in f w place) items)) (sym next)
    ∙ m

pub each-next : {R : Type 0} (P : R → Type 0) (items pushed : List R) (x : R) → pushed ≡ items ++ x ∷ [] → Each P items → P x → Each P pushed
each-next P items pushed x e h k = subst (Each P) (sym e) (Each-append P items (x ∷ []) h (k, tt))

pub made-all : {R : Type 0} (f : R → Row) (w place : ℕ) (items : List (Part R)) (rest : List R) (all : Entries) →
    rest ≡ [] → with_front (map (entry_in f w place) items)
    (entries_of w place (node_below w place) (groups w place (map f rest))) ≡ all → chain_of f w place items ≡ all
made-all {R} f w place items rest all e m =
    sym (with_front-end (map (entry_in f w place) items)) ∙
    ap (λ (t : List R). with_front (map (entry_in f w place) items)
    (entries_of w place (node_below w place) (groups w place (map f t)))) (sym e) ∙ m
