-- Entries and nodes as code makes them.
use Rattle.std.proofs.Common.{◌≡◌, ℕ, refl, sym, ◌∙◌, ap, subst, List, [], ◌∷◌, ◌++◌, length, map}
use Rattle.std.proofs.lemmas.List.{map-append}
use Rattle.ph_specs.specs.Table.{Row}
use Rattle.ph_specs.specs.Node.{Entries, PlainNode}
use Rattle.ph_model.specs.EntryList.{Entry, in_front, chained}
use Rattle.ph_specs.specs.Shape.{entries_of, groups}
use Rattle.ph_model.proofs.lemmas.RowsBehind.{Each-append}
use Rattle.ph_shape.specs.Bodies.{filled, IsFilled}
use Rattle.ph_shape.specs.View.{entry_of, what_of, AreFilled}
use Rattle.ph_shape.specs.declared.plain.EntryOf.{EntryOf}
use Rattle.ph_shape.specs.declared.plain.HeldOf.{HeldOf}
use Rattle.ph_shape.proofs.Chains.{with_front, with_front-end, with_front-more}
use Rattle.ph_shape.proofs.Steps.{entry-made, filled-is}

pub entry-of-made : {P : Type 0} (dims : ℕ) (e : EntryOf P) (a : ℕ) (body ds : List ℕ) (held : HeldOf P) (E : Entry) →
    e ≡ record { addr = a; body = body; held = held } → body ≡ filled ds → length ds ≡ dims →
    E ≡ record { addr = a; body = ds; what = what_of held } → (entry_of dims e ≡ E) × IsFilled dims e.body
entry-of-made {P} dims e a body ds held E is f l m =
    subst (λ (t : EntryOf P). (entry_of dims t ≡ E) × IsFilled dims t.body) (sym is)
    (entry-made dims a a body ds (what_of held) refl f l ∙ sym m, filled-is dims ds body f l)

-- one entry more
pub made-next : {P : Type 0} (dims : ℕ) (items pushed : List (EntryOf P)) (e : EntryOf P) (E : Entry)
    (rest more all : Entries) → pushed ≡ items ++ e ∷ [] → entry_of dims e ≡ E →
    rest ≡ in_front E.addr E.body E.what more → with_front (map (entry_of dims) items) rest ≡ all →
    with_front (map (entry_of dims) pushed) more ≡ all
made-next {P} dims items pushed e E rest more all p q r m =
    ap (λ (t : List (EntryOf P)). with_front (map (entry_of dims) t) more) p
    ∙ ap (λ t. with_front t more) (map-append (entry_of dims) items (e ∷ []))
    ∙ with_front-more (map (entry_of dims) items) (entry_of dims e) more
    ∙ ap (λ (t : Entry). with_front (map (entry_of dims) items) (in_front t.addr t.body t.what more)) q
    ∙ ap (with_front (map (entry_of dims) items)) (sym r)
    ∙ m

pub filled-more : {P : Type 0} (dims : ℕ) (items pushed : List (EntryOf P)) (e : EntryOf P) →
    pushed ≡ items ++ e ∷ [] → AreFilled dims items → IsFilled dims e.body → AreFilled dims pushed
filled-more {P} dims items pushed e p h k =
    subst (AreFilled dims) (sym p) (Each-append (λ (t : EntryOf P). IsFilled dims t.body) items (e ∷ []) h (k, tt))

-- no rows are left
pub made-all : {P X : Type 0} (dims : ℕ) (items : List (EntryOf P)) (f : X → Row) (w place : ℕ) (below : List Row →
    PlainNode) (rest : List X) (all : Entries) → rest ≡ [] →
    with_front (map (entry_of dims) items) (entries_of w place below (groups w place (map f rest))) ≡ all →
    chained (map (entry_of dims) items) ≡ all
made-all {P} {X} dims items f w place below rest all e m =
    sym (with_front-end (map (entry_of dims) items)) ∙
    ap (λ (t : List X). with_front (map (entry_of dims) items)
    (entries_of w place below (groups w place (map f t)))) (sym e) ∙ m

pub map-same : {X : Type 0} (xs : List X) → map (λ x. x) xs ≡ xs
map-same [] = refl
map-same (x ∷ xs) = ap {B = List _} (λ t. x ∷ t) (map-same xs)
