-- `Block` as a type that may hold the type that holds it.
use Rattle.std.specs.Prelude.{◌≡◌, ℕ, ◌+◌, ◌≤◌, ◌^◌, List, [], map, length}
use mathlib.Core.Path.{refl, sym, ap, ◌∙◌, subst}
use mathlib.Core.Former.{Former, this, const, pair, list, via, children}
use native.Mathlib.Nat.{ℕ_set}
use native.Mathlib.Bridge.{le_prop}
use lib.ListN.{length-map}
use base.Stored.{Coded-set, code_map, coded_bool, Gv, gcons}
use denote.RattleType.{RattleType}
use denote.RawPtr.{Ptr, coded_ptr}
use denote.HoleLaws.{Alike}
use denote.HolePlaces.{Recodes, struct_places, laid}
use denote.Hole.Carrier.{listed, list-listed}
use denote.Hole.Fix.{over}
use denote.Param.Weighed.{Weighed, w_const, w_pair, w_list}
use denote.Model.Placed.{view_places}
use Rattle.std.specs.declared.alloc.Global.{Global}
use Rattle.std.specs.contracts.alloc.Global as heap
use Rattle.ph_bits.specs.Filled.{Filled}
use Rattle.ph_bits.specs.Headers.{header, len_of}
use Rattle.ph_bits.specs.declared.places.Start.{Start}
use Rattle.ph_bits.specs.declared.places.Places.{Places}
use Rattle.ph_bits.specs.declared.places.Right.{Right}
use Rattle.ph_bits.specs.declared.kids.Kids.{Kids}
use Rattle.ph_bits.specs.formers.kids.Kids as kids
use Rattle.ph_bits.specs.declared.block.Block.TheInside.{Inside}
use Rattle.ph_bits.specs.declared.block.Block.TheView.{view, invariant}
use Rattle.ph_bits.specs.contracts.block.Block as C
use Rattle.ph_bits.specs.contracts.block.Block.TheInside as I

abbrev pub the_former : Former {0} → Former {0}
the_former g = via (pair (const (List ℕ × (ℕ × Global))) (list g)) (λ X. Filled (g.Of X)) (λ X d. ((d.words, (d.spare, d.heap)), d.values))
    (λ X v. record { words = v.0.0; spare = v.0.1.0; values = v.1; heap = v.0.1.1 }) (λ X d. refl) (λ X v. refl)

abbrev pub the_weighed : {g : Former {0}} → Weighed g → Weighed (the_former g)
the_weighed w =
    let v = w_pair (w_const (List ℕ × (ℕ × Global))) (w_list w) in
    record { weight = λ X μ d. v.weight X μ ((d.words, (d.spare, d.heap)), d.values); puts = λ X μ d. v.puts X μ ((d.words, (d.spare, d.heap)), d.values) }

pub the_empty : Filled ⊥
the_empty = record { words = []; spare = 0; values = []; heap = record { memory = record { seal = tt } } }

abbrev pub the_items : (X : Type 0) → Filled X → List X
the_items X d = d.values

pub the_items_listed : (X : Type 0) (d : Filled X) → listed _ (children (the_former this) X d) ≡ the_items X d
the_items_listed X d = list-listed X d.values

abbrev Parts : Type 0
Parts = Start × (Places × (Right Global × Global))

abbrev fields : Former {0}
fields = via (pair (const Parts) (kids.the_former this)) Inside (λ X a. ((a.start, (a.places, (a.right, a.alloc))), a.kids))
    (λ X v. record { start = v.0.0; places = v.0.1.0; right = v.0.1.1.0; alloc = v.0.1.1.1; kids = v.1 }) (λ X a. refl) (λ X v. refl)

ptr : (x y : Ptr) → IsProp (x ≡ y)
ptr x y = Coded-set coded_ptr x y

module _ (X : Type 0) (a : Inside X) where
  one : IsProp (invariant X a)
  one u v = λ i. (
    ptr _ _ u.0 v.0 i,
    ptr _ _ u.1 v.1 i,
    Coded-set heap.the_row.coded _ _ u.2 v.2 i,
    ptr _ _ u.3 v.3 i,
    ℕ_set _ _ u.4 v.4 i,
    ℕ_set _ _ u.5 v.5 i,
    le_prop u.6 v.6 i,
    Coded-set coded_bool _ _ u.7 v.7 i,
    ℕ_set _ _ u.8 v.8 i,
  )

first : {a b c : Gv} → a ≡ b → gcons a c ≡ gcons b c
first {c = c} e = λ i. gcons (e i) c

second : {a b c : Gv} → a ≡ b → gcons c a ≡ gcons c b
second {c = c} e = λ i. gcons c (e i)

module _ (R S : RattleType) (h : R.Denot → S.Denot) where
  abbrev moved : Kids R.Denot → Kids S.Denot
  moved = (kids.the_former this).map R.Denot S.Denot h

  to : (a : Inside R.Denot) → invariant R.Denot a → invariant S.Denot (fields.map R.Denot S.Denot h a)
  to a i =
      let e : length a.kids.items ≡ length (map h a.kids.items) = sym (length-map a.kids.items h) in let n = length a.places.slots in
      (i.0, i.1, i.2, i.3, i.4, i.5 ∙ ap (λ k. n + k) e, subst (λ k. n + k ≤ 2 ^ 21) e i.6, i.7, i.8 ∙ ap (header n (len_of a.places.slots)) e)

  from : (a : Inside R.Denot) → invariant S.Denot (fields.map R.Denot S.Denot h a) → invariant R.Denot a
  from a i =
      let e : length (map h a.kids.items) ≡ length a.kids.items = length-map a.kids.items h in let n = length a.places.slots in
      (i.0, i.1, i.2, i.3, i.4, i.5 ∙ ap (λ k. n + k) e, subst (λ k. n + k ≤ 2 ^ 21) e i.6, i.7, i.8 ∙ ap (header n (len_of a.places.slots)) e)

  pub the_places : Alike R S h → Alike (C.the_row R) (C.the_row S) ((the_former this).map R.Denot S.Denot h)
  the_places a = view_places fields (the_former this) view (λ X Y k u. refl) (λ X u. refl) R.Denot S.Denot h (C.the_row R).coded (C.the_row S).coded
      (invariant R.Denot) (invariant S.Denot) (one R.Denot) (one S.Denot) to from
      (over (I.the_row R)) (over (I.the_row S))
      (struct_places (I.the_type R) (I.the_type S) ((λ x. x), ((λ x. x), ((λ x. x), ((λ x. x), (moved, tt))))) _ (λ d. refl) refl (
        (refl, (λ y. refl, λ y. refl)),
        (
          (refl, (λ y. refl, λ y. refl)),
          ((refl, (λ y. refl, λ y. refl)), ((refl, (λ y. refl, λ y. refl)), (laid _ _ _ (kids.the_places R S h a), tt))),
        ),
      ))

  pub the_codes_placed : Recodes R S h → Recodes (C.the_row R) (C.the_row S) ((the_former this).map R.Denot S.Denot h)
  the_codes_placed e d = second (second (first (sym (code_map R.coded.code S.coded.code h (λ x. sym (e x)) d.values))))
