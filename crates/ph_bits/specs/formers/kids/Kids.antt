-- `Kids` as a type that may hold the type that holds it.
use Rattle.std.specs.Prelude.{◌≡◌, ℕ, ◌+◌, ◌*◌, ◌^◌, List, [], ◌∷◌, map}
use mathlib.Core.Path.{refl, sym}
use mathlib.Core.Former.{Former, this, const, pair, list, via, children}
use lib.ListN.{length-map}
use base.Stored.{Gv, gcons, code_map}
use base.Fraction.{full_share}
use base.Fml.{fsep, flt, feq}
use denote.RattleType.{RattleType}
use denote.Memory.{lone, raw_all, part_of, part_at}
use denote.RawPtr.{Ptr, block_ptr, null_ptr}
use denote.Sharing.{said, beside}
use denote.Struct.Struct.{Struct}
use denote.Struct.Owning.{shape, to}
use denote.HoleLaws.{Alike}
use denote.HolePlaces.{Recodes}
use denote.Hole.Carrier.{listed, list-listed}
use denote.Param.Weighed.{Weighed, w_const, w_pair, w_list}
use prog.Memory.{size, align}
use Rattle.ph_bits.specs.Kids.{word_sized, kids, lent, kids_own, kids_lent}
use Rattle.ph_bits.specs.declared.kids.Kids.{Kids}
use Rattle.ph_bits.specs.contracts.kids.Kids as C

abbrev pub the_former : Former {0} → Former {0}
the_former g = via (pair (const (Ptr × ℕ)) (list g)) (λ X. Kids (g.Of X)) (λ X d. ((d.at, d.from), d.items))
    (λ X v. record { mark = record {}; at = v.0.0; from = v.0.1; items = v.1 }) (λ X d. refl) (λ X v. refl)

abbrev pub the_weighed : {g : Former {0}} → Weighed g → Weighed (the_former g)
the_weighed w =
    let v = w_pair (w_const (Ptr × ℕ)) (w_list w) in
    record { weight = λ X μ d. v.weight X μ ((d.at, d.from), d.items); puts = λ X μ d. v.puts X μ ((d.at, d.from), d.items) }

pub the_empty : Kids ⊥
the_empty = record { mark = record {}; at = null_ptr; from = 0; items = [] }

abbrev pub the_items : (X : Type 0) → Kids X → List X
the_items X d = d.items

pub the_items_listed : (X : Type 0) (d : Kids X) → listed _ (children (the_former this) X d) ≡ the_items X d
the_items_listed X d = list-listed X d.items

first : {a b c : Gv} → a ≡ b → gcons a c ≡ gcons b c
first {c = c} e = λ i. gcons (e i) c

second : {a b c : Gv} → a ≡ b → gcons c a ≡ gcons c b
second {c = c} e = λ i. gcons c (e i)

module _ (R S : RattleType) (h : R.Denot → S.Denot) where
  module _ (a : Alike R S h) where
    part_placed : (x : R.Denot) (b o : ℕ) → part_at S full_share (h x) b o ≡ part_at R full_share x b o
    unfolding part_of
    part_placed x b o = λ i. part_of (raw_all (a.mir_same i)) (λ (_ : Unit {0}). a.own_same x i) full_share tt b o

    word_placed : word_sized S ≡ word_sized R
    word_placed = λ i. fsep (feq ℕ (size (lone (a.mir_same i))) 8) (feq ℕ (align (lone (a.mir_same i))) 8)

    kids_placed : (b o : ℕ) (xs : List R.Denot) → kids S b o (map h xs) ≡ kids R b o xs
    kids_placed b o [] = refl
    kids_placed b o (x ∷ xs) = λ i. fsep (fsep (word_placed i) (part_placed x b o i)) (kids_placed b (o + 8) xs i)

    lent_placed : (b o : ℕ) (xs : List R.Denot) → lent S b o (map h xs) ≡ lent R b o xs
    lent_placed b o [] = refl
    lent_placed b o (x ∷ xs) = λ i. beside (beside (said (word_placed i)) (a.shr_same x i b o)) (lent_placed b (o + 8) xs i)

    owned : (p : Ptr) (from : ℕ) (xs : List R.Denot) → kids_own S p from (map h xs) ≡ kids_own R p from xs
    owned (block_ptr b o) from xs = λ i. fsep (flt ((from + length-map xs h i) * 8) (2 ^ 63)) (kids_placed b (from * 8 + o) xs i)
    owned null_ptr from xs = refl

    shared : (p : Ptr) (from : ℕ) (xs : List R.Denot) → kids_lent S p from (map h xs) ≡ kids_lent R p from xs
    shared (block_ptr b o) from xs = λ i. beside (said (flt ((from + length-map xs h i) * 8) (2 ^ 63))) (lent_placed b (from * 8 + o) xs i)
    shared null_ptr from xs = refl

  pub the_places : Alike R S h → Alike (C.the_row R) (C.the_row S) ((the_former this).map R.Denot S.Denot h)
  the_places a = record {
    mir_same = refl;
    own_same = λ d i vs. fsep ((Struct (shape (C.the_type R))).own_val (to (C.the_type R) d) vs) (owned a d.at d.from d.items i);
    shr_same = λ d i b o. beside ((Struct (shape (C.the_type R))).shr_at (to (C.the_type R) d) b o) (shared a d.at d.from d.items i);
  }

  pub the_codes_placed : Recodes R S h → Recodes (C.the_row R) (C.the_row S) ((the_former this).map R.Denot S.Denot h)
  the_codes_placed e d = second (second (second (first (sym (code_map R.coded.code S.coded.code h (λ x. sym (e x)) d.items)))))
