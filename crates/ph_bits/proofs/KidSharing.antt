-- A `&` to the values is made where one to a value is. Assumes `Logic`.
use Rattle.std.specs.Prelude.{ℕ, ◌+◌, ◌*◌, List, [], ◌∷◌}
use seplogic.Ra.Ura.{Ura}
use base.Fraction.{full_share}
use base.Fml.{Lft, Incl, fsep, ftrue, ffalse}
use types.Logic.{Logic}
use denote.Memory.{part_at, shared_of}
use denote.RattleType.{RattleType, RowLaws}
use denote.Param.Laws.{Laws}
use denote.RawPtr.{Ptr, block_ptr, null_ptr}
use denote.Sharing.{ShrLaws, said, beside}
use denote.SharingLaws.{beside_shr_laws, nothing_shr_laws, said_shr_laws}
use denote.Shares.{Shares-less}
use denote.Struct.Lending.{Lends, Lends-both, Lends-nothing, Lends-said, Lends-false}
use Rattle.ph_bits.specs.Kids.{word_sized, kids, lent, fit, kids_own, kids_lent}

module _ (R : RattleType) (L : RowLaws R) where
  lent_laws : (b o : ℕ) (xs : List R.Denot) → ShrLaws (lent R b o xs)
  lent_laws b o [] = nothing_shr_laws
  lent_laws b o (x ∷ xs) = beside_shr_laws _ _ (beside_shr_laws _ _ (said_shr_laws (word_sized R) (tt, tt)) (L x b o)) (lent_laws b (o + 8) xs)

  pub kids_lent_laws : (p : Ptr) (from : ℕ) (xs : List R.Denot) → ShrLaws (kids_lent R p from xs)
  kids_lent_laws (block_ptr b o) from xs = beside_shr_laws _ _ (said_shr_laws (fit R from xs) tt) (lent_laws b (from * 8 + o) xs)
  kids_lent_laws null_ptr from xs = said_shr_laws ffalse tt

module _ {M : Type 1} {𝓤 : Ura M} (𝓛 : Logic 𝓤) (l : Lft) (R : RattleType) (L : Laws R) (inc : Incl l R.lives) where
  Lends-values : (b o : ℕ) (xs : List R.Denot) → Lends 𝓛 (kids R b o xs) (lent R b o xs) l
  Lends-values b o [] = Lends-nothing 𝓛 ftrue l
  Lends-values b o (x ∷ xs) =
      Lends-both 𝓛 (fsep (word_sized R) (part_at R full_share x b o)) (kids R b (o + 8) xs) (beside (said (word_sized R)) (shared_of R x b o)) (lent R b (o + 8) xs) l
      (Lends-both 𝓛 (word_sized R) (part_at R full_share x b o) (said (word_sized R)) (shared_of R x b o) l
      (Lends-said 𝓛 (word_sized R) (tt, tt) l) (λ κ ts. Shares-less 𝓛 R R.lives l inc (L.shares 𝓛) x κ ts b o))
      (Lends-values b (o + 8) xs)

  pub Lends-kids : (p : Ptr) (from : ℕ) (xs : List R.Denot) → Lends 𝓛 (kids_own R p from xs) (kids_lent R p from xs) l
  Lends-kids (block_ptr b o) from xs =
      Lends-both 𝓛 (fit R from xs) (kids R b (from * 8 + o) xs) (said (fit R from xs)) (lent R b (from * 8 + o) xs) l
      (Lends-said 𝓛 (fit R from xs) tt l) (Lends-values b (from * 8 + o) xs)
  Lends-kids null_ptr from xs = Lends-false 𝓛 (said ffalse) l
