-- What the parts of a block own is made of what they are made of. Assumes `Logic`.
--     start_made, mark_made      of a pointer alone, and of nothing
--     triple_made      three values make a tuple
use Rattle.std.proofs.Common.{List, [], ◌∷◌, refl}
use seplogic.Ra.Ura.{Ura}
use mir.Val.{Val, vstruct, vcons, vnil}
use base.Logic.{ent, sep, emp}
use types.Logic.{Logic, sem}
use types.Kit.{‵, ◌$◌, ◌∵◌, !, qed, move, fjoin, fpack, feq_i, done}
use denote.RattleType.{RattleType, Valss}
use denote.RawPtr.{Ptr, ptr_val, rawptr_pure}
use denote.Shadow.{makes_shadow}
use denote.Steps.{nothing, owned}
use denote.Struct.Laws.{makes}
use denote.Struct.Struct.{Struct, within}
use denote.Struct.Owning.{shape}
use denote.Struct.Declared as Declared
use denote.Struct.Tuple.{Tuple, tuple_type}
use Rattle.std.proofs.RcSteps.{word}
use Rattle.ph_bits.specs.contracts.places.Start as S
use Rattle.ph_bits.specs.contracts.places.Places as P

-- the one field of `Places` and of `Right`, which takes no bytes
abbrev pub Mark : RattleType
Mark = Struct (shape P.the_type)

abbrev pub mark : Val
mark = vstruct (vcons (vstruct vnil) vnil)

abbrev pub triple_val : Val → Val → Val → Val
triple_val u v w = vstruct (vcons u (vcons v (vcons w vnil)))

module _ {M : Type 1} {𝓤 : Ura M} (𝓛 : Logic 𝓤) where
  pub start_made : (p : Ptr) → ent 𝓤 (emp 𝓤) (sem 𝓛 (S.the_row.own_val (record { at = p }) (word p ∷ [])))
  start_made p = qed 𝓛 [] ∵ owned ! S.the_row _ (makes S.the_type (rawptr_pure, tt) 𝓛) (record { at = p })
      (word p ∷ []) ((ptr_val p ∷ [], tt), (refl, (refl, tt))) $ done !

  pub mark_made : ent 𝓤 (emp 𝓤) (sem 𝓛 (Mark.own_val (tt, tt) (mark ∷ [])))
  mark_made = makes_shadow 𝓛 (Mark.own_val (tt, tt) (mark ∷ [])) (λ vss. (tt, ((λ uss. (tt, tt)), tt))) ((vstruct vnil ∷ [], tt), (refl, ((tt, (refl, tt)), tt)))

  pub triple_made : (A B C : RattleType) (x : A.Denot) (y : B.Denot) (z : C.Denot) (u v w : Val)
      → ent 𝓤 (sep 𝓤 (sem 𝓛 (A.own_val x (u ∷ [])))
      (sep 𝓤 (sem 𝓛 (B.own_val y (v ∷ []))) (sem 𝓛 (C.own_val z (w ∷ [])))))
      (sem 𝓛 ((Tuple (A ∷ B ∷ C ∷ [])).own_val (x, y, z) (triple_val u v w ∷ [])))
  triple_made A B C x y z u v w =
      qed 𝓛 (‵ (A.own_val x (u ∷ [])) ∷ ‵ (B.own_val y (v ∷ [])) ∷ ‵ (C.own_val z (w ∷ [])) ∷ []) ∵
      nothing ! $ move ! (3 ∷ 0 ∷ []) $ fjoin ! $ move ! (2 ∷ 0 ∷ []) $ fjoin ! $ move ! (1 ∷ 0 ∷ []) $ fjoin ! $
      feq_i ! (List Val) (triple_val u v w ∷ []) (triple_val u v w ∷ []) refl $ fjoin ! $
      fpack ! (Valss (A ∷ B ∷ C ∷ []))
      (within (Declared.shape (tuple_type (A ∷ B ∷ C ∷ []))) (x, (y, (z, tt))) (triple_val u v w ∷ []))
      (u ∷ [], (v ∷ [], (w ∷ [], tt))) $ done !
