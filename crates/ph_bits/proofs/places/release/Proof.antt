-- `release` makes the places one block again, and hands it back with the allocator's token. Assumes `Logic`.
use Rattle.ph_bits.proofs.Walks.{◌≡◌, ℕ, ◌*◌, ◌^◌, ◌<◌, List, [], ◌∷◌, refl, sym, ◌∙◌, subst, arith, length, lit<, proved, full_share, id⊢, ftrue, fat, flft}
use Rattle.ph_bits.proofs.Walks.{froom, ty_int, named, w64, Val, vunit, fact, tables, ‵, raw, ◌⊛◌, at_ret, ◌$◌, ◌∵◌, !, qed, done, move, keep, drop, use1}
use Rattle.ph_bits.proofs.Walks.{split, join, group, rewrite, fsplit, fjoin, flt_l, feq_i, suffices, whole, sub, enter, of_opd, and_then, no_more, bin, lit}
use Rattle.ph_bits.proofs.Walks.{unit_lit, stop, fld, first, blocks, exec, returns, take_at, give_at, layout, word, word-Good, alloc_all, pass_all, free_all}
use Rattle.ph_bits.proofs.Walks.{look_at, get, get_in, lands_last, sets, env, usize, yes, no, uint_vals, uint_Tells, Ptr, block_ptr, in_a_block, owns, plain}
use Rattle.ph_bits.proofs.Walks.{nothing, heard, Stays, walk_of, stay_dropped, Goes-dropped, ends_at, after}
use base.Fml.{Incl-trans}
use contract.BorrowLft.{◌⊑◌}
use denote.Builtin.{RefOf}
use denote.Param.{param, bounded}
use denote.Param.Laws.{param_laws}
use denote.Ref.{ShrRef, shr_vals, shr_Tells}
use denote.RattleType.{RattleType}
use denote.Triple.Call.{calls_at_last}
use denote.Triple.Table.{framed}
use lib.Dec.{T}
use mir.MapTy.{inst_fn}
use mir.Syntax.{Ty, Fn, Args, ty_array, ty_unit, a_type, dcons, dnil}
use mir.Val.{has_ty, WT}
use prog.Capped.{capped_is}
use types.Kit.{given, later, await, learn}
use Rattle.std.proofs.alloc.Calls.{Al, Gives, at_gives, Gives-goes, Gives-Gives, Goes-blank}
use Rattle.ph_bits.specs.Memory.{block_owns, right_owns}
use Rattle.ph_bits.specs.contracts.places.release as f
use Rattle.ph_bits.specs.contracts.places.Start.{the_row as S}
use Rattle.ph_bits.specs.contracts.places.Places.{the_row as P}
use Rattle.ph_bits.specs.contracts.places.Right as R
use Rattle.ph_bits.proofs.places.Start.TheLaws.{lowers}
use Rattle.ph_bits.proofs.places.Places.TheLaws.{lowers as places-lowers}
use Rattle.ph_bits.proofs.places.Right.TheLaws.{lowers as right-lowers}
use Rattle.ph_bits.proofs.places.release.Statement.{statement}
use Rattle.ph_bits.proofs.places.release.Code as code
use Rattle.ph_bits.proofs.PlaceSteps.{to_room}

pub release_spec : {M : Type 1} → statement M
release_spec 𝓤 𝓛 𝓜 𝓡 wired A L g d dd met md =
    let Z : Al = record { row = A; laws = L; g = g; d = d; drops = dd } in
    let C = f.ended A g d dd in
    let c = f.clauses A g d dd 𝓛 𝓜.mem 𝓡.returns in
    let Ar : RattleType = param 0 A in
    let Right : RattleType = R.the_row Ar g in
    let args : Args = bounded (a_type ∷ []) (A, tt) (dcons d (dcons dd dnil)) in
    let function : Fn = inst_fn args code.function in
    let stayed : Stays C.signature.params C.kept = (
      stay_dropped (RefOf (0 ∷ []) tt (plain (λ _. Ar)) (λ _. tt)) yes,
      (
        stay_dropped (plain (λ _. S)) yes,
        (
          stay_dropped (plain (λ _. usize)) yes,
          (stay_dropped (plain (λ _. P)) yes, (stay_dropped (plain (λ _. Right)) no, tt)),
        ),
      ),
    ) in
    let W = walk_of 𝓛 C stayed c in let 𝓣 = tables 𝓤 𝓛.H 𝓜 𝓡 𝓡.env in
    proved 𝓛 C stayed c 𝓜 𝓡 (
      Goes-dropped 𝓛 2 (RefOf (0 ∷ []) tt (plain (λ _. Ar)) (λ _. tt)) yes (λ κs x w. refl),
      (
        Goes-dropped 𝓛 2 (plain (λ _. S)) yes (λ κs x w. refl),
        (
          Goes-dropped 𝓛 2 (plain (λ _. usize)) yes (λ κs x w. refl),
          (Goes-blank 𝓛 2 (plain (λ _. P)) yes (λ κs x w. tt), (Goes-blank 𝓛 2 (plain (λ _. Right)) no (λ κs x w. tt), tt)),
        ),
      ),
    )
    (f.Key.name args) function (code.unfolded 𝓤 𝓛.H 𝓜 𝓡 wired (A, tt) d dd)
    (λ κs. (
      shr_vals,
      (
        (λ s. lowers.lowered s ∷ []),
        (
          uint_vals w64,
          (
            (λ p. places-lowers.lowered p ∷ []),
            ((λ r. (right-lowers Ar g (param_laws 0 A L)).lowered r ∷ []), tt),
          ),
        ),
      ),
    ))
    (λ κs. (
      shr_Tells (named 0) κs.0 Ar,
      (
        lowers.val_is,
        (
          uint_Tells w64,
          (places-lowers.val_is, ((right-lowers Ar g (param_laws 0 A L)).val_is, tt)),
        ),
      ),
    )) (λ κs qs bounds a _ are.
    let κ = κs.0 in let q = qs.0 in let heap = a.0.now in let start = a.1.0 in let room = a.1.1.0 in let cells = a.1.1.1.0 in let right = a.1.1.1.1.0 in
    let vss : List Val × (List Val × (List Val × (List Val × (List Val × Unit {0})))) = (
      shr_vals a.0,
      (
        lowers.lowered start ∷ [],
        (
          uint_vals w64 room,
          (
            places-lowers.lowered cells ∷ [],
            ((right-lowers Ar g (param_laws 0 A L)).lowered right ∷ [], tt),
          ),
        ),
      ),
    ) in
    let y : W.Ghost = ((κs, qs, bounds, a, vss), tt) in
    let others = ‵ (flft κs.1.0 qs.1.0) ⊛ ‵ ftrue in
    let Asks = (start.at ≡ cells.at) × (length cells.slots ≡ room) × (right.at ≡ cells.at) × (right.room ≡ room) × (right.alloc ≡ heap) × (0 < room) × (room < 2 ^ 32) in
    qed 𝓛 (((‵ (flft κ q) ⊛ others) ⊛ ‵ (owns (ShrRef (named 0) κ Ar ∷ S ∷ usize ∷ P ∷ Right ∷ []) a vss)) ∷ (raw (fact 𝓤 (κs.1.0 ⊑ A.lives)) ⊛ raw (fact 𝓤 Asks)) ∷ []) ∵
    move ! (1 ∷ []) $ split ! $ heard ! _
    (λ within. heard ! _ (λ asked. split ! $ split ! $ move ! (2 ∷ []) $ fsplit ! $ fsplit ! $ drop ! $ move !
    (1 ∷ []) $ fsplit ! $ drop ! $ fsplit ! $ drop ! $
    fsplit ! $ fsplit ! $ drop ! $ move ! (1 ∷ []) $ fsplit ! $ fsplit ! $ drop ! $
    -- [the right; nothing; the places; the handle; its token; the other tokens]
    keep ! (2 ∷ 0 ∷ 3 ∷ 4 ∷ 5 ∷ []) $
    enter ! _ _ _ _ _ $ alloc_all !
    (λ l. pass_all ! refl (
      (tt, tt),
      (word-Good [] start.at, ((tt, record { fits = are.1.1.0.1 }), ((tt, (tt, tt)), ((tt, (tt, tt)), tt)))),
    ) $
    let τ : Ty = ty_array (ty_int w64) room in
    in_a_block ! cells.at (λ p. block_owns p cells.slots) (id⊢ 𝓤 _) (λ b o e. fsplit ! $ flt_l ! (λ small.
    let bytes : room * 8 < 2 ^ 64 = omega (arith, asked.6) in
    let z = at_gives Z 𝓛 𝓜.mem 𝓡.returns κ q a.0.ref_ptr heap b o (room * 8) 8 τ in
    use1 𝓛 (‵ (froom (ty_array (ty_int w64) (length cells.slots)) b o)) (to_room 𝓛 b cells.slots o) $
    rewrite ! 0 (λ (n : ℕ). ‵ (froom (ty_array (ty_int w64) n) b o)) asked.1 refl $ move ! (1 ∷ []) $
    rewrite ! 0 (λ (r : A.Denot × Ptr × ℕ). ‵ (right_owns (g.dealloc_token r.0) r.1 r.2)) (λ j. (asked.4 j, (asked.2 ∙ e) j, asked.3 j)) refl $
    use1 𝓛 (‵ (g.dealloc_token heap τ (block_ptr b o))) (id⊢ 𝓤 _) $ move ! (1 ∷ 0 ∷ []) $
    take_at ! 2 $ rewrite ! 0 (λ (p : Ptr). ‵ (fat full_share (layout S) (l 2) 0 (word p))) (asked.0 ∙ e) refl $ give_at ! 2 $ first ! $ blocks ! $
    sets ! (of_opd ! (get_in ! (fld ! refl (stop !)) (sub ! 0 refl (whole !)))) refl (tt, tt) $
    sets ! (bin ! (get ! refl) (lit ! tt) (record { fits = bytes })) refl (tt, record { fits = bytes }) $
    group ! 4 $ use1 𝓛 (raw ((Gives Z 𝓛 𝓜.mem 𝓡.returns).pre z))
    (Gives-goes Z 𝓛 𝓜.mem 𝓡.returns κ q a.0.ref_ptr heap (Incl-trans bounds.0 within) b o (room * 8) 8 τ
    (capped_is (room * 8) bytes) refl bytes (lit< tt)) $
    calls_at_last ! (framed 𝓤 𝓛.H 𝓜 𝓣) (Gives Z 𝓛 𝓜.mem 𝓡.returns) (met.deallocate dd) z
    (and_then ! (get ! refl) (and_then ! (get ! refl) (and_then ! (get ! refl) (and_then ! (lit ! tt) (no_more !))))) (λ v.
    use1 𝓛 (later (given (v ≡ vunit) (‵ (flft κ q)))) (Gives-Gives Z 𝓛 𝓜.mem 𝓡.returns κ q a.0.ref_ptr heap b o (room * 8) 8 τ v) $ await ! tt $ learn ! (λ done_with.
    lands_last ! refl (subst (λ (u : Val). T (has_ty ty_unit u) × WT u) (sym done_with) (tt, tt)) $ exec ! 𝓣.C 𝓣.Λ
    (env function.locals l) (after 1 function.body) (at_ret _ (W.post y)) $
    sets ! (of_opd ! (unit_lit !)) refl (tt, tt) $ returns ! (look_at ! 0 refl) $ free_all ! refl $ keep ! (0 ∷ 1 ∷ []) $
    suffices ! _ (ends_at 𝓛 C stayed c y vunit tt (tt, (tt, (tt, (tt, (tt, tt))))) (tt, (tt, (tt, (tt, (tt, tt)))))) $
    join ! $ feq_i ! _ (vunit ∷ []) _ refl $ nothing ! $ nothing ! $ fjoin ! $ nothing ! $ fjoin ! $ nothing ! $ fjoin
    ! $ nothing ! $ fjoin ! $ nothing ! $ fjoin ! $ join ! $
    move ! (1 ∷ 0 ∷ []) $ join ! $ nothing ! $ move ! (1 ∷ 0 ∷ []) $ done !))))))))
