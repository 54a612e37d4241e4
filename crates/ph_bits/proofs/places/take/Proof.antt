-- `take` cuts the new block into places, and keeps the right to give it back. Assumes `Logic`.
use Rattle.ph_bits.proofs.Walks.{◌*◌, ◌^◌, ◌<◌, List, [], ◌∷◌, refl, sym, subst, arith, length, length-replicate, None, replicate, lit<, true}
use Rattle.ph_bits.proofs.Walks.{false, Ok, Err, proved, id⊢, ftrue, flft, ty_int, named, w64, Val, vstruct, vcons, vnil, fact, tables, ‵}
use Rattle.ph_bits.proofs.Walks.{raw, ◌⊛◌, at_ret, ◌$◌, ◌∵◌, !, qed, done, move, keep, use0, use1, use2, use3, split, join, fsplit, fjoin}
use Rattle.ph_bits.proofs.Walks.{flt_i, suffices, frame, whole, agg, enter, of_opd, and_then, no_more, bin, lit, stop, fld, first, exec}
use Rattle.ph_bits.proofs.Walks.{returns, word, word-Good, alloc_all, pass_all, free_all, look_at, get, get_in, get_tag, lands_as, sets}
use Rattle.ph_bits.proofs.Walks.{sets_last, env, usize, yes, uint_vals, uint_Tells, Ptr, block_ptr, owns, plain, nothing, heard, Stays}
use Rattle.ph_bits.proofs.Walks.{walk_of, says, stay_dropped, Goes-dropped, ends_at, after, head, arm_body}
use base.Fml.{Incl-trans}
use contract.BorrowLft.{◌⊑◌}
use denote.Builtin.{RefOf}
use denote.Laws.{Is}
use denote.Param.{param, layout, bounded}
use denote.Ref.{ShrRef, shr_vals, shr_Tells}
use denote.RattleType.{RattleType}
use denote.Steps.{owned}
use denote.Struct.Struct.{Struct, Struct-Makes}
use denote.Struct.Declared as Declared
use denote.Struct.Tuple.{Tuple}
use denote.Triple.Call.{calls_at}
use denote.Triple.Table.{framed}
use mir.MapTy.{inst_fn}
use mir.Syntax.{Ty, Body, Fn, Args, ty_array, a_type, dcons, dnil}
use prog.Capped.{capped_is}
use prog.Wp.{Env, Wp, after_seq, at_return}
use types.Kit.{Post as After, any_q, later, await}
use types.Match.{live, vrt, in_variant}
use types.Run.{switches_on}
use Rattle.std.proofs.alloc.Calls.{Al, Answer-typed, Takes, at_takes, Answered, Takes-goes, Takes-gives, answers}
use Rattle.std.proofs.RcSteps.{Good, first_Good}
use Rattle.std.proofs.ResultValues.{ok_of, err_of}
use Rattle.std.specs.contracts.result.Result as RS
use Rattle.std.specs.contracts.alloc.AllocError as AE
use Rattle.ph_bits.specs.Memory.{places, right_owns}
use Rattle.ph_bits.specs.contracts.places.take as f
use Rattle.ph_bits.specs.contracts.places.Start.{the_row as S}
use Rattle.ph_bits.specs.contracts.places.Places.{the_row as P}
use Rattle.ph_bits.specs.contracts.places.Right as R
use Rattle.ph_bits.proofs.places.take.Statement.{statement}
use Rattle.ph_bits.proofs.places.take.Code as code
use Rattle.ph_bits.proofs.PlaceSteps.{of_room}
use Rattle.ph_bits.proofs.Made.{Mark, mark, mark_made, start_made, triple_val, triple_made}

pub take_spec : {M : Type 1} → statement M
take_spec 𝓤 𝓛 𝓜 𝓡 wired A L g d dd met md =
    let Z : Al = record { row = A; laws = L; g = g; d = d; drops = dd } in
    let T = f.ended A g d dd in
    let c = f.clauses A g d dd 𝓛 𝓜.mem 𝓡.returns in
    let Ar : RattleType = param 0 A in
    let Right : RattleType = R.the_row Ar g in
    let Three : RattleType = Tuple (S ∷ P ∷ Right ∷ []) in
    let Out : RattleType = RS.the_row Three AE.the_row in
    let args : Args = bounded (a_type ∷ []) (A, tt) (dcons d (dcons dd dnil)) in
    let function : Fn = inst_fn args code.function in
    let stayed : Stays T.signature.params T.kept = (stay_dropped (RefOf (0 ∷ []) tt (plain (λ _. Ar)) (λ _. tt)) yes, (stay_dropped (plain (λ _. usize)) yes, tt)) in
    let W = walk_of 𝓛 T stayed c in let 𝓣 = tables 𝓤 𝓛.H 𝓜 𝓡 𝓡.env in
    proved 𝓛 T stayed c 𝓜 𝓡
    (Goes-dropped 𝓛 2 (RefOf (0 ∷ []) tt (plain (λ _. Ar)) (λ _. tt)) yes (λ κs x w. refl), (Goes-dropped 𝓛 2 (plain (λ _. usize)) yes (λ κs x w. refl), tt))
    (f.Key.name args) function (code.unfolded 𝓤 𝓛.H 𝓜 𝓡 wired (A, tt) d dd)
    (λ κs. (shr_vals, (uint_vals w64, tt))) (λ κs. (shr_Tells (named 0) κs.0 Ar, (uint_Tells w64, tt))) (λ κs qs bounds a _ are.
    let κ = κs.0 in let q = qs.0 in let heap = a.0.now in let room = a.1.0 in
    let vss : List Val × (List Val × Unit {0}) = (shr_vals a.0, (uint_vals w64 room, tt)) in
    let y : W.Ghost = ((κs, qs, bounds, a, vss), tt) in
    let others = ‵ (flft κs.1.0 qs.1.0) ⊛ ‵ ftrue in
    qed 𝓛 (((‵ (flft κ q) ⊛ others) ⊛ ‵ (owns (ShrRef (named 0) κ Ar ∷ usize ∷ []) a vss)) ∷
    (raw (fact 𝓤 (κs.1.0 ⊑ A.lives)) ⊛ raw (fact 𝓤 ((0 < room) × (room < 2 ^ 32)))) ∷ []) ∵
    move ! (1 ∷ []) $ split ! $ heard ! _ (λ within. heard ! _ (λ asked. split ! $ split ! $ move ! (2 ∷ []) $ fsplit ! $ fsplit ! $ keep ! (1 ∷ 3 ∷ 4 ∷ []) $
    enter ! _ _ _ _ _ $ alloc_all ! (λ l. pass_all ! refl ((tt, tt), ((tt, record { fits = are.1.0.1 }), tt)) $
    let En : Env 𝓤 𝓛.H = env function.locals l in
    let both : Body = head (after 2 function.body) in
    let Then : After 𝓤 𝓛.H = any_q (after_seq 𝓤 𝓛.H (Wp 𝓤 𝓛.H 𝓣.C 𝓣.Λ En (after 3 function.body) (at_return 𝓤 𝓛.H En (W.post y))) (at_return 𝓤 𝓛.H En (W.post y))) in
    let τ : Ty = ty_array (ty_int w64) room in
    let bytes : room * 8 < 2 ^ 64 = omega (arith, asked.1) in
    let z = at_takes Z 𝓛 𝓜.mem 𝓡.returns κ q a.0.ref_ptr heap (room * 8) 8 τ in
    sets ! (bin ! (get ! refl) (lit ! tt) (record { fits = bytes })) refl (tt, record { fits = bytes }) $
    use2 𝓛 (raw ((Takes Z 𝓛 𝓜.mem 𝓡.returns).pre z))
    (Takes-goes Z 𝓛 𝓜.mem 𝓡.returns κ q a.0.ref_ptr heap (Incl-trans bounds.0 within) (room * 8) 8 τ
    (capped_is (room * 8) bytes) refl bytes (lit< tt)) $
    calls_at ! (framed 𝓤 𝓛.H 𝓜 𝓣) (Takes Z 𝓛 𝓜.mem 𝓡.returns) (met.allocate dd) z
    (and_then ! (get ! refl) (and_then ! (get ! refl) (and_then ! (lit ! tt) (no_more !)))) (λ v.
    use1 𝓛 (later (raw (Answered Z 𝓛 𝓜.mem 𝓡.returns heap τ v) ⊛ ‵ (flft κ q)))
    (Takes-gives Z 𝓛 𝓜.mem 𝓡.returns κ q a.0.ref_ptr heap (room * 8) 8 τ v) $ await ! tt $ split ! $
    answers Z ! 𝓜.mem 𝓡.returns heap τ v
    (λ b o e.
    let p : Ptr = block_ptr b o in
    let start : S.Denot = record { at = p } in
    let cells : P.Denot = record { mark = record {}; at = p; slots = replicate room None } in
    let right : Right.Denot = record { mark = record {}; at = p; room = room; alloc = heap } in
    let made : Val = triple_val (word p) mark mark in
    let typed : Good (layout Three) made = (tt, ((tt, tt), ((tt, tt), ((tt, tt), tt)))) in
    let ok = first_Good (layout Three) made typed in
    lands_as ! e refl (Answer-typed true b o) $ first ! $ switches_on !
    (get_tag ! (vrt ! refl (fld ! refl (stop !))) (whole !)) $ exec ! 𝓣.C 𝓣.Λ En (arm_body 0 both) Then $
    sets ! (of_opd ! (get_in ! (vrt ! refl (fld ! refl (stop !))) (in_variant ! 0 0 refl refl (whole !)))) refl (tt, tt) $ sets ! (of_opd ! (get ! refl)) refl (tt, tt) $
    sets ! (agg ! (and_then ! (get ! refl) (no_more !))) refl (word-Good [] p) $
    sets ! (agg ! (no_more !)) refl (tt, tt) $ sets ! (agg ! (and_then ! (get ! refl) (no_more !))) refl (tt, (tt, tt)) $
    sets ! (agg ! (no_more !)) refl (tt, tt) $ sets ! (agg ! (and_then ! (get ! refl) (no_more !))) refl (tt, (tt, tt)) $
    sets ! (agg ! (and_then ! (get ! refl) (and_then ! (get ! refl) (and_then ! (get ! refl) (no_more !))))) refl typed $
    sets_last ! (agg ! (and_then ! (lit ! tt) (and_then ! (get ! refl) (no_more !)))) refl ok $
    exec ! 𝓣.C 𝓣.Λ En (after 3 function.body) (at_ret En (W.post y)) $ sets ! (of_opd ! (get ! refl)) refl ok $
    move ! (1 ∷ []) $ use1 𝓛 (‵ (right_owns (g.dealloc_token heap) p room)) (id⊢ 𝓤 _) $
    use0 𝓛 (‵ (Mark.own_val (tt, tt) (mark ∷ []))) (mark_made 𝓛) $ fjoin ! $ move ! (1 ∷ []) $
    use1 𝓛 (‵ (places b o cells.slots)) (of_room 𝓛 b room o) $
    flt_i ! (length cells.slots * 8) (2 ^ 63) (subst (λ k. k * 8 < 2 ^ 63) (sym (length-replicate room None)) (omega (arith, asked.1))) $ fjoin ! $
    use0 𝓛 (‵ (Mark.own_val (tt, tt) (mark ∷ []))) (mark_made 𝓛) $ fjoin ! $ use0 𝓛 (‵ (S.own_val start (word p ∷ []))) (start_made 𝓛 p) $
    use3 𝓛 (‵ (Three.own_val (start, cells, right) (made ∷ []))) (triple_made 𝓛 S P Right start cells right (word p) mark mark) $
    use1 𝓛 (‵ (Out.own_val (Ok (start, cells, right)) (live 0 (vcons made vnil) ∷ []))) (ok_of 𝓛 Three AE.the_row (start, cells, right) made) $
    returns ! (look_at ! 0 refl) $ free_all ! refl $ keep ! (0 ∷ 1 ∷ 2 ∷ []) $
    suffices ! _ (ends_at 𝓛 T stayed c y (live 0 (vcons made vnil)) (Ok (start, cells, right)) (tt, (tt, tt)) (tt, (tt, tt))) $ says ! (refl, refl, refl, refl, refl) $
    move ! (1 ∷ 2 ∷ []) $ join ! $ frame ! $ nothing ! $ nothing ! $ fjoin ! $ nothing ! $ fjoin ! $ done !)
    (λ e.
    let Refusal : RattleType = Struct (Declared.shape AE.the_type) in
    let none : Val = live 1 (vcons (vstruct vnil) vnil) in
    lands_as ! e refl (Answer-typed false 0 0) $ first ! $ switches_on !
    (get_tag ! (vrt ! refl (fld ! refl (stop !))) (whole !)) $ exec ! 𝓣.C 𝓣.Λ En (arm_body 1 both) Then $
    sets ! (of_opd ! (get_in ! (vrt ! refl (fld ! refl (stop !))) (in_variant ! 1 0 refl refl (whole !)))) refl (tt, tt) $
    sets_last ! (agg ! (and_then ! (lit ! tt) (and_then ! (get ! refl) (no_more !)))) refl (tt, (record { fits = lit< tt }, (tt, tt))) $
    exec ! 𝓣.C 𝓣.Λ En (after 3 function.body) (at_ret En (W.post y)) $ sets ! (of_opd ! (get ! refl)) refl (tt, (record { fits = lit< tt }, (tt, tt))) $
    owned ! Refusal (Is Refusal) (Struct-Makes 𝓛 (Declared.shape AE.the_type) tt) tt (vstruct vnil ∷ []) (tt, (refl, tt)) $
    use1 𝓛 (‵ (Out.own_val (Err (record {})) (none ∷ []))) (err_of 𝓛 Three AE.the_row (record {}) (vstruct vnil)) $
    returns ! (look_at ! 0 refl) $ free_all ! refl $ keep ! (0 ∷ 1 ∷ 2 ∷ []) $
    suffices ! _ (ends_at 𝓛 T stayed c y none (Err (record {})) (tt, (tt, tt)) (tt, (tt, tt))) $ says ! tt $
    move ! (1 ∷ 2 ∷ []) $ join ! $ frame ! $ nothing ! $ nothing ! $ fjoin ! $ nothing ! $ fjoin ! $ done !))))))
