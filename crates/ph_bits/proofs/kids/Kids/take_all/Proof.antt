-- `take_all` hands the values of the other block and the last places of this one to a copy, and their room goes to the other's places.
-- Assumes `Logic`.
use Rattle.ph_bits.proofs.Walks.{vunit, take, replicate, length-take, length-replicate, behind, unit_lit, ◌≡◌, ℕ, ◌+◌, ◌*◌, ◌^◌, ◌<◌, List, [], ◌∷◌, ◌++◌}
use Rattle.ph_bits.proofs.Walks.{refl, sym, subst, ◌∙◌, ap, arith, length, length-append, length-drop, Option, None, full_share, id⊢, ftrue, fat, flft}
use Rattle.ph_bits.proofs.Walks.{froom, named, w64, Val, fact, tables, ‵, raw, ◌⊛◌, at_ret, ◌$◌, ◌∵◌, !, qed, done, move, keep, drop, use1, use2, use3}
use Rattle.ph_bits.proofs.Walks.{split, join, fsplit, fsplit3, fjoin, fjoin3, flt_l, flt_i, feq_i, rewrite, suffices, frame, whole, sub, enter, of_opd}
use Rattle.ph_bits.proofs.Walks.{and_then, no_more, bin, lit, stop, fld, first, blocks, exec, returns, take_at, give_at, layout, word, word-Good}
use Rattle.ph_bits.proofs.Walks.{alloc_all, pass_all, free_all, look_at, get, get_in, sets, lands_last, env, usize, yes, proved, uint_vals, uint_Tells}
use Rattle.ph_bits.proofs.Walks.{Ptr, block_ptr, in_a_block, owns, MutRef, mut_vals, mut_Tells, plain, nothing, opens, closes, heard, Stays, walk_of}
use Rattle.ph_bits.proofs.Walks.{says, stay_dropped, Goes-dropped, stay_ref, Goes-ref, ends_at, after}
use contract.BorrowLft.{◌⊑◌}
use denote.Array.{Array}
use denote.Memory.{part_at}
use denote.Param.{param}
use denote.RattleType.{RattleType}
use denote.Triple.Call.{calls_at_last}
use denote.Triple.Table.{framed}
use mir.MapTy.{inst_fn}
use mir.Syntax.{Fn, ty_array}
use prog.Memory.{size}
use lib.Dec.{T as Holds}
use mir.Syntax.{ty_unit}
use mir.Val.{has_ty, WT}
use types.Kit.{given, later, await, learn, split3}
use Rattle.std.proofs.alloc.Moves.{Copies, at_copies, Copies-goes, Copies-gives}
use Rattle.std.proofs.ptr.copy_nonoverlapping.Met as callee
use Rattle.ph_bits.specs.Kids.{IsWord, kids, kids_own}
use Rattle.ph_bits.specs.Memory.{places, block_owns}
use Rattle.ph_bits.specs.contracts.kids.Kids.take_all as f
use Rattle.ph_bits.specs.contracts.kids.Kids as K
use Rattle.ph_bits.specs.contracts.places.Places.{the_row as P}
use Rattle.ph_bits.specs.contracts.places.Start.{the_row as S}
use Rattle.ph_bits.proofs.places.Start.TheLaws.{lowers}
use Rattle.ph_bits.proofs.kids.Kids.take_all.Statement.{statement}
use Rattle.ph_bits.proofs.kids.Kids.take_all.Code as code
use Rattle.ph_bits.proofs.KidSteps.{to_array, of_array, to_space, of_space, at_type}
use Rattle.ph_bits.proofs.PlaceSteps.{front_out, front_in}

pub take_all_spec : {M : Type 1} → statement M
take_all_spec 𝓤 𝓛 𝓜 𝓡 wired X LX =
    let T = f.ended X in let c = f.clauses X 𝓛 𝓜.mem 𝓡.returns in
    let R : RattleType = param 0 X in let Kr : RattleType = K.the_row R in
    let function : Fn = inst_fn (at_type X) code.function in
    let stayed : Stays T.signature.params T.kept = (
      stay_ref (0 ∷ []) tt (plain (λ _. Kr)),
      (
        stay_ref (1 ∷ []) tt (plain (λ _. P)),
        (
          stay_dropped (plain (λ _. S)) yes,
          (
            stay_dropped (plain (λ _. usize)) yes,
            (
              stay_ref (2 ∷ []) tt (plain (λ _. Kr)),
              (
                stay_ref (3 ∷ []) tt (plain (λ _. P)),
                (
                  stay_dropped (plain (λ _. S)) yes,
                  (stay_dropped (plain (λ _. usize)) yes, (stay_dropped (plain (λ _. usize)) yes, tt)),
                ),
              ),
            ),
          ),
        ),
      ),
    ) in
    let W = walk_of 𝓛 T stayed c in let 𝓣 = tables 𝓤 𝓛.H 𝓜 𝓡 𝓡.env in
    let word_goes = Goes-dropped 𝓛 5 (plain (λ _. usize)) yes (λ κs x w. refl) in
    let start_goes = Goes-dropped 𝓛 5 (plain (λ _. S)) yes (λ κs x w. refl) in
    proved 𝓛 T stayed c 𝓜 𝓡 (
      Goes-ref 𝓛 5 0 tt (plain (λ _. Kr)),
      (
        Goes-ref 𝓛 5 1 tt (plain (λ _. P)),
        (
          start_goes,
          (
            word_goes,
            (
              Goes-ref 𝓛 5 2 tt (plain (λ _. Kr)),
              (Goes-ref 𝓛 5 3 tt (plain (λ _. P)), (start_goes, (word_goes, (word_goes, tt)))),
            ),
          ),
        ),
      ),
    )
    (f.Key.name (at_type X)) function (code.unfolded 𝓤 𝓛.H 𝓜 𝓡 wired (X, tt))
    (λ κs. (
      mut_vals,
      (
        mut_vals,
        (
          (λ s. lowers.lowered s ∷ []),
          (uint_vals w64, (mut_vals, (mut_vals, ((λ s. lowers.lowered s ∷ []), (uint_vals w64, (uint_vals w64, tt)))))),
        ),
      ),
    ))
    (λ κs. (
      mut_Tells (named 0) κs.0 Kr,
      (
        mut_Tells (named 1) κs.1.0 P,
        (
          lowers.val_is,
          (
            uint_Tells w64,
            (
              mut_Tells (named 2) κs.1.1.0 Kr,
              (mut_Tells (named 3) κs.1.1.1.0 P, (lowers.val_is, (uint_Tells w64, (uint_Tells w64, tt)))),
            ),
          ),
        ),
      ),
    )) (λ κs qs bounds a _ are.
    let κ₀ = κs.0 in let q₀ = qs.0 in let b₀ = a.0.ref_ptr.0 in let o₀ = a.0.ref_ptr.1 in let d = a.0.now in
    let κ₁ = κs.1.0 in let q₁ = qs.1.0 in let b₁ = a.1.0.ref_ptr.0 in let o₁ = a.1.0.ref_ptr.1 in let p = a.1.0.now in
    let start = a.1.1.0 in let last = a.1.1.1.0 in
    let κ₂ = κs.1.1.0 in let q₂ = qs.1.1.0 in let b₂ = a.1.1.1.1.0.ref_ptr.0 in let o₂ = a.1.1.1.1.0.ref_ptr.1 in let d' = a.1.1.1.1.0.now in
    let κ₃ = κs.1.1.1.0 in let q₃ = qs.1.1.1.0 in let b₃ = a.1.1.1.1.1.0.ref_ptr.0 in let o₃ = a.1.1.1.1.1.0.ref_ptr.1 in let p' = a.1.1.1.1.1.0.now in
    let other = a.1.1.1.1.1.1.0 in let from = a.1.1.1.1.1.1.1.0 in let len = a.1.1.1.1.1.1.1.1.0 in
    let κ = κs.1.1.1.1.0 in let q = qs.1.1.1.1.0 in
    let vss : List Val × (List Val × (List Val × (List Val × (List Val × (List Val × (List Val × (List Val × (List Val × Unit {0})))))))) = (
      mut_vals a.0,
      (
        mut_vals a.1.0,
        (
          lowers.lowered start ∷ [],
          (
            uint_vals w64 last,
            (
              mut_vals a.1.1.1.1.0,
              (
                mut_vals a.1.1.1.1.1.0,
                (lowers.lowered other ∷ [], (uint_vals w64 from, (uint_vals w64 len, tt))),
              ),
            ),
          ),
        ),
      ),
    ) in
    let y : W.Ghost = ((κs, qs, bounds, a, vss), tt) in
    let others = ‵ (flft κ q) ⊛ ‵ ftrue in
    let Asks = (start.at ≡ d.at) × (start.at ≡ p.at) × (d.items ≡ []) × (length p.slots ≡ last + len) ×
    (other.at ≡ d'.at) × (other.at ≡ p'.at) × (from ≡ d'.from) × (from ≡ length p'.slots) ×
    (len ≡ length d'.items) × IsWord R in
    qed 𝓛 (((‵ (flft κ₀ q₀) ⊛ (‵ (flft κ₁ q₁) ⊛ (‵ (flft κ₂ q₂) ⊛ (‵ (flft κ₃ q₃) ⊛ others)))) ⊛
    ‵ (owns (MutRef (named 0) κ₀ Kr ∷ MutRef (named 1) κ₁ P ∷ S ∷ usize ∷ MutRef (named 2) κ₂ Kr ∷
    MutRef (named 3) κ₃ P ∷ S ∷ usize ∷ usize ∷ []) a vss)) ∷ (raw (fact 𝓤 (κ ⊑ X.lives)) ⊛ raw (fact 𝓤 Asks)) ∷ []) ∵
    move ! (1 ∷ []) $ split ! $ heard ! _
    (λ within. heard ! _ (λ asked. split ! $ split ! $ move ! (1 ∷ []) $ split ! $ move ! (1 ∷ []) $ split ! $
    move ! (1 ∷ []) $ split ! $
    move ! (5 ∷ []) $ fsplit ! $ fsplit3 ! $ move ! (3 ∷ []) $ fsplit ! $ fsplit3 ! $ move ! (3 ∷ []) $ fsplit ! $
    move ! (1 ∷ []) $ fsplit ! $ move ! (1 ∷ []) $ fsplit ! $ fsplit3 ! $ move ! (3 ∷ []) $ fsplit ! $ fsplit3 ! $
    -- [of each reference: what is observed, its borrow, its lifetime; the other lifetimes]
    keep ! (13 ∷ 14 ∷ 19 ∷ 10 ∷ 11 ∷ 18 ∷ 5 ∷ 6 ∷ 17 ∷ 1 ∷ 2 ∷ 15 ∷ 16 ∷ []) $
    enter ! _ _ _ _ _ $ alloc_all ! (λ l. pass_all ! refl (
      (tt, tt),
      (
        (tt, tt),
        (
          word-Good [] start.at,
          (
            (tt, record { fits = are.1.1.1.0.1 }),
            (
              (tt, tt),
              (
                (tt, tt),
                (
                  word-Good [] other.at,
                  ((tt, record { fits = are.1.1.1.1.1.1.1.0.1 }), ((tt, record { fits = are.1.1.1.1.1.1.1.1.0.1 }), tt)),
                ),
              ),
            ),
          ),
        ),
      ),
    ) $
    opens ! tt Kr {h = d} b₀ o₀ (λ vs₀. move ! (1 ∷ []) $ fsplit ! $ move ! (1 ∷ []) $ in_a_block ! d.at
    (λ z. kids_own R z d.from d.items) (id⊢ 𝓤 _) (λ b o e. fsplit ! $ flt_l ! (λ small. drop ! $
    let there : p.at ≡ block_ptr b o = sym asked.1 ∙ asked.0 ∙ e in
    let at : ℕ = last * 8 + o in
    let front : List (Option ℕ) = take last p.slots in
    let gone : List (Option ℕ) = behind last p.slots in
    let many : length gone ≡ len = omega (arith, length-drop last p.slots, asked.3) in
    move ! (5 ∷ 6 ∷ 7 ∷ []) $ opens ! tt P {h = p} b₁ o₁ (λ vs₁. move ! (1 ∷ []) $ fsplit ! $ move ! (1 ∷ []) $
    rewrite ! 0 (λ (z : Ptr). ‵ (block_owns z p.slots)) there refl $ fsplit ! $ flt_l ! (λ fitting.
    use1 𝓛 (‵ (places b o front) ⊛ ‵ (places b at gone)) (front_out 𝓛 b p.slots last o (omega (arith, asked.3))) $ split ! $ move ! (1 ∷ []) $
    use1 𝓛 (‵ (froom (ty_array (layout X) (length gone)) b at)) (to_space X LX asked.9 𝓛 b gone at) $ rewrite ! 0
    (λ k. ‵ (froom (ty_array (layout X) k) b at)) many refl $
    move ! (12 ∷ 13 ∷ 14 ∷ []) $ opens ! tt Kr {h = d'} b₂ o₂
    (λ vs₂. move ! (1 ∷ []) $ fsplit ! $ move ! (1 ∷ []) $ in_a_block ! d'.at (λ z. kids_own R z d'.from d'.items)
    (id⊢ 𝓤 _) (λ b' o' e'. fsplit ! $ flt_l ! (λ small'.
    let there' : p'.at ≡ block_ptr b' o' = sym asked.5 ∙ asked.4 ∙ e' in
    let xs : List R.Denot = d'.items in
    let src : ℕ = from * 8 + o' in
    let same : d'.from * 8 + o' ≡ src = ap (λ k. k * 8 + o') (sym asked.6) in
    rewrite ! 0 (λ k. ‵ (kids R b' k xs)) same refl $ use1 𝓛 (‵ (part_at (Array R len) full_share xs b' src)) (to_array X LX asked.9 𝓛 b' len xs src (sym asked.8)) $
    move ! (18 ∷ 19 ∷ 20 ∷ []) $ opens ! tt P {h = p'} b₃ o₃ (λ vs₃. move ! (1 ∷ []) $ fsplit ! $ move ! (1 ∷ []) $
    rewrite ! 0 (λ (z : Ptr). ‵ (block_owns z p'.slots)) there' refl $ fsplit ! $ flt_l ! (λ fitting'.
    move ! (24 ∷ []) $ split ! $ move ! (8 ∷ 14 ∷ 0 ∷ []) $
    -- [the values; their room; a lifetime; the other places, with 5 of their reference; 5 of the other values; the places in front, with 5; 5 of the values]
    let far : last * 8 < 2 ^ 64 = omega (arith, fitting, asked.3) in
    let far' : from * 8 < 2 ^ 64 = omega (arith, fitting', asked.7) in
    let small_len : len < 2 ^ 64 = are.1.1.1.1.1.1.1.1.0.1 in
    let sized : len * size (layout X) < 2 ^ 63 = subst (λ k. len * k < 2 ^ 63) (sym asked.9.0) (omega (arith, fitting, asked.3)) in
    take_at ! 3 $ rewrite ! 0 (λ (z : Ptr). ‵ (fat full_share (layout S) (l 3) 0 (word z))) (asked.0 ∙ e) refl $ give_at ! 3 $
    take_at ! 7 $ rewrite ! 0 (λ (z : Ptr). ‵ (fat full_share (layout S) (l 7) 0 (word z))) (asked.4 ∙ e') refl $ give_at ! 7 $
    first ! $ blocks ! $
    sets ! (bin ! (get ! refl) (lit ! tt) (record { fits = far' })) refl (tt, record { fits = far' }) $
    sets ! (bin ! (get_in ! (fld ! refl (stop !)) (sub ! 0 refl (whole !))) (get ! refl) tt) refl (tt, tt) $
    sets ! (of_opd ! (get ! refl)) refl (tt, tt) $
    sets ! (bin ! (get ! refl) (lit ! tt) (record { fits = far })) refl (tt, record { fits = far }) $
    sets ! (bin ! (get_in ! (fld ! refl (stop !)) (sub ! 0 refl (whole !))) (get ! refl) tt) refl (tt, tt) $
    sets ! (of_opd ! (get ! refl)) refl (tt, tt) $
    let z = at_copies X 𝓛 𝓜.mem 𝓡.returns κ q b' src b at len xs in
    use3 𝓛 (raw ((Copies X 𝓛 𝓜.mem 𝓡.returns).pre z)) (Copies-goes X 𝓛 𝓜.mem 𝓡.returns κ q b' src b at len xs within small_len sized) $
    calls_at_last ! (framed 𝓤 𝓛.H 𝓜 𝓣) (Copies X 𝓛 𝓜.mem 𝓡.returns)
    (callee.met 𝓤 𝓛 𝓜 𝓡 (code.calls-std::ptr::copy_nonoverlapping 𝓡.env wired) X LX) z
    (and_then ! (get ! refl) (and_then ! (get ! refl) (and_then ! (get ! refl) (no_more !)))) (λ v.
    use1 𝓛 (later (given (v ≡ vunit)
    (‵ (part_at (Array R len) full_share xs b at) ⊛ ‵ (froom (ty_array (layout X) len) b' src) ⊛ ‵ (flft κ q))))
    (Copies-gives X 𝓛 𝓜.mem 𝓡.returns κ q b' src b at len xs v) $
    await ! tt $ learn ! (λ done_so. split3 ! $ lands_last ! refl (subst (λ (u : Val). Holds (has_ty ty_unit u) × WT u) (sym done_so) (tt, tt)) $
    exec ! 𝓣.C 𝓣.Λ (env function.locals l) (after 1 function.body) (at_ret _ (W.post y)) $ sets ! (of_opd ! (unit_lit !)) refl (tt, tt) $
    let slots' : List (Option ℕ) = p'.slots ++ replicate len None in
    let new : Kr.Denot = record { mark = d.mark; at = d.at; from = last; items = xs } in
    let newp : P.Denot = record p { slots = front } in
    let new' : Kr.Denot = record { mark = d'.mark; at = d'.at; from = from + len; items = [] } in
    let newp' : P.Denot = record p' { slots = slots' } in
    let behind_them : src ≡ length p'.slots * 8 + o' = ap (λ k. k * 8 + o') asked.7 in
    let longer : length slots' ≡ from + len = length-append p'.slots (replicate len None) ∙ omega (arith, asked.7, length-replicate {A = Option ℕ} len None) in
    use1 𝓛 (‵ (kids R b at xs)) (of_array X LX asked.9 𝓛 b len xs at) $
    flt_i ! ((last + length xs) * 8) (2 ^ 63) (omega (arith, fitting, asked.3, asked.8)) $ fjoin ! $ rewrite ! 0 (λ (z : Ptr). ‵ (kids_own R z last xs)) (sym e) refl $
    move ! (21 ∷ 0 ∷ []) $ fjoin ! $ move ! (21 ∷ 0 ∷ 22 ∷ 23 ∷ 24 ∷ []) $ closes ! tt Kr new vs₀ b₀ o₀ $
    move ! (17 ∷ []) $ flt_i ! (length front * 8) (2 ^ 63) (omega (arith, fitting, length-take last p.slots)) $ fjoin
    ! $ rewrite ! 0 (λ (z : Ptr). ‵ (block_owns z front)) (sym there) refl $
    move ! (18 ∷ 0 ∷ []) $ fjoin ! $ move ! (18 ∷ 0 ∷ 19 ∷ 20 ∷ 21 ∷ []) $ closes ! tt P newp vs₁ b₁ o₁ $
    move ! (6 ∷ []) $ use1 𝓛 (‵ (places b' src (replicate len None))) (of_space X LX asked.9 𝓛 b' len src) $ rewrite !
    0 (λ k. ‵ (places b' k (replicate len None))) behind_them refl $
    move ! (9 ∷ 0 ∷ []) $ use2 𝓛 (‵ (places b' o' slots')) (front_in 𝓛 b' p'.slots (replicate len None) o') $
    flt_i ! (length slots' * 8) (2 ^ 63) (omega (arith, longer, small', asked.6, asked.8)) $ fjoin ! $ rewrite ! 0
    (λ (z : Ptr). ‵ (block_owns z slots')) (sym there') refl $
    move ! (9 ∷ 0 ∷ []) $ fjoin ! $ move ! (9 ∷ 0 ∷ 10 ∷ 11 ∷ 12 ∷ []) $ closes ! tt P newp' vs₃ b₃ o₃ $
    nothing ! $ flt_i ! ((from + len + 0) * 8) (2 ^ 63) (omega (arith, small', asked.6, asked.8)) $ fjoin ! $ rewrite
    ! 0 (λ (z : Ptr). ‵ (kids_own R z (from + len) [])) (sym e') refl $
    move ! (12 ∷ 0 ∷ []) $ fjoin ! $ move ! (12 ∷ 0 ∷ 13 ∷ 14 ∷ 15 ∷ []) $ closes ! tt Kr new' vs₂ b₂ o₂ $
    returns ! (look_at ! 0 refl) $ free_all ! refl $ keep ! (0 ∷ 1 ∷ 2 ∷ 3 ∷ 4 ∷ 5 ∷ 6 ∷ 7 ∷ 8 ∷ 9 ∷ 10 ∷ 11 ∷ 12 ∷ 13 ∷ []) $ feq_i ! _ (vunit ∷ []) _ refl $
    suffices ! _ (ends_at 𝓛 T stayed c y vunit tt (new, (newp, (tt, (tt, (new', (newp', (tt, (tt, (tt, tt)))))))))
    (tt, (tt, (tt, (tt, (tt, (tt, (tt, (tt, (tt, tt)))))))))) $
    says ! (refl, refl, refl, refl, refl, refl, refl, refl, refl, refl) $
    move ! (13 ∷ 14 ∷ []) $ join ! $ move ! (7 ∷ 0 ∷ []) $ join ! $ move ! (4 ∷ 0 ∷ []) $ join ! $ move ! (8 ∷ 0 ∷ [])
    $ join ! $ move ! (10 ∷ 0 ∷ []) $ join ! $ frame ! $
    move ! (7 ∷ 8 ∷ []) $ feq_i ! _ (mut_vals a.0) _ refl $ fjoin3 ! $ move ! (6 ∷ 7 ∷ []) $ feq_i ! _ (mut_vals a.1.0) _ refl $ fjoin3 ! $
    move ! (5 ∷ 6 ∷ []) $ feq_i ! _ (mut_vals a.1.1.1.1.1.0) _ refl $ fjoin3 ! $ move ! (4 ∷ 5 ∷ []) $ feq_i ! _ (mut_vals a.1.1.1.1.0) _ refl $ fjoin3 ! $
    nothing ! $ nothing ! $ fjoin ! $ nothing ! $ fjoin ! $ nothing ! $ fjoin ! $ move ! (2 ∷ 0 ∷ []) $ fjoin ! $ move ! (1 ∷ 0 ∷ []) $ fjoin ! $
    nothing ! $ fjoin ! $ nothing ! $ fjoin ! $ move ! (1 ∷ 0 ∷ []) $ fjoin ! $ move ! (1 ∷ 0 ∷ []) $ fjoin ! $ done !))))))))))))))))
