-- `write` fills a place, whatever it had. Assumes `Logic`.
use Rattle.ph_bits.proofs.Walks.{◌≡◌, ℕ, ◌+◌, ◌*◌, ◌^◌, ◌<◌, List, [], ◌∷◌, refl, sym, ◌∙◌, arith, subst, length, length-set, get_or, slice_set}
use Rattle.ph_bits.proofs.Walks.{Option, Some, None, proved, full_share, id⊢, ftrue, fat, flft, froom, ty_int, named, w64, Val, vunit, fact}
use Rattle.ph_bits.proofs.Walks.{tables, ‵, raw, ◌⊛◌, at_ret, ◌$◌, ◌∵◌, !, qed, done, move, keep, use1, use2, split, join, fsplit, fsplit3, fjoin}
use Rattle.ph_bits.proofs.Walks.{fjoin3, flt_l, flt_i, feq_i, rewrite, suffices, frame, whole, sub, enter, of_opd, bin, lit, unit_lit, init, stop}
use Rattle.ph_bits.proofs.Walks.{fld, assigns_last, first, blocks, exec, returns, take_at, give_at, layout, word, word-Good, alloc_all, pass_all}
use Rattle.ph_bits.proofs.Walks.{free_all, look_at, get, get_in, through, sets, env, u64, usize, yes, uint_in, uint_vals, uint_Tells, Ptr}
use Rattle.ph_bits.proofs.Walks.{in_a_block, owns, MutRef, mut_vals, mut_Tells, plain, nothing, opens, closes, heard, Stays, walk_of, says}
use Rattle.ph_bits.proofs.Walks.{stay_dropped, Goes-dropped, stay_ref, Goes-ref, ends_at, after}
use Rattle.ph_bits.specs.Memory.{place, places, block_owns}
use Rattle.ph_bits.specs.contracts.places.Places.write as f
use Rattle.ph_bits.specs.contracts.places.Places.{the_row as P}
use Rattle.ph_bits.specs.contracts.places.Start.{the_row as S}
use Rattle.ph_bits.proofs.places.Start.TheLaws.{lowers}
use Rattle.ph_bits.proofs.places.Places.write.Statement.{statement}
use Rattle.ph_bits.proofs.places.Places.write.Code as code
use Rattle.ph_bits.proofs.PlaceSteps.{emptied, beside, place_out, place_in}

abbrev stayed : Stays f.ended.signature.params f.ended.kept
stayed = (stay_ref (0 ∷ []) tt (plain (λ _. P)), (stay_dropped _ yes, (stay_dropped _ yes, (stay_dropped _ yes, tt))))

pub write_spec : {M : Type 1} → statement M
write_spec 𝓤 𝓛 𝓜 𝓡 wired =
    let c = f.clauses 𝓛 𝓜.mem 𝓡.returns in let W = walk_of 𝓛 f.ended stayed c in let 𝓣 = tables 𝓤 𝓛.H 𝓜 𝓡 𝓡.env in
    proved 𝓛 f.ended stayed c 𝓜 𝓡 (
      Goes-ref 𝓛 1 0 tt (plain (λ _. P)),
      (
        Goes-dropped 𝓛 1 (plain (λ _. S)) yes (λ κs x w. refl),
        (
          Goes-dropped 𝓛 1 (plain (λ _. usize)) yes (λ κs x w. refl),
          (Goes-dropped 𝓛 1 (plain (λ _. u64)) yes (λ κs x w. refl), tt),
        ),
      ),
    )
    f.Key.name code.function (code.unfolded 𝓤 𝓛.H 𝓜 𝓡 wired)
    (λ κs. (mut_vals, ((λ s. lowers.lowered s ∷ []), (uint_vals w64, (uint_vals w64, tt)))))
    (λ κs. (mut_Tells (named 0) κs.0 P, (lowers.val_is, (uint_Tells w64, (uint_Tells w64, tt))))) (λ κs qs bounds a _ are.
    let κ = κs.0 in let q = qs.0 in let rb = a.0.ref_ptr.0 in let ro = a.0.ref_ptr.1 in let d = a.0.now in let start = a.1.0 in let i = a.1.1.0 in let x = a.1.1.1.0 in
    let vss : List Val × (List Val × (List Val × (List Val × Unit {0}))) = (mut_vals a.0, (lowers.lowered start ∷ [], (uint_vals w64 i, (uint_vals w64 x, tt)))) in
    let y : W.Ghost = ((κs, qs, bounds, a, vss), tt) in
    qed 𝓛 (((‵ (flft κ q) ⊛ ‵ ftrue) ⊛ ‵ (owns (MutRef (named 0) κ P ∷ S ∷ usize ∷ u64 ∷ []) a vss)) ∷ raw (fact 𝓤 ((start.at ≡ d.at) × (i < length d.slots))) ∷ []) ∵
    split ! $ split ! $ move ! (3 ∷ []) $ heard ! _ (λ asked. move ! (2 ∷ []) $ fsplit ! $ keep ! (0 ∷ 2 ∷ []) $
    enter ! _ _ _ _ _ $ alloc_all !
    (λ l. pass_all ! refl (
      (tt, tt),
      (word-Good [] start.at, ((tt, record { fits = are.1.1.0.1 }), ((tt, record { fits = are.1.1.1.0.1 }), tt))),
    ) $
    fsplit3 ! $ move ! (1 ∷ 2 ∷ 3 ∷ []) $ opens ! tt P rb ro (λ us. move ! (1 ∷ []) $ fsplit ! $ move ! (1 ∷ []) $
    in_a_block ! d.at (λ p. block_owns p d.slots) (id⊢ 𝓤 _) (λ b o e. fsplit ! $ flt_l ! (λ small.
    let within : i < length d.slots = asked.1 in
    let far : i * 8 < 2 ^ 64 = omega (arith, within, small) in
    let slots : List (Option ℕ) = slice_set d.slots i (Some x) in
    take_at ! 2 $ rewrite ! 0 (λ (p : Ptr). ‵ (fat full_share (layout S) (l 2) 0 (word p))) (asked.0 ∙ e) refl $ give_at ! 2 $ first ! $ blocks ! $
    sets ! (bin ! (get ! refl) (lit ! tt) (record { fits = far })) refl (tt, record { fits = far }) $
    sets ! (bin ! (get_in ! (fld ! refl (stop !)) (sub ! 0 refl (whole !))) (get ! refl) tt) refl (tt, tt) $
    use1 𝓛 (‵ (place b (i * 8 + o) (get_or d.slots i None)) ⊛ ‵ (beside 𝓛 b o d.slots i)) (place_out 𝓛 b d.slots i o within) $ split ! $
    use1 𝓛 (‵ (froom (ty_int w64) b (i * 8 + o))) (emptied 𝓛 b (i * 8 + o) (get_or d.slots i None)) $
    -- [the room; the other places; the mark; its cell; the open borrow]
    assigns_last ! (of_opd ! (get ! refl)) (through ! refl (stop !)) (init ! 0 refl (tt, record { fits = are.1.1.1.0.1 })) $
    exec ! 𝓣.C 𝓣.Λ (env code.Mir.locals l) (after 1 (code.function).body) (at_ret _ (W.post y)) $ sets ! (of_opd ! (unit_lit !)) refl (tt, tt) $
    use1 𝓛 (‵ (place b (i * 8 + o) (Some x))) (uint_in 𝓛 full_share w64 x b (i * 8 + o)) $
    use2 𝓛 (‵ (places b o slots)) (place_in 𝓛 b d.slots i o (Some x) within) $
    flt_i ! (length slots * 8) (2 ^ 63) (subst (λ k. k * 8 < 2 ^ 63) (sym (length-set d.slots i (Some x))) small) $ fjoin ! $
    rewrite ! 0 (λ (p : Ptr). ‵ (block_owns p slots)) (sym e) refl $ move ! (1 ∷ 0 ∷ []) $ fjoin ! $ move !
    (1 ∷ 0 ∷ []) $ closes ! tt P (record d { slots = slots }) us rb ro $
    returns ! (look_at ! 0 refl) $ free_all ! refl $ keep ! (0 ∷ 1 ∷ 2 ∷ []) $ feq_i ! _ (vunit ∷ []) _ refl $ move ! (1 ∷ 2 ∷ 3 ∷ 0 ∷ []) $
    suffices ! _ (ends_at 𝓛 f.ended stayed c y vunit tt (record d { slots = slots }, (tt, (tt, (tt, tt)))) (tt, (tt, (tt, (tt, tt))))) $ says ! (refl, refl) $
    nothing ! $ move ! (3 ∷ 0 ∷ []) $ join ! $ frame ! $ feq_i ! _ (mut_vals a.0) _ refl $ fjoin3 ! $ nothing ! $
    nothing ! $ fjoin ! $ nothing ! $ fjoin ! $ nothing ! $ fjoin ! $ move ! (1 ∷ 0 ∷ []) $ fjoin ! $ done !))))))
