-- `words` shows the words that the first places lend. Assumes `Logic`.
use Rattle.ph_bits.proofs.Walks.{◌≡◌, ℕ, ◌*◌, ◌^◌, List, [], ◌∷◌, refl, sym, ap, ◌∙◌, arith, length, length-map, length-take, Some, proved, full_share}
use Rattle.ph_bits.proofs.Walks.{id⊢, ftrue, fat, flft, named, w64, Val, fact, tables, ‵, raw, ◌⊛◌, at_ret, ◌$◌, ◌∵◌, !, qed, done, move, keep, drop}
use Rattle.ph_bits.proofs.Walks.{use1, split, join, fsplit, fjoin, flt_l, flt_i, feq_i, rewrite, suffices, frame, whole, sub, agg, enter, of_opd}
use Rattle.ph_bits.proofs.Walks.{and_then, no_more, stop, fld, first, blocks, exec, returns, take_at, give_at, layout, word, word-Good, alloc_all}
use Rattle.ph_bits.proofs.Walks.{pass_all, free_all, look_at, get, get_in, sets, sets_last, env, u64, usize, yes, uint_vals, uint_Tells, Ptr, in_a_block}
use Rattle.ph_bits.proofs.Walks.{owns, plain, nothing, heard, Stays, walk_of, says, stay_dropped, Goes-dropped, ends_at, after}
use denote.Builtin.{RefOf}
use denote.Opens.{hide, unhide}
use denote.Ref.{ShrRef, shr_vals, shr_Tells}
use denote.Slice.{slice_val, elements_shared}
use Rattle.ph_bits.specs.Memory.{block_lent}
use Rattle.ph_bits.specs.Slots.{AreWritten}
use Rattle.ph_bits.specs.contracts.places.Places.words as f
use Rattle.ph_bits.specs.contracts.places.Places.{the_row as P}
use Rattle.ph_bits.specs.contracts.places.Start.{the_row as S}
use Rattle.ph_bits.proofs.places.Start.TheLaws.{lowers}
use Rattle.ph_bits.proofs.places.Places.words.Statement.{statement}
use Rattle.ph_bits.proofs.places.Places.words.Code as code
use Rattle.ph_bits.proofs.PlaceSteps.{front_seen}

abbrev stayed : Stays f.ended.signature.params f.ended.kept
stayed = (stay_dropped (RefOf (0 ∷ []) tt (plain (λ _. P)) (λ _. tt)) yes, (stay_dropped _ yes, (stay_dropped _ yes, tt)))

pub words_spec : {M : Type 1} → statement M
words_spec 𝓤 𝓛 𝓜 𝓡 wired =
    let c = f.clauses 𝓛 𝓜.mem 𝓡.returns in let W = walk_of 𝓛 f.ended stayed c in let 𝓣 = tables 𝓤 𝓛.H 𝓜 𝓡 𝓡.env in
    proved 𝓛 f.ended stayed c 𝓜 𝓡 (
      Goes-dropped 𝓛 1 (RefOf (0 ∷ []) tt (plain (λ _. P)) (λ _. tt)) yes (λ κs x w. refl),
      (
        Goes-dropped 𝓛 1 (plain (λ _. S)) yes (λ κs x w. refl),
        (Goes-dropped 𝓛 1 (plain (λ _. usize)) yes (λ κs x w. refl), tt),
      ),
    )
    f.Key.name code.function (code.unfolded 𝓤 𝓛.H 𝓜 𝓡 wired)
    (λ κs. (shr_vals, ((λ s. lowers.lowered s ∷ []), (uint_vals w64, tt))))
    (λ κs. (shr_Tells (named 0) κs.0 P, (lowers.val_is, (uint_Tells w64, tt)))) (λ κs qs bounds a _ are.
    let κ = κs.0 in let q = qs.0 in let d = a.0.now in let start = a.1.0 in let len = a.1.1.0 in
    let vss : List Val × (List Val × (List Val × Unit {0})) = (shr_vals a.0, (lowers.lowered start ∷ [], (uint_vals w64 len, tt))) in
    let y : W.Ghost = ((κs, qs, bounds, a, vss), tt) in
    qed 𝓛 (((‵ (flft κ q) ⊛ ‵ ftrue) ⊛ ‵ (owns (ShrRef (named 0) κ P ∷ S ∷ usize ∷ []) a vss)) ∷ raw (fact 𝓤 ((start.at ≡ d.at) × AreWritten len d.slots)) ∷ []) ∵
    split ! $ split ! $ move ! (3 ∷ []) $ heard ! _ (λ asked. move ! (2 ∷ []) $ fsplit ! $ fsplit ! $ keep ! (1 ∷ 3 ∷ []) $
    enter ! _ _ _ _ _ $ alloc_all ! (λ l. pass_all ! refl ((tt, tt), (word-Good [] start.at, ((tt, record { fits = are.1.1.0.1 }), tt))) $
    unhide ! $ fsplit ! $ drop ! $ in_a_block ! d.at (λ p. block_lent p d.slots κ) (id⊢ 𝓤 _) (λ b o e. fsplit ! $ flt_l ! (λ small.
    let xs : List ℕ = asked.1.1.0 in
    let long : length xs ≡ len = omega (arith, ap length asked.1.1.1, length-map xs Some, length-take len d.slots, asked.1.0) in
    take_at ! 2 $ rewrite ! 0 (λ (p : Ptr). ‵ (fat full_share (layout S) (l 2) 0 (word p))) (asked.0 ∙ e) refl $ give_at ! 2 $ first ! $ blocks ! $
    use1 𝓛 (‵ (elements_shared u64 xs b o κ)) (front_seen 𝓛 b κ d.slots xs len o asked.1.1.1) $ hide ! $
    sets_last ! (agg ! (and_then ! (get_in ! (fld ! refl (stop !)) (sub ! 0 refl (whole !)))
    (and_then ! (get ! refl) (no_more !)))) refl (tt, (tt, (record { fits = are.1.1.0.1 }, tt))) $
    exec ! 𝓣.C 𝓣.Λ (env code.Mir.locals l) (after 1 (code.function).body) (at_ret _ (W.post y)) $ sets !
    (of_opd ! (get ! refl)) refl (tt, (tt, (record { fits = are.1.1.0.1 }, tt))) $
    flt_i ! (length xs * 8) (2 ^ 63) (omega (arith, long, small, asked.1.0)) $ flt_i ! (length xs) (2 ^ 64) (omega (arith, long, are.1.1.0.1)) $ fjoin ! $
    feq_i ! (List Val) (slice_val (b, o) len ∷ []) (slice_val (b, o) (length xs) ∷ []) (ap (λ k. slice_val (b, o) k ∷ []) (sym long)) $ fjoin ! $ fjoin ! $
    returns ! (look_at ! 0 refl) $ free_all ! refl $ keep ! (1 ∷ 0 ∷ []) $
    suffices ! _ (ends_at 𝓛 f.ended stayed c y (slice_val (b, o) len) (record { ref_ptr = (b, o); now = xs })
    (tt, (tt, (tt, tt))) (tt, (tt, (tt, tt)))) $ says ! asked.1.1.1 $
    nothing ! $ move ! (1 ∷ 0 ∷ []) $ join ! $ frame ! $ nothing ! $ nothing ! $ fjoin ! $ nothing ! $ fjoin ! $ nothing ! $ fjoin ! $ done !)))))
