-- `words_mut` lends the words behind the header, and the places follow them. Assumes `Logic`.
use Rattle.ph_bits.proofs.Walks.{◌≡◌, ℕ, ◌+◌, ◌*◌, ◌^◌, ◌<◌, ◌≤◌, List, [], ◌∷◌, ◌++◌, refl, sym, ap, subst, ◌∙◌, arith, length, length-map}
use Rattle.ph_bits.proofs.Walks.{length-take, length-append, length-drop, map, take, behind, Option, Some, proved, full_share, id⊢, ftrue, fat}
use Rattle.ph_bits.proofs.Walks.{flft, fsep, named, w64, Val, fact, tables, ‵, raw, ◌⊛◌, at_ret, ◌$◌, ◌∵◌, !, qed, by, done, move, keep, use1, use2}
use Rattle.ph_bits.proofs.Walks.{split, join, group, fsplit, fsplit3, fjoin, fjoin3, flt_l, flt_i, rewrite, suffices, frame, whole, sub, agg, enter}
use Rattle.ph_bits.proofs.Walks.{of_opd, bin, lit, and_then, no_more, stop, fld, first, blocks, exec, returns, take_at, give_at, layout, word}
use Rattle.ph_bits.proofs.Walks.{word-Good, alloc_all, pass_all, free_all, look_at, get, get_in, sets, sets_last, env, u64, usize, yes, no}
use Rattle.ph_bits.proofs.Walks.{uint_vals, uint_Tells, Ptr, block_ptr, in_a_block, owns, MutRef, mut_vals, mut_Tells, plain, nothing, opens, heard}
use Rattle.ph_bits.proofs.Walks.{Stays, walk_of, says, stay_dropped, Goes-dropped, ends_at, after}
use base.Fml.{Fml, GName}
use base.Logic.{ent, sep}
use denote.Array.{Array}
use denote.Follow.{follows}
use denote.FollowSlice.{Elements, lends_Elements}
use denote.Memory.{mem, cell_at, part_of}
use denote.Ref.{MutBor}
use denote.Signature.{mut_ref_to}
use denote.Slice.{MutSlice, slice_val}
use denote.Triple.Walked.{Goes-spent_ref}
use lib.Seq.{take_at as take_front}
use seplogic.Ra.Ura.{Ura}
use types.Kit.{some, later, await, pick, fpack}
use types.Logic.{Logic, sem}
use types.SemTy.{cells}
use Rattle.std.specs.List.{refill}
use Rattle.ph_bits.specs.Lends.{with_words}
use Rattle.ph_bits.specs.Memory.{places, block_owns}
use Rattle.ph_bits.specs.Slots.{words_in, AreWritten}
use Rattle.ph_bits.specs.contracts.places.Places.words_mut as f
use Rattle.ph_bits.specs.contracts.places.Places.{the_row as P}
use Rattle.ph_bits.specs.contracts.places.Start.{the_row as S}
use Rattle.ph_bits.proofs.places.Start.TheLaws.{lowers}
use Rattle.ph_bits.proofs.places.Places.words_mut.Statement.{statement}
use Rattle.ph_bits.proofs.places.Places.words_mut.Code as code
use Rattle.ph_bits.proofs.PlaceSteps.{front_out, front_in, to_cells, of_cells}
use Rattle.ph_bits.proofs.SlotLists.{written-in, words-given}
use Rattle.ph_bits.proofs.Made.{Mark}

-- all but the words: the header's place, the places behind them, the mark, and the cell of it
abbrev Rest : P.Denot → ℕ → List Val → ℕ → ℕ → ℕ → ℕ → Fml
Rest d len vs rb ro b o =
    fsep (places b o (take 1 d.slots))
    (fsep (places b (len * 8 + (1 * 8 + o)) (behind len (behind 1 d.slots)))
    (fsep (Mark.own_val (tt, tt) vs) (cell_at full_share P.mir vs rb ro)))

back : {M : Type 1} {𝓤 : Ura M} (𝓛 : Logic 𝓤) (d : P.Denot) (len : ℕ) (vs : List Val) (rb ro b o : ℕ) →
    d.at ≡ block_ptr b o → len + 1 ≤ length d.slots → length d.slots * 8 < 2 ^ 63
    → (ws : List ℕ) → length ws ≡ len →
    ent 𝓤 (sep 𝓤 (sem 𝓛 (cells (mem u64) ws b (1 * 8 + o))) (sem 𝓛 (Rest d len vs rb ro b o)))
    (sem 𝓛 ((mem P).own_at (with_words d len ws) rb ro))
unfolding part_of
back 𝓛 d len vs rb ro b o e within small ws same =
    let old = words_in len d.slots in
    let new = (with_words d len ws).slots in
    let head = take 1 d.slots in
    let rest = behind len (behind 1 d.slots) in
    let at : ℕ = 1 * 8 + o in
    let all : refill len old ws ≡ ws = take_front ws (behind (length ws) old) len same in
    let front : len ≡ length (map Some ws) = omega (arith, same, length-map ws Some) in
    let one : length head ≡ 1 = omega (arith, length-take 1 d.slots, within) in
    let there : at ≡ length head * 8 + o = omega (arith, one) in
    let long : length new ≡ length d.slots =
    ap (λ l. length (head ++ (map Some l ++ rest))) all
    ∙ omega (
      arith,
      length-append head (map Some ws ++ rest),
      length-append (map Some ws) rest,
      length-map ws Some,
      length-drop len (behind 1 d.slots),
      length-drop 1 d.slots,
      one,
      same,
      within,
    ) in
    qed 𝓛 (‵ (cells (mem u64) ws b at) ∷ ‵ (Rest d len vs rb ro b o) ∷ []) ∵ use1 𝓛 (‵ (places b at (map Some ws))) (of_cells 𝓛 b ws at) $
    move ! (1 ∷ []) $ fsplit ! $ move ! (1 ∷ []) $ fsplit3 ! $ move ! (4 ∷ 0 ∷ []) $ rewrite ! 1 (λ k. ‵ (places b (k * 8 + at) rest)) front refl $
    use2 𝓛 (‵ (places b at (map Some ws ++ rest))) (front_in 𝓛 b (map Some ws) rest at) $
    rewrite ! 0 (λ k. ‵ (places b k (map Some ws ++ rest))) there refl $ move ! (3 ∷ 0 ∷ []) $
    use2 𝓛 (‵ (places b o (head ++ (map Some ws ++ rest)))) (front_in 𝓛 b head (map Some ws ++ rest) o) $
    rewrite ! 0 (λ (l : List ℕ). ‵ (places b o (head ++ (map Some l ++ rest)))) (sym all) refl $
    flt_i ! (length new * 8) (2 ^ 63) (subst (λ k. k * 8 < 2 ^ 63) (sym long) small) $ fjoin ! $
    rewrite ! 0 (λ (p : Ptr). ‵ (block_owns p new)) (sym e) refl $ move ! (1 ∷ 0 ∷ []) $ fjoin ! $ move ! (1 ∷ 0 ∷ []) $ fjoin ! $
    fpack ! (List Val) (λ us. fsep (cell_at full_share P.mir us rb ro) (P.own_val (with_words d len ws) us)) vs $ done !

abbrev stayed : Stays f.ended.signature.params f.ended.kept
stayed = (stay_dropped (mut_ref_to (0 ∷ []) tt (plain (λ _. P))) no, (stay_dropped _ yes, (stay_dropped _ yes, tt)))

pub words_mut_spec : {M : Type 1} → statement M
words_mut_spec 𝓤 𝓛 𝓜 𝓡 wired =
    let c = f.clauses 𝓛 𝓜.mem 𝓡.returns in let W = walk_of 𝓛 f.ended stayed c in let 𝓣 = tables 𝓤 𝓛.H 𝓜 𝓡 𝓡.env in
    proved 𝓛 f.ended stayed c 𝓜 𝓡 (
      Goes-spent_ref 𝓛 1 (0 ∷ []) tt (plain (λ _. P)),
      (
        Goes-dropped 𝓛 1 (plain (λ _. S)) yes (λ κs x w. refl),
        (Goes-dropped 𝓛 1 (plain (λ _. usize)) yes (λ κs x w. refl), tt),
      ),
    )
    f.Key.name code.function (code.unfolded 𝓤 𝓛.H 𝓜 𝓡 wired)
    (λ κs. (mut_vals, ((λ s. lowers.lowered s ∷ []), (uint_vals w64, tt))))
    (λ κs. (mut_Tells (named 0) κs.0 P, (lowers.val_is, (uint_Tells w64, tt)))) (λ κs qs bounds a _ are.
    let κ = κs.0 in let q = qs.0 in let rb = a.0.ref_ptr.0 in let ro = a.0.ref_ptr.1 in let γ = a.0.ghost_name in
    let d = a.0.now in let start = a.1.0 in let len = a.1.1.0 in
    let vss : List Val × (List Val × (List Val × Unit {0})) = (mut_vals a.0, (lowers.lowered start ∷ [], (uint_vals w64 len, tt))) in
    let y : W.Ghost = ((κs, qs, bounds, a, vss), tt) in
    let new : List ℕ → P.Denot = with_words d len in
    qed 𝓛 (((‵ (flft κ q) ⊛ ‵ ftrue) ⊛ ‵ (owns (MutRef (named 0) κ P ∷ S ∷ usize ∷ []) a vss)) ∷ raw (fact 𝓤 ((start.at ≡ d.at) × AreWritten (len + 1) d.slots)) ∷ []) ∵
    split ! $ split ! $ move ! (3 ∷ []) $ heard ! _ (λ asked. move ! (2 ∷ []) $ fsplit ! $ fsplit3 ! $ keep ! (1 ∷ 2 ∷ 4 ∷ []) $
    enter ! _ _ _ _ _ $ alloc_all ! (λ l. pass_all ! refl ((tt, tt), (word-Good [] start.at, ((tt, record { fits = are.1.1.0.1 }), tt))) $
    opens ! tt P {h = d} rb ro (λ vs. move ! (1 ∷ []) $ fsplit ! $ move ! (1 ∷ []) $
    in_a_block ! d.at (λ p. block_owns p d.slots) (id⊢ 𝓤 _) (λ b o e. fsplit ! $ flt_l ! (λ small.
    let h = written-in len d.slots asked.1 in
    let xs : List ℕ = h.1.0 in
    let within : len + 1 ≤ length d.slots = asked.1.0 in
    let long : length xs ≡ len = omega (arith, ap length h.1.1, length-map xs Some, length-take len (behind 1 d.slots), h.0) in
    let roomy : length xs < 2 ^ 64 = omega (arith, long, are.1.1.0.1) in
    let fitting : length xs * 8 < 2 ^ 63 = omega (arith, long, small, within) in
    let at : ℕ = 1 * 8 + o in
    let rest = Rest d len vs rb ro b o in
    let way = λ (ws : List ℕ) (same : length ws ≡ length xs). back 𝓛 d len vs rb ro b o e within small ws (same ∙ long) in
    take_at ! 2 $ rewrite ! 0 (λ (p : Ptr). ‵ (fat full_share (layout S) (l 2) 0 (word p))) (asked.0 ∙ e) refl $ give_at ! 2 $ first ! $ blocks ! $
    use1 𝓛 (‵ (places b o (take 1 d.slots)) ⊛ ‵ (places b at (behind 1 d.slots))) (front_out 𝓛 b d.slots 1 o (omega (arith, within))) $ split ! $ move ! (1 ∷ []) $
    use1 𝓛 (‵ (places b at (take len (behind 1 d.slots))) ⊛ ‵
    (places b (len * 8 + at) (behind len (behind 1 d.slots)))) (front_out 𝓛 b (behind 1 d.slots) len at h.0) $ split ! $
    rewrite ! 0 (λ (cs : List (Option ℕ)). ‵ (places b at cs)) h.1.1 refl $ use1 𝓛 (‵ (cells (mem u64) xs b at)) (to_cells 𝓛 b xs at) $
    sets ! (bin ! (get_in ! (fld ! refl (stop !)) (sub ! 0 refl (whole !))) (lit ! tt) tt) refl (tt, tt) $
    sets_last ! (agg ! (and_then ! (get ! refl) (and_then ! (get ! refl) (no_more !)))) refl (tt, (tt, (record { fits = are.1.1.0.1 }, tt))) $
    exec ! 𝓣.C 𝓣.Λ (env code.Mir.locals l) (after 1 (code.function).body) (at_ret _ (W.post y)) $ sets !
    (of_opd ! (get ! refl)) refl (tt, (tt, (record { fits = are.1.1.0.1 }, tt))) $
    -- [the words, the places behind them, the header's place, the mark, the cell, ..]
    move ! (1 ∷ 3 ∷ 4 ∷ []) $ fjoin3 ! $ move ! (2 ∷ 0 ∷ []) $ fjoin ! $ move ! (2 ∷ 3 ∷ 4 ∷ 1 ∷ 0 ∷ []) $ group ! 5 $
    use1 𝓛 (later (some (λ (δ : GName). raw (Elements 𝓛 P u64 new (named 0) κ q rb ro b at γ xs (roomy, fitting) (sem 𝓛 rest) way δ))))
    (lends_Elements 𝓛 P u64 new (named 0) κ q rb ro b at γ xs (roomy, fitting) (sem 𝓛 rest) way (P.coded.code d) (P.coded.code d)) $ await ! tt $ pick ! (λ δ.
    let r : MutBor (List ℕ) = record { ref_ptr = (b, at); ghost_name = δ; now = xs } in
    returns ! (look_at ! 0 refl) $ free_all ! refl $ keep ! (0 ∷ []) $
    by ! (subst (λ (k : ℕ). ent 𝓤 (Elements 𝓛 P u64 new (named 0) κ q rb ro b at γ xs (roomy, fitting) (sem 𝓛 rest) way δ) (W.post y (slice_val (b, at) k))) long
    (qed 𝓛 (‵ ((MutSlice (named 0) κ u64).own_val r (slice_val (b, at) (length xs) ∷ [])) ∷ ‵ (flft κ q) ∷ ‵ (follows P (Array u64 0) γ δ new) ∷ []) ∵
    suffices ! _ (ends_at 𝓛 f.ended stayed c y (slice_val (b, at) (length xs)) r (tt, (tt, (tt, tt))) (tt, (tt, (tt, tt)))) $
    nothing ! $ nothing ! $ fjoin ! $ nothing ! $ fjoin ! $ nothing ! $ fjoin ! $ join ! $ nothing ! $ move ! (2 ∷ 0 ∷ []) $ join ! $ join ! $ frame ! $
    says ! (sym (words-given len (behind 1 d.slots) xs h.1.1)) $ done !)))))))))
