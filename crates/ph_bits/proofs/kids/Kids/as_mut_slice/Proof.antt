-- `as_mut_slice` lends the values, and the owner follows them. Assumes `Logic`.
use Rattle.ph_bits.proofs.Walks.{behind, agg, and_then, no_more, sets_last, ◌≡◌, ℕ, ◌+◌, ◌*◌, ◌^◌, ◌<◌, List, [], ◌∷◌, refl, sym, subst, ◌∙◌}
use Rattle.ph_bits.proofs.Walks.{arith, length, proved, full_share, id⊢, ftrue, fat, flft, fsep, named, w64, Val, fact, tables, ‵, raw, ◌⊛◌}
use Rattle.ph_bits.proofs.Walks.{at_ret, ◌$◌, ◌∵◌, !, qed, done, move, keep, use1, split, join, group, fsplit, fsplit3, fjoin, flt_l, flt_i}
use Rattle.ph_bits.proofs.Walks.{rewrite, suffices, frame, whole, sub, enter, of_opd, bin, lit, stop, fld, first, blocks, exec, returns, take_at}
use Rattle.ph_bits.proofs.Walks.{give_at, layout, word, word-Good, alloc_all, pass_all, free_all, look_at, get, get_in, sets, env, usize, no}
use Rattle.ph_bits.proofs.Walks.{uint_vals, uint_Tells, Ptr, block_ptr, in_a_block, owns, MutRef, mut_vals, mut_Tells, plain, nothing, opens}
use Rattle.ph_bits.proofs.Walks.{heard, Stays, walk_of, says, stay_dropped, ends_at, after}
use base.Fml.{Fml, GName}
use base.Logic.{ent, sep}
use contract.BorrowLft.{◌⊑◌}
use denote.Array.{Array}
use denote.Follow.{follows}
use denote.FollowSlice.{Elements, lends_Elements}
use denote.Slice.{MutSlice, slice_val}
use types.SemTy.{cells}
use lib.Seq.{take_at as take_front}
use Rattle.std.specs.List.{refill}
use Rattle.ph_bits.specs.Kids.{IsWord}
use denote.Memory.{mem, cell_at, part_of}
use denote.Param.{param}
use denote.Ref.{MutBor}
use denote.RattleType.{RattleType}
use denote.Signature.{mut_ref_to}
use denote.Triple.Walked.{Goes-spent_ref}
use mir.MapTy.{inst_fn}
use mir.Syntax.{Fn}
use seplogic.Ra.Ura.{Ura}
use types.Kit.{some, later, await, pick, fpack}
use types.Logic.{Logic, sem}
use Rattle.ph_bits.specs.Kids.{kids, kids_own}
use Rattle.ph_bits.specs.LendsKid.{with_items}
use Rattle.ph_bits.specs.contracts.kids.Kids.as_mut_slice as f
use Rattle.ph_bits.specs.contracts.kids.Kids as K
use Rattle.ph_bits.specs.contracts.places.Start.{the_row as S}
use Rattle.ph_bits.proofs.places.Start.TheLaws.{lowers}
use Rattle.ph_bits.proofs.kids.Kids.as_mut_slice.Statement.{statement}
use Rattle.ph_bits.proofs.kids.Kids.as_mut_slice.Code as code
use Rattle.ph_bits.proofs.KidSteps.{Mark, to_cells, of_cells, at_type, words_stay, words_go}

module _ (R : RattleType) (h : IsWord R) {M : Type 1} {𝓤 : Ura M} (𝓛 : Logic 𝓤) where
  abbrev Row : RattleType
  Row = K.the_row R

  module _ (d : Row.Denot) (vs : List Val) (rb ro b o : ℕ) where
    abbrev new : List R.Denot → Row.Denot
    new xs = with_items d (refill (length d.items) d.items xs)

    -- all but the values
    abbrev Rest : Fml
    Rest = fsep ((Mark R).own_val (tt, tt) vs) (cell_at full_share Row.mir vs rb ro)

    back : d.at ≡ block_ptr b o → (d.from + length d.items) * 8 < 2 ^ 63 → (place : ℕ) → d.from * 8 + o ≡ place
        → (xs : List R.Denot) → length xs ≡ length d.items → ent 𝓤 (sep 𝓤 (sem 𝓛 (cells (mem R) xs b place)) (sem 𝓛 Rest)) (sem 𝓛 ((mem Row).own_at (new xs) rb ro))
    unfolding part_of
    back e small place there xs same =
        let all : refill (length d.items) d.items xs ≡ xs = take_front xs (behind (length xs) d.items) (length d.items) same in
        qed 𝓛 (‵ (cells (mem R) xs b place) ∷ ‵ Rest ∷ []) ∵ use1 𝓛 (‵ (kids R b place xs)) (of_cells R h 𝓛 b xs place) $
        rewrite ! 0 (λ k. ‵ (kids R b k xs)) (sym there) refl $
        flt_i ! ((d.from + length xs) * 8) (2 ^ 63) (subst (λ k. (d.from + k) * 8 < 2 ^ 63) (sym same) small) $ fjoin ! $
        rewrite ! 0 (λ (p : Ptr). ‵ (kids_own R p d.from xs)) (sym e) refl $ rewrite ! 0 (λ (l : List R.Denot). ‵ (kids_own R d.at d.from l)) (sym all) refl $
        move ! (1 ∷ []) $ fsplit ! $ move ! (0 ∷ 2 ∷ []) $ fjoin ! $ move ! (1 ∷ 0 ∷ []) $ fjoin ! $
        fpack ! (List Val) (λ us. fsep (cell_at full_share Row.mir us rb ro) (Row.own_val (new xs) us)) vs $ done !

pub as_mut_slice_spec : {M : Type 1} → statement M
as_mut_slice_spec 𝓤 𝓛 𝓜 𝓡 wired X LX =
    let T = f.ended X in let c = f.clauses X 𝓛 𝓜.mem 𝓡.returns in
    let R : RattleType = param 0 X in let Kr : RattleType = K.the_row R in
    let function : Fn = inst_fn (at_type X) code.function in
    let stayed : Stays T.signature.params T.kept = (stay_dropped (mut_ref_to (0 ∷ []) tt (plain (λ _. Kr))) no, words_stay) in
    let W = walk_of 𝓛 T stayed c in let 𝓣 = tables 𝓤 𝓛.H 𝓜 𝓡 𝓡.env in
    proved 𝓛 T stayed c 𝓜 𝓡 (Goes-spent_ref 𝓛 2 (0 ∷ []) tt (plain (λ _. Kr)), words_go 𝓛)
    (f.Key.name (at_type X)) function (code.unfolded 𝓤 𝓛.H 𝓜 𝓡 wired (X, tt))
    (λ κs. (mut_vals, ((λ s. lowers.lowered s ∷ []), (uint_vals w64, (uint_vals w64, tt)))))
    (λ κs. (mut_Tells (named 0) κs.0 Kr, (lowers.val_is, (uint_Tells w64, (uint_Tells w64, tt))))) (λ κs qs bounds a _ are.
    let κ = κs.0 in let q = qs.0 in let rb = a.0.ref_ptr.0 in let ro = a.0.ref_ptr.1 in let γ = a.0.ghost_name in
    let d = a.0.now in let start = a.1.0 in let from = a.1.1.0 in let len = a.1.1.1.0 in
    let vss : List Val × (List Val × (List Val × (List Val × Unit {0}))) = (mut_vals a.0, (lowers.lowered start ∷ [], (uint_vals w64 from, (uint_vals w64 len, tt)))) in
    let y : W.Ghost = ((κs, qs, bounds, a, vss), tt) in
    let others = ‵ (flft κs.1.0 qs.1.0) ⊛ ‵ ftrue in
    let xs : List R.Denot = d.items in
    qed 𝓛 (((‵ (flft κ q) ⊛ others) ⊛ ‵ (owns (MutRef (named 0) κ Kr ∷ S ∷ usize ∷ usize ∷ []) a vss)) ∷
    (raw (fact 𝓤 (κs.1.0 ⊑ X.lives)) ⊛ raw
    (fact 𝓤 ((start.at ≡ d.at) × (from ≡ d.from) × (len ≡ length d.items) × IsWord R))) ∷ []) ∵
    move ! (1 ∷ []) $ split ! $ heard ! _ (λ within. heard ! _ (λ asked. split ! $ split ! $ move ! (2 ∷ []) $ fsplit ! $ fsplit3 ! $ keep ! (1 ∷ 2 ∷ 4 ∷ 5 ∷ []) $
    enter ! _ _ _ _ _ $ alloc_all !
    (λ l. pass_all ! refl (
      (tt, tt),
      (word-Good [] start.at, ((tt, record { fits = are.1.1.0.1 }), ((tt, record { fits = are.1.1.1.0.1 }), tt))),
    ) $
    opens ! tt Kr {h = d} rb ro (λ vs. move ! (1 ∷ []) $ fsplit ! $ move ! (1 ∷ []) $
    in_a_block ! d.at (λ p. kids_own R p d.from d.items) (id⊢ 𝓤 _) (λ b o e. fsplit ! $ flt_l ! (λ small.
    let h : IsWord R = asked.3 in
    let same : from ≡ d.from = asked.1 in
    let far : from * 8 < 2 ^ 64 = omega (arith, same, small) in
    let place : ℕ = from * 8 + o in
    let there : d.from * 8 + o ≡ place = omega (arith, same) in
    let roomy : length xs < 2 ^ 64 = omega (arith, small) in
    let eight : length xs * 8 < 2 ^ 63 = omega (arith, small) in
    let fitting = subst (λ k. length xs * k < 2 ^ 63) (sym h.0) eight in
    let way = back R h 𝓛 d vs rb ro b o e small place there in
    let new' = new R h 𝓛 d vs rb ro b o in let rest = Rest R h 𝓛 d vs rb ro b o in
    take_at ! 2 $ rewrite ! 0 (λ (p : Ptr). ‵ (fat full_share (layout S) (l 2) 0 (word p))) (asked.0 ∙ e) refl $ give_at ! 2 $ first ! $ blocks ! $
    sets ! (bin ! (get ! refl) (lit ! tt) (record { fits = far })) refl (tt, record { fits = far }) $
    sets ! (bin ! (get_in ! (fld ! refl (stop !)) (sub ! 0 refl (whole !))) (get ! refl) tt) refl (tt, tt) $
    rewrite ! 0 (λ k. ‵ (kids R b k xs)) there refl $ use1 𝓛 (‵ (cells (mem R) xs b place)) (to_cells R h 𝓛 b xs place) $
    sets ! (of_opd ! (get ! refl)) refl (tt, tt) $
    sets_last ! (agg ! (and_then ! (get ! refl) (and_then ! (get ! refl) (no_more !)))) refl (tt, (tt, (record { fits = are.1.1.1.0.1 }, tt))) $
    exec ! 𝓣.C 𝓣.Λ (env function.locals l) (after 1 function.body) (at_ret _ (W.post y)) $ sets !
    (of_opd ! (get ! refl)) refl (tt, (tt, (record { fits = are.1.1.1.0.1 }, tt))) $
    move ! (1 ∷ 2 ∷ []) $ fjoin ! $ move ! (2 ∷ 3 ∷ 4 ∷ 1 ∷ 0 ∷ []) $ group ! 5 $
    use1 𝓛 (later (some (λ (δ : GName). raw (Elements 𝓛 Kr R new' (named 0) κ q rb ro b place γ xs (roomy, fitting) (sem 𝓛 rest) way δ))))
    (lends_Elements 𝓛 Kr R new' (named 0) κ q rb ro b place γ xs (roomy, fitting) (sem 𝓛 rest) way (Kr.coded.code d) (Kr.coded.code d)) $ await ! tt $ pick ! (λ δ.
    let r : MutBor (List R.Denot) = record { ref_ptr = (b, place); ghost_name = δ; now = xs } in
    returns ! (look_at ! 0 refl) $ free_all ! refl $ keep ! (0 ∷ 1 ∷ []) $
    use1 𝓛 (‵ ((MutSlice (named 0) κ R).own_val r (slice_val (b, place) (length xs) ∷ [])) ⊛ (‵ (flft κ q) ⊛ ‵ (follows Kr (Array R 0) γ δ new'))) (id⊢ 𝓤 _) $ split ! $
    rewrite ! 0 (λ (k : ℕ). ‵ ((MutSlice (named 0) κ R).own_val r (slice_val (b, place) k ∷ []))) (sym asked.2) refl $
    move ! (1 ∷ []) $ split ! $ move ! (2 ∷ 0 ∷ 1 ∷ []) $
    suffices ! _ (ends_at 𝓛 T stayed c y (slice_val (b, place) len) r (tt, (tt, (tt, (tt, tt)))) (tt, (tt, (tt, (tt, tt))))) $
    nothing ! $ nothing ! $ fjoin ! $ nothing ! $ fjoin ! $ nothing ! $ fjoin ! $ nothing ! $ fjoin ! $ join ! $ move
    ! (1 ∷ 3 ∷ []) $ join ! $ join ! $ frame ! $ says ! refl $ done !))))))))
