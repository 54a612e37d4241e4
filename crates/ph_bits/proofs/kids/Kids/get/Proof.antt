-- `get` shows one value that the places lend. Assumes `Logic`.
use Rattle.ph_bits.proofs.Walks.{◌≡◌, ℕ, ◌+◌, ◌*◌, ◌^◌, ◌<◌, List, [], ◌∷◌, refl, sym, ◌∙◌, arith, length, proved, full_share, id⊢, ftrue, fat, flft}
use Rattle.ph_bits.proofs.Walks.{named, w64, Val, vptr, fact, tables, ‵, raw, ◌⊛◌, at_ret, ◌$◌, ◌∵◌, !, qed, done, move, keep, drop, use1, split}
use Rattle.ph_bits.proofs.Walks.{join, fsplit, fjoin, flt_l, feq_i, rewrite, suffices, frame, whole, sub, enter, of_opd, addr, bin, lit, stop, fld}
use Rattle.ph_bits.proofs.Walks.{first, blocks, exec, returns, take_at, give_at, layout, word, word-Good, alloc_all, pass_all, free_all, look_at}
use Rattle.ph_bits.proofs.Walks.{get, get_in, through, sets, sets_last, env, usize, uint_vals, uint_Tells, Ptr, in_a_block, owns}
use Rattle.ph_bits.proofs.Walks.{nothing, heard, Stays, walk_of, says, ends_at, after}
use contract.BorrowLft.{◌⊑◌}
use denote.Memory.{shared_of}
use denote.Opens.{hide, unhide}
use denote.Param.{param}
use denote.Ref.{ShrRef, shr_vals, shr_Tells}
use denote.RattleType.{RattleType}
use mir.MapTy.{inst_fn}
use mir.Syntax.{Fn}
use Rattle.std.proofs.Common.{slice_index_or}
use Rattle.ph_bits.specs.Kids.{kids_lent}
use Rattle.ph_bits.specs.contracts.kids.Kids.get as f
use Rattle.ph_bits.specs.contracts.kids.Kids as K
use Rattle.ph_bits.specs.contracts.places.Start.{the_row as S}
use Rattle.ph_bits.proofs.places.Start.TheLaws.{lowers}
use Rattle.ph_bits.proofs.kids.Kids.get.Statement.{statement}
use Rattle.ph_bits.proofs.kids.Kids.get.Code as code
use Rattle.ph_bits.proofs.KidSteps.{item, kid_seen, at_type, shown_stay, shown_go}

pub get_spec : {M : Type 1} → statement M
get_spec 𝓤 𝓛 𝓜 𝓡 wired X LX =
    let T = f.ended X in let c = f.clauses X 𝓛 𝓜.mem 𝓡.returns in
    let R : RattleType = param 0 X in let Row : RattleType = K.the_row R in
    let function : Fn = inst_fn (at_type X) code.function in
    let stayed : Stays T.signature.params T.kept = shown_stay R in
    let W = walk_of 𝓛 T stayed c in let 𝓣 = tables 𝓤 𝓛.H 𝓜 𝓡 𝓡.env in
    proved 𝓛 T stayed c 𝓜 𝓡 (shown_go R 𝓛)
    (f.Key.name (at_type X)) function (code.unfolded 𝓤 𝓛.H 𝓜 𝓡 wired (X, tt))
    (λ κs. (shr_vals, ((λ s. lowers.lowered s ∷ []), (uint_vals w64, (uint_vals w64, tt)))))
    (λ κs. (shr_Tells (named 0) κs.0 Row, (lowers.val_is, (uint_Tells w64, (uint_Tells w64, tt))))) (λ κs qs bounds a _ are.
    let κ = κs.0 in let q = qs.0 in let d = a.0.now in let start = a.1.0 in let from = a.1.1.0 in let i = a.1.1.1.0 in
    let vss : List Val × (List Val × (List Val × (List Val × Unit {0}))) = (shr_vals a.0, (lowers.lowered start ∷ [], (uint_vals w64 from, (uint_vals w64 i, tt)))) in
    let y : W.Ghost = ((κs, qs, bounds, a, vss), tt) in
    let others = ‵ (flft κs.1.0 qs.1.0) ⊛ ‵ ftrue in
    qed 𝓛 (((‵ (flft κ q) ⊛ others) ⊛ ‵ (owns (ShrRef (named 0) κ Row ∷ S ∷ usize ∷ usize ∷ []) a vss)) ∷
    (raw (fact 𝓤 (κs.1.0 ⊑ X.lives)) ⊛ raw (fact 𝓤 ((start.at ≡ d.at) × (from ≡ d.from) × (i < length d.items)))) ∷ []) ∵
    move ! (1 ∷ []) $ split ! $ heard ! _ (λ within. heard ! _ (λ asked. split ! $ split ! $ move ! (2 ∷ []) $ fsplit ! $ fsplit ! $ keep ! (1 ∷ 3 ∷ 4 ∷ []) $
    enter ! _ _ _ _ _ $ alloc_all !
    (λ l. pass_all ! refl (
      (tt, tt),
      (word-Good [] start.at, ((tt, record { fits = are.1.1.0.1 }), ((tt, record { fits = are.1.1.1.0.1 }), tt))),
    ) $
    unhide ! $ fsplit ! $ drop ! $ in_a_block ! d.at (λ p. kids_lent R p d.from d.items κ) (id⊢ 𝓤 _) (λ b o e. fsplit ! $ flt_l ! (λ small.
    let less : i < length d.items = asked.2 in
    let same : from ≡ d.from = asked.1 in
    let sum : from + i < 2 ^ 64 = omega (arith, less, same, small) in
    let far : (from + i) * 8 < 2 ^ 64 = omega (arith, less, same, small) in
    take_at ! 2 $ rewrite ! 0 (λ (p : Ptr). ‵ (fat full_share (layout S) (l 2) 0 (word p))) (asked.0 ∙ e) refl $ give_at ! 2 $ first ! $ blocks ! $
    sets ! (bin ! (get ! refl) (get ! refl) (record { fits = sum })) refl (tt, record { fits = sum }) $
    sets ! (bin ! (get ! refl) (lit ! tt) (record { fits = far })) refl (tt, record { fits = far }) $
    sets ! (bin ! (get_in ! (fld ! refl (stop !)) (sub ! 0 refl (whole !))) (get ! refl) tt) refl (tt, tt) $
    let it = item d.items i less in let x = it.0 in let place : ℕ = (from + i) * 8 + o in
    let there : i * 8 + (d.from * 8 + o) ≡ place = omega (arith, same) in
    use1 𝓛 (‵ (shared_of R (slice_index_or d.items i x) b (i * 8 + (d.from * 8 + o)) κ)) (kid_seen R 𝓛 b κ d.items x i (d.from * 8 + o) less) $
    rewrite ! 0 (λ (z : R.Denot). ‵ (shared_of R z b (i * 8 + (d.from * 8 + o)) κ)) (it.1 x) refl $ rewrite ! 0 (λ k. ‵ (shared_of R x b k κ)) there refl $ hide ! $
    sets ! (of_opd ! (get ! refl)) refl (tt, tt) $ sets_last ! (addr ! (through ! refl (stop !))) refl (tt, tt) $ exec
    ! 𝓣.C 𝓣.Λ (env function.locals l) (after 1 function.body) (at_ret _ (W.post y)) $ sets !
    (of_opd ! (get ! refl)) refl (tt, tt) $
    feq_i ! (List Val) (vptr b place ∷ []) (vptr b place ∷ []) refl $ fjoin ! $
    returns ! (look_at ! 0 refl) $ free_all ! refl $ keep ! (0 ∷ 1 ∷ 2 ∷ []) $
    suffices ! _ (ends_at 𝓛 T stayed c y (vptr b place) (record { ref_ptr = (b, place); now = x })
    (tt, (tt, (tt, (tt, tt)))) (tt, (tt, (tt, (tt, tt))))) $ says ! (sym (it.1 x)) $
    move ! (1 ∷ 2 ∷ []) $ join ! $ frame ! $ nothing ! $ nothing ! $ fjoin ! $ nothing ! $ fjoin ! $ nothing ! $ fjoin ! $ nothing ! $ fjoin ! $ done !))))))
