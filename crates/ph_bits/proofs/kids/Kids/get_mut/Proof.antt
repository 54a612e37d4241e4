-- `get_mut` lends one value, and the values follow it. Assumes `Logic`.
use Rattle.ph_bits.proofs.Walks.{◌≡◌, ℕ, ◌+◌, ◌*◌, ◌^◌, ◌<◌, List, [], ◌∷◌, refl, sym, subst, ◌∙◌, arith, length, length-set, slice_set, proved}
use Rattle.ph_bits.proofs.Walks.{full_share, id⊢, ftrue, fat, flft, fsep, named, w64, Val, vptr, fact, tables, ‵, raw, ◌⊛◌, at_ret, ◌$◌, ◌∵◌, !, qed}
use Rattle.ph_bits.proofs.Walks.{done, move, keep, use1, use2, split, join, group, fsplit, fsplit3, fjoin, fjoin3, flt_l, flt_i, rewrite, suffices}
use Rattle.ph_bits.proofs.Walks.{frame, whole, sub, enter, of_opd, addr, bin, lit, stop, fld, first, blocks, exec, returns, take_at, give_at, layout}
use Rattle.ph_bits.proofs.Walks.{word, word-Good, alloc_all, pass_all, free_all, look_at, get, get_in, through, sets, sets_last, env, usize, no}
use Rattle.ph_bits.proofs.Walks.{uint_vals, uint_Tells, Ptr, block_ptr, in_a_block, owns, MutRef, mut_vals, mut_Tells, plain, nothing, opens, heard}
use Rattle.ph_bits.proofs.Walks.{Stays, walk_of, says, stay_dropped, ends_at, after}
use base.Fml.{Fml, GName}
use base.Logic.{ent, sep}
use contract.BorrowLft.{◌⊑◌}
use denote.Follow.{follows, Part, lends_Part}
use denote.Memory.{mem, cell_at, part_at, part_of}
use denote.Param.{param}
use denote.Ref.{MutBor}
use denote.RattleType.{RattleType}
use denote.Signature.{mut_ref_to}
use denote.Struct.Owning.{shape}
use denote.Struct.Struct.{Struct}
use denote.Triple.Walked.{Goes-spent_ref}
use mir.MapTy.{inst_fn}
use mir.Syntax.{Fn}
use seplogic.Ra.Ura.{Ura}
use types.Kit.{some, later, await, pick, fpack}
use types.Logic.{Logic, sem}
use Rattle.std.proofs.Common.{slice_index_or}
use Rattle.ph_bits.specs.Kids.{kids, kids_own}
use Rattle.ph_bits.specs.LendsKid.{with_items}
use Rattle.ph_bits.specs.contracts.kids.Kids.get_mut as f
use Rattle.ph_bits.specs.contracts.kids.Kids as K
use Rattle.ph_bits.specs.contracts.places.Start.{the_row as S}
use Rattle.ph_bits.proofs.places.Start.TheLaws.{lowers}
use Rattle.ph_bits.proofs.kids.Kids.get_mut.Statement.{statement}
use Rattle.ph_bits.proofs.kids.Kids.get_mut.Code as code
use Rattle.ph_bits.proofs.KidSteps.{item, Others, kid_out, kid_in, at_type, words_stay, words_go}

module _ (R : RattleType) {M : Type 1} {𝓤 : Ura M} (𝓛 : Logic 𝓤) where
  abbrev Row : RattleType
  Row = K.the_row R

  abbrev Mark : RattleType
  Mark = Struct (shape (K.the_type R))

  module _ (d : Row.Denot) (i : ℕ) (vs : List Val) (rb ro b o : ℕ) where
    abbrev new : R.Denot → Row.Denot
    new x = with_items d (slice_set d.items i x)

    -- all but the value
    abbrev Rest : Fml
    Rest = fsep (Others R 𝓛 b (d.from * 8 + o) d.items i) (fsep (Mark.own_val (tt, tt) vs) (cell_at full_share Row.mir vs rb ro))

    back : d.at ≡ block_ptr b o → i < length d.items → (d.from + length d.items) * 8 < 2 ^ 63 → (place : ℕ) → i * 8 + (d.from * 8 + o) ≡ place
        → (x : R.Denot) → ent 𝓤 (sep 𝓤 (sem 𝓛 ((mem R).own_at x b place)) (sem 𝓛 Rest)) (sem 𝓛 ((mem Row).own_at (new x) rb ro))
    unfolding part_of
    back e less small place there x =
        let xs : List R.Denot = slice_set d.items i x in
        qed 𝓛 (‵ (part_at R full_share x b place) ∷ ‵ Rest ∷ []) ∵ rewrite ! 0 (λ k. ‵ (part_at R full_share x b k)) (sym there) refl $
        move ! (1 ∷ []) $ fsplit3 ! $ move ! (3 ∷ 0 ∷ []) $ use2 𝓛 (‵ (kids R b (d.from * 8 + o) xs)) (kid_in R 𝓛 b d.items i (d.from * 8 + o) x less) $
        flt_i ! ((d.from + length xs) * 8) (2 ^ 63) (subst (λ k. (d.from + k) * 8 < 2 ^ 63) (sym (length-set d.items i x)) small) $ fjoin ! $
        rewrite ! 0 (λ (p : Ptr). ‵ (kids_own R p d.from xs)) (sym e) refl $ move ! (1 ∷ 0 ∷ []) $ fjoin ! $ move ! (1 ∷ 0 ∷ []) $ fjoin ! $
        fpack ! (List Val) (λ us. fsep (cell_at full_share Row.mir us rb ro) (Row.own_val (new x) us)) vs $ done !

pub get_mut_spec : {M : Type 1} → statement M
get_mut_spec 𝓤 𝓛 𝓜 𝓡 wired X LX =
    let T = f.ended X in let c = f.clauses X 𝓛 𝓜.mem 𝓡.returns in
    let R : RattleType = param 0 X in let Kr : RattleType = K.the_row R in
    let function : Fn = inst_fn (at_type X) code.function in
    let stayed : Stays T.signature.params T.kept = (stay_dropped (mut_ref_to (0 ∷ []) tt (plain (λ _. Kr))) no, words_stay) in
    let W = walk_of 𝓛 T stayed c in let 𝓣 = tables 𝓤 𝓛.H 𝓜 𝓡 𝓡.env in
    proved 𝓛 T stayed c 𝓜 𝓡 (Goes-spent_ref 𝓛 2 (0 ∷ []) tt (plain (λ _. Kr)), words_go 𝓛)
    (f.Key.name (at_type X)) function (code.unfolded 𝓤 𝓛.H 𝓜 𝓡 wired (X, tt))
    (λ κs. (mut_vals, ((λ s. lowers.lowered s ∷ []), (uint_vals w64, (uint_vals w64, tt)))))
    (λ κs. (mut_Tells (named 0) κs.0 Kr, (lowers.val_is, (uint_Tells w64, (uint_Tells w64, tt))))) (λ κs qs bounds a _ are.
    let κ = κs.0 in let q = qs.0 in let rb = a.0.ref_ptr.0 in let ro = a.0.ref_ptr.1 in let γ = a.0.ghost_name in
    let d = a.0.now in let start = a.1.0 in let from = a.1.1.0 in let i = a.1.1.1.0 in
    let vss : List Val × (List Val × (List Val × (List Val × Unit {0}))) = (mut_vals a.0, (lowers.lowered start ∷ [], (uint_vals w64 from, (uint_vals w64 i, tt)))) in
    let y : W.Ghost = ((κs, qs, bounds, a, vss), tt) in
    let others = ‵ (flft κs.1.0 qs.1.0) ⊛ ‵ ftrue in
    qed 𝓛 (((‵ (flft κ q) ⊛ others) ⊛ ‵ (owns (MutRef (named 0) κ Kr ∷ S ∷ usize ∷ usize ∷ []) a vss)) ∷
    (raw (fact 𝓤 (κs.1.0 ⊑ X.lives)) ⊛ raw (fact 𝓤 ((start.at ≡ d.at) × (from ≡ d.from) × (i < length d.items)))) ∷ []) ∵
    move ! (1 ∷ []) $ split ! $ heard ! _ (λ within. heard ! _ (λ asked. split ! $ split ! $ move ! (2 ∷ []) $ fsplit ! $ fsplit3 ! $ keep ! (1 ∷ 2 ∷ 4 ∷ 5 ∷ []) $
    enter ! _ _ _ _ _ $ alloc_all !
    (λ l. pass_all ! refl (
      (tt, tt),
      (word-Good [] start.at, ((tt, record { fits = are.1.1.0.1 }), ((tt, record { fits = are.1.1.1.0.1 }), tt))),
    ) $
    opens ! tt Kr {h = d} rb ro (λ vs. move ! (1 ∷ []) $ fsplit ! $ move ! (1 ∷ []) $
    in_a_block ! d.at (λ p. kids_own R p d.from d.items) (id⊢ 𝓤 _) (λ b o e. fsplit ! $ flt_l ! (λ small.
    let less : i < length d.items = asked.2 in
    let same : from ≡ d.from = asked.1 in
    let sum : from + i < 2 ^ 64 = omega (arith, less, same, small) in
    let far : (from + i) * 8 < 2 ^ 64 = omega (arith, less, same, small) in
    let it = item d.items i less in let x = it.0 in let place : ℕ = (from + i) * 8 + o in
    let there : i * 8 + (d.from * 8 + o) ≡ place = omega (arith, same) in
    let way = back R 𝓛 d i vs rb ro b o e less small place there in
    take_at ! 2 $ rewrite ! 0 (λ (p : Ptr). ‵ (fat full_share (layout S) (l 2) 0 (word p))) (asked.0 ∙ e) refl $ give_at ! 2 $ first ! $ blocks ! $
    sets ! (bin ! (get ! refl) (get ! refl) (record { fits = sum })) refl (tt, record { fits = sum }) $
    sets ! (bin ! (get ! refl) (lit ! tt) (record { fits = far })) refl (tt, record { fits = far }) $
    sets ! (bin ! (get_in ! (fld ! refl (stop !)) (sub ! 0 refl (whole !))) (get ! refl) tt) refl (tt, tt) $
    use1 𝓛 (‵ (part_at R full_share (slice_index_or d.items i x) b (i * 8 + (d.from * 8 + o))) ⊛ ‵
    (Others R 𝓛 b (d.from * 8 + o) d.items i)) (kid_out R 𝓛 b d.items x i (d.from * 8 + o) less) $ split ! $
    rewrite ! 0 (λ (z : R.Denot). ‵ (part_at R full_share z b (i * 8 + (d.from * 8 + o)))) (it.1 x) refl $ rewrite ! 0 (λ k. ‵ (part_at R full_share x b k)) there refl $
    sets ! (of_opd ! (get ! refl)) refl (tt, tt) $ sets_last ! (addr ! (through ! refl (stop !))) refl (tt, tt) $ exec
    ! 𝓣.C 𝓣.Λ (env function.locals l) (after 1 function.body) (at_ret _ (W.post y)) $ sets !
    (of_opd ! (get ! refl)) refl (tt, tt) $
    move ! (1 ∷ 2 ∷ 3 ∷ []) $ fjoin3 ! $ move ! (2 ∷ 3 ∷ 4 ∷ 1 ∷ 0 ∷ []) $ group ! 5 $
    use1 𝓛 (later (some (λ (δ : GName). raw (Part 𝓛 Kr R (new R 𝓛 d i vs rb ro b o) (named 0) κ q rb ro b place γ (sem 𝓛 (Rest R 𝓛 d i vs rb ro b o)) way x δ))))
    (lends_Part 𝓛 Kr R (new R 𝓛 d i vs rb ro b o) (named 0) κ q rb ro b place γ (sem 𝓛 (Rest R 𝓛 d i vs rb ro b o))
    way (Kr.coded.code d) (Kr.coded.code d) x) $ await ! tt $ pick ! (λ δ.
    let r : MutBor R.Denot = record { ref_ptr = (b, place); ghost_name = δ; now = x } in
    returns ! (look_at ! 0 refl) $ free_all ! refl $ keep ! (0 ∷ 1 ∷ []) $
    use1 𝓛 (‵ ((MutRef (named 0) κ R).own_val r (vptr b place ∷ [])) ⊛
    (‵ (flft κ q) ⊛ ‵ (follows Kr R γ δ (new R 𝓛 d i vs rb ro b o)))) (id⊢ 𝓤 _) $ split ! $ move ! (1 ∷ []) $
    split ! $ move ! (2 ∷ 0 ∷ 1 ∷ []) $
    suffices ! _ (ends_at 𝓛 T stayed c y (vptr b place) r (tt, (tt, (tt, (tt, tt)))) (tt, (tt, (tt, (tt, tt))))) $
    nothing ! $ nothing ! $ fjoin ! $ nothing ! $ fjoin ! $ nothing ! $ fjoin ! $ nothing ! $ fjoin ! $ join ! $ move
    ! (1 ∷ 3 ∷ []) $ join ! $ join ! $ frame ! $ says ! (sym (it.1 x)) $ done !))))))))
