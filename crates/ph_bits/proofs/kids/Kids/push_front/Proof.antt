-- `push_front` moves a value into the last place of the words. Assumes `Logic`.
use Rattle.ph_bits.proofs.Walks.{◌≤◌, vunit, take, length-take, behind, unit_lit, assigns_last, init, ◌≡◌, ℕ, ◌+◌, ◌*◌, ◌^◌, ◌<◌, List, [], ◌∷◌}
use Rattle.ph_bits.proofs.Walks.{refl, sym, subst, ◌∙◌, arith, length, Option, full_share, id⊢, ftrue, fat, flft, froom, ty_int, named, w64, Val}
use Rattle.ph_bits.proofs.Walks.{fact, tables, ‵, raw, ◌⊛◌, at_ret, ◌$◌, ◌∵◌, !, qed, done, move, keep, drop, use1, use2, split, join, fsplit}
use Rattle.ph_bits.proofs.Walks.{fsplit3, fjoin, fjoin3, flt_l, flt_i, feq_i, rewrite, suffices, frame, whole, sub, enter, of_opd, bin, lit}
use Rattle.ph_bits.proofs.Walks.{stop, fld, first, blocks, exec, returns, take_at, give_at, layout, word, word-Good, alloc_all, pass_all}
use Rattle.ph_bits.proofs.Walks.{free_all, look_at, get, get_in, through, sets, env, usize, yes, no, uint_vals, uint_Tells, Ptr, block_ptr}
use Rattle.ph_bits.proofs.Walks.{in_a_block, owns, MutRef, mut_vals, mut_Tells, plain, nothing, opens, closes, heard, Stays, walk_of, says}
use Rattle.ph_bits.proofs.Walks.{stay_dropped, Goes-dropped, ends_at, after}
use base.Logic.{ent}
use borrow.Table.OneValue.{part_in}
use contract.BorrowLft.{◌⊑◌}
use denote.Memory.{lone, part_at}
use denote.Param.{param}
use denote.RattleType.{RattleType}
use mir.MapTy.{inst_fn}
use mir.Syntax.{Fn}
use prog.Memory.{size, align}
use prog.Wp.{WpFn}
use Rattle.std.proofs.raw_atomic.Walks.{proved_at}
use Rattle.ph_bits.specs.Kids.{IsWord, kids, kids_own}
use Rattle.ph_bits.specs.Memory.{places, block_owns}
use Rattle.ph_bits.specs.contracts.kids.Kids.push_front as f
use Rattle.ph_bits.specs.contracts.kids.Kids as K
use Rattle.ph_bits.specs.contracts.places.Places.{the_row as P}
use Rattle.ph_bits.specs.contracts.places.Start.{the_row as S}
use Rattle.ph_bits.proofs.places.Start.TheLaws.{lowers}
use Rattle.ph_bits.proofs.kids.Kids.push_front.Statement.{statement}
use Rattle.ph_bits.proofs.kids.Kids.push_front.Code as code
use Rattle.ph_bits.proofs.KidSteps.{both_stay, both_go, last_left, one_value, room_word, at_type}
use Rattle.ph_bits.proofs.PlaceSteps.{front_out, emptied}

pub push_front_spec : {M : Type 1} → statement M
push_front_spec 𝓤 𝓛 𝓜 𝓡 wired X LX =
    let C = f.ended X in let c = f.clauses X 𝓛 𝓜.mem 𝓡.returns in
    let R : RattleType = param 0 X in let Kr : RattleType = K.the_row R in
    let function : Fn = inst_fn (at_type X) code.function in
    let stay : Stays {n = 3} (plain (λ _. S) ∷ plain (λ _. usize) ∷ plain (λ _. R) ∷ []) (yes, (yes, (no, tt))) =
    (stay_dropped (plain (λ _. S)) yes, (stay_dropped (plain (λ _. usize)) yes, (stay_dropped (plain (λ _. R)) no, tt))) in
    let stayed : Stays C.signature.params C.kept =
    both_stay R (plain (λ _. S) ∷ plain (λ _. usize) ∷ plain (λ _. R) ∷ []) (yes, (yes, (no, tt))) stay in
    let W = walk_of 𝓛 C stayed c in let 𝓣 = tables 𝓤 𝓛.H 𝓜 𝓡 𝓡.env in
    proved_at 𝓛 C stayed c 𝓜 𝓡 (both_go R 𝓛 (plain (λ _. S) ∷ plain (λ _. usize) ∷ plain (λ _. R) ∷ []) (yes, (yes, (no, tt))) stay (
      Goes-dropped 𝓛 3 (plain (λ _. S)) yes (λ κs x w. refl),
      (Goes-dropped 𝓛 3 (plain (λ _. usize)) yes (λ κs x w. refl), (Goes-dropped 𝓛 3 (plain (λ _. R)) no (λ κs x w. refl), tt)),
    ))
    (f.Key.name (at_type X)) function (code.unfolded 𝓤 𝓛.H 𝓜 𝓡 wired (X, tt)) (λ z are.
    let κs = z.0.0 in let qs = z.0.1 in let bounds = z.0.2 in let a = z.0.3 in
    let κ = κs.0 in let q = qs.0 in let rb = a.0.ref_ptr.0 in let ro = a.0.ref_ptr.1 in let d = a.0.now in
    let κ' = κs.1.0 in let q' = qs.1.0 in let rb' = a.1.0.ref_ptr.0 in let ro' = a.1.0.ref_ptr.1 in let p = a.1.0.now in
    let start = a.1.1.0 in let last = a.1.1.1.0 in let x = a.1.1.1.1.0 in
    let one = one_value X LX 𝓛 x z.0.4.1.1.1.1.0 are.1.1.1.1.0 in let v = one.0 in let good = one.1.1 in
    let vss : List Val × (List Val × (List Val × (List Val × (List Val × Unit {0})))) =
    (mut_vals a.0, (mut_vals a.1.0, (lowers.lowered start ∷ [], (uint_vals w64 last, (v ∷ [], tt))))) in
    let said : z.0.4 ≡ vss = λ i. (
      mut_Tells (named 0) κ Kr a.0 z.0.4.0 are.0 i,
      (
        mut_Tells (named 1) κ' P a.1.0 z.0.4.1.0 are.1.0 i,
        (lowers.val_is start z.0.4.1.1.0 are.1.1.0 i, (uint_Tells w64 last z.0.4.1.1.1.0 are.1.1.1.0 i, (one.1.0 i, tt))),
      ),
    ) in
    let others = ‵ (flft κs.1.1.0 qs.1.1.0) ⊛ ‵ ftrue in
    let Asks = (start.at ≡ d.at) × (start.at ≡ p.at) × (d.from ≡ last + 1) × (length p.slots ≡ last + 1) × IsWord R in
    let y : W.Ghost = ((κs, qs, bounds, a, vss), tt) in
    subst (λ (us : List Val × (List Val × (List Val × (List Val × (List Val × Unit {0}))))). ent 𝓤
    (W.pre ((κs, qs, bounds, a, us), tt))
    (WpFn 𝓤 𝓛.H 𝓣.C 𝓣.Λ function (W.args ((κs, qs, bounds, a, us), tt)) (W.post ((κs, qs, bounds, a, us), tt)))) (sym said) (
    qed 𝓛 (((‵ (flft κ q) ⊛ (‵ (flft κ' q') ⊛ others)) ⊛ ‵
    (owns (MutRef (named 0) κ Kr ∷ MutRef (named 1) κ' P ∷ S ∷ usize ∷ R ∷ []) a vss)) ∷
    (raw (fact 𝓤 (κs.1.1.0 ⊑ X.lives)) ⊛ raw (fact 𝓤 Asks)) ∷ []) ∵
    move ! (1 ∷ []) $ split ! $ heard ! _
    (λ within. heard ! _ (λ asked. split ! $ split ! $ move ! (1 ∷ []) $ split ! $ move ! (3 ∷ []) $ fsplit ! $
    fsplit3 ! $ move ! (3 ∷ []) $ fsplit ! $ fsplit3 ! $
    move ! (3 ∷ []) $ fsplit ! $ move ! (1 ∷ []) $ fsplit ! $ move ! (1 ∷ []) $ fsplit ! $
    -- [of the values: what is observed, its borrow, its lifetime; the same of the places; the other lifetimes; the value]
    keep ! (8 ∷ 9 ∷ 12 ∷ 5 ∷ 6 ∷ 10 ∷ 11 ∷ 0 ∷ []) $
    enter ! _ _ _ _ _ $ alloc_all ! (λ l. pass_all ! refl ((tt, tt), ((tt, tt), (word-Good [] start.at, ((tt, record { fits = are.1.1.1.0.1 }), (good, tt))))) $
    opens ! tt Kr {h = d} rb ro (λ vs. move ! (1 ∷ []) $ fsplit ! $ move ! (1 ∷ []) $ in_a_block ! d.at
    (λ z. kids_own R z d.from d.items) (id⊢ 𝓤 _) (λ b o e. fsplit ! $ flt_l ! (λ small.
    let same : d.from ≡ last + 1 = asked.2 in
    let there : p.at ≡ block_ptr b o = sym asked.1 ∙ asked.0 ∙ e in
    let far : last * 8 < 2 ^ 64 = omega (arith, same, small) in
    let at : ℕ = last * 8 + o in
    let slots : List (Option ℕ) = take last p.slots in
    let shorter : length slots ≤ last = omega (arith, length-take last p.slots) in
    let left = last_left p.slots last asked.3 in
    let newp : P.Denot = record p { slots = slots } in
    let new : Kr.Denot = record { mark = d.mark; at = d.at; from = last; items = x ∷ d.items } in
    move ! (6 ∷ 7 ∷ 8 ∷ []) $ opens ! tt P {h = p} rb' ro' (λ us. move ! (1 ∷ []) $ fsplit ! $ move ! (1 ∷ []) $
    rewrite ! 0 (λ (z : Ptr). ‵ (block_owns z p.slots)) there refl $ fsplit ! $ flt_l ! (λ fitting.
    use1 𝓛 (‵ (places b o slots) ⊛ ‵ (places b at (behind last p.slots))) (front_out 𝓛 b p.slots last o (omega (arith, asked.3))) $ split ! $ move ! (1 ∷ []) $
    rewrite ! 0 (λ (cs : List (Option ℕ)). ‵ (places b at cs)) left.1 refl $ fsplit ! $ use1 𝓛
    (‵ (froom (ty_int w64) b at)) (emptied 𝓛 b at left.0) $ move ! (1 ∷ []) $ drop ! $
    use1 𝓛 (‵ (froom (layout X) b at)) (room_word X LX 𝓛 asked.4 b at) $
    take_at ! 3 $ rewrite ! 0 (λ (z : Ptr). ‵ (fat full_share (layout S) (l 3) 0 (word z))) (asked.0 ∙ e) refl $ give_at ! 3 $ first ! $ blocks ! $
    sets ! (bin ! (get ! refl) (lit ! tt) (record { fits = far })) refl (tt, record { fits = far }) $
    sets ! (bin ! (get_in ! (fld ! refl (stop !)) (sub ! 0 refl (whole !))) (get ! refl) tt) refl (tt, tt) $
    sets ! (of_opd ! (get ! refl)) refl (tt, tt) $ sets ! (of_opd ! (get ! refl)) refl good $
    assigns_last ! (of_opd ! (get ! refl)) (through ! refl (stop !)) (init ! 0 refl good) $
    exec ! 𝓣.C 𝓣.Λ (env function.locals l) (after 1 function.body) (at_ret _ (W.post y)) $ sets ! (of_opd ! (unit_lit !)) refl (tt, tt) $
    move ! (0 ∷ 14 ∷ []) $ use2 𝓛 (‵ (part_at R full_share x b at)) (part_in 𝓛 R refl full_share x b at v) $
    feq_i ! ℕ (align (lone R.mir)) 8 asked.4.1 $ feq_i ! ℕ (size (lone R.mir)) 8 asked.4.0 $ fjoin ! $ fjoin ! $
    let next : d.from * 8 + o ≡ at + 8 = omega (arith, same) in
    move ! (7 ∷ []) $ rewrite ! 0 (λ k. ‵ (kids R b k d.items)) next refl $ move ! (1 ∷ 0 ∷ []) $ fjoin ! $
    flt_i ! ((last + length (x ∷ d.items)) * 8) (2 ^ 63) (omega (arith, small, same)) $ fjoin ! $ rewrite ! 0
    (λ (z : Ptr). ‵ (kids_own R z last (x ∷ d.items))) (sym e) refl $
    move ! (7 ∷ 0 ∷ []) $ fjoin ! $ move ! (7 ∷ 0 ∷ 8 ∷ 9 ∷ 10 ∷ []) $ closes ! tt Kr new vs rb ro $
    move ! (3 ∷ []) $ flt_i ! (length slots * 8) (2 ^ 63) (omega (arith, shorter, small, same)) $ fjoin ! $ rewrite !
    0 (λ (z : Ptr). ‵ (block_owns z slots)) (sym there) refl $
    move ! (4 ∷ 0 ∷ []) $ fjoin ! $ move ! (4 ∷ 0 ∷ 5 ∷ 6 ∷ 7 ∷ []) $ closes ! tt P newp us rb' ro' $
    returns ! (look_at ! 0 refl) $ free_all ! refl $ keep ! (0 ∷ 1 ∷ 2 ∷ 3 ∷ 4 ∷ 5 ∷ 6 ∷ []) $ feq_i ! _ (vunit ∷ []) _ refl $
    suffices ! _ (ends_at 𝓛 C stayed c y vunit tt (new, (newp, (tt, (tt, (tt, tt))))) (tt, (tt, (tt, (tt, (tt, tt)))))) $ says ! (refl, refl, refl, refl, refl) $
    move ! (3 ∷ 7 ∷ []) $ join ! $ move ! (6 ∷ 0 ∷ []) $ join ! $ frame ! $
    move ! (3 ∷ 4 ∷ []) $ feq_i ! _ (mut_vals a.0) _ refl $ fjoin3 ! $ move ! (2 ∷ 3 ∷ []) $ feq_i ! _ (mut_vals a.1.0) _ refl $ fjoin3 ! $
    nothing ! $ nothing ! $ fjoin ! $ nothing ! $ fjoin ! $ nothing ! $ fjoin ! $ move ! (1 ∷ 0 ∷ []) $ fjoin ! $ move ! (1 ∷ 0 ∷ []) $ fjoin ! $ done !))))))))))
