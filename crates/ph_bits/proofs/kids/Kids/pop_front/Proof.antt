-- `pop_front` moves a value out, and its place is one of the words'. Assumes `Logic`.
use Rattle.ph_bits.proofs.Walks.{◌≡◌, ℕ, ◌+◌, ◌*◌, ◌^◌, ◌<◌, List, [], ◌∷◌, ◌++◌, refl, sym, ap, ◌∙◌, arith, length, length-append, Option, None, proved}
use Rattle.ph_bits.proofs.Walks.{full_share, id⊢, ftrue, fat, flft, froom, ty_int, named, w64, Val, fact, tables, ‵, raw, ◌⊛◌, at_ret, ◌$◌, ◌∵◌, !, qed}
use Rattle.ph_bits.proofs.Walks.{done, move, keep, use1, use2, split, join, fsplit, fsplit3, fjoin, fjoin3, flt_l, flt_i, feq_i, rewrite, suffices, frame}
use Rattle.ph_bits.proofs.Walks.{whole, sub, enter, of_opd, bin, lit, stop, fld, first, blocks, exec, returns, take_at, give_at, layout, word, word-Good}
use Rattle.ph_bits.proofs.Walks.{alloc_all, pass_all, free_all, look_at, get, get_in, through, sets, sets_last, env, usize, yes, uint_vals, uint_Tells}
use Rattle.ph_bits.proofs.Walks.{Ptr, block_ptr, in_a_block, owns, MutRef, mut_vals, mut_Tells, plain, nothing, opens, closes, heard, Stays, walk_of}
use Rattle.ph_bits.proofs.Walks.{says, stay_dropped, Goes-dropped, ends_at, after}
use contract.BorrowLft.{◌⊑◌}
use denote.Memory.{part_at}
use denote.Param.{param}
use denote.RattleType.{RattleType}
use mir.MapTy.{inst_fn}
use mir.Syntax.{Fn}
use types.Kit.{some, given, pick, learn, feq_l}
use types.Run.{look, load}
use Rattle.std.proofs.RcSteps.{Good}
use Rattle.ph_bits.specs.Kids.{kids, kids_own}
use Rattle.ph_bits.specs.Memory.{places, block_owns}
use Rattle.ph_bits.specs.contracts.kids.Kids.pop_front as f
use Rattle.ph_bits.specs.contracts.kids.Kids as K
use Rattle.ph_bits.specs.contracts.places.Places.{the_row as P}
use Rattle.ph_bits.specs.contracts.places.Start.{the_row as S}
use Rattle.ph_bits.proofs.places.Start.TheLaws.{lowers}
use Rattle.ph_bits.proofs.kids.Kids.pop_front.Statement.{statement}
use Rattle.ph_bits.proofs.kids.Kids.pop_front.Code as code
use Rattle.ph_bits.proofs.KidSteps.{both_stay, both_go, uncons, value_out, word_room, at_type}
use Rattle.ph_bits.proofs.PlaceSteps.{front_in}

pub pop_front_spec : {M : Type 1} → statement M
pop_front_spec 𝓤 𝓛 𝓜 𝓡 wired X LX =
    let T = f.ended X in let c = f.clauses X 𝓛 𝓜.mem 𝓡.returns in
    let R : RattleType = param 0 X in let Kr : RattleType = K.the_row R in
    let function : Fn = inst_fn (at_type X) code.function in
    let stay : Stays {n = 3} (plain (λ _. S) ∷ plain (λ _. usize) ∷ []) (yes, (yes, tt)) =
    (stay_dropped (plain (λ _. S)) yes, (stay_dropped (plain (λ _. usize)) yes, tt)) in
    let stayed : Stays T.signature.params T.kept = both_stay R (plain (λ _. S) ∷ plain (λ _. usize) ∷ []) (yes, (yes, tt)) stay in
    let W = walk_of 𝓛 T stayed c in let 𝓣 = tables 𝓤 𝓛.H 𝓜 𝓡 𝓡.env in
    proved 𝓛 T stayed c 𝓜 𝓡 (both_go R 𝓛 (plain (λ _. S) ∷ plain (λ _. usize) ∷ []) (yes, (yes, tt)) stay
    (Goes-dropped 𝓛 3 (plain (λ _. S)) yes (λ κs x w. refl), (Goes-dropped 𝓛 3 (plain (λ _. usize)) yes (λ κs x w. refl), tt)))
    (f.Key.name (at_type X)) function (code.unfolded 𝓤 𝓛.H 𝓜 𝓡 wired (X, tt))
    (λ κs. (mut_vals, (mut_vals, ((λ s. lowers.lowered s ∷ []), (uint_vals w64, tt)))))
    (λ κs. (mut_Tells (named 0) κs.0 Kr, (mut_Tells (named 1) κs.1.0 P, (lowers.val_is, (uint_Tells w64, tt))))) (λ κs qs bounds a _ are.
    let κ = κs.0 in let q = qs.0 in let rb = a.0.ref_ptr.0 in let ro = a.0.ref_ptr.1 in let d = a.0.now in
    let κ' = κs.1.0 in let q' = qs.1.0 in let rb' = a.1.0.ref_ptr.0 in let ro' = a.1.0.ref_ptr.1 in let p = a.1.0.now in
    let start = a.1.1.0 in let from = a.1.1.1.0 in
    let vss : List Val × (List Val × (List Val × (List Val × Unit {0}))) = (mut_vals a.0, (mut_vals a.1.0, (lowers.lowered start ∷ [], (uint_vals w64 from, tt)))) in
    let y : W.Ghost = ((κs, qs, bounds, a, vss), tt) in
    let others = ‵ (flft κs.1.1.0 qs.1.1.0) ⊛ ‵ ftrue in
    let Asks = (start.at ≡ d.at) × (start.at ≡ p.at) × (from ≡ d.from) × (from ≡ length p.slots) × (0 < length d.items) in
    qed 𝓛 (((‵ (flft κ q) ⊛ (‵ (flft κ' q') ⊛ others)) ⊛ ‵
    (owns (MutRef (named 0) κ Kr ∷ MutRef (named 1) κ' P ∷ S ∷ usize ∷ []) a vss)) ∷
    (raw (fact 𝓤 (κs.1.1.0 ⊑ X.lives)) ⊛ raw (fact 𝓤 Asks)) ∷ []) ∵
    move ! (1 ∷ []) $ split ! $ heard ! _
    (λ within. heard ! _ (λ asked. split ! $ split ! $ move ! (1 ∷ []) $ split ! $ move ! (3 ∷ []) $ fsplit ! $
    fsplit3 ! $ move ! (3 ∷ []) $ fsplit ! $ fsplit3 ! $
    -- [of the values: what is observed, its borrow, its lifetime; the same of the places; the other lifetimes]
    keep ! (5 ∷ 6 ∷ 9 ∷ 1 ∷ 2 ∷ 7 ∷ 8 ∷ []) $
    enter ! _ _ _ _ _ $ alloc_all ! (λ l. pass_all ! refl ((tt, tt), ((tt, tt), (word-Good [] start.at, ((tt, record { fits = are.1.1.1.0.1 }), tt)))) $
    opens ! tt Kr {h = d} rb ro (λ vs. move ! (1 ∷ []) $ fsplit ! $ move ! (1 ∷ []) $ in_a_block ! d.at
    (λ z. kids_own R z d.from d.items) (id⊢ 𝓤 _) (λ b o e. fsplit ! $ flt_l ! (λ small.
    let same : from ≡ d.from = asked.2 in
    let un = uncons d.items asked.4 in let x = un.0 in let rest : List R.Denot = un.1.0 in
    let long : length d.items ≡ length rest + 1 = ap length un.1.1 ∙ omega arith in
    let there : p.at ≡ block_ptr b o = sym asked.1 ∙ asked.0 ∙ e in
    let far : from * 8 < 2 ^ 64 = omega (arith, same, small) in
    let place : ℕ = from * 8 + o in
    let slots : List (Option ℕ) = p.slots ++ None ∷ [] in
    let longer : length slots ≡ from + 1 = length-append p.slots (None ∷ []) ∙ omega (arith, asked.3) in
    let newp : P.Denot = record p { slots = slots } in
    let new : Kr.Denot = record { mark = d.mark; at = d.at; from = from + 1; items = rest } in
    move ! (6 ∷ 7 ∷ 8 ∷ []) $ opens ! tt P {h = p} rb' ro' (λ us. move ! (1 ∷ []) $ fsplit ! $ move ! (1 ∷ []) $
    rewrite ! 0 (λ (z : Ptr). ‵ (block_owns z p.slots)) there refl $ fsplit ! $ flt_l ! (λ fitting.
    move ! (6 ∷ []) $ rewrite ! 0 (λ (xs : List R.Denot). ‵ (kids R b (d.from * 8 + o) xs)) un.1.1 refl $ fsplit ! $
    fsplit ! $ fsplit ! $ feq_l ! (λ eight. feq_l ! (λ aligned.
    rewrite ! 0 (λ k. ‵ (part_at R full_share x b (k * 8 + o))) (sym same) refl $
    take_at ! 3 $ rewrite ! 0 (λ (z : Ptr). ‵ (fat full_share (layout S) (l 3) 0 (word z))) (asked.0 ∙ e) refl $ give_at ! 3 $ first ! $ blocks ! $
    sets ! (bin ! (get ! refl) (lit ! tt) (record { fits = far })) refl (tt, record { fits = far }) $
    sets ! (bin ! (get_in ! (fld ! refl (stop !)) (sub ! 0 refl (whole !))) (get ! refl) tt) refl (tt, tt) $
    sets ! (of_opd ! (get ! refl)) refl (tt, tt) $
    use1 𝓛 (some (λ (v : Val). given (Good (layout X) v)
    (‵ (fat full_share (layout X) b place v) ⊛ ‵ (X.own_val x (v ∷ []))))) (value_out X LX 𝓛 x b place) $ pick !
    (λ v. learn ! (λ good. split ! $
    sets_last ! (of_opd ! (load ! (through ! refl (stop !)) (look ! 0 refl))) refl good $
    exec ! 𝓣.C 𝓣.Λ (env function.locals l) (after 1 function.body) (at_ret _ (W.post y)) $ sets ! (of_opd ! (get ! refl)) refl good $
    use1 𝓛 (‵ (froom (layout X) b place)) (𝓛.laws.at_room (layout X) b place v) $ use1 𝓛 (‵ (froom (ty_int w64) b place)) (word_room X LX 𝓛 (eight, aligned) b place) $
    let none : place ≡ length p.slots * 8 + o = ap (λ k. k * 8 + o) asked.3 in
    rewrite ! 0 (λ k. ‵ (froom (ty_int w64) b k)) none refl $ nothing ! $ move ! (1 ∷ 0 ∷ []) $ fjoin ! $ move ! (3 ∷ 0 ∷ []) $
    use2 𝓛 (‵ (places b o slots)) (front_in 𝓛 b p.slots (None ∷ []) o) $
    flt_i ! (length slots * 8) (2 ^ 63) (omega (arith, longer, small, same, long)) $ fjoin ! $ rewrite ! 0 (λ (z : Ptr). ‵ (block_owns z slots)) (sym there) refl $
    move ! (3 ∷ 0 ∷ []) $ fjoin ! $ move ! (3 ∷ 0 ∷ 4 ∷ 5 ∷ 6 ∷ []) $ closes ! tt P newp us rb' ro' $
    let next : d.from * 8 + o + 8 ≡ (from + 1) * 8 + o = omega (arith, same) in
    move ! (4 ∷ []) $ rewrite ! 0 (λ k. ‵ (kids R b k rest)) next refl $
    flt_i ! ((from + 1 + length rest) * 8) (2 ^ 63) (omega (arith, small, same, long)) $ fjoin ! $ rewrite ! 0
    (λ (z : Ptr). ‵ (kids_own R z (from + 1) rest)) (sym e) refl $
    move ! (5 ∷ 0 ∷ []) $ fjoin ! $ move ! (5 ∷ 0 ∷ 6 ∷ 7 ∷ 8 ∷ []) $ closes ! tt Kr new vs rb ro $
    returns ! (look_at ! 0 refl) $ free_all ! refl $ keep ! (0 ∷ 1 ∷ 2 ∷ 3 ∷ 4 ∷ 5 ∷ 6 ∷ 7 ∷ []) $
    suffices ! _ (ends_at 𝓛 T stayed c y v x (new, (newp, (tt, (tt, tt)))) (tt, (tt, (tt, (tt, tt))))) $ says ! (un.1.1, refl, refl, refl, refl) $
    move ! (5 ∷ 7 ∷ []) $ join ! $ move ! (3 ∷ 0 ∷ []) $ join ! $ frame ! $
    feq_i ! _ (mut_vals a.0) _ refl $ fjoin3 ! $ move ! (1 ∷ 2 ∷ []) $ feq_i ! _ (mut_vals a.1.0) _ refl $ fjoin3 ! $
    nothing ! $ nothing ! $ fjoin ! $ nothing ! $ fjoin ! $ move ! (1 ∷ 0 ∷ []) $ fjoin ! $ move ! (1 ∷ 0 ∷ []) $ fjoin ! $ done !)))))))))))))
