-- `none` owns nothing. Assumes `Logic`.
use Rattle.ph_bits.proofs.Walks.{agg, no_more, and_then, ftrue, use0, flt_i, ◌+◌, ◌*◌, ◌^◌, List, [], ◌∷◌, refl, sym, arith, length, proved, id⊢, flft}
use Rattle.ph_bits.proofs.Walks.{named, Val, fact, tables, ‵, raw, ◌⊛◌, ◌$◌, ◌∵◌, !, qed, done, move, keep, drop, split, join, fsplit, fjoin, flt_l}
use Rattle.ph_bits.proofs.Walks.{rewrite, suffices, frame, enter, returns, alloc_all, pass_all, free_all, look_at, get, sets, yes, Ptr, in_a_block}
use Rattle.ph_bits.proofs.Walks.{owns, plain, nothing, heard, Stays, walk_of, says, stay_dropped, Goes-dropped, ends_at}
use contract.BorrowLft.{◌⊑◌}
use denote.Builtin.{RefOf}
use denote.Opens.{unhide}
use denote.Param.{param}
use denote.Ref.{ShrRef, shr_vals, shr_Tells}
use denote.RattleType.{RattleType}
use mir.MapTy.{inst_fn}
use mir.Syntax.{Fn}
use Rattle.ph_bits.specs.Kids.{kids_own}
use Rattle.ph_bits.specs.contracts.kids.Kids.none as f
use Rattle.ph_bits.specs.contracts.kids.Kids as K
use Rattle.ph_bits.proofs.kids.Kids.none.Statement.{statement}
use Rattle.ph_bits.proofs.kids.Kids.none.Code as code
use Rattle.ph_bits.proofs.KidSteps.{Mark, kid_mark, at_type}
use Rattle.ph_bits.proofs.Made.{mark}
use Rattle.ph_bits.specs.contracts.places.Places.{the_row as P}
use Rattle.ph_bits.specs.Memory.{block_lent}

pub none_spec : {M : Type 1} → statement M
none_spec 𝓤 𝓛 𝓜 𝓡 wired X LX =
    let T = f.ended X in let c = f.clauses X 𝓛 𝓜.mem 𝓡.returns in
    let R : RattleType = param 0 X in let Kr : RattleType = K.the_row R in
    let function : Fn = inst_fn (at_type X) code.function in
    let stayed : Stays T.signature.params T.kept = (stay_dropped (RefOf (0 ∷ []) tt (plain (λ _. P)) (λ _. tt)) yes, tt) in
    let W = walk_of 𝓛 T stayed c in let 𝓣 = tables 𝓤 𝓛.H 𝓜 𝓡 𝓡.env in
    proved 𝓛 T stayed c 𝓜 𝓡
    (Goes-dropped 𝓛 2 (RefOf (0 ∷ []) tt (plain (λ _. P)) (λ _. tt)) yes (λ κs x w. refl), tt)
    (f.Key.name (at_type X)) function (code.unfolded 𝓤 𝓛.H 𝓜 𝓡 wired (X, tt))
    (λ κs. (shr_vals, tt)) (λ κs. (shr_Tells (named 0) κs.0 P, tt)) (λ κs qs bounds a _ are.
    let κ = κs.0 in let q = qs.0 in let p = a.0.now in
    let vss : List Val × Unit {0} = (shr_vals a.0, tt) in
    let y : W.Ghost = ((κs, qs, bounds, a, vss), tt) in
    let others = ‵ (flft κs.1.0 qs.1.0) ⊛ ‵ ftrue in
    let none : Kr.Denot = record { mark = record {}; at = p.at; from = length p.slots; items = [] } in
    qed 𝓛 (((‵ (flft κ q) ⊛ others) ⊛ ‵ (owns (ShrRef (named 0) κ P ∷ []) a vss)) ∷ (raw (fact 𝓤 (κs.1.0 ⊑ X.lives)) ⊛ ‵ ftrue) ∷ []) ∵
    move ! (1 ∷ []) $ split ! $ heard ! _ (λ within. drop ! $ split ! $ split ! $ move ! (2 ∷ []) $ fsplit ! $ fsplit ! $ keep ! (1 ∷ 3 ∷ 4 ∷ []) $
    enter ! _ _ _ _ _ $ alloc_all ! (λ l. pass_all ! refl ((tt, tt), tt) $
    unhide ! $ fsplit ! $ drop ! $ in_a_block ! p.at (λ z. block_lent z p.slots κ) (id⊢ 𝓤 _) (λ b o e. fsplit ! $ flt_l ! (λ small. drop ! $
    sets ! (agg ! (no_more !)) refl (tt, tt) $ sets ! (agg ! (and_then ! (get ! refl) (no_more !))) refl (tt, (tt, tt)) $
    returns ! (look_at ! 0 refl) $ free_all ! refl $ keep ! (0 ∷ 1 ∷ []) $
    nothing ! $ flt_i ! ((length p.slots + 0) * 8) (2 ^ 63) (omega (arith, small)) $ fjoin ! $ rewrite ! 0
    (λ (z : Ptr). ‵ (kids_own R z (length p.slots) [])) (sym e) refl $
    use0 𝓛 (‵ ((Mark R).own_val (tt, tt) (mark ∷ []))) (kid_mark R 𝓛) $ fjoin ! $
    suffices ! _ (ends_at 𝓛 T stayed c y mark none (tt, tt) (tt, tt)) $ says ! (refl, refl, refl) $
    move ! (1 ∷ 2 ∷ []) $ join ! $ frame ! $ nothing ! $ nothing ! $ fjoin ! $ done !)))))
