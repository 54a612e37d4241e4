-- `into_parts` looks whether the pointer is null, and has the parts of the tree's box where it is not.
use Rattle.std.proofs.Common.{◌≡◌, List, [], ◌∷◌, ◌++◌, refl, sym, ap, ◌∙◌, subst, lit<}
use mir.Val.{Val, vcons, vnil}
use base.Logic.{SProp, ent, id⊢}
use base.Fml.{ftrue}
use prog.Wp.{WpFn}
use types.Kit.{‵, ◌⊛◌, at_ret, ◌$◌, ◌∵◌, !, qed, move, keep, drop, split, join, fsplit, fjoin, suffices, use0, use1, rewrite, done}
use types.Run.{stop, fld, lit, of_opd, bin, no_more, and_then, first, branches, exec, returns, enter}
use types.ByLocal.{alloc_all, pass_all, free_all, look_at, get, get_in, sets, sets_last, env}
use types.Part.{agg, sub, whole as all_of}
use types.Match.{live}
use contract.Running.{tables}
use denote.Exit.{yes}
use denote.RattleType.{RattleType, owns}
use denote.Signature.{types_at, type_at, plain}
use denote.Param.{layout}
use denote.RawPtr.{Ptr, block_ptr, null_ptr, tests_null}
use denote.Steps.{nothing}
use denote.Triple.Walked.{Stays, stay_dropped, walk_of, says, Goes-dropped, ends_at}
use Rattle.core.proofs.alloc.Shapes.{after}
use Rattle.core.proofs.cell.Inside.{Good, one}
use Rattle.core.proofs.option.Made.{Some-of, none_of}
use Rattle.std.specs.Prelude.{Some, None}
use Rattle.std.specs.contracts.alloc.Global as heap
use Rattle.std.proofs.alloc.Global.TheLaws as heap_laws
use Rattle.std.proofs.raw_atomic.Walks.{proved_at}
use Rattle.std_alloc.proofs.ResultValues.{and_tt}
use Rattle.std_alloc.proofs.BoxSteps.Form.{word as parts_word, box_typed}
use Rattle.std_alloc.proofs.BoxSteps.Steps.{box_in}
use Rattle.ph_c.proofs.Parts.{whole}
use Rattle.ph_c.proofs.Handles.{word, Row, TreeBox, TreeParts, handle_out, either_owned}
use Rattle.ph_c.specs.contracts.handle.Handle.into_parts as f
use Rattle.ph_c.proofs.handle.Handle.into_parts.Statement.{statement}
use Rattle.ph_c.proofs.handle.Handle.into_parts.Code as code

abbrev Z : RattleType
Z = heap.the_row

abbrev stayed : Stays f.ended.signature.params f.ended.kept
stayed = (stay_dropped (plain (λ _. Row)) yes, (stay_dropped (plain (λ _. Z)) yes, tt))

pub into_parts_spec : {M : Type 1} → statement M
into_parts_spec 𝓤 𝓛 𝓜 𝓡 wired =
    let H = 𝓛.H in let 𝓣 = tables 𝓤 H 𝓜 𝓡 𝓡.env in let c = f.clauses 𝓛 𝓜.mem 𝓡.returns in let W = walk_of 𝓛 f.ended stayed c in let fn = code.function in
    proved_at 𝓛 f.ended stayed c 𝓜 𝓡 (Goes-dropped 𝓛 0 (plain (λ _. Row)) yes (λ κs x f. refl), (Goes-dropped 𝓛 0 (plain (λ _. Z)) yes (λ κs x f. refl), tt)) f.Key.name fn (code.unfolded 𝓤 H 𝓜 𝓡 wired) (λ z are.
    let κs = z.0.0 in let d = z.0.3.0 in let a = z.0.3.1.0 in let Post : Val → SProp 𝓤 = W.post z in let Run : List Val → SProp 𝓤 = λ ws. WpFn 𝓤 H 𝓣.C 𝓣.Λ fn ws Post in
    let Out : RattleType = type_at f.ended.signature.result κs in
    let h = one (layout Z) z.0.4.1.0 ((heap_laws.the_row_laws.lawful 𝓛).typed a z.0.4.1.0 are.1.0) in
    qed 𝓛 ((‵ ftrue ⊛ ‵ (owns (types_at f.ended.signature.params κs) z.0.3 z.0.4)) ∷ ‵ ftrue ∷ []) ∵ split ! $ drop ! $ fsplit ! $
    handle_out ! d z.0.4.0 (λ ew. move ! (1 ∷ []) $ fsplit ! $ keep ! (2 ∷ 0 ∷ []) $ rewrite ! 1 (λ (us : List Val). ‵ (Z.own_val a us)) h.1 refl $
    let passed : (p : Ptr) → d.at ≡ p → ent 𝓤 (Run (word p ∷ h.0 ∷ [])) (Run (z.0.4.0 ++ (z.0.4.1.0 ++ []))) = λ p e.
    subst (λ (us : List Val). ent 𝓤 (Run (word p ∷ h.0 ∷ [])) (Run us)) (sym (λ i. (ew ∙ ap (λ (q : Ptr). word q ∷ []) e) i ++ (h.1 i ++ []))) (id⊢ 𝓤 (Run (word p ∷ h.0 ∷ []))) in
    either_owned ! a d.at d.tree
    (λ ep ex. suffices ! (Run (word null_ptr ∷ h.0 ∷ [])) (passed null_ptr ep) $
    enter ! 𝓣.C 𝓣.Λ fn (word null_ptr ∷ h.0 ∷ []) Post $ alloc_all ! (λ l. pass_all ! refl ((tt, (record { fits = lit< tt }, tt)), (h.2, tt)) $ let Ev = env fn.locals l in
    sets ! (of_opd ! (get_in ! (fld ! refl (stop !)) (sub ! 0 refl (all_of !)))) refl (tt, record { fits = lit< tt }) $
    sets ! (bin ! (get ! refl) (lit ! tt) tt) refl (tt, tt) $ first ! $ branches ! (get ! refl)
    (λ _. sets_last ! (agg ! (and_then ! (lit ! tt) (no_more !))) refl (tt, (record { fits = lit< tt }, tt)) $ exec ! 𝓣.C 𝓣.Λ Ev (after 3 fn.body) (at_ret Ev Post) $ sets ! (of_opd ! (get ! refl)) refl (tt, (record { fits = lit< tt }, tt)) $
    use0 𝓛 (‵ (Out.own_val None (live 0 vnil ∷ []))) (none_of 𝓛 TreeParts) $
    returns ! (look_at ! 0 refl) $ free_all ! refl $ keep ! (0 ∷ []) $
    suffices ! _ (ends_at 𝓛 f.ended stayed c z (live 0 vnil) None (tt, (tt, tt)) (tt, (tt, tt))) $ says ! (sym ex) $
    nothing ! $ nothing ! $ fjoin ! $ nothing ! $ fjoin ! $ join ! $ nothing ! $ join ! $ done !)
    (λ wrong. absurd wrong)))
    (λ b o x ep ex t. let made : Val = parts_word TreeBox h.0 b o in let typed = box_typed TreeBox h.0 b o h.2 in let v₁ : Val = live 1 (vcons made vnil) in let r : TreeParts.Denot = record { place = block_ptr b o; heap = a; held = x } in
    let good : Good (layout Out) v₁ = (and_tt _ typed.0, (record { fits = lit< tt }, (typed.1, tt))) in
    suffices ! (Run (word (block_ptr b o) ∷ h.0 ∷ [])) (passed (block_ptr b o) ep) $
    enter ! 𝓣.C 𝓣.Λ fn (word (block_ptr b o) ∷ h.0 ∷ []) Post $ alloc_all ! (λ l. pass_all ! refl ((tt, (tt, tt)), (h.2, tt)) $ let Ev = env fn.locals l in
    sets ! (of_opd ! (get_in ! (fld ! refl (stop !)) (sub ! 0 refl (all_of !)))) refl (tt, tt) $
    sets ! (bin ! (get ! refl) (lit ! tt) (tests_null (block_ptr b o) t)) refl (tt, tt) $ first ! $ branches ! (get ! refl) (λ wrong. absurd wrong)
    (λ _. sets ! (of_opd ! (get ! refl)) refl (tt, tt) $ sets ! (agg ! (and_then ! (get ! refl) (and_then ! (get ! refl) (no_more !)))) refl typed $ sets_last ! (agg ! (and_then ! (lit ! tt) (and_then ! (get ! refl) (no_more !)))) refl good $
    exec ! 𝓣.C 𝓣.Λ Ev (after 3 fn.body) (at_ret Ev Post) $ sets ! (of_opd ! (get ! refl)) refl good $
    fsplit ! $ box_in TreeBox ! (whole TreeBox r) b o x refl refl $ use1 𝓛 (‵ (TreeParts.own_val r (made ∷ []))) (id⊢ 𝓤 _) $
    use1 𝓛 (‵ (Out.own_val (Some r) (v₁ ∷ []))) (Some-of 𝓛 TreeParts r made) $
    returns ! (look_at ! 0 refl) $ free_all ! refl $ keep ! (0 ∷ []) $
    suffices ! _ (ends_at 𝓛 f.ended stayed c z v₁ (Some r) (tt, (tt, tt)) (tt, (tt, tt))) $ says ! (sym ex) $
    nothing ! $ nothing ! $ fjoin ! $ nothing ! $ fjoin ! $ join ! $ nothing ! $ join ! $ done !)))))
