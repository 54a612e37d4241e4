use Rattle.std.proofs.Common.{[], sym, ◌∙◌, ap, subst}
use Rattle.std.specs.Prelude.{Some}
use Rattle.std.specs.Option.{option_copied}
use Rattle.ph_specs.specs.TreeRows.{rows}
use Rattle.ph_set.specs.Meeting.{kept}
use Rattle.ph_model.proofs.laws.Combined.{combined-left}
use Rattle.ph_set.proofs.roots.list_roots.Goals as goal

pub returns-in-Some-None-clause-rows : goal.returns-in-Some-None-clause-rows
returns-in-Some-None-clause-rows g c =
    let p = c.args.plan.now in
    let d = g.P.Dims.D in
    subst (g.S.RowSink.adds c.args.rows.now c.list_root.new.rows)
    (sym (combined-left p.width p.left p.both p.right (rows p.width d (Some c.in-Some-None.x.now)))
    ∙ ap (λ o. kept p (rows p.width d (option_copied o)) []) (sym c.in-Some-None.is-0)
    ∙ ap (λ o. kept p (rows p.width d (option_copied c.args.a)) (rows p.width d (option_copied o))) (sym c.in-Some-None.is-1))
    c.list_root.ensures.rows
