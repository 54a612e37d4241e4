use Rattle.std.proofs.Common.{◌++◌, List, arith, sym, ◌∙◌, ap, subst, take, map, replicate, ℕ}
use Rattle.std.specs.Prelude.{Some}
use Rattle.ph_specs.specs.TreeRows.{rows, rows_behind}
use Rattle.ph_model.specs.Lawful.{IsLawful}
use Rattle.ph_specs.specs.Table.{Row}
use Rattle.ph_shape.specs.Known.{IsKnown, lent}
use Rattle.ph_shape.proofs.Made.{map-same}
use Rattle.ph_shape.proofs.Walk.{root-zeros, known-root, only-tree}
use Rattle.ph_shape.proofs.rows.rows_of.Goals as goal

pub returns-in_default-clause-rows : goal.returns-in_default-clause-rows
returns-in_default-clause-rows g c =
    c.new-rows.ensures.items ∙ ap (λ t. rows c.args.w g.row.D (lent t)) (sym c.in_default.is)

pub returns-in_default-clause-only : goal.returns-in_default-clause-only
returns-in_default-clause-only g c =
    only-tree c.args.w g.row.D (lent c.args.root) c.new-rows.result.items c.requires.lawful (returns-in_default-clause-rows g c)

pub gather-requires-clause-level : goal.gather-requires-clause-level
gather-requires-clause-level g c =
    let h : IsLawful c.args.w g.row.D (Some c.in-Some.node.now) = subst (λ t. IsLawful c.args.w g.row.D (lent t)) c.in-Some.is c.requires.lawful in
    omega (arith, h.0)

pub gather-requires-clause-lawful : goal.gather-requires-clause-lawful
gather-requires-clause-lawful g c =
    let h : IsLawful c.args.w g.row.D (Some c.in-Some.node.now) = subst (λ t. IsLawful c.args.w g.row.D (lent t)) c.in-Some.is c.requires.lawful in
    h.2

pub gather-requires-clause-above : goal.gather-requires-clause-above
gather-requires-clause-above g c =
    subst (IsKnown c.args.w g.row.D c.in-Some.node.now.level) (sym (root-zeros g.row.D c.requires.dims)) (known-root c.args.w g.row.D c.in-Some.node.now.level)

pub returns-clause-rows : goal.returns-clause-rows
returns-clause-rows g c =
    sym (map-same c.gather.new.rows.items)
    ∙ c.in_ok-gather.ensures
    ∙ ap (λ (t : List Row). map (λ r. r) t ++ rows_behind c.args.w c.in-Some.node.now.level
    (take {A = ℕ} g.row.D (replicate 16 0)) c.in-Some.node.now.chain) c.new-rows.ensures.items
    ∙ ap (λ t. rows_behind c.args.w c.in-Some.node.now.level t c.in-Some.node.now.chain) (root-zeros g.row.D c.requires.dims)
    ∙ ap (λ t. rows c.args.w g.row.D (lent t)) (sym c.in-Some.is)

pub returns-clause-only : goal.returns-clause-only
returns-clause-only g c =
    only-tree c.args.w g.row.D (lent c.args.root) c.gather.new.rows.items c.requires.lawful (returns-clause-rows g c)
