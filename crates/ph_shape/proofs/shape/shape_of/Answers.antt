use Rattle.std.proofs.Common.{ℕ, List, [], ◌∷◌, length, ◌≤◌, ap, ◌∙◌, ◌≡◌, ◌+◌, ◌-◌, arith, subst, sym, map}
use Rattle.std.specs.Prelude.{Option, Some}
use Rattle.std.proofs.lemmas.Grind.{common_steps}
use Rattle.ph_specs.specs.TreeRows.{rows}
use Rattle.ph_model.specs.Lawful.{IsLawful}
use Rattle.ph_specs.specs.Node.{PlainNode}
use Rattle.ph_specs.specs.Table.{Row}
use Rattle.ph_specs.specs.Shape.{node_at, node_below, shape}
use Rattle.ph_model.proofs.laws.TableShape.{table-shape}
use Rattle.ph_shape.specs.Groups.{IsGroup}
use Rattle.ph_shape.proofs.Steps.{table-group}
use Rattle.ph_shape.proofs.Made.{map-same}
use Rattle.ph_shape.proofs.shape.shape_of.Goals as goal

pub node_of-requires-clause-rows : goal.node_of-requires-clause-rows
node_of-requires-clause-rows g c =
    let e : c.args.w ≡ c.bits-bits.result - 1 + 1 = omega arith in
    subst (λ k. IsGroup c.args.w g.row.D k (map (λ r. r) c.args.rows.now)) e
    (subst (IsGroup c.args.w g.row.D c.args.w) (sym (map-same c.args.rows.now))
    (table-group c.args.w g.row.D c.args.rows.now c.requires.table))

root-is : (w bits : ℕ) (rows : List Row) (n : PlainNode) → bits ≡ w → 1 ≤ length rows →
    n ≡ node_at w (bits - 1) (node_below w (bits - 1)) (map (λ r. r) rows) → shape w rows ≡ Some n
root-is w bits [] n e l h = absurd (let no : ⊥ = omega (arith, l) in no)
root-is w bits (r ∷ rows) n e l h =
    ap {B = Option PlainNode} (λ b. Some (node_at w (b - 1) (node_below w (b - 1)) (r ∷ rows))) (sym e) ∙
    ap {B = Option PlainNode} (λ t. Some (node_at w (bits - 1) (node_below w (bits - 1)) t))
    (sym (map-same (r ∷ rows))) ∙ ap {B = Option PlainNode} (λ t. Some t) (sym h)

pub returns-clause-lawful : goal.returns-clause-lawful
returns-clause-lawful g c =
    let l : 1 ≤ length c.args.rows.now = grind (arith, common_steps) in
    let s = root-is c.args.w c.bits-bits.result c.args.rows.now c.in_ok-root.root c.bits-bits.ensures.value l c.in_ok-root.ensures in
    subst (IsLawful c.args.w g.row.D) s (table-shape c.args.w g.row.D c.args.rows.now (omega arith) c.requires.table).0

pub returns-clause-holds : goal.returns-clause-holds
returns-clause-holds g c =
    let l : 1 ≤ length c.args.rows.now = grind (arith, common_steps) in
    let s = root-is c.args.w c.bits-bits.result c.args.rows.now c.in_ok-root.root c.bits-bits.ensures.value l c.in_ok-root.ensures in
    subst (λ t. rows c.args.w g.row.D t ≡ c.args.rows.now) s (table-shape c.args.w g.row.D c.args.rows.now (omega arith) c.requires.table).1
