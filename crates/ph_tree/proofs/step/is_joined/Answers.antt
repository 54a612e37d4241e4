use Rattle.std.proofs.Common.{◌≡◌, arith, sym, ap, ◌∙◌, length}
use Rattle.std.specs.Prelude.{map}
use Rattle.ph_specs.specs.Coordinate.{offset}
use Rattle.ph_model.proofs.lemmas.PointDigits.{same_digits-refl}
use Rattle.ph_node.specs.Shown.{shown}
use Rattle.ph_tree.proofs.Steps.{gapless}
use Rattle.ph_tree.proofs.step.is_joined.Goals as goal

pub overflow_add-low : goal.overflow_add-low
overflow_add-low g c = omega (arith, c.requires.low, c.level-level.ensures.value, c.level-level.ensures.limit)

pub returns-then-low-level : goal.returns-then-low-level
returns-then-low-level g c =
    let n = shown c.args.node in
    let os = map (offset c.args.key.now.width) c.args.key.now.point in
    let long : length os ≡ g.P.Dims.D = ap (λ xs. length xs) (sym c.offsets-offsets.ensures.value) ∙ c.offsets-offsets.ensures.dims in
    sym (same_digits-refl _ _ (gapless n.level c.args.low _ os (c.if-low-level.true ∙ c.level-level.ensures.value)
    c.requires.body.1 c.requires.zeros (long ∙ sym c.requires.body.0)))
