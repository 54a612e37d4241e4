use Rattle.std.proofs.Common.{◌∙◌, sym, arith}
use Rattle.ph_digits.proofs.Tops.{none-differs, top-place}
use Rattle.ph_digits.proofs.differences.top_difference.Goals as goal

pub returns-then-places-eq0 : goal.returns-then-places-eq0
returns-then-places-eq0 c =
    none-differs c.args.xs.now c.args.ys.now c.requires (sym c.differing_places-places.ensures ∙ c.if-places-eq0.true)

pub returns : goal.returns
returns c =
    top-place c.args.xs.now c.args.ys.now c.differing_places-places.result c.requires (omega arith) c.if-places-eq0.false c.differing_places-places.ensures
