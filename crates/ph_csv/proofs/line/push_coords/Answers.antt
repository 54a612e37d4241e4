use Rattle.std.proofs.Common.{get_or, ap, ◌∙◌, arith, rules, add-one}
use Rattle.std.specs.Prelude.{pos}
use Rattle.std.specs.Fmt.{signed_decimal}
use mir.Val.{SFits}
use mir.Syntax.{w64}
use Rattle.std.proofs.lemmas.Int.{to_z-of_z}
use Rattle.ph_csv.proofs.LineTexts.{line-more}
use Rattle.ph_csv.proofs.line.push_coords.Goals as goal

pub loop-coord-preserved : goal.loop-coord-preserved
loop-coord-preserved g c =
    let cs = c.as_slice-coord-items.result.now in
    let i = c.loop-coord.coord-index in
    let x = get_or cs i (pos 0) in
    let fits : SFits w64 x = search rules in
    let coord = c.format.ensures.text ∙ ap signed_decimal (to_z-of_z w64 x fits) in
    record {
      text = rw add-one (line-more c.args.line.now.bytes cs i (pos 0) c.loop-coord-test.true c.loop-coord.line.bytes
          c.format.result.now c.push_str.new.self.bytes _ c.loop-coord.invariant.text coord c.push_str.ensures.bytes
          c.push_str-in-loop-coord.ensures.bytes);
      size = omega (arith, c.push_str.ensures.len, c.push_str-in-loop-coord.ensures.len, c.format.ensures.short, c.format.ensures.fits, c.loop-coord.invariant.size);
    }
