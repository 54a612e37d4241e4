use Rattle.std.proofs.Common.{◌≡◌, ◌++◌, take, flat_map, ap, ◌∙◌, arith}
use Rattle.std.proofs.lemmas.List.{take_all}
use Rattle.ph_script.specs.RowNumbers.{spaced}
use Rattle.ph_script.proofs.RowTexts.{row-behind}
use Rattle.ph_script.proofs.text.push_row_numbers.Goals as goal

pub returns-clause-bytes : goal.returns-clause-bytes
returns-clause-bytes g c =
    let items = c.as_slice-coordinate-items.result.now in
    let all : take c.loop-coordinate.coordinate-index items ≡ items = take_all _ items (omega arith) in
    let e = c.loop-coordinate.invariant.bytes ∙ ap (λ ps. c.args.line.now.bytes ++ flat_map spaced ps) (all ∙ c.as_slice-coordinate-items.ensures.value) in
    rw (c.push_number-2.ensures.bytes, e, ← c.row.view_is) (row-behind c.args.line.now.bytes _)
