use Rattle.std.proofs.Common.{rules, ◌^◌, ◌<◌}
use Rattle.std.specs.List.{AllByRecursion as Each}
use Rattle.ph_model.proofs.laws.WordDigits.{each-fits}
use Rattle.ph_cube.proofs.EditedTables.{within}
use Rattle.ph_cube.proofs.edits.put_table.Goals as goal

pub returns : goal.returns
returns c =
    let fit : Each (λ x. x < 2 ^ 64) c.args.words.now = each-fits c.args.words.now (search rules) in
    record {
      whole = c.requires.record;
      fit = fit;
      within = within c.args.dims c.args.words.now c.args.edit.now c.args.addr c.requires.record fit c.requires.edit;
      rise = c.requires.entries;
      outline = c.outline_of-outline.ensures;
      made = c.put_columns.ensures;
    }
