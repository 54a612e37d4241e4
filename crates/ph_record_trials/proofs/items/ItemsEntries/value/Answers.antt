use Rattle.std.proofs.Common.{ap, sym, ◌∙◌, arith}
use Rattle.std.specs.Prelude.{Some}
use Rattle.ph_record_trials.proofs.Lists.{length-flats, value-at, out, there}
use Rattle.ph_record_trials.proofs.items.ItemsEntries.value.Goals as goal

pub returns-in-Some-clause-value : goal.returns-in-Some-clause-value
returns-in-Some-clause-value g c v e =
    ap out (ap Some (sym c.in-Some.is) ∙
    sym (value-at g.P.Dims.D c.args.self.now.items.now c.args.i
    (omega (arith, c.requires.within, length-flats g.P.Dims.D c.args.self.now.items.now))) ∙ e)

pub returns-in-None-clause-value : goal.returns-in-None-clause-value
returns-in-None-clause-value g c v e =
    absurd (omega (
      arith,
      ap there
          (ap Some (sym c.in-None.is) ∙ sym
          (value-at g.P.Dims.D c.args.self.now.items.now c.args.i
          (omega (arith, c.requires.within, length-flats g.P.Dims.D c.args.self.now.items.now))) ∙ e),
    ))
