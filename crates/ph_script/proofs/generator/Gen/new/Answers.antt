use Rattle.std.specs.Prelude.{◌%◌, ◌^◌}
use Rattle.ph_script.proofs.Draws.{drawn-count}
use Rattle.ph_script.proofs.generator.Gen.new.Goals as goal

pub returns-clause-count : goal.returns-clause-count
returns-clause-count c = drawn-count c.args.n (c.args.start % 2 ^ 31)
