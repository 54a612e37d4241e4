use Rattle.std.proofs.Common.{◌/◌, ◌*◌, ◌^◌, arith}
use Rattle.ph_linear.proofs.Halving.{masked}
use Rattle.ph_linear.proofs.searches.one_of.Goals as goal

pub returns : goal.returns
returns c = masked (c.args.all / 2 ^ (c.args.dims * c.args.behind)) c.args.dims (omega (arith, c.requires.few))
