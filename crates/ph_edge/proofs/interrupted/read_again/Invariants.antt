use Rattle.std.specs.Io.KnownBytes.{Keeps}
use Rattle.ph_edge.proofs.interrupted.read_again.Given as goal

-- a read that fails takes nothing
abbrev pub invariant-loop-try : goal.invariant-loop-try
invariant-loop-try g l = Keeps (g.R.Read.remaining l.initial.reader) (g.R.Read.remaining l.reader)
