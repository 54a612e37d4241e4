use Rattle.std.proofs.Common.{sym, ◌∙◌}
use Rattle.ph_linear.proofs.Halving.{at-place}
use Rattle.ph_linear.proofs.reads.find_entry.Goals as goal

pub entry_at-requires-clause-within : goal.entry_at-requires-clause-within
entry_at-requires-clause-within c =
    (at-place c.args.dims c.args.words.now c.args.addr c.in-Some.i (sym c.find.ensures ∙ c.in-Some.is)).0

pub entry_at-requires-clause-address : goal.entry_at-requires-clause-address
entry_at-requires-clause-address c =
    sym (at-place c.args.dims c.args.words.now c.args.addr c.in-Some.i (sym c.find.ensures ∙ c.in-Some.is)).1
