use Rattle.std.proofs.Common.{◌≤◌, [], ◌∷◌, ◌++◌, length, map, drop}
use Rattle.ph_io.specs.Giving.{taken_of}
use Rattle.ph_specs.specs.Reply.{Reply}
use Rattle.ph_commands.specs.Listing.{hit_said, hit_replies}
use Rattle.ph_commands.proofs.Replies.{IsGiven}
use Rattle.ph_commands.proofs.distances.list_hits.Given as goal

abbrev pub invariant-loop-hit : goal.invariant-loop-hit
invariant-loop-hit g l = record {
  later : g.O.Sink.faults l.initial.out ≤ g.O.Sink.faults l.out;
  given : IsGiven (hit_replies l.hits) (map hit_said (drop l.hit-index l.hits) ++ Reply.End (length l.hits) ∷ [])
      (taken_of (g.O.Sink.written l.initial.out) (g.O.Sink.amount l.initial.out))
      (taken_of (g.O.Sink.written l.out) (g.O.Sink.amount l.out));
}
