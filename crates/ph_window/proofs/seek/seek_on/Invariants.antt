use Rattle.std.proofs.Common.{◌-◌, length}
use Rattle.ph_model.specs.EntryList.{entries}
use Rattle.ph_window.specs.Seek.{IsPassed}
use Rattle.ph_window.proofs.seek.seek_on.Given as goal

abbrev pub invariant-loop-place : goal.invariant-loop-place
invariant-loop-place g l = IsPassed l.frame.note.lower l.frame.note.upper (entries l.node.node.now) l.frame.place l.place

abbrev pub decreases-loop-place : goal.decreases-loop-place
decreases-loop-place g l = length (entries l.node.node.now) - l.place
