use Rattle.ph_walk.proofs.Notes.{none_of}
use Rattle.ph_window.proofs.parting.parting.Goals as goal

pub returns-in_default : goal.returns-in_default
returns-in_default c = none_of _ _ c.in_default.is c.top_difference.ensures
