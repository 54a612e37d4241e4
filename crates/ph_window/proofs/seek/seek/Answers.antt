use Rattle.ph_walk.proofs.Notes.{none_of}
use Rattle.ph_window.proofs.Seeks.{none-sought}
use Rattle.ph_window.proofs.seek.seek.Goals as goal

pub returns-in_default : goal.returns-in_default
returns-in_default g c = none-sought (none_of _ _ c.in_default.is c.first_place.ensures)
