-- Where a record stands.
use Rattle.std.specs.Prelude.{◌≡◌, ◌<◌, ◌∷◌, ℕ, List, [], take, true, Option, Some, None}
use Rattle.ph_specs.specs.TreeRows.{put_together}
use Rattle.ph_model.specs.Lawful.{IsBody}
use Rattle.ph_specs.specs.Load.{Place as Stand, root, under, known, has_zeros_from}
use Rattle.ph_snap.specs.declared.places.Place.{Place}
use Rattle.ph_snap.specs.declared.places.Place.TheVariants.{Root, Under}

abbrev pub place_of : ℕ → Place → Stand
place_of dims Root = root
place_of dims (Under level known) = under level (take dims known)

-- a place in trees of a width
abbrev pub IsStanding : ℕ → ℕ → Place → Type 0
IsStanding width dims Root = Unit {0}
IsStanding width dims (Under level known) = (level < width) × IsBody dims 62 (take dims known)

-- what is known at the place ends above a level
abbrev pub IsClear : ℕ → ℕ → Place → Type 0
IsClear level dims p = has_zeros_from level (known dims (place_of dims p)) ≡ true

-- the place, where there is one
abbrev pub places_in : ℕ → Option Place → List Stand
places_in dims None = []
places_in dims (Some p) = place_of dims p ∷ []

-- a record at a place has a level below this
abbrev pub ceiling : ℕ → Stand → ℕ
ceiling width root = width
ceiling width (under level digits) = level

-- numbers whose first ones are what is known behind an entry, with zeros behind it
pub record IsJoined (dims level addr : ℕ) (above row array : List ℕ) : Type 0 where
  pub known : take dims array ≡ put_together level addr above row
  pub body : IsBody dims 62 (take dims array)
