-- A point in the region of a node has the digits that are known there.
use Rattle.std.proofs.Common.{◌≡◌, ℕ, ◌+◌, sym, ◌∙◌, ap, List, map, true}
use Rattle.std.specs.Prelude.{ℤ}
use Rattle.ph_specs.specs.Coordinate.{coordinate}
use Rattle.ph_specs.specs.Region.{is_in}
use Rattle.ph_model.specs.WindowWalk.{node_region}
use Rattle.ph_model.proofs.lemmas.Joined.{offsets, from_place, offsets-coordinate}
use Rattle.ph_model.proofs.lemmas.Bounds.{in-same}

pub node-digits : (w b : ℕ) (above : List ℕ) (l : List ℤ) → is_in w (node_region w b above) l ≡ true → from_place (b + 1) above ≡ from_place (b + 1) (offsets w l)
node-digits w b above l h = sym (ap (from_place (b + 1)) (offsets-coordinate w above)) ∙ in-same w b (map (coordinate w) above) l h
