-- Where an entry of a cube record stands.
use Rattle.std.specs.Prelude.{◌≡◌, ℕ, ◌+◌, ◌*◌, ◌^◌, ◌<◌, List}
use Rattle.ph_bits.specs.Fields.{ones_in}

-- entry i, by its address
pub record StandsAt (d : ℕ) (words : List ℕ) (a i : ℕ) : Type 0 where
  pub limit : a < 2 ^ d
  pub place : ones_in words 64 (a * 2) ≡ i
  pub some : 0 < ones_in words (64 + a * 2) 2
