-- Which entries fit masks.
use Rattle.std.specs.Prelude.{◌≡◌, ℕ, ◌+◌, ◌<◌, ◌≤◌, ◌^◌, false, true, List, length, slice_get, bit_and, Option, Some, MatchOption, IfSome}
use Rattle.ph_model.specs.Lawful.{IsLawfulFrom}
use Rattle.ph_specs.specs.Node.{PlainNode}
use Rattle.ph_model.specs.EntryList.{Entry}
use Rattle.ph_model.specs.Masks.{fits_masks}
use Rattle.ph_node.specs.Spots.{IsSpot}
use Rattle.ph_node.specs.declared.spots.Spot.{Spot}

-- from one place up to another no address fits
abbrev pub AreShut : ℕ → ℕ → List Entry → ℕ → ℕ → Type 0
AreShut lower upper es from to =
    (j : ℕ) → (e : Entry) → from ≤ j → j < to → slice_get es j ≡ Some e → fits_masks e.addr lower upper ≡ false

-- a place that may be gone on from: nothing before it fits
pub record IsPassed (lower upper : ℕ) (es : List Entry) (place i : ℕ) : Type 0 where
  pub behind : place ≤ i
  pub shut : AreShut lower upper es place i

-- entry i is the first from a place on that fits
pub record IsNextEntry (lower upper : ℕ) (es : List Entry) (place i : ℕ) : Type 0 where
  pub behind : place ≤ i
  pub entry : (x : Entry) × (slice_get es i ≡ Some x) × (fits_masks x.addr lower upper ≡ true)
  pub shut : AreShut lower upper es place i

-- masks by which a node can be looked through
pub record CanSeek (d lower upper : ℕ) (n : PlainNode) : Type 0 where
  pub masks : bit_and lower upper ≡ lower
  pub upper_small : upper < 2 ^ d
  pub lawful : IsLawfulFrom d n.level 0 n.chain

-- the first entry from a place on that fits, if there is one
pub record IsSought (lower upper : ℕ) (es : List Entry) (place : ℕ) (result : Option Spot) : Type 0 where
  pub found : MatchOption result (AreShut lower upper es place (length es)) (λ s. IsNextEntry lower upper es place s.place)
  pub spot : IfSome result (λ s. IsSpot es s)
  pub room : IfSome result (λ s. s.place + 1 < 2 ^ 64)
