-- What a sink over a lent array is seen by, and what its writes leave.
use Rattle.std.specs.Prelude.{◌≡◌, ◌<◌, ◌≤◌, ℕ, List, length, drop}

-- the name of the sink's loan, the array, how many bytes were written to it, and how many writes have failed
pub record Slice : Type 0 where
  pub loan : ℕ
  pub bytes : List ℕ
  pub count : ℕ
  pub faults : ℕ

abbrev pub slice_of : ℕ → List ℕ → ℕ → ℕ → Slice
slice_of loan bytes count faults = record { loan = loan; bytes = bytes; count = count; faults = faults }

-- The loan and the size of the array stay, and so does what is behind the bytes that were written. No write fails while there is room.
pub record Follows (a b : Slice) : Type 0 where
  pub loan : b.loan ≡ a.loan
  pub size : length b.bytes ≡ length a.bytes
  pub later : a.count ≤ b.count
  pub behind : drop b.count b.bytes ≡ drop b.count a.bytes
  pub works : b.count < length b.bytes → b.faults ≡ a.faults
