-- What a save gives a sink, and what waits in its block then.
use Rattle.std.specs.Prelude.{◌≡◌, ◌+◌, ◌≤◌, ℕ, List, ◌++◌, length, Result, OnOk, OnErr, IfOk}
use Rattle.ph_io.specs.Giving.{Taken, Given}
use Rattle.ph_io.specs.Writing.{WritesFront}
use Rattle.ph_specs.specs.Digits.{bytes_of}
use Rattle.ph_specs.specs.Node.{PlainNode}
use Rattle.ph_specs.specs.Snapshot.{packs}

-- the bytes of the records of nodes
unfoldable pub saved : ℕ → List PlainNode → List ℕ
saved dims ns = bytes_of (packs dims ns)

-- the bytes went behind those that waited: to the sink, or they wait now
pub record Passed (old : Taken) (waited : List ℕ) (new : Taken) (waits : List ℕ) (bytes : List ℕ) : Type 0 where
  pub gave : List ℕ
  pub given : Given old new gave
  pub all : gave ++ waits ≡ waited ++ bytes

-- the bytes of nodes go by way of the block, and it is told how many they are; where that fails, a front of them was given
pub record PassesNodes {E : Type 0} (dims : ℕ) (ns : List PlainNode) (old : Taken) (waited : List ℕ) (new : Taken) (waits : List ℕ) (result : Result ℕ E) : Type 0 where
  pub passed : OnOk result (Passed old waited new waits (saved dims ns))
  pub front : OnErr result (WritesFront old new (waited ++ saved dims ns))
  pub size : IfOk result (λ n. n ≡ length (saved dims ns))

-- so many nodes are visited, each once; where that fails, some of them
pub record VisitsAll {T E : Type 0} (count before later : ℕ) (result : Result T E) : Type 0 where
  pub most : later ≤ before + count
  pub all : OnOk result (later ≡ before + count)
  pub kept : before ≤ later
