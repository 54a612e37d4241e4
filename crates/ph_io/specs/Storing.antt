-- How files are kept in memory.
use Rattle.std.specs.Prelude.{◌≡◌, ◌≤◌, ◌<◌, ℕ, List, length, set, vec_capacity, Result, Ok, Err}
use Rattle.std.specs.List.{insert}
use Rattle.ph_specs.specs.Named.{enter}
use Rattle.ph_io.specs.Shelf.{Map, Draft}
use Rattle.ph_io.specs.declared.stored.Stored.{Stored}

abbrev pub file_of : Stored → Draft
file_of s = (s.name.bytes, s.bytes.items)

-- a file's buffer has room for so many bytes
abbrev pub IsRoomy : ℕ → Stored → Type 0
IsRoomy room s = room ≤ vec_capacity s.bytes

-- where a name stands among files: its place, or the place where it goes in
abbrev pub IsPlace : Map → List ℕ → Result ℕ ℕ → Type 0
IsPlace files name (Ok i) = (i < length files) × ((bytes : List ℕ) → enter name bytes files ≡ set files i (name, bytes))
IsPlace files name (Err i) = (i ≤ length files) × ((bytes : List ℕ) → enter name bytes files ≡ insert files i (name, bytes))
