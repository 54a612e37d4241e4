-- How a name is kept: its bytes in an array, with zeros behind them.
use Rattle.std.specs.Prelude.{◌≡◌, ◌≤◌, ◌-◌, ℕ, List, ◌++◌, length, take, replicate, true}
use Rattle.ph_specs.specs.Lines.{is_name}

abbrev pub padded : List ℕ → List ℕ
padded name = name ++ replicate (32 - length name) 0

pub record IsKept (bytes : List ℕ) (len : ℕ) : Type 0 where
  pub limit : len ≤ 32
  pub zeros : bytes ≡ padded (take len bytes)
  pub size : length (take len bytes) ≡ len
  pub name : is_name (take len bytes) ≡ true
