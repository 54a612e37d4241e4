-- Bodies as code keeps them.
use Rattle.std.specs.Prelude.{◌≡◌, ℕ, ◌-◌, ◌^◌, ◌<◌, List, ◌++◌, length, take, replicate}
use Rattle.std.specs.List.{AllByRecursion as Each}

-- 16 numbers: those of a list, and then zeros
abbrev pub filled : List ℕ → List ℕ
filled xs = xs ++ replicate (16 - length xs) 0

-- 16 numbers, those behind the dimensions zeros
abbrev pub IsFilled : ℕ → List ℕ → Type 0
IsFilled dims body = body ≡ filled (take dims body)

-- numbers of so many digits
abbrev pub AreBelow : ℕ → List ℕ → Type 0
AreBelow place xs = Each (λ x. x < 2 ^ place) xs
