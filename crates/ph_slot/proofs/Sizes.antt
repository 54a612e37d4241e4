-- How many bytes a cursor with its name takes, at any number of dimensions.
use Rattle.std.proofs.Common.{◌≤◌, ◌<◌, ◌+◌, ◌*◌, ℕ, arith}
use Rattle.std.specs.Prelude.{max}
use Rattle.std.proofs.Math.Nat.{mul-le-mul}
use prog.Memory.{up}

-- a point
abbrev point_size : ℕ → ℕ
point_size d = up 8 (0 + d * 8)

-- a name, two corners, and the last point if there is one
abbrev pub held_size : ℕ → ℕ
held_size d = up 8 (40 + up 8 (up 8 (up 8 (0 + point_size d) + point_size d) + up 8 (max 1 (max (8 + point_size d) 1))))

up-le : (e : ℕ) → up 8 e ≤ e + 7
up-le e = omega arith

few-sum : (d p c a b s t : ℕ) → d ≤ 16 → p ≤ (0 + d * 8) + 7 → c ≤ (0 + p) + 7 → a ≤ (c + p) + 7 → b ≤ max 1 (max (8 + p) 1) + 7 →
    s ≤ (a + b) + 7 → t ≤ (40 + s) + 7 → t ≤ 1000
few-sum d p c a b s t h hp hc ha hb hs ht = omega arith

few : (d : ℕ) → d ≤ 16 → held_size d ≤ 1000
few d h = few-sum d _ _ _ _ _ _ h (up-le (0 + d * 8)) (up-le _) (up-le _) (up-le _) (up-le _) (up-le _)

-- all sixteen, and their number
abbrev pub list_size : ℕ → ℕ
list_size d = up 8 (up 1 (up 8 (0 + up 8 (0 + 16 * held_size d)) + 8) + 0)

up-one : (e : ℕ) → up 1 e ≤ e + 1
up-one e = omega arith

all-sum : (s a b c t : ℕ) → s ≤ 1000 → a ≤ (0 + 16 * s) + 7 → b ≤ (0 + a) + 7 → c ≤ (b + 8) + 1 → t ≤ (c + 0) + 7 → t ≤ 20000
all-sum s a b c t h ha hb hc ht = omega arith

all-few : (d : ℕ) → d ≤ 16 → list_size d ≤ 20000
all-few d h = all-sum (held_size d) _ _ _ _ (few d h) (up-le (0 + 16 * held_size d)) (up-le _) (up-one _) (up-le _)

below : (s most n : ℕ) → s ≤ most → most < n → s < n
below s most n h k = omega arith

-- they are less than what there is of addresses, and so is the place of each of them
pub small-list : (d n : ℕ) → d ≤ 16 → 20000 < n → list_size d < n
small-list d n h k = below (list_size d) 20000 n (all-few d h) k

pub small-offset : (i d n : ℕ) → i ≤ 16 → d ≤ 16 → 16 * 1000 < n → i * held_size d < n
small-offset i d n l h k = below (i * held_size d) (16 * 1000) n (mul-le-mul l (few d h)) k
