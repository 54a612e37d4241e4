-- A word that is joined with the exclusive or of two others has a 1 where it had one, and where these differ.
use Rattle.std.proofs.Common.{◌≡◌, ℕ, ◌+◌, ◌%◌, ◌<◌, max, sym, ◌∙◌, ap, arith}
use Rattle.std.specs.Int.{bit_at}
use Rattle.std.specs.Int.Bits.{bit_or, bit_xor}
use Rattle.std.proofs.lemmas.Nat.Bits.{bit_at-lt, bit_at_or, bit_at_xor}

joined-is : (a b c k : ℕ) → bit_at (bit_or a (bit_xor b c)) k ≡ max (bit_at a k) ((bit_at b k + bit_at c k) % 2)
joined-is a b c k = bit_at_or a (bit_xor b c) k ∙ ap (max (bit_at a k)) (bit_at_xor b c k)

even : (a b c : ℕ) → b < 2 → c < 2 → max a ((b + c) % 2) ≡ 0 → (a ≡ 0) × (b ≡ c)
even a b c h k e = (omega arith, omega arith)

doubled : (a b c : ℕ) → b < 2 → b ≡ c → max a ((b + c) % 2) ≡ a
doubled a b c h e = omega arith

pub joined-none : (a b c k : ℕ) → bit_at (bit_or a (bit_xor b c)) k ≡ 0 → (bit_at a k ≡ 0) × (bit_at b k ≡ bit_at c k)
joined-none a b c k e =
    even (bit_at a k) (bit_at b k) (bit_at c k) (bit_at-lt b k) (bit_at-lt c k) (sym (joined-is a b c k) ∙ e)

pub joined-same : (a b c k : ℕ) → bit_at b k ≡ bit_at c k → bit_at (bit_or a (bit_xor b c)) k ≡ bit_at a k
joined-same a b c k e =
    joined-is a b c k ∙ doubled (bit_at a k) (bit_at b k) (bit_at c k) (bit_at-lt b k) e
