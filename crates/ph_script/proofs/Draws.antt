-- The commands that are drawn, one after another, and how many there are.
use Rattle.std.proofs.Common.{◌≡◌, ℕ, zero, suc, ◌∷◌, length, refl, ap}
use Rattle.ph_specs.specs.Command.{Command}
use Rattle.ph_specs.specs.Generator.{generate_from, command_of_draws, next_state, draw_of}

pub drawn-count : (n state : ℕ) → length (generate_from n state) ≡ n
drawn-count zero state = refl
drawn-count (suc n) state = ap suc (drawn-count n (next_state (next_state (next_state (next_state state)))))

-- the first of them, by the states of its draws, and the rest
pub drawn-next : (n left state t u v r : ℕ) (made : Command) → n ≡ suc left → t ≡ next_state state →
    u ≡ next_state t → v ≡ next_state u → r ≡ next_state v →
    made ≡ command_of_draws (draw_of t) (draw_of u) (draw_of v) (draw_of r) → generate_from n state ≡ made ∷ generate_from left r
drawn-next n left state t u v r made e a b c d m = rw (e, m, d, c, b, a) refl
