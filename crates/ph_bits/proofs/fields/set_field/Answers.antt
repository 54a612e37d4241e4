use Rattle.std.proofs.Common.{rules, ◌≡◌, ◌≢◌, ◌<◌, ◌+◌, ◌*◌, ◌/◌, ◌%◌, ◌^◌, ℕ, ◌-◌, sym, subst, arith, slice_index_or, slice_set, Fits, w64}
use Rattle.std.proofs.lemmas.List.{get_or-set_other}
use Rattle.std.proofs.lemmas.Nat.{shr_below, mod_below, pow_pos}
use Rattle.ph_bits.proofs.Replaced.{put}
use Rattle.ph_bits.proofs.Codes.{last, none, one, two}
use Rattle.ph_bits.proofs.fields.set_field.Goals as goal

pub returns-then-width-eq0 : goal.returns-then-width-eq0
returns-then-width-eq0 c =
    let ws = c.args.words.now in
    put ws ws c.args.at c.args.width c.args.v c.requires.inside c.requires.value c.type_inv.words
    (none ws c.args.at c.args.width c.args.v c.if-width-eq0.true c.requires.value c.type_inv.words)

pub with_field-requires-else-width-room-clause-value :
    goal.with_field-requires-else-width-room-clause-value
with_field-requires-else-width-room-clause-value c =
    let e : c.args.width ≡ 64 - c.args.at % 64 + (c.args.width - (64 - c.args.at % 64)) = omega (arith, c.if-width-room.false) in
    shr_below c.args.v (64 - c.args.at % 64) (c.args.width - (64 - c.args.at % 64)) (subst (λ t. c.args.v < 2 ^ t) e c.requires.value)

pub with_field-requires-else-width-room-2-clause-value :
    goal.with_field-requires-else-width-room-2-clause-value
with_field-requires-else-width-room-2-clause-value c =
    let low : ℕ = c.args.width - (64 - c.args.at % 64) in
    subst (λ t. t < 2 ^ low) (sym (last c.args.v low (omega (arith, c.requires.width)))) (mod_below c.args.v (2 ^ low) (pow_pos low))

pub returns-then-width-room : goal.returns-then-width-room
returns-then-width-room c =
    let range : (i : ℕ) → Fits w64 (slice_index_or c.args.words.now i 0) = search rules in
    put c.args.words.now _ c.args.at c.args.width c.args.v c.requires.inside c.requires.value range
    (one c.args.words.now c.args.at c.args.width c.with_field.result c.args.v c.if-width-room.true
    (above c.args.width c.if-width-eq0.false) c.requires.inside range c.with_field.type_inv c.with_field.ensures)
  where
    above : (n : ℕ) → (n ≡ 0 → ⊥) → 0 < n
    above n h = omega (arith, h)

pub returns-else-width-room : goal.returns-else-width-room
returns-else-width-room c =
    let range : (i : ℕ) → Fits w64 (slice_index_or c.args.words.now i 0) = search rules in
    let ws = c.args.words.now in
    let place : ℕ = c.args.at / 64 in
    let x : ℕ = c.with_field-else-width-room.result in
    let y : ℕ = c.with_field-else-width-room-2.result in
    let behind : ℕ = 64 - (c.args.width - (64 - c.args.at % 64)) in
    let low : ℕ = c.args.width - (64 - c.args.at % 64) in
    let other : slice_index_or (slice_set ws place x) (place + 1) 0 ≡ slice_index_or ws (place + 1) 0 = get_or-set_other ws place (place + 1) x 0 (apart place) in
    put ws _ c.args.at c.args.width c.args.v c.requires.inside c.requires.value range
    (two ws c.args.at c.args.width x y c.args.v c.requires.width c.if-width-room.false c.requires.inside range
    c.with_field-else-width-room.type_inv c.with_field-else-width-room-2.type_inv c.with_field-else-width-room.ensures
    (subst (λ t. y + t / 2 ^ behind % 2 ^ low * 2 ^ behind ≡ t + c.args.v * 2 ^ behind % 2 ^ 64 / 2 ^ behind * 2 ^ behind) other c.with_field-else-width-room-2.ensures))
  where
    apart : (i : ℕ) → i + 1 ≢ i
    apart i e = omega (arith, e)
