use Rattle.std.proofs.Common.{rules, ◌≡◌, ◌≤◌, ◌<◌, ◌+◌, ◌-◌, ◌*◌, ◌/◌, ◌%◌, ◌^◌, ℕ, slice_index_or, sym, subst, arith, Fits, w64}
use Rattle.ph_model.proofs.laws.WordDigits.{digits-below}
use Rattle.ph_bits.proofs.Codes.{one}
use Rattle.ph_bits.proofs.MovedRuns.{moved-put}
use Rattle.ph_bits.proofs.Replaced.{put}
use Rattle.ph_bits.proofs.moves.move_part.Goals as goal

pub returns : goal.returns
returns c =
    let ws = c.args.words.now in
    let w = c.args.width in
    let x = c.with_field.result in
    let v = c.field-moved.result in
    let word : ℕ = slice_index_or c.args.words.now (c.args.to / 64) 0 in
    let range : (i : ℕ) → Fits w64 (slice_index_or c.args.words.now i 0) = search rules in
    let some : 0 < c.args.width = above c.args.width c.if-width-eq0.false in
    let room : c.args.width ≤ 64 - c.args.to % 64 = omega (arith, c.requires.one some) in
    let behind : c.args.behind ≡ 64 - c.args.to % 64 - c.args.width = omega (arith, c.requires.one some) in
    let small : c.field-moved.result < 2 ^ c.args.width = subst (λ t. t < 2 ^ w) (sym c.field-moved.ensures) (digits-below ws c.args.from w) in
    moved-put ws _ c.args.from c.args.to w v c.field-moved.ensures
    (put ws _ c.args.to w v c.requires.to small range
    (one ws c.args.to w x v room some c.requires.to range c.with_field.type_inv
    (subst (λ t. x + word / 2 ^ t % 2 ^ w * 2 ^ t ≡ word + v * 2 ^ t) behind c.with_field.ensures)))
  where
    above : (n : ℕ) → (n ≡ 0 → ⊥) → 0 < n
    above n h = omega (arith, h)
