-- One field of a row by the digits of all.
use Rattle.std.proofs.Common.{◌≡◌, ℕ, ◌+◌, ◌-◌, ◌*◌, ◌/◌, ◌%◌, ◌^◌, ◌<◌, ◌≤◌, sym, ◌∙◌, ap, List, length, slice_index_or}
use Rattle.ph_specs.specs.Digits.{pieces}
use Rattle.ph_model.specs.Digits.{digits_at}
use Rattle.ph_bits.specs.Fields.{digits_row}
use Rattle.ph_bits.proofs.RowPlaces.{pieces-at, pieces-row}

pub piece-is : (ws : List ℕ) (at w n i x : ℕ) → at + n * w ≤ 64 * length ws → i < n → x ≡ digits_at ws at (n * w) →
    x / 2 ^ (w * (n - 1 - i)) % 2 ^ w ≡ slice_index_or (digits_row ws at w n) i 0
piece-is ws at w n i x l m e =
    sym (pieces-at w n x i m) ∙ ap (λ t. slice_index_or (pieces w n t) i 0) e ∙ ap (λ xs. slice_index_or xs i 0) (pieces-row ws at w n l)
