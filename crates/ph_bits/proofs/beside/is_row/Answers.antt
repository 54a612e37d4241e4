use Rattle.std.proofs.Common.{◌≡◌, ◌*◌, ◌^◌, ◌<◌, ℕ, ap, sym, subst, ◌∙◌, arith, map, length, ◌==◌}
use Rattle.std.proofs.lemmas.List.{length-map}
use Rattle.ph_model.specs.Digits.{digits_at}
use Rattle.ph_specs.specs.DelTree.{same_digits}
use Rattle.ph_model.proofs.laws.WordDigits.{digits-below}
use Rattle.ph_bits.specs.Fields.{cut}
use Rattle.ph_bits.proofs.Packing.{packed-same, cuts-small}
use Rattle.ph_bits.proofs.RowPlaces.{pieces-row}
use Rattle.ph_bits.proofs.beside.is_row.Goals as goal

pub packed-requires-clause-cut : goal.packed-requires-clause-cut
packed-requires-clause-cut c = record { digits = c.requires.width; zeros = c.requires.low }

pub are_fields-requires-clause-cut : goal.are_fields-requires-clause-cut
are_fields-requires-clause-cut c = record { digits = c.requires.width; zeros = c.requires.low }

pub returns-then-digits-le64 : goal.returns-then-digits-le64
returns-then-digits-le64 c =
    let ws = c.args.words.now in
    let w : ℕ = c.args.width in
    let n : ℕ = length c.args.numbers.now in
    let ys = map (cut w c.args.low) c.args.numbers.now in
    let x : ℕ = digits_at ws c.args.at (n * w) in
    let e : n * w ≡ w * n = omega arith in
    let l : x < 2 ^ (w * n) = subst (λ t. x < 2 ^ t) e (digits-below ws c.args.at (n * w)) in
    ap (λ t. t == c.packed.result) c.field.ensures ∙ ap (λ t. x == t) c.packed.ensures
    ∙ packed-same w n x ys (sym (length-map c.args.numbers.now (cut w c.args.low))) (cuts-small w c.args.low c.args.numbers.now) l
    ∙ ap (λ t. same_digits t ys) (pieces-row ws c.args.at w n c.requires.inside)
