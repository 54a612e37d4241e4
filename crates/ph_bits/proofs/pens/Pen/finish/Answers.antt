use Rattle.std.proofs.Common.{◌≡◌, ◌+◌, ◌-◌, ◌*◌, ◌^◌, ◌<◌, ℕ, length, arith, ◌∙◌, ap, subst}
use Rattle.std.specs.List.{AllByRecursion as Each}
use Rattle.ph_specs.specs.Digits.{number_after, digits_of, words_for}
use Rattle.ph_bits.specs.Fields.{number_in}
use Rattle.ph_bits.specs.Written.{digits_by}
use Rattle.ph_bits.proofs.Tables.{table-words}
use Rattle.ph_bits.proofs.pens.Pen.finish.Goals as goal

pub returns-clause-table : goal.returns-clause-table
returns-clause-table c front fs f h d n =
    let ws = c.end.new.words.words in
    let k : ℕ = length front in
    let t : ℕ = words_for (digits_of fs) in
    let fits : Each (λ x. x < 2 ^ 64) ws = subst (Each (λ x. x < 2 ^ 64)) c.as_slice.ensures c.are_words.ensures in
    let long : length ws ≡ length front + words_for (digits_of fs) = placed _ _ k (digits_of fs) c.end.ensures.length d in
    let pad : 64 * (k + t) - (64 * k + digits_of fs) ≡ 64 * t - digits_of fs = omega arith in
    table-words front ws fs f fits h long
    (c.end.ensures.number ∙ ap (λ s. s * 2 ^ (64 * length ws - digits_by c.args.words.now.words c.args.self)) n
    ∙ ap (λ s. number_after (number_in front) fs * 2 ^ (64 * length ws - s)) d
    ∙ ap (λ s. number_after (number_in front) fs * 2 ^ (64 * s - (64 * k + digits_of fs))) long
    ∙ ap (λ s. number_after (number_in front) fs * 2 ^ s) pad)
  where
    placed : (r d k f : ℕ) → r ≡ words_for d → d ≡ 64 * k + f → r ≡ k + words_for f
    placed r d k f e g = omega (arith, e, g)
