use Rattle.std.proofs.Common.{◌≡◌, ◌+◌, ◌*◌, take, replicate, sym, ◌∙◌, ap, subst}
use Rattle.std.proofs.lemmas.List.{append-nil}
use Rattle.ph_specs.specs.Digits.{number_of, digits_of}
use Rattle.ph_specs.specs.Pack.{bodies, body_fields}
use Rattle.ph_linear.specs.Edited.{IsOver}
use Rattle.ph_linear.proofs.Overs.{digits-row, over-column}
use Rattle.ph_linear.proofs.copies.Column.put_row.Goals as goal

pub returns : goal.returns
returns c =
    let s = c.args.self in
    let e = c.args.edit.now in
    let old = c.args.words.now in
    let new = c.set_row.new.words in
    let level = c.args.level in
    let d = c.args.dims in
    let row = take d e.entry.body in
    let one : bodies level (replicate e.more row) ≡ body_fields level row = ap (λ t. bodies level (replicate t row))
    c.requires.more ∙ append-nil (body_fields level row) in
    let digits : digits_of (bodies level (replicate e.more row)) ≡ s.width = ap digits_of one ∙ digits-row level row ∙
    ap (λ t. t * level) c.set_row.ensures.long ∙ sym c.requires.width in
    over-column old new s e (bodies level (replicate e.more row)) c.set_row.auto.words c.requires.column.inside c.requires.within c.requires.less digits
    (subst (λ t. IsOver old (s.at + e.place * s.width) t (number_of (bodies level (replicate e.more row))) new) (sym c.requires.width)
    (subst (λ t. IsOver old (s.at + e.place * s.width) (d * level) t new) (sym (ap number_of one)) c.set_row.ensures.over))
