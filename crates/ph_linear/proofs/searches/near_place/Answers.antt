use Rattle.std.proofs.Common.{◌≡◌, ◌+◌, ◌*◌, ◌-◌, ◌/◌, ◌%◌, ◌<◌, ◌≤◌, ◌^◌, ℕ, ◌∙◌, ap, subst, arith, List, length, slice_index_or, inl, inr}
use Rattle.ph_model.specs.Digits.{digits_at}
use Rattle.ph_specs.specs.Record.{first_in}
use Rattle.ph_model.proofs.laws.WordDigits.{each-fits}
use Rattle.ph_linear.specs.Linear.{addresses}
use Rattle.ph_linear.proofs.Columns.{length-addresses}
use Rattle.ph_linear.proofs.Entries.{split, first-at}
use Rattle.ph_linear.proofs.Halving.{rise, below, few-digits, inside, one-of}
use Rattle.ph_linear.proofs.searches.near_place.Goals as goal
use Rattle.ph_linear.proofs.searches.near_place.Goals.{After-one_of}

pub field-next-requires-clause-width : goal.field-next-requires-clause-width
field-next-requires-clause-width c =
    few-digits c.args.dims (c.min-end.result - c.args.from) (omega (arith, c.min-end.ensures))

pub field-next-requires-clause-inside : goal.field-next-requires-clause-inside
field-next-requires-clause-inside c =
    let words = c.args.words.now in
    let l : c.min-end.result ≤ (first_in words).entries = omega (arith, c.min-end.ensures, c.requires.count) in
    let o : c.args.from ≤ c.min-end.result = omega (arith, c.min-end.ensures, c.requires.most) in
    omega (
      arith,
      c.requires.count,
      inside (first_in words).entries c.args.dims (first_in words).level (length words) c.args.from c.min-end.result l o (omega (arith, c.requires.record.long)),
    )

-- an address that is read is that of its place
read : (c : After-one_of) → c.one_of.result ≡ slice_index_or (addresses c.args.dims c.args.words.now) c.loop-i.i 0
read c =
    let words = c.args.words.now in
    let d : ℕ = c.args.dims in
    let from : ℕ = c.args.from in
    let end : ℕ = c.min-end.result in
    let i : ℕ = c.loop-i.i in
    let e : c.field-next.result ≡ digits_at words (64 + (first_in words).entries + from * d) ((end - from) * d) =
    c.field-next.ensures ∙ ap (λ t. digits_at words (64 + t + from * d) ((end - from) * d)) c.requires.count in
    let w : end ≤ (first_in words).entries = omega (arith, c.min-end.ensures, c.requires.count) in
    let back : end - 1 - i ≡ end - from - 1 - (i - from) = omega (arith, c.loop-i.auto.i) in
    let here : from + (i - from) ≡ i = omega (arith, c.loop-i.auto.i) in
    c.one_of.ensures ∙ ap (λ t. c.field-next.result / 2 ^ (d * t) % 2 ^ d) back
    ∙ one-of d words from end c.field-next.result (i - from) c.requires.record (each-fits words c.type_inv.words) w (omega (arith, c.min-end.ensures, c.requires.most)) e
    (omega (arith, c.loop-i.auto.i, c.loop-i-test.true))
    ∙ ap (λ t. slice_index_or (addresses d words) t 0) here

pub loop-i-preserved : goal.loop-i-preserved
loop-i-preserved c j f l =
    elim (split j c.loop-i.i) [
      | inl b ↦ c.loop-i.invariant j f b
      | inr b ↦
          let same : c.loop-i.i ≡ j = omega (arith, b, l) in
          subst (λ t. slice_index_or (addresses c.args.dims c.args.words.now) t 0 < c.args.addr) same
          (subst (λ t. t < c.args.addr) (read (goal.at.loop-i-preserved c).After-one_of) c.if-one_of-addr.false)
    ]

pub returns-then-one_of-addr-clause-value : goal.returns-then-one_of-addr-clause-value
returns-then-one_of-addr-clause-value c =
    let xs : List ℕ = addresses c.args.dims c.args.words.now in
    let n : length xs ≡ (first_in c.args.words.now).entries = length-addresses c.args.dims c.args.words.now in
    let front = below xs (c.args.from - 1) c.args.addr (rise c.args.dims c.args.words.now c.requires.record)
    (omega (arith, n, c.requires.some, c.requires.most, c.requires.count)) c.requires.below in
    first-at xs c.args.addr c.loop-i.i (omega (arith, n, c.loop-i-test.true, c.min-end.ensures, c.requires.count))
    (λ j l. elim (split j c.args.from) [
      | inl b ↦ front j (omega (arith, b))
      | inr b ↦ c.loop-i.invariant j b l
    ])
    (λ _. subst (λ t. c.args.addr ≤ t) (read (goal.at.returns-then-one_of-addr-clause-value c).After-one_of) c.if-one_of-addr.true)
