use Rattle.std.proofs.Common.{◌≡◌, ◌<◌, ◌≤◌, ℕ, sym, ◌∙◌, arith, List, length}
use Rattle.std.specs.Prelude.{◌==◌, nat_le}
use Rattle.ph_linear.specs.Linear.{addresses}
use Rattle.ph_linear.proofs.Columns.{length-addresses}
use Rattle.ph_linear.proofs.Halving.{rise, found, missed, place-entries, place-there}
use Rattle.ph_linear.proofs.searches.search_among.Goals as goal

pub returns-then-i-count-clause-absent : goal.returns-then-i-count-clause-absent
returns-then-i-count-clause-absent c =
    let words = c.args.words.now in
    let xs : List ℕ = addresses c.args.dims words in
    missed xs c.args.addr c.place_of-i.result (rise c.args.dims words c.requires.record) c.place_of-i.ensures.value
    (λ l. absurd (omega (arith, l, length-addresses c.args.dims words, c.if-i-count.true, c.requires.count)))
    ∙ sym (place-entries (λ x. x == c.args.addr) c.args.dims words)

pub returns-then-i-count-clause-place : goal.returns-then-i-count-clause-place
returns-then-i-count-clause-place c = c.place_of-i.ensures.value ∙ sym (place-there (λ x. nat_le c.args.addr x) c.args.dims c.args.words.now)

pub returns-then-address_at-addr-clause-found : goal.returns-then-address_at-addr-clause-found
returns-then-address_at-addr-clause-found c =
    let words = c.args.words.now in
    let xs : List ℕ = addresses c.args.dims words in
    found xs c.args.addr c.place_of-i.result (rise c.args.dims words c.requires.record)
    (inside c.place_of-i.result c.args.count (length xs) (length-addresses c.args.dims words ∙ sym c.requires.count) c.place_of-i.ensures.within c.if-i-count.false)
    (sym c.address_at.ensures.value ∙ c.if-address_at-addr.true)
    ∙ sym (place-entries (λ x. x == c.args.addr) c.args.dims words)
  where
    inside : (i n k : ℕ) → k ≡ n → i ≤ n → (i ≡ n → ⊥) → i < k
    inside i n k e l h = omega (arith, e, l, h)

pub returns-else-address_at-addr-clause-absent : goal.returns-else-address_at-addr-clause-absent
returns-else-address_at-addr-clause-absent c =
    let words = c.args.words.now in
    let xs : List ℕ = addresses c.args.dims words in
    missed xs c.args.addr c.place_of-i.result (rise c.args.dims words c.requires.record) c.place_of-i.ensures.value
    (λ l e. c.if-address_at-addr.false (c.address_at.ensures.value ∙ e))
    ∙ sym (place-entries (λ x. x == c.args.addr) c.args.dims words)

pub returns-else-address_at-addr-clause-place : goal.returns-else-address_at-addr-clause-place
returns-else-address_at-addr-clause-place c = c.place_of-i.ensures.value ∙ sym (place-there (λ x. nat_le c.args.addr x) c.args.dims c.args.words.now)
