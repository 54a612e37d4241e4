use Rattle.std.proofs.Common.{◌≡◌, ◌+◌, ◌<◌, ◌≤◌, ℕ, sym, ◌∙◌, ap, subst, arith, List, length, inl, inr}
use Rattle.std.specs.Prelude.{◌==◌, nat_le, slice_index_or}
use Rattle.std.specs.List.{position_or_len}
use Rattle.ph_linear.specs.Linear.{addresses}
use Rattle.ph_linear.proofs.Columns.{length-addresses}
use Rattle.ph_linear.proofs.Entries.{split, first-at}
use Rattle.ph_linear.proofs.Halving.{rise, found, missed, place-entries, place-there}
use Rattle.ph_linear.proofs.searches.search_two.Goals as goal

-- the first of two numbers, or the second where the first is less than a third, and whether that one is less
module _ (xs : List ℕ) (a i m : ℕ) (long : length xs ≡ 2) (some : i ≤ 1) (one : m ≤ 1)
    (less : slice_index_or xs 0 0 < a → i ≡ 1) (more : a ≤ slice_index_or xs 0 0 → i ≡ 0)
    (last : slice_index_or xs i 0 < a → m ≡ 1) (none : a ≤ slice_index_or xs i 0 → m ≡ 0) where
  -- where one of the two is not less, it is the one that was taken
  taken : i + m < 2 → m ≡ 0
  taken b =
      elim (split (slice_index_or xs i 0) a) [
        | inl h ↦
            let z : i ≡ 0 = omega (arith, last h, b) in
            elim (split (slice_index_or xs 0 0) a) [
              | inl k ↦ absurd (omega (arith, less k, z))
              | inr k ↦ absurd (omega (arith, k, h, ap (λ t. slice_index_or xs t 0) z))
            ]
        | inr h ↦ none h
      ]

  -- how many are less
  two-place : i + m ≡ position_or_len (λ x. nat_le a x) xs
  two-place = first-at xs a (i + m) (omega (arith, long, some, one)) below above
    where
      below : (j : ℕ) → j < i + m → slice_index_or xs j 0 < a
      below j b =
          elim (split j i) [
            | inl l ↦
                let z : j ≡ 0 = omega (arith, l, some) in
                elim (split (slice_index_or xs 0 0) a) [
                  | inl h ↦ subst (λ t. slice_index_or xs t 0 < a) (sym z) h
                  | inr h ↦ absurd (omega (arith, more h, l))
                ]
            | inr l ↦
                let z : j ≡ i = omega (arith, l, b, one) in
                elim (split (slice_index_or xs i 0) a) [
                  | inl h ↦ subst (λ t. slice_index_or xs t 0 < a) (sym z) h
                  | inr h ↦ absurd (omega (arith, none h, l, b))
                ]
          ]

      above : i + m < length xs → a ≤ slice_index_or xs (i + m) 0
      above b =
          let no : m ≡ 0 = taken (omega (arith, b, long)) in
          elim (split (slice_index_or xs i 0) a) [
            | inl h ↦ absurd (omega (arith, last h, no))
            | inr h ↦ let z : i ≡ i + m = omega (arith, no) in subst (λ t. a ≤ slice_index_or xs t 0) z h
          ]

two : (c : goal.After-one_if_less-behind) → length (addresses c.args.dims c.args.words.now) ≡ 2
two c = length-addresses c.args.dims c.args.words.now ∙ sym c.requires.two

less-of : (x y a i : ℕ) → x ≡ y → (x < a → i ≡ 1) → y < a → i ≡ 1
less-of x y a i e f h = f (omega (arith, e, h))

more-of : (x y a i : ℕ) → x ≡ y → (a ≤ x → i ≡ 0) → a ≤ y → i ≡ 0
more-of x y a i e f h = f (omega (arith, e, h))

behind : (c : goal.After-one_if_less-behind) →
    c.one_if_less-i.result + c.one_if_less-behind.result ≡ position_or_len (λ x. nat_le c.args.addr x) (addresses c.args.dims c.args.words.now)
behind c =
    two-place (addresses c.args.dims c.args.words.now) c.args.addr c.one_if_less-i.result c.one_if_less-behind.result (two c)
    c.one_if_less-i.ensures.limit c.one_if_less-behind.ensures.limit
    (less-of _ _ _ _ c.address_at-first.ensures.value c.one_if_less-i.ensures.less)
    (more-of _ _ _ _ c.address_at-first.ensures.value c.one_if_less-i.ensures.more)
    (less-of _ _ _ _ c.address_at-there.ensures.value c.one_if_less-behind.ensures.less)
    (more-of _ _ _ _ c.address_at-there.ensures.value c.one_if_less-behind.ensures.more)

same : (c : goal.After-one_if_less-behind) →
    c.one_if_less-i.result + c.one_if_less-behind.result < length (addresses c.args.dims c.args.words.now) →
    c.one_if_less-behind.result ≡ 0
same c b =
    taken (addresses c.args.dims c.args.words.now) c.args.addr c.one_if_less-i.result c.one_if_less-behind.result (two c)
    c.one_if_less-i.ensures.limit c.one_if_less-behind.ensures.limit
    (less-of _ _ _ _ c.address_at-first.ensures.value c.one_if_less-i.ensures.less)
    (more-of _ _ _ _ c.address_at-first.ensures.value c.one_if_less-i.ensures.more)
    (less-of _ _ _ _ c.address_at-there.ensures.value c.one_if_less-behind.ensures.less)
    (more-of _ _ _ _ c.address_at-there.ensures.value c.one_if_less-behind.ensures.more)
    (omega (arith, b, two c))

pub returns-then-there-addr-clause-found : goal.returns-then-there-addr-clause-found
returns-then-there-addr-clause-found c =
    let words = c.args.words.now in
    let xs : List ℕ = addresses c.args.dims words in
    found xs c.args.addr c.one_if_less-i.result (rise c.args.dims words c.requires.record)
    (omega (arith, c.one_if_less-i.ensures.limit, length-addresses c.args.dims words, c.requires.two))
    (sym c.address_at-there.ensures.value ∙ c.if-there-addr.true)
    ∙ sym (place-entries (λ x. x == c.args.addr) c.args.dims words)

pub returns-clause-absent : goal.returns-clause-absent
returns-clause-absent c =
    let words = c.args.words.now in
    let xs : List ℕ = addresses c.args.dims words in
    let i = c.one_if_less-i.result in
    missed xs c.args.addr (i + c.one_if_less-behind.result) (rise c.args.dims words c.requires.record) (behind c)
    (λ l e.
    let z : i + c.one_if_less-behind.result ≡ i = omega (arith, same c l) in
    c.if-there-addr.false (c.address_at-there.ensures.value ∙ sym (ap (λ t. slice_index_or xs t 0) z) ∙ e))
    ∙ sym (place-entries (λ x. x == c.args.addr) c.args.dims words)

pub returns-clause-place : goal.returns-clause-place
returns-clause-place c = behind c ∙ sym (place-there (λ x. nat_le c.args.addr x) c.args.dims c.args.words.now)
