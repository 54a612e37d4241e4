-- Columns whose runs were moved together, so that an entry is left out.
use Rattle.std.proofs.Common.{◌≡◌, ℕ, ◌+◌, ◌-◌, ◌*◌, ◌/◌, ◌^◌, ◌≤◌, ◌<◌, refl, sym, ◌∙◌, ap, subst, arith, List, length}
use Rattle.std.specs.List.{AllByRecursion as Each}
use Rattle.ph_specs.specs.Digits.{number_of, digits_of, words_for}
use Rattle.ph_model.specs.Digits.{digits_at}
use Rattle.ph_bits.specs.Moved.{IsMoved}
use Rattle.ph_linear.specs.Edited.{IsOver}
use Rattle.ph_linear.specs.Runs.{start, AreColumns, runs_without, with_fields}
use Rattle.ph_linear.specs.declared.copies.Column.{Column}
use Rattle.ph_linear.specs.declared.tables.Columns.{Columns}
use Rattle.ph_linear.proofs.ClosedRuns.{closed}
use Rattle.ph_linear.proofs.FieldWords.{over-fields}
use Rattle.ph_linear.proofs.Overs.{over-equal}
use Rattle.ph_linear.proofs.RunNumbers.{starts, start-first}

-- the order of the places at which the parts of the columns begin
pub record AreOrdered (old : List ℕ) (cs : Columns) (p : ℕ) : Type 0 where
  pub kinds : 64 ≤ start cs.kinds p
  pub addresses : start cs.kinds p ≤ start cs.addresses p
  pub bodies : start cs.addresses p ≤ start cs.bodies p
  pub until : start cs.bodies p ≤ start cs.bodies cs.bodies.count
  pub inside : start cs.bodies cs.bodies.count ≤ 64 * length old
  pub near : start cs.bodies cs.bodies.count + 1 + cs.addresses.width + cs.bodies.width ≤ 2 ^ 62

-- the last entry ends where the next column begins
meets : (c d : Column) (n i : ℕ) → d.at ≡ start c n → i ≤ n → start c i ≤ start d 0
meets c d n i e l = omega (arith, e, start-first d, starts c i n l)

pub ordered : (old : List ℕ) (cs : Columns) (p : ℕ) → AreColumns old cs → p ≤ cs.kinds.count → AreOrdered old cs p
ordered old cs p h l =
    let many : start cs.bodies cs.bodies.count ≡ start cs.bodies cs.kinds.count = ap (start cs.bodies) h.bodies_many in
    let zero : (i : ℕ) → 0 ≤ i = λ i. omega arith in
    record {
      kinds = omega (arith, h.begin, start-first cs.kinds, starts cs.kinds 0 p (zero p));
      addresses = omega (arith, meets cs.kinds cs.addresses cs.kinds.count p h.addresses l, starts cs.addresses 0 p (zero p));
      bodies = omega (arith, meets cs.addresses cs.bodies cs.kinds.count p h.bodies l, starts cs.bodies 0 p (zero p));
      until = omega (arith, starts cs.bodies p cs.kinds.count l, many);
      inside = omega (arith, many, h.inside);
      near = omega (arith, many, h.near, h.one);
    }

-- the same where there is an entry at the place
pub record AreOrderedAt (cs : Columns) (p : ℕ) : Type 0 where
  pub kinds : start cs.kinds p ≤ start cs.kinds (p + 1)
  pub addresses : start cs.kinds (p + 1) ≤ start cs.addresses p
  pub next : start cs.addresses p ≤ start cs.addresses (p + 1)
  pub bodies : start cs.addresses (p + 1) ≤ start cs.bodies p
  pub last : start cs.bodies p ≤ start cs.bodies (p + 1)
  pub until : start cs.bodies (p + 1) ≤ start cs.bodies cs.bodies.count

pub ordered-at : (old : List ℕ) (cs : Columns) (p : ℕ) → AreColumns old cs → p < cs.kinds.count → AreOrderedAt cs p
ordered-at old cs p h l =
    let many : start cs.bodies cs.bodies.count ≡ start cs.bodies cs.kinds.count = ap (start cs.bodies) h.bodies_many in
    let zero : (i : ℕ) → 0 ≤ i = λ i. omega arith in
    let m : p + 1 ≤ cs.kinds.count = omega (arith, l) in
    let n : p ≤ p + 1 = omega arith in
    record {
      kinds = starts cs.kinds p (p + 1) n;
      addresses = omega (arith, meets cs.kinds cs.addresses cs.kinds.count (p + 1) h.addresses m, starts cs.addresses 0 p (zero p));
      next = starts cs.addresses p (p + 1) n;
      bodies = omega (arith, meets cs.addresses cs.bodies cs.kinds.count (p + 1) h.bodies m, starts cs.bodies 0 p (zero p));
      last = starts cs.bodies p (p + 1) n;
      until = omega (arith, starts cs.bodies (p + 1) cs.kinds.count m, many);
    }

-- a number behind no digits
start-number : (n x : ℕ) → 0 * n + x ≡ x
start-number n x = omega arith

module _ (old w1 w2 w3 new : List ℕ) (cs : Columns) (p : ℕ) (cols : AreColumns old cs) (within : p < cs.kinds.count)
    (small : Each (λ x. x < 2 ^ 64) old) (fits : Each (λ x. x < 2 ^ 64) new) (e1 : length w1 ≡ length old)
    (e2 : length w2 ≡ length old) (e3 : length w3 ≡ length old) (e4 : length new ≡ length old) where
  abbrev k0 : ℕ
  k0 = start cs.kinds p

  abbrev k1 : ℕ
  k1 = start cs.kinds (p + 1)

  abbrev a0 : ℕ
  a0 = start cs.addresses p

  abbrev a1 : ℕ
  a1 = start cs.addresses (p + 1)

  abbrev b0 : ℕ
  b0 = start cs.bodies p

  abbrev b1 : ℕ
  b1 = start cs.bodies (p + 1)

  abbrev b2 : ℕ
  b2 = start cs.bodies cs.bodies.count

  -- how many digits there are then
  abbrev many : ℕ
  many = start cs.kinds p - 64 + (start cs.addresses p - start cs.kinds (p + 1)) +
      (start cs.bodies p - start cs.addresses (p + 1)) + (start cs.bodies cs.bodies.count - start cs.bodies (p + 1))

  many-digits : digits_of (runs_without old cs p) ≡ many
  many-digits = omega arith

  pub close-columns : (t1 t2 t3 : ℕ) → t1 ≡ start cs.kinds p + (start cs.addresses p - start cs.kinds (p + 1)) →
      t2 ≡ t1 + (start cs.bodies p - start cs.addresses (p + 1)) →
      t3 ≡ t2 + (start cs.bodies cs.bodies.count - start cs.bodies (p + 1))
      → IsMoved old (start cs.kinds (p + 1)) (start cs.kinds p) (start cs.addresses p - start cs.kinds (p + 1)) w1
      → IsMoved w1 (start cs.addresses (p + 1)) t1 (start cs.bodies p - start cs.addresses (p + 1)) w2
      → IsMoved w2 (start cs.bodies (p + 1)) t2 (start cs.bodies cs.bodies.count - start cs.bodies (p + 1)) w3
      → IsOver w3 t3 (64 * ((t3 + 63) / 64) - t3) 0 new
      → (new ≡ with_fields (runs_without old cs p) old) × ((t3 + 63) / 64 ≡ 1 + words_for (digits_of (runs_without old cs p)))
  close-columns t1 t2 t3 s1 s2 s3 q1 q2 q3 q4 =
      let o = ordered old cs p cols (below p cs.kinds.count within) in
      let u = ordered-at old cs p cols within in
      let f : ℕ = k0 - 64 in
      let m1 : ℕ = a0 - k1 in
      let m2 : ℕ = b0 - a1 in
      let m3 : ℕ = b2 - b1 in
      let z0 : start cs.kinds p ≡ 64 + (start cs.kinds p - 64) = omega (arith, o.kinds) in
      let z1 : t1 ≡ 64 + (start cs.kinds p - 64 + (start cs.addresses p - start cs.kinds (p + 1))) = omega (arith, s1, z0) in
      let z2 : t2 ≡ 64 + (start cs.kinds p - 64 + (start cs.addresses p - start cs.kinds (p + 1)) +
      (start cs.bodies p - start cs.addresses (p + 1))) = omega (arith, s2, z1) in
      let z3 : t3 ≡ 64 + many = omega (arith, s3, z2) in
      let pad : 64 * ((t3 + 63) / 64) - t3 ≡ 64 * words_for many - many = round t3 many z3 in
      let place : (t3 + 63) / 64 ≡ 1 + words_for many = omega (arith, z3) in
      let c1 : start cs.kinds (p + 1) + (start cs.addresses p - start cs.kinds (p + 1)) ≤ start cs.addresses (p + 1) = omega (arith, u.addresses, u.next) in
      let c2 : start cs.addresses (p + 1) + (start cs.bodies p - start cs.addresses (p + 1)) ≤ start cs.bodies (p + 1) = omega (arith, u.bodies, u.last) in
      let c3 : start cs.bodies (p + 1) + (start cs.bodies cs.bodies.count - start cs.bodies (p + 1)) ≤ 64 * length old = omega (arith, u.until, o.inside) in
      let less : 64 + many ≤ 64 * length old = omega (arith, z0, u.kinds, c1, c2, c3) in
      let words : 1 + words_for many ≤ length old = room many (length old) less in
      let whole : many + (64 * words_for many - many) ≡ 64 * words_for many = enough many in
      let all =
      closed old w1 w2 w3 new f k1 m1 a1 m2 b1 m3 (64 * words_for many - many) e1 e2 e3 e4 (omega (arith, z0, u.kinds)) c1 c2 c3 (omega (arith, words, whole))
      (subst (λ t. IsMoved old k1 t m1 w1) z0 q1) (subst (λ t. IsMoved w1 a1 t m2 w2) z1 q2) (subst (λ t. IsMoved w2 b1 t m3 w3) z2 q3)
      (subst (λ t. IsOver w3 (64 + many) t 0 new) pad (subst (λ t. IsOver w3 t (64 * ((t3 + 63) / 64) - t3) 0 new) z3 q4)) in
      let value : (((digits_at old 64 f * 2 ^ m1 + digits_at old k1 m1) * 2 ^ m2 + digits_at old a1 m2) * 2 ^ m3 +
      digits_at old b1 m3) * 2 ^ (64 * words_for many - many) + 0 ≡ number_of (runs_without old cs p) * 2 ^
      (64 * words_for many - many) =
      right _ ∙ ap (λ t. (((t * 2 ^ m1 + digits_at old k1 m1) * 2 ^ m2 + digits_at old a1 m2) * 2 ^ m3 + digits_at old
      b1 m3) * 2 ^ (64 * words_for many - many)) (sym (start-number (2 ^ f) (digits_at old 64 f))) in
      let put : IsOver old 64 (64 * words_for many) (number_of (runs_without old cs p) * 2 ^ (64 * words_for many - many)) new =
      over-equal old new 64 64 _ (64 * words_for many) _ (number_of (runs_without old cs p) * 2 ^ (64 * words_for many - many)) refl whole value all in (
        over-fields old new (runs_without old cs p) small fits (subst (λ t. 1 + words_for t ≤ length old) (sym many-digits) words) e4
            (subst (λ t. IsOver old 64 (64 * words_for t) (number_of (runs_without old cs p) * 2 ^ (64 * words_for t - t)) new) (sym many-digits) put),
        place ∙ ap (λ t. 1 + words_for t) (sym many-digits),
      )
    where
      below : (p n : ℕ) → p < n → p ≤ n
      below p n l = omega (arith, l)

      round : (t d : ℕ) → t ≡ 64 + d → 64 * ((t + 63) / 64) - t ≡ 64 * ((d + 63) / 64) - d
      round t d e = omega (arith, e)

      room : (d n : ℕ) → 64 + d ≤ 64 * n → 1 + (d + 63) / 64 ≤ n
      room d n l = omega (arith, l)

      enough : (d : ℕ) → d + (64 * ((d + 63) / 64) - d) ≡ 64 * ((d + 63) / 64)
      enough d = omega arith

      right : (x : ℕ) → x + 0 ≡ x
      right x = omega arith
