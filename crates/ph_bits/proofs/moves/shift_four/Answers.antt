use Rattle.std.proofs.Common.{rules, ◌≡◌, ℕ, List, zero, suc, ◌+◌, ◌-◌, ◌*◌, ◌/◌, ◌%◌, ◌^◌, ◌≤◌, ◌<◌, []}
use Rattle.std.proofs.Common.{◌∷◌, length, slice_index_or, slice_set, Fits, w64, refl, sym, ◌∙◌, ap, subst, arith}
use Rattle.std.proofs.lemmas.List.{length-set}
use Rattle.ph_model.specs.Digits.{digits_at}
use Rattle.ph_model.proofs.laws.WordDigits.{digits-below}
use Rattle.ph_bits.specs.Fields.{IsPut}
use Rattle.ph_bits.specs.Moved.{IsMoved}
use Rattle.ph_bits.proofs.MovedRuns.{moved-none, moved-stored, moved-equal, word-across, word-put}
use Rattle.ph_bits.proofs.moves.shift_four.Goals as goal

-- words that are stored among others fit as these do
ranged : (ws : List ℕ) (i v : ℕ) → ((k : ℕ) → Fits w64 (slice_index_or ws k 0)) → Fits w64 v → (k : ℕ) → Fits w64 (slice_index_or (slice_set ws i v) k 0)
ranged [] i v h f k = h k
ranged (x ∷ xs) zero v h f zero = f
ranged (x ∷ xs) zero v h f (suc k) = h (suc k)
ranged (x ∷ xs) (suc i) v h f zero = h 0
ranged (x ∷ xs) (suc i) v h f (suc k) = ranged xs i v (λ j. h (suc j)) f k

-- of four words, those from n on are moved
record Part (ws : List ℕ) (from place n m : ℕ) (mid : List ℕ) : Type 0 where
  moved : IsMoved ws (from + 64 * n) (64 * place + 64 * n) (64 * m) mid
  same : length mid ≡ length ws
  fits : (k : ℕ) → Fits w64 (slice_index_or mid k 0)

module _ (ws : List ℕ) (from place : ℕ) (p : 0 < from % 64) (l : from + 256 ≤ 64 * length ws) (o : 64 * place + 256 ≤ 64 * length ws) (h : (k : ℕ) → Fits w64 (slice_index_or ws k 0)) where
  -- one more
  step : (n m v : ℕ) (mid : List ℕ) → n + 1 + m ≡ 4 → Part ws from place (n + 1) m mid →
      v ≡ slice_index_or ws (from / 64 + n) 0 % 2 ^ (64 - from % 64) * 2 ^ (from % 64) + slice_index_or ws (from / 64 + n + 1) 0 / 2 ^ (64 - from % 64) →
      Part ws from place n (m + 1) (slice_set mid (place + n) v)
  step n m v mid b q e =
      let at : ℕ = from / 64 + n in
      let shift : ℕ = from % 64 in
      let new : List ℕ = slice_set mid (place + n) v in
      let same : length (slice_set mid (place + n) v) ≡ length ws = length-set mid (place + n) v ∙ q.same in
      let next : from / 64 + n + 1 ≡ suc (from / 64 + n) = omega arith in
      let here : 64 * (from / 64 + n) + from % 64 ≡ from + 64 * n = omega arith in
      let there : 64 * (place + n) ≡ 64 * place + 64 * n = omega arith in
      let d : v ≡ digits_at ws (from + 64 * n) 64 =
      word-across ws at shift v (omega arith) (omega (arith, l, p, b)) h
      (e ∙ ap (λ t. slice_index_or ws at 0 % 2 ^ (64 - shift) * 2 ^ shift + slice_index_or ws t 0 / 2 ^ (64 - shift)) next)
      ∙ ap (λ t. digits_at ws t 64) here in
      let small : v < 2 ^ 64 = subst (λ t. t < 2 ^ 64) (sym d) (digits-below ws (from + 64 * n) 64) in
      let one : IsPut mid (64 * place + 64 * n) 64 v (slice_set mid (place + n) v) =
      subst (λ t. IsPut mid t 64 v (slice_set mid (place + n) v)) there (word-put mid (place + n) v (omega (arith, o, b, q.same)) q.fits small) in
      record {
        moved = moved-equal ws new (from + 64 * n) (from + 64 * n) (64 * place + 64 * n) (64 * place + 64 * n) (64 + 64 * m) (64 * (m + 1)) refl refl (omega arith)
            (moved-stored ws mid new (from + 64 * n) (64 * place + 64 * n) 64 (64 * m) v q.same same (omega (arith, l, b)) (omega (arith, o, b)) d
            (moved-equal ws mid (from + 64 * (n + 1)) (from + 64 * n + 64) (64 * place + 64 * (n + 1)) (64 * place + 64 * n + 64) (64 * m) (64 * m)
            (omega arith) (omega arith) refl q.moved)
            one);
        same = same;
        fits = ranged mid (place + n) v q.fits (record { fits = small });
      }

  none : Part ws from place 4 0 ws
  none = record {
    moved = (let z : 64 * 0 ≡ 0 = omega arith in moved-none ws (from + 64 * 4) (64 * place + 64 * 4) (64 * 0) z);
    same = refl;
    fits = h;
  }

  told : (a j n v : ℕ) → a ≡ from / 64 + n → j ≡ from / 64 + n + 1 →
      v ≡ slice_index_or ws a 0 % 2 ^ (64 - from % 64) * 2 ^ (from % 64) + slice_index_or ws j 0 / 2 ^ (64 - from % 64) →
      v ≡ slice_index_or ws (from / 64 + n) 0 % 2 ^ (64 - from % 64) * 2 ^ (from % 64) + slice_index_or ws (from / 64 + n + 1) 0 / 2 ^ (64 - from % 64)
  told a j n v f g e =
      e ∙ ap (λ t. slice_index_or ws t 0 % 2 ^ (64 - from % 64) * 2 ^ (from % 64) + slice_index_or ws j 0 / 2 ^ (64 - from % 64)) f
      ∙ ap (λ t. slice_index_or ws (from / 64 + n) 0 % 2 ^ (64 - from % 64) * 2 ^ (from % 64) + slice_index_or ws t 0 / 2 ^ (64 - from % 64)) g

  -- all four
  pub four : (v3 v2 v1 v0 : ℕ)
      → v3 ≡ slice_index_or ws (from / 64 + 3) 0 % 2 ^ (64 - from % 64) * 2 ^ (from % 64) + slice_index_or ws (from / 64 + 4) 0 / 2 ^ (64 - from % 64)
      → v2 ≡ slice_index_or ws (from / 64 + 2) 0 % 2 ^ (64 - from % 64) * 2 ^ (from % 64) + slice_index_or ws (from / 64 + 3) 0 / 2 ^ (64 - from % 64)
      → v1 ≡ slice_index_or ws (from / 64 + 1) 0 % 2 ^ (64 - from % 64) * 2 ^ (from % 64) + slice_index_or ws (from / 64 + 2) 0 / 2 ^ (64 - from % 64)
      → v0 ≡ slice_index_or ws (from / 64) 0 % 2 ^ (64 - from % 64) * 2 ^ (from % 64) + slice_index_or ws (from / 64 + 1) 0 / 2 ^ (64 - from % 64)
      → IsMoved ws from (64 * place) 256 (slice_set (slice_set (slice_set (slice_set ws (place + 3) v3) (place + 2) v2) (place + 1) v1) place v0)
  four v3 v2 v1 v0 e3 e2 e1 e0 =
      let m3 : List ℕ = slice_set ws (place + 3) v3 in
      let m2 : List ℕ = slice_set m3 (place + 2) v2 in
      let m1 : List ℕ = slice_set m2 (place + 1) v1 in
      let p3 = step 3 0 v3 ws refl none (told (from / 64 + 3) (from / 64 + 4) 3 v3 refl (omega arith) e3) in
      let p2 = step 2 1 v2 m3 refl p3 (told (from / 64 + 2) (from / 64 + 3) 2 v2 refl (omega arith) e2) in
      let p1 = step 1 2 v1 m2 refl p2 (told (from / 64 + 1) (from / 64 + 2) 1 v1 refl (omega arith) e1) in
      let p0 = step 0 3 v0 m1 refl p1 (told (from / 64) (from / 64 + 1) 0 v0 (omega arith) (omega arith) e0) in
      let z : place + 0 ≡ place = omega arith in
      subst (λ t. IsMoved ws from (64 * place) 256 (slice_set m1 t v0)) z
      (moved-equal ws (slice_set m1 (place + 0) v0) (from + 64 * 0) from (64 * place + 64 * 0) (64 * place) (64 * 4) 256 (omega arith) (omega arith) refl p0.moved)

pub returns : goal.returns
returns c =
    let ws = c.args.words.now in
    let r = c.requires in
    let fits : (k : ℕ) → Fits w64 (slice_index_or ws k 0) = search rules in
    four ws c.args.from c.args.place r.across r.from r.to fits c.word_across.result c.word_across-2.result c.word_across-3.result c.word_across-4.result
    c.word_across.ensures c.word_across-2.ensures c.word_across-3.ensures c.word_across-4.ensures
