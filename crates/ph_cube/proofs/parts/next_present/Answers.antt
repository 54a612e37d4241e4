use Rattle.std.proofs.Common.{◌≡◌, ◌≢◌, ◌+◌, ◌-◌, ◌*◌, ◌/◌, ◌^◌, ◌<◌, ◌≤◌, ℕ, sym, ◌∙◌, ap, arith, List, length, slice_index_or, Bool, true, false, ne_eqb, refl}
use Rattle.std.specs.Prelude.{◌==◌, if◌then◌else◌}
use Rattle.std.specs.Int.Count.{count_leading_zeros}
use Rattle.std.specs.List.{AllByRecursion as Each}
use Rattle.ph_model.specs.Digits.{digits_at}
use Rattle.ph_model.specs.Layout.{IsRecord}
use Rattle.ph_specs.specs.Record.{first_in}
use Rattle.ph_model.proofs.laws.WordDigits.{digits-below, each-fits}
use Rattle.ph_bits.specs.Fields.{ones_in}
use Rattle.ph_cube.specs.Cube.{kinds}
use Rattle.ph_cube.specs.Stands.{StandsAt}
use Rattle.ph_cube.proofs.Columns.{kind-digits}
use Rattle.ph_cube.proofs.KindWords.{behind, first-kind, none-left, word-next, word-rest}
use Rattle.ph_cube.proofs.Ranks.{ones-add, room, kind-one}
use Rattle.ph_cube.proofs.parts.next_present.Goals as goal

one : (o : ℕ) (t : Bool) → 0 < o → o ≡ (if t then 0 else 1) → o ≡ 1
one o true l e = absurd (omega (arith, l, e))
one o false l e = e

module _ (d : ℕ) (ws : List ℕ) (i : ℕ) (r : IsRecord true d ws) (h : Each (λ x. x < 2 ^ 64) ws) (m : i + 1 < (first_in ws).entries) where
  -- one address more, and one that is behind it
  more : (a : ℕ) → StandsAt d ws a i → (a + 1 < 2 ^ d) × (ones_in ws 64 ((a + 1) * 2) ≡ i + 1)
  more a s =
      let l : 64 + a * 2 + 2 ≤ 64 * length ws = omega (arith, room d ws r, s.limit) in
      let e : (a + 1) * 2 ≡ a * 2 + 2 = omega arith in
      let o : ones_in ws (64 + a * 2) 2 ≡ 1 = one _ _ s.some (kind-one d ws a r h s.limit) in
      let p : ones_in ws 64 ((a + 1) * 2) ≡ i + 1 = ap (ones_in ws 64) e ∙ ones-add ws 64 (a * 2) 2 l ∙ omega (arith, s.place, o) in
      let z : digits_at ws (64 + (a + 1) * 2) (0 * 2) < 2 ^ (0 * 2) = digits-below ws (64 + (a + 1) * 2) (0 * 2) in
      let b = behind d ws i (a + 1) 0 r h m (omega (arith, s.limit)) (omega (arith, l)) p (omega (arith, z)) in
      (omega (arith, b.0), p)

  -- the kind of an entry that stands there
  stand : (a : ℕ) → a < 2 ^ d → ones_in ws 64 (a * 2) ≡ i + 1 → digits_at ws (64 + a * 2) 2 ≢ 0 → StandsAt d ws a (i + 1)
  stand a l p n =
      let e : (slice_index_or (kinds d ws) a 0 == 0) ≡ false = ne_eqb (slice_index_or (kinds d ws) a 0) 0 (λ q. n (sym (kind-digits d ws a r h l) ∙ q)) in
      let o : ones_in ws (64 + a * 2) 2 ≡ 1 = kind-one d ws a r h l ∙ ap (λ t. if t then 0 else 1) e in
      record { limit = l; place = p; some = omega (arith, o) }

  -- behind a word that is 0 there is another one
  passed : (first place left : ℕ) → first < 2 ^ d → ones_in ws 64 (first * 2) ≡ i + 1 → place < length ws → first < 32 * place → 32 * place ≤ first + 32 →
      left ≡ digits_at ws (64 + first * 2) ((32 * place - first) * 2) * 2 ^ (64 - (32 * place - first) * 2) → left ≡ 0
      → (place * 32 < 2 ^ d) × (ones_in ws 64 (place * 32 * 2) ≡ i + 1) × (place + 1 < length ws)
  passed first place left w b l s f k z =
      let n : ℕ = 32 * place - first in
      let e : first + (32 * place - first) ≡ place * 32 = omega (arith, s) in
      let o : digits_at ws (64 + first * 2) ((32 * place - first) * 2) ≡ 0 = none-left ws (64 + first * 2) n left (omega (arith, l, s)) (omega (arith, f)) k z in
      let p = behind d ws i first n r h m (omega (arith, w)) (omega (arith, l, s)) b o in
      let q : place * 32 < 2 ^ d = omega (arith, p.0, e) in
      (q, ap (λ t. ones_in ws 64 (t * 2)) (sym e) ∙ p.1, omega (arith, q, room d ws r))

  -- the first kind of a word that is not 0
  reached : (first place left k : ℕ) → first < 2 ^ d → ones_in ws 64 (first * 2) ≡ i + 1 → place < length ws → first < 32 * place → 32 * place ≤ first + 32 →
      left ≡ digits_at ws (64 + first * 2) ((32 * place - first) * 2) * 2 ^ (64 - (32 * place - first) * 2) → 0 < left → left < 2 ^ 64
      → k ≡ count_leading_zeros 64 left / 2 → StandsAt d ws (first + k) (i + 1)
  reached first place left k w b l s f e p q g =
      let n : ℕ = 32 * place - first in
      let c = first-kind ws (64 + first * 2) n left (omega (arith, l, s)) (omega (arith, f)) e k g p q in
      let a : 64 + first * 2 + k * 2 ≡ 64 + (first + k) * 2 = omega arith in
      let t = behind d ws i first k r h m (omega (arith, w)) (omega (arith, l, s, c.inside)) b c.none in
      stand (first + k) t.0 t.1 (λ v. c.some (ap (λ u. digits_at ws u 2) a ∙ v))

pub loop-left-init : goal.loop-left-init
loop-left-init c =
    let ws = c.args.words.now in
    let r = c.requires in
    let s = more c.args.dims ws c.args.i r.record (each-fits ws c.type_inv.words) r.within c.args.addr r.stands in
    let l : (c.args.addr + 1) / 32 + 1 < length ws = omega (arith, s.0, room c.args.dims ws r.record) in
    record {
      within = s.0;
      before = s.1;
      inside = l;
      some = omega arith;
      few = omega arith;
      kinds = word-rest ws (c.args.addr + 1) l c.type_inv.words;
      fits = omega arith;
    }

pub bounds-words-place-in-loop-left : goal.bounds-words-place-in-loop-left
bounds-words-place-in-loop-left c =
    let ws = c.args.words.now in
    let v = c.loop-left.invariant in
    let r = c.requires in
    (passed c.args.dims ws c.args.i r.record (each-fits ws c.type_inv.words) r.within c.loop-left.first c.loop-left.place c.loop-left.left
    v.within v.before v.inside v.some v.few v.kinds c.loop-left-test.true).2

pub loop-left-preserved : goal.loop-left-preserved
loop-left-preserved c =
    let ws = c.args.words.now in
    let v = c.loop-left.invariant in
    let r = c.requires in
    let s = passed c.args.dims ws c.args.i r.record (each-fits ws c.type_inv.words) r.within c.loop-left.first c.loop-left.place c.loop-left.left
    v.within v.before v.inside v.some v.few v.kinds c.loop-left-test.true in
    record {
      within = s.0;
      before = s.1;
      inside = s.2;
      some = omega arith;
      few = omega arith;
      fits = (c.type_inv.words (c.loop-left.place + 1)).fits;
      kinds = word-next ws c.loop-left.place s.2 c.type_inv.words;
    }

pub loop-left-smaller : goal.loop-left-smaller
loop-left-smaller c =
    let ws = c.args.words.now in
    let v = c.loop-left.invariant in
    let r = c.requires in
    let s = passed c.args.dims ws c.args.i r.record (each-fits ws c.type_inv.words) r.within c.loop-left.first c.loop-left.place c.loop-left.left
    v.within v.before v.inside v.some v.few v.kinds c.loop-left-test.true in
    omega (arith, s.0, v.some)

pub returns : goal.returns
returns c =
    let ws = c.args.words.now in
    let v = c.loop-left.invariant in
    let r = c.requires in
    let some : 0 < c.loop-left.left = omega (arith, c.loop-left-test.false) in
    reached c.args.dims ws c.args.i r.record (each-fits ws c.type_inv.words) r.within c.loop-left.first c.loop-left.place c.loop-left.left
    (count_leading_zeros 64 c.loop-left.left / 2) v.within v.before v.inside v.some v.few v.kinds some v.fits refl
