-- Columns whose runs were moved apart, with the fields of a new entry between them.
use Rattle.std.proofs.Common.{◌≡◌, ℕ, ◌+◌, ◌-◌, ◌*◌, ◌/◌, ◌^◌, ◌≤◌, ◌<◌, refl, sym, ◌∙◌, ap, subst, arith, List, [], ◌∷◌, ◌++◌, length, take}
use Rattle.std.specs.List.{AllByRecursion as Each}
use Rattle.std.proofs.lemmas.Nat.{pow-add}
use Rattle.ph_specs.specs.Digits.{Field, field, number_of, digits_of, words_for}
use Rattle.ph_model.specs.Digits.{digits_at}
use Rattle.ph_specs.specs.Pack.{body_fields}
use Rattle.ph_model.proofs.lemmas.Columns.{digits_of-append, number_after-append}
use Rattle.ph_specs.proofs.lemmas.Numbers.{number_after-start}
use Rattle.ph_bits.specs.Moved.{IsMoved}
use Rattle.ph_bits.specs.declared.edits.Edit.{Edit}
use Rattle.ph_linear.specs.Edited.{IsOver}
use Rattle.ph_linear.specs.Runs.{start, run, AreColumns, digits_more, runs_with, with_fields}
use Rattle.ph_linear.specs.declared.tables.Columns.{Columns}
use Rattle.ph_linear.proofs.ClosedColumns.{ordered}
use Rattle.ph_linear.proofs.ClosedRuns.{over-before, over-moved}
use Rattle.ph_linear.proofs.FieldWords.{over-fields}
use Rattle.ph_linear.proofs.Overs.{over-same, digits-row}

-- fields behind a place, and zeros behind them
abbrev AreBehind : List ℕ → ℕ → ℕ → List Field → List ℕ → Type 0
AreBehind old at pad fs new = IsOver old at (digits_of fs + pad) (number_of fs * 2 ^ pad) new

-- fields in front of them
fields-before : (old mid new : List ℕ) (at next w v pad : ℕ) (xs fs : List Field) → digits_of xs ≡ w →
    number_of xs ≡ v → next ≡ at + w → length mid ≡ length old → length new ≡ length old →
    next + (digits_of fs + pad) ≤ 64 * length old
    → AreBehind old next pad fs mid → IsOver mid at w v new → AreBehind old at pad (xs ++ fs) new
fields-before old mid new at next w v pad xs fs d n e l m inside p q =
    let k : ℕ = digits_of fs + pad in
    let digits : w + (digits_of fs + pad) ≡ digits_of (xs ++ fs) + pad = omega (arith, d, digits_of-append xs fs) in
    let number : v * 2 ^ k + number_of fs * 2 ^ pad ≡ number_of (xs ++ fs) * 2 ^ pad =
    apart v (2 ^ digits_of fs) (2 ^ pad) (2 ^ k) (number_of fs) (pow-add 2 (digits_of fs) pad)
    ∙ ap (λ t. t * 2 ^ pad) (sym (number_after-append 0 xs fs ∙ number_after-start (number_of xs) fs ∙ ap (λ t. t * 2 ^ digits_of fs + number_of fs) n)) in
    let o : IsOver old at (w + k) (v * 2 ^ k + number_of fs * 2 ^ pad) new =
    over-before old mid new at w k v (number_of fs * 2 ^ pad) l m (omega (arith, e, inside)) (subst (λ t. IsOver old t k (number_of fs * 2 ^ pad) mid) e p) q in
    subst (λ t. IsOver old at t (number_of (xs ++ fs) * 2 ^ pad) new) digits (subst (λ t. IsOver old at (w + k) t new) number o)
  where
    apart : (v F P K n : ℕ) → K ≡ F * P → v * K + n * P ≡ (v * F + n) * P
    apart v F P K n f = let g : v * K ≡ v * (F * P) = ap (λ t. v * t) f in omega (arith, g)

field-before : (old mid new : List ℕ) (at next w v pad : ℕ) (fs : List Field) → next ≡ at + w →
    length mid ≡ length old → length new ≡ length old → next + (digits_of fs + pad) ≤ 64 * length old
    → AreBehind old next pad fs mid → IsOver mid at w v new → AreBehind old at pad (field w v ∷ fs) new
field-before old mid new at next w v pad fs =
    fields-before old mid new at next w v pad (field w v ∷ []) fs (right w) (alone (2 ^ w) v)
  where
    right : (w : ℕ) → w + 0 ≡ w
    right w = omega arith

    alone : (n v : ℕ) → 0 * n + v ≡ v
    alone n v = omega arith

-- a run in front of them
run-before : (old mid new : List ℕ) (from until at next pad : ℕ) (fs : List Field) → from ≤ until → until ≤ next →
    next ≡ at + (until - from) → length mid ≡ length old → length new ≡ length old → next + (digits_of fs + pad) ≤ 64 * length old
    → AreBehind old next pad fs mid → IsMoved mid from at (until - from) new → AreBehind old at pad (run old from until ∷ fs) new
run-before old mid new from until at next pad fs l k e m n inside p q =
    field-before old mid new at next (until - from) (digits_at old from (until - from)) pad fs e m n inside p
    (over-moved mid new from at (until - from) (digits_at old from (until - from)) q (sym (p.front from (until - from) (omega (arith, l, k)))))

module _ (old : List ℕ) (cs : Columns) (level dims : ℕ) (e : Edit) (cols : AreColumns old cs)
    (within : e.place ≤ cs.kinds.count) (wide : cs.bodies.width ≡ dims * level)
    (long : length (take dims e.entry.body) ≡ dims) where
  row-digits : digits_of (body_fields level (take dims e.entry.body)) ≡ cs.bodies.width
  row-digits = digits-row level (take dims e.entry.body) ∙ ap (λ t. t * level) long ∙ sym wide

  row-more : digits_of (body_fields level (take dims e.entry.body) ++ run old (start cs.bodies e.place)
      (start cs.bodies cs.bodies.count) ∷ []) ≡ cs.bodies.width + (start cs.bodies cs.bodies.count - start cs.bodies e.place)
  row-more = digits_of-append (body_fields level (take dims e.entry.body))
      (run old (start cs.bodies e.place) (start cs.bodies cs.bodies.count) ∷ []) ∙
      ap (λ t. t + digits_of (run old (start cs.bodies e.place) (start cs.bodies cs.bodies.count) ∷ [])) row-digits ∙ omega arith

  pub with-digits : digits_of (runs_with old cs level dims e) ≡ digits_more cs
  with-digits =
      let o = ordered old cs e.place cols within in
      sum (start cs.kinds e.place) (start cs.addresses e.place) (start cs.bodies e.place)
      (start cs.bodies cs.bodies.count) cs.addresses.width cs.bodies.width _ o.kinds o.addresses o.bodies o.until row-more
    where
      sum : (k a b c w v x : ℕ) → 64 ≤ k → k ≤ a → a ≤ b → b ≤ c → x ≡ v + (c - b) → k - 64 + (1 + (a - k + (w + (b - a + x)))) ≡ c - 64 + 1 + w + v
      sum k a b c w v x l m n o e = omega (arith, l, m, n, o, e)

module _ (old w0 w1 w2 w3 w4 w5 new : List ℕ) (cs : Columns) (level dims : ℕ) (e : Edit) (cols : AreColumns old cs)
    (within : e.place ≤ cs.kinds.count) (small : Each (λ x. x < 2 ^ 64) old) (fits : Each (λ x. x < 2 ^ 64) new)
    (e0 : length w0 ≡ length old) (e1 : length w1 ≡ length old) (e2 : length w2 ≡ length old)
    (e3 : length w3 ≡ length old) (e4 : length w4 ≡ length old) (e5 : length w5 ≡ length old)
    (e6 : length new ≡ length old) (wide : cs.bodies.width ≡ dims * level)
    (long : length (take dims e.entry.body) ≡ dims) (room : 1 + words_for (digits_more cs) ≤ length old) where
  abbrev k0 : ℕ
  k0 = start cs.kinds e.place

  abbrev a0 : ℕ
  a0 = start cs.addresses e.place

  abbrev b0 : ℕ
  b0 = start cs.bodies e.place

  abbrev b2 : ℕ
  b2 = start cs.bodies cs.bodies.count

  abbrev row : List Field
  row = body_fields level (take dims e.entry.body)

  -- the fields from the last to the first
  abbrev f1 : List Field
  f1 = run old (start cs.bodies e.place) (start cs.bodies cs.bodies.count) ∷ []

  abbrev f2 : List Field
  f2 = body_fields level (take dims e.entry.body) ++ run old (start cs.bodies e.place) (start cs.bodies cs.bodies.count) ∷ []

  abbrev f3 : List Field
  f3 = run old (start cs.addresses e.place) (start cs.bodies e.place) ∷ body_fields level (take dims e.entry.body) ++
      run old (start cs.bodies e.place) (start cs.bodies cs.bodies.count) ∷ []

  abbrev f4 : List Field
  f4 = field cs.addresses.width e.entry.addr ∷ run old (start cs.addresses e.place) (start cs.bodies e.place) ∷
      body_fields level (take dims e.entry.body) ++ run old (start cs.bodies e.place) (start cs.bodies cs.bodies.count) ∷ []

  abbrev f5 : List Field
  f5 = run old (start cs.kinds e.place) (start cs.addresses e.place) ∷ field cs.addresses.width e.entry.addr ∷
      run old (start cs.addresses e.place) (start cs.bodies e.place) ∷ body_fields level (take dims e.entry.body) ++
      run old (start cs.bodies e.place) (start cs.bodies cs.bodies.count) ∷ []

  -- the places at which the parts begin then, from the last to the first
  pub open-columns : (t tb ta t3 t2 t1 tk : ℕ) → t ≡ start cs.bodies cs.bodies.count + 1 + cs.addresses.width + cs.bodies.width
      → t3 ≡ t - (start cs.bodies cs.bodies.count - start cs.bodies e.place) → tb ≡ t3 - cs.bodies.width →
      t2 ≡ tb - (start cs.bodies e.place - start cs.addresses e.place)
      → ta ≡ t2 - cs.addresses.width → t1 ≡ ta - (start cs.addresses e.place - start cs.kinds e.place) → tk ≡ t1 - 1
      → IsOver old t (64 * ((t + 63) / 64) - t) 0 w0
      → IsMoved w0 (start cs.bodies e.place) t3 (start cs.bodies cs.bodies.count - start cs.bodies e.place) w1
      → IsOver w1 tb (dims * level) (number_of (body_fields level (take dims e.entry.body))) w2
      → IsMoved w2 (start cs.addresses e.place) t2 (start cs.bodies e.place - start cs.addresses e.place) w3
      → IsOver w3 ta cs.addresses.width e.entry.addr w4
      → IsMoved w4 (start cs.kinds e.place) t1 (start cs.addresses e.place - start cs.kinds e.place) w5
      → IsOver w5 tk 1 0 new
      → new ≡ with_fields (runs_with old cs level dims e) old
  open-columns t tb ta t3 t2 t1 tk s0 s1 s2 s3 s4 s5 s6 q0 q1 q2 q3 q4 q5 q6 =
      let o = ordered old cs e.place cols within in
      let d : ℕ = digits_more cs in
      let more = row-more old cs level dims e cols within wide long in
      let digits = with-digits old cs level dims e cols within wide long in
      let pad : ℕ = 64 * words_for d - d in
      let z : t ≡ 64 + digits_more cs = total (start cs.bodies cs.bodies.count) cs.addresses.width cs.bodies.width t
      s0 (omega (arith, o.kinds, o.addresses, o.bodies, o.until)) in
      let y : 64 * ((t + 63) / 64) - t ≡ 64 * words_for (digits_more cs) - digits_more cs = round t (digits_more cs) z in
      let n3 : t ≡ t3 + (start cs.bodies cs.bodies.count - start cs.bodies e.place) = omega (arith, s0, s1, o.until) in
      let n3b : t3 ≡ start cs.bodies e.place + 1 + cs.addresses.width + cs.bodies.width = omega (arith, s0, s1, o.until) in
      let nb : t3 ≡ tb + cs.bodies.width = omega (arith, n3b, s2) in
      let nbb : tb ≡ start cs.bodies e.place + 1 + cs.addresses.width = omega (arith, n3b, s2) in
      let n2 : tb ≡ t2 + (start cs.bodies e.place - start cs.addresses e.place) = omega (arith, nbb, s3, o.bodies) in
      let n2b : t2 ≡ start cs.addresses e.place + 1 + cs.addresses.width = omega (arith, nbb, s3, o.bodies) in
      let na : t2 ≡ ta + cs.addresses.width = omega (arith, n2b, s4) in
      let nab : ta ≡ start cs.addresses e.place + 1 = omega (arith, n2b, s4) in
      let n1 : ta ≡ t1 + (start cs.addresses e.place - start cs.kinds e.place) = omega (arith, nab, s5, o.addresses) in
      let n1b : t1 ≡ start cs.kinds e.place + 1 = omega (arith, nab, s5, o.addresses) in
      let nk : t1 ≡ tk + 1 = omega (arith, n1b, s6) in
      let nkb : tk ≡ start cs.kinds e.place = omega (arith, n1b, s6) in
      let whole : t + pad ≤ 64 * length old = fill t (digits_more cs) (length old) z room in
      let i0 : t + (0 + pad) ≤ 64 * length old = omega (arith, whole) in
      let i1 : t3 + (digits_of f1 + pad) ≤ 64 * length old = omega (arith, whole, n3) in
      let i2 : tb + (digits_of f2 + pad) ≤ 64 * length old = omega (arith, whole, n3, nb, more) in
      let i3 : t2 + (digits_of f3 + pad) ≤ 64 * length old = omega (arith, i2, n2) in
      let i4 : ta + (digits_of f4 + pad) ≤ 64 * length old = omega (arith, i3, na) in
      let i5 : t1 + (digits_of f5 + pad) ≤ 64 * length old = omega (arith, i4, n1) in
      let p0 : AreBehind old t pad [] w0 = nothing old w0 t pad _ y q0 in
      let p1 : AreBehind old t3 pad f1 w1 = run-before old w0 w1 b0 b2 t3 t pad [] o.until (omega (arith, s0)) n3 e0 e1 i0 p0 q1 in
      let p2 : AreBehind old tb pad f2 w2 =
      fields-before old w1 w2 tb t3 (dims * level) (number_of row) pad row f1
      (row-digits old cs level dims e cols within wide long ∙ wide) refl (nb ∙ ap (λ k. tb + k) wide) e1 e2 i1 p1 q2 in
      let p3 : AreBehind old t2 pad f3 w3 = run-before old w2 w3 a0 b0 t2 tb pad f2 o.bodies (omega (arith, nbb)) n2 e2 e3 i2 p2 q3 in
      let p4 : AreBehind old ta pad f4 w4 = field-before old w3 w4 ta t2 cs.addresses.width e.entry.addr pad f3 na e3 e4 i3 p3 q4 in
      let p5 : AreBehind old t1 pad f5 w5 = run-before old w4 w5 k0 a0 t1 ta pad f4 o.addresses (omega (arith, nab)) n1 e4 e5 i4 p4 q5 in
      let p6 : AreBehind old tk pad (field 1 0 ∷ f5) new = field-before old w5 new tk t1 1 0 pad f5 nk e5 e6 i5 p5 q6 in
      let first : tk ≡ 64 + (start cs.kinds e.place - 64) = omega (arith, nkb, o.kinds) in
      let i6 : tk + (digits_of (field 1 0 ∷ f5) + pad) ≤ 64 * length old = omega (arith, i5, nk) in
      let p7 : AreBehind old 64 pad (runs_with old cs level dims e) new =
      field-before old new new 64 tk (k0 - 64) (digits_at old 64 (k0 - 64)) pad (field 1 0 ∷ f5) first e6 e6 i6 p6
      (over-same new 64 (k0 - 64) (digits_at old 64 (k0 - 64)) (p6.front 64 (k0 - 64) (omega (arith, first)))) in
      let put : IsOver old 64 (64 * words_for d) (number_of (runs_with old cs level dims e) * 2 ^ (64 * words_for d - d)) new =
      subst (λ k. IsOver old 64 k (number_of (runs_with old cs level dims e) * 2 ^ pad) new) (ap (λ k. k + pad) digits ∙ enough d) p7 in
      over-fields old new (runs_with old cs level dims e) small fits (subst (λ k. 1 + words_for k ≤ length old) (sym digits) room) e6
      (subst (λ k. IsOver old 64 (64 * words_for k) (number_of (runs_with old cs level dims e) * 2 ^ (64 * words_for k - k)) new) (sym digits) put)
    where
      total : (b w v t : ℕ) → t ≡ b + 1 + w + v → 64 ≤ b → t ≡ 64 + (b - 64 + 1 + w + v)
      total b w v t e l = omega (arith, e, l)

      round : (t d : ℕ) → t ≡ 64 + d → 64 * ((t + 63) / 64) - t ≡ 64 * ((d + 63) / 64) - d
      round t d e = omega (arith, e)

      fill : (t d n : ℕ) → t ≡ 64 + d → 1 + (d + 63) / 64 ≤ n → t + (64 * ((d + 63) / 64) - d) ≤ 64 * n
      fill t d n e l = omega (arith, e, l)

      enough : (d : ℕ) → d + (64 * ((d + 63) / 64) - d) ≡ 64 * ((d + 63) / 64)
      enough d = omega arith

      nothing : (old w0 : List ℕ) (t pad x : ℕ) → x ≡ pad → IsOver old t x 0 w0 → AreBehind old t pad [] w0
      nothing old w0 t pad x e o =
          let a : x ≡ 0 + pad = omega (arith, e) in
          let z : 0 ≡ 0 * 2 ^ pad = omega arith in
          subst (λ k. IsOver old t (0 + pad) k w0) z (subst (λ k. IsOver old t k 0 w0) a o)
