use Rattle.std.proofs.Common.{◌≡◌, ◌+◌, ◌-◌, ◌*◌, ◌%◌, ◌^◌, ◌<◌, ◌≤◌, ℕ, sym, ◌∙◌, ap, subst, arith, List, length, slice_index_or, Bool, true, false}
use Rattle.std.specs.Prelude.{◌==◌, if◌then◌else◌}
use Rattle.std.proofs.lemmas.Nat.{pow-add}
use Rattle.ph_bits.specs.Fields.{ones_in}
use Rattle.ph_model.proofs.laws.WordDigits.{each-fits}
use Rattle.ph_linear.proofs.Halving.{shifted}
use Rattle.ph_cube.specs.Cube.{kinds}
use Rattle.ph_cube.proofs.Ranks.{none-in, ones-add, room, kind-one, present-ones, present-entries}
use Rattle.ph_specs.specs.Record.{first_in}
use Rattle.ph_cube.proofs.parts.address_of.Goals as goal

twice : (k : ℕ) → 0 < k → 2 ^ k ≡ 2 ^ (k - 1) + 2 ^ (k - 1)
twice k l = let e : k ≡ 1 + (k - 1) = omega (arith, l) in ap (λ t. 2 ^ t) e ∙ pow-add 2 1 (k - 1) ∙ omega arith

-- on to the second half
on : (ws : List ℕ) (addr left i h s o : ℕ) → s ≡ h → o ≡ ones_in ws (64 + addr * 2) (s * 2) → o ≤ left → 64 + (addr + h + h) * 2 ≤ 64 * length ws
    → ones_in ws 64 (addr * 2) + left ≡ i → left < ones_in ws (64 + addr * 2) ((h + h) * 2)
    → (ones_in ws 64 ((addr + s) * 2) + (left - o) ≡ i) × (left - o < ones_in ws (64 + (addr + s) * 2) (h * 2))
on ws addr left i h s o e f l r b m =
    let f1 : o ≡ ones_in ws (64 + addr * 2) (h * 2) = f ∙ ap (λ t. ones_in ws (64 + addr * 2) (t * 2)) e in
    let a1 : (addr + h) * 2 ≡ addr * 2 + h * 2 = omega arith in
    let a2 : (h + h) * 2 ≡ h * 2 + h * 2 = omega arith in
    let a3 : 64 + (addr + h) * 2 ≡ 64 + addr * 2 + h * 2 = omega arith in
    let s1 : ones_in ws 64 ((addr + h) * 2) ≡ ones_in ws 64 (addr * 2) + ones_in ws (64 + addr * 2) (h * 2) =
    ap (ones_in ws 64) a1 ∙ ones-add ws 64 (addr * 2) (h * 2) (omega (arith, r)) in
    let s2 : ones_in ws (64 + addr * 2) ((h + h) * 2) ≡ ones_in ws (64 + addr * 2) (h * 2) + ones_in ws
    (64 + (addr + h) * 2) (h * 2) = ap (ones_in ws (64 + addr * 2)) a2 ∙ ones-add ws (64 + addr * 2) (h * 2)
    (h * 2) (omega (arith, r)) ∙ ap (λ t. ones_in ws (64 + addr * 2) (h * 2) + ones_in ws t (h * 2)) (sym a3) in
    subst (λ t. (ones_in ws 64 ((addr + t) * 2) + (left - o) ≡ i) × (left - o < ones_in ws (64 + (addr + t) * 2) (h * 2))) (sym e)
    (omega (arith, s1, f1, l, b), omega (arith, s2, f1, l, m))

pub loop-k-init : goal.loop-k-init
loop-k-init c =
    let words = c.args.words.now in
    let d : ℕ = c.args.dims in
    let e : ones_in words 64 (2 ^ d * 2) ≡ (first_in words).entries = present-ones d words (2 ^ d) c.requires.record
    (each-fits words c.type_inv.words) (omega arith) ∙ present-entries d words c.requires.record in
    record { few = omega arith; within = omega arith; before = omega (arith, none-in words 64); here = omega (arith, e, c.requires.within) }

pub loop-k-preserved-then-left-ones : goal.loop-k-preserved-then-left-ones
loop-k-preserved-then-left-ones c =
    let v = c.loop-k.invariant in
    let ws = c.args.words.now in
    let k : ℕ = c.loop-k.k in
    let h : ℕ = 2 ^ (k - 1) in
    let s : ℕ = 1 * 2 ^ (k - 1) % 2 ^ 64 in
    let l : 0 < k = c.loop-k-test.true in
    let e : 1 * 2 ^ (k - 1) % 2 ^ 64 ≡ 2 ^ (k - 1) = shifted (k - 1) (omega (arith, v.few, c.requires.record.few)) in
    let t : 2 ^ k ≡ 2 ^ (k - 1) + 2 ^ (k - 1) = twice k l in
    let m : c.loop-k.left < ones_in ws (64 + c.loop-k.addr * 2) ((h + h) * 2) = subst (λ u. c.loop-k.left < ones_in ws (64 + c.loop-k.addr * 2) (u * 2)) t v.here in
    let q = on ws c.loop-k.addr c.loop-k.left c.args.i h s c.ones_before-ones.result e c.ones_before-ones.ensures
    c.if-left-ones.true (omega (arith, room c.args.dims ws c.requires.record, v.within, t)) v.before m in
    record { few = omega (arith, v.few); within = omega (arith, v.within, t, e); before = q.0; here = q.1 }

last : (left o : ℕ) (t : Bool) → left < o → o ≡ (if t then 0 else 1) → left ≡ 0
last left o true l e = absurd (omega (arith, l, e))
last left o false l e = omega (arith, l, e)

pub returns : goal.returns
returns c =
    let v = c.loop-k.invariant in
    let ws = c.args.words.now in
    let a : ℕ = c.loop-k.addr in
    let z : c.loop-k.k ≡ 0 = omega (arith, c.loop-k-test.false) in
    let p : 2 ^ c.loop-k.k ≡ 1 = ap (λ t. 2 ^ t) z in
    let h : c.loop-k.left < ones_in ws (64 + a * 2) 2 = subst (λ t. c.loop-k.left < ones_in ws (64 + a * 2) (t * 2)) p v.here in
    let l : a < 2 ^ c.args.dims = omega (arith, v.within, p) in
    let n : c.loop-k.left ≡ 0 = last c.loop-k.left (ones_in ws (64 + a * 2) 2)
    (slice_index_or (kinds c.args.dims ws) a 0 == 0) h
    (kind-one c.args.dims ws a c.requires.record (each-fits ws c.type_inv.words) l) in
    record {
      limit = l;
      place = omega (arith, v.before, n);
      some = omega (arith, h);
    }
