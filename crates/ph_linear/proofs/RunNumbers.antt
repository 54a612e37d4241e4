-- The number of runs of digits, one behind the other, and how many digits they have.
use Rattle.std.proofs.Common.{◌≡◌, ℕ, ◌+◌, ◌-◌, ◌*◌, ◌^◌, ◌≤◌, refl, sym, ◌∙◌, ap, arith, List, [], ◌∷◌, ◌++◌, length}
use Rattle.std.proofs.Math.Nat.{mul-le-mul_left}
use Rattle.std.proofs.lemmas.Nat.{pow-add}
use Rattle.ph_specs.specs.Digits.{Field, field, number_after}
use Rattle.ph_model.specs.Digits.{digits_at}
use Rattle.ph_model.proofs.laws.WordDigits.{digits-parts}
use Rattle.ph_bits.specs.declared.edits.Edit.{Edit}
use Rattle.ph_linear.specs.Edited.{stretch, column_edited}
use Rattle.ph_specs.specs.Record.{first_in}
use Rattle.ph_linear.specs.Runs.{start, run, AreColumnsOf}
use Rattle.ph_linear.specs.declared.copies.Column.{Column}
use Rattle.ph_linear.specs.declared.tables.Columns.{Columns}

-- entries that lie in front of others begin no later
pub starts : (c : Column) (i j : ℕ) → i ≤ j → start c i ≤ start c j
starts c i j l =
    let m : c.width * i ≤ c.width * j = mul-le-mul_left c.width l in
    omega (arith, m)

pub start-first : (c : Column) → start c 0 ≡ c.at
start-first c = omega arith

-- where the columns of a record begin
module _ (dims : ℕ) (words : List ℕ) (cs : Columns) (o : AreColumnsOf dims words cs) where
  abbrev n : ℕ
  n = (first_in words).entries

  pub addresses-at : cs.addresses.at ≡ 64 + (first_in words).entries
  addresses-at =
      o.columns.addresses ∙ ap (λ t. cs.kinds.at + cs.kinds.count * t) o.columns.one ∙ ap (λ t. cs.kinds.at + t * 1) o.many ∙
      ap (λ t. t + n * 1) o.columns.begin ∙ omega arith

  pub bodies-at : cs.bodies.at ≡ 64 + (first_in words).entries + (first_in words).entries * dims
  bodies-at =
      o.columns.bodies ∙ ap (λ t. t + cs.kinds.count * cs.addresses.width) addresses-at ∙
      ap (λ t. 64 + n + cs.kinds.count * t) o.addresses_wide ∙ ap (λ t. 64 + n + t * dims) o.many

run-equal : (ws : List ℕ) (at at2 w w2 : ℕ) → at ≡ at2 → w ≡ w2 → field w (digits_at ws at w) ≡ field w2 (digits_at ws at2 w2)
run-equal ws at at2 w w2 e f = ap (λ t. field w (digits_at ws t w)) e ∙ ap (λ t. field t (digits_at ws at2 t)) f

-- the digits of some entries of a column as a run
stretch-run : (ws : List ℕ) (c : Column) (i j : ℕ) → i ≤ j → stretch ws c i j ≡ run ws (start c i) (start c j)
stretch-run ws c i j l = run-equal ws (c.at + i * c.width) (start c i) ((j - i) * c.width) (start c j - start c i) refl (wide c.at i j c.width l)
  where
    wide : (at i j w : ℕ) → i ≤ j → (j - i) * w ≡ at + j * w - (at + i * w)
    wide at i j w l =
        let e : i + (j - i) ≡ j = omega (arith, l) in
        let m : (i + (j - i)) * w ≡ j * w = ap (λ t. t * w) e in
        omega (arith, m)

-- two runs that meet are one
pub runs-meet : (ws : List ℕ) (s a b c : ℕ) (fs : List Field) → a ≤ b → b ≤ c → c ≤ 64 * length ws →
    number_after s (run ws a b ∷ run ws b c ∷ fs) ≡ number_after s (run ws a c ∷ fs)
runs-meet ws s a b c fs l m n =
    let x : ℕ = b - a in
    let y : ℕ = c - b in
    let e : a + (b - a) ≡ b = omega (arith, l) in
    let w : b - a + (c - b) ≡ c - a = omega (arith, l, m) in
    let i : a + (b - a) + (c - b) ≤ 64 * length ws = omega (arith, l, m, n) in
    let parts : digits_at ws a (x + y) ≡ digits_at ws a x * 2 ^ y + digits_at ws b y =
    digits-parts ws a x y i ∙ ap (λ t. digits_at ws a x * 2 ^ y + digits_at ws t y) e in
    ap (λ t. number_after t fs)
    (apart s (2 ^ x) (2 ^ y) (2 ^ (x + y)) (digits_at ws a x) (digits_at ws b y) (pow-add 2 x y)
    ∙ ap (λ t. s * 2 ^ (x + y) + t) (sym parts)
    ∙ ap (λ t. s * 2 ^ t + digits_at ws a t) w)
  where
    apart : (s P Q R x y : ℕ) → R ≡ P * Q → (s * P + x) * Q + y ≡ s * R + (x * Q + y)
    apart s P Q R x y f = let g : s * R ≡ s * (P * Q) = ap (λ t. s * t) f in omega (arith, g)

-- an edited column as runs
pub column-runs : (ws : List ℕ) (c : Column) (e : Edit) (new : List Field) → e.place + e.less ≤ c.count →
    column_edited ws c e new ≡ run ws (start c 0) (start c e.place) ∷
    (new ++ run ws (start c (e.place + e.less)) (start c c.count) ∷ [])
column-runs ws c e new l =
    ap {B = List Field} (λ t. t ∷ (new ++ stretch ws c (e.place + e.less) c.count ∷ [])) (stretch-run ws c 0 e.place (omega arith))
    ∙ ap {B = List Field} (λ t. run ws (start c 0) (start c e.place) ∷ (new ++ t ∷ [])) (stretch-run ws c (e.place + e.less) c.count l)
