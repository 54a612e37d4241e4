-- The room that a node takes by the number of its entries.
use Rattle.std.proofs.Common.{◌≡◌, ℕ, zero, suc, ◌+◌, ◌*◌, ◌^◌, ◌<◌, ◌≤◌, refl, ◌∙◌, ap, arith, length, inl, inr, false, ltb-true, ltb-false, le-ltb}
use Rattle.std.specs.Prelude.{nat_lt, if◌then◌else◌}
use Rattle.std.proofs.Math.Nat.{mul-le-mul_left, pow-suc}
use Rattle.std.proofs.lemmas.List.{length-append}
use Rattle.ph_specs.specs.Node.{Entries, end, point, child, flat}
use Rattle.ph_specs.specs.Digits.{words_for, words_of}
use Rattle.ph_specs.specs.TreeRows.{count}
use Rattle.ph_model.specs.Layout.{AreRising}
use Rattle.ph_specs.specs.Pack.{is_cube, cube_digits, linear_digits, table, values}
use Rattle.ph_specs.proofs.laws.Put.{either}
use Rattle.ph_specs.proofs.lemmas.Numbers.{length-words_of}
use Rattle.ph_model.proofs.lemmas.LayoutTables.{children-few, table-digits}
use Rattle.ph_tree.specs.Rooms.{room_of_entries}

-- ---- the digits of tables

-- the digits of an entry in a list of addresses
abbrev pub entry_digits : ℕ → ℕ → ℕ
entry_digits dims level = 1 + dims + dims * level

-- the digits of n entries in the smaller layout
abbrev pub least_digits : ℕ → ℕ → ℕ → ℕ
least_digits dims level n = if is_cube dims level n then cube_digits dims level else linear_digits dims level n

lesser-high : (c m : ℕ) → (if nat_lt c m then c else m) ≤ m
lesser-high c m =
    elim (either (nat_lt c m)) [
      | inl s ↦ let l : c < m = ltb-true c m s in rw s (omega (arith, l))
      | inr s ↦ rw s (omega arith)
    ]

lesser-more : (c m n s : ℕ) → m ≤ n + s → (if nat_lt c m then c else m) ≤ (if nat_lt c n then c else n) + s
lesser-more c m n s h =
    elim (either (nat_lt c n)) [
      | inl a ↦ elim (either (nat_lt c m)) [
        | inl b ↦ rw (a, b) (omega arith)
        | inr b ↦ let l : m ≤ c = ltb-false c m b in rw (a, b) (omega (arith, l))
      ]
      | inr a ↦ rw a (omega (arith, h, lesser-high c m))
    ]

pow-above : (n : ℕ) → suc n ≤ 2 ^ n
pow-above zero = omega arith
pow-above (suc n) = omega (arith, pow-above n, pow-suc 2 n)

-- a full table takes no less than an entry
cube-entry : (dims level : ℕ) → entry_digits dims level ≤ cube_digits dims level
cube-entry dims level =
    let l : (2 + dims * level) * suc dims ≤ (2 + dims * level) * 2 ^ dims = mul-le-mul_left (2 + dims * level) (pow-above dims) in
    omega (arith, l)

pub least-few : (dims level n : ℕ) → least_digits dims level n ≤ linear_digits dims level n
least-few dims level n = lesser-high (cube_digits dims level) (linear_digits dims level n)

pub least-more : (dims level m n : ℕ) → m ≤ n + 1 → least_digits dims level m ≤ least_digits dims level n + entry_digits dims level
least-more dims level m n h =
    let l : entry_digits dims level * m ≤ entry_digits dims level * (n + 1) = mul-le-mul_left (entry_digits dims level) h in
    lesser-more (cube_digits dims level) (linear_digits dims level m) (linear_digits dims level n) (entry_digits dims level) (omega (arith, l))

-- ---- the words of nodes

pub words-rise : (m n : ℕ) → m ≤ n → words_for m ≤ words_for n
words-rise m n h = omega (arith, h)

pub words-sum : (m n k : ℕ) → m ≤ n + k → words_for m ≤ words_for n + words_for k
words-sum m n k h = omega (arith, h)

pub entry-words : (dims low high : ℕ) → low ≤ high → words_for (entry_digits dims low) ≤ words_for (entry_digits dims high)
entry-words dims low high h =
    let l : dims * low ≤ dims * high = mul-le-mul_left dims h in
    words-rise (entry_digits dims low) (entry_digits dims high) (omega (arith, l))

pub length-flat : (e : Entries) → length (flat e) ≡ count e
length-flat end = refl
length-flat (point a body v rest) = ap suc (length-flat rest)
length-flat (child a body level chain rest) = ap suc (length-flat rest)

-- a word, then the table in the smaller layout, then a word for each entry, be it a point or a child
pub room-are : (dims level least : ℕ) (e : Entries) → AreRising dims level least (flat e) →
    room_of_entries dims level e ≡ 1 + words_for (least_digits dims level (count e)) + count e
room-are dims level least e h =
    let cube = is_cube dims level (length (flat e)) in
    let t : length (words_of (table cube dims level (flat e))) ≡
    words_for (least_digits dims level (length (flat e))) = length-words_of (table cube dims level (flat e)) ∙
    ap words_for (table-digits cube dims level least (flat e) h) in
    let n : words_for (least_digits dims level (length (flat e))) ≡ words_for (least_digits dims level (count e)) =
    ap (λ n. words_for (least_digits dims level n)) (length-flat e) in
    omega (arith, length-append (words_of (table cube dims level (flat e))) (values (flat e)), t, n, children-few (flat e), length-flat e)

-- two entries never take less in the cube
pub pair-linear : (dims level : ℕ) → is_cube dims level 2 ≡ false
pair-linear zero level = le-ltb (cube_digits 0 level) (linear_digits 0 level 2) (omega arith)
pair-linear (suc d) level =
    let fields : ℕ = suc d * level in
    let l : (2 + fields) * suc (suc d) ≤ (2 + fields) * 2 ^ suc d = mul-le-mul_left (2 + fields) (pow-above (suc d)) in
    let two : fields * 2 ≤ fields * suc (suc d) = mul-le-mul_left fields (omega arith) in
    le-ltb (cube_digits (suc d) level) (linear_digits (suc d) level 2) (omega (arith, l, two))

pub one-linear : (dims level : ℕ) → is_cube dims level 1 ≡ false
one-linear dims level = le-ltb (cube_digits dims level) (linear_digits dims level 1) (omega (arith, cube-entry dims level))
