use Rattle.std.proofs.Common.{◌≡◌, ◌+◌, ◌*◌, ◌%◌, ◌^◌, ◌<◌, ◌≤◌, ℕ, arith, length, lt-ltb, le-ltb, true, refl}
use Rattle.std.specs.Prelude.{nat_le}
use Rattle.std.specs.List.{position_or_len}
use Rattle.ph_model.specs.Layout.{read_address, entries_as}
use Rattle.ph_model.proofs.laws.WordDigits.{each-fits}
use Rattle.ph_linear.proofs.Halving.{shifted}
use Rattle.ph_cube.specs.Cube.{kinds, bodies}
use Rattle.ph_cube.proofs.Columns.{length-kinds}
use Rattle.ph_cube.proofs.Places.{past}
use Rattle.ph_cube.proofs.Ranks.{length-entries}
use Rattle.ph_cube.proofs.Stood.{place}
use Rattle.ph_cube.proofs.searches.next_at_or_after.Goals as goal

inside : (d a : ℕ) → d ≤ 16 → a < 1 * 2 ^ d % 2 ^ 64 → a < 2 ^ d
inside d a l h = omega (arith, h, shifted d (omega (arith, l)))

pub returns-then-addr-dims : goal.returns-then-addr-dims
returns-then-addr-dims c =
    let words = c.args.words.now in
    let d : ℕ = c.args.dims in
    let a : ℕ = c.args.addr in
    let rs = entries_as true d words in
    let l : 0 + length (kinds d words) ≤ a = omega (arith, length-kinds d words, c.if-addr-dims.true, shifted d (omega (arith, c.requires.record.few))) in
    let p : position_or_len (λ r. nat_le a (read_address r)) (entries_as true d words) ≡ length (entries_as true d words) = past a 0 (kinds d words) (bodies d words) l in
    rw (p, le-ltb (length (entries_as true d words)) (length (entries_as true d words)) (omega arith)) refl

pub returns-then-i-count_in : goal.returns-then-i-count_in
returns-then-i-count_in c =
    let words = c.args.words.now in
    let d : ℕ = c.args.dims in
    let rs = entries_as true d words in
    let i : ℕ = c.ones_before-i.result in
    let p : position_or_len (λ r. nat_le c.args.addr (read_address r)) (entries_as true d words) ≡ i =
    place d words c.args.addr i c.requires.record (each-fits words c.type_inv.words)
    (inside c.args.dims c.args.addr c.requires.record.few c.if-addr-dims.false) c.ones_before-i.ensures in
    let m : i < length (entries_as true d words) = omega (arith, length-entries d words c.requires.record, c.count_in.ensures, c.if-i-count_in.true) in
    rw (p, lt-ltb i (length (entries_as true d words)) m) refl

pub returns-else-i-count_in : goal.returns-else-i-count_in
returns-else-i-count_in c =
    let words = c.args.words.now in
    let d : ℕ = c.args.dims in
    let i : ℕ = c.ones_before-i.result in
    let p : position_or_len (λ r. nat_le c.args.addr (read_address r)) (entries_as true d words) ≡ i =
    place d words c.args.addr i c.requires.record (each-fits words c.type_inv.words)
    (inside c.args.dims c.args.addr c.requires.record.few c.if-addr-dims.false) c.ones_before-i.ensures in
    let m : length (entries_as true d words) ≤ i = omega (arith, length-entries d words c.requires.record, c.count_in.ensures, c.if-i-count_in.false) in
    rw (p, le-ltb i (length (entries_as true d words)) m) refl
