use Rattle.std.proofs.Common.{◌≡◌, ◌+◌, ◌*◌, ◌<◌, ◌≤◌, ◌^◌, ℕ, List, sym, ◌∙◌, ap, subst, arith, slice_index_or, false}
use Rattle.std.specs.List.{AllByRecursion as Each}
use Rattle.std.proofs.Math.Nat.{pow-le-pow_right}
use Rattle.ph_model.specs.Digits.{digits_at}
use Rattle.ph_model.specs.Layout.{IsRecord}
use Rattle.ph_specs.specs.Record.{first_in}
use Rattle.ph_model.proofs.laws.WordDigits.{each-fits, digits-below}
use Rattle.ph_linear.specs.Linear.{addresses}
use Rattle.ph_linear.proofs.Columns.{address-digits, two_words}
use Rattle.ph_linear.proofs.parts.address_at.Goals as goal

-- the digits of an address are that address
read : (dims : ℕ) (words : List ℕ) (n i : ℕ) → IsRecord false dims words → Each (λ x. x < 2 ^ 64) words → n ≡ (first_in words).entries → i < n
    → digits_at words (64 + n + i * dims) dims ≡ slice_index_or (addresses dims words) i 0
read dims words n i r h e l =
    ap (λ t. digits_at words (64 + t + i * dims) dims) e ∙ sym (address-digits dims words i r h (subst (λ t. i < t) e l))

limit : (dims : ℕ) (words : List ℕ) (at x : ℕ) → dims ≤ 16 → x ≡ digits_at words at dims → x < 2 ^ 16
limit dims words at x l e =
    let o : 0 < 2 = omega arith in
    let m : digits_at words at dims < 2 ^ dims = digits-below words at dims in
    let p : 2 ^ dims ≤ 2 ^ 16 = pow-le-pow_right o l in
    omega (arith, m, p, e)

-- it ends where the addresses end
within : (n i d : ℕ) → i < n → n + n * d ≤ 64 → n + i * d + d ≤ 64
within n i d l m = grind (arith, l, m)

pub near_field-requires : goal.near_field-requires
near_field-requires c = record {
  some = omega (arith, c.requires.record.some);
  near = within c.args.count c.args.place c.args.dims c.requires.place (c.is_short.ensures c.if-is_short.true);
  inside = two_words c.args.dims c.args.words.now c.requires.record;
}

pub returns-then-is_short-clause-value : goal.returns-then-is_short-clause-value
returns-then-is_short-clause-value c =
    let words = c.args.words.now in
    let q : 64 + (c.args.count + c.args.place * c.args.dims) ≡ 64 + c.args.count + c.args.place * c.args.dims = omega arith in
    c.near_field.ensures ∙ ap (λ t. digits_at words t c.args.dims) q
    ∙ read c.args.dims words c.args.count c.args.place c.requires.record (each-fits words c.type_inv.words) c.requires.count c.requires.place

pub returns-then-is_short-clause-limit : goal.returns-then-is_short-clause-limit
returns-then-is_short-clause-limit c =
    limit c.args.dims c.args.words.now (64 + (c.args.count + c.args.place * c.args.dims)) c.near_field.result c.requires.record.few c.near_field.ensures

pub returns-else-is_short-clause-value : goal.returns-else-is_short-clause-value
returns-else-is_short-clause-value c =
    let words = c.args.words.now in
    c.field.ensures ∙ read c.args.dims words c.args.count c.args.place c.requires.record (each-fits words c.type_inv.words) c.requires.count c.requires.place

pub returns-else-is_short-clause-limit : goal.returns-else-is_short-clause-limit
returns-else-is_short-clause-limit c =
    limit c.args.dims c.args.words.now (64 + c.args.count + c.args.place * c.args.dims) c.field.result c.requires.record.few c.field.ensures
