use Rattle.std.proofs.Common.{rules, ◌≡◌, ℕ, List, ◌∷◌, ◌++◌, ◌+◌, ◌-◌, ◌*◌, ◌^◌, ◌<◌, ◌≤◌, length, take, drop, arith, sym, subst, ap, ◌∙◌, false}
use Rattle.std.specs.List.{AllByRecursion as Each}
use Rattle.std.proofs.lemmas.List.{length-take-le, take-take}
use Rattle.ph_specs.specs.Digits.{words_for}
use Rattle.ph_model.specs.Lawful.{IsBody}
use Rattle.ph_model.specs.Layout.{entries_as, values_as}
use Rattle.ph_specs.specs.Pack.{children, first_word}
use Rattle.ph_specs.specs.Record.{first_in}
use Rattle.ph_model.proofs.laws.WordDigits.{each-fits}
use Rattle.ph_bits.specs.Edits.{edited_as, flats, new_flat}
use Rattle.ph_linear.specs.Runs.{digits_more, runs_with, with_fields}
use Rattle.ph_linear.proofs.EditedEntries.{table-old}
use Rattle.ph_linear.proofs.EditedLists.{each-take}
use Rattle.ph_linear.proofs.EditedTables.{rising-new}
use Rattle.ph_linear.proofs.MoreRecords.{record-long, counts, opened-record}
use Rattle.ph_linear.proofs.inserts.insert_point.Goals as goal
use Rattle.ph_linear.proofs.inserts.insert_point.Goals.{After-columns_of-columns}

module _ (c : After-columns_of-columns) where
  abbrev old : List ℕ
  old = take c.args.len c.args.words.now

  fit : Each (λ x. x < 2 ^ 64) old
  fit = each-take (λ x. x < 2 ^ 64) c.args.len c.args.words.now (each-fits c.args.words.now (search rules))

  within : c.args.edit.now.place + c.args.edit.now.less ≤ (first_in old).entries
  within = omega (arith, c.requires.within, c.requires.less)

  long : length old ≡ c.args.len
  long = length-take-le c.args.len c.args.words.now c.requires.front

  -- how long the words are
  parts : (length c.args.words.now ≡ 1 + words_for (digits_more c.columns_of-columns.result) +
      (length old - c.outline_of-outline.result.values + 1)) ×
      (c.outline_of-outline.result.values ≤ 1 + words_for (digits_more c.columns_of-columns.result)) ×
      (c.outline_of-outline.result.values + c.outline_of-outline.result.front ≤ length old)
  parts =
      record-long c.args.dims old c.args.edit.now c.requires.record fit within c.requires.less c.requires.more
      c.requires.point c.requires.entries c.columns_of-columns.result c.columns_of-columns.ensures
      c.outline_of-outline.result (length c.args.words.now) c.outline_of-outline.ensures c.requires.long

  first : let o = c.outline_of-outline.result in
      (o.level ≤ 61) × (o.count + 1 ≤ 2 ^ 16) × (length old - o.values + 1 ≤ o.count + 1)
      × (first_word o.level 0 (o.count + 1) (o.count + 1 - (length old - o.values + 1))
      ≡ first_word (first_in old).level 0 (length (edited_as false c.args.dims old c.args.edit.now)) (children (edited_as false c.args.dims old c.args.edit.now)))
  first =
      counts c.args.dims old c.args.edit.now c.requires.record fit within c.requires.less c.requires.more
      c.requires.point c.requires.entries c.columns_of-columns.result c.columns_of-columns.ensures
      c.outline_of-outline.result c.outline_of-outline.ensures

  -- the new entry is lawful
  lawful : (c.args.edit.now.entry.addr < 2 ^ c.args.dims) × IsBody c.args.dims (first_in old).level (take c.args.dims c.args.edit.now.entry.body)
  lawful =
      let e = c.args.edit.now in
      let d = c.args.dims in
      let es = flats (entries_as false d old) (values_as false d old) in
      let l : e.place ≤ length es = omega (arith, c.requires.within, (table-old false d old e c.requires.record fit within).many) in
      let k : 0 < e.more = omega (arith, c.requires.more) in
      rising-new d (first_in old).level 0 e.place e.less e.more (new_flat d e.entry e.value) es l c.requires.entries k

pub open_values-requires : goal.open_values-requires
open_values-requires c =
    let p = (goal.at.open_values-requires c).After-columns_of-columns in
    let q = parts p in
    record {
      front = omega (arith, q.2, long p);
      longer = omega (arith, q, long p);
      long = omega (arith, q, long p);
    }

pub insert-requires-clause-columns : goal.insert-requires-clause-columns
insert-requires-clause-columns c =
    let p = (goal.at.insert-requires-clause-columns c).After-columns_of-columns in
    let k = c.columns_of-columns.ensures.columns in
    record {
      begin = k.begin;
      one = k.one;
      addresses = k.addresses;
      addresses_many = k.addresses_many;
      bodies = k.bodies;
      bodies_many = k.bodies_many;
      inside = omega (arith, k.inside, long p, c.requires.front, c.open_values.ensures.same);
      near = k.near;
    }

pub insert-requires-clause-within : goal.insert-requires-clause-within
insert-requires-clause-within c = omega (arith, c.columns_of-columns.ensures.many, c.requires.within)

pub insert-requires-clause-low : goal.insert-requires-clause-low
insert-requires-clause-low c = omega (arith, c.outline_of-outline.ensures.level, c.requires.record.low)

pub insert-requires-clause-bodies : goal.insert-requires-clause-bodies
insert-requires-clause-bodies c = c.columns_of-columns.ensures.bodies_wide ∙ ap (λ t. c.args.dims * t) (sym c.outline_of-outline.ensures.level)

pub insert-requires-clause-address : goal.insert-requires-clause-address
insert-requires-clause-address c = (lawful (goal.at.insert-requires-clause-address c).After-columns_of-columns).0

pub insert-requires-clause-fields : goal.insert-requires-clause-fields
insert-requires-clause-fields c =
    subst (λ t. Each (λ x. x < 2 ^ t) (take c.args.dims c.args.edit.now.entry.body))
    (sym c.outline_of-outline.ensures.level) (lawful (goal.at.insert-requires-clause-fields c).After-columns_of-columns).1.1

pub insert-requires-clause-room : goal.insert-requires-clause-room
insert-requires-clause-room c = omega (arith, (parts (goal.at.insert-requires-clause-room c).After-columns_of-columns).0, c.open_values.ensures.same)

pub first_of-requires-clause-count : goal.first_of-requires-clause-count
first_of-requires-clause-count c = (first (goal.at.first_of-requires-clause-count c).After-columns_of-columns).1

pub returns : goal.returns
returns c =
    let p = (goal.at.returns c).After-columns_of-columns in
    let o = c.outline_of-outline.result in
    let k = c.outline_of-outline.ensures in
    let e = c.args.edit.now in
    let ws = c.args.words.now in
    let len = c.args.len in
    let old = take len ws in
    let mid = c.open_values.new.words in
    let cs = c.columns_of-columns.result in
    let q = parts p in
    let f : Each (λ x. x < 2 ^ 64) mid = each-fits mid (search rules) in
    let m : o.values ≤ length mid = omega (arith, q, long p, c.open_values.ensures.same) in
    let front : take o.values mid ≡ take o.values old =
    c.open_values.ensures.front ∙ sym (take-take o.values len ws (omega (arith, q.2, long p))) in
    let v : length ws - (len - o.values + 1) ≡ 1 + words_for (digits_more cs) = omega (arith, q, long p) in
    let vs : List ℕ = values_as false c.args.dims old in
    let values : drop (1 + words_for (digits_more cs)) mid ≡ take o.front vs ++ e.value ∷ drop o.front vs =
    ap (λ t. drop t mid) (sym v) ∙ c.open_values.ensures.values
    ∙ ap (λ t. take o.front (drop t old) ++ e.value ∷ drop o.front (drop t old)) k.values in
    let is : c.insert.new.words ≡ with_fields (runs_with mid cs (first_in old).level c.args.dims e) mid =
    c.insert.ensures ∙ ap (λ t. with_fields (runs_with mid cs t c.args.dims e) mid) k.level in
    let one : c.first_of.result ≡ first_word (first_in old).level 0 (length (edited_as false c.args.dims old e)) (children (edited_as false c.args.dims old e)) =
    c.first_of.ensures ∙ ap (λ t. first_word o.level 0 (o.count + 1) (o.count + 1 - (t - o.values + 1))) (sym (long p)) ∙ (first p).3 in
    opened-record c.args.dims old e c.requires.record (fit p) (within p) c.requires.less c.requires.more
    c.requires.point c.requires.entries cs c.columns_of-columns.ensures o mid c.insert.new.words c.first_of.result
    k f m (lawful p).1.0 front values is one
