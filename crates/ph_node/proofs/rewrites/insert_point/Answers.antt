use Rattle.std.proofs.Common.{◌≡◌, ℕ, ◌+◌, ◌-◌, List, length, take, true, false, sym, ap, ◌∙◌, subst, arith, refl}
use Rattle.std.proofs.lemmas.List.{length-take-le}
use Rattle.std.specs.Prelude.{nat_le}
use Rattle.std.specs.List.{position_or_len}
use Rattle.ph_model.specs.Layout.{IsRecord, AreRising, entries_as, read_address}
use Rattle.ph_specs.specs.Pack.{record_in}
use Rattle.ph_specs.specs.Record.{first_in, has_cube}
use Rattle.ph_bits.specs.Edits.{edited_as}
use Rattle.ph_bits.specs.declared.edits.Edit.{Edit}
use Rattle.ph_cube.specs.Edited.{IsEditAt}
use Rattle.ph_node.specs.RecordEdit.{IsRecordEdit}
use Rattle.ph_node.proofs.Resized.{cube_longer, record_kept, long_with}
use Rattle.ph_node.proofs.rewrites.insert_point.Goals as goal
use Rattle.ph_node.proofs.rewrites.insert_point.Goals.{After-has_cube}

-- an edit of a cube is one at an address
in_cube : (d : ℕ) (ws : List ℕ) (e : Edit) → has_cube d (first_in ws) ≡ true → IsRecordEdit d ws e → IsEditAt d ws e e.entry.addr
in_cube d ws e hc h = record {
  address = h.address;
  front = subst (λ b. e.place ≡ position_or_len (λ r. nat_le e.entry.addr (read_address r)) (entries_as b d ws)) hc h.front;
  behind = subst (λ b. e.place + e.less ≡ position_or_len (λ r. nat_le (e.entry.addr + 1) (read_address r)) (entries_as b d ws)) hc h.behind;
  few = h.few;
  same = λ some. refl;
}

-- a cube grows by one word
grown : (c : After-has_cube) → has_cube c.args.dims (first_in (take c.args.len c.args.words.now)) ≡ true →
    c.args.len ≡ length c.args.words.now - 1
grown c hc =
    let ws : List ℕ = c.args.words.now in
    let q = c.requires in
    omega (
      arith,
      q.long,
      cube_longer c.args.dims (take c.args.len ws) c.args.edit.now q.edit q.less q.more q.point q.layout hc,
      length-take-le c.args.len ws q.front,
    )

pub insert_point-requires : goal.insert_point-requires
insert_point-requires c =
    let ws : List ℕ = c.args.words.now in
    let q = c.requires in
    let hc = sym c.has_cube.ensures ∙ c.if-has_cube.true in
    let one = grown (goal.at.insert_point-requires c).After-has_cube hc in
    let laid : IsRecord true c.args.dims (take c.args.len ws) = subst (λ b. IsRecord b c.args.dims (take c.args.len ws)) hc q.edit.source.laid.tables in
    let at : IsEditAt c.args.dims (take c.args.len ws) c.args.edit.now c.args.edit.now.entry.addr = in_cube c.args.dims (take c.args.len ws) c.args.edit.now hc q.edit in
    let rise : AreRising c.args.dims (first_in (take c.args.len ws)).level 0
    (edited_as true c.args.dims (take c.args.len ws) c.args.edit.now) =
    subst (λ b. AreRising c.args.dims (first_in (take c.args.len ws)).level 0
    (edited_as b c.args.dims (take c.args.len ws) c.args.edit.now)) hc q.edit.rise in
    record {
      some = omega (arith, q.long, cube_longer c.args.dims (take c.args.len ws) c.args.edit.now q.edit q.less q.more q.point q.layout hc);
      «record» = subst (λ n. IsRecord true c.args.dims (take n ws)) one laid;
      edit = subst (λ n. IsEditAt c.args.dims (take n ws) c.args.edit.now c.args.edit.now.entry.addr) one at;
      less = q.less;
      more = q.more;
      point = q.point;
      entries = subst (λ n. AreRising c.args.dims (first_in (take n ws)).level 0 (edited_as true c.args.dims (take n ws) c.args.edit.now)) one rise;
    }

pub insert_point-requires-else-has_cube-clause-long : goal.insert_point-requires-else-has_cube-clause-long
insert_point-requires-else-has_cube-clause-long c =
    let ws : List ℕ = take c.args.len c.args.words.now in
    let q = c.requires in
    q.long ∙ sym (long_with c.args.dims ws c.args.edit.now q.edit)
    ∙ sym (ap (λ (u : List ℕ). length u) (record_kept c.args.dims ws c.args.edit.now q.edit false q.layout (sym c.has_cube.ensures ∙ c.if-has_cube.false)))

pub returns-then-has_cube : goal.returns-then-has_cube
returns-then-has_cube c =
    let ws : List ℕ = c.args.words.now in
    let q = c.requires in
    let hc = sym c.has_cube.ensures ∙ c.if-has_cube.true in
    let one = grown (goal.at.returns-then-has_cube c).After-has_cube hc in
    subst (λ n. c.insert_point.new.words ≡ record_in true c.args.dims (first_in (take n ws)).level
    (edited_as true c.args.dims (take n ws) c.args.edit.now)) (sym one) c.insert_point.ensures
    ∙ record_kept c.args.dims (take c.args.len ws) c.args.edit.now q.edit true q.layout hc
