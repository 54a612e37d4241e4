use Rattle.std.proofs.Common.{◌≡◌, ap, sym, ◌∙◌, take}
use Rattle.std.specs.Prelude.{Some}
use Rattle.ph_specs.specs.Record.{read}
use Rattle.ph_node.proofs.BodyArrays.{padded-filled}
use Rattle.ph_node.specs.Shown.{shown, entry_of, what_of}
use Rattle.ph_trials.proofs.Written.{holds_child, read-at}
use Rattle.ph_trials.proofs.records.GatheredEntries.at.Goals as goal
use Rattle.ph_trials.proofs.records.GatheredEntries.at.Goals.{in-Child, in_default}

pub returns : goal.returns
returns g c =
    let e = c.entry-entry.result in
    let is : holds_child (what_of e.what) ≡ c.match-matches.matches =
    elim c.match-matches.branch [
      | in-Child w ↦ ap (λ u. holds_child (what_of u)) w.in-Child.is ∙ sym w.matches-is
      | in_default w ↦ ap (λ u. holds_child (what_of u)) w.in_default.is ∙ sym w.matches-is
    ] in
    record {
      stands = c.requires.stands;
      entry = read-at (shown c.args.self.now.node) c.args.i (entry_of g.P.Dims.D e) c.entry-entry.ensures.shows
          ∙ ap (λ b. Some (read b e.addr (take g.P.Dims.D e.body))) is;
      zeros = padded-filled g.P.Dims.D e.body c.entry-entry.ensures.body.fields.0 c.entry-entry.ensures.body.filled;
    }
