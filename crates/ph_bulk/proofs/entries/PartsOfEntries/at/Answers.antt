use Rattle.std.proofs.Common.{arith, sym, ◌∙◌, ap}
use Rattle.std.specs.Prelude.{Option, Some}
use Rattle.std.proofs.lemmas.List.{length-map}
use Rattle.ph_model.specs.Layout.{unvalued}
use Rattle.ph_specs.specs.Record.{Read}
use Rattle.ph_bulk.specs.Parts.{flat_in}
use Rattle.ph_bulk.proofs.Flats.{get-map-map}
use Rattle.ph_bulk.proofs.entries.PartsOfEntries.at.Goals as goal

pub returns : goal.returns
returns g c =
    let s = c.args.self.now in
    record {
      stands = c.requires.stands;
      entry = get-map-map unvalued (flat_in g.P.Space.row_of s.w s.place) s.parts.now c.args.i c.index-self-i.result
          (omega (arith, c.requires.within, length-map s.parts.now (flat_in g.P.Space.row_of s.w s.place))) c.index-self-i.is
          ∙ ap {B = Option Read} (λ t. Some (unvalued (flat_in g.P.Space.row_of s.w s.place t))) c.index-self-i.is
          ∙ ap {B = Option Read} (λ t. Some t) (sym c.entry_of.ensures.entry);
      zeros = c.entry_of.ensures.zeros;
    }
