use Rattle.std.proofs.Common.{◌≡◌, ℕ, get_or, subst, arith, sym, ◌∙◌, ap}
use Rattle.std.specs.Prelude.{Option, Some}
use Rattle.std.proofs.lemmas.List.{length-map}
use Rattle.ph_bulk.specs.declared.parts.Part.{Part}
use Rattle.ph_bulk.specs.Parts.{flat_in}
use Rattle.ph_bulk.proofs.Flats.{get-map-map, value-of, some-first}
use Rattle.ph_bulk.proofs.entries.PartsOfEntries.value.Goals as goal

pub returns-clause-value : goal.returns-clause-value
returns-clause-value g c v h =
    let s = c.args.self.now in
    let p = c.index-self-i.result in
    let got = get-map-map (λ e. e.value) (flat_in g.P.Space.row_of s.w s.place) s.parts.now c.args.i
    c.index-self-i.result (omega (
      arith,
      c.requires.within,
      length-map s.parts.now (flat_in g.P.Space.row_of s.w s.place),
    )) c.index-self-i.is in
    c.value.ensures ∙ ap (λ t. (g.P.Space.row_of t).value) (sym c.index-part-0.is) ∙ value-of g.P.Space.row_of s.w
    s.place p.rows.now p.level c.index-part-0.result v
    (some-first g.P.Space.row_of s.w g.P.Dims.D s.place s.parts.now c.args.i p s.ready
    (omega (arith, c.requires.within, length-map s.parts.now (flat_in g.P.Space.row_of s.w s.place)))
    c.index-self-i.is) (subst (λ (q : Part g.row.P-Row.Denot). c.index-part-0.result ≡
    get_or q.rows.now 0 c.index-part-0.result) (sym c.index-self-i.is) c.index-part-0.is) (some-is _ _ (sym got ∙ h))
  where
    some-is : (a b : Option ℕ) → ◌≡◌ {A = Option (Option ℕ)} (Some a) (Some b) → a ≡ b
    some-is a b e = cc
