use Rattle.std.proofs.Common.{◌∙◌, ap, sym, subst, rules, map}
use Rattle.std.specs.BinaryHeap.{heap_items}
use Rattle.ph_model.specs.Lawful.{IsBody}
use Rattle.ph_specs.proofs.lemmas.Gathered.{Each-permutation}
use Rattle.ph_specs.proofs.laws.Ranked.{take-all}
use Rattle.ph_near.specs.declared.found.Found.{Found}
use Rattle.ph_near.specs.Ranking.{hit_of}
use Rattle.ph_near.proofs.Ranks.{AreKnown, known-at}
use Rattle.ph_near.proofs.ranking.Ranking.into_hits.Goals as goal

pub from_offsets-point-requires : goal.from_offsets-point-requires
from_offsets-point-requires g c =
    let known : IsBody g.row.D c.args.w c.found-item.result.known =
    known-at g.row.D c.args.w c.deref-found-items.result.now c.loop-found.found-index c.found-item.result
    c.loop-found-test.true c.found-item.is
    (subst (AreKnown {d = g.row.D} c.args.w) (sym c.deref-found-items.ensures.value)
    (Each-permutation (λ (f : Found g.row.D). IsBody g.row.D c.args.w f.known) (heap_items c.args.self.rows)
    c.into_sorted_vec-rows.result.items c.into_sorted_vec-rows.ensures.permutation c.requires.known)) in
    (search rules, (known.0, known.1))

pub returns : goal.returns
returns g c = record {
  sorted = c.into_sorted_vec-rows.result.items;
  moved = c.into_sorted_vec-rows.ensures.permutation;
  order = c.into_sorted_vec-rows.ensures.sorted c.requires.ranking.order;
  listed =
      c.loop-found.invariant
      ∙ ap (map (hit_of c.args.w)) (take-all c.loop-found.found-index c.deref-found-items.result.now c.loop-found-test.false)
      ∙ ap (map (hit_of c.args.w)) c.deref-found-items.ensures.value;
}
