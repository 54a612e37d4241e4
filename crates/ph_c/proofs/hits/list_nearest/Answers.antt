-- The hits that were found are those of the definitions, and stand in the arrays.
use Rattle.std.proofs.Common.{◌≡◌, List, refl, ap, ◌∙◌, subst, arith}
use Rattle.ph_specs.specs.Distance.{near}
use Rattle.ph_table.specs.Hits.{TableHit, hits_of}
use Rattle.ph_c.specs.Nears.{AreTold, LentHits, lent_hits}
use Rattle.ph_c.proofs.hits.list_nearest.Goals as goal

pub returns-in-Ok-clause-near : goal.returns-in-Ok-clause-near
returns-in-Ok-clause-near g c =
    let q = c.args.center.now in
    let room = c.room_for_hits-room.result in
    let before : LentHits = lent_hits c.args.arrays.now.points.now c.args.arrays.now.values.now c.args.arrays.now.distances.now c.args.arrays.now.count.now in
    let after : LentHits = lent_hits c.write_hits.new.points c.write_hits.new.values c.write_hits.new.distances c.len-arrays.result in
    let all : c.deref.result.now ≡ hits_of q (near q room c.args.tree.now.table) =
    c.deref.ensures.value ∙ c.in-Ok.ensures.hits ∙ ap (λ p. hits_of p (near p room c.args.tree.now.table)) c.in-Some.ensures.1 in
    let told : AreTold c.deref.result.now before after = record {
      points = c.write_hits.ensures.points;
      values = c.write_hits.ensures.values;
      distances = c.write_hits.ensures.distances;
      count = omega (arith, c.deref.ensures.len);
    } in
    let Told : List TableHit → Type 0 = λ hs. AreTold hs before after in
    record {
      known = refl;
      no_point = (λ e. absurd (omega (arith, e)), λ f. absurd (f c.in-Some.ensures.0));
      no_memory = λ e. absurd (omega (arith, e));
      listed = λ e. record { room = room; fits = c.room_for_hits-room.ensures; told = subst Told all told };
      kept = λ f. absurd (f refl);
    }
