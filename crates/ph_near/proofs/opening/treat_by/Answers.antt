use Rattle.std.proofs.Common.{◌≡◌, ℕ, ◌<◌, ◌≤◌, ◌++◌, ◌+◌, ◌-◌, ◌^◌, ◌∙◌, refl, sym, subst, arith, rules, map, drop, length}
use Rattle.std.specs.BinaryHeap.{heap_items}
use Rattle.ph_specs.specs.Coordinate.{coordinate}
use Rattle.ph_model.specs.EntryList.{entries}
use Rattle.ph_node.specs.Shown.{shown}
use Rattle.ph_near.specs.Nearing.{IsKept}
use Rattle.ph_near.specs.Opening.{opened_items, opened_at, line_of, IsTreated}
use Rattle.ph_near.specs.Ranking.{IsBeyond}
use Rattle.ph_near.specs.Scanning.{AreBeyond}
use Rattle.ph_near.proofs.Entries.{items-more, items-none, treated-kept, treated-waits}
use Rattle.ph_near.proofs.Nearing.{kept-all, kept-then}
use Rattle.ph_near.proofs.Scans.{skipped-kept}
use Rattle.ph_near.proofs.opening.treat_by.Given.{Over}
use Rattle.ph_near.proofs.opening.treat_by.Goals.{After-next_near}
use Rattle.ph_near.proofs.opening.treat_by.Goals as goal

pub loop-near-init : goal.loop-near-init
loop-near-init g c =
    record {
      within = omega arith;
      n = refl;
      ranking = c.requires.ranking;
      waits = c.requires.waits;
      kept = kept-all (opened_items c.args.w c.args.from.now ++ line_of c.args.w c.args.opened.now (c.args.queue.now));
    }

pub treat-requires : goal.treat-requires
treat-requires g c =
    let near = c.in-Some.ensures.near in (
      search rules,
      (
        search rules,
        (
          search rules,
          (
            search rules,
            (
              c.requires.few,
              (
                c.requires.opened,
                (
                  near.spot,
                  (
                    near.distance ∙ c.requires.told c.in-Some.near.spot.addr,
                    (c.requires.point, c.loop-near.invariant.ranking),
                  ),
                ),
              ),
            ),
          ),
        ),
      ),
    )

-- the search goes on without the entries up to a place that are beyond the limit
skipped_at : (g : Over) (c : After-next_near g) → (stop : ℕ) → c.loop-near.place ≤ stop → stop ≤ length (entries (shown c.args.from.now.node)) →
    AreBeyond (g.S.Distances.told c.args.sums.now) (entries (shown c.args.from.now.node)) c.limit.result c.loop-near.place stop →
    IsKept c.args.w c.args.ranking.now.n (map (coordinate c.args.w) c.args.center.now) (heap_items c.args.ranking.now.rows)
    (opened_items c.args.w c.args.from.now ++ line_of c.args.w c.args.opened.now (c.args.queue.now))
    (heap_items c.loop-near.ranking.rows)
    (drop stop (opened_items c.args.w c.args.from.now) ++ line_of c.args.w c.args.opened.now c.loop-near.queue)
skipped_at g c stop from within beyond =
    let narrow : c.args.w ≤ 62 = omega (arith, c.bits-bits.ensures.value, c.bits-bits.ensures.limit) in
    let n = c.args.ranking.now.n in
    let place = c.loop-near.place in
    kept-then c.loop-near.invariant.kept
    (skipped-kept c.args.from.now c.requires.opened c.args.center.now c.requires.point narrow c.requires.few (g.S.Distances.told c.args.sums.now)
    c.requires.told n c.limit.result (heap_items c.loop-near.ranking.rows)
    (subst (λ m. (t : ℕ) → c.limit.result < t → t < 2 ^ 128 → IsBeyond m (heap_items c.loop-near.ranking.rows) t)
    c.loop-near.invariant.n c.limit.ensures.beyond)
    (stop - place) place stop (omega (arith, from)) within beyond
    (line_of c.args.w c.args.opened.now c.loop-near.queue))

pub loop-near-preserved : goal.loop-near-preserved
loop-near-preserved g c =
    let w = c.args.w in
    let from = c.args.from.now in
    let os = c.args.opened.now in
    let at = length c.args.opened.now - 1 in
    let near = c.in-Some.ensures.near in
    let place = c.in-Some.near.spot.place in
    let there : c.in-Some.near.spot.place < length (entries (shown c.args.from.now.node)) = near.spot.within in
    let inside : (length c.args.opened.now - 1 < length c.args.opened.now) ×
    (opened_at c.args.opened.now (length c.args.opened.now - 1) ≡ c.args.from.now) =
    (omega (arith, c.requires.last.some), c.requires.last.at) in
    let treated : IsTreated c.args.ranking.now.n c.args.w (map (coordinate c.args.w) c.args.center.now)
    (length c.args.opened.now - 1) c.args.from.now c.in-Some.near.spot.place (heap_items c.loop-near.ranking.rows)
    (heap_items c.treat.new.ranking.rows) c.loop-near.queue c.treat.new.queue =
    subst (λ n. IsTreated n c.args.w (map (coordinate c.args.w) c.args.center.now) (length c.args.opened.now - 1) c.args.from.now
    c.in-Some.near.spot.place (heap_items c.loop-near.ranking.rows) (heap_items c.treat.new.ranking.rows)
    c.loop-near.queue c.treat.new.queue) c.loop-near.invariant.n c.in_ok-treat.ensures.treated in
    let more = items-more w (shown from.node).level place from.known (shown from.node).chain there in
    record {
      within = omega (arith, there);
      n = c.treat.ensures.n ∙ c.loop-near.invariant.n;
      ranking = c.in_ok-treat.ensures.ranking;
      waits = treated-waits os at from place inside treated c.loop-near.invariant.waits;
      kept = kept-then
          (skipped_at g (goal.at.loop-near-preserved g c).After-next_near place near.behind (omega (arith, there)) near.beyond)
          (subst (λ is. IsKept c.args.w c.args.ranking.now.n (map (coordinate c.args.w) c.args.center.now)
          (heap_items c.loop-near.ranking.rows)
          (is ++ line_of c.args.w c.args.opened.now c.loop-near.queue)
          (heap_items c.treat.new.ranking.rows)
          (drop (c.in-Some.near.spot.place + 1) (opened_items c.args.w c.args.from.now) ++
          line_of c.args.w c.args.opened.now c.treat.new.queue)) (sym more)
          (treated-kept os at from place inside treated (drop (place + 1) (opened_items w from))));
    }

pub returns-clause-treated : goal.returns-clause-treated
returns-clause-treated g c =
    let from = c.args.from.now in
    let all = length (entries (shown c.args.from.now.node)) in
    record {
      waits = c.loop-near.invariant.waits;
      kept = subst (λ is. IsKept c.args.w c.args.ranking.now.n (map (coordinate c.args.w) c.args.center.now)
          (heap_items c.args.ranking.now.rows)
          (opened_items c.args.w c.args.from.now ++ line_of c.args.w c.args.opened.now
          (c.args.queue.now)) (heap_items c.loop-near.ranking.rows)
          (is ++ line_of c.args.w c.args.opened.now c.loop-near.queue))
          (items-none c.args.w (shown from.node).level all from.known (shown from.node).chain (omega arith))
          (skipped_at g (goal.at.returns-clause-treated g c).After-next_near all c.loop-near.invariant.within (omega arith) c.in_default.ensures.none);
    }
