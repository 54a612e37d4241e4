use Rattle.std.proofs.Common.{◌≡◌, ◌<◌, ◌≤◌, ◌++◌, ◌^◌, ◌∷◌, [], ◌∙◌, ℕ, refl, ap, sym, subst, arith, rules, map, replicate}
use Rattle.std.specs.Prelude.{Some}
use Rattle.std.specs.BinaryHeap.{heap_items}
use Rattle.std.specs.List.{AllByRecursion as Each}
use Rattle.std.specs.Option.{option_copied}
use Rattle.ph_specs.specs.Coordinate.{coordinate}
use Rattle.ph_specs.specs.TreeRows.{rows}
use Rattle.ph_model.specs.Lawful.{IsLawful}
use Rattle.ph_specs.proofs.lemmas.Members.{Each-parts, Each-each}
use Rattle.ph_model.proofs.lemmas.RowsBehind.{Each-append}
use Rattle.ph_near.specs.Found.{IsFound}
use Rattle.ph_near.specs.Nearing.{IsNearing}
use Rattle.ph_near.specs.Opening.{IsOpened, opened_at, opened_items, line_of, AreWaiting, IsChild}
use Rattle.ph_near.specs.Ranking.{IsBeyond, IsWanted}
use Rattle.ph_near.proofs.Listing.{nearing-listed}
use Rattle.ph_near.proofs.Reached.{few_visits}
use Rattle.ph_near.proofs.Searches.{top-opened, top-nearing, index-at, opened-there, next-waits, next-nearing, next-fewer, ended, if-ok}
use Rattle.ph_near.proofs.best.search.Given.{Over}
use Rattle.ph_near.proofs.best.search.Goals.{After-visit-node, After-enter-next}
use Rattle.ph_near.proofs.best.search.Goals as goal

-- ---- the root

-- it is as nodes are that were opened, and the search stands at it
root_at : (g : Over) (c : After-visit-node g) → IsOpened c.args.w g.row.D (record { node = c.visit-node.result; known = replicate g.row.D 0 })
    × IsNearing {d = g.row.D} c.args.w c.args.n (map (coordinate c.args.w) c.args.center.now)
    (rows c.args.w g.row.D (option_copied c.args.root)) []
    (opened_items {d = g.row.D} c.args.w (record { node = c.visit-node.result; known = replicate g.row.D 0 }) ++
    []) c.args.visits.now c.visit-node.new.visits
root_at g c =
    let wide : 1 ≤ c.args.w = omega (arith, c.bits-bits.ensures.value, c.bits-bits.ensures.some) in
    let narrow : c.args.w ≤ 62 = omega (arith, c.bits-bits.ensures.value, c.bits-bits.ensures.limit) in
    let tree : IsLawful c.args.w g.row.D (Some c.in-Some.root.now) = subst (IsLawful c.args.w g.row.D) (ap option_copied c.in-Some.is) c.requires.tree in
    let top : IsOpened c.args.w g.row.D (record { node = c.visit-node.result; known = replicate g.row.D 0 }) =
    top-opened c.args.w g.row.D c.args.n (map (coordinate c.args.w) c.args.center.now) c.in-Some.root.now
    c.args.visits.now wide narrow tree (record { node = c.visit-node.result; known = replicate g.row.D 0 })
    c.visit-node.ensures.shows refl in
    let near : IsNearing {d = g.row.D} c.args.w c.args.n (map (coordinate c.args.w) c.args.center.now)
    (rows c.args.w g.row.D (option_copied c.args.root)) []
    (opened_items {d = g.row.D} c.args.w (record { node = c.visit-node.result; known = replicate g.row.D 0 }) ++
    []) c.args.visits.now c.visit-node.new.visits =
    subst (λ u. IsNearing {d = g.row.D} c.args.w c.args.n (map (coordinate c.args.w) c.args.center.now)
    (rows c.args.w g.row.D u) [] (opened_items {d = g.row.D} c.args.w
    (record { node = c.visit-node.result; known = replicate g.row.D 0 }) ++ []) c.args.visits.now
    c.visit-node.new.visits) (sym (ap option_copied c.in-Some.is))
    (top-nearing c.args.w g.row.D c.args.n (map (coordinate c.args.w) c.args.center.now) c.in-Some.root.now
    c.args.visits.now wide narrow tree (record { node = c.visit-node.result; known = replicate g.row.D 0 })
    c.visit-node.ensures.shows refl (omega (arith, c.if-n-eq0.false)) c.visit-node.ensures.cost)
    in
    (top, near)

pub open-requires : goal.open-requires
open-requires g c = (
  search rules,
  (
    search rules,
    (
      search rules,
      (
        search rules,
        (
          c.requires.some,
          (
            c.requires.few,
            (
              (root_at g (goal.at.open-requires g c).After-visit-node).0,
              (
                c.requires.point,
                (
                  c.in_ok-ranking.ensures.ranking,
                  subst (AreWaiting c.args.w (map (coordinate c.args.w) c.args.center.now) c.in_ok-opened.opened.items) (sym c.in_ok-queue.ensures) tt,
                ),
              ),
            ),
          ),
        ),
      ),
    ),
  ),
)

pub loop-item-init : goal.loop-item-init
loop-item-init g c =
    let root = root_at g (goal.at.loop-item-init g c).After-visit-node in
    let start : IsNearing c.args.w c.in_ok-ranking.ranking.n (map (coordinate c.args.w) c.args.center.now)
    (rows c.args.w g.row.D (option_copied c.args.root)) (heap_items c.in_ok-ranking.ranking.rows)
    (opened_items {d = g.row.D} c.args.w (record { node = c.visit-node.result; known = replicate g.row.D 0 }) ++
    line_of c.args.w c.in_ok-opened.opened.items c.in_ok-queue.queue) c.args.visits.now c.visit-node.new.visits =
    subst (λ m. IsNearing c.args.w m (map (coordinate c.args.w) c.args.center.now)
    (rows c.args.w g.row.D (option_copied c.args.root)) (heap_items c.in_ok-ranking.ranking.rows)
    (opened_items {d = g.row.D} c.args.w (record { node = c.visit-node.result; known = replicate g.row.D 0 }) ++
    line_of c.args.w c.in_ok-opened.opened.items c.in_ok-queue.queue) c.args.visits.now
    c.visit-node.new.visits) (sym c.in_ok-ranking.ensures.n)
    (subst (λ fs. IsNearing c.args.w c.args.n (map (coordinate c.args.w) c.args.center.now)
    (rows c.args.w g.row.D (option_copied c.args.root)) fs
    (opened_items {d = g.row.D} c.args.w (record { node = c.visit-node.result; known = replicate g.row.D 0 }) ++
    line_of c.args.w c.in_ok-opened.opened.items c.in_ok-queue.queue) c.args.visits.now
    c.visit-node.new.visits) (sym c.in_ok-ranking.ensures.rows)
    (subst (λ is. IsNearing {d = g.row.D} c.args.w c.args.n (map (coordinate c.args.w) c.args.center.now)
    (rows c.args.w g.row.D (option_copied c.args.root)) []
    (opened_items {d = g.row.D} c.args.w (record { node = c.visit-node.result; known = replicate g.row.D 0 }) ++
    line_of c.args.w c.in_ok-opened.opened.items is) c.args.visits.now c.visit-node.new.visits)
    (sym c.in_ok-queue.ensures) root.1))
    in
    record {
      n = c.open.ensures.n ∙ c.in_ok-ranking.ensures.n;
      ranking = c.in_ok-open.ensures.ranking;
      opened = subst (Each (IsOpened c.args.w g.row.D))
          (sym (c.in_ok-open.ensures.opened ∙
          ap (λ os. os ++ (record { node = c.visit-node.result; known = replicate g.row.D 0 }) ∷ [])
          c.in_ok-opened.ensures.items)) (root.0, tt);
      waits = c.in_ok-open.ensures.waits;
      nearing = subst (λ m. IsNearing c.args.w m (map (coordinate c.args.w) c.args.center.now)
          (rows c.args.w g.row.D (option_copied c.args.root)) (heap_items c.open.new.ranking.rows)
          (line_of c.args.w c.open.new.opened.items c.open.new.queue) c.args.visits.now
          c.visit-node.new.visits) c.in_ok-ranking.ensures.n
          (c.in_ok-open.ensures.kept.nearing (rows c.args.w g.row.D (option_copied c.args.root)) c.args.visits.now c.visit-node.new.visits start);
    }

pub returns-in_err-open-clause-visits : goal.returns-in_err-open-clause-visits
returns-in_err-open-clause-visits g c = few_visits (root_at g (goal.at.returns-in_err-open-clause-visits g c).After-visit-node).1

-- ---- the nearest child that waits

pub index-requires : goal.index-requires
index-requires g c = omega (
  arith,
  (next-waits c.args.w (map (coordinate c.args.w) c.args.center.now) c.loop-item.opened.items
      c.in-Some-next_within.ensures.next c.loop-item.invariant.waits).0.opened,
  c.loop-item.opened.ok.0,
)

pub enter-next-requires : goal.enter-next-requires
enter-next-requires g c =
    let waits = next-waits c.args.w (map (coordinate c.args.w) c.args.center.now) c.loop-item.opened.items
    c.in-Some-next_within.ensures.next c.loop-item.invariant.waits in
    let there : c.index.result.now ≡ opened_at c.loop-item.opened.items c.in-Some-next_within.item.opened =
    index-at c.loop-item.opened.items c.in-Some-next_within.item.opened c.index.result.now waits.0.opened c.index.ensures in
    let child : IsChild c.args.w (map (coordinate c.args.w) c.args.center.now) c.index.result.now
    c.in-Some-next_within.item = subst
    (λ o. IsChild c.args.w (map (coordinate c.args.w) c.args.center.now) o c.in-Some-next_within.item) (sym there)
    waits.0.child in (
      search rules,
      (
        search rules,
        (
          c.requires.few,
          (
            subst (IsOpened c.args.w g.row.D) (sym there)
                (opened-there c.loop-item.opened.items c.in-Some-next_within.item.opened waits.0.opened
                c.loop-item.invariant.opened),
            (child.place, child.child),
          ),
        ),
      ),
    )

pub open-requires-in-Some-next_within : goal.open-requires-in-Some-next_within
open-requires-in-Some-next_within g c = (
  search rules,
  (
    search rules,
    (
      search rules,
      (
        search rules,
        (
          c.requires.some,
          (
            c.requires.few,
            (
              c.enter-next.ensures.opened,
              (
                c.requires.point,
                (
                  c.loop-item.invariant.ranking,
                  (next-waits c.args.w (map (coordinate c.args.w) c.args.center.now) c.loop-item.opened.items
                      c.in-Some-next_within.ensures.next c.loop-item.invariant.waits).1,
                ),
              ),
            ),
          ),
        ),
      ),
    ),
  ),
)

-- the search stands at the node that was entered
entered : (g : Over) (c : After-enter-next g) → IsNearing c.args.w c.args.n (map (coordinate c.args.w) c.args.center.now)
    (rows c.args.w g.row.D (option_copied c.args.root)) (heap_items c.loop-item.ranking.rows)
    (opened_items c.args.w c.enter-next.result ++ line_of c.args.w c.loop-item.opened.items
    c.next_within.new.self) c.args.visits.now c.enter-next.new.visits
entered g c =
    next-nearing c.args.w (map (coordinate c.args.w) c.args.center.now) c.loop-item.opened.items
    c.in-Some-next_within.ensures.next c.loop-item.invariant.waits c.index.result.now c.enter-next.result c.index.ensures
    c.enter-next.ensures.entered c.loop-item.invariant.nearing
    (subst (λ m. (t : ℕ) → t ≤ c.limit.result → IsWanted m (heap_items c.loop-item.ranking.rows) t)
    c.loop-item.invariant.n c.limit.ensures.wanted) c.enter-next.ensures.cost

pub loop-item-smaller : goal.loop-item-smaller
loop-item-smaller g c =
    omega (
      arith,
      next-fewer c.args.w (map (coordinate c.args.w) c.args.center.now) c.loop-item.opened.items
          c.in-Some-next_within.ensures.next c.loop-item.invariant.waits c.index.result.now c.enter-next.result c.index.ensures
          c.enter-next.ensures.entered,
      c.in_ok-open-2.ensures.kept.nodes,
    )

pub loop-item-preserved : goal.loop-item-preserved
loop-item-preserved g c =
    let near = entered g (goal.at.loop-item-preserved g c).After-enter-next in
    record {
      n = c.open-in-Some-next_within.ensures.n ∙ c.loop-item.invariant.n;
      ranking = c.in_ok-open-2.ensures.ranking;
      opened = subst (Each (IsOpened c.args.w g.row.D)) (sym c.in_ok-open-2.ensures.opened)
          (Each-append (IsOpened c.args.w g.row.D) c.loop-item.opened.items (c.enter-next.result ∷ [])
          c.loop-item.invariant.opened (c.enter-next.ensures.opened, tt));
      waits = c.in_ok-open-2.ensures.waits;
      nearing = subst (λ m. IsNearing c.args.w m (map (coordinate c.args.w) c.args.center.now)
          (rows c.args.w g.row.D (option_copied c.args.root)) (heap_items c.open-in-Some-next_within.new.ranking.rows)
          (line_of c.args.w c.open-in-Some-next_within.new.opened.items
          c.open-in-Some-next_within.new.queue) c.args.visits.now c.enter-next.new.visits) c.loop-item.invariant.n
          (c.in_ok-open-2.ensures.kept.nearing (rows c.args.w g.row.D (option_copied c.args.root)) c.args.visits.now
          c.enter-next.new.visits (subst
          (λ m. IsNearing c.args.w m (map (coordinate c.args.w) c.args.center.now)
          (rows c.args.w g.row.D (option_copied c.args.root)) (heap_items c.loop-item.ranking.rows)
          (opened_items c.args.w c.enter-next.result ++ line_of c.args.w c.loop-item.opened.items
          c.next_within.new.self) c.args.visits.now c.enter-next.new.visits)
          (sym c.loop-item.invariant.n) near));
    }

pub returns-in_err-open-2-clause-visits : goal.returns-in_err-open-2-clause-visits
returns-in_err-open-2-clause-visits g c = few_visits (entered g (goal.at.returns-in_err-open-2-clause-visits g c).After-enter-next)

-- ---- the end

pub into_hits-requires : goal.into_hits-requires
into_hits-requires g c =
    let found = Each-parts (IsFound c.args.w g.row.D (map (coordinate c.args.w) c.args.center.now))
    (heap_items c.loop-item.ranking.rows) c.loop-item.invariant.nearing.over c.loop-item.invariant.nearing.found in
    (search rules, (search rules, (c.requires.few, (c.loop-item.invariant.ranking, Each-each (heap_items c.loop-item.ranking.rows) (λ f k. k.known) found.0))))

pub returns-clause-hits : goal.returns-clause-hits
returns-clause-hits g c =
    if-ok c.into_hits.result (λ hits l. nearing-listed c.loop-item.invariant.nearing
    (ended c.args.w (map (coordinate c.args.w) c.args.center.now) (heap_items c.loop-item.ranking.rows)
    c.loop-item.opened.items c.limit.result c.loop-item.queue
    (subst (λ m. (t : ℕ) → c.limit.result < t → t < 2 ^ 128 → IsBeyond m (heap_items c.loop-item.ranking.rows) t)
    c.loop-item.invariant.n c.limit.ensures.beyond) c.loop-item.invariant.waits c.in_default-next_within.ensures.none) l)
    c.into_hits.ensures

pub returns-clause-visits : goal.returns-clause-visits
returns-clause-visits g c = few_visits c.loop-item.invariant.nearing
