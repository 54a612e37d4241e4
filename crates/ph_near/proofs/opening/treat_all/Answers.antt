use Rattle.std.proofs.Common.{◌≡◌, ℕ, ◌≤◌, ◌∙◌, subst, arith, rules}
use Rattle.ph_node.specs.Shown.{shown}
use Rattle.ph_near.specs.Far.{corner_of, gaps_above}
use Rattle.ph_near.specs.Halves.{AreHalves, halves_sum}
use Rattle.ph_near.proofs.Entries.{small-wide, corners-told, least-told}
use Rattle.ph_near.proofs.opening.treat_all.Given.{Over}
use Rattle.ph_near.proofs.opening.treat_all.Goals.{After-bits-bits, After-new-halves}
use Rattle.ph_near.proofs.opening.treat_all.Goals as goal

narrow : (g : Over) (c : After-bits-bits g) → c.args.w ≤ 62
narrow g c = omega (arith, c.bits-bits.ensures.value, c.bits-bits.ensures.limit)

pub new-corners-requires : goal.new-corners-requires
new-corners-requires g c = (
  search rules,
  (
    search rules,
    (
      c.requires.few,
      (
        c.level-level.ensures.limit,
        (
          (c.requires.opened.known.0, small-wide c.args.w c.args.from.now.known (narrow g (goal.at.new-corners-requires g c).After-bits-bits) c.requires.opened.known.1),
          (c.requires.point.0, small-wide c.args.w c.args.center.now (narrow g (goal.at.new-corners-requires g c).After-bits-bits) c.requires.point.1),
        ),
      ),
    ),
  ),
)

pub new-halves-requires : goal.new-halves-requires
new-halves-requires g c = (
  search rules,
  (
    search rules,
    (
      c.requires.few,
      (
        c.level-level.ensures.limit,
        (
          (c.requires.opened.known.0, small-wide c.args.w c.args.from.now.known (narrow g (goal.at.new-halves-requires g c).After-bits-bits) c.requires.opened.known.1),
          (c.requires.point.0, small-wide c.args.w c.args.center.now (narrow g (goal.at.new-halves-requires g c).After-bits-bits) c.requires.point.1),
        ),
      ),
    ),
  ),
)

-- what the halves tell of an address
halves-told : (g : Over) (c : After-new-halves g) (addr : ℕ) → halves_sum addr c.new-halves.result.low c.new-halves.result.high ≡
    gaps_above (shown c.args.from.now.node).level (corner_of (shown c.args.from.now.node).level addr c.args.from.now.known) c.args.center.now
halves-told g c addr =
    least-told (shown c.args.from.now.node).level addr c.args.from.now.known c.args.center.now c.new-halves.result
    c.requires.opened.known.0 c.requires.point.0
    (subst (λ k. AreHalves k c.args.from.now.known c.args.center.now c.new-halves.result) c.level-level.ensures.value c.new-halves.ensures.halves)
    c.new-halves.ensures.small

pub treat_by-requires : goal.treat_by-requires
treat_by-requires g c = (
  search rules,
  (
    search rules,
    (
      search rules,
      (
        search rules,
        (
          c.requires.few,
          (
            c.requires.opened,
            (
              c.requires.last,
              (
                c.new-corners.ensures.corners,
                (
                  λ addr. corners-told c.new-corners.result (shown c.args.from.now.node).level addr c.args.from.now.known c.args.center.now
                      (c.new-corners.ensures.level ∙ c.level-level.ensures.value) c.new-corners.ensures.known c.new-corners.ensures.center,
                  (c.requires.point, (c.requires.ranking, c.requires.waits)),
                ),
              ),
            ),
          ),
        ),
      ),
    ),
  ),
)

pub treat_by-requires-then-this-le-DIRECT_DIMS : goal.treat_by-requires-then-this-le-DIRECT_DIMS
treat_by-requires-then-this-le-DIRECT_DIMS g c = (
  search rules,
  (
    search rules,
    (
      search rules,
      (
        search rules,
        (
          c.requires.few,
          (
            c.requires.opened,
            (
              c.requires.last,
              (
                c.new-halves.ensures.small,
                (
                  halves-told g (goal.at.treat_by-requires-then-this-le-DIRECT_DIMS g c).After-new-halves,
                  (c.requires.point, (c.requires.ranking, c.requires.waits)),
                ),
              ),
            ),
          ),
        ),
      ),
    ),
  ),
)

pub treat_by-requires-2 : goal.treat_by-requires-2
treat_by-requires-2 g c =
    let told = halves-told g (goal.at.treat_by-requires-2 g c).After-new-halves in (
      search rules,
      (
        search rules,
        (
          search rules,
          (
            search rules,
            (
              c.requires.few,
              (
                c.requires.opened,
                (
                  c.requires.last,
                  (
                    c.new.ensures.tabled,
                    (
                      λ addr. (λ i. halves_sum addr (c.new.ensures.halves i).low (c.new.ensures.halves i).high) ∙ told addr,
                      (c.requires.point, (c.requires.ranking, c.requires.waits)),
                    ),
                  ),
                ),
              ),
            ),
          ),
        ),
      ),
    )
