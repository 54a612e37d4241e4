use Rattle.std.proofs.Common.{◌++◌, ◌∙◌, ap, sym, subst, rules, map}
use Rattle.std.proofs.lemmas.Result.{on_ok_weaker}
use Rattle.std.specs.BinaryHeap.{heap_items}
use Rattle.ph_specs.specs.Coordinate.{coordinate}
use Rattle.ph_near.specs.Nearing.{IsKept}
use Rattle.ph_near.specs.Opening.{IsNewest, opened_items, line_of, AreWaiting}
use Rattle.ph_near.proofs.Entries.{later-waits, later-line, newest}
use Rattle.ph_near.proofs.opening.open.Goals as goal

pub treat_all-requires : goal.treat_all-requires
treat_all-requires g c =
    let q = map (coordinate c.args.w) c.args.center.now in
    let more = sym (c.as_slice.ensures.value ∙ c.in_ok-keep.ensures) in (
      search rules,
      (
        search rules,
        (
          search rules,
          (
            search rules,
            (
              c.requires.some,
              (
                c.requires.few,
                (
                  c.requires.opened,
                  (
                    subst (λ os. IsNewest os c.args.from.now) more (newest c.args.opened.now.items c.args.from.now),
                    (
                      c.requires.point,
                      (
                        c.requires.ranking,
                        subst (λ os. AreWaiting c.args.w (map (coordinate c.args.w) c.args.center.now) os (c.args.queue.now)) more
                            (later-waits c.args.w q c.args.opened.now.items c.args.from.now (c.args.queue.now) c.requires.waits),
                      ),
                    ),
                  ),
                ),
              ),
            ),
          ),
        ),
      ),
    )

pub returns-clause-waits : goal.returns-clause-waits
returns-clause-waits g c =
    on_ok_weaker c.treat_all.result (λ t. subst (λ os. AreWaiting c.args.w (map (coordinate c.args.w) c.args.center.now) os
    c.treat_all.new.queue) c.as_slice.ensures.value t.waits) c.treat_all.ensures.treated

pub returns-clause-kept : goal.returns-clause-kept
returns-clause-kept g c =
    let waits = c.args.queue.now in
    let later = later-line c.args.w (map (coordinate c.args.w) c.args.center.now) c.args.opened.now.items c.args.from.now waits c.requires.waits in
    on_ok_weaker c.treat_all.result (λ t. subst (λ is. IsKept c.args.w c.args.ranking.now.n (map (coordinate c.args.w) c.args.center.now)
    (heap_items c.args.ranking.now.rows) (opened_items c.args.w c.args.from.now ++ is) (heap_items c.treat_all.new.ranking.rows)
    (line_of c.args.w c.keep.new.opened.items c.treat_all.new.queue))
    (ap (λ os. line_of c.args.w os waits) c.in_ok-keep.ensures ∙ later)
    (subst (λ os. IsKept c.args.w c.args.ranking.now.n (map (coordinate c.args.w) c.args.center.now)
    (heap_items c.args.ranking.now.rows) (opened_items c.args.w c.args.from.now ++ line_of c.args.w os (c.args.queue.now))
    (heap_items c.treat_all.new.ranking.rows) (line_of c.args.w os c.treat_all.new.queue)) c.as_slice.ensures.value t.kept))
    c.treat_all.ensures.treated
