-- The hits of the ball are at points of the tree, and those behind the last one are the rows of the page.
use Rattle.std.proofs.Common.{arith}
use Rattle.ph_c.specs.Edits.{IsPointIn}
use Rattle.ph_c.specs.Trees.{table_at}
use Rattle.ph_c.specs.Arrays.{on_page}
use Rattle.ph_c.specs.Windows.{IsLastIn, last_of}
use Rattle.ph_c.proofs.Behind.{ball-done, last-known, points-within, some-is}
use Rattle.ph_c.proofs.balls.list_ball.Goals as goal

pub list_behind-requires : goal.list_behind-requires
list_behind-requires g c =
    let t = table_at g.row.D c.args.tree.now in
    let l = some-is c.last_in.result (IsLastIn t c.args.last.now) (last_of c.args.last.now) c.in-Some-Some.last c.last_in.ensures c.in-Some-Some.is-1 in (
      omega arith,
      (
        omega arith,
        (
          omega arith,
          (
            c.root-root.ensures.some,
            (
              c.root-root.ensures.few,
              (
                last-known t c.width-w.result c.args.last.now c.in-Some-Some.last c.width-w.ensures l.1 l.0,
                rw (c.new-ball.ensures.hits, c.width-w.ensures)
                    (points-within c.args.tree.now.width g.row.D c.in-Some-Some.q c.args.radius c.args.tree.now.table c.root-root.ensures.table),
              ),
            ),
          ),
        ),
      ),
    )

pub returns-clause-page : goal.returns-clause-page
returns-clause-page g c =
    let t = table_at g.row.D c.args.tree.now in
    let q = some-is c.point_in.result (IsPointIn t c.args.center.now) c.args.center.now c.in-Some-Some.q c.point_in.ensures c.in-Some-Some.is-0 in
    let l = some-is c.last_in.result (IsLastIn t c.args.last.now) (last_of c.args.last.now) c.in-Some-Some.last c.last_in.ensures c.in-Some-Some.is-1 in
    ball-done t c.args.center.now c.in-Some-Some.q c.args.last.now c.args.radius c.width-w.result c.in-Some-Some.last c.new-ball.result.hits
    (on_page c.args.page.now) (on_page c.list_behind.new.page)
    q.1 l.1 c.width-w.ensures c.new-ball.ensures.hits (q.0, l.0) c.list_behind.ensures.listed
