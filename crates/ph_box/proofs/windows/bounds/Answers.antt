use Rattle.ph_box.specs.declared.question.Question.TheVariants.{Overlap, Inside, Cover}
use Rattle.ph_box.proofs.BoxPoints.{answered}
use Rattle.ph_box.proofs.windows.bounds.Goals as goal

pub returns-in-Overlap-clause-points : goal.returns-in-Overlap-clause-points
returns-in-Overlap-clause-points g c =
    let corners = c.corners_of.ensures in
    (answered Overlap c.args.w g.row.D c.args.asked.now _ _ _ _ c.requires.even corners.low corners.high corners.points
    c.behind_least.ensures c.before_greatest.ensures).0

pub returns-in-Overlap-clause-window : goal.returns-in-Overlap-clause-window
returns-in-Overlap-clause-window g c =
    let corners = c.corners_of.ensures in
    rw c.in-Overlap.is (answered Overlap c.args.w g.row.D c.args.asked.now _ _ _ _ c.requires.even corners.low corners.high corners.points
    c.behind_least.ensures c.before_greatest.ensures).1

pub returns-in-Inside-clause-points : goal.returns-in-Inside-clause-points
returns-in-Inside-clause-points g c =
    let corners = c.corners_of.ensures in
    (answered Inside c.args.w g.row.D c.args.asked.now _ _ _ _ c.requires.even corners.low corners.high corners.points
    c.join_corners.ensures c.join_corners-in-Inside.ensures).0

pub returns-in-Inside-clause-window : goal.returns-in-Inside-clause-window
returns-in-Inside-clause-window g c =
    let corners = c.corners_of.ensures in
    rw c.in-Inside.is (answered Inside c.args.w g.row.D c.args.asked.now _ _ _ _ c.requires.even corners.low corners.high corners.points
    c.join_corners.ensures c.join_corners-in-Inside.ensures).1

pub returns-in-Cover-clause-points : goal.returns-in-Cover-clause-points
returns-in-Cover-clause-points g c =
    let corners = c.corners_of.ensures in
    (answered Cover c.args.w g.row.D c.args.asked.now _ _ _ _ c.requires.even corners.low corners.high corners.points
    c.behind_least-in-Cover.ensures c.before_greatest-in-Cover.ensures).0

pub returns-in-Cover-clause-window : goal.returns-in-Cover-clause-window
returns-in-Cover-clause-window g c =
    let corners = c.corners_of.ensures in
    rw c.in-Cover.is (answered Cover c.args.w g.row.D c.args.asked.now _ _ _ _ c.requires.even corners.low corners.high corners.points
    c.behind_least-in-Cover.ensures c.before_greatest-in-Cover.ensures).1
