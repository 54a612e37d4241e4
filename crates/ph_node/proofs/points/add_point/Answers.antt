use Rattle.ph_node.proofs.Resized.{few_more, stays_more, changes_more}
use Rattle.ph_node.proofs.points.add_point.Goals as goal

pub changes_layout-requires-clause-entries : goal.changes_layout-requires-clause-entries
changes_layout-requires-clause-entries g c =
    few_more g.P.Dims.D c.args.block.now.words _ c.args.edit.now c.requires c.count-more.result c.D-dims.result
    c.words-words.result.now c.count-more.ensures c.words-words.ensures c.D-dims.ensures

pub add_there-requires-clause-layout : goal.add_there-requires-clause-layout
add_there-requires-clause-layout g c =
    stays_more _ _ _ c.requires.edit c.requires.less c.requires.more c.requires.point c.D-dims.result
    c.count-more.result c.words-words.result.now c.changes_layout.result c.D-dims.ensures c.words-words.ensures
    c.count-more.ensures c.changes_layout.ensures c.if-changes_layout.false

pub returns-then-changes_layout-clause-room : goal.returns-then-changes_layout-clause-room
returns-then-changes_layout-clause-room g c =
    let changed = changes_more _ _ _ c.requires.edit c.requires.less c.requires.more c.requires.point c.D-dims.result
    c.count-more.result c.words-words.result.now c.changes_layout.result c.D-dims.ensures c.words-words.ensures
    c.count-more.ensures c.changes_layout.ensures c.if-changes_layout.true in
    record {
      lean = λ has. absurd (changed has.0);
      same = λ has. absurd (changed has.0);
      longer = λ _. c.add_anew.ensures.most;
      changed = λ _. c.add_anew.ensures.most;
      used = λ _. c.add_anew.ensures.used;
    }
