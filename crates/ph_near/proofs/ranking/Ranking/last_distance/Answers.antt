use Rattle.std.proofs.Common.{arith}
use Rattle.std.specs.BinaryHeap.{heap_items}
use Rattle.ph_near.proofs.Ranks.{last-beyond, last-wanted, limit-none}
use Rattle.ph_near.proofs.ranking.Ranking.last_distance.Goals as goal

pub returns-then-len-self : goal.returns-then-len-self
returns-then-len-self g c =
    limit-none c.args.self.now.n (heap_items c.args.self.now.rows) (omega (arith, c.if-len-self.true, c.len.ensures, c.args.self.now.rows.data.ok.0))

pub returns-in-Some : goal.returns-in-Some
returns-in-Some g c = record {
  beyond = λ t l m.
      last-beyond c.args.self.now.n (heap_items c.args.self.now.rows) c.in-Some.last.now
      (omega (arith, c.if-len-self.false, c.len.ensures, c.args.self.now.rows.data.ok.0))
      (c.in-Some.ensures.greatest c.requires.ranked.order) t l;
  wanted = λ t l.
      last-wanted c.args.self.now.n (heap_items c.args.self.now.rows) c.in-Some.last.now
      (omega (arith, c.requires.ranked.some, c.if-len-self.false, c.len.ensures, c.args.self.now.rows.data.ok.0))
      c.in-Some.ensures.lookup t l;
}
