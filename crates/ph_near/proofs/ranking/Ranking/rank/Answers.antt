use Rattle.std.proofs.Common.{◌∙◌, ap, sym, arith, rules, ◌≤◌, ◌∷◌, length, subst}
use Rattle.std.specs.BinaryHeap.{heap_items}
use Rattle.std.specs.Ordering.{is_lt}
use Rattle.std.proofs.lemmas.List.Sorted.{length_permutation}
use Rattle.ph_near.specs.Ranking.{IsAdded}
use Rattle.ph_near.proofs.Ranks.{on-both, added-few, added-in, added-out, added-at, moved-as}
use Rattle.std.specs.BinaryHeap.PeekMut.{peek_mut_top, peek_mut_rest, HasRoomForTop}
use Rattle.ph_near.specs.Found.{found_cmp}
use Rattle.ph_near.proofs.ranking.Ranking.rank.Goals.{then-is_lt, else-is_lt}
use Rattle.ph_near.proofs.ranking.Ranking.rank.Goals as goal

-- ---- there is room

pub returns-then-len-self-clause-ranked : goal.returns-then-len-self-clause-ranked
returns-then-len-self-clause-ranked g c =
    on-both c.push.result
    (λ p k. record {
      some = omega (arith, c.push.ensures.n, c.requires.some);
      order = k c.requires.order;
      few = omega (
        arith,
        c.push.ensures.n,
        length_permutation (c.args.found ∷ heap_items c.args.self.now.rows)
            (heap_items c.push.new.self.rows) p,
        c.if-len-self.true,
        c.len.ensures,
        c.args.self.now.rows.data.ok.0,
      );
    })
    c.push.ensures.moved c.push.ensures.order

pub returns-then-len-self-clause-added : goal.returns-then-len-self-clause-added
returns-then-len-self-clause-added g c =
    on-both c.push.result
    (λ p k. added-few c.args.self.now.n c.args.found (heap_items c.args.self.now.rows)
    (heap_items c.push.new.self.rows) (omega (arith, c.if-len-self.true, c.len.ensures, c.args.self.now.rows.data.ok.0)) p)
    c.push.ensures.moved c.push.ensures.order

-- ---- it is held against the last one

pub returns-clause-added : goal.returns-clause-added
returns-clause-added g c =
    let full : c.args.self.now.n ≤ length (heap_items c.args.self.now.rows) =
    omega (arith, c.if-len-self.false, c.len.ensures, c.args.self.now.rows.data.ok.0) in
    let told = c.cmp.ensures ∙ ap (found_cmp c.args.found) c.deref.ensures in
    let room : HasRoomForTop c.in-Some.last = omega (arith, c.in-Some.ensures.len, c.in-Some.ensures.capacity, c.args.self.now.rows.data.ok.1) in
    let held : IsAdded {d = g.row.D} c.args.self.now.n c.args.found (heap_items c.args.self.now.rows) (heap_items c.drop-last.new.self.0) =
    elim c.if-is_lt.branch [
      | then-is_lt w ↦ added-in c.args.self.now.n c.args.found (peek_mut_top c.in-Some.last) full c.requires.few
          c.in-Some.ensures.permutation (c.in-Some.ensures.greatest c.requires.order)
          (ap is_lt (sym told) ∙ sym c.is_lt.ensures ∙ w.if-is_lt.true)
          (moved-as _ _ _ (ap (λ p. peek_mut_top p ∷ peek_mut_rest p) w.last-is)
          (c.drop-last.ensures.permutation (subst HasRoomForTop (sym w.last-is) room)))
      | else-is_lt w ↦ added-out c.args.self.now.n c.args.found (peek_mut_top c.in-Some.last) full c.requires.few
          c.in-Some.ensures.permutation (c.in-Some.ensures.greatest c.requires.order)
          (ap is_lt (sym told) ∙ sym c.is_lt.ensures ∙ w.if-is_lt.false)
          (moved-as _ _ _ (ap (λ p. peek_mut_top p ∷ peek_mut_rest p) w.last-is)
          (c.drop-last.ensures.permutation (subst HasRoomForTop (sym w.last-is) room)))
    ] in
    added-at held (search rules)
