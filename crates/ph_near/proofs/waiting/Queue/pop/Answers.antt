use Rattle.std.proofs.Common.{◌≡◌, ◌∷◌, ◌∙◌, ap, sym, subst}
use Rattle.std.specs.Prelude.{IfSome}
use Rattle.std.specs.BinaryHeap.{heap_items}
use Rattle.ph_near.specs.Waiting.{waiting_in, IsNext}
use Rattle.ph_near.proofs.Queues.{other-next}
use Rattle.ph_near.proofs.waiting.Queue.pop.Goals as goal

pub returns-then-has_nearer-clause-next : goal.returns-then-has_nearer-clause-next
returns-then-has_nearer-clause-next c =
    let was : c.args.self.now ≡ c.in-Some.apart ∷ heap_items c.self.inside.others =
    sym c.self.view_is ∙ ap (λ a. waiting_in a (heap_items c.self.inside.others)) c.in-Some.is in
    subst (λ a. IfSome c.pop_from-then-has_nearer.result
    (λ item. IsNext item.distance c.args.self.now item (waiting_in a (heap_items c.pop_from-then-has_nearer.new.heap)))) (sym c.in-Some.is)
    (subst (λ old. IfSome c.pop_from-then-has_nearer.result
    (λ item. IsNext item.distance old item (c.in-Some.apart ∷ heap_items c.pop_from-then-has_nearer.new.heap))) (sym was)
    (other-next c.pop_from-then-has_nearer.result c.in-Some.apart (heap_items c.self.inside.others)
    (heap_items c.pop_from-then-has_nearer.new.heap) c.pop_from-then-has_nearer.ensures.first c.pop_from-then-has_nearer.ensures.next
    (c.has_nearer.ensures.nearer c.if-has_nearer.true)))
