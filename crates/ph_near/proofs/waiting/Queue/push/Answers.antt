use Rattle.std.proofs.Common.{◌≡◌, ◌∷◌, ◌∙◌, ap, sym, subst}
use Rattle.std.proofs.lemmas.Result.{on_ok_weaker}
use Rattle.std.specs.BinaryHeap.{heap_items}
use Rattle.std.specs.List.Sorted.{IsPermutation}
use Rattle.ph_near.specs.Waiting.{waiting_in}
use Rattle.ph_near.proofs.Queues.{before-moved, behind-apart}
use Rattle.ph_near.proofs.waiting.Queue.push.Goals.{In-Some}
use Rattle.ph_near.proofs.waiting.Queue.push.Goals as goal

-- what waited while an item stood apart
was : (c : In-Some) → c.args.self.now ≡ c.in-Some.apart ∷ heap_items c.self.inside.others
was c = sym c.self.view_is ∙ ap (λ a. waiting_in a (heap_items c.self.inside.others)) c.in-Some.is

pub returns-then-item-apart : goal.returns-then-item-apart
returns-then-item-apart c =
    on_ok_weaker c.push_on.result (λ moved. subst (λ old. IsPermutation (c.args.item ∷ old) (c.args.item ∷ heap_items c.push_on.new.heap))
    (sym (was (goal.at.returns-then-item-apart c).In-Some)) (before-moved c.args.item moved)) c.push_on.ensures.moved

pub returns : goal.returns
returns c =
    on_ok_weaker c.push_on-2.result (λ moved. subst (λ old. IsPermutation (c.args.item ∷ old) (waiting_in c.self.inside.apart (heap_items c.push_on-2.new.heap)))
    (sym (was (goal.at.returns c).In-Some))
    (subst (λ a. IsPermutation (c.args.item ∷ (c.in-Some.apart ∷ heap_items c.self.inside.others)) (waiting_in a (heap_items c.push_on-2.new.heap)))
    (sym c.in-Some.is) (behind-apart c.args.item c.in-Some.apart moved))) c.push_on-2.ensures.moved
