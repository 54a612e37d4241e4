use Rattle.std.proofs.Common.{◌≡◌, ◌≤◌, ◌+◌, ◌-◌, ◌*◌, ◌^◌, ℕ, List, ◌++◌, sym, ◌∙◌, ap, arith, length}
use Rattle.std.proofs.Common.{length-append, length-take, take, replicate, slice_set, Option, None, Some}
use Rattle.std.proofs.lemmas.List.{length-set, length-replicate}
use Rattle.ph_bits.specs.Headers.{header_of}
use Rattle.ph_bits.proofs.Headers.{Holds, told, held, header-first, taken, joined, written-alike}
use Rattle.ph_bits.proofs.SlotLists.{written-set}
use Rattle.ph_bits.proofs.block.Block.take_values.Given.{Over}
use Rattle.ph_bits.proofs.block.Block.take_values.Goals as goal

-- the header of the block that takes them
taker : (g : Over) (c : goal.After-write-2 g)
    → Holds c.write.new.self.slots c.take_all.new.self.items (length c.args.self.now.words + c.args.self.now.spare - c.count-count.result) (length c.args.self.now.words)
taker g c =
    let h = c.self.invariant in let i = c.self.inside in let cs = i.places.slots in let b = c.args.self.now in
    let t = told cs i.kids.items i.alloc b c.self.view_is h.6 h.7 h.8 in
    let k = c.from.invariant in let j = c.from.inside in let u = told j.places.slots j.kids.items j.alloc c.args.from.now c.from.view_is k.6 k.7 k.8 in
    let ds = c.write.new.self.slots in let e = c.take_all.ensures in
    let n = length b.words in let m = c.count-count.result in let last = n + b.spare + 1 - m in let head : ℕ = c.header.result - m * (2 ^ 42 - 1) in
    let roomy : m ≤ b.spare = omega (arith, c.count-count.ensures.value, c.requires.room) in
    let inner : List (Option ℕ) = take last cs in
    let slots : ds ≡ slice_set inner 0 (Some head) =
    c.write.ensures.1 ∙ ap (λ (v : List (Option ℕ)). slice_set v 0 (Some head)) (e.4 ∙ ap (λ r. take r cs) (omega (arith, c.first.ensures))) in
    let long : length inner ≡ last = omega (arith, length-take last cs, t.places) in
    let l : length ds ≡ last = ap length slots ∙ length-set inner 0 (Some head) ∙ long in
    let items : length c.take_all.new.self.items ≡ m = ap length e.0 ∙ omega (arith, u.count, c.count-count.ensures.value) in
    held ds c.take_all.new.self.items (n + b.spare - m) n (omega (arith, l, roomy)) (omega (arith, t.fits, items, roomy))
    (rw slots (written-set (n + 1) inner 0 head (written-alike n cs inner (taken (n + 1) last cs (omega (arith, roomy))) (omega (arith, long, roomy)) t.written)))
    (ap header_of slots ∙ header-first inner head (omega (arith, long, roomy)) ∙ omega (arith, c.header.ensures.value, items, ap length c.requires.none, roomy))

pub invariant_of-self : goal.invariant_of-self
invariant_of-self g c =
    let h = c.self.invariant in let i = c.self.inside in let b = c.args.self.now in
    let t = told i.places.slots i.kids.items i.alloc b c.self.view_is h.6 h.7 h.8 in let s = taker g c in
    let k = c.from.invariant in let j = c.from.inside in let u = told j.places.slots j.kids.items j.alloc c.args.from.now c.from.view_is k.6 k.7 k.8 in
    let e = c.take_all.ensures in let m = c.count-count.result in
    let roomy : m ≤ b.spare = omega (arith, c.count-count.ensures.value, c.requires.room) in
    let items : length c.take_all.new.self.items ≡ m = ap length e.0 ∙ omega (arith, u.count, c.count-count.ensures.value) in
    let none : length i.kids.items ≡ 0 = t.count ∙ ap length c.requires.none in
    let at = c.write.ensures.0 ∙ e.3 in
    let from : c.first.result - m ≡ length c.write.new.self.slots = omega (arith, c.first.ensures, s.places, roomy) in
    (h.0 ∙ sym at, h.1 ∙ sym at, h.2, e.1 ∙ h.3 ∙ sym at, e.2 ∙ from, h.5 ∙ omega (arith, s.places, items, none, t.places, roomy), s.small, s.written, s.head)

pub invariant_of-from : goal.invariant_of-from
invariant_of-from g c =
    let a = c.args.from.now in
    let k = c.from.invariant in let j = c.from.inside in let cs = j.places.slots in let u = told cs j.kids.items j.alloc a c.from.view_is k.6 k.7 k.8 in
    let ds = c.write-2.new.self.slots in let e = c.take_all.ensures in let f = c.write-2.ensures in
    let n = length a.words in let m = c.count-count.result in let room = n + a.spare + m in let head : ℕ = c.header-2.result + m * (2 ^ 42 - 1) in
    let many : m ≡ length a.values = c.count-count.ensures.value in
    let more : List (Option ℕ) = replicate m None in
    let inner : List (Option ℕ) = cs ++ more in
    let slots : ds ≡ slice_set inner 0 (Some head) = f.1 ∙ ap (λ (v : List (Option ℕ)). slice_set v 0 (Some head)) e.9 in
    let long : length inner ≡ room + 1 = length-append cs more ∙ omega (arith, length-replicate {A = Option ℕ} m None, u.places) in
    let l : length ds ≡ room + 1 = ap length slots ∙ length-set inner 0 (Some head) ∙ long in
    let items : length c.take_all.new.from.items ≡ 0 = ap length e.5 in
    let s = held ds c.take_all.new.from.items room n l (omega (arith, u.fits, items, many))
    (rw slots (written-set (n + 1) inner 0 head (written-alike n cs inner (joined (n + 1) cs more u.written.0) (omega (arith, long)) u.written)))
    (ap header_of slots ∙ header-first inner head (omega (arith, long)) ∙ omega (arith, c.header-2.ensures.value, items, many)) in
    let at = f.0 ∙ e.8 in
    let from : c.first-first.result + m ≡ length ds = omega (arith, c.first-first.ensures, l) in
    (k.0 ∙ sym at, k.1 ∙ sym at, k.2, e.6 ∙ k.3 ∙ sym at, e.7 ∙ from, k.5 ∙ omega (arith, l, items, u.places, u.count, many), s.small, s.written, s.head)

pub returns-clause-spare : goal.returns-clause-spare
returns-clause-spare g c = let s = taker g c in omega (arith, s.spare, c.count-count.ensures.value, c.requires.room)
