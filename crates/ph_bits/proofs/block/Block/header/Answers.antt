use Rattle.std.proofs.Common.{◌+◌, ◌≤◌, sym, ◌∙◌, arith}
use Rattle.ph_bits.specs.Headers.{len_of}
use Rattle.ph_bits.proofs.Headers.{to-written, shows-header, told}
use Rattle.ph_bits.proofs.SlotLists.{written-fewer}
use Rattle.ph_bits.proofs.block.Block.header.Goals as goal

pub words-requires : goal.words-requires
words-requires g c =
    let h = c.self.invariant in let cs = c.self.inside.places.slots in
    let l : 1 ≤ len_of cs + 1 = omega arith in
    (h.0, written-fewer 1 (len_of cs + 1) cs l (to-written (len_of cs + 1) cs h.7))

pub returns-clause-value : goal.returns-clause-value
returns-clause-value g c =
    let h = c.self.invariant in let i = c.self.inside in
    let t = told i.places.slots i.kids.items i.alloc c.args.self.now c.self.view_is h.6 h.7 h.8 in
    sym (shows-header i.places.slots c.words.result.now 1 (omega arith) c.words.ensures) ∙ t.head

pub returns-clause-limit : goal.returns-clause-limit
returns-clause-limit g c =
    let h = c.self.invariant in let i = c.self.inside in (told i.places.slots i.kids.items i.alloc c.args.self.now c.self.view_is h.6 h.7 h.8).fits
