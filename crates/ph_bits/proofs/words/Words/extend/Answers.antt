use Rattle.std.proofs.Common.{◌++◌, ◌∙◌, ap, length}
use Rattle.ph_bits.specs.Block.{Block}
use Rattle.ph_bits.proofs.SlotLists.{in-extended}
use Rattle.ph_bits.proofs.words.Words.extend.Goals as goal

pub returns-clause-words : goal.returns-clause-words
returns-clause-words c =
    let ws = c.args.more.now in
    in-extended c.self.inside.len (length c.args.more.now) c.self.inside.places.slots c.extend.new.self.slots ws c.self.invariant.written c.extend.ensures.words
    ∙ ap (λ (b : Block). b.words ++ ws) c.self.view_is
