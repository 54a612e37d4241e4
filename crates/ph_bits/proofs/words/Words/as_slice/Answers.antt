use Rattle.std.proofs.Common.{◌∙◌, ap}
use Rattle.ph_bits.specs.Block.{Block}
use Rattle.ph_bits.proofs.SlotLists.{in-shown}
use Rattle.ph_bits.proofs.words.Words.as_slice.Goals as goal

pub returns : goal.returns
returns c = in-shown c.self.inside.len c.self.inside.places.slots c.words.result.now c.words.ensures ∙ ap (λ (b : Block). b.words) c.self.view_is
