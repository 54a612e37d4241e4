-- Where a search for the rows near a point starts: at the root of a tree.
use Rattle.std.proofs.Common.{ℕ, replicate}
use Rattle.std.proofs.lemmas.List.{length-replicate}
use Rattle.ph_specs.specs.Node.{PlainNode}
use Rattle.ph_model.specs.Lawful.{IsAbove}
use Rattle.ph_model.proofs.laws.Unique.{zeros_known}

pub root-above : (w dims : ℕ) (n : PlainNode) → IsAbove dims n.level (replicate dims 0)
root-above w dims n = record { long = length-replicate dims 0; zeros = zeros_known n.level dims }
