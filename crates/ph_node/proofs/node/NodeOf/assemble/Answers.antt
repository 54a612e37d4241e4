use Rattle.std.proofs.Common.{◌^◌, ◌<◌, subst, ◌∙◌}
use Rattle.std.specs.List.{AllByRecursion as Each}
use Rattle.ph_node.specs.Children.{nodes_of}
use Rattle.ph_node.proofs.Assembled.{recorded}
use Rattle.ph_node.proofs.Listings.{length-nodes}
use Rattle.ph_node.proofs.node.NodeOf.assemble.Goals as goal

pub invariant_of-result : goal.invariant_of-result
invariant_of-result g c =
    recorded g.P.Dims.D c.args.block.words (nodes_of c.args.block.values) c.requires.record (subst (Each (λ x. x < 2 ^ 64)) c.words.ensures c.are_words.ensures)
    (length-nodes c.args.block.values ∙ c.requires.children)
