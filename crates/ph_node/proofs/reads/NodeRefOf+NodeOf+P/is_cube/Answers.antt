use Rattle.std.proofs.Common.{ap, sym, ◌∙◌}
use Rattle.ph_specs.specs.Pack.{is_cube}
use Rattle.ph_specs.specs.Record.{first_in, has_cube}
use Rattle.ph_node.specs.Shown.{shown}
use Rattle.ph_node.proofs.Listings.{count_is}
use Rattle.ph_node.proofs.RecordNodes.{length-flat}
use Rattle.ph_node.proofs.OldNodes.{level_is}
use Rattle.ph_node.proofs.reads.NodeRefOf+NodeOf+P.is_cube.Goals as goal

pub returns : goal.returns
returns g c =
    let t = shown c.args.self.now in
    let d = g.P.Dims.D in
    c.has_cube.ensures
    ∙ ap (λ u. has_cube c.D.result (first_in u)) c.words.ensures ∙ ap (λ x. has_cube x (first_in c.node.inside.block.words)) c.D.ensures
    ∙ ap (λ l. is_cube d l (first_in c.node.inside.block.words).entries) (sym (level_is _ _ _ _ c.node.view_is c.node.invariant))
    ∙ ap (λ n. is_cube d t.level n) (sym (count_is _ _ _ _ c.node.view_is c.node.invariant) ∙ sym (length-flat t.chain))
