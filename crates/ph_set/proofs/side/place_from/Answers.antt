use Rattle.std.proofs.Common.{◌∙◌, sym}
use Rattle.ph_model.specs.EntryList.{entries}
use Rattle.ph_node.specs.Shown.{shown}
use Rattle.ph_set.proofs.Walking.{place-none}
use Rattle.ph_set.proofs.side.place_from.Goals as goal

pub returns-in-None : goal.returns-in-None
returns-in-None g c =
    c.len.ensures ∙ place-none c.args.addr (entries (shown c.args.node)) (sym c.in-None.ensures)
