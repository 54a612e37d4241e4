-- Whether an entry is a child.
use Rattle.std.specs.Prelude.{Bool, true, false}
use Rattle.ph_model.specs.EntryList.{What, value, node}

abbrev pub is_node : What → Bool
is_node (value v) = false
is_node (node n) = true
