-- What the parts of a node that a visit shows stand for.
use Rattle.std.specs.Prelude.{ℕ, take}
use Rattle.ph_specs.specs.Node.{PlainNode}
use Rattle.ph_model.specs.EntryList.{Entry, What, value, node}
use Rattle.ph_node.specs.declared.reads.NodeRefOf.{NodeRefOf}
use Rattle.ph_node.specs.declared.reads.EntryOf.{EntryOf}
use Rattle.ph_node.specs.declared.reads.WhatOf.{WhatOf}
use Rattle.ph_node.specs.declared.reads.WhatOf.TheVariants.{Value, Child}

abbrev pub shown : NodeRefOf PlainNode → PlainNode
shown r = r.node.now

abbrev pub what_of : WhatOf PlainNode → What
what_of (Value v) = value v
what_of (Child c) = node c.now

abbrev pub entry_of : ℕ → EntryOf PlainNode → Entry
entry_of dims e = record { addr = e.addr; body = take dims e.body; what = what_of e.what }
