use Rattle.std.proofs.Common.{◌≡◌, ◌≤◌, length, take}
use Rattle.std.specs.Prelude.{IfSome}
use Rattle.ph_specs.specs.Pack.{children}
use Rattle.ph_node.proofs.builds.count_children.Given as goal

abbrev pub invariant-loop-i : goal.invariant-loop-i
invariant-loop-i g l =
    record {
      end : l.i-end ≡ length (g.E.Entries.list l.fn.entries);
      few : l.children ≤ l.i;
      children : l.children ≡ children (take l.i (g.E.Entries.list l.fn.entries));
      mark : IfSome l.mark (g.E.Entries.stands l.fn.entries);
    }
