use Rattle.std.proofs.Common.{◌≡◌, ◌+◌, ◌*◌, ◌≤◌, length, reverse, take, drop}
use Rattle.ph_specs.specs.Load.{known, places_under}
use Rattle.ph_specs.specs.Record.{first_in, entries_in}
use Rattle.ph_node.specs.Children.{nodes_of}
use Rattle.ph_snap.specs.Faults.{HaveNone}
use Rattle.ph_snap.specs.RecordPlaces.{place_of, ceiling}
use Rattle.ph_snap.specs.Reads.{ReadAs, all_points, all_sizes}
use Rattle.ph_snap.proofs.nodes.+load_node.Given as goal

abbrev pub decreases-load_node : goal.decreases-load_node
decreases-load_node g l = ceiling l.format.now.width (place_of l.format.now.dims l.place.now)

abbrev pub invariant-entries : goal.invariant-entries
invariant-entries g l = record {
  within : l.end ≤ length l.bytes;
  words : l.block.words ≡ l.initial.block.words;
  spare : l.block.spare + length l.block.values ≡ l.initial.block.spare;
  count : length l.block.values ≡
      length (places_under (first_in l.initial.block.words).level (known l.format.dims (place_of l.format.dims l.place))
      (take l.i (entries_in l.format.dims l.initial.block.words)));
  none : HaveNone l.format.kind l.format.width l.format.dims
      (places_under (first_in l.initial.block.words).level (known l.format.dims (place_of l.format.dims l.place))
      (take l.i (entries_in l.format.dims l.initial.block.words))) l.initial.end l.bytes l.end;
  nodes : ReadAs l.format.dims (drop l.initial.end l.bytes) (nodes_of (reverse l.block.values)) (drop l.end l.bytes);
  rows : l.rows ≡ l.initial.rows + all_points (nodes_of (reverse l.block.values));
  few : l.initial.end + 8 * all_points (nodes_of (reverse l.block.values)) ≤ l.end;
  changes : l.changes ≡ l.initial.changes + all_sizes (nodes_of (reverse l.block.values));
  cost : l.initial.end + 16 * all_sizes (nodes_of (reverse l.block.values)) ≤ l.end;
}
