-- A table that is saved to a sink.
use Rattle.std.specs.Prelude.{◌≡◌, ℕ, List, length, Result, IfOk, OnOk}
use Rattle.ph_io.specs.Giving.{Taken, Given}
use Rattle.ph_io.specs.declared.streams.Failed.{Failed}
use Rattle.ph_specs.specs.declared.Kind.{Kind}
use Rattle.ph_specs.specs.Snapshot.{snap}
use Rattle.ph_snap.specs.Saving.{VisitsAll}
use Rattle.ph_commands.specs.Listing.{node_count}
use Rattle.ph_commands.specs.Tables.{AnyTable}

abbrev pub snap_of : Kind → AnyTable → List ℕ
snap_of kind t = snap kind t.dims t.tree.width t.tree.table

-- the sink was given the snapshot of a table, by a visit of each node, or a write failed
pub record SavedTo (kind : Kind) (t : AnyTable) (sink now_sink : Taken) (visits now_visits : ℕ) (result : Result ℕ Failed) : Type 0 where
  pub given : OnOk result (Given sink now_sink (snap_of kind t))
  pub size : IfOk result (λ n. n ≡ length (snap_of kind t))
  pub visited : VisitsAll (node_count t) visits now_visits result
