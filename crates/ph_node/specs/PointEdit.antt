-- A point that comes into a record or goes out of it, as an edit.
use Rattle.std.specs.Prelude.{◌≡◌, ℕ, false, List, replicate, Result, OnErr, OnOk}
use Rattle.ph_specs.specs.Record.{first_in}
use Rattle.ph_bits.specs.Filled.{Filled}
use Rattle.ph_bits.specs.declared.edits.Edit.{Edit}
use Rattle.ph_node.specs.RecordEdit.{IsRecordEdit, record_with}
use Rattle.ph_node.specs.declared.spots.Spot.{Spot}

-- what is written for a point that comes to place i, and for one that goes
abbrev pub more_edit : ℕ → ℕ → List ℕ → ℕ → Edit
more_edit i a body v =
    record { place = i; less = 0; more = 1; entry = record { addr = a; child = false; body = body; rank = 0 }; value = v }

abbrev pub less_edit : Spot → Edit
less_edit s =
    record { place = s.place; less = 1; more = 0; entry = record { addr = s.addr; child = false; body = replicate 16 0; rank = 0 }; value = 0 }

-- a point comes to an address of a record at which nothing stands; the record stands in front of as many values as it has children
pub record IsNewPoint (dims : ℕ) (words : List ℕ) (values : ℕ) (e : Edit) : Type 0 where
  pub edit : IsRecordEdit dims words e
  pub less : e.less ≡ 0
  pub more : e.more ≡ 1
  pub point : e.entry.child ≡ false
  pub children : values ≡ (first_in words).children

-- the words of a block have become the record with the edit, or have stayed where a call failed; its values stayed
pub record IsPointPut {A E X : Type 0} (dims : ℕ) (old : Filled X) (e : Edit) (r : Result A E) (new : Filled X) : Type 0 where
  pub words : OnOk r (new.words ≡ record_with dims old.words e)
  pub kept : OnErr r (new.words ≡ old.words)
  pub values : new.values ≡ old.values
