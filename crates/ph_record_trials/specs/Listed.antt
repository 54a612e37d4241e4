-- Lists of entries of at most two dimensions, as records keep them.
use Rattle.std.specs.Prelude.{◌≡◌, ℕ, ◌≤◌, List, [], ◌∷◌, length, map, take}
use Rattle.ph_specs.specs.Node.{Flat}
use Rattle.ph_specs.specs.Pack.{child_mark, children}
use Rattle.ph_model.specs.Lawful.{IsBody}
use Rattle.ph_model.specs.Layout.{AreRising}
use Rattle.ph_record_trials.specs.declared.items.Item.{Item}

-- two fields and zeros
abbrev pub body_of : ℕ × ℕ → List ℕ
body_of p = p.0 ∷ p.1 ∷ 0 ∷ 0 ∷ 0 ∷ 0 ∷ 0 ∷ 0 ∷ 0 ∷ 0 ∷ 0 ∷ 0 ∷ 0 ∷ 0 ∷ 0 ∷ 0 ∷ []

-- an entry as a record keeps it
abbrev pub flat_of : ℕ → Item → Flat
flat_of dims e = record { addr = e.addr; body = take dims (body_of e.fields); value = e.value }

-- a list of them
abbrev pub flats : ℕ → List Item → List Flat
flats dims es = map (flat_of dims) es

-- an entry that a record at a level can have
pub record IsItem (dims level : ℕ) (e : Item) : Type 0 where
  pub body : IsBody dims level (take dims (body_of e.fields))
  pub bottom : level ≡ 0 → child_mark e.value ≡ 0

-- entries that a record can have
pub record IsWritable (dims level : ℕ) (es : List Item) : Type 0 where
  pub low : level ≤ 61
  pub least : 1 ≤ length (flats dims es)
  pub bottom : level ≡ 0 → children (flats dims es) ≡ 0
  pub rising : AreRising dims level 0 (flats dims es)
