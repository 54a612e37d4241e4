-- Entries in front of a chain.
use Rattle.std.proofs.Common.{◌≡◌, List, [], ◌∷◌, ◌++◌, refl, ap}
use Rattle.ph_specs.specs.Node.{Entries, end}
use Rattle.ph_model.specs.EntryList.{Entry, in_front, chained}

abbrev pub with_front : List Entry → Entries → Entries
with_front [] rest = rest
with_front (e ∷ es) rest = in_front e.addr e.body e.what (with_front es rest)

pub with_front-end : (es : List Entry) → with_front es end ≡ chained es
with_front-end [] = refl
with_front-end (e ∷ es) = ap (in_front e.addr e.body e.what) (with_front-end es)

pub with_front-more : (es : List Entry) (e : Entry) (rest : Entries) → with_front (es ++ e ∷ []) rest ≡ with_front es (in_front e.addr e.body e.what rest)
with_front-more [] e rest = refl
with_front-more (x ∷ es) e rest = ap (in_front x.addr x.body x.what) (with_front-more es e rest)
