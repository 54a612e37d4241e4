-- Where the values of a record lie.
use Rattle.std.proofs.Common.{◌≡◌, ℕ, zero, suc, ◌+◌, ◌<◌, ◌≤◌, List, [], ◌∷◌, length, map, take, arith}
use Rattle.std.specs.Prelude.{Option, Some, None}
use Rattle.std.proofs.lemmas.List.{length-append}
use Rattle.ph_specs.specs.Digits.{words_of}
use Rattle.ph_model.specs.EntryEdits.{what_at}
use Rattle.ph_specs.specs.Node.{PlainNode, Flat}
use Rattle.ph_model.specs.EntryList.{Entry, What, value, node}
use Rattle.ph_specs.specs.Pack.{values, value_in_front, record_of, table, is_cube}
use Rattle.ph_node.specs.OneEdit.{value_of, flat_of, flats_of}
use Rattle.ph_node.specs.Split.{IsValue}

-- the words, the entries and the children of the record of a node, by its values
pub record IsCounted (d : ℕ) (t : PlainNode) (words count children : ℕ) : Type 0 where
  pub long : words ≡ length (record_of d t.level (flats_of t))
  pub all : count ≡ length (values (flats_of t)) + children
  pub fit : length (values (flats_of t)) ≤ words

pub values-fit : (d level : ℕ) (fs : List Flat) → length (values fs) ≤ length (record_of d level fs)
values-fit d level fs =
    omega (arith, length-append (words_of (table (is_cube d level (length fs)) d level fs)) (values fs))

here : (w : What) (ys : List ℕ) → IsValue w → 0 < length (value_in_front (value_of w) ys)
here (value v) ys h = omega arith
here (node n) ys h = absurd h

front : (o : Option ℕ) (xs ys : List ℕ) → length xs < length ys → length (value_in_front o xs) < length (value_in_front o ys)
front (Some w) xs ys h = omega (arith, h)
front None xs ys h = h

-- a point has a place among them
pub values-below : (es : List Entry) (i : ℕ) → i < length es → IsValue (what_at es i) → length (values (take i (map flat_of es))) < length (values (map flat_of es))
values-below [] i l h = absurd (omega (arith, l))
values-below (e ∷ es) zero l h = here e.what (values (map flat_of es)) h
values-below (e ∷ es) (suc i) l h = front (value_of e.what) (values (take i (map flat_of es))) (values (map flat_of es)) (values-below es i (omega (arith, l)) h)
