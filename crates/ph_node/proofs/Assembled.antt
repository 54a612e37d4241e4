-- A record that keeps the rules of its layout is the record of the node that it makes with its children.
use Rattle.std.proofs.Common.{◌≡◌, ℕ, zero, suc, ◌+◌, ◌-◌, ◌%◌, ◌^◌, ◌<◌, List, [], ◌∷◌, length, replicate, true, refl, arith, ap, sym, ◌∙◌, eq-eqb}
use Rattle.std.specs.Prelude.{◌&&◌}
use Rattle.std.specs.List.{AllByRecursion as Each}
use Rattle.ph_specs.specs.declared.Kind.TheVariants.{Points}
use Rattle.ph_specs.specs.Load.{root, has_zeros_from}
use Rattle.ph_specs.specs.Node.{PlainNode}
use Rattle.ph_model.specs.EntryList.{listed}
use Rattle.ph_model.specs.NodeSize.{children_in, points_in}
use Rattle.ph_specs.specs.Record.{Read, read_point, read_child, filled, first_of, first_in, entries_in, values_in}
use Rattle.ph_model.proofs.lemmas.Counted.{kids, spots}
use Rattle.ph_model.proofs.lemmas.LawfulRead.{AreReads, tables-reads}
use Rattle.ph_model.proofs.laws.RecordAgain.{IsFirst, IsRest, xs, numbers-many, numbers-fit, entries-count, values-many, pack-unpacked}
use Rattle.ph_node.specs.Kept.{AreKept}
use Rattle.ph_node.specs.Recorded.{IsLaidOut, IsRecorded}

kids-in : (rs : List Read) → children_in rs ≡ kids rs
kids-in [] = refl
kids-in (read_point a b ∷ rs) = kids-in rs
kids-in (read_child a b ∷ rs) = ap suc (kids-in rs)

spots-in : (rs : List Read) → points_in rs ≡ spots rs
spots-in [] = refl
spots-in (read_point a b ∷ rs) = ap suc (spots-in rs)
spots-in (read_child a b ∷ rs) = spots-in rs

no-digits : (place n : ℕ) → has_zeros_from place (replicate n 0) ≡ true
no-digits place zero = refl
no-digits place (suc n) =
    let z : 0 % 2 ^ (place + 1) ≡ 0 = grind arith in
    ap (λ t. t && has_zeros_from place (replicate n 0)) (eq-eqb (0 % 2 ^ (place + 1)) 0 z) ∙ no-digits place n

rising : (d level least : ℕ) (rs : List Read) (vs : List ℕ) (ns : List PlainNode) → children_in rs ≡ length ns →
    points_in rs ≡ length vs → AreReads d level least rs → AreKept d level least (listed (filled rs vs ns))
rising d level least [] vs ns h k r = tt
rising d level least (read_point a b ∷ rs) [] ns h k r = absurd (omega (arith, k))
rising d level least (read_point a b ∷ rs) (v ∷ vs) ns h k r = (r.0, r.1, r.2, rising d level (a + 1) rs vs ns h (omega (arith, k)) r.3)
rising d level least (read_child a b ∷ rs) vs [] h k r = absurd (omega (arith, h))
rising d level least (read_child a b ∷ rs) vs (n ∷ ns) h k r = (r.0, r.1, r.2, rising d level (a + 1) rs vs ns (omega (arith, h)) k r.3)

module _ (d w : ℕ) (rest : List ℕ) (laid : IsLaidOut d (w ∷ rest)) (small : Each (λ x. x < 2 ^ 64) (w ∷ rest)) where
  -- the rules of a root at this level
  as-first : IsFirst ((first_of w).level + 1) d root (first_of w)
  as-first = record {
    at_level = eq-eqb (first_of w).level ((first_of w).level + 1 - 1) (omega arith);
    least = laid.tables.least;
    most = laid.tables.most;
    few = laid.tables.kids;
    in_layout = laid.told;
    zeros = no-digits (first_of w).level d;
  }

  as-rest : IsRest Points ((first_of w).level + 1) d root (w ∷ rest)
  as-rest = record { tables = laid.tables.tables; padded = laid.tables.padded; boxes = refl }

  kids-of : children_in (entries_in d (w ∷ rest)) ≡ (first_of w).children
  kids-of =
      kids-in (entries_in d (w ∷ rest)) ∙ (entries-count Points ((first_of w).level + 1) d root w rest laid.tables.long small as-first as-rest).1

  reads-of : AreReads d (first_of w).level 0 (entries_in d (w ∷ rest))
  reads-of =
      tables-reads _ d (first_of w) (xs Points ((first_of w).level + 1) d root w rest laid.tables.long small as-first
      as-rest) (numbers-many Points ((first_of w).level + 1) d root w rest laid.tables.long small as-first
      as-rest) (numbers-fit Points ((first_of w).level + 1) d root w rest laid.tables.long small as-first as-rest)
      laid.tables.tables

  module _ (ns : List PlainNode) (many : length ns ≡ (first_of w).children) where
    all-kids : children_in (entries_in d (w ∷ rest)) ≡ length ns
    all-kids = kids-of ∙ sym many

    all-points : points_in (entries_in d (w ∷ rest)) ≡ length (values_in d (w ∷ rest))
    all-points =
        spots-in (entries_in d (w ∷ rest)) ∙ values-many Points ((first_of w).level + 1) d root w rest laid.tables.long small as-first as-rest

    made : IsRecorded d (w ∷ rest) ns
    made = record {
      laid = laid;
      packed = record {
        whole = (all-kids, all-points);
        packed = sym (pack-unpacked Points ((first_of w).level + 1) d root w rest laid.tables.long small as-first as-rest ns many);
      };
      node = record {
        some = laid.tables.some;
        few = laid.tables.few;
        low = laid.tables.low;
        rise = rising d (first_of w).level 0 (entries_in d (w ∷ rest)) (values_in d (w ∷ rest)) ns all-kids all-points reads-of;
      };
    }

pub recorded : (d : ℕ) (ws : List ℕ) (ns : List PlainNode) → IsLaidOut d ws → Each (λ x. x < 2 ^ 64) ws → length ns ≡ (first_in ws).children → IsRecorded d ws ns
recorded d [] ns laid small many = let z = laid.tables.long in absurd (omega (arith, z))
recorded d (w ∷ rest) ns laid small many = made d w rest laid small ns many

-- the entries of a record have rising addresses, and as many of them are children as its first word says
pub reads-there : (d : ℕ) (ws : List ℕ) → IsLaidOut d ws → Each (λ x. x < 2 ^ 64) ws → AreReads d (first_in ws).level 0 (entries_in d ws)
reads-there d [] laid small = let z = laid.tables.long in absurd (omega (arith, z))
reads-there d (w ∷ rest) laid small = reads-of d w rest laid small

pub kids-there : (d : ℕ) (ws : List ℕ) → IsLaidOut d ws → Each (λ x. x < 2 ^ 64) ws → children_in (entries_in d ws) ≡ (first_in ws).children
kids-there d [] laid small = let z = laid.tables.long in absurd (omega (arith, z))
kids-there d (w ∷ rest) laid small = kids-of d w rest laid small
