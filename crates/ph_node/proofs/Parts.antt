-- The two entries of a child that splits an entry.
use Rattle.std.proofs.Common.{◌≡◌, ℕ, ◌+◌, ◌<◌, List, [], ◌∷◌, arith}
use Rattle.ph_digits.specs.Differences.{IsTopDifference}
use Rattle.ph_digits.proofs.Cuts.{is_body-below, address-below, other_address}
use Rattle.ph_digits.proofs.Tops.{top-lower}
use Rattle.ph_model.specs.EntryList.{Entry, What}
use Rattle.ph_model.specs.Lawful.{IsBody}
use Rattle.ph_model.specs.PutTree.{digits_from, split_place}
use Rattle.ph_model.specs.EntryEdits.{inserted}
use Rattle.ph_model.proofs.laws.SplitPlace.{split_place-is}
use Rattle.ph_node.specs.Kept.{IsKept}
use Rattle.ph_node.specs.Split.{entry_below}
use Rattle.ph_node.proofs.Keeps.{IsKeptAt, kept-pair}

-- two bodies below a level, and the greatest place at which they differ
pub record AreApart (dims level place : ℕ) (old new : List ℕ) : Type 0 where
  pub lower : place < level
  pub old_body : IsBody dims level old
  pub new_body : IsBody dims level new
  pub agree : digits_from (place + 1) old ≡ digits_from (place + 1) new
  pub differ : digits_from place old ≡ digits_from place new → ⊥

pub apart : (dims level place : ℕ) (old new : List ℕ) → IsBody dims level old → IsBody dims level new → IsTopDifference old new place → AreApart dims level place old new
apart dims level place old new o n t =
    record { lower = top-lower dims level place old new o n t; old_body = o; new_body = n; agree = t.agree; differ = t.differ }

pub apart-place : (dims level place : ℕ) (old new : List ℕ) → AreApart dims level place old new → split_place level old new ≡ place
apart-place dims level place old new a = split_place-is level place old new a.lower a.agree a.differ

below-kept : (dims level place : ℕ) (body : List ℕ) (what : What) → IsBody dims level body → IsKeptAt dims place (entry_below place body what)
below-kept dims level place body what b =
    record { address = address-below dims place body b.0; body = is_body-below dims place body b.0 }

pub child-kept : (dims level place : ℕ) (es : List Entry) (old new : List ℕ) (w u : What) → IsKept dims level es →
    AreApart dims level place old new → IsKept dims place (inserted (entry_below place new u) (entry_below place old w ∷ []))
child-kept dims level place es old new w u k a =
    record {
      some = k.some;
      few = k.few;
      low = omega (arith, k.low, a.lower);
      rise = kept-pair dims place (entry_below place old w) (entry_below place new u)
          (other_address place old new (omega (arith, a.old_body.0, a.new_body.0)) a.agree a.differ)
          (below-kept dims level place old w a.old_body)
          (below-kept dims level place new u a.new_body);
    }
