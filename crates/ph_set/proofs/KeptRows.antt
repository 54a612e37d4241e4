-- Rows that a set operation keeps of two tables: its rows, a table, and what they cost.
use Rattle.std.proofs.Common.{◌≡◌, ℕ, ◌+◌, ◌≤◌, true, List, length, refl, ◌∙◌, sym, ap, subst, arith}
use Rattle.std.specs.Prelude.{not}
use Rattle.std.proofs.lemmas.Bool.{and_parts}
use Rattle.std.proofs.lemmas.List.Filters.{length-filter_both}
use Rattle.ph_specs.specs.Sets.{common, minus}
use Rattle.ph_specs.specs.Table.{Row, IsTable, has}
use Rattle.ph_specs.specs.WorkSets.{all_nodes}
use Rattle.ph_specs.proofs.laws.Points.{table-points}
use Rattle.ph_model.proofs.laws.SetOperations.{union-combined, common-combined, minus-combined}
use Rattle.ph_specs.proofs.laws.Sets.{is_table-union, is_table-common, is_table-minus}
use Rattle.ph_set.specs.Meeting.{kept, work}
use Rattle.ph_set.specs.Operations.{plan_of, rows_of, room_of, visits_of}
use Rattle.ph_set.specs.declared.operations.Operation.{Operation}
use Rattle.ph_set.specs.declared.operations.Operation.TheVariants.{Union, Common, Minus}
use Rattle.ph_set.specs.declared.plan.Plan.{Plan}
use Rattle.ph_set.proofs.Rooms.{few-combined, few-common}
use Rattle.ph_set.proofs.Sights.{seen-all}

-- ---- rows of the first table alone

lengths : (a b : List Row) → length (common a b) + length (minus a b) ≡ length a
lengths a b = length-filter_both (λ r. has b r.point) (λ r. not (has b r.point)) (λ r. refl) a

pub fewer-common : (a b : List Row) → length (common a b) ≤ length a
fewer-common a b = omega (arith, lengths a b)

pub fewer-minus : (a b : List Row) → length (minus a b) ≤ length a
fewer-minus a b = omega (arith, lengths a b)

-- ---- what a plan keeps

-- what the plan of an operation keeps of two tables of a width
pub record AreKept (p : Plan) (o : Operation) (w d : ℕ) (a b : List Row) : Type 0 where
  pub rows : kept p a b ≡ rows_of o w a b
  pub table : IsTable w d (rows_of o w a b)
  pub visits : work p a (all_nodes p.width d a) b (all_nodes p.width d b) ≡ visits_of o w d a b
  pub room : length (rows_of o w a b) ≤ room_of o (length a) (length b)

pub by_operation : (o : Operation) (w d : ℕ) (a b : List Row) → IsTable w d a → IsTable w d b → 1 ≤ w → AreKept (plan_of o w) o w d a b
by_operation Union w d a b left right wide =
    let same = union-combined w d a b wide (table-points w d a left) (and_parts _ _ left).0 (table-points w d b right) (and_parts _ _ right).0 in
    record {
      rows = same;
      table = is_table-union w d a b wide left right;
      visits = omega (arith, seen-all w b (all_nodes w d a), seen-all w a (all_nodes w d b));
      room = omega (arith, ap (λ t. length t) same, few-combined w true true true a b);
    }
by_operation Common w d a b left right wide =
    let same = common-combined w a b (and_parts _ _ left).0 in
    record {
      rows = same;
      table = is_table-common w d a b left;
      visits = omega arith;
      room = omega (arith, fewer-common a b, ap (λ t. length t) same, few-common w a b);
    }
by_operation Minus w d a b left right wide =
    record {
      rows = minus-combined w a b (and_parts _ _ left).0;
      table = is_table-minus w d a b left;
      visits = omega (arith, seen-all w b (all_nodes w d a));
      room = fewer-minus a b;
    }

pub plan-width : (o : Operation) (w : ℕ) → (plan_of o w).width ≡ w
plan-width Union w = refl
plan-width Common w = refl
plan-width Minus w = refl

pub are-kept : {p : Plan} {o : Operation} {w d : ℕ} {a b : List Row} → p ≡ plan_of o w → IsTable p.width d a → IsTable p.width d b → 1 ≤ p.width →
    AreKept p o w d a b
are-kept {p = p} {o = o} {w = w} {d = d} {a = a} {b = b} is left right wide =
    let same : p.width ≡ w = ap (λ q. q.width) is ∙ plan-width o w in
    subst (λ q. AreKept q o w d a b) (sym is)
    (by_operation o w d a b (subst (λ k. IsTable k d a) same left) (subst (λ k. IsTable k d b) same right) (subst (λ k. 1 ≤ k) same wide))
