-- Listings for at most so many visits, and at least those that are owed.
use Rattle.std.proofs.Common.{◌≡◌, ◌≤◌, ◌+◌, ℕ, List, [], ◌∷◌, ◌++◌, length, map, drop, refl, ap, arith}
use Rattle.std.specs.Prelude.{Some, None, Result, IfOk, IfErr, OnOk, OnErr, slice_get}
use Rattle.ph_io.specs.Giving.{Taken, Given}
use Rattle.ph_io.specs.Writing.{WritesFront}
use Rattle.ph_io.specs.declared.streams.Sink.{Ghosts as SinkTells}
use Rattle.ph_specs.specs.Reply.{Reply, reply_text}
use Rattle.ph_commands.specs.Telling.{refuses, is_refusal}
use Rattle.ph_commands.specs.Listing.{FrontListed, Lists}
use Rattle.ph_commands.specs.Told.{taken_by}
use Rattle.ph_commands.specs.declared.answer.Answer.{Answer}
use Rattle.ph_commands.specs.declared.answer.Stop.{Stop}
use Rattle.ph_commands.specs.declared.answer.Stop.TheVariants.{WriteFault}
use Rattle.ph_commands.proofs.Replies.{IsGiven, none_given, next-is}
use Rattle.ph_commands.proofs.Listed.{item-given, item-front, none-left, items-said}

-- A loop lists items: of the visits that it may make so many are left at most, and so many at least.
pub record IsWithin {X : Type 0} (f : X → Reply) (all left : List X) (count : ℕ) (a b : Taken) (faults now_faults v due owed now_v now_due now_owed : ℕ) : Type 0 where
  pub later : faults ≤ now_faults
  pub given : IsGiven (map f all ++ Reply.End (length all) ∷ []) (map f left ++ Reply.End (length all) ∷ []) a b
  pub counted : count + length left ≡ length all
  pub few : now_v + now_due ≤ v + due
  pub enough : v + owed ≤ now_v + now_owed

abbrev pub IsWithinBy : {O X : Type 0} → SinkTells O → (X → Reply) → List X → List X → ℕ → O → O → ℕ → ℕ → ℕ → ℕ → ℕ → ℕ → Type 0
IsWithinBy sink f all left count out now_out v due owed now_v now_due now_owed =
    IsWithin f all left count (taken_by sink out) (taken_by sink now_out) (sink.faults out) (sink.faults now_out) v due owed now_v now_due now_owed

pub none_within : {X : Type 0} (f : X → Reply) (all : List X) (a : Taken) (faults v due owed : ℕ) → IsWithin f all all 0 a a faults faults v due owed v due owed
none_within f all a faults v due owed =
    record { later = omega arith; given = none_given _ a; counted = omega arith; few = omega arith; enough = omega arith }

module _ {X : Type 0} {f : X → Reply} {all left : List X} {count : ℕ} {a b : Taken} {faults now_faults v due owed now_v now_due now_owed : ℕ}
    (l : IsWithin f all left count a b faults now_faults v due owed now_v now_due now_owed) where
  -- one more is listed
  pub one_within : {next : List X} {x : X} {c : Taken} {later_faults later_v later_due later_owed : ℕ} → Some x ≡ slice_get left 0 →
      next ≡ drop 1 left → Given b c (reply_text (f x)) → now_faults ≤ later_faults → later_v + later_due ≤ now_v + now_due →
      now_v + now_owed ≤ later_v + later_owed → IsWithin f all next (count + 1) a c faults later_faults v due owed later_v later_due later_owed
  one_within {next} {x} {c} h rest told later few enough =
      let e = next-is left next x h rest in
      record {
        later = omega (arith, l.later, later);
        given = item-given f _ _ left next x a b c l.given e told;
        counted = omega (arith, l.counted, ap (λ xs. length xs) e);
        few = omega (arith, l.few, few);
        enough = omega (arith, l.enough, enough);
      }

  -- before one more there are fewer than all
  pub few_within : {next : List X} {x : X} → Some x ≡ slice_get left 0 → next ≡ drop 1 left → count + 1 ≤ length all
  few_within {next} {x} h rest = omega (arith, l.counted, ap (λ xs. length xs) (next-is left next x h rest))

  -- a front of one more is written
  pub within_cut : (later_due : ℕ) {next : List X} {x : X} {c : Taken} {stop : Stop} {later_v : ℕ} → Some x ≡ slice_get left 0 →
      next ≡ drop 1 left → WritesFront b c (reply_text (f x)) → stop ≡ WriteFault → later_v + later_due ≤ now_v + now_due →
      FrontListed (map f all ++ Reply.End (length all) ∷ []) due a c v later_v stop
  within_cut later_due {next} {x} {c} h rest front fault cost = record {
    front = item-front f _ _ left next x a b c l.given (next-is left next x h rest) front;
    fault = fault;
    visited = omega (arith, l.few, cost);
  }

  -- all are listed, and what comes behind them was said
  pub all_within : (c : Taken) (later_v later_due : ℕ) {later_owed : ℕ} (result : Result Answer Stop) → None ≡ slice_get left 0 →
      later_v + later_due ≤ now_v + now_due → now_v + now_owed ≤ later_v + later_owed → later_owed ≡ 0 →
      IfOk result (λ answer. refuses answer ≡ is_refusal (reply_text (Reply.End count))) →
      OnOk result (Given b c (reply_text (Reply.End count))) → IfErr result (λ stop. stop ≡ WriteFault) →
      OnErr result (WritesFront b c (reply_text (Reply.End count))) →
      Lists (map f all ++ Reply.End (length all) ∷ []) owed due a c v later_v result
  all_within c later_v later_due result h cost grows end good told fault front =
      let none = none-left left h in
      items-said f all left (length all) count owed due v later_v a b c result l.given none
      (omega (arith, l.counted, ap (λ xs. length xs) none)) good told fault front
      (omega (arith, l.enough, grows, end)) (omega (arith, l.few, cost))
