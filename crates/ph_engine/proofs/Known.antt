-- A run over files of which something is known, or nothing.
use Rattle.std.proofs.Common.{◌≡◌, ℕ, false, List, [], refl, sym, subst}
use Rattle.std.specs.declared.option.Option.{Option}
use Rattle.ph_io.specs.Shelf.{Stays}
use Rattle.ph_specs.specs.State.{Engine, Files}
use Rattle.ph_slot.specs.Beside.{Beside}
use Rattle.ph_engine.specs.Machine.{Machine}
use Rattle.ph_engine.specs.Outcomes.{Outcome}
use Rattle.ph_engine.specs.ScriptMachine.{Whole, whole, told_now}
use Rattle.ph_engine.specs.declared.status.Status.TheVariants as by
use Rattle.ph_engine.proofs.Answered.{known-still}
use Rattle.ph_engine.proofs.Runs.{Reached, reached-none, starved-at-once}

-- memory is missing before the first read
pub starved-known : (m : Machine Whole) (most : ℕ) (left : Option (List ℕ)) (b : Beside) (e : Engine)
    (known told : Option Files) → Stays known told →
    Outcome m most left left b b (whole e known) (whole e (told_now known told)) by.Memory
starved-known m most left b e known told fits =
    subst (λ x. Outcome m most left left b b (whole e known) (whole e x) by.Memory)
    (sym (known-still known told told fits refl)) (starved-at-once m most left b (whole e known))

-- nothing was read yet
pub reached-known : (m : Machine Whole) (left : Option (List ℕ)) (b : Beside) (e : Engine) (known told : Option Files)
    (kept : List ℕ) → Stays known told → kept ≡ [] →
    Reached m left left b b (whole e known) (whole e (told_now known told)) kept false 0
reached-known m left b e known told kept fits h =
    subst (λ x. Reached m left left b b (whole e known) (whole e x) kept false 0)
    (sym (known-still known told told fits refl)) (reached-none m left b (whole e known) kept h)
