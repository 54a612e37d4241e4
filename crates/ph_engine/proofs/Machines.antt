-- A machine over lines in two parts.
use Rattle.std.proofs.Common.{◌≡◌, ◌+◌, ℕ, arith, Bool, true, false, ◌||◌, List, [], ◌∷◌, ◌++◌, refl, ap, sym, ◌∙◌, append_assoc}
use Rattle.std.proofs.lemmas.List.{map-append}
use Rattle.ph_engine.specs.Machine.{Machine, Turn, answers, after, some_refused, some_uses, total, lines_of, faults_in}
use Rattle.ph_commands.specs.Working.{Work}
use Rattle.ph_commands.specs.Telling.{is_refusal}

pub answers-append : {S : Type 0} (m : Machine S) (s : S) (xs ys : List Turn) → answers m s (xs ++ ys) ≡ answers m s xs ++ answers m (after m s xs) ys
answers-append m s [] ys = refl
answers-append m s (t ∷ xs) ys =
    ap (λ r. m.answer s t ++ r) (answers-append m (m.next s t) xs ys) ∙
    sym (append_assoc (m.answer s t) (answers m (m.next s t) xs) (answers m (after m (m.next s t) xs) ys))

pub after-append : {S : Type 0} (m : Machine S) (s : S) (xs ys : List Turn) → after m s (xs ++ ys) ≡ after m (after m s xs) ys
after-append m s [] ys = refl
after-append m s (t ∷ xs) ys = after-append m (m.next s t) xs ys

or_assoc : (a b c : Bool) → (a || (b || c)) ≡ ((a || b) || c)
or_assoc true b c = refl
or_assoc false b c = refl

pub refused-append : {S : Type 0} (m : Machine S) (s : S) (xs ys : List Turn) → some_refused m s (xs ++ ys) ≡ (some_refused m s xs || some_refused m (after m s xs) ys)
refused-append m s [] ys = refl
refused-append m s (t ∷ xs) ys =
    ap (λ r. is_refusal (m.answer s t) || r) (refused-append m (m.next s t) xs ys)
    ∙ or_assoc (is_refusal (m.answer s t)) (some_refused m (m.next s t) xs) (some_refused m (after m (m.next s t) xs) ys)

pub uses-append : {S : Type 0} (m : Machine S) (s : S) (xs ys : List Turn) → some_uses m s (xs ++ ys) ≡ (some_uses m s xs || some_uses m (after m s xs) ys)
uses-append m s [] ys = refl
uses-append m s (t ∷ xs) ys = ap (λ r. m.uses s t || r) (uses-append m (m.next s t) xs ys) ∙
    or_assoc (m.uses s t) (some_uses m (m.next s t) xs) (some_uses m (after m (m.next s t) xs) ys)

pub total-append : {S : Type 0} (bound : Work → ℕ) (m : Machine S) (s : S) (xs ys : List Turn) →
    total bound m s (xs ++ ys) ≡ total bound m s xs + total bound m (after m s xs) ys
total-append bound m s [] ys = omega arith
total-append bound m s (t ∷ xs) ys = omega (arith, total-append bound m (m.next s t) xs ys)

pub faults-append : (xs ys : List Turn) → faults_in (xs ++ ys) ≡ faults_in xs + faults_in ys
faults-append [] ys = omega arith
faults-append (t ∷ xs) ys = omega (arith, faults-append xs ys)

pub lines-append : (xs ys : List Turn) → lines_of (xs ++ ys) ≡ lines_of xs ++ lines_of ys
lines-append xs ys = map-append (λ t. t.line) xs ys

pub or_false : (b : Bool) → (b || false) ≡ b
or_false true = refl
or_false false = refl
