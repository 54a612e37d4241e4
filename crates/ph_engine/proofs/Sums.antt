-- What lines cost in two parts.
use Rattle.std.proofs.Common.{◌≡◌, ◌+◌, ℕ, inl, inr, arith, Bool, true, false, ◌||◌, List, [], ◌++◌, refl, ◌∙◌}
use Rattle.ph_slot.specs.Beside.{Beside, Tells, Filings}
use Rattle.ph_engine.specs.Machine.{Machine, Turn, after, some_uses, faults_in}
use Rattle.ph_engine.specs.Costs.{Spent, Worked}
use Rattle.ph_engine.proofs.Machines.{total-append, faults-append, uses-append}

tells_both : (a b c m n : ℕ) → Tells a b m → Tells b c n → Tells a c (m + n)
tells_both a b c m n (inl h) (inl k) = inl k
tells_both a b c m n (inl h) (inr k) = inl (omega (arith, h, k))
tells_both a b c m n (inr h) (inl k) = inl k
tells_both a b c m n (inr h) (inr k) = inr (omega (arith, h, k))

neither : (a b : Bool) → (a || b) ≡ false → (a ≡ false) × (b ≡ false)
neither true b h = absurd (let no : true ≡ false = h in cc)
neither false b h = (refl, h)

filings_both : (p q : Bool) (m n a b c : ℕ) → Filings p m a b → Filings q n b c → Filings (p || q) (m + n) a c
filings_both p q m n a b c h k = record {
  told = tells_both a b c m n h.told k.told;
  later = omega (arith, h.later, k.later);
  quiet = λ none. let each = neither p q none in k.quiet each.1 ∙ h.quiet each.0;
}

pub no-filings : (n : ℕ) → Filings false 0 n n
no-filings n = record { told = inr (omega arith); later = omega arith; quiet = λ _. refl }

pub spent_both : {S : Type 0} (m : Machine S) (s between : S) (xs ys : List Turn) (b middle now_b : Beside) →
    between ≡ after m s xs → Spent m s xs b middle → Spent m between ys middle now_b → Spent m s (xs ++ ys) b now_b
spent_both m s between xs ys b middle now_b e h l =
    let k : Spent m (after m s xs) ys middle now_b = rw e at l in
    record {
      filings = rw (faults-append xs ys, uses-append m s xs ys)
          (filings_both (some_uses m s xs) (some_uses m (after m s xs) ys) (faults_in xs) (faults_in ys) b.filings
          middle.filings now_b.filings h.filings k.filings);
      most_visits = omega (arith, h.most_visits, k.most_visits, total-append (λ w. w.most_visits) m s xs ys);
      most_changes = omega (arith, h.most_changes, k.most_changes, total-append (λ w. w.most_changes) m s xs ys);
    }

pub worked_both : {S : Type 0} (m : Machine S) (s between : S) (xs ys : List Turn) (b middle now_b : Beside) →
    between ≡ after m s xs → Worked m s xs b middle → Worked m between ys middle now_b → Worked m s (xs ++ ys) b now_b
worked_both m s between xs ys b middle now_b e h l =
    let k : Worked m (after m s xs) ys middle now_b = rw e at l in
    record {
      spent = spent_both m s between xs ys b middle now_b e h.spent l.spent;
      least_visits = omega (arith, h.least_visits, k.least_visits, total-append (λ w. w.least_visits) m s xs ys);
      least_changes = omega (arith, h.least_changes, k.least_changes, total-append (λ w. w.least_changes) m s xs ys);
    }

pub worked_none : {S : Type 0} (m : Machine S) (s : S) (b : Beside) → Worked m s [] b b
worked_none m s b = record {
  spent = record { filings = no-filings b.filings; most_visits = omega arith; most_changes = omega arith };
  least_visits = omega arith;
  least_changes = omega arith;
}
