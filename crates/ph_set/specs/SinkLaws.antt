-- Sinks take rows one after another.
use Rattle.std.proofs.Common.{◌≡◌, ℕ, ◌+◌, ◌-◌, ◌≤◌, inl, inr, List, [], ◌++◌, length, refl, sym, ◌∙◌, ap, arith, append_assoc, length-append}
use Rattle.std.specs.Prelude.{Option, Some, None, if◌then◌else◌, vec_capacity}
use Rattle.std.specs.declared.vec.Vec.{Vec}
use Rattle.std.proofs.lemmas.Bool.{cases_lt, lt-ltb, le-ltb}
use Rattle.std.proofs.lemmas.List.{append-nil}
use Rattle.ph_specs.specs.Table.{Row}
use Rattle.ph_set.specs.Sinks.{HasKept, Keeps, left_behind}

pub keeps-none : {Z : Type 0} (s : Vec Row Z) → Keeps s s []
keeps-none s room = record { items = sym (append-nil s.items); room = omega arith }

pub keeps-more : {Z : Type 0} (r s t : Vec Row Z) (xs ys : List Row) → Keeps r s xs → Keeps s t ys → Keeps r t (xs ++ ys)
keeps-more r s t xs ys h k room =
    let all = length-append xs ys in
    let one : HasKept r s xs = h (omega (arith, room, all)) in
    let long : length s.items ≡ length r.items + length xs = ap (λ t. length t) one.items ∙ length-append r.items xs in
    let wide : vec_capacity r ≤ vec_capacity s = one.room in
    let two : HasKept s t ys = k (omega (arith, room, all, long, wide)) in
    record {
      items = two.items ∙ ap (λ l. l ++ ys) one.items ∙ append_assoc r.items xs ys;
      room = omega (arith, wide, two.room);
    }

pub left-none : (o : Option ℕ) → o ≡ left_behind o 0
left-none None = refl
left-none (Some k) =
    let same : k ≡ k - 0 = omega arith in
    ap {B = Option ℕ} (λ n. Some n) same ∙ sym (ap (λ b. if b then None else Some (k - 0)) (le-ltb k 0 (omega arith)))

-- so many and then so many more
behind-both : (o : Option ℕ) (m n : ℕ) → left_behind (left_behind o m) n ≡ left_behind o (m + n)
behind-both None m n = refl
behind-both (Some k) m n =
    elim (cases_lt k m) [
      | inl l ↦
          ap (λ b. left_behind (if b then None else Some (k - m)) n) (lt-ltb k m l)
          ∙ sym (ap (λ b. if b then None else Some (k - (m + n))) (lt-ltb k (m + n) (omega (arith, l))))
      | inr l ↦ ap (λ b. left_behind (if b then None else Some (k - m)) n) (le-ltb k m l) ∙ rest l
    ]
  where
    rest : m ≤ k → left_behind (Some (k - m)) n ≡ left_behind (Some k) (m + n)
    rest l =
        elim (cases_lt (k - m) n) [
          | inl s ↦
              ap (λ b. if b then None else Some (k - m - n)) (lt-ltb (k - m) n s)
              ∙ sym (ap (λ b. if b then None else Some (k - (m + n))) (lt-ltb k (m + n) (omega (arith, l, s))))
          | inr s ↦
              let same : k - m - n ≡ k - (m + n) = omega (arith, l, s) in
              ap (λ b. if b then None else Some (k - m - n)) (le-ltb (k - m) n s)
              ∙ ap {B = Option ℕ} (λ i. Some i) same
              ∙ sym (ap (λ b. if b then None else Some (k - (m + n))) (le-ltb k (m + n) (omega (arith, l, s))))
        ]

pub left-more : (o p q : Option ℕ) (xs ys : List Row) → p ≡ left_behind o (length xs) → q ≡ left_behind p (length ys) → q ≡ left_behind o (length (xs ++ ys))
left-more o p q xs ys h k =
    k ∙ ap (λ t. left_behind t (length ys)) h ∙ behind-both o (length xs) (length ys) ∙ ap (left_behind o) (sym (length-append xs ys))
