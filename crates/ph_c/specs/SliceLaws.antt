-- What a sink over a lent array leaves, a later state leaves too.
use Rattle.std.specs.Prelude.{◌≡◌, ◌≤◌, ◌-◌, ◌+◌, ℕ, List, drop, refl}
use Rattle.std.proofs.Common.{◌∙◌, sym, ap, subst, arith}
use Rattle.std.proofs.lemmas.List.{drop-drop}
use Rattle.ph_c.specs.Slices.{Slice, Follows}

-- lists that are the same behind a place are so behind a later one
later-same : (m n : ℕ) (xs ys : List ℕ) → m ≤ n → drop m xs ≡ drop m ys → drop n xs ≡ drop n ys
later-same m n xs ys h e =
    let k : m + (n - m) ≡ n = omega arith in
    subst (λ i. drop i xs ≡ drop i ys) k (sym (drop-drop (n - m) m xs) ∙ ap (drop (n - m)) e ∙ drop-drop (n - m) m ys)

pub follows_itself : (a : Slice) → Follows a a
follows_itself a = record { loan = refl; size = refl; later = omega arith; behind = refl; works = λ h. refl }

pub follows_on : (a b c : Slice) → Follows a b → Follows b c → Follows a c
follows_on a b c h k = record {
  loan = k.loan ∙ h.loan;
  size = k.size ∙ h.size;
  later = omega (arith, h.later, k.later);
  behind = k.behind ∙ later-same b.count c.count b.bytes a.bytes k.later h.behind;
  works = λ l. k.works l ∙ h.works (omega (arith, l, k.later, k.size));
}
