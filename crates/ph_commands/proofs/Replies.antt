-- Replies that are given to a sink one after another.
use Rattle.std.proofs.Common.{◌≡◌, ◌≤◌, ◌+◌, ℕ, arith, List, [], ◌∷◌, ◌++◌, length, take, drop, refl, ap, sym, ◌∙◌, append_assoc, append-nil}
use Rattle.std.proofs.Common.{length-append}
use Rattle.std.proofs.lemmas.Grind.{common_steps}
use Rattle.std.proofs.Math.Nat.{suc-add}
use Rattle.ph_io.specs.Giving.{Taken, Given}
use Rattle.std.specs.Prelude.{Some, slice_get}
use Rattle.ph_specs.specs.Reply.{Reply, reply_text, replies_text}
use Rattle.ph_io.specs.Writing.{WritesFront}
use Rattle.ph_io.proofs.Appending.{given_none, given_both}

pub texts-append : (rs ss : List Reply) → replies_text (rs ++ ss) ≡ replies_text rs ++ replies_text ss
texts-append [] ss = refl
texts-append (r ∷ rs) ss = ap (λ t. reply_text r ++ t) (texts-append rs ss) ∙ sym (append_assoc (reply_text r) (replies_text rs) (replies_text ss))

-- whole replies, and one more
pub given_more : (a b c : Taken) (rs : List Reply) (r : Reply) → Given a b (replies_text rs) → Given b c (reply_text r) → Given a c (replies_text (rs ++ r ∷ []))
given_more a b c rs r h k =
    let e : replies_text (rs ++ r ∷ []) ≡ replies_text rs ++ reply_text r = texts-append rs (r ∷ []) ∙ ap (λ t. replies_text rs ++ t) (append-nil (reply_text r)) in
    rw e (given_both a b c (replies_text rs) (reply_text r) h k)

take-behind : (xs ys : List ℕ) (n : ℕ) → take (length xs + n) (xs ++ ys) ≡ xs ++ take n ys
take-behind [] ys n = let e : 0 + n ≡ n = omega arith in rw e refl
take-behind (x ∷ xs) ys n = rw (suc-add (length xs) n) (ap (λ t. x ∷ t) (take-behind xs ys n))

take-within : (xs ys : List ℕ) (n : ℕ) → n ≤ length xs → take n (xs ++ ys) ≡ take n xs
take-within xs ys n h = grind (arith, common_steps)

-- whole replies, and a front of one more: a front of all replies
pub front_more : (a b c : Taken) (rs ss : List Reply) (r : Reply) → Given a b (replies_text rs) →
    WritesFront b c (reply_text r) → WritesFront a c (replies_text (rs ++ r ∷ ss))
front_more a b c rs ss r h k =
    let e : replies_text (rs ++ r ∷ ss) ≡ replies_text rs ++ (reply_text r ++ replies_text ss) = texts-append rs (r ∷ ss) in
    let g : Given a c (replies_text rs ++ take k.count (reply_text r)) = given_both a b c (replies_text rs) (take k.count (reply_text r)) h k.told in
    let t : take (length (replies_text rs) + k.count) (replies_text rs ++ (reply_text r ++ replies_text ss)) ≡ replies_text rs ++ take k.count (reply_text r) =
    take-behind (replies_text rs) (reply_text r ++ replies_text ss) k.count ∙ ap (λ x. replies_text rs ++ x)
    (take-within (reply_text r) (replies_text ss) k.count (omega (arith, k.short))) in
    record {
      count = length (replies_text rs) + k.count;
      short = rw e (omega (arith, k.short, length-append (replies_text rs) (reply_text r ++ replies_text ss), length-append (reply_text r) (replies_text ss)));
      told = rw (e, t) g;
    }

-- ---- a loop over replies

-- of all replies some are given, and the others are still to come
pub record IsGiven (all rest : List Reply) (a b : Taken) : Type 0 where
  pub gone : List Reply
  pub split : all ≡ gone ++ rest
  pub told : Given a b (replies_text gone)

pub none_given : (all : List Reply) (a : Taken) → IsGiven all all a a
none_given all a = record { gone = []; split = refl; told = given_none a }

pub one_given : (all rest next : List Reply) (r : Reply) (a b c : Taken) → IsGiven all rest a b → rest ≡ r ∷ next → Given b c (reply_text r) → IsGiven all next a c
one_given all rest next r a b c h e k = record {
  gone = h.gone ++ r ∷ [];
  split = h.split ∙ ap (λ x. h.gone ++ x) e ∙ sym (append_assoc h.gone (r ∷ []) next);
  told = given_more a b c h.gone r h.told k;
}

pub all_given : (all rest : List Reply) (a b : Taken) → IsGiven all rest a b → rest ≡ [] → Given a b (replies_text all)
all_given all rest a b h e = let s : all ≡ h.gone = h.split ∙ ap (λ x. h.gone ++ x) e ∙ append-nil h.gone in rw s h.told

pub front_given : (all rest next : List Reply) (r : Reply) (a b c : Taken) → IsGiven all rest a b → rest ≡ r ∷ next →
    WritesFront b c (reply_text r) → WritesFront a c (replies_text all)
front_given all rest next r a b c h e k =
    let s : all ≡ h.gone ++ r ∷ next = h.split ∙ ap (λ x. h.gone ++ x) e in rw s (front_more a b c h.gone next r h.told k)

-- the first of what is left
pub next-is : {X : Type 0} (xs new : List X) (x : X) → Some x ≡ slice_get xs 0 → new ≡ drop 1 xs → xs ≡ x ∷ new
next-is [] new x h e = absurd cc
next-is (y ∷ xs) new x h e = let f : y ≡ x = cc in ap (λ z. z ∷ xs) f ∙ ap (λ ys. x ∷ ys) (sym e)
