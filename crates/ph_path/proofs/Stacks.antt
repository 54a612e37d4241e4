-- Stacked elements.
use Rattle.std.proofs.Common.{◌≡◌, ℕ, suc, ◌<◌, List, [], ◌∷◌, ◌++◌, length, drop, refl, sym, ◌∙◌, ap, subst, arith, Bool, true, false}
use Rattle.std.specs.Prelude.{◌↔◌, IsSome, Option, Some, None}
use Rattle.std.specs.Option.{option_to_list}
use Rattle.ph_path.specs.Stacked.{top_first, AllThere, last_first, AreStacked}

-- ---- a list that grows at its end

top-snoc : {X : Type 0} (xs : List (Option X)) (x : X) → top_first (xs ++ Some x ∷ []) ≡ x ∷ top_first xs
top-snoc [] x = refl
top-snoc (None ∷ xs) x = top-snoc xs x
top-snoc {X = X} (Some y ∷ xs) x = ap {B = List X} (λ zs. zs ++ y ∷ []) (top-snoc xs x)

there-snoc : {X : Type 0} (xs : List (Option X)) (x : X) → AllThere xs → AllThere (xs ++ Some x ∷ [])
there-snoc [] x h = tt
there-snoc (None ∷ xs) x h = absurd h
there-snoc (Some y ∷ xs) x h = there-snoc xs x h

there-front : {X : Type 0} (xs : List (Option X)) (o : Option X) → AllThere (xs ++ o ∷ []) → AllThere xs
there-front [] o h = tt
there-front (None ∷ xs) o h = absurd h
there-front (Some y ∷ xs) o h = there-front xs o h

none-last : {X A : Type 0} (xs : List (Option X)) → AllThere (xs ++ None ∷ []) → A
none-last [] h = absurd h
none-last (None ∷ xs) h = absurd h
none-last (Some y ∷ xs) h = none-last xs h

top-long : {X : Type 0} (xs : List (Option X)) → AllThere xs → length xs ≡ length (top_first xs)
top-long [] h = refl
top-long (None ∷ xs) h = absurd h
top-long (Some y ∷ xs) h = ap suc (top-long xs h) ∙ sym (more (top_first xs) y)
  where
    more : {X : Type 0} (xs : List X) (y : X) → length (xs ++ y ∷ []) ≡ suc (length xs)
    more [] y = refl
    more (x ∷ xs) y = ap suc (more xs y)

-- ---- the last one apart

-- the first one
pub first-pushed : {X : Type 0} (o : Option X) (xs : List (Option X)) (x : X) (seen : List X) → AreStacked o xs →
    o ≡ None → last_first o xs ≡ seen → AllThere xs × (x ∷ top_first xs ≡ x ∷ seen)
first-pushed {X = X} o xs x seen h e v =
    let none : xs ≡ [] = subst (λ o. AreStacked o xs) e h in
    (subst AllThere (sym none) tt, ap {B = List X} (λ s. x ∷ s) (ap (λ o. last_first o xs) (sym e) ∙ v))

-- one more
pub pushed : {X : Type 0} (o : Option X) (xs ys : List (Option X)) (y x : X) (seen : List X) → AreStacked o xs →
    o ≡ Some y → ys ≡ xs ++ Some y ∷ [] → last_first o xs ≡ seen → AllThere ys × (x ∷ top_first ys ≡ x ∷ seen)
pushed {X = X} o xs ys y x seen h s e v =
    let all : AllThere xs = subst (λ o. AreStacked o xs) s h in
    let was : y ∷ top_first xs ≡ seen = ap (λ o. last_first o xs) (sym s) ∙ v in
    (subst AllThere (sym e) (there-snoc xs y all), ap {B = List X} (λ s. x ∷ s) (ap top_first e ∙ top-snoc xs y ∙ was))

pub few-above : {X : Type 0} (o : Option X) (xs : List (Option X)) (y : X) (seen : List X) (n : ℕ) → AreStacked o xs →
    o ≡ Some y → last_first o xs ≡ seen → length seen < n → length xs < n
few-above o xs y seen n h s v l =
    let all : AllThere xs = subst (λ o. AreStacked o xs) s h in
    let e : suc (length (top_first xs)) ≡ length seen = ap (λ s. length s) (ap (λ o. last_first o xs) (sym s) ∙ v) in
    omega (arith, top-long xs all, e, l)

-- one less: what was above it is seen
pub left : {X : Type 0} (o : Option X) (xs ys : List (Option X)) (p : Option (Option X)) (f : Option X)
    (seen : List X) → AreStacked o xs → xs ≡ ys ++ option_to_list p → p ≡ Some f → last_first o xs ≡ seen →
    AreStacked f ys × (last_first f ys ≡ drop 1 seen)
left {X = X} None xs ys p f seen h e s v =
    absurd (let n : length (ys ++ f ∷ []) ≡ 0 = ap length (sym (ap {B = List (Option X)} (λ p. ys ++ option_to_list p) s) ∙ sym e ∙ h) in more ys n)
  where
    more : (ys : List (Option X)) → length (ys ++ f ∷ []) ≡ 0 → ⊥
    more [] n = omega (arith, n)
    more (y ∷ ys) n = omega (arith, n)
left {X = X} (Some x) xs ys p f seen h e s v =
    by_last f (subst AllThere i h) (sym (ap {B = List X} (drop 1) v) ∙ ap top_first i)
  where
    i : xs ≡ ys ++ f ∷ []
    i = e ∙ ap {B = List (Option X)} (λ p. ys ++ option_to_list p) s

    by_last : (f : Option X) → AllThere (ys ++ f ∷ []) → drop 1 seen ≡ top_first (ys ++ f ∷ []) → AreStacked f ys × (last_first f ys ≡ drop 1 seen)
    by_last None k w = none-last ys k
    by_last (Some z) k w = (there-front ys (Some z) k, sym (top-snoc ys z) ∙ sym w)

-- and nothing where there was no other
pub left-none : {X : Type 0} (o : Option X) (xs ys : List (Option X)) (p : Option (Option X)) (seen : List X) →
    AreStacked o xs → xs ≡ ys ++ option_to_list p → p ≡ None → (IsSome p ↔ (0 < length xs)) → last_first o xs ≡ seen →
    (ys ≡ []) × (top_first ys ≡ drop 1 seen)
left-none {X = X} o xs ys p seen h e s k v =
    let none : xs ≡ [] = empty xs (λ l. subst (λ p. IsSome p) s (k.1 l)) in
    let gone : ys ≡ [] = front ys (option_to_list p) (sym e ∙ none) in
    (gone, ap top_first gone ∙ by_last o (ap (last_first o) (sym none) ∙ v))
  where
    empty : (xs : List (Option X)) → (0 < length xs → IsSome {T = Option X} None) → xs ≡ []
    empty [] f = refl
    empty (x ∷ xs) f = let no : ◌≡◌ {A = Bool} false true = f (omega arith) in cc

    front : (xs ys : List (Option X)) → xs ++ ys ≡ [] → xs ≡ []
    front [] ys e = refl
    front (x ∷ xs) ys e = absurd (let n : suc (length (xs ++ ys)) ≡ 0 = ap length e in omega (arith, n))

    by_last : (o : Option X) → last_first o [] ≡ seen → [] ≡ drop 1 seen
    by_last None e = ap {B = List X} (drop 1) e
    by_last (Some x) e = ap {B = List X} (drop 1) e

-- another in its place
pub replaced : {X : Type 0} (o : Option X) (xs : List (Option X)) (x : X) (seen : List X) → AreStacked o xs →
    last_first o xs ≡ seen → AllThere xs × (x ∷ top_first xs ≡ x ∷ drop 1 seen)
replaced {X = X} None xs x seen h v =
    (subst AllThere (sym h) tt, ap {B = List X} (λ s. x ∷ s) (ap top_first h ∙ sym (ap {B = List X} (λ s. drop 1 (top_first s)) h) ∙ ap {B = List X} (drop 1) v))
replaced {X = X} (Some y) xs x seen h v = (h, ap {B = List X} (λ s. x ∷ drop 1 s) v)
