-- What the header of a block tells of its places, and what it has to say after an edit.
--     to-written, of-written      places that are written, as a test and as the words that they have
--     told      what a block's parts are, by what they are seen as
--     held      what they are seen as, by its header
use Rattle.std.proofs.Common.{◌≡◌, ℕ, zero, suc, ◌+◌, ◌-◌, ◌/◌, ◌%◌, ◌^◌, ◌<◌, ◌≤◌, refl, sym, ◌∙◌, ap, subst, arith, true, List}
use Rattle.std.proofs.Common.{[], ◌∷◌, ◌++◌, length, map, take, drop, slice_index_or, slice_set, Option, Some, None}
use Rattle.std.proofs.lemmas.List.{take-append-le}
use Rattle.std.specs.declared.alloc.Global.{Global}
use Rattle.ph_bits.specs.Filled.{Filled}
use Rattle.ph_bits.specs.Headers.{header, header_of, len_of, are_written, shown}
use Rattle.ph_bits.specs.Slots.{given, words_in, AreWritten}
use Rattle.ph_bits.proofs.SlotLists.{in-at, length-in, take-fewer}

-- ---- places that are written

uncons : (c : Option ℕ) (cs : List (Option ℕ)) (xs : List ℕ) → c ∷ cs ≡ map Some xs → (x : ℕ) × ((c ≡ Some x) × (cs ≡ map Some (drop 1 xs)))
uncons c cs [] e = cc
uncons c cs (x ∷ xs) e = (x, (cc, cc))

pub to-written : (n : ℕ) (cs : List (Option ℕ)) → are_written n cs ≡ true → AreWritten n cs
to-written zero cs e = (omega arith, ([], refl))
to-written (suc n) [] e = cc
to-written (suc n) (Some x ∷ cs) e = let h = to-written n cs e in (omega (arith, h.0), (x ∷ h.1.0, ap {B = List (Option ℕ)} (λ t. Some x ∷ t) h.1.1))
to-written (suc n) (None ∷ cs) e = cc

pub of-written : (n : ℕ) (cs : List (Option ℕ)) → AreWritten n cs → are_written n cs ≡ true
of-written zero cs h = refl
of-written (suc n) [] h = absurd (omega (arith, h.0))
of-written (suc n) (Some x ∷ cs) h = of-written n cs (omega (arith, h.0), (drop 1 h.1.0, (uncons (Some x) (take n cs) h.1.0 h.1.1).1.1))
of-written (suc n) (None ∷ cs) h = let u = uncons None (take n cs) h.1.0 h.1.1 in let e : None ≡ Some u.0 = u.1.0 in cc

-- ---- the header's place

pub shows-header : (cs : List (Option ℕ)) (ws : List ℕ) (n : ℕ) → 0 < n → take n cs ≡ map Some ws → header_of cs ≡ slice_index_or ws 0 0
shows-header [] ws zero l e = absurd (omega (arith, l))
shows-header [] [] (suc n) l e = refl
shows-header [] (w ∷ ws) (suc n) l e = cc
shows-header (c ∷ cs) ws zero l e = absurd (omega (arith, l))
shows-header (c ∷ cs) [] (suc n) l e = cc
shows-header (c ∷ cs) (w ∷ ws) (suc n) l e = ap header_of e

pub header-first : (cs : List (Option ℕ)) (x : ℕ) → 0 < length cs → header_of (slice_set cs 0 (Some x)) ≡ x
header-first [] x l = absurd (omega (arith, l))
header-first (c ∷ cs) x l = refl

pub header-behind : (cs : List (Option ℕ)) (i : ℕ) (c : Option ℕ) → header_of (slice_set cs (i + 1) c) ≡ header_of cs
header-behind [] i c = refl
header-behind (d ∷ cs) i c = let e : i + 1 ≡ suc i = omega arith in ap (λ k. header_of (slice_set (d ∷ cs) k c)) e

pub header-before : (cs ds : List (Option ℕ)) → 0 < length cs → header_of (take 1 cs ++ ds) ≡ header_of cs
header-before [] ds l = absurd (omega (arith, l))
header-before (c ∷ cs) ds l = refl

-- ---- places that begin alike

module _ (n : ℕ) (cs ds : List (Option ℕ)) (e : take (n + 1) ds ≡ take (n + 1) cs) where
  pub in-alike : words_in n ds ≡ words_in n cs
  in-alike = in-at n ds ∙ ap (λ (t : List (Option ℕ)). drop 1 (map given t)) e ∙ sym (in-at n cs)

  pub written-alike : n + 1 ≤ length ds → AreWritten (n + 1) cs → AreWritten (n + 1) ds
  written-alike l h = (l, (h.1.0, e ∙ h.1.1))

pub taken : (n m : ℕ) (cs : List (Option ℕ)) → n ≤ m → take n (take m cs) ≡ take n cs
taken n m cs l = sym (take-fewer n m cs l)

pub joined : (n : ℕ) (cs ds : List (Option ℕ)) → n ≤ length cs → take n (cs ++ ds) ≡ take n cs
joined n cs ds l = take-append-le n cs ds l

-- ---- what a look at the parts tells

pub record Tells {X : Type 0} (cs : List (Option ℕ)) (xs : List X) (b : Filled X) : Type 0 where
  pub places : length cs ≡ length b.words + b.spare + 1
  pub words : words_in (length b.words) cs ≡ b.words
  pub written : AreWritten (length b.words + 1) cs
  pub values : xs ≡ b.values
  pub count : length xs ≡ length b.values
  pub head : header_of cs ≡ header (length b.words + b.spare) (length b.words) (length b.values)
  pub fits : length b.words + b.spare + length b.values < 2 ^ 21

pub told : {X : Type 0} (cs : List (Option ℕ)) (xs : List X) (heap : Global) (b : Filled X) → shown cs xs heap ≡ b → length cs + length xs ≤ 2 ^ 21
    → are_written (len_of cs + 1) cs ≡ true → header_of cs + 2 ^ 42 ≡ header (length cs) (len_of cs) (length xs) → Tells cs xs b
told {X = X} cs xs heap b see small w e =
    let h = to-written (len_of cs + 1) cs w in
    let n : len_of cs ≡ length b.words = sym (length-in (len_of cs) cs h.0) ∙ ap (λ (v : Filled X). length v.words) see in
    let m : length xs ≡ length b.values = ap (λ (v : Filled X). length v.values) see in
    let s : length cs - 1 - len_of cs ≡ b.spare = ap (λ (v : Filled X). v.spare) see in
    let p : length cs ≡ length b.words + b.spare + 1 = omega (arith, s, n, h.0) in
    record {
      places = p;
      words = ap (λ k. words_in k cs) (sym n) ∙ ap (λ (v : Filled X). v.words) see;
      written = subst (λ k. AreWritten (k + 1) cs) n h;
      values = ap (λ (v : Filled X). v.values) see;
      count = m;
      head = omega (arith, e, n, m, p);
      fits = omega (arith, small, p, m);
    }

-- ---- what the parts are seen as

len-by : (h room n m : ℕ) → h ≡ header room n m → n < 2 ^ 21 → m < 2 ^ 21 → h / 2 ^ 21 % 2 ^ 21 ≡ n
len-by h room n m e l k = omega (arith, e, l, k)

pub record Holds {X : Type 0} (cs : List (Option ℕ)) (xs : List X) (room n : ℕ) : Type 0 where
  pub places : length cs ≡ room + 1
  pub small : length cs + length xs ≤ 2 ^ 21
  pub written : are_written (len_of cs + 1) cs ≡ true
  pub head : header_of cs + 2 ^ 42 ≡ header (length cs) (len_of cs) (length xs)
  pub words : words_in (len_of cs) cs ≡ words_in n cs
  pub spare : length cs - 1 - len_of cs ≡ room - n
  pub seen : (heap : Global) → shown cs xs heap ≡ record { words = words_in n cs; spare = room - n; values = xs; heap = heap }

pub held : {X : Type 0} (cs : List (Option ℕ)) (xs : List X) (room n : ℕ) → length cs ≡ room + 1 → room + length xs < 2 ^ 21 → AreWritten (n + 1) cs
    → header_of cs ≡ header room n (length xs) → Holds cs xs room n
held cs xs room n l fits w e =
    let k : len_of cs ≡ n = len-by (header_of cs) room n (length xs) e (omega (arith, fits, l, w.0)) (omega (arith, fits)) in
    let ws : words_in (len_of cs) cs ≡ words_in n cs = ap (λ t. words_in t cs) k in
    let s : length cs - 1 - len_of cs ≡ room - n = omega (arith, k, l) in
    record {
      places = l;
      small = omega (arith, l, fits);
      written = of-written (len_of cs + 1) cs (subst (λ t. AreWritten (t + 1) cs) (sym k) w);
      head = omega (arith, e, l, k);
      words = ws;
      spare = s;
      seen = λ heap i. record { words = ws i; spare = s i; values = xs; heap = heap };
    }
