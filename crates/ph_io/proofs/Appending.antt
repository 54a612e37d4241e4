-- Bytes that a sink takes, or a source gives, in two steps.
use Rattle.std.proofs.Common.{◌≡◌, ◌+◌, ◌-◌, ◌≤◌, ℕ, zero, suc, zero-add, List, [], ◌∷◌, ◌++◌, length, take, drop, refl, ap, sym, arith, length-append}
use Rattle.std.specs.Prelude.{None, Some}
use Rattle.std.specs.declared.option.Option.{Option}
use Rattle.std.specs.Io.KnownBytes.{Appends, Consumes, Keeps}
use Rattle.std.proofs.lemmas.List.{take-take}
use Rattle.std.proofs.Math.Nat.{suc-add}
use Rattle.std.proofs.lemmas.Grind.{common_steps}
use Rattle.ph_io.specs.Amounts.{Adds}
use Rattle.ph_io.specs.Giving.{Taken, Grew, Given}

pub appends_none : (a : Option (List ℕ)) → Appends a a []
appends_none None = tt
appends_none (Some xs) = grind (arith, common_steps)

pub appends_both : (a b c : Option (List ℕ)) (xs ys : List ℕ) → Appends a b xs → Appends b c ys → Appends a c (xs ++ ys)
appends_both None b c xs ys h k = tt
appends_both (Some old) None c xs ys h k = absurd h
appends_both (Some old) (Some middle) None xs ys h k = absurd k
appends_both (Some old) (Some middle) (Some new) xs ys h k = grind (arith, common_steps)

pub consumes_none : (a : Option (List ℕ)) → Consumes a a []
consumes_none None = tt
consumes_none (Some xs) = refl

pub consumes_both : (a b c : Option (List ℕ)) (xs ys : List ℕ) → Consumes a b xs → Consumes b c ys → Consumes a c (xs ++ ys)
consumes_both None b c xs ys h k = tt
consumes_both (Some old) None c xs ys h k = absurd h
consumes_both (Some old) (Some middle) None xs ys h k = absurd k
consumes_both (Some old) (Some middle) (Some new) xs ys h k = grind (arith, common_steps)

pub consumes_kept : (a b : Option (List ℕ)) → Keeps a b → Consumes a b []
consumes_kept None b h = tt
consumes_kept (Some xs) None h = absurd h
consumes_kept (Some xs) (Some ys) h = sym h

-- ---- fronts of a piece

pub take_plus : (xs : List ℕ) (i n : ℕ) → take i xs ++ take n (drop i xs) ≡ take (i + n) xs
take_plus [] i n = grind (arith, common_steps)
take_plus (x ∷ xs) zero n = rw zero-add refl
take_plus (x ∷ xs) (suc i) n = rw (suc-add i n) (ap (λ t. x ∷ t) (take_plus xs i n))

-- a front, and a front of what is behind it
pub take_both : (xs : List ℕ) (i n : ℕ) → take i xs ++ take n (take (length xs - i) (drop i xs)) ≡ take (i + n) xs
take_both xs i n = let e : take (length xs - i) (drop i xs) ≡ drop i xs = grind (arith, common_steps) in rw (e, take_plus xs i n) refl

pub length_more : (bytes piece : List ℕ) (n taken : ℕ) → length bytes ≡ taken → n ≤ length piece → length (bytes ++ take n piece) ≡ taken + n
length_more bytes piece n taken e h = grind (arith, common_steps)

-- the front of bytes and of a piece behind them that ends within the piece
pub take_within : (bytes piece : List ℕ) (most fresh count : ℕ) → fresh ≤ count → count ≤ length piece →
    length bytes + fresh ≡ most → take most (bytes ++ take count piece) ≡ bytes ++ take fresh piece
take_within [] piece most fresh count h k e = let f : fresh ≡ most = omega arith in rw f (take-take most count piece (omega arith))
take_within (b ∷ bs) piece zero fresh count h k e = absurd (omega arith)
take_within (b ∷ bs) piece (suc most) fresh count h k e = ap (λ t. b ∷ t) (take_within bs piece most fresh count h k (omega arith))

-- ---- what a sink tells

grew_none : (a : Option ℕ) → Grew a a 0
grew_none None = tt
grew_none (Some n) = omega arith

grew_both : (a b c : Option ℕ) (m n : ℕ) → Grew a b m → Grew b c n → Grew a c (m + n)
grew_both None b c m n h k = tt
grew_both (Some old) None c m n h k = absurd h
grew_both (Some old) (Some middle) None m n h k = absurd k
grew_both (Some old) (Some middle) (Some new) m n h k = omega (arith, h, k)

pub grew_added : (a b : Option ℕ) (n : ℕ) → Adds a b n → Grew a b n
grew_added None b n h = tt
grew_added (Some old) None n h = absurd h
grew_added (Some old) (Some new) n h = omega (arith, h)

pub given_none : (a : Taken) → Given a a []
given_none a = record { written = appends_none a.written; amount = grew_none a.amount }

pub given_both : (a b c : Taken) (xs ys : List ℕ) → Given a b xs → Given b c ys → Given a c (xs ++ ys)
given_both a b c xs ys h k = record {
  written = appends_both a.written b.written c.written xs ys h.written k.written;
  amount = rw (length-append xs ys) (grew_both a.amount b.amount c.amount (length xs) (length ys) h.amount k.amount);
}

-- what one write gives
pub given_write : (a b : Taken) (piece : List ℕ) (n : ℕ) → n ≤ length piece →
    Appends a.written b.written (take n piece) → Adds a.amount b.amount n → Given a b (take n piece)
given_write a b piece n l h k = record {
  written = h;
  amount = let e : length (take n piece) ≡ n = grind (arith, common_steps) in rw e (grew_added a.amount b.amount n k);
}
