-- Eight digits in a word, each in a byte, the first one lowest.
use Rattle.std.proofs.Common.{◌≡◌, ℕ, suc, ◌+◌, ◌*◌, ◌-◌, ◌/◌, ◌%◌, ◌^◌, ◌<◌, List, [], ◌∷◌, length, map, get_or, true, refl, sym, ap, ◌∙◌, subst, arith, bit_and, Fits}
use Rattle.std.specs.Prelude.{bit_or, bit_xor, fold}
use Rattle.std.specs.Char.{is_ascii_digit}
use Rattle.std.specs.Int.{w64, from_le_bytes}
use Rattle.std.specs.Int.Bits.{xor_add_and}
use Rattle.std.specs.List.{list_all}
use Rattle.std.proofs.Math.Nat.{mod-eq_of_lt}
use Rattle.std.proofs.lemmas.Bool.Decides.{nat_tests}
use Rattle.std.proofs.lemmas.Nat.{and_block, xor_block, and_assoc, and_comm, or_comm, and_or_self, and_le_l, and_le_r, and_mask, xor_lt, shr_high, mod_low}
use Rattle.std.proofs.lemmas.Nat.Bits.{and_high_mask}

-- the words of the code: in each byte 48, 6 or 240, and in each second byte 255
abbrev pub zeros : ℕ
zeros = 3472328296227680304

abbrev pub sixes : ℕ
sixes = 434041037028460038

abbrev pub highs : ℕ
highs = 17361641481138401520

abbrev pub pairs-mask : ℕ
pairs-mask = 71777214294589695

-- ---- bytes in a word

-- bytes as a number, the first one lowest, and as many bytes that are all the same
lanes : List ℕ → ℕ
lanes [] = 0
lanes (b ∷ bs) = lanes bs * 2 ^ 8 + b

each : ℕ → List ℕ → ℕ
each c [] = 0
each c (b ∷ bs) = each c bs * 2 ^ 8 + c

AreBelow : ℕ → List ℕ → Type 0
AreBelow k [] = Unit {0}
AreBelow k (b ∷ bs) = (b < k) × AreBelow k bs

below-each : (bs : List ℕ) → ((i : ℕ) → get_or bs i 0 < 256) → AreBelow 256 bs
unfolding AreBelow
below-each [] h = tt
below-each (b ∷ bs) h = (h 0, below-each bs (λ i. h (suc i)))

xor-lanes : (c : ℕ) (bs : List ℕ) → c < 2 ^ 8 → AreBelow 256 bs → bit_xor (lanes bs) (each c bs) ≡ lanes (map (λ b. bit_xor b c) bs)
unfolding lanes each AreBelow
xor-lanes c [] l h = refl
xor-lanes c (b ∷ bs) l h = xor_block 8 (lanes bs) (each c bs) b c (omega (arith, h.0)) l ∙ ap (λ n. n * 2 ^ 8 + bit_xor b c) (xor-lanes c bs l h.1)

-- ---- whether all are digits

-- no bit of a mask is in two numbers, where none is in both together
under-or : (a b h : ℕ) → bit_and (bit_or a b) h ≡ 0 → bit_and a h ≡ 0
under-or a b h e =
    ap (λ n. bit_and n h) (sym (and_or_self a b) ∙ ap (λ n. bit_and n a) (or_comm b a) ∙ and_comm (bit_or a b) a)
    ∙ and_assoc h a (bit_or a b) ∙ ap (bit_and a) e ∙ and_comm a 0

nibble : (t : ℕ) → t < 256 → bit_and t 240 ≡ 0 → t < 16
nibble t l e = let m : bit_and t 240 ≡ t / 2 ^ 4 * 2 ^ 4 = and_high_mask 8 4 (omega arith) t l in omega (arith, m, e)

high-lanes : (ts : List ℕ) → AreBelow 256 ts → bit_and (lanes ts) (each 240 ts) ≡ 0 → AreBelow 16 ts
unfolding lanes each AreBelow
high-lanes [] h e = tt
high-lanes (t ∷ ts) h e =
    let s : bit_and (lanes ts) (each 240 ts) * 2 ^ 8 + bit_and t 240 ≡ 0 = sym (and_block 8 (lanes ts) (each 240 ts) t 240 (omega (arith, h.0)) (omega arith)) ∙ e in
    (nibble t h.0 (omega (arith, s)), high-lanes ts h.1 (omega (arith, s)))

add-lanes : (c : ℕ) (ts : List ℕ) → lanes ts + each c ts ≡ lanes (map (λ t. t + c) ts)
unfolding lanes each
add-lanes c [] = refl
add-lanes c (t ∷ ts) = omega (arith, add-lanes c ts)

add-below : (ts : List ℕ) → AreBelow 16 ts → AreBelow 256 (map (λ t. t + 6) ts)
unfolding AreBelow
add-below [] h = tt
add-below (t ∷ ts) h = (omega (arith, h.0), add-below ts h.1)

less-below : (ts : List ℕ) → AreBelow 16 (map (λ t. t + 6) ts) → AreBelow 10 ts
unfolding AreBelow
less-below [] h = tt
less-below (t ∷ ts) h = (omega (arith, h.0), less-below ts h.1)

xor-below : (bs : List ℕ) → AreBelow 256 bs → AreBelow 256 (map (λ b. bit_xor b 48) bs)
unfolding AreBelow
xor-below [] h = tt
xor-below (b ∷ bs) h = (omega (arith, xor_lt 8 b 48 (omega (arith, h.0)) (omega arith)), xor-below bs h.1)

each-map : (c : ℕ) (f : ℕ → ℕ) (ts : List ℕ) → each c (map f ts) ≡ each c ts
unfolding each
each-map c f [] = refl
each-map c f (t ∷ ts) = ap (λ n. n * 2 ^ 8 + c) (each-map c f ts)

tested : (ts : List ℕ) → AreBelow 256 ts → (AreBelow 256 (map (λ t. t + 6) ts) → lanes (map (λ t. t + 6) ts) < 2 ^ 64)
    → bit_and (bit_or (lanes ts) ((lanes ts + each 6 ts) % 2 ^ 64)) (each 240 ts) ≡ 0 → AreBelow 10 ts
tested ts below fits test =
    let more : List ℕ = map (λ t. t + 6) ts in
    let sum : ℕ = (lanes ts + each 6 ts) % 2 ^ 64 in
    let small = high-lanes ts below (under-or (lanes ts) sum (each 240 ts) test) in
    let few = add-below ts small in
    let whole : sum ≡ lanes more = ap (λ n. n % 2 ^ 64) (add-lanes 6 ts) ∙ mod-eq_of_lt (fits few) in
    let high : bit_and sum (each 240 ts) ≡ 0 = under-or sum (lanes ts) (each 240 ts) (ap (λ n. bit_and n (each 240 ts)) (or_comm sum (lanes ts)) ∙ test) in
    less-below ts (high-lanes more few (ap (bit_and (lanes more)) (each-map 240 (λ t. t + 6) ts) ∙ ap (λ n. bit_and n (each 240 ts)) (sym whole) ∙ high))

-- a digit, by its byte and 48 where they differ
digit-of : (b : ℕ) → b < 256 → bit_xor b 48 < 10 → b ≡ bit_xor b 48 + 48
digit-of b l h =
    let q : ℕ = b / 16 in
    let r : ℕ = b % 16 in
    let s : b ≡ q * 2 ^ 4 + r = omega arith in
    let x : bit_xor b 48 ≡ bit_xor q 3 * 2 ^ 4 + bit_xor r 0 = ap (λ n. bit_xor n 48) s ∙ xor_block 4 q 3 r 0 (omega arith) (omega arith) in
    let high : bit_xor q 3 + bit_and q 3 * 2 ≡ q + 3 = xor_add_and q 3 in
    let low : bit_xor r 0 + bit_and r 0 * 2 ≡ r + 0 = xor_add_and r 0 in
    omega (arith, s, x, h, high, low, and_le_l q 3, and_le_r q 3, and_le_r r 0)

all-digits : (bs : List ℕ) → AreBelow 256 bs → AreBelow 10 (map (λ b. bit_xor b 48) bs) → list_all is_ascii_digit bs ≡ true
unfolding AreBelow
all-digits [] l h = refl
all-digits (b ∷ bs) l h =
    let e : b ≡ bit_xor b 48 + 48 = digit-of b l.0 h.0 in
    let d : is_ascii_digit b ≡ true = grind (arith, nat_tests) in
    rw d (all-digits bs l.1 h.1)

fold-digits : (n : ℕ) (bs : List ℕ) → AreBelow 256 bs → AreBelow 10 (map (λ b. bit_xor b 48) bs) →
    fold (λ n b. n * 10 + (b - 48)) n bs ≡ fold (λ n d. n * 10 + d) n (map (λ b. bit_xor b 48) bs)
unfolding AreBelow
fold-digits n [] l h = refl
fold-digits n (b ∷ bs) l h =
    let e : b - 48 ≡ bit_xor b 48 = omega (arith, digit-of b l.0 h.0) in
    ap (λ d. fold (λ n b. n * 10 + (b - 48)) (n * 10 + d) bs) e ∙ fold-digits (n * 10 + bit_xor b 48) bs l.1 h.1

-- ---- the number that they make

-- the lower byte of each of four pairs of bytes
low-bytes : (v w p a m : ℕ) → v ≡ w * 2 ^ 8 + p → p < 2 ^ 8 → w < 2 ^ 8 → bit_and (a * 2 ^ 16 + v) (m * 2 ^ 16 + 255) ≡ bit_and a m * 2 ^ 16 + p
low-bytes v w p a m e l k = and_block 16 a m v 255 (omega (arith, e, l, k)) (omega arith) ∙
    ap (λ n. bit_and a m * 2 ^ 16 + n) (and_mask v 8 ∙ ap (λ n. n % 2 ^ 8) e ∙ mod_low w 8 p l)

-- each digit of a word times ten and the next one, and the number that four such pairs make
abbrev with-next : ℕ → ℕ
with-next digits = digits * 10 + digits / 2 ^ 8

abbrev pairs-number : ℕ → ℕ
pairs-number pairs = bit_and (pairs * 100 + pairs / 2 ^ 16) 65535 * 10000 + bit_and ((pairs * 100 + pairs / 2 ^ 16) / 2 ^ 32) 65535

-- the steps of the code fit, and make this number
pub record Joined (digits number : ℕ) : Type 0 where
  pub ten : Fits w64 (digits * 10)
  pub both : Fits w64 (with-next digits)
  pub is : pairs-number (bit_and (with-next digits) pairs-mask) ≡ number

-- four numbers in a word, each in two bytes, the first one lowest
quads : (a b c d : ℕ) → ℕ
quads a b c d = ((d * 2 ^ 16 + c) * 2 ^ 16 + b) * 2 ^ 16 + a

low-quads : (a b c d v w x y : ℕ) → a < 2 ^ 8 → b < 2 ^ 8 → c < 2 ^ 8 → d < 2 ^ 8 → v < 2 ^ 8 → w < 2 ^ 8 → x < 2 ^ 8 → y < 2 ^ 8
    → bit_and (quads (v * 2 ^ 8 + a) (w * 2 ^ 8 + b) (x * 2 ^ 8 + c) (y * 2 ^ 8 + d)) pairs-mask ≡ quads a b c d
unfolding quads
low-quads a b c d v w x y al bl cl dl vl wl xl yl =
    low-bytes (v * 2 ^ 8 + a) v a (((y * 2 ^ 8 + d) * 2 ^ 16 + (x * 2 ^ 8 + c)) * 2 ^ 16 + (w * 2 ^ 8 + b)) 1095233372415 refl al vl
    ∙ ap (λ n. n * 2 ^ 16 + a) (
    low-bytes (w * 2 ^ 8 + b) w b ((y * 2 ^ 8 + d) * 2 ^ 16 + (x * 2 ^ 8 + c)) 16711935 refl bl wl
    ∙ ap (λ n. n * 2 ^ 16 + b) (
    low-bytes (x * 2 ^ 8 + c) x c (y * 2 ^ 8 + d) 255 refl cl xl
    ∙ ap (λ n. n * 2 ^ 16 + c) (and_mask (y * 2 ^ 8 + d) 8 ∙ mod_low y 8 d dl)))

-- the last step, of four pairs of digits
last-step : (a b c d : ℕ) → a < 100 → b < 100 → c < 100 → d < 100
    → pairs-number (quads a b c d) ≡ (a * 100 + b) * 10000 + (c * 100 + d)
unfolding quads
last-step a b c d al bl cl dl =
    let high : quads a b c d / 2 ^ 16 ≡ (d * 2 ^ 16 + c) * 2 ^ 16 + b = shr_high ((d * 2 ^ 16 + c) * 2 ^ 16 + b) 16 a (omega (arith, al)) in
    let fours : quads a b c d * 100 + quads a b c d / 2 ^ 16 ≡ (d * 100 * 2 ^ 16 + (c * 100 + d)) * 2 ^ 32 +
    ((b * 100 + c) * 2 ^ 16 + (a * 100 + b)) = omega (arith, high) in
    let front : bit_and (quads a b c d * 100 + quads a b c d / 2 ^ 16) 65535 ≡ a * 100 + b =
    and_mask (quads a b c d * 100 + quads a b c d / 2 ^ 16) 16
    ∙ ap (λ n. n % 2 ^ 16) (the-same fours)
    ∙ mod_low ((d * 100 * 2 ^ 16 + (c * 100 + d)) * 2 ^ 16 + (b * 100 + c)) 16 (a * 100 + b) (omega (arith, al, bl)) in
    let shifted : (quads a b c d * 100 + quads a b c d / 2 ^ 16) / 2 ^ 32 ≡ d * 100 * 2 ^ 16 + (c * 100 + d) =
    ap (λ n. n / 2 ^ 32) fours ∙ shr_high (d * 100 * 2 ^ 16 + (c * 100 + d)) 32 ((b * 100 + c) * 2 ^ 16 + (a * 100 + b)) (omega (arith, al, bl, cl)) in
    let back : bit_and ((quads a b c d * 100 + quads a b c d / 2 ^ 16) / 2 ^ 32) 65535 ≡ c * 100 + d =
    ap (λ n. bit_and n 65535) shifted ∙ and_mask (d * 100 * 2 ^ 16 + (c * 100 + d)) 16 ∙ mod_low (d * 100) 16 (c * 100 + d) (omega (arith, cl, dl)) in
    omega (arith, front, back)
  where
    the-same : {x : ℕ} → x ≡ (d * 100 * 2 ^ 16 + (c * 100 + d)) * 2 ^ 32 + ((b * 100 + c) * 2 ^ 16 + (a * 100 + b)) →
        x ≡ ((d * 100 * 2 ^ 16 + (c * 100 + d)) * 2 ^ 16 + (b * 100 + c)) * 2 ^ 16 + (a * 100 + b)
    the-same e = omega (arith, e)

joined : (a b c d e f g h : ℕ) → AreBelow 10 (a ∷ b ∷ c ∷ d ∷ e ∷ f ∷ g ∷ h ∷ []) →
    Joined (lanes (a ∷ b ∷ c ∷ d ∷ e ∷ f ∷ g ∷ h ∷ [])) (fold (λ n d. n * 10 + d) 0 (a ∷ b ∷ c ∷ d ∷ e ∷ f ∷ g ∷ h ∷ []))
unfolding lanes AreBelow quads
joined a b c d e f g h (al, (bl, (cl, (dl, (el, (fl, (gl, (hl, end)))))))) =
    let digits : ℕ = lanes (a ∷ b ∷ c ∷ d ∷ e ∷ f ∷ g ∷ h ∷ []) in
    let shifted : digits / 2 ^ 8 ≡ lanes (b ∷ c ∷ d ∷ e ∷ f ∷ g ∷ h ∷ []) = shr_high (lanes (b ∷ c ∷ d ∷ e ∷ f ∷ g ∷ h ∷ [])) 8 a (omega (arith, al)) in
    let sum : digits * 10 + digits / 2 ^ 8 ≡ quads ((b * 10 + c) * 2 ^ 8 + (a * 10 + b))
    ((d * 10 + e) * 2 ^ 8 + (c * 10 + d)) ((f * 10 + g) * 2 ^ 8 + (e * 10 + f)) (h * 10 * 2 ^ 8 + (g * 10 + h)) =
    omega (arith, shifted) in
    let pairs : ℕ = quads (a * 10 + b) (c * 10 + d) (e * 10 + f) (g * 10 + h) in
    let last = last-step (a * 10 + b) (c * 10 + d) (e * 10 + f) (g * 10 + h) (omega (arith, al, bl))
    (omega (arith, cl, dl)) (omega (arith, el, fl)) (omega (arith, gl, hl)) in
    let low = low-quads (a * 10 + b) (c * 10 + d) (e * 10 + f) (g * 10 + h) (b * 10 + c) (d * 10 + e) (f * 10 + g) (h * 10)
    (omega (arith, al, bl)) (omega (arith, cl, dl)) (omega (arith, el, fl)) (omega (arith, gl, hl))
    (omega (arith, bl, cl)) (omega (arith, dl, el)) (omega (arith, fl, gl)) (omega (arith, hl)) in
    record {
      ten = omega (arith, al, bl, cl, dl, el, fl, gl, hl);
      both = omega (arith, sum, al, bl, cl, dl, el, fl, gl, hl);
      is = ap pairs-number (ap (λ n. bit_and n pairs-mask) sum ∙ low) ∙ last ∙ omega arith;
    }

-- ---- eight bytes that pass the test

lanes-fit : (a b c d e f g h : ℕ) → AreBelow 256 (a ∷ b ∷ c ∷ d ∷ e ∷ f ∷ g ∷ h ∷ []) → lanes (a ∷ b ∷ c ∷ d ∷ e ∷ f ∷ g ∷ h ∷ []) < 2 ^ 64
unfolding lanes AreBelow
lanes-fit a b c d e f g h (al, (bl, (cl, (dl, (el, (fl, (gl, (hl, end)))))))) = omega (arith, al, bl, cl, dl, el, fl, gl, hl)

-- what the code's steps make of bytes that are all digits
pub record Eight (bs : List ℕ) (digits : ℕ) : Type 0 where
  pub all : list_all is_ascii_digit bs ≡ true
  pub joined : Joined digits (fold (λ n b. n * 10 + (b - 48)) 0 bs)

eight-of : (a b c d e f g h word : ℕ) → AreBelow 256 (a ∷ b ∷ c ∷ d ∷ e ∷ f ∷ g ∷ h ∷ []) → word ≡ lanes (a ∷ b ∷ c ∷ d ∷ e ∷ f ∷ g ∷ h ∷ [])
    → bit_and (bit_or (bit_xor word zeros) ((bit_xor word zeros + sixes) % 2 ^ 64)) highs ≡ 0
    → Eight (a ∷ b ∷ c ∷ d ∷ e ∷ f ∷ g ∷ h ∷ []) (bit_xor word zeros)
unfolding each
eight-of a b c d e f g h word below is test =
    let bs : List ℕ = a ∷ b ∷ c ∷ d ∷ e ∷ f ∷ g ∷ h ∷ [] in
    let ts : List ℕ = map (λ b. bit_xor b 48) bs in
    let x : bit_xor word zeros ≡ lanes ts = ap (λ n. bit_xor n zeros) is ∙ xor-lanes 48 bs (omega arith) below in
    let digits = tested ts (xor-below bs below)
    (lanes-fit (bit_xor a 48 + 6) (bit_xor b 48 + 6) (bit_xor c 48 + 6) (bit_xor d 48 + 6) (bit_xor e 48 + 6)
    (bit_xor f 48 + 6) (bit_xor g 48 + 6) (bit_xor h 48 + 6))
    (ap (λ n. bit_and (bit_or n ((n + sixes) % 2 ^ 64)) highs) (sym x) ∙ test) in
    let join = joined (bit_xor a 48) (bit_xor b 48) (bit_xor c 48) (bit_xor d 48) (bit_xor e 48) (bit_xor f 48) (bit_xor g 48) (bit_xor h 48) digits in
    record {
      all = all-digits bs below digits;
      joined = subst (λ n. Joined n (fold (λ n b. n * 10 + (b - 48)) 0 bs)) (sym x) (subst (Joined (lanes ts)) (sym (fold-digits 0 bs below digits)) join);
    }

pub eight : (bs : List ℕ) (word : ℕ) → length bs ≡ 8 → ((i : ℕ) → get_or bs i 0 < 256) → word ≡ from_le_bytes w64 bs
    → bit_and (bit_or (bit_xor word zeros) ((bit_xor word zeros + sixes) % 2 ^ 64)) highs ≡ 0
    → Eight bs (bit_xor word zeros)
unfolding lanes
eight (a ∷ b ∷ c ∷ d ∷ e ∷ f ∷ g ∷ h ∷ []) word l fits is test =
    eight-of a b c d e f g h word (below-each (a ∷ b ∷ c ∷ d ∷ e ∷ f ∷ g ∷ h ∷ []) fits) (is ∙ omega arith) test
eight bs word l fits is test = absurd (omega (arith, l))
