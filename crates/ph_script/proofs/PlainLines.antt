-- The words of a plain line, and what they spell in the places of their command.
use Rattle.std.proofs.Common.{◌≡◌, ℕ, zero, suc, ◌+◌, ◌-◌, ◌^◌, ◌<◌, ◌≤◌, List, [], ◌∷◌, ◌++◌, length, map, Bool}
use Rattle.std.proofs.Common.{true, false, refl, sym, ap, ◌∙◌, arith, append_assoc, length-append, eq-eqb}
use Rattle.std.specs.Prelude.{ℤ, pos, neg_ℤ, Option, Some, None, is_some, nat_lt, nat_le, ◌==◌, if◌then◌else◌}
use Rattle.std.specs.Cmp.Lexicographic.{pointwise}
use Rattle.std.proofs.lemmas.Bool.{lt-ltb}
use Rattle.std.proofs.lemmas.Bool.Decides.{nat_tests}
use Rattle.std.proofs.lemmas.List.{append-nil, map-append, length-replicate}
use Rattle.ph_coord.specs.Spelling.{number_of, of_whole}
use Rattle.ph_specs.specs.Lines.{words, number}
use Rattle.ph_specs.specs.Command.{Command, Place, Reading, number_fits, name_fits, coordinates, Form, form, read_words, read_forms, read_form}
use Rattle.ph_specs.specs.Command.Place.{Coordinate, Below}
use Rattle.ph_script.specs.declared.coords.Coord.{Coord}
use Rattle.ph_script.specs.declared.coords.Coord.TheVariants.{Whole}
use Rattle.ph_script.specs.declared.numbers.Short.{Short}
use Rattle.ph_script.specs.declared.plain.Plain.{Plain}
use Rattle.ph_script.specs.declared.plain.Plain.TheVariants.{Put, Get, Del, Relocate, Window, Near, Within, Overlap, Inside, Covers}
use Rattle.ph_script.specs.Meaning.{numbers_of}
use Rattle.ph_script.specs.Words.{IsShort}
use Rattle.ph_script.specs.Forms.{places_by, command_by}
use Rattle.ph_script.specs.Fit.{IsFit}
use Rattle.ph_script.specs.Parts.{coord_of, count_of, coords_at, counts_at, name_from, file_from, second_from}
use Rattle.ph_script.specs.Plain.{verb_of, word_of, coords_of, last_of, most_of, number_by, IsNext, IsSpelled, IsLast, IsPlain}
use Rattle.ph_script.proofs.ReadPlaces.{fit-of, does}

-- ---- numbers

signed-coord : (minus : Bool) (size : ℕ) → size < 10 ^ 18 →
    coord_of (of_whole (Some (if minus then neg_ℤ (pos size) else pos size))) ≡
    Some (Whole (if minus then neg_ℤ (pos size) else pos size))
signed-coord false size h = rw (lt-ltb size (2 ^ 128) (omega (arith, h)), lt-ltb size (2 ^ 63) (omega (arith, h))) refl
signed-coord true zero h = refl
signed-coord true (suc size) h =
    let e : size + 1 ≡ suc size = omega arith in
    let wide : nat_lt (suc size) (2 ^ 128) ≡ true = lt-ltb (suc size) (2 ^ 128) (omega (arith, h)) in
    let near : nat_le (suc size) (2 ^ 63) ≡ true = grind (arith, nat_tests) in
    rw (e, wide, near) refl

short-coord : (word : List ℕ) (s : Short) → IsShort word s → coord_of (number_of word) ≡ Some (Whole (if s.minus then neg_ℤ (pos s.size) else pos s.size))
short-coord word s h = rw h.same (signed-coord s.minus s.size h.limit)

-- ---- coordinates, word by word

pub spelled-more : (text rest behind : List ℕ) (cs more : List Coord) (s : Short) → IsSpelled text cs rest →
    IsNext rest s behind → more ≡ cs ++ Whole (if s.minus then neg_ℤ (pos s.size) else pos s.size) ∷ [] →
    IsSpelled text more behind
spelled-more text rest behind cs more s h n e =
    record {
      front = h.front ++ n.word ∷ [];
      before = h.before ∙ rw (n.first, append_assoc h.front (n.word ∷ []) (words behind)) refl;
      spelled = rw (
        e,
        map-append (λ w. coord_of (number_of w)) h.front (n.word ∷ []),
        map-append (λ (c : Coord). Some c) cs (Whole (if s.minus then neg_ℤ (pos s.size) else pos s.size) ∷ []),
        h.spelled,
        short-coord n.word s n.number,
      ) refl;
    }

-- words that spell coordinates, in the places of these before others
record Spells (ws : List (List ℕ)) (cs : List Coord) (places : List Place) (tail : List (List ℕ)) : Type 0 where
  size : length ws ≡ length cs
  numbers : pointwise number_fits (coordinates (length cs) ++ places) (ws ++ tail) ≡ pointwise number_fits places tail
  names : pointwise name_fits (coordinates (length cs) ++ places) (ws ++ tail) ≡ pointwise name_fits places tail
  coords : coords_at (coordinates (length cs) ++ places) (ws ++ tail) ≡ cs ++ coords_at places tail
  counts : counts_at (coordinates (length cs) ++ places) (ws ++ tail) ≡ counts_at places tail

coord-some : (z : Option ℤ) (c : Coord) → coord_of (of_whole z) ≡ Some c → is_some z ≡ true
coord-some None c h = cc
coord-some (Some z) c h = refl

spells : (ws : List (List ℕ)) (cs : List Coord) (places : List Place) (tail : List (List ℕ)) →
    map (λ w. coord_of (number_of w)) ws ≡ map Some cs → Spells ws cs places tail
spells [] [] places tail h = record { size = refl; numbers = refl; names = refl; coords = refl; counts = refl }
spells [] (c ∷ cs) places tail h = absurd (cc)
spells (w ∷ ws) [] places tail h = absurd (cc)
spells (w ∷ ws) (c ∷ cs) places tail h =
    let one : coord_of (number_of w) ≡ Some c = cc in
    let more : map (λ v. coord_of (number_of v)) ws ≡ map Some cs = cc in
    let s = spells ws cs places tail more in
    record {
      size = ap suc s.size;
      numbers = rw (coord-some (number w) c one) s.numbers;
      names = s.names;
      coords = rw one (ap (λ l. c ∷ l) s.coords);
      counts = s.counts;
    }

-- ---- the number behind them

record Counts (word : List ℕ) (limit n : ℕ) : Type 0 where
  fits : number_fits (Below limit) word ≡ true
  counts : count_of limit (number_of word) ≡ Some n

counts-short : (word : List ℕ) (s : Short) (limit : ℕ) → IsShort word s → s.minus ≡ false → s.size < limit → Counts word limit s.size
counts-short word s limit h plus below =
    let same : number word ≡ Some (pos s.size) = h.same ∙ rw plus refl in
    let wide : nat_lt s.size (2 ^ 128) ≡ true = lt-ltb s.size (2 ^ 128) (let l = h.limit in omega (arith, l)) in
    let fit : nat_lt s.size limit ≡ true = lt-ltb s.size limit below in
    record { fits = rw (same, fit) refl; counts = rw (same, wide, fit) refl }

pub last-some : (plain : Plain) (text rest : List ℕ) (most : ℕ) (s : Short) → most_of plain ≡ Some most →
    IsNext text s rest → s.minus ≡ false → s.size ≤ most → IsLast plain text s.size rest
last-some Put text rest most s e n plus l =
    let k = counts-short n.word s (2 ^ 64) n.number plus (let m : most ≡ 2 ^ 64 - 1 = cc in omega (arith, m, l)) in
    record { front = n.word ∷ []; before = n.first; size = refl; numbers = rw k.fits refl; names = refl; counts = rw k.counts refl }
last-some Get text rest most s e n plus l = absurd (cc)
last-some Del text rest most s e n plus l = absurd (cc)
last-some Relocate text rest most s e n plus l = absurd (cc)
last-some Window text rest most s e n plus l = absurd (cc)
last-some Near text rest most s e n plus l =
    let k = counts-short n.word s (2 ^ 32) n.number plus (let m : most ≡ 2 ^ 32 - 1 = cc in omega (arith, m, l)) in
    record { front = n.word ∷ []; before = n.first; size = refl; numbers = rw k.fits refl; names = refl; counts = rw k.counts refl }
last-some Within text rest most s e n plus l =
    let k = counts-short n.word s (2 ^ 128) n.number plus (let b = n.number.limit in omega (arith, b)) in
    record { front = n.word ∷ []; before = n.first; size = refl; numbers = rw k.fits refl; names = refl; counts = rw k.counts refl }
last-some Overlap text rest most s e n plus l = absurd (cc)
last-some Inside text rest most s e n plus l = absurd (cc)
last-some Covers text rest most s e n plus l = absurd (cc)

-- ---- the line

front-word : (plain : Plain) (text : List ℕ) → words (word_of plain ++ 32 ∷ text) ≡ word_of plain ∷ words text
front-word Put text = refl
front-word Get text = refl
front-word Del text = refl
front-word Relocate text = refl
front-word Window text = refl
front-word Near text = refl
front-word Within text = refl
front-word Overlap text = refl
front-word Inside text = refl
front-word Covers text = refl

two-points : (m n : ℕ) → coordinates (m + n) ≡ coordinates m ++ coordinates n
two-points zero n = rw (let e : 0 + n ≡ n = omega arith in e) refl
two-points (suc m) n = rw (let e : suc m + n ≡ suc (m + n) = omega arith in e) (ap (λ l. Coordinate ∷ l) (two-points m n))

places-plain : (plain : Plain) (dims : ℕ) → places_by (verb_of plain) dims ≡ coordinates (coords_of plain dims) ++ last_of plain
places-plain Put dims = refl
places-plain Get dims = sym (append-nil (coordinates dims))
places-plain Del dims = sym (append-nil (coordinates dims))
places-plain Relocate dims = sym (append-nil (coordinates (dims + dims)) ∙ two-points dims dims)
places-plain Window dims = sym (append-nil (coordinates (dims + dims)) ∙ two-points dims dims)
places-plain Near dims = refl
places-plain Within dims = refl
places-plain Overlap dims = sym (append-nil (coordinates dims))
places-plain Inside dims = sym (append-nil (coordinates dims))
places-plain Covers dims = sym (append-nil (coordinates dims))

no-coords : (limit : ℕ) (ws : List (List ℕ)) → coords_at (Below limit ∷ []) ws ≡ []
no-coords limit [] = refl
no-coords limit (w ∷ ws) = refl

last-coords : (plain : Plain) (ws : List (List ℕ)) → coords_at (last_of plain) ws ≡ []
last-coords Put ws = no-coords (2 ^ 64) ws
last-coords Get ws = refl
last-coords Del ws = refl
last-coords Relocate ws = refl
last-coords Window ws = refl
last-coords Near ws = no-coords (2 ^ 32) ws
last-coords Within ws = no-coords (2 ^ 128) ws
last-coords Overlap ws = refl
last-coords Inside ws = refl
last-coords Covers ws = refl

pub plain-line : (plain : Plain) (dims : ℕ) (line text rest over : List ℕ) (cs : List Coord) (n : ℕ) →
    line ≡ word_of plain ++ 32 ∷ text → IsSpelled text cs rest → length cs ≡ coords_of plain dims →
    IsLast plain rest n over → words over ≡ [] → IsPlain plain dims (words line) cs n
plain-line plain dims line text rest over cs n e s size l none =
    let p : places_by (verb_of plain) dims ≡ coordinates (length cs) ++ last_of plain = places-plain plain dims ∙ ap (λ k. coordinates k ++ last_of plain) (sym size) in
    let k = spells s.front cs (last_of plain) l.front s.spelled in
    let behind : words text ≡ s.front ++ l.front = s.before ∙ ap (λ ws. s.front ++ ws) (l.before ∙ ap (λ ws. l.front ++ ws) none ∙ append-nil l.front) in
    record {
      behind = s.front ++ l.front;
      line = ap words e ∙ front-word plain text ∙ ap (λ ws. word_of plain ∷ ws) behind;
      size = omega (
        arith,
        ap length p,
        length-append (coordinates (length cs)) (last_of plain),
        length-replicate (length cs) Coordinate,
        length-append s.front l.front,
        k.size,
        l.size,
      );
      numbers = rw p (k.numbers ∙ l.numbers);
      names = rw p (k.names ∙ l.names);
      coords_are = rw p (sym (k.coords ∙ ap (λ ds. cs ++ ds) (last-coords plain l.front) ∙ append-nil cs));
      counts_are = rw p (sym (k.counts ∙ l.counts));
    }

-- ---- its meaning

fit-plain : (plain : Plain) (dims : ℕ) (cs : List Coord) (ns : List ℕ) (name file : Option (List ℕ)) →
    IsFit (verb_of plain) dims cs ns name file → IsFit (verb_of plain) dims cs ns None None
fit-plain Put dims cs ns name file h = h
fit-plain Get dims cs ns name file h = h
fit-plain Del dims cs ns name file h = h
fit-plain Relocate dims cs ns name file h = h
fit-plain Window dims cs ns name file h = h
fit-plain Near dims cs ns name file h = h
fit-plain Within dims cs ns name file h = h
fit-plain Overlap dims cs ns name file h = h
fit-plain Inside dims cs ns name file h = h
fit-plain Covers dims cs ns name file h = h

pub plain-fit : {plain : Plain} {dims : ℕ} {ws : List (List ℕ)} {cs : List Coord} {n : ℕ} →
    IsPlain plain dims ws cs n → IsFit (verb_of plain) dims cs (number_by plain n) None None
plain-fit {plain} {dims} {ws} {cs} {n} h =
    let places = places_by (verb_of plain) dims in
    fit-plain plain dims cs (number_by plain n) _ _
    (fit-of (verb_of plain) dims places h.behind cs (number_by plain n) (name_from None places h.behind)
    (file_from None places h.behind) refl h.numbers h.coords_are h.counts_are refl refl)

-- the command's form is the only one of its word
one-form : (f : Form) (ws : List (List ℕ)) → (length f.places == length ws) ≡ true → read_forms (f ∷ []) ws ≡ read_form f ws
one-form f ws h = rw h refl

abbrev form-plain : Plain → ℕ → Form
form-plain plain dims = form (word_of plain) (places_by (verb_of plain) dims) (command_by (verb_of plain) dims)

reads-plain : (plain : Plain) (dims : ℕ) (ws : List (List ℕ)) →
    (length (places_by (verb_of plain) dims) == length ws) ≡ true →
    read_words dims (word_of plain ∷ ws) ≡ read_form (form-plain plain dims) ws
reads-plain Put dims ws h = one-form (form-plain Put dims) ws h
reads-plain Get dims ws h = one-form (form-plain Get dims) ws h
reads-plain Del dims ws h = one-form (form-plain Del dims) ws h
reads-plain Relocate dims ws h = one-form (form-plain Relocate dims) ws h
reads-plain Window dims ws h = one-form (form-plain Window dims) ws h
reads-plain Near dims ws h = one-form (form-plain Near dims) ws h
reads-plain Within dims ws h = one-form (form-plain Within dims) ws h
reads-plain Overlap dims ws h = one-form (form-plain Overlap dims) ws h
reads-plain Inside dims ws h = one-form (form-plain Inside dims) ws h
reads-plain Covers dims ws h = one-form (form-plain Covers dims) ws h

pub plain-does : {plain : Plain} {dims : ℕ} {ws : List (List ℕ)} {cs : List Coord} {n : ℕ} {made : Command} →
    IsPlain plain dims ws cs n → ((t : List (List ℕ)) →
    made ≡ command_by (verb_of plain) dims (numbers_of cs ++ map pos (number_by plain n)) t) →
    Reading.Do made ≡ read_words dims ws
plain-does {plain} {dims} {ws} {cs} {n} {made} h makes =
    let places = places_by (verb_of plain) dims in
    sym
    (ap (λ l. read_words dims l) h.line ∙ reads-plain plain dims h.behind (eq-eqb (length places) (length h.behind) h.size)
    ∙ does (word_of plain) (verb_of plain) dims places places h.behind cs (number_by plain n)
    (name_from None places h.behind) (file_from None places h.behind) (second_from false places h.behind) made
    refl refl h.numbers h.names h.coords_are h.counts_are refl refl refl (λ t _. makes t))
