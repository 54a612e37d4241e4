-- What is read in the places of each form.
use Rattle.std.proofs.Common.{◌≡◌, ℕ, zero, suc, ◌+◌, ◌^◌, ◌<◌, ◌≤◌, List, [], ◌∷◌, ◌++◌, length, map, Bool, true}
use Rattle.std.proofs.Common.{false, refl, sym, ap, ◌∙◌, subst, append_assoc, length-append, lit≤}
use Rattle.std.specs.Prelude.{ℤ, pos, codes, bytes_eq, Option, Some, None}
use Rattle.std.specs.List.{cons_option}
use Rattle.std.specs.Cmp.Lexicographic.{pointwise}
use Rattle.std.proofs.lemmas.List.{append-nil, map-append}
use Rattle.std.proofs.lemmas.Bool.{and_parts}
use Rattle.ph_specs.specs.Lines.{number}
use Rattle.ph_specs.specs.Command.{Command, Place, form, number_fits, name_fits, numbers, texts, coordinates, first_word, kinds, count, value, fixed, read_form, Reading}
use Rattle.ph_specs.specs.Command.Place.{Coordinate, Below, CursorName, FileName, OneOf}
use Rattle.ph_script.specs.declared.coords.Coord.{Coord}
use Rattle.ph_script.specs.declared.forms.Verb.{Verb}
use Rattle.ph_script.specs.declared.forms.Verb.TheVariants.{Open, OpenBits, OpenMax, OpenBitsMax, Put, Get, Del, Relocate, Count, Clear, Window}
use Rattle.ph_script.specs.declared.forms.Verb.TheVariants.{Cursor, Page, Near, Within, Overlap, Inside, Covers, Save, Load, Import}
use Rattle.ph_script.specs.declared.forms.Verb.TheVariants.{ImportHeader, Export, Stats, Select, Same, Join, Combine, Keep, Back}
use Rattle.ph_script.specs.Meaning.{number_of_coord, numbers_of}
use Rattle.ph_script.specs.Forms.{places_by, command_by}
use Rattle.ph_script.specs.Parts.{coords_at, counts_at, name_from, file_from, second_from}
use Rattle.ph_script.specs.Fit.{IsFit, IsNamed}
use Rattle.ph_script.proofs.KeptNumbers.{keeps-coord, keeps-count}

-- words in places, read up to some of the places behind
record Led (places : List Place) (ws : List (List ℕ)) (behind : List Place) (cs : List Coord) (ns : List ℕ) (zs : List ℤ) : Type 0 where
  left : List (List ℕ)
  fits : pointwise number_fits behind left ≡ true
  coords : coords_at places ws ≡ cs ++ coords_at behind left
  counts : counts_at places ws ≡ ns ++ counts_at behind left
  same : numbers places ws ≡ zs ++ numbers behind left

led-coordinate : (behind : List Place) (ws : List (List ℕ)) → pointwise number_fits (Coordinate ∷ behind) ws ≡ true →
    (c : Coord) × Led (Coordinate ∷ behind) ws behind (c ∷ []) [] (numbers_of (c ∷ []))
led-coordinate behind [] h = absurd (let k : false ≡ true = h in cc)
led-coordinate behind (w ∷ ws) h =
    let p = and_parts _ _ h in
    let k = keeps-coord (number w) p.0 in
    (k.kept, record { left = ws; fits = p.1; coords = rw k.code refl; counts = refl; same = rw k.same refl })

record LedCount (limit : ℕ) (behind : List Place) (ws : List (List ℕ)) : Type 0 where
  kept : ℕ
  below : kept < limit
  led : Led (Below limit ∷ behind) ws behind [] (kept ∷ []) (pos kept ∷ [])

led-count : (limit : ℕ) (behind : List Place) (ws : List (List ℕ)) → limit ≤ 2 ^ 128 → pointwise number_fits (Below limit ∷ behind) ws ≡ true → LedCount limit behind ws
led-count limit behind [] l h = absurd (let k : false ≡ true = h in cc)
led-count limit behind (w ∷ ws) l h =
    let p = and_parts _ _ h in
    let k = keeps-count limit (number w) l p.0 in
    record {
      kept = k.kept;
      below = k.below;
      led = record {
        left = ws;
        fits = p.1;
        coords = refl;
        counts = rw k.code refl;
        same = ap (λ z. cons_option z (numbers behind ws)) k.same;
      };
    }

led-fixed : (words : List (List ℕ)) (behind : List Place) (ws : List (List ℕ)) →
    pointwise number_fits (OneOf words ∷ behind) ws ≡ true → Led (OneOf words ∷ behind) ws behind [] [] []
led-fixed words behind [] h = absurd (let k : false ≡ true = h in cc)
led-fixed words behind (w ∷ ws) h = record { left = ws; fits = h; coords = refl; counts = refl; same = refl }

led-name : {behind : List Place} {ws : List (List ℕ)} {cs : List Coord} {ns : List ℕ} {zs : List ℤ} (word : List ℕ) →
    Led behind ws [] cs ns zs → Led (CursorName ∷ behind) (word ∷ ws) [] cs ns zs
led-name word l = record { left = l.left; fits = l.fits; coords = l.coords; counts = l.counts; same = l.same }

led-file : {behind : List Place} {ws : List (List ℕ)} {cs : List Coord} {ns : List ℕ} {zs : List ℤ} (word : List ℕ) →
    Led behind ws [] cs ns zs → Led (FileName ∷ behind) (word ∷ ws) [] cs ns zs
led-file word l = record { left = l.left; fits = l.fits; coords = l.coords; counts = l.counts; same = l.same }

-- no number changes the name
unnamed : (got : Option (List ℕ)) (dims : ℕ) (behind : List Place) (ws : List (List ℕ)) →
    ((vs : List (List ℕ)) → name_from got behind vs ≡ got) → name_from got (coordinates dims ++ behind) ws ≡ got
unnamed got zero behind ws h = h ws
unnamed got (suc dims) behind [] h = refl
unnamed got (suc dims) behind (w ∷ ws) h = unnamed got dims behind ws h

unnamed-corners : (got : Option (List ℕ)) (dims : ℕ) (ws : List (List ℕ)) → name_from got (coordinates dims ++ coordinates dims) ws ≡ got
unnamed-corners got dims ws = unnamed got dims (coordinates dims) ws
    (λ vs. subst (λ ps. name_from got ps vs ≡ got) (append-nil (coordinates dims)) (unnamed got dims [] vs (λ us. refl)))

unnamed-count : (got : Option (List ℕ)) (limit : ℕ) (ws : List (List ℕ)) → name_from got (Below limit ∷ []) ws ≡ got
unnamed-count got limit [] = refl
unnamed-count got limit (w ∷ ws) = refl

-- no fixed word changes the file's name
unfiled-fixed : (got : Option (List ℕ)) (words : List (List ℕ)) (ws : List (List ℕ)) → file_from got (OneOf words ∷ []) ws ≡ got
unfiled-fixed got words [] = refl
unfiled-fixed got words (w ∷ ws) = refl

-- no number and no fixed word tells which of two words it was
unsaid-count : (got : Bool) (limit : ℕ) (behind : List Place) (ws : List (List ℕ)) →
    ((vs : List (List ℕ)) → second_from got behind vs ≡ got) → second_from got (Below limit ∷ behind) ws ≡ got
unsaid-count got limit behind [] h = refl
unsaid-count got limit behind (w ∷ ws) h = h ws

unsaid-fixed : (got : Bool) (word : List ℕ) (limit : ℕ) (behind : List Place) (ws : List (List ℕ)) →
    ((vs : List (List ℕ)) → second_from got behind vs ≡ got) → second_from got (fixed word ∷ Below limit ∷ behind) ws ≡ got
unsaid-fixed got word limit behind [] h = refl
unsaid-fixed got word limit behind (w ∷ ws) h = unsaid-count got limit behind ws h

-- one after another
led-on : {places middle behind : List Place} {ws : List (List ℕ)} {cs ds : List Coord} {ns ms : List ℕ}
    {zs ys : List ℤ} → (a : Led places ws middle cs ns zs) → Led middle a.left behind ds ms ys →
    Led places ws behind (cs ++ ds) (ns ++ ms) (zs ++ ys)
led-on {behind} {cs} {ds} {ns} {ms} {zs} {ys} a b =
    record {
      left = b.left;
      fits = b.fits;
      coords = a.coords ∙ rw (b.coords, append_assoc cs ds (coords_at behind b.left)) refl;
      counts = a.counts ∙ rw (b.counts, append_assoc ns ms (counts_at behind b.left)) refl;
      same = a.same ∙ rw (b.same, append_assoc zs ys (numbers behind b.left)) refl;
    }

-- one of some words, and a number behind it
record LedNumber (words : List (List ℕ)) (limit : ℕ) (behind : List Place) (ws : List (List ℕ)) : Type 0 where
  kept : ℕ
  below : kept < limit
  led : Led (OneOf words ∷ Below limit ∷ behind) ws behind [] (kept ∷ []) (pos kept ∷ [])

led-number : (words : List (List ℕ)) (limit : ℕ) (behind : List Place) (ws : List (List ℕ)) → limit ≤ 2 ^ 128 →
    pointwise number_fits (OneOf words ∷ Below limit ∷ behind) ws ≡ true → LedNumber words limit behind ws
led-number words limit behind ws l h =
    let a = led-fixed words (Below limit ∷ behind) ws h in
    let b = led-count limit behind a.left l a.fits in
    record { kept = b.kept; below = b.below; led = led-on a b.led }

-- the kind and the dimensions of a new table, and a word with a number behind them
record LedOpen (word : List ℕ) (limit : ℕ) (ws : List (List ℕ)) : Type 0 where
  size : ℕ
  more : ℕ
  few : size < 2 ^ 32
  below : more < limit
  led : Led (kinds ∷ count ∷ fixed word ∷ Below limit ∷ []) ws [] [] (size ∷ more ∷ []) (pos size ∷ pos more ∷ [])
  said : second_from false (kinds ∷ count ∷ fixed word ∷ Below limit ∷ []) ws ≡
      bytes_eq (first_word (texts (kinds ∷ count ∷ fixed word ∷ Below limit ∷ []) ws)) (codes "boxes")

led-open : (word : List ℕ) (limit : ℕ) (ws : List (List ℕ)) → limit ≤ 2 ^ 128 →
    pointwise number_fits (kinds ∷ count ∷ fixed word ∷ Below limit ∷ []) ws ≡ true → LedOpen word limit ws
led-open word limit [] l h = absurd (let k : false ≡ true = h in cc)
led-open word limit (w ∷ ws) l h =
    let a = led-number (codes "points" ∷ codes "boxes" ∷ []) (2 ^ 32) (fixed word ∷ Below limit ∷ []) (w ∷ ws) (lit≤ tt) h in
    let b = led-number (word ∷ []) limit [] a.led.left l a.led.fits in
    let second = bytes_eq w (codes "boxes") in
    record {
      size = a.kept;
      more = b.kept;
      few = a.below;
      below = b.below;
      led = led-on a.led b.led;
      said = unsaid-count second (2 ^ 32) (fixed word ∷ Below limit ∷ []) ws (λ vs. unsaid-fixed second word limit [] vs (λ us. refl));
    }

record LedPoint (dims : ℕ) (behind : List Place) (ws : List (List ℕ)) : Type 0 where
  at : List Coord
  size : length at ≡ dims
  led : Led (coordinates dims ++ behind) ws behind at [] (numbers_of at)

led-point : (dims : ℕ) (behind : List Place) (ws : List (List ℕ)) → pointwise number_fits (coordinates dims ++ behind) ws ≡ true → LedPoint dims behind ws
led-point zero behind ws h = record { at = []; size = refl; led = record { left = ws; fits = h; coords = refl; counts = refl; same = refl } }
led-point (suc dims) behind ws h =
    let c = led-coordinate (coordinates dims ++ behind) ws h in
    let p = led-point dims behind c.1.left c.1.fits in
    record { at = c.0 ∷ p.at; size = ap suc p.size; led = led-on c.1 p.led }

-- a point, and a number behind it
record LedBeside (dims limit : ℕ) (ws : List (List ℕ)) : Type 0 where
  cs : List Coord
  kept : ℕ
  zs : List ℤ
  led : Led (coordinates dims ++ Below limit ∷ []) ws [] cs (kept ∷ []) zs
  size : length cs ≡ dims
  below : kept < limit
  same : zs ≡ numbers_of cs ++ pos kept ∷ []

led-beside : (dims limit : ℕ) (ws : List (List ℕ)) → limit ≤ 2 ^ 128 →
    pointwise number_fits (coordinates dims ++ Below limit ∷ []) ws ≡ true → LedBeside dims limit ws
led-beside dims limit ws l h =
    let p = led-point dims (Below limit ∷ []) ws h in
    let b = led-count limit [] p.led.left l p.led.fits in
    let e = append-nil p.at in
    record {
      cs = p.at ++ [];
      kept = b.kept;
      zs = numbers_of p.at ++ pos b.kept ∷ [];
      led = led-on p.led b.led;
      size = rw e p.size;
      below = b.below;
      same = rw e refl;
    }

-- the parts in the places of each form are what it asks
pub record Reads (verb : Verb) (dims : ℕ) (ws : List (List ℕ)) : Type 0 where
  pub fit : IsFit verb dims (coords_at (places_by verb dims) ws) (counts_at (places_by verb dims) ws)
      (name_from None (places_by verb dims) ws) (file_from None (places_by verb dims) ws)
  pub same : numbers (places_by verb dims) ws ≡ numbers_of (coords_at (places_by verb dims) ws) ++ map pos (counts_at (places_by verb dims) ws)
  pub named : IsNamed verb (name_from None (places_by verb dims) ws) (file_from None (places_by verb dims) ws)
      (second_from false (places_by verb dims) ws) (texts (places_by verb dims) ws)

closing : (verb : Verb) (dims : ℕ) (ws : List (List ℕ)) {cs : List Coord} {ns : List ℕ} {zs : List ℤ} →
    Led (places_by verb dims) ws [] cs ns zs →
    IsFit verb dims cs ns (name_from None (places_by verb dims) ws) (file_from None (places_by verb dims) ws) →
    zs ≡ numbers_of cs ++ map pos ns →
    IsNamed verb (name_from None (places_by verb dims) ws) (file_from None (places_by verb dims) ws)
    (second_from false (places_by verb dims) ws) (texts (places_by verb dims) ws) → Reads verb dims ws
closing verb dims ws {cs} {ns} {zs} l f e named =
    let a : coords_at (places_by verb dims) ws ≡ cs = l.coords ∙ append-nil cs in
    let b : counts_at (places_by verb dims) ws ≡ ns = l.counts ∙ append-nil ns in
    let n : numbers (places_by verb dims) ws ≡ zs = l.same ∙ append-nil zs in
    record { fit = rw (a, b) f; same = rw (a, b) (n ∙ e); named = named }

led-get : (dims : ℕ) (ws : List (List ℕ)) → pointwise number_fits (coordinates dims) ws ≡ true →
    (at : List Coord) × Led (coordinates dims) ws [] at [] (numbers_of at) × (length at ≡ dims)
led-get dims ws h =
    let e = append-nil (coordinates dims) in
    let p = led-point dims [] ws (subst (λ ps. pointwise number_fits ps ws ≡ true) (sym e) h) in
    (p.at, subst (λ ps. Led ps ws [] p.at [] (numbers_of p.at)) e p.led, p.size)

led-none : (ws : List (List ℕ)) → pointwise number_fits [] ws ≡ true → Led [] ws [] [] [] []
led-none ws h = record { left = ws; fits = h; coords = refl; counts = refl; same = refl }

-- two points
record LedCorners (dims : ℕ) (ws : List (List ℕ)) : Type 0 where
  cs : List Coord
  zs : List ℤ
  led : Led (coordinates dims ++ coordinates dims) ws [] cs [] zs
  size : length cs ≡ dims + dims
  same : zs ≡ numbers_of cs ++ []

led-corners : (dims : ℕ) (ws : List (List ℕ)) → pointwise number_fits (coordinates dims ++ coordinates dims) ws ≡ true → LedCorners dims ws
led-corners dims ws h =
    let p = led-point dims (coordinates dims) ws h in
    let q = led-get dims p.led.left p.led.fits in
    record {
      cs = p.at ++ q.0;
      zs = numbers_of p.at ++ numbers_of q.0;
      led = led-on p.led q.1;
      size = length-append p.at q.0 ∙ rw (p.size, q.2) refl;
      same = rw (map-append number_of_coord p.at q.0, append-nil (numbers_of p.at ++ numbers_of q.0)) refl;
    }

pub reads : (verb : Verb) (dims : ℕ) (ws : List (List ℕ)) → pointwise number_fits (places_by verb dims) ws ≡ true → Reads verb dims ws
reads Open dims [] h = absurd (let k : false ≡ true = h in cc)
reads Open dims (w ∷ ws) h =
    let a = led-number (codes "points" ∷ codes "boxes" ∷ []) (2 ^ 32) [] (w ∷ ws) (lit≤ tt) h in
    closing Open dims (w ∷ ws) a.led (refl, refl, a.below) refl (unsaid-count (bytes_eq w (codes "boxes")) (2 ^ 32) [] ws (λ vs. refl))
reads OpenBits dims ws h =
    let o = led-open (codes "bits") (2 ^ 32) ws (lit≤ tt) h in
    closing OpenBits dims ws o.led (refl, refl, o.few, o.below) refl o.said
reads OpenMax dims ws h =
    let o = led-open (codes "max") (2 ^ 64) ws (lit≤ tt) h in
    closing OpenMax dims ws o.led (refl, refl, o.few, o.below) refl o.said
reads OpenBitsMax dims [] h = absurd (let k : false ≡ true = h in cc)
reads OpenBitsMax dims (w ∷ ws) h =
    let a = led-number (codes "points" ∷ codes "boxes" ∷ []) (2 ^ 32) (fixed (codes "bits") ∷ count ∷ fixed (codes "max") ∷ value ∷ []) (w ∷ ws) (lit≤ tt) h in
    let b = led-number (codes "bits" ∷ []) (2 ^ 32) (fixed (codes "max") ∷ value ∷ []) a.led.left (lit≤ tt) a.led.fits in
    let c = led-number (codes "max" ∷ []) (2 ^ 64) [] b.led.left (lit≤ tt) b.led.fits in
    let second = bytes_eq w (codes "boxes") in
    closing OpenBitsMax dims (w ∷ ws) (led-on a.led (led-on b.led c.led)) (refl, refl, a.below, b.below, c.below) refl
    (unsaid-count second (2 ^ 32) (fixed (codes "bits") ∷ count ∷ fixed (codes "max") ∷ value ∷ []) ws
    (λ vs. unsaid-fixed second (codes "bits") (2 ^ 32) (fixed (codes "max") ∷ value ∷ []) vs
    (λ us. unsaid-fixed second (codes "max") (2 ^ 64) [] us (λ ts. refl))))
reads Put dims ws h = let b = led-beside dims (2 ^ 64) ws (lit≤ tt) h in closing Put dims ws b.led (b.size, refl, b.below) b.same tt
reads Get dims ws h =
    let p = led-get dims ws h in
    closing Get dims ws p.1 (p.2, refl) (sym (append-nil (numbers_of p.0))) tt
reads Del dims ws h =
    let p = led-get dims ws h in
    closing Del dims ws p.1 (p.2, refl) (sym (append-nil (numbers_of p.0))) tt
reads Relocate dims ws h = let l = led-corners dims ws h in closing Relocate dims ws l.led (l.size, refl) l.same tt
reads Count dims ws h = closing Count dims ws (led-none ws h) tt refl tt
reads Clear dims ws h = closing Clear dims ws (led-none ws h) tt refl tt
reads Window dims ws h = let l = led-corners dims ws h in closing Window dims ws l.led (l.size, refl) l.same tt
reads Cursor dims [] h = absurd (let k : false ≡ true = h in cc)
reads Cursor dims (w ∷ ws) h =
    let l = led-corners dims ws h in
    let n = unnamed-corners (Some w) dims ws in
    closing Cursor dims (w ∷ ws) (led-name w l.led) (l.size, refl, rw n refl) l.same n
reads Page dims [] h = absurd (let k : false ≡ true = h in cc)
reads Page dims (w ∷ ws) h =
    let b = led-count (2 ^ 32) [] ws (lit≤ tt) h in
    let n = unnamed-count (Some w) (2 ^ 32) ws in
    closing Page dims (w ∷ ws) (led-name w b.led) (refl, refl, b.below, rw n refl) refl n
reads Near dims ws h = let b = led-beside dims (2 ^ 32) ws (lit≤ tt) h in closing Near dims ws b.led (b.size, refl, b.below) b.same tt
reads Within dims ws h = let b = led-beside dims (2 ^ 128) ws (lit≤ tt) h in closing Within dims ws b.led (b.size, refl) b.same tt
reads Overlap dims ws h = let p = led-get dims ws h in closing Overlap dims ws p.1 (p.2, refl) (sym (append-nil (numbers_of p.0))) tt
reads Inside dims ws h = let p = led-get dims ws h in closing Inside dims ws p.1 (p.2, refl) (sym (append-nil (numbers_of p.0))) tt
reads Covers dims ws h = let p = led-get dims ws h in closing Covers dims ws p.1 (p.2, refl) (sym (append-nil (numbers_of p.0))) tt
reads Save dims [] h = absurd (let k : false ≡ true = h in cc)
reads Save dims (w ∷ ws) h = closing Save dims (w ∷ ws) (led-file w (led-none ws h)) refl refl refl
reads Load dims [] h = absurd (let k : false ≡ true = h in cc)
reads Load dims (w ∷ ws) h = closing Load dims (w ∷ ws) (led-file w (led-none ws h)) refl refl refl
reads Import dims [] h = absurd (let k : false ≡ true = h in cc)
reads Import dims (w ∷ ws) h = closing Import dims (w ∷ ws) (led-file w (led-none ws h)) refl refl refl
reads ImportHeader dims [] h = absurd (let k : false ≡ true = h in cc)
reads ImportHeader dims (w ∷ ws) h =
    let f = unfiled-fixed (Some w) (codes "header" ∷ []) ws in
    closing ImportHeader dims (w ∷ ws) (led-file w (led-fixed (codes "header" ∷ []) [] ws h)) (rw f refl) refl f
reads Export dims [] h = absurd (let k : false ≡ true = h in cc)
reads Export dims (w ∷ ws) h = closing Export dims (w ∷ ws) (led-file w (led-none ws h)) refl refl refl
reads Stats dims ws h = closing Stats dims ws (led-none ws h) tt refl tt
reads Select dims [] h = absurd (let k : false ≡ true = h in cc)
reads Select dims (w ∷ ws) h =
    let a = led-fixed (codes "a" ∷ codes "b" ∷ []) [] (w ∷ ws) h in
    closing Select dims (w ∷ ws) a tt refl refl
reads Same dims ws h = closing Same dims ws (led-none ws h) tt refl tt
reads Join dims ws h = closing Join dims ws (led-none ws h) tt refl tt
reads (Combine operation) dims ws h = closing (Combine operation) dims ws (led-none ws h) tt refl tt
reads Keep dims ws h =
    let b = led-count 65537 [] ws (lit≤ tt) h in
    closing Keep dims ws b.led (refl, refl, b.below) refl tt
reads Back dims ws h =
    let b = led-count (2 ^ 32) [] ws (lit≤ tt) h in
    closing Back dims ws b.led (refl, refl, b.below) refl tt

-- the same of places and parts that are these
pub fit-of : (verb : Verb) (dims : ℕ) (places : List Place) (ws : List (List ℕ)) (cs : List Coord) (ns : List ℕ)
    (name file : Option (List ℕ)) → places ≡ places_by verb dims → pointwise number_fits places ws ≡ true →
    cs ≡ coords_at places ws → ns ≡ counts_at places ws → name ≡ name_from None places ws →
    file ≡ file_from None places ws → IsFit verb dims cs ns name file
fit-of verb dims places ws cs ns name file e h a b n f = rw (a, b, n, f, e) (reads verb dims ws (rw e at h)).fit

pub same-of : (verb : Verb) (dims : ℕ) (places : List Place) (ws : List (List ℕ)) (cs : List Coord) (ns : List ℕ) →
    places ≡ places_by verb dims → pointwise number_fits places ws ≡ true → cs ≡ coords_at places ws →
    ns ≡ counts_at places ws → numbers places ws ≡ numbers_of cs ++ map pos ns
same-of verb dims places ws cs ns e h a b = rw (a, b, e) (reads verb dims ws (rw e at h)).same

named-of : (verb : Verb) (dims : ℕ) (places : List Place) (ws : List (List ℕ)) (name file : Option (List ℕ))
    (second : Bool) → places ≡ places_by verb dims → pointwise number_fits places ws ≡ true →
    name ≡ name_from None places ws → file ≡ file_from None places ws → second ≡ second_from false places ws →
    IsNamed verb name file second (texts places ws)
named-of verb dims places ws name file second e h n f s = rw (n, f, s, e) (reads verb dims ws (rw e at h)).named

-- the command of a form, where all its numbers and names fit
pub does : (word : List ℕ) (verb : Verb) (dims : ℕ) (places read : List Place) (ws : List (List ℕ)) (cs : List Coord)
    (ns : List ℕ) (name file : Option (List ℕ)) (second : Bool) (made : Command) → places ≡ places_by verb dims →
    read ≡ places → pointwise number_fits read ws ≡ true → pointwise name_fits read ws ≡ true →
    cs ≡ coords_at read ws → ns ≡ counts_at read ws → name ≡ name_from None read ws → file ≡ file_from None read ws →
    second ≡ second_from false read ws →
    ((t : List (List ℕ)) → IsNamed verb name file second t →
    made ≡ command_by verb dims (numbers_of cs ++ map pos ns) t) →
    read_form (form word places (command_by verb dims)) ws ≡ Reading.Do made
does word verb dims places read ws cs ns name file second made row e h k a b n f s makes =
    let fits : pointwise number_fits places ws ≡ true = rw e at h in
    let names : pointwise name_fits places ws ≡ true = rw e at k in
    let same = same-of verb dims places ws cs ns row fits (rw e at a) (rw e at b) in
    let named = named-of verb dims places ws name file second row fits (rw e at n) (rw e at f) (rw e at s) in
    rw (fits, names) (ap Reading.Do (ap (λ n. command_by verb dims n (texts places ws)) same ∙ sym (makes (texts places ws) named)))
