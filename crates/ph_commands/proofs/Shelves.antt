-- What is written to a file piece by piece.
use Rattle.std.specs.Prelude.{◌≡◌, true, false, Option, Some, None, refl, IsSome}
use Rattle.std.proofs.Common.{◌∙◌, arith, ℕ, List, [], ◌∷◌, ◌++◌, ap, sym, append_assoc, append-nil}
use Rattle.ph_io.specs.Shelf.{Stays, Map, Draft, Begins, Grows, Gains}
use Rattle.ph_specs.specs.Csv.{csv_line, csv_text}
use Rattle.ph_specs.specs.Named.{enter}
use Rattle.ph_specs.specs.Table.{Row}
use Rattle.ph_commands.specs.Shelves.{Shelf, Filled}

pub stays_itself : {X : Type 0} (a : Option X) → Stays a a
stays_itself None = tt
stays_itself (Some x) = refl

pub stays_on : {X : Type 0} (a b c : Option X) → Stays a b → Stays b c → Stays a c
stays_on None b c h k = tt
stays_on (Some x) None c h k = absurd (let no : None ≡ Some x = h in cc)
stays_on (Some x) (Some y) c h k = k ∙ h

-- ---- a file that is begun, filled and finished

-- where the files are told, it is among them
pub entered : (told begun full now_told : Option Map) (d0 d1 d2 : Option Draft) (name bytes : List ℕ) (files : Map) →
    (IsSome told → IsSome d0) → Begins d0 d1 name → Stays told begun → Grows d1 d2 bytes → Stays begun full →
    Gains full d2 now_told → told ≡ Some files → now_told ≡ Some (enter name bytes files)
entered None begun full now_told d0 d1 d2 name bytes files law b s1 g s2 gain e = absurd (let no : None ≡ Some files = e in cc)
entered (Some old) begun full now_told None d1 d2 name bytes files law b s1 g s2 gain e = absurd (let no : false ≡ true = law refl in cc)
entered (Some old) begun full now_told (Some d) d1 d2 name bytes files law b s1 g s2 gain e =
    let s : full ≡ Some old = rw s1 at s2 in
    let grew : d2 ≡ Some (name, bytes) = rw b at g in
    let gained : now_told ≡ Some (enter name bytes old) = rw (s, grew) at gain in
    gained ∙ ap (λ m. Some (enter name bytes m)) (let same : old ≡ files = cc in same)

-- ---- a file that is filled piece by piece

grows-on : (a b c : Option Draft) (xs ys : List ℕ) → Grows a b xs → Grows b c ys → Grows a c (xs ++ ys)
grows-on None b c xs ys h k = tt
grows-on (Some d) None c xs ys h k = absurd (let no : None ≡ Some (d.0, d.1 ++ xs) = h in cc)
grows-on (Some d) (Some e) c xs ys h k =
    let is : e ≡ (d.0, d.1 ++ xs) = cc in
    k ∙ ap (λ x. Some (x.0, x.1 ++ ys)) is ∙ ap (λ bytes. Some (d.0, bytes)) (append_assoc d.1 xs ys)

pub filled-on : (a b c : Shelf) (xs ys : List ℕ) → Filled a b xs → Filled b c ys → Filled a c (xs ++ ys)
filled-on a b c xs ys h k = record {
  later = omega (arith, h.later, k.later);
  begun_still = k.begun_still;
  stays = stays_on a.files b.files c.files h.stays k.stays;
  grows = grows-on a.draft b.draft c.draft xs ys h.grows k.grows;
}

-- the lines of rows, and of one more
texts-append : (rows more : List Row) → csv_text (rows ++ more) ≡ csv_text rows ++ csv_text more
texts-append [] more = refl
texts-append (r ∷ rows) more = ap (λ t. csv_line r ++ t) (texts-append rows more) ∙ sym (append_assoc (csv_line r) (csv_text rows) (csv_text more))

-- of all rows the lines of some were appended, and the others are still to come
pub record IsWritten (all rest : List Row) (before now : Shelf) : Type 0 where
  pub gone : List Row
  pub split : all ≡ gone ++ rest
  pub filled : Filled before now (csv_text gone)

pub one-written : (all rest next : List Row) (r : Row) (a b c : Shelf) → IsWritten all rest a b → rest ≡ r ∷ next → Filled b c (csv_line r) → IsWritten all next a c
one-written all rest next r a b c h e k =
    let text : csv_text (h.gone ++ r ∷ []) ≡ csv_text h.gone ++ csv_line r = texts-append h.gone (r ∷ []) ∙ ap (λ t. csv_text h.gone ++ t) (append-nil (csv_line r)) in
    record {
      gone = h.gone ++ r ∷ [];
      split = h.split ∙ ap (λ x. h.gone ++ x) e ∙ sym (append_assoc h.gone (r ∷ []) next);
      filled = rw text (filled-on a b c (csv_text h.gone) (csv_line r) h.filled k);
    }

pub all-written : (all rest : List Row) (a b : Shelf) → IsWritten all rest a b → rest ≡ [] → Filled a b (csv_text all)
all-written all rest a b h e = let s : all ≡ h.gone = h.split ∙ ap (λ x. h.gone ++ x) e ∙ append-nil h.gone in rw s h.filled
