-- The records that are left behind a record.
use Rattle.std.proofs.Common.{◌≡◌, ℕ, zero, suc, ◌+◌, ◌<◌, ◌≤◌, Bool, true, false, ◌==◌, List, [], ◌∷◌, ◌++◌, length, refl, ap, sym, ◌∙◌, subst, inl, arith, add-one}
use Rattle.std.specs.Prelude.{Option, Some, None, if◌then◌else◌}
use Rattle.csv.specs.Machine.{Read, next_record, ends_at_end, step, is_end, in_field, start_field, start_record, fields_after, field_after, carriage_return, line_feed}
use Rattle.csv.specs.Reading.{strip_bom, is_bom, Reached, ReadRecord, default_config, records_from, records_next}
use Rattle.csv.specs.declared.reader.Reader.{Reader}
use Rattle.csv.specs.declared.parser.State.{State}
use Rattle.csv.specs.declared.parser.State.TheVariants as st
use Rattle.csv.specs.declared.parser.Action.{Action}
use Rattle.csv.specs.declared.parser.Action.TheVariants as act
use Rattle.csv.proofs.ReadFacts.{rows-more, rows-end}
use Rattle.ph_csv.specs.Left.{known, left_in, rest_of, rest_in, IsReading, IsNext, ReadsNext}

-- ---- a record ends between two records

-- where an action ends a record, the next one may begin
Between : State × Action → Type 0
Between p = is_end p.1 ≡ true → ends_at_end p.0 ≡ false

choose : (b : Bool) (p q : State × Action) → Between p → Between q → Between (if b then p else q)
unfolding Between
choose true p q h k = h
choose false p q h k = k

ended : (b : Bool) → Between ((if b then st.AfterCr else st.StartRecord), act.EndRecord)
unfolding Between
ended true e = refl
ended false e = refl

going : (s : State) (a : Action) → is_end a ≡ false → Between (s, a)
unfolding Between
going s a h e = cc

between-in_field : (c : ℕ) → Between (in_field default_config c)
between-in_field c = choose (c == 44) _ _ (going st.StartField act.EndField refl) (choose _ _ _ (ended (c == carriage_return)) (going st.InField act.Copy refl))

between-start_field : (c : ℕ) → Between (start_field default_config c)
between-start_field c = choose (c == 34) _ _ (going st.InQuoted act.Skip refl) (between-in_field c)

between-start_record : (c : ℕ) → Between (start_record default_config c)
between-start_record c = choose _ _ _ (going st.StartRecord act.Skip refl) (between-start_field c)

between : (s : State) (c : ℕ) → Between (step default_config s c)
between st.StartRecord c = between-start_record c
between st.StartField c = between-start_field c
between st.InField c = between-in_field c
between st.InQuoted c = choose (c == 34) _ _ (going st.AfterQuote act.Skip refl) (going st.InQuoted act.Copy refl)
between st.InEscape c = going st.InQuoted act.Copy refl
between st.AfterQuote c = choose (c == 34) _ _ (going st.InQuoted act.Copy refl) (between-in_field c)
between st.InComment c = choose (c == line_feed) _ _ (going st.StartRecord act.Skip refl) (going st.InComment act.Skip refl)
between st.AfterCr c = choose (c == line_feed) _ _ (going st.StartRecord act.Skip refl) (between-start_record c)

-- ---- a record takes a byte

-- what a record leaves
record Leaves (bytes : List ℕ) (p : Read) : Type 0 where
  less : length p.2 ≤ length bytes
  between : ends_at_end p.1 ≡ false

some-is : (p q : Read) → Some p ≡ Some q → p ≡ q
some-is p q e = cc

leaves : (s : State) (fields : List (List ℕ)) (field bytes : List ℕ) (p : Read) → next_record default_config s fields field bytes ≡ Some p → Leaves bytes p
unfolding next_record Between
leaves s fields field [] p e =
    elim (ends_at_end s) as (λ b. (if b then Some (fields ++ (field ∷ []), st.StartRecord, []) else None) ≡ Some p → Leaves [] p) [
      | true ↦ λ k. subst (Leaves []) (some-is _ p k) (record { less = omega arith; between = refl })
      | false ↦ λ k. cc
    ] e
leaves s fields field (c ∷ rest) p e =
    elim (is_end (step default_config s c).1) as (λ b. is_end (step default_config s c).1 ≡ b →
    (if b then Some (
      fields_after (step default_config s c).1 fields field,
      (step default_config s c).0,
      rest,
    ) else next_record default_config (step default_config s c).0
    (fields_after (step default_config s c).1 fields field) (field_after (step default_config s c).1 c field)
    rest) ≡ Some p → Leaves (c ∷ rest) p) [
      | true ↦ λ t k. subst (Leaves (c ∷ rest)) (some-is _ p k) (record { less = omega arith; between = between s c t })
      | false ↦ λ t k.
          let l = leaves (step default_config s c).0 (fields_after (step default_config s c).1 fields field) (field_after (step default_config s c).1 c field) rest p k in
          record { less = omega (arith, l.less); between = l.between }
    ] refl e

-- between two records a record takes a byte
takes : (s : State) (bytes : List ℕ) (p : Read) → ends_at_end s ≡ false → next_record default_config s [] [] bytes ≡ Some p → length p.2 < length bytes
unfolding next_record
takes s [] p h e = let none : next_record default_config s [] [] [] ≡ None = rw h refl in cc
takes s (c ∷ rest) p h e =
    elim (is_end (step default_config s c).1)
    as (λ b. (if b then Some (
      fields_after (step default_config s c).1 [] [],
      (step default_config s c).0,
      rest,
    ) else next_record default_config (step default_config s c).0
    (fields_after (step default_config s c).1 [] []) (field_after (step default_config s c).1 c []) rest) ≡
    Some p → length p.2 < suc (length rest)) [
      | true ↦ λ k. subst (λ (q : Read). length q.2 < suc (length rest)) (some-is _ p k) (omega arith)
      | false ↦ λ k. omega (
        arith,
        (leaves (step default_config s c).0
            (fields_after (step default_config s c).1 [] []) (field_after (step default_config s c).1 c []) rest p k).less,
      )
    ] e

-- ---- the number of turns does not matter

same-rest : (n m : ℕ) (s : State) (bytes : List ℕ) → ends_at_end s ≡ false → length bytes < n → length bytes < m →
    records_from default_config n s bytes ≡ records_from default_config m s bytes
unfolding records_from
same-rest zero m s bytes b h k = absurd (omega arith)
same-rest (suc n) zero s bytes b h k = absurd (omega arith)
same-rest (suc n) (suc m) s bytes b h k =
    let go : (o : Option Read) → next_record default_config s [] [] bytes ≡ o →
    records_next (records_from default_config n) o ≡ records_next (records_from default_config m) o =
    λ o. elim o as (λ v. next_record default_config s [] [] bytes ≡ v →
    records_next (records_from default_config n) v ≡ records_next (records_from default_config m) v) [
      | None ↦ λ e. refl
      | Some p ↦ λ e. let t = takes s bytes p b e in ap (λ rs. p.0 ∷ rs) (same-rest n m p.1 p.2 (leaves s [] [] bytes p e).between (omega (arith, t)) (omega (arith, t)))
    ] in go _ refl

rest-some : (s : State) (bytes : List ℕ) (p : Read) → ends_at_end s ≡ false → next_record default_config s [] [] bytes ≡ Some p → rest_of s bytes ≡ p.0 ∷ rest_of p.1 p.2
unfolding records_from
rest-some s bytes p b e =
    let t = takes s bytes p b e in
    rw (add-one, e) (ap (λ rs. p.0 ∷ rs) (same-rest (length bytes) (length p.2 + 1) p.1 p.2 (leaves s [] [] bytes p e).between t (omega arith)))

rest-none : (s : State) (bytes : List ℕ) → next_record default_config s [] [] bytes ≡ None → rest_of s bytes ≡ []
unfolding records_from
rest-none s bytes e = rw (add-one, e) refl

-- ---- a step of a reader

step-some : {R : Type 0} (rem : R → Option (List ℕ)) (a b : Reader R) (f : List (List ℕ)) → IsReading rem a →
    ReadRecord rem a b true f → b.first ≡ true → IsNext rem a b f
unfolding Reached
step-some rem a b f i r t =
    let m = rows-more rem a b f default_config a.state (left_in rem a) (left_in rem a) [] i.plain i.source (refl, refl) r in
    let p : Read = m.2.0 in
    let next : next_record default_config a.state [] [] (left_in rem a) ≡ Some p = m.2.1 in
    let fields : f ≡ p.0 = m.2.2 in
    let state : p.1 ≡ b.state = m.2.3.0 in
    let left : left_in rem b ≡ p.2 = ap known m.1 ∙ sym m.2.3.1 in
    let between : ends_at_end p.1 ≡ false = (leaves a.state [] [] (left_in rem a) p next).between in
    let whole : rest_in rem a ≡ p.0 ∷ rest_of p.1 p.2 = rest-some a.state (left_in rem a) p i.between next in
    let reading : IsReading rem b = record {
      untrimmed = r.3 ∙ i.untrimmed;
      ready = inl t;
      plain = r.2 ∙ i.plain;
      between = rw state at between;
      source = m.1 ∙ sym (ap (λ x. Some x) (ap known m.1));
    } in
    record {
      reading = reading;
      rest = whole ∙ rw (← fields, state, ← left) refl;
      less = rw left (takes a.state (left_in rem a) p i.between next);
    }

step-none : {R : Type 0} (rem : R → Option (List ℕ)) (a b : Reader R) (f : List (List ℕ)) → IsReading rem a → ReadRecord rem a b false f → rest_in rem a ≡ []
step-none rem a b f i r = rest-none a.state (left_in rem a) (rows-end rem a b f default_config (left_in rem a) i.plain i.source r)

pub reads-next : {R : Type 0} (rem : R → Option (List ℕ)) (a b : Reader R) (found : Bool) (f : List (List ℕ)) →
    IsReading rem a → ReadRecord rem a b found f → b.first ≡ true → ReadsNext rem a b found f
reads-next rem a b true f i r t = step-some rem a b f i r t
reads-next rem a b false f i r t = step-none rem a b f i r

-- a text without its byte order mark
pub strip-short : (bytes : List ℕ) → length (strip_bom bytes) ≤ length bytes
unfolding strip_bom
strip-short [] = omega arith
strip-short (a ∷ []) = omega arith
strip-short (a ∷ b ∷ []) = omega arith
strip-short (a ∷ b ∷ c ∷ rest) =
    elim (is_bom a b c) as (λ t. length (if t then rest else a ∷ b ∷ c ∷ rest) ≤ suc (suc (suc (length rest)))) [ true ↦ omega arith | false ↦ omega arith ]
