-- The rows that were read so far, and the answer to all records.
use Rattle.std.proofs.Common.{◌≡◌, ℕ, ◌+◌, List, [], ◌∷◌, ◌++◌, refl, ap, sym, ◌∙◌}
use Rattle.std.specs.Prelude.{Result, Ok, Err}
use Rattle.std.specs.List.{AllByRecursion as Each}
use Rattle.ph_specs.specs.Table.{Row}
use Rattle.ph_specs.specs.Reply.{Reply}
use Rattle.ph_specs.specs.declared.Kind.{Kind}
use Rattle.ph_specs.specs.Csv.{cons_row, read_record, read_records}
use Rattle.ph_csv.specs.Faults.{IsFault}
use Rattle.ph_csv.specs.declared.fault.CsvFault.{CsvFault}
use Rattle.ph_csv.specs.declared.fault.CsvFault.TheVariants as fault

-- rows in front of those of an answer
abbrev pub rows_then : List Row → Result (List Row) Reply → Result (List Row) Reply
rows_then [] more = more
rows_then (r ∷ rs) more = cons_row (Ok r) (rows_then rs more)

then-more : (rs : List Row) (r : Row) (more : Result (List Row) Reply) → rows_then (rs ++ r ∷ []) more ≡ rows_then rs (cons_row (Ok r) more)
then-more [] r more = refl
then-more (q ∷ rs) r more = ap (cons_row (Ok q)) (then-more rs r more)

then-none : (rs : List Row) → rows_then rs (Ok []) ≡ Ok rs
then-none [] = refl
then-none (r ∷ rs) = ap (cons_row (Ok r)) (then-none rs)

then-fault : (rs : List Row) (fault : Reply) → rows_then rs (Err fault) ≡ Err fault
then-fault [] fault = refl
then-fault (r ∷ rs) fault = ap (cons_row (Ok r)) (then-fault rs fault)

pub answer-none : (answer : Result (List Row) Reply) (rows : List Row) (w dims : ℕ) (kind : Kind) (n : ℕ)
    (rest : List (List (List ℕ))) → answer ≡ rows_then rows (read_records w dims kind n rest) → rest ≡ [] → answer ≡ Ok rows
answer-none answer rows w dims kind n rest h e = h ∙ ap (λ rs. rows_then rows (read_records w dims kind n rs)) e ∙ then-none rows

pub answer-more : (answer : Result (List Row) Reply) (rows more : List Row) (r : Row) (w dims : ℕ) (kind : Kind)
    (n : ℕ) (f : List (List ℕ)) (rest next : List (List (List ℕ))) →
    answer ≡ rows_then rows (read_records w dims kind n rest) → rest ≡ f ∷ next → read_record w dims kind n f ≡ Ok r →
    more ≡ rows ++ r ∷ [] → answer ≡ rows_then more (read_records w dims kind (n + 1) next)
answer-more answer rows more r w dims kind n f rest next h e k m =
    h ∙ ap (λ rs. rows_then rows (read_records w dims kind n rs)) e ∙ ap (λ x. rows_then rows (cons_row x (read_records w dims kind (n + 1) next))) k
    ∙ sym (then-more rows r (read_records w dims kind (n + 1) next)) ∙ ap (λ rs. rows_then rs (read_records w dims kind (n + 1) next)) (sym m)

fault-moves : (answer : Result (List Row) Reply) (rows : List Row) (one : Result Row Reply)
    (more : Result (List Row) Reply) → answer ≡ rows_then rows (cons_row one more) → (reply : Reply) →
    one ≡ Err reply → answer ≡ Err reply
fault-moves answer rows one more h reply e = h ∙ ap (λ x. rows_then rows (cons_row x more)) e ∙ then-fault rows reply

pub answer-fault : (answer : Result (List Row) Reply) (rows : List Row) (w dims : ℕ) (kind : Kind) (n : ℕ)
    (f : List (List ℕ)) (rest next : List (List (List ℕ))) (x : CsvFault) →
    answer ≡ rows_then rows (read_records w dims kind n rest) → rest ≡ f ∷ next →
    IsFault (read_record w dims kind n f) x → IsFault answer x
answer-fault answer rows w dims kind n f rest next (fault.Fields m) h e k =
    fault-moves answer rows _ _ (h ∙ ap (λ rs. rows_then rows (read_records w dims kind n rs)) e) (Reply.BadFields m) k
answer-fault answer rows w dims kind n f rest next (fault.Number m) h e k =
    fault-moves answer rows _ _ (h ∙ ap (λ rs. rows_then rows (read_records w dims kind n rs)) e) (Reply.BadNumber m) k
answer-fault answer rows w dims kind n f rest next (fault.Range m) h e k =
    fault-moves answer rows _ _ (h ∙ ap (λ rs. rows_then rows (read_records w dims kind n rs)) e) (Reply.BadRange m) k
answer-fault answer rows w dims kind n f rest next (fault.Reversed m) h e k =
    fault-moves answer rows _ _ (h ∙ ap (λ rs. rows_then rows (read_records w dims kind n rs)) e) (Reply.BadReversed m) k
answer-fault answer rows w dims kind n f rest next fault.NoMemory h e k = tt

-- one more row of which a fact holds
pub each-more : (P : Row → Type 0) (rows : List Row) (r : Row) → Each P rows → P r → Each P (rows ++ r ∷ [])
each-more P [] r h k = (k, tt)
each-more P (q ∷ rows) r h k = (h.0, each-more P rows r h.1 k)
