-- A walk over lawful entries gathers their rows.
use Rattle.std.proofs.Common.{◌≡◌, ℕ, zero, suc, ◌+◌, ◌<◌, ◌≤◌, refl, sym, ◌∙◌, ap, arith, List, [], ◌∷◌, ◌++◌}
use Rattle.std.proofs.Common.{length, get_or, take, drop, replicate, append_assoc, drop-cons, add-one}
use Rattle.std.specs.Prelude.{Option}
use Rattle.std.proofs.Math.Pow.{pow_mono}
use Rattle.std.proofs.Math.Seq.{take-append_seam}
use Rattle.std.proofs.lemmas.Nat.{pow_pos}
use Rattle.std.proofs.lemmas.List.{append-nil, length-replicate}
use Rattle.ph_specs.specs.Table.{Row}
use Rattle.ph_specs.specs.Node.{Entries, PlainNode}
use Rattle.ph_model.specs.EntryList.{Entry, What, value, node, listed, in_front, chained}
use Rattle.ph_specs.specs.Shape.{shape}
use Rattle.ph_specs.specs.TreeRows.{put_together, rows_behind, rows}
use Rattle.ph_model.specs.Lawful.{IsBody, HasZerosFrom, IsLawful}
use Rattle.ph_model.proofs.lemmas.Joined.{length-put_together, zeros-put_together}
use Rattle.ph_model.proofs.laws.EntryLists.{chained-listed}
use Rattle.ph_model.proofs.laws.LawfulRows.{put_together-small}
use Rattle.ph_model.proofs.laws.Unique.{shape-rows, zeros_known}
use Rattle.ph_model.specs.PutTree.{body_above}
use Rattle.ph_digits.proofs.Cuts.{above-zeros}
use Rattle.ph_shape.specs.Bodies.{AreBelow}
use Rattle.ph_shape.specs.Known.{IsKnown, what_rows, entry_rows, IsOnly}

-- ---- rows, entry by entry

rows-front : (w level : ℕ) (above : List ℕ) (e : Entry) (rest : Entries) →
    rows_behind w level above (in_front e.addr e.body e.what rest) ≡ entry_rows w level above e ++ rows_behind w level above rest
rows-front w level above e rest = by_what e.what
  where
    by_what : (what : What) → rows_behind w level above (in_front e.addr e.body what rest) ≡
        what_rows w (put_together level e.addr above e.body) what ++ rows_behind w level above rest
    by_what (value v) = refl
    by_what (node n) = refl

-- the rows from an entry on are its own, and then those of the entries behind it
rows-from : (w level : ℕ) (above : List ℕ) (es : List Entry) (i : ℕ) (e : Entry) → i < length es → get_or es i e ≡ e →
    rows_behind w level above (chained (drop i es)) ≡ entry_rows w level above e ++
    rows_behind w level above (chained (drop (i + 1) es))
rows-from w level above es i e l h =
    let d : drop i es ≡ get_or es i e ∷ drop (i + 1) es = rw add-one (drop-cons es i e l) in
    ap (λ t. rows_behind w level above (chained t)) (d ∙ ap {B = List Entry} (λ t. t ∷ drop (i + 1) es) h) ∙ rows-front w level above e (chained (drop (i + 1) es))

-- one entry more is gathered
pub gathered-next : (w level : ℕ) (above : List ℕ) (es : List Entry) (i : ℕ) (e : Entry) (old new all : List Row) →
    i < length es → get_or es i e ≡ e → new ≡ old ++ entry_rows w level above e →
    old ++ rows_behind w level above (chained (drop i es)) ≡ all →
    new ++ rows_behind w level above (chained (drop (i + 1) es)) ≡ all
gathered-next w level above es i e old new all l h n m =
    ap (λ t. t ++ rows_behind w level above (chained (drop (i + 1) es))) n
    ∙ append_assoc old (entry_rows w level above e) (rows_behind w level above (chained (drop (i + 1) es)))
    ∙ ap (λ t. old ++ t) (sym (rows-from w level above es i e l h))
    ∙ m

drop-all : (i : ℕ) (es : List Entry) → length es ≤ i → drop i es ≡ []
drop-all zero [] l = refl
drop-all zero (x ∷ es) l = absurd (let no : ⊥ = omega (arith, l) in no)
drop-all (suc i) [] l = refl
drop-all (suc i) (x ∷ es) l = drop-all i es (omega (arith, l))

-- all are gathered
pub gathered-all : (w level c : ℕ) (above : List ℕ) (es : List Entry) (chain : Entries) (i : ℕ) (old new : List Row) →
    length es ≤ i → level ≡ c → es ≡ listed chain → new ++ rows_behind w level above (chained (drop i es)) ≡ old ++
    rows_behind w level above (chained es) → new ≡ old ++ rows_behind w c above chain
gathered-all w level c above es chain i old new l e h m =
    sym (append-nil new)
    ∙ ap (λ t. new ++ rows_behind w level above (chained t)) (sym (drop-all i es l))
    ∙ m
    ∙ ap (λ t. old ++ rows_behind w level above t) (ap chained h ∙ chained-listed chain)
    ∙ ap (λ t. old ++ rows_behind w t above chain) e

-- ---- what is known

pub below-more : (w k : ℕ) (xs : List ℕ) → w ≤ k → AreBelow w xs → AreBelow k xs
below-more w k [] l h = tt
below-more w k (x ∷ xs) l h = (omega (arith, h.0, pow_mono {i = w} {j = k} l), below-more w k xs l h.1)

pub length-known : (w dims level a : ℕ) (above body : List ℕ) → IsKnown w dims level above → IsBody dims level body → length (put_together level a above body) ≡ dims
length-known w dims level a above body h k = length-put_together level a above body (h.long ∙ sym k.0) ∙ h.long

pub small-known : (w dims level a : ℕ) (above body : List ℕ) → level < w → IsKnown w dims level above →
    IsBody dims level body → AreBelow w (put_together level a above body)
small-known w dims level a above body l h k = put_together-small w level a above body l h.zeros h.small k.1

-- what is known behind a child entry
pub known-child : (w dims level c a : ℕ) (above body : List ℕ) → level < w → c < level → IsKnown w dims level above →
    IsBody dims level body → HasZerosFrom c body → IsKnown w dims c (put_together level a above body)
known-child w dims level c a above body l m h k z = record {
  long = length-known w dims level a above body h k;
  zeros = zeros-put_together level c a above body m h.zeros z;
  small = small-known w dims level a above body l h k;
}

-- an entry is joined to what is known in the front of an array
pub joined-front : (d level a : ℕ) (new above body rest : List ℕ) →
    new ≡ put_together level a (body_above level above) body → HasZerosFrom level above → length above ≡ d →
    length body ≡ d → take d (new ++ rest) ≡ put_together level a above body
joined-front d level a new above body rest e z h k =
    let all : new ≡ put_together level a above body = e ∙ ap (λ t. put_together level a t body) (sym (above-zeros level above z)) in
    let long : length (put_together level a above body) ≡ d = length-put_together level a above body (h ∙ sym k) ∙ h in
    ap (λ t. take d (t ++ rest)) all ∙ ap (λ n. take n (put_together level a above body ++ rest)) (sym long) ∙ take-append_seam (put_together level a above body) rest

take-zeros : (n k : ℕ) → n ≤ k → take {A = ℕ} n (replicate k 0) ≡ replicate n 0
take-zeros zero k l = refl
take-zeros (suc n) zero l = absurd (let no : ⊥ = omega (arith, l) in no)
take-zeros (suc n) (suc k) l = ap {B = List ℕ} (λ t. 0 ∷ t) (take-zeros n k (omega (arith, l)))

zeros-small : (w n : ℕ) → AreBelow w (replicate n 0)
zeros-small w zero = tt
zeros-small w (suc n) = (pow_pos w, zeros-small w n)

-- nothing is known above a root
pub known-root : (w dims level : ℕ) → IsKnown w dims level (replicate dims 0)
known-root w dims level =
    record { long = length-replicate dims 0; zeros = zeros_known level dims; small = zeros-small w dims }

pub root-zeros : (dims : ℕ) → dims ≤ 16 → take {A = ℕ} dims (replicate 16 0) ≡ replicate dims 0
root-zeros dims l = take-zeros dims 16 l

-- ---- one tree

pub only-tree : (w dims : ℕ) (t : Option PlainNode) (held : List Row) → IsLawful w dims t → held ≡ rows w dims t → IsOnly w dims held t
only-tree w dims t held h e s k m = sym (shape-rows w dims s k) ∙ ap (shape w) (m ∙ e) ∙ shape-rows w dims t h
