-- The records of a lawful tree pass the rules of the loader, and are read as its nodes.
use Rattle.std.proofs.Common.{◌≡◌, ℕ, zero, suc, ◌+◌, ◌*◌, ◌^◌, ◌<◌, ◌≤◌, refl, ◌∙◌, ap, arith, List, ◌∷◌, ◌++◌, length, drop, true, lt-ltb}
use Rattle.std.specs.Prelude.{Option, Some, None}
use Rattle.std.specs.List.{AllByRecursion as Each}
use Rattle.std.proofs.lemmas.List.{length-append}
use Rattle.ph_specs.specs.declared.Kind.{Kind}
use Rattle.ph_specs.specs.KindRows.{row_fits}
use Rattle.ph_specs.specs.Node.{Entries, end, point, child, PlainNode, flat, nodes_below}
use Rattle.ph_specs.specs.TreeRows.{rows_behind, put_together, count}
use Rattle.ph_model.specs.Lawful.{IsLawfulFrom, IsAbove}
use Rattle.ph_specs.specs.Digits.{bytes_of}
use Rattle.ph_specs.specs.Pack.{children, record_of}
use Rattle.ph_specs.specs.Record.{record_words, entries_in, unpacked}
use Rattle.ph_specs.specs.Snapshot.{packs}
use Rattle.ph_specs.specs.Load.{Fault, Place, under, known, next_first, next_record, places_under, places_of, records_fault}
use Rattle.ph_specs.specs.SavedTable.{read_nodes}
use Rattle.ph_model.proofs.lemmas.Columns.{reads}
use Rattle.ph_model.proofs.lemmas.Joined.{above-child}
use Rattle.ph_model.proofs.lemmas.Grouped.{Each-front, Each-back}
use Rattle.ph_model.proofs.lemmas.Passes.{IsPlaced, record-passes, next-first, next-record, next-behind}
use Rattle.ph_model.proofs.laws.Unpacked.{IsPackable, first-record, entries-record, child_nodes, unpacked-pack}
use Rattle.ph_model.proofs.laws.OneToOne.{packable, child-words, lawful-words, record-small}

pub count-flat : (e : Entries) → count e ≡ length (flat e)
count-flat end = refl
count-flat (point a body v rest) = ap suc (count-flat rest)
count-flat (child a body c chain rest) = ap suc (count-flat rest)

-- ---- the rules

-- behind the record of a child there are fewer words
child-length : (dims a c : ℕ) (body : List ℕ) (chain rest : Entries) (more : List ℕ) (most : ℕ) →
    length (packs dims (nodes_below (child a body c chain rest)) ++ more) ≤ suc most →
    length (packs dims (nodes_below chain) ++ (packs dims (nodes_below rest) ++ more)) ≤ most
child-length dims a c body chain rest more most l =
    let tail : List ℕ = packs dims (nodes_below rest) ++ more in
    let n : length (record_of dims c (flat chain) ++ (packs dims (nodes_below chain) ++ tail)) ≤ suc most =
    omega (arith, l, ap length (child-words dims a c body chain rest more)) in
    omega (arith, n, length-append (record_of dims c (flat chain)) (packs dims (nodes_below chain) ++ tail))

-- a record in front of words that pass at the places of its children
pub step-passes : (kind : Kind) (width dims : ℕ) (place : Place) (level : ℕ) (e : Entries) → IsPackable dims level e →
    IsPlaced kind width dims place level e → Each (λ x. x < 2 ^ 64) (record_of dims level (flat e)) →
    (ps : List Place) (more : List ℕ) (most at : ℕ) →
    ((from : ℕ) → records_fault most kind width dims (places_under level (known dims place) (reads e) ++ ps) from
    (bytes_of more) ≡ None) → records_fault (suc most) kind width dims (place ∷ ps) at
    (bytes_of (record_of dims level (flat e) ++ more)) ≡ None
step-passes kind width dims place level e h p s ps more most at k =
    let bytes : List ℕ = bytes_of (record_of dims level (flat e) ++ more) in
    let size : ℕ = 8 * record_words dims (next_first bytes) in
    let q : places_of dims place (next_record dims (bytes_of (record_of dims level (flat e) ++ more))) ≡
    places_under level (known dims place) (reads e) =
    ap (places_of dims place) (next-record dims level e h more s) ∙
    ap (λ t. places_under t.level (known dims place) (entries_in dims (record_of dims level (flat e))))
    (first-record dims level e h) ∙ ap (places_under level (known dims place)) (entries-record dims level e h) in
    ap (λ t. elim t as (λ x. Option Fault) [
      | Some f ↦ Some f
      | None ↦ records_fault most kind width dims
          (places_of dims place (next_record dims bytes) ++ ps) (at + size) (drop size bytes)
    ])
    (record-passes kind width dims place level e h p at more s)
    ∙ ap (λ t. records_fault most kind width dims (t ++ ps) (at + size) (drop size bytes)) q
    ∙ ap (records_fault most kind width dims (places_under level (known dims place) (reads e) ++ ps) (at + size)) (next-behind dims level e h more s)
    ∙ k (at + size)

-- the records below entries, in front of words that pass at further places
pub below-passes : (kind : Kind) (width dims level least : ℕ) (above : List ℕ) (e : Entries) → dims ≤ 16 →
    level < 2 ^ 8 → IsAbove dims level above → IsLawfulFrom dims level least e →
    Each (λ r. row_fits kind r ≡ true) (rows_behind width level above e) → (ps : List Place) (more : List ℕ) →
    ((most at : ℕ) → length more ≤ most → records_fault most kind width dims ps at (bytes_of more) ≡ None) →
    (most at : ℕ) → length (packs dims (nodes_below e) ++ more) ≤ most →
    records_fault most kind width dims (places_under level above (reads e) ++ ps) at
    (bytes_of (packs dims (nodes_below e) ++ more)) ≡ None
below-passes kind width dims level least above end d b i h x ps more k most at l = k most at l
below-passes kind width dims level least above (point a body v rest) d b i h x ps more k most at l =
    below-passes kind width dims level (a + 1) above rest d b i h.3 x.1 ps more k most at l
below-passes kind width dims level least above (child a body c chain rest) d b i h x ps more k zero at l =
    absurd (omega (arith, l))
below-passes kind width dims level least above (child a body c chain rest) d b i h x ps more k (suc most) at l =
    let behind : List ℕ = put_together level a above body in
    let cl : c < 2 ^ 8 = omega (arith, h.3, b) in
    let p : IsPackable dims c chain = packable dims c chain d cl h.6 in
    let ic : IsAbove dims c (put_together level a above body) = above-child dims level c a above body h.3 i h.2 h.4 in
    let xc : Each (λ r. row_fits kind r ≡ true) (rows_behind width c (put_together level a above body) chain) =
    Each-front (λ r. row_fits kind r ≡ true) (rows_behind width c behind chain) (rows_behind width level above rest) x in
    let xr : Each (λ r. row_fits kind r ≡ true) (rows_behind width level above rest) =
    Each-back (λ r. row_fits kind r ≡ true) (rows_behind width c behind chain) (rows_behind width level above rest) x in
    let pl : IsPlaced kind width dims (under level (put_together level a above body)) c chain =
    record { at_level = lt-ltb c level h.3; many = omega (arith, h.5, count-flat chain); zeros = ic.zeros; boxes = xc } in
    let s : Each (λ t. t < 2 ^ 64) (record_of dims c (flat chain)) = record-small dims c chain p (lawful-words dims c 0 chain h.6) in
    let tail : List ℕ = packs dims (nodes_below rest) ++ more in
    let w : packs dims (nodes_below (child a body c chain rest)) ++ more ≡ record_of dims c (flat chain) ++
    (packs dims (nodes_below chain) ++ (packs dims (nodes_below rest) ++ more)) = child-words dims a c body chain rest more in
    let m = child-length dims a c body chain rest more most l in
    ap (λ t. records_fault (suc most) kind width dims (under level behind ∷ (places_under level above (reads rest) ++ ps)) at (bytes_of t)) w
    ∙ step-passes kind width dims (under level behind) c chain p pl s (places_under level above (reads rest) ++ ps) (packs dims (nodes_below chain) ++ tail) most at
    (λ from. below-passes kind width dims c 0 behind chain d cl ic h.6 xc (places_under level above (reads rest) ++ ps) tail
    (λ most' at' l'. below-passes kind width dims level (a + 1) above rest d b i h.7 xr ps more k most' at' l')
    most from m)

-- ---- the reading

-- a record in front of the words below it is read as its node
pub step-reads : (dims level : ℕ) (e : Entries) → IsPackable dims level e →
    Each (λ x. x < 2 ^ 64) (record_of dims level (flat e)) →
    (more mid behind : List ℕ) (most n : ℕ) (ms : List PlainNode) →
    read_nodes most dims (children (flat e)) (bytes_of more) ≡ (child_nodes e, bytes_of mid) →
    read_nodes most dims n (bytes_of mid) ≡ (ms, bytes_of behind) →
    read_nodes (suc most) dims (suc n) (bytes_of (record_of dims level (flat e) ++ more)) ≡
    (record { level = level; chain = e } ∷ ms, bytes_of behind)
step-reads dims level e h s more mid behind most n ms below next =
    let bytes : List ℕ = bytes_of (record_of dims level (flat e) ++ more) in
    let node : PlainNode = record { level = level; chain = e } in
    let q : read_nodes most dims (next_first (bytes_of (record_of dims level (flat e) ++ more))).children
    (drop (8 * record_words dims (next_first (bytes_of (record_of dims level (flat e) ++ more))))
    (bytes_of (record_of dims level (flat e) ++ more))) ≡ (child_nodes e, bytes_of mid) =
    ap (read_nodes most dims (next_first bytes).children) (next-behind dims level e h more s) ∙
    ap (λ f. read_nodes most dims f.children (bytes_of more)) (next-first dims level e h more s) ∙ below in
    ap (λ t. (unpacked dims (next_record dims bytes) t.0 ∷ (read_nodes most dims n t.1).0, (read_nodes most dims n t.1).1)) q
    ∙ ap (λ t. (unpacked dims (next_record dims bytes) (child_nodes e) ∷ t.0, t.1)) next
    ∙ ap (λ t. (unpacked dims t (child_nodes e) ∷ ms, bytes_of behind)) (next-record dims level e h more s)
    ∙ ap (λ t. (t ∷ ms, bytes_of behind)) (unpacked-pack dims node h)

-- the records below entries are read as the children
pub below-reads : (dims level least : ℕ) (e : Entries) → dims ≤ 16 → level < 2 ^ 8 → IsLawfulFrom dims level least e →
    (more : List ℕ) (most : ℕ) → length (packs dims (nodes_below e) ++ more) ≤ most →
    read_nodes most dims (children (flat e)) (bytes_of (packs dims (nodes_below e) ++ more)) ≡ (child_nodes e, bytes_of more)
below-reads dims level least end d b h more zero l = refl
below-reads dims level least end d b h more (suc most) l = refl
below-reads dims level least (point a body v rest) d b h more most l =
    let z : 0 + children (flat rest) ≡ children (flat rest) = omega arith in
    ap (λ t. read_nodes most dims t (bytes_of (packs dims (nodes_below rest) ++ more))) z ∙ below-reads dims level (a + 1) rest d b h.3 more most l
below-reads dims level least (child a body c chain rest) d b h more zero l = absurd (omega (arith, l))
below-reads dims level least (child a body c chain rest) d b h more (suc most) l =
    let cl : c < 2 ^ 8 = omega (arith, h.3, b) in
    let p : IsPackable dims c chain = packable dims c chain d cl h.6 in
    let s : Each (λ t. t < 2 ^ 64) (record_of dims c (flat chain)) = record-small dims c chain p (lawful-words dims c 0 chain h.6) in
    let tail : List ℕ = packs dims (nodes_below rest) ++ more in
    let z : 1 + children (flat rest) ≡ suc (children (flat rest)) = omega arith in
    let w : packs dims (nodes_below (child a body c chain rest)) ++ more ≡ record_of dims c (flat chain) ++
    (packs dims (nodes_below chain) ++ (packs dims (nodes_below rest) ++ more)) = child-words dims a c body chain rest more in
    let m = child-length dims a c body chain rest more most l in
    let o : length (packs dims (nodes_below rest) ++ more) ≤ most = omega (arith, m, length-append (packs dims (nodes_below chain)) tail) in
    ap (λ t. read_nodes (suc most) dims t (bytes_of (packs dims (nodes_below (child a body c chain rest)) ++ more))) z
    ∙ ap (λ t. read_nodes (suc most) dims (suc (children (flat rest))) (bytes_of t)) w
    ∙ step-reads dims c chain p s (packs dims (nodes_below chain) ++ tail) tail more most (children (flat rest))
    (child_nodes rest) (below-reads dims c 0 chain d cl h.6 tail most m)
    (below-reads dims level (a + 1) rest d b h.7 more most o)
