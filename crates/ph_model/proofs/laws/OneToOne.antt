-- A snapshot is one-to-one in kind, dimensions and table.
use Rattle.std.proofs.Common.{◌≡◌, ℕ, zero, suc, ◌+◌, ◌*◌, ◌/◌, ◌^◌, ◌<◌, ◌≤◌, refl, sym, ◌∙◌, ap, subst, arith}
use Rattle.std.proofs.Common.{List, [], ◌∷◌, ◌++◌, length, map, take, drop, Bool, true, false}
use Rattle.std.specs.Prelude.{slice_index, Option, Some, None}
use Rattle.std.specs.List.{AllByRecursion as Each}
use Rattle.std.proofs.lemmas.List.{append_assoc}
use Rattle.std.proofs.lemmas.Nat.{pow_pos}
use Rattle.std.proofs.Math.Nat.{mod-lt, mod-eq_of_lt}
use Rattle.ph_specs.specs.declared.Kind.{Kind}
use Rattle.ph_specs.specs.declared.Kind.TheVariants.{Points, Boxes}
use Rattle.ph_specs.specs.Table.{Row, IsTable}
use Rattle.ph_specs.specs.Node.{Entries, end, point, child, PlainNode, flat, nodes, nodes_below}
use Rattle.ph_specs.specs.TreeRows.{rows}
use Rattle.ph_model.specs.Lawful.{IsLawfulFrom, IsLawful}
use Rattle.ph_specs.specs.Shape.{shape}
use Rattle.ph_specs.specs.Digits.{field, number_of, pieces, words_of, word_bytes, bytes_of}
use Rattle.ph_specs.specs.Pack.{pack, children, values, record_of, first_word, table, layout, is_cube}
use Rattle.ph_specs.specs.Record.{first_in, Read, read_point, read_child, record_words, entries_in, values_in}
use Rattle.ph_specs.specs.Snapshot.{snap, packs, records, kind_byte, root_byte}
use Rattle.ph_model.proofs.lemmas.RowsBehind.{Each-append}
use Rattle.ph_specs.proofs.lemmas.Numbers.{number_of-pieces, length-pieces, number_of-small}
use Rattle.ph_model.proofs.lemmas.Columns.{take-front, drop-front, reads}
use Rattle.ph_model.proofs.laws.Layouts.{FitsFirst, rising, fits-first}
use Rattle.ph_model.proofs.laws.Unpacked.{IsPackable, first-record, record-length, entries-record, values-record}
use Rattle.ph_model.proofs.laws.TableShape.{table-shape, table-from-shape}

-- ---- bytes

pub word-again : (w : ℕ) → w < 2 ^ 64 → number_of (map (field 8) (word_bytes w)) ≡ w
word-again w l = number_of-pieces 8 8 w ∙ mod-eq_of_lt l

pub bytes-one : (ws vs : List ℕ) → Each (λ w. w < 2 ^ 64) ws → Each (λ w. w < 2 ^ 64) vs → bytes_of ws ≡ bytes_of vs → ws ≡ vs
bytes-one [] [] h k e = refl
bytes-one [] (v ∷ vs) h k e = cc
bytes-one (w ∷ ws) [] h k e = cc
bytes-one (w ∷ ws) (v ∷ vs) h k e =
    let a : word_bytes w ≡ word_bytes v = sym (take-front 8 (word_bytes w) (bytes_of ws) (length-pieces 8 8 w)) ∙
    ap (take 8) e ∙ take-front 8 (word_bytes v) (bytes_of vs) (length-pieces 8 8 v) in
    let b : bytes_of ws ≡ bytes_of vs = sym (drop-front 8 (word_bytes w) (bytes_of ws) (length-pieces 8 8 w)) ∙
    ap (drop 8) e ∙ drop-front 8 (word_bytes v) (bytes_of vs) (length-pieces 8 8 v) in
    let c : w ≡ v = sym (word-again w h.0) ∙ ap (λ t. number_of (map (field 8) t)) a ∙ word-again v k.0 in
    ap (λ t. t ∷ ws) c ∙ ap {B = List ℕ} (λ t. v ∷ t) (bytes-one ws vs h.1 k.1 b)

-- ---- nodes that fit their records, with values that fit a word

abbrev pub AreWords : Entries → Type 0
AreWords end = Unit {0}
AreWords (point a body v rest) = (v < 2 ^ 64) × AreWords rest
AreWords (child a body level chain rest) = AreWords chain × AreWords rest

pub packable : (dims level : ℕ) (e : Entries) → dims ≤ 16 → level < 2 ^ 8 → IsLawfulFrom dims level 0 e → IsPackable dims level e
packable dims level e d l h =
    record {
      rises = rising dims level 0 e h;
      fits = fits-first dims level (flat e) d l (rising dims level 0 e h);
      bottom = λ z. no-children dims level 0 e z h;
    }
  where
    no-children : (dims level least : ℕ) (e : Entries) → level ≡ 0 → IsLawfulFrom dims level least e → children (flat e) ≡ 0
    no-children dims level least end z h = refl
    no-children dims level least (point a body v rest) z h = omega (arith, no-children dims level (a + 1) rest z h.3)
    no-children dims level least (child a body c chain rest) z h = absurd (omega (arith, h.3, z))

-- ---- one record

-- of two records with words behind them that are equal, the records are equal and the words behind them
record-one : (dims l m : ℕ) (e f : Entries) (x y : List ℕ) → IsPackable dims l e → IsPackable dims m f →
    record_of dims l (flat e) ++ x ≡ record_of dims m (flat f) ++ y →
    (record_of dims l (flat e) ≡ record_of dims m (flat f)) × (x ≡ y)
record-one dims l m e f x y h k q =
    let p : List ℕ = record_of dims l (flat e) in
    let r : List ℕ = record_of dims m (flat f) in
    let i : first_in (record_of dims l (flat e)) ≡ first_in (record_of dims m (flat f)) = ap first_in q in
    let s : length (record_of dims l (flat e)) ≡ record_words dims (first_in (record_of dims m (flat f))) = record-length dims l e h ∙ ap (record_words dims) i in
    let t : length (record_of dims m (flat f)) ≡ record_words dims (first_in (record_of dims m (flat f))) = record-length dims m f k in
    let n : ℕ = record_words dims (first_in (record_of dims m (flat f))) in
    (sym (take-front n p x s) ∙ ap (take n) q ∙ take-front n r y t, sym (drop-front n p x s) ∙ ap (drop n) q ∙ drop-front n r y t)

-- ---- the nodes of a tree

pub packs-append : (dims : ℕ) (ns ms : List PlainNode) → packs dims (ns ++ ms) ≡ packs dims ns ++ packs dims ms
packs-append dims [] ms = refl
packs-append dims (n ∷ ns) ms =
    ap (λ t. pack dims n ++ t) (packs-append dims ns ms) ∙ sym (append_assoc (pack dims n) (packs dims ns) (packs dims ms))

abbrev head_addr : List Read → ℕ
head_addr [] = 0
head_addr (read_point a body ∷ rs) = a
head_addr (read_child a body ∷ rs) = a

abbrev head_body : List Read → List ℕ
head_body [] = []
head_body (read_point a body ∷ rs) = body
head_body (read_child a body ∷ rs) = body

-- the words of a child, those of the nodes below it, and those behind it
pub child-words : (dims a c : ℕ) (body : List ℕ) (chain rest : Entries) (x : List ℕ) →
    packs dims (nodes_below (child a body c chain rest)) ++ x ≡ record_of dims c (flat chain) ++
    (packs dims (nodes_below chain) ++ (packs dims (nodes_below rest) ++ x))
child-words dims a c body chain rest x =
    let p : List ℕ = record_of dims c (flat chain) in
    ap (λ t. p ++ t ++ x) (packs-append dims (nodes_below chain) (nodes_below rest))
    ∙ append_assoc p (packs dims (nodes_below chain) ++ packs dims (nodes_below rest)) x
    ∙ ap (λ t. p ++ t) (append_assoc (packs dims (nodes_below chain)) (packs dims (nodes_below rest)) x)

pub nodes-one : (dims l m least from : ℕ) (e f : Entries) (x y : List ℕ) → dims ≤ 16 → l < 2 ^ 8 → m < 2 ^ 8 →
    IsLawfulFrom dims l least e → IsLawfulFrom dims m from f → reads e ≡ reads f → values (flat e) ≡ values (flat f) →
    packs dims (nodes_below e) ++ x ≡ packs dims (nodes_below f) ++ y → (e ≡ f) × (x ≡ y)
nodes-one dims l m least from end end x y d lh mh h k rd vl q = (refl, q)
nodes-one dims l m least from end (point a' body' v' rest') x y d lh mh h k rd vl q = absurd (let z : reads end ≡ read_point a' body' ∷ reads rest' = rd in cc)
nodes-one dims l m least from end (child a' body' c' chain' rest') x y d lh mh h k rd vl q = absurd (let z : reads end ≡ read_child a' body' ∷ reads rest' = rd in cc)
nodes-one dims l m least from (point a body v rest) end x y d lh mh h k rd vl q = absurd (let z : read_point a body ∷ reads rest ≡ reads end = rd in cc)
nodes-one dims l m least from (child a body c chain rest) end x y d lh mh h k rd vl q = absurd (let z : read_child a body ∷ reads rest ≡ reads end = rd in cc)
nodes-one dims l m least from (point a body v rest) (child a' body' c' chain' rest') x y d lh mh h k rd vl q =
    absurd (let z : read_point a body ∷ reads rest ≡ read_child a' body' ∷ reads rest' = rd in cc)
nodes-one dims l m least from (child a body c chain rest) (point a' body' v' rest') x y d lh mh h k rd vl q =
    absurd (let z : read_child a body ∷ reads rest ≡ read_point a' body' ∷ reads rest' = rd in cc)
nodes-one dims l m least from (point a body v rest) (point a' body' v' rest') x y d lh mh h k rd vl q =
    let ih : (rest ≡ rest') × (x ≡ y) = nodes-one dims l m (a + 1) (a' + 1) rest rest' x y d lh mh h.3 k.3 (ap (drop 1) rd) (ap (drop 1) vl) q in
    (λ i. point (head_addr (rd i)) (head_body (rd i)) (slice_index (vl i) 0) (ih.0 i), ih.1)
nodes-one dims l m least from (child a body c chain rest) (child a' body' c' chain' rest') x y d lh mh h k rd vl q =
    let cl : c < 2 ^ 8 = omega (arith, h.3, lh) in
    let cm : c' < 2 ^ 8 = omega (arith, k.3, mh) in
    let p : IsPackable dims c chain = packable dims c chain d cl h.6 in
    let p' : IsPackable dims c' chain' = packable dims c' chain' d cm k.6 in
    let o : (record_of dims c (flat chain) ≡ record_of dims c' (flat chain')) ×
    (packs dims (nodes_below chain) ++ (packs dims (nodes_below rest) ++ x) ≡ packs dims (nodes_below chain') ++
    (packs dims (nodes_below rest') ++ y)) =
    record-one dims c c' chain chain' (packs dims (nodes_below chain) ++ (packs dims (nodes_below rest) ++ x))
    (packs dims (nodes_below chain') ++ (packs dims (nodes_below rest') ++ y)) p p'
    (sym (child-words dims a c body chain rest x) ∙ q ∙ child-words dims a' c' body' chain' rest' y) in
    let lv : c ≡ c' = sym (ap (λ t. t.level) (first-record dims c chain p)) ∙ ap (λ t. (first_in t).level) o.0 ∙ ap (λ t. t.level) (first-record dims c' chain' p') in
    let rc : reads chain ≡ reads chain' = sym (entries-record dims c chain p) ∙ ap (entries_in dims) o.0 ∙ entries-record dims c' chain' p' in
    let vc : values (flat chain) ≡ values (flat chain') = sym (values-record dims c chain p) ∙ ap (values_in dims) o.0 ∙ values-record dims c' chain' p' in
    let ic : (chain ≡ chain') × (packs dims (nodes_below rest) ++ x ≡ packs dims (nodes_below rest') ++ y) =
    nodes-one dims c c' 0 0 chain chain' (packs dims (nodes_below rest) ++ x)
    (packs dims (nodes_below rest') ++ y) d cl cm h.6 k.6 rc vc o.1 in
    let ir : (rest ≡ rest') × (x ≡ y) = nodes-one dims l m (a + 1) (a' + 1) rest rest' x y d lh mh h.7 k.7 (ap (drop 1) rd) vl ic.1 in
    (λ i. child (head_addr (rd i)) (head_body (rd i)) (lv i) (ic.0 i) (ir.0 i), ir.1)

-- ---- all words of a tree fit

pub pieces-small : (w n x : ℕ) → Each (λ t. t < 2 ^ w) (pieces w n x)
pieces-small w zero x = tt
pieces-small w (suc n) x = (mod-lt (x / 2 ^ (w * n)) (pow_pos w), pieces-small w n x)

first-small : (level lay n kids : ℕ) → lay < 2 ^ 8 → FitsFirst level n kids → first_word level lay n kids < 2 ^ 64
first-small level lay n kids l h =
    number_of-small (field 8 level ∷ field 8 lay ∷ field 24 n ∷ field 24 kids ∷ []) (h.level_fits, (l, (h.entries_fit, (h.children_fit, tt))))

values-small : (e : Entries) → AreWords e → Each (λ t. t < 2 ^ 64) (values (flat e))
values-small end h = tt
values-small (point a body v rest) h = (h.0, values-small rest h.1)
values-small (child a body c chain rest) h = values-small rest h.1

pub record-small : (dims level : ℕ) (e : Entries) → IsPackable dims level e → AreWords e → Each (λ t. t < 2 ^ 64) (record_of dims level (flat e))
record-small dims level e h w =
    let cube : Bool = is_cube dims level (length (flat e)) in (
      first-small level (layout cube) (length (flat e)) (children (flat e)) (layout-small cube) h.fits,
      Each-append (λ t. t < 2 ^ 64) (words_of (table cube dims level (flat e))) (values (flat e))
          (pieces-small 64 _ _) (values-small e w),
    )
  where
    layout-small : (c : Bool) → layout c < 2 ^ 8
    layout-small true = omega arith
    layout-small false = omega arith

below-small : (dims level least : ℕ) (e : Entries) → dims ≤ 16 → level < 2 ^ 8 → IsLawfulFrom dims level least e →
    AreWords e → Each (λ t. t < 2 ^ 64) (packs dims (nodes_below e))
below-small dims level least end d l h w = tt
below-small dims level least (point a body v rest) d l h w = below-small dims level (a + 1) rest d l h.3 w.1
below-small dims level least (child a body c chain rest) d l h w =
    let cl : c < 2 ^ 8 = omega (arith, h.3, l) in
    let p : Each (λ t. t < 2 ^ 64) (record_of dims c (flat chain)) = record-small dims c chain (packable dims c chain d cl h.6) w.0 in
    let r : Each (λ t. t < 2 ^ 64) (packs dims (nodes_below chain) ++ packs dims (nodes_below rest)) =
    Each-append (λ t. t < 2 ^ 64) (packs dims (nodes_below chain)) (packs dims (nodes_below rest))
    (below-small dims c 0 chain d cl h.6 w.0) (below-small dims level (a + 1) rest d l h.7 w.1) in
    Each-append (λ t. t < 2 ^ 64) (record_of dims c (flat chain)) (packs dims (nodes_below chain ++ nodes_below rest))
    p (subst (Each (λ t. t < 2 ^ 64)) (sym (packs-append dims (nodes_below chain) (nodes_below rest))) r)

-- the values of lawful entries fit a word
pub lawful-words : (dims level least : ℕ) (e : Entries) → IsLawfulFrom dims level least e → AreWords e
lawful-words dims level least end h = tt
lawful-words dims level least (point a body v rest) h = (h.4, lawful-words dims level (a + 1) rest h.3)
lawful-words dims level least (child a body c chain rest) h =
    (lawful-words dims c 0 chain h.6, lawful-words dims level (a + 1) rest h.7)

-- ---- two trees with the same records

tree-small : (w dims : ℕ) (t : Option PlainNode) → dims ≤ 16 → w ≤ 62 → IsLawful w dims t → Each (λ x. x < 2 ^ 64) (packs dims (nodes t))
tree-small w dims None d l h = tt
tree-small w dims (Some n) d l h =
    let k : AreWords n.chain = lawful-words dims n.level 0 n.chain h.2 in
    let b : n.level < 2 ^ 8 = omega (arith, l, h.0) in
    Each-append (λ x. x < 2 ^ 64) (pack dims n) (packs dims (nodes_below n.chain))
    (record-small dims n.level n.chain (packable dims n.level n.chain d b h.2) k)
    (below-small dims n.level 0 n.chain d b h.2 k)

pub trees-one : (w dims : ℕ) (s t : Option PlainNode) → dims ≤ 16 → w ≤ 62 → IsLawful w dims s → IsLawful w dims t →
    root_byte s ≡ root_byte t → packs dims (nodes s) ≡ packs dims (nodes t) → s ≡ t
trees-one w dims None None d l h k r q = refl
trees-one w dims None (Some n) d l h k r q = absurd (omega (arith, r))
trees-one w dims (Some n) None d l h k r q = absurd (omega (arith, r))
trees-one w dims (Some n) (Some m) d l h k r q =
    let b : n.level < 2 ^ 8 = omega (arith, l, h.0) in
    let c : m.level < 2 ^ 8 = omega (arith, l, k.0) in
    let p : IsPackable dims n.level n.chain = packable dims n.level n.chain d b h.2 in
    let p' : IsPackable dims m.level m.chain = packable dims m.level m.chain d c k.2 in
    let o : (record_of dims n.level (flat n.chain) ≡ record_of dims m.level (flat m.chain)) ×
    (packs dims (nodes_below n.chain) ≡ packs dims (nodes_below m.chain)) = record-one dims n.level m.level
    n.chain m.chain (packs dims (nodes_below n.chain)) (packs dims (nodes_below m.chain)) p p' q in
    let rc : reads n.chain ≡ reads m.chain = sym (entries-record dims n.level n.chain p) ∙ ap (entries_in dims) o.0 ∙ entries-record dims m.level m.chain p' in
    let vc : values (flat n.chain) ≡ values (flat m.chain) = sym (values-record dims n.level n.chain p) ∙
    ap (values_in dims) o.0 ∙ values-record dims m.level m.chain p' in
    let i : (n.chain ≡ m.chain) × (◌≡◌ {A = List ℕ} [] []) = nodes-one dims n.level m.level 0 0 n.chain m.chain [] [] d b c h.2 k.2 rc vc (ap (λ t. t ++ []) o.1) in
    let e : n.level ≡ m.level = h.0 ∙ sym k.0 in
    ap {B = Option PlainNode} Some (λ j. record { level = e j; chain = i.0 j })

-- ---- the law

tables-one : (w dims : ℕ) (s t : List Row) → 1 ≤ w → w ≤ 62 → dims ≤ 16 → IsTable w dims s → IsTable w dims t →
    root_byte (shape w s) ≡ root_byte (shape w t) → records dims (shape w s) ≡ records dims (shape w t) → s ≡ t
tables-one w dims s t p l d hs ht r q =
    let ls : IsLawful w dims (shape w s) × (rows w dims (shape w s) ≡ s) = table-shape w dims s p hs in
    let lt : IsLawful w dims (shape w t) × (rows w dims (shape w t) ≡ t) = table-shape w dims t p ht in
    let ws : Each (λ x. x < 2 ^ 64) (packs dims (nodes (shape w s))) = tree-small w dims (shape w s) d l ls.0 in
    let wt : Each (λ x. x < 2 ^ 64) (packs dims (nodes (shape w t))) = tree-small w dims (shape w t) d l lt.0 in
    table-from-shape w dims s t p hs ht
    (trees-one w dims (shape w s) (shape w t) d l ls.0 lt.0 r
    (bytes-one (packs dims (nodes (shape w s))) (packs dims (nodes (shape w t))) ws wt q))

kind-one : (k m : Kind) → kind_byte k ≡ kind_byte m → k ≡ m
kind-one Points Points e = refl
kind-one Points Boxes e = absurd (omega (arith, e))
kind-one Boxes Points e = absurd (omega (arith, e))
kind-one Boxes Boxes e = refl

-- two snapshots of version 2 are equal only where kind, dimensions, width and table are
pub snap-one : (k m : Kind) (dims other w v : ℕ) (s t : List Row) → 1 ≤ w → w ≤ 62 → dims ≤ 16 → IsTable w dims s →
    IsTable v other t → snap k dims w s ≡ snap m other v t → (k ≡ m) × (dims ≡ other) × (w ≡ v) × (s ≡ t)
snap-one k m dims other w v s t p l d hs ht q =
    let e : dims ≡ other = ap (λ b. slice_index b 5) q in
    let f : w ≡ v = ap (λ b. slice_index b 6) q in (
      kind-one k m (ap (λ b. slice_index b 4) q),
      e,
      f,
      tables-one w dims s t p l d hs (subst (λ n. IsTable w n t) (sym e) (subst (λ n. IsTable n other t) (sym f) ht))
          (ap (λ b. slice_index b 7) q ∙ ap (λ n. root_byte (shape n t)) (sym f))
          (ap (drop 8) q ∙ ap (λ n. records n (shape v t)) (sym e) ∙ ap (λ n. records dims (shape n t)) (sym f)),
    )
