-- A snapshot has no fault, and is read back as its table.
use Rattle.std.proofs.Common.{◌≡◌, ℕ, zero, suc, ◌-◌, ◌^◌, ◌<◌, ◌≤◌, refl, sym, ◌∙◌, ap, subst, arith, List}
use Rattle.std.proofs.Common.{[], ◌∷◌, ◌++◌, length, replicate, Bool, true, eq-eqb, leb-true}
use Rattle.std.specs.Prelude.{Option, Some, None, Result, Ok, ◌%◌, ◌&&◌, ◌||◌, ◌==◌, nat_le}
use Rattle.std.specs.List.{AllByRecursion as Each}
use Rattle.std.proofs.lemmas.List.{append-nil, length-append, length-replicate}
use Rattle.ph_specs.specs.declared.Kind.{Kind}
use Rattle.ph_specs.specs.declared.Kind.TheVariants.{Points, Boxes}
use Rattle.ph_specs.specs.KindRows.{row_fits, rows_fit}
use Rattle.ph_specs.specs.Table.{Row, IsTable}
use Rattle.ph_specs.specs.Node.{PlainNode, flat, nodes, nodes_below}
use Rattle.ph_specs.specs.TreeRows.{rows}
use Rattle.ph_model.specs.Lawful.{IsLawful, IsAbove}
use Rattle.ph_specs.specs.Shape.{shape}
use Rattle.ph_specs.specs.Digits.{bytes_of}
use Rattle.ph_specs.specs.Pack.{pack, record_of}
use Rattle.ph_specs.specs.Snapshot.{snap_1, snap, packs, records, kind_byte, root_byte, magic}
use Rattle.ph_specs.specs.Reply.{Reply}
use Rattle.ph_specs.specs.Load.{Fault, bad_magic, bad_header, bad_dims, first_failed, root, records_fault, places_at_start}
use Rattle.ph_specs.specs.Load.{header_tests_1, header_tests, is_flag, is_width, dims_fit, body_fault, load_fault}
use Rattle.ph_specs.specs.SavedTable.{read_nodes, first_node, rows_saved, read_unless, read_snapshot}
use Rattle.ph_specs.proofs.lemmas.Tests.{and-made, and-parts, each-test}
use Rattle.ph_model.proofs.lemmas.ByteWords.{length-bytes}
use Rattle.ph_model.proofs.lemmas.Passes.{pass, pass-four, IsPlaced}
use Rattle.ph_model.proofs.lemmas.TreePasses.{count-flat, step-passes, below-passes, step-reads, below-reads}
use Rattle.ph_model.proofs.laws.Unpacked.{IsPackable}
use Rattle.ph_model.proofs.laws.Unique.{zeros_known}
use Rattle.ph_model.proofs.laws.OneToOne.{packable, lawful-words, record-small}
use Rattle.ph_model.proofs.laws.TableShape.{table-shape}

-- ---- a tree

-- the records of a lawful tree have no fault
pub tree-passes : (kind : Kind) (width dims : ℕ) (t : Option PlainNode) → dims ≤ 16 → width ≤ 62 →
    IsLawful width dims t → Each (λ r. row_fits kind r ≡ true) (rows width dims t) → (most at : ℕ) →
    length (packs dims (nodes t)) ≤ most →
    records_fault most kind width dims (places_at_start (root_byte t)) at (records dims t) ≡ None
tree-passes kind width dims None d w h x zero at l = refl
tree-passes kind width dims None d w h x (suc most) at l = refl
tree-passes kind width dims (Some n) d w h x zero at l = absurd (omega (arith, l))
tree-passes kind width dims (Some n) d w h x (suc most) at l =
    let b : n.level < 2 ^ 8 = omega (arith, w, h.0) in
    let p : IsPackable dims n.level n.chain = packable dims n.level n.chain d b h.2 in
    let i : IsAbove dims n.level (replicate dims 0) = record { long = length-replicate dims 0; zeros = zeros_known n.level dims } in
    let pl : IsPlaced kind width dims root n.level n.chain =
    record {
      at_level = eq-eqb n.level (width - 1) h.0;
      many = omega (arith, h.1, count-flat n.chain);
      zeros = i.zeros;
      boxes = x;
    } in
    let s : Each (λ t. t < 2 ^ 64) (record_of dims n.level (flat n.chain)) = record-small dims n.level n.chain p (lawful-words dims n.level 0 n.chain h.2) in
    let q : packs dims (nodes_below n.chain) ++ [] ≡ packs dims (nodes_below n.chain) = append-nil (packs dims (nodes_below n.chain)) in
    let m : length (packs dims (nodes_below n.chain) ++ []) ≤ most =
    omega (arith, l, ap length q, length-append (record_of dims n.level (flat n.chain)) (packs dims (nodes_below n.chain))) in
    ap (λ t. records_fault (suc most) kind width dims (root ∷ []) at (bytes_of (pack dims n ++ t))) (sym q)
    ∙ step-passes kind width dims root n.level n.chain p pl s [] (packs dims (nodes_below n.chain) ++ []) most at
    (λ from. below-passes kind width dims n.level 0 (replicate dims 0) n.chain d b i h.2 x [] [] (λ m' a' l'. none m' a') most from m)
  where
    none : (m a : ℕ) → records_fault m kind width dims [] a [] ≡ None
    none zero a = refl
    none (suc m) a = refl

-- they are read as the tree
pub tree-reads : (width dims : ℕ) (t : Option PlainNode) → dims ≤ 16 → width ≤ 62 → IsLawful width dims t →
    (most : ℕ) → length (packs dims (nodes t)) ≤ most → first_node (read_nodes most dims (root_byte t) (records dims t)).0 ≡ t
tree-reads width dims None d w h zero l = refl
tree-reads width dims None d w h (suc most) l = refl
tree-reads width dims (Some n) d w h zero l = absurd (omega (arith, l))
tree-reads width dims (Some n) d w h (suc most) l =
    let b : n.level < 2 ^ 8 = omega (arith, w, h.0) in
    let p : IsPackable dims n.level n.chain = packable dims n.level n.chain d b h.2 in
    let s : Each (λ t. t < 2 ^ 64) (record_of dims n.level (flat n.chain)) = record-small dims n.level n.chain p (lawful-words dims n.level 0 n.chain h.2) in
    let q : packs dims (nodes_below n.chain) ++ [] ≡ packs dims (nodes_below n.chain) = append-nil (packs dims (nodes_below n.chain)) in
    let m : length (packs dims (nodes_below n.chain) ++ []) ≤ most =
    omega (arith, l, ap length q, length-append (record_of dims n.level (flat n.chain)) (packs dims (nodes_below n.chain))) in
    ap (λ t. first_node (read_nodes (suc most) dims 1 (bytes_of (pack dims n ++ t))).0) (sym q)
    ∙ ap (λ t. first_node t.0) (step-reads dims n.level n.chain p s (packs dims (nodes_below n.chain) ++ []) [] []
    most 0 [] (below-reads dims n.level 0 n.chain d b h.2 [] most m) (none most))
  where
    none : (m : ℕ) → read_nodes m dims 0 [] ≡ ([], [])
    none zero = refl
    none (suc m) = refl

-- ---- the header

pass-six : (a b c d e g : Bool) (fa fb fc fd fe fg : Fault) → a ≡ true → b ≡ true → c ≡ true → d ≡ true → e ≡ true →
    g ≡ true → first_failed ((a, fa) ∷ (b, fb) ∷ (c, fc) ∷ (d, fd) ∷ (e, fe) ∷ (g, fg) ∷ []) ≡ None
pass-six a b c d e g fa fb fc fd fe fg p q r s t u =
    pass a fa ((b, fb) ∷ (c, fc) ∷ (d, fd) ∷ (e, fe) ∷ (g, fg) ∷ []) p (pass b fb ((c, fc) ∷ (d, fd) ∷ (e, fe) ∷ (g, fg) ∷ []) q (pass-four c d e g fc fd fe fg r s t u))

kind-flag : (kind : Kind) → is_flag (kind_byte kind) ≡ true
kind-flag Points = refl
kind-flag Boxes = refl

root-flag : (t : Option PlainNode) → is_flag (root_byte t) ≡ true
root-flag None = refl
root-flag (Some n) = refl

header_1-passes : (kind : Kind) (dims flag : ℕ) (more : List ℕ) → dims_fit 8 (kind_byte kind) dims ≡ true →
    is_flag flag ≡ true → first_failed
    (header_tests_1 kind dims 32 (magic 1 ++ (kind_byte kind ∷ dims ∷ flag ∷ 0 ∷ []) ++ more)) ≡ None
header_1-passes kind dims flag more d f =
    pass-six true (is_flag (kind_byte kind)) (dims_fit 8 (kind_byte kind) dims) (is_flag flag) true
    ((kind_byte kind == kind_byte kind) && (dims == dims) && (32 == 32)) bad_magic (bad_header 4) (bad_header 5)
    (bad_header 6) (bad_header 7) bad_dims
    refl (kind-flag kind) d f refl
    (and-made ((kind_byte kind == kind_byte kind) && (dims == dims)) _
    (and-made (kind_byte kind == kind_byte kind) _ (eq-eqb (kind_byte kind) (kind_byte kind) refl)
    (eq-eqb dims dims refl)) refl)

header-passes : (kind : Kind) (dims width flag : ℕ) (more : List ℕ) → dims_fit 16 (kind_byte kind) dims ≡ true →
    is_width width ≡ true → is_flag flag ≡ true →
    first_failed (header_tests kind dims width (magic 2 ++ (kind_byte kind ∷ dims ∷ width ∷ flag ∷ []) ++ more)) ≡ None
header-passes kind dims width flag more d w f =
    pass-six true (is_flag (kind_byte kind)) (dims_fit 16 (kind_byte kind) dims) (is_width width) (is_flag flag)
    ((kind_byte kind == kind_byte kind) && (dims == dims) && (width == width)) bad_magic (bad_header 4)
    (bad_header 5) (bad_header 6) (bad_header 7) bad_dims
    refl (kind-flag kind) d w f
    (and-made ((kind_byte kind == kind_byte kind) && (dims == dims)) _
    (and-made (kind_byte kind == kind_byte kind) _ (eq-eqb (kind_byte kind) (kind_byte kind) refl)
    (eq-eqb dims dims refl)) (eq-eqb width width refl))

pub fit-few : (most kind dims : ℕ) → dims_fit most kind dims ≡ true → dims ≤ most
fit-few most kind dims h =
    let a : ((nat_le 1 dims && nat_le dims most) ≡ true) × (((kind == 0) || (dims % 2 == 0)) ≡ true) = and-parts (nat_le 1 dims && nat_le dims most) _ h in
    leb-true dims most (and-parts (nat_le 1 dims) (nat_le dims most) a.0).1

pub width-fits : (width : ℕ) → is_width width ≡ true → (1 ≤ width) × (width ≤ 62)
width-fits width h =
    let a : (nat_le 1 width ≡ true) × (nat_le width 62 ≡ true) = and-parts (nat_le 1 width) (nat_le width 62) h in
    (leb-true 1 width a.0, leb-true width 62 a.1)

-- ---- the laws

module _ (kind : Kind) (dims width : ℕ) (T : List Row) (few : dims ≤ 16) (low : 1 ≤ width) (high : width ≤ 62) (h : IsTable width dims T) where
  abbrev tree : Option PlainNode
  tree = shape width T

  -- enough records may be read where there are as many bytes
  enough : (most : ℕ) → length (records dims tree) ≤ most → length (packs dims (nodes tree)) ≤ most
  enough most l = omega (arith, l, length-bytes (packs dims (nodes tree)))

  pub table-passes : rows_fit kind T ≡ true → (most at : ℕ) → length (records dims (shape width T)) ≤ most →
      records_fault most kind width dims (places_at_start (root_byte (shape width T))) at (records dims (shape width T)) ≡ None
  table-passes r most at l =
      let t : IsLawful width dims (shape width T) × (rows width dims (shape width T) ≡ T) = table-shape width dims T low h in
      tree-passes kind width dims tree few high t.0 (subst (Each (λ r. row_fits kind r ≡ true)) (sym t.1) (each-test (row_fits kind) T r)) most at (enough most l)

  pub table-reads : (most : ℕ) → length (records dims (shape width T)) ≤ most →
      rows width dims (first_node (read_nodes most dims (root_byte (shape width T)) (records dims (shape width T))).0) ≡ T
  table-reads most l =
      let t : IsLawful width dims (shape width T) × (rows width dims (shape width T) ≡ T) = table-shape width dims T low h in
      ap (rows width dims) (tree-reads width dims tree few high t.0 most (enough most l)) ∙ t.1

-- a snapshot of version 1 has no fault
pub snap_1-loads : (kind : Kind) (dims : ℕ) (T : List Row) → dims_fit 8 (kind_byte kind) dims ≡ true →
    IsTable 32 dims T → rows_fit kind T ≡ true → load_fault kind dims 32 (snap_1 kind dims T) ≡ None
snap_1-loads kind dims T d h r =
    let bytes : List ℕ = snap_1 kind dims T in
    let few : dims ≤ 16 = omega (arith, fit-few 8 (kind_byte kind) dims d) in
    ap (λ t. elim t as (λ x. Option Fault)
    [ Some f ↦ Some f | None ↦ body_fault kind 32 dims (root_byte (shape 32 T)) bytes ])
    (header_1-passes kind dims (root_byte (shape 32 T)) (records dims (shape 32 T)) d (root-flag (shape 32 T)))
    ∙ table-passes kind dims 32 T few (omega arith) (omega arith) h r (length bytes) 8 (omega arith)

-- the rows that are read of it are the table
pub snap_1-rows : (kind : Kind) (dims : ℕ) (T : List Row) → dims ≤ 16 → IsTable 32 dims T → rows_saved dims 32 (snap_1 kind dims T) ≡ T
snap_1-rows kind dims T d h =
    table-reads kind dims 32 T d (omega arith) (omega arith) h (length (snap_1 kind dims T)) (omega arith)

-- a snapshot of version 2 has no fault
pub snap-loads : (kind : Kind) (dims width : ℕ) (T : List Row) → dims_fit 16 (kind_byte kind) dims ≡ true →
    is_width width ≡ true → IsTable width dims T → rows_fit kind T ≡ true →
    load_fault kind dims width (snap kind dims width T) ≡ None
snap-loads kind dims width T d w h r =
    let bytes : List ℕ = snap kind dims width T in
    let l : (1 ≤ width) × (width ≤ 62) = width-fits width w in
    ap (λ t. elim t as (λ x. Option Fault)
    [ Some f ↦ Some f | None ↦ body_fault kind width dims (root_byte (shape width T)) bytes ])
    (header-passes kind dims width (root_byte (shape width T)) (records dims (shape width T)) d w (root-flag (shape width T)))
    ∙ table-passes kind dims width T (fit-few 16 (kind_byte kind) dims d) l.0 l.1 h r (length bytes) 8 (omega arith)

-- the rows that are read of it are the table
pub snap-rows : (kind : Kind) (dims width : ℕ) (T : List Row) → dims ≤ 16 → is_width width ≡ true →
    IsTable width dims T → rows_saved dims width (snap kind dims width T) ≡ T
snap-rows kind dims width T d w h =
    let l : (1 ≤ width) × (width ≤ 62) = width-fits width w in
    table-reads kind dims width T d l.0 l.1 h (length (snap kind dims width T)) (omega arith)

pub snap-read : (kind : Kind) (dims width : ℕ) (T : List Row) → dims_fit 16 (kind_byte kind) dims ≡ true →
    is_width width ≡ true → IsTable width dims T → rows_fit kind T ≡ true →
    read_snapshot kind dims width (snap kind dims width T) ≡ Ok T
snap-read kind dims width T d w h r =
    ap (λ t. read_unless t dims width (snap kind dims width T)) (snap-loads kind dims width T d w h r)
    ∙ ap {B = Result (List Row) Reply} Ok (snap-rows kind dims width T (fit-few 16 (kind_byte kind) dims d) w h)
