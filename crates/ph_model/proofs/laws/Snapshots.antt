-- Bytes have no fault exactly where they are a snapshot.
use Rattle.std.proofs.Common.{◌≡◌, ℕ, zero, suc, ◌-◌, ◌^◌, ◌<◌, ◌≤◌, refl, sym, ◌∙◌, ap, subst, arith, List, [], ◌∷◌}
use Rattle.std.proofs.Common.{◌++◌, length, take, drop, Bool, true, false, eqb-true, leb-true, inl, inr}
use Rattle.std.specs.Prelude.{Option, Some, None, Result, Ok, ◌&&◌, ◌==◌, slice_index}
use Rattle.std.specs.List.{AllByRecursion as Each}
use Rattle.std.proofs.lemmas.List.{append-nil, length-append, length-replicate, take-append-drop}
use Rattle.std.proofs.lemmas.Bool.{false≢true}
use Rattle.std.proofs.lemmas.Slice.Eq.{bytes_eq-Decides}
use Rattle.ph_specs.specs.declared.Kind.{Kind}
use Rattle.ph_specs.specs.KindRows.{row_fits, rows_fit}
use Rattle.ph_model.specs.Digits.{IsBytes}
use Rattle.ph_specs.specs.Table.{Row, IsTable}
use Rattle.ph_specs.specs.Node.{PlainNode, nodes_below, nodes}
use Rattle.ph_specs.specs.TreeRows.{rows}
use Rattle.ph_model.specs.Lawful.{IsLawful}
use Rattle.ph_specs.specs.Shape.{shape}
use Rattle.ph_specs.specs.Digits.{bytes_of}
use Rattle.ph_specs.specs.Pack.{pack}
use Rattle.ph_specs.specs.Snapshot.{snap_1, snap, packs, records, kind_byte, root_byte, magic}
use Rattle.ph_specs.specs.SnapshotOf.{IsSnapshotOf_1, IsSnapshotOf}
use Rattle.ph_specs.specs.Reply.{Reply}
use Rattle.ph_specs.specs.Load.{Fault, bad_magic, bad_header, bad_dims, first_failed, root, records_fault, places_at_start, header_tests_1}
use Rattle.ph_specs.specs.Load.{header_tests, has_magic, has_byte, is_flag, is_width, dims_fit, body_fault, fault_by, load_fault}
use Rattle.ph_specs.specs.SavedTable.{read_nodes, first_node, read_unless, read_snapshot, root_flag}
use Rattle.ph_specs.proofs.lemmas.Tests.{and-parts, test-each}
use Rattle.ph_model.proofs.lemmas.Grouped.{Each-back}
use Rattle.ph_model.proofs.lemmas.LawfulRead.{AllStand}
use Rattle.ph_model.proofs.lemmas.FoundTree.{passed, neither, trees, found}
use Rattle.ph_model.proofs.laws.LawfulRows.{rows-table}
use Rattle.ph_model.proofs.laws.TableShape.{table-shape}
use Rattle.ph_model.proofs.lemmas.ByteWords.{length-bytes}
use Rattle.ph_model.proofs.laws.Unique.{shape-rows}
use Rattle.ph_model.proofs.laws.Loads.{fit-few, width-fits, tree-reads, snap_1-loads, snap-loads, snap-read, snap_1-rows}

-- ---- the tree

-- the lawful tree whose records the bytes are
record TreeOf (kind : Kind) (width dims flag : ℕ) (bytes : List ℕ) (t : Option PlainNode) : Type 0 where
  lawful : IsLawful width dims t
  flagged : root_byte t ≡ flag
  written : bytes ≡ records dims t
  boxes : Each (λ r. row_fits kind r ≡ true) (rows width dims t)

tree-of : (kind : Kind) (width dims most at flag : ℕ) (bytes : List ℕ) → IsBytes bytes → flag ≤ 1 →
    records_fault most kind width dims (places_at_start flag) at bytes ≡ None →
    (t : Option PlainNode) × TreeOf kind width dims flag bytes t
tree-of kind width dims most at zero bytes b l h =
    let i : (ns : List PlainNode) × AllStand kind width dims [] ns × (bytes ≡ bytes_of (packs dims (trees ns))) = found most kind width dims [] at bytes tt b h in
    by_none i.0 i.1 i.2
  where
    by_none : (ns : List PlainNode) → AllStand kind width dims [] ns → bytes ≡ bytes_of (packs dims (trees ns)) →
        (t : Option PlainNode) × TreeOf kind width dims 0 bytes t
    by_none [] s e = (None, record { lawful = tt; flagged = refl; written = e; boxes = tt })
    by_none (n ∷ ns) s e = absurd s
tree-of kind width dims most at (suc zero) bytes b l h =
    let i : (ns : List PlainNode) × AllStand kind width dims (root ∷ []) ns ×
    (bytes ≡ bytes_of (packs dims (trees ns))) = found most kind width dims (root ∷ []) at bytes
    (length-replicate dims 0, tt) b h in
    by_one i.0 i.1 i.2
  where
    by_one : (ns : List PlainNode) → AllStand kind width dims (root ∷ []) ns →
        bytes ≡ bytes_of (packs dims (trees ns)) → (t : Option PlainNode) × TreeOf kind width dims 1 bytes t
    by_one [] s e = absurd s
    by_one (n ∷ []) s e = (
      Some n,
      record {
        lawful = (eqb-true n.level (width - 1) s.0.at_level, s.0.many, s.0.lawful);
        flagged = refl;
        written = e ∙ ap (λ t. bytes_of (pack dims n ++ packs dims t)) (append-nil (nodes_below n.chain));
        boxes = s.0.boxes;
      },
    )
    by_one (n ∷ m ∷ ns) s e = absurd s.1
tree-of kind width dims most at (suc (suc flag)) bytes b l h = absurd (omega (arith, l))

-- the table whose records the bytes are
record TableOf (kind : Kind) (width dims flag : ℕ) (bytes : List ℕ) (T : List Row) : Type 0 where
  table : IsTable width dims T
  fits : rows_fit kind T ≡ true
  flagged : root_byte (shape width T) ≡ flag
  written : bytes ≡ records dims (shape width T)

table-of : (kind : Kind) (width dims most at flag : ℕ) (bytes : List ℕ) → 1 ≤ width → IsBytes bytes → flag ≤ 1 →
    records_fault most kind width dims (places_at_start flag) at bytes ≡ None →
    (T : List Row) × TableOf kind width dims flag bytes T
table-of kind width dims most at flag bytes p b l h =
    let i : (t : Option PlainNode) × TreeOf kind width dims flag bytes t = tree-of kind width dims most at flag bytes b l h in
    let t : Option PlainNode = i.0 in
    let s : shape width (rows width dims i.0) ≡ i.0 = shape-rows width dims i.0 i.1.lawful in (
      rows width dims i.0,
      record {
        table = rows-table width dims i.0 p i.1.lawful;
        fits = test-each (row_fits kind) (rows width dims i.0) i.1.boxes;
        flagged = ap root_byte s ∙ i.1.flagged;
        written = i.1.written ∙ sym (ap (records dims) s);
      },
    )

-- ---- the header

has-eight : (test : ℕ → Bool) (bytes : List ℕ) → has_byte bytes 7 test ≡ true → (8 ≤ length bytes) × (test (slice_index bytes 7) ≡ true)
has-eight test [] h = absurd (false≢true h)
has-eight test (a ∷ []) h = absurd (false≢true h)
has-eight test (a ∷ b ∷ []) h = absurd (false≢true h)
has-eight test (a ∷ b ∷ c ∷ []) h = absurd (false≢true h)
has-eight test (a ∷ b ∷ c ∷ d ∷ []) h = absurd (false≢true h)
has-eight test (a ∷ b ∷ c ∷ d ∷ e ∷ []) h = absurd (false≢true h)
has-eight test (a ∷ b ∷ c ∷ d ∷ e ∷ f ∷ []) h = absurd (false≢true h)
has-eight test (a ∷ b ∷ c ∷ d ∷ e ∷ f ∷ g ∷ []) h = absurd (false≢true h)
has-eight test (a ∷ b ∷ c ∷ d ∷ e ∷ f ∷ g ∷ i ∷ more) h = (omega arith, h)

front-four : (bytes : List ℕ) → 8 ≤ length bytes →
    bytes ≡ take 4 bytes ++ (slice_index bytes 4 ∷ slice_index bytes 5 ∷ slice_index bytes 6 ∷ slice_index bytes 7 ∷
    []) ++ drop 8 bytes
front-four [] l = absurd (omega (arith, l))
front-four (a ∷ []) l = absurd (omega (arith, l))
front-four (a ∷ b ∷ []) l = absurd (omega (arith, l))
front-four (a ∷ b ∷ c ∷ []) l = absurd (omega (arith, l))
front-four (a ∷ b ∷ c ∷ d ∷ []) l = absurd (omega (arith, l))
front-four (a ∷ b ∷ c ∷ d ∷ e ∷ []) l = absurd (omega (arith, l))
front-four (a ∷ b ∷ c ∷ d ∷ e ∷ f ∷ []) l = absurd (omega (arith, l))
front-four (a ∷ b ∷ c ∷ d ∷ e ∷ f ∷ g ∷ []) l = absurd (omega (arith, l))
front-four (a ∷ b ∷ c ∷ d ∷ e ∷ f ∷ g ∷ i ∷ more) l = refl

has-nth : (test : ℕ → Bool) (bytes : List ℕ) → 8 ≤ length bytes →
    (has_byte bytes 4 test ≡ test (slice_index bytes 4)) × (has_byte bytes 5 test ≡ test (slice_index bytes 5)) ×
    (has_byte bytes 6 test ≡ test (slice_index bytes 6))
has-nth test [] l = absurd (omega (arith, l))
has-nth test (a ∷ []) l = absurd (omega (arith, l))
has-nth test (a ∷ b ∷ []) l = absurd (omega (arith, l))
has-nth test (a ∷ b ∷ c ∷ []) l = absurd (omega (arith, l))
has-nth test (a ∷ b ∷ c ∷ d ∷ []) l = absurd (omega (arith, l))
has-nth test (a ∷ b ∷ c ∷ d ∷ e ∷ []) l = absurd (omega (arith, l))
has-nth test (a ∷ b ∷ c ∷ d ∷ e ∷ f ∷ []) l = absurd (omega (arith, l))
has-nth test (a ∷ b ∷ c ∷ d ∷ e ∷ f ∷ g ∷ []) l = absurd (omega (arith, l))
has-nth test (a ∷ b ∷ c ∷ d ∷ e ∷ f ∷ g ∷ i ∷ more) l = (refl, refl, refl)

six-passed : (a b c d e g : Bool) (fa fb fc fd fe fg : Fault) →
    first_failed ((a, fa) ∷ (b, fb) ∷ (c, fc) ∷ (d, fd) ∷ (e, fe) ∷ (g, fg) ∷ []) ≡ None →
    (a ≡ true) × (b ≡ true) × (c ≡ true) × (d ≡ true) × (e ≡ true) × (g ≡ true)
six-passed a b c d e g fa fb fc fd fe fg h =
    let p : (a ≡ true) × (first_failed ((b, fb) ∷ (c, fc) ∷ (d, fd) ∷ (e, fe) ∷ (g, fg) ∷ []) ≡ None) =
    passed a fa ((b, fb) ∷ (c, fc) ∷ (d, fd) ∷ (e, fe) ∷ (g, fg) ∷ []) h in
    let q : (b ≡ true) × (first_failed ((c, fc) ∷ (d, fd) ∷ (e, fe) ∷ (g, fg) ∷ []) ≡ None) = passed b fb ((c, fc) ∷ (d, fd) ∷ (e, fe) ∷ (g, fg) ∷ []) p.1 in
    let r : (c ≡ true) × (first_failed ((d, fd) ∷ (e, fe) ∷ (g, fg) ∷ []) ≡ None) = passed c fc ((d, fd) ∷ (e, fe) ∷ (g, fg) ∷ []) q.1 in
    let s : (d ≡ true) × (first_failed ((e, fe) ∷ (g, fg) ∷ []) ≡ None) = passed d fd ((e, fe) ∷ (g, fg) ∷ []) r.1 in
    let t : (e ≡ true) × (first_failed ((g, fg) ∷ []) ≡ None) = passed e fe ((g, fg) ∷ []) s.1 in
    let u : (g ≡ true) × (first_failed [] ≡ None) = passed g fg [] t.1 in
    (p.0, q.0, r.0, s.0, t.0, u.0)

magic-is : (version : ℕ) (bytes : List ℕ) → has_magic version bytes ≡ true → take 4 bytes ≡ magic version
magic-is version bytes h = (bytes_eq-Decides (take 4 bytes) (magic version)).0 h

-- the header of version 1
record Header_1 (kind : Kind) (dims width : ℕ) (bytes : List ℕ) : Type 0 where
  written : bytes ≡ magic 1 ++ (kind_byte kind ∷ dims ∷ slice_index bytes 6 ∷ 0 ∷ []) ++ drop 8 bytes
  flag : slice_index bytes 6 ≤ 1
  dims_are : dims_fit 8 (kind_byte kind) dims ≡ true
  width_is : width ≡ 32

header_1-is : (kind : Kind) (dims width : ℕ) (bytes : List ℕ) → first_failed (header_tests_1 kind dims width bytes) ≡ None → Header_1 kind dims width bytes
header_1-is kind dims width bytes h =
    let t : (has_magic 1 bytes ≡ true) × (has_byte bytes 4 is_flag ≡ true) ×
    (has_byte bytes 5 (dims_fit 8 (slice_index bytes 4)) ≡ true) × (has_byte bytes 6 is_flag ≡ true) ×
    (has_byte bytes 7 (λ b. b == 0) ≡ true) ×
    (((slice_index bytes 4 == kind_byte kind) && (slice_index bytes 5 == dims) && (width == 32)) ≡ true) =
    six-passed (has_magic 1 bytes) (has_byte bytes 4 is_flag)
    (has_byte bytes 5 (dims_fit 8 (slice_index bytes 4))) (has_byte bytes 6 is_flag)
    (has_byte bytes 7 (λ b. b == 0)) ((slice_index bytes 4 == kind_byte kind) && (slice_index bytes 5 == dims) &&
    (width == 32)) bad_magic (bad_header 4) (bad_header 5) (bad_header 6) (bad_header 7) bad_dims h in
    let l : (8 ≤ length bytes) × ((slice_index bytes 7 == 0) ≡ true) = has-eight (λ b. b == 0) bytes t.4 in
    let a : (((slice_index bytes 4 == kind_byte kind) && (slice_index bytes 5 == dims)) ≡ true) ×
    ((width == 32) ≡ true) = and-parts ((slice_index bytes 4 == kind_byte kind) && (slice_index bytes 5 == dims))
    (width == 32) t.5 in
    let b : ((slice_index bytes 4 == kind_byte kind) ≡ true) × ((slice_index bytes 5 == dims) ≡ true) =
    and-parts (slice_index bytes 4 == kind_byte kind) (slice_index bytes 5 == dims) a.0 in
    let k : slice_index bytes 4 ≡ kind_byte kind = eqb-true (slice_index bytes 4) (kind_byte kind) b.0 in
    let d : slice_index bytes 5 ≡ dims = eqb-true (slice_index bytes 5) dims b.1 in
    let z : slice_index bytes 7 ≡ 0 = eqb-true (slice_index bytes 7) 0 l.1 in
    record {
      written = front-four bytes l.0
          ∙ ap (λ t. t ++ (slice_index bytes 4 ∷ slice_index bytes 5 ∷ slice_index bytes 6 ∷ slice_index bytes 7 ∷ []) ++ drop 8 bytes) (magic-is 1 bytes t.0)
          ∙ ap (λ t. magic 1 ++ (t ∷ slice_index bytes 5 ∷ slice_index bytes 6 ∷ slice_index bytes 7 ∷ []) ++ drop 8 bytes) k
          ∙ ap (λ t. magic 1 ++ (kind_byte kind ∷ t ∷ slice_index bytes 6 ∷ slice_index bytes 7 ∷ []) ++ drop 8 bytes) d
          ∙ ap (λ t. magic 1 ++ (kind_byte kind ∷ dims ∷ slice_index bytes 6 ∷ t ∷ []) ++ drop 8 bytes) z;
      flag = leb-true (slice_index bytes 6) 1 (sym (has-nth is_flag bytes l.0).2 ∙ t.3);
      dims_are = ap (λ t. dims_fit 8 t dims) (sym k) ∙ ap (dims_fit 8 (slice_index bytes 4)) (sym d) ∙ sym (has-nth (dims_fit 8 (slice_index bytes 4)) bytes l.0).1 ∙ t.2;
      width_is = eqb-true width 32 a.1;
    }

-- the header of version 2
record Header (kind : Kind) (dims width : ℕ) (bytes : List ℕ) : Type 0 where
  written : bytes ≡ magic 2 ++ (kind_byte kind ∷ dims ∷ width ∷ slice_index bytes 7 ∷ []) ++ drop 8 bytes
  flag : slice_index bytes 7 ≤ 1
  dims_are : dims_fit 16 (kind_byte kind) dims ≡ true
  width_is : is_width width ≡ true

header-is : (kind : Kind) (dims width : ℕ) (bytes : List ℕ) → first_failed (header_tests kind dims width bytes) ≡ None → Header kind dims width bytes
header-is kind dims width bytes h =
    let t : (has_magic 2 bytes ≡ true) × (has_byte bytes 4 is_flag ≡ true) ×
    (has_byte bytes 5 (dims_fit 16 (slice_index bytes 4)) ≡ true) × (has_byte bytes 6 is_width ≡ true) ×
    (has_byte bytes 7 is_flag ≡ true) ×
    (((slice_index bytes 4 == kind_byte kind) && (slice_index bytes 5 == dims) && (slice_index bytes 6 == width))
    ≡ true) = six-passed (has_magic 2 bytes) (has_byte bytes 4 is_flag)
    (has_byte bytes 5 (dims_fit 16 (slice_index bytes 4))) (has_byte bytes 6 is_width) (has_byte bytes 7 is_flag)
    ((slice_index bytes 4 == kind_byte kind) && (slice_index bytes 5 == dims) && (slice_index bytes 6 == width))
    bad_magic (bad_header 4) (bad_header 5) (bad_header 6) (bad_header 7) bad_dims h in
    let l : (8 ≤ length bytes) × (is_flag (slice_index bytes 7) ≡ true) = has-eight is_flag bytes t.4 in
    let a : (((slice_index bytes 4 == kind_byte kind) && (slice_index bytes 5 == dims)) ≡ true) ×
    ((slice_index bytes 6 == width) ≡ true) =
    and-parts ((slice_index bytes 4 == kind_byte kind) && (slice_index bytes 5 == dims)) (slice_index bytes 6 == width) t.5 in
    let b : ((slice_index bytes 4 == kind_byte kind) ≡ true) × ((slice_index bytes 5 == dims) ≡ true) =
    and-parts (slice_index bytes 4 == kind_byte kind) (slice_index bytes 5 == dims) a.0 in
    let k : slice_index bytes 4 ≡ kind_byte kind = eqb-true (slice_index bytes 4) (kind_byte kind) b.0 in
    let d : slice_index bytes 5 ≡ dims = eqb-true (slice_index bytes 5) dims b.1 in
    let w : slice_index bytes 6 ≡ width = eqb-true (slice_index bytes 6) width a.1 in
    record {
      written = front-four bytes l.0
          ∙ ap (λ t. t ++ (slice_index bytes 4 ∷ slice_index bytes 5 ∷ slice_index bytes 6 ∷ slice_index bytes 7 ∷ []) ++ drop 8 bytes) (magic-is 2 bytes t.0)
          ∙ ap (λ t. magic 2 ++ (t ∷ slice_index bytes 5 ∷ slice_index bytes 6 ∷ slice_index bytes 7 ∷ []) ++ drop 8 bytes) k
          ∙ ap (λ t. magic 2 ++ (kind_byte kind ∷ t ∷ slice_index bytes 6 ∷ slice_index bytes 7 ∷ []) ++ drop 8 bytes) d
          ∙ ap (λ t. magic 2 ++ (kind_byte kind ∷ dims ∷ t ∷ slice_index bytes 7 ∷ []) ++ drop 8 bytes) w;
      flag = leb-true (slice_index bytes 7) 1 l.1;
      dims_are = ap (λ t. dims_fit 16 t dims) (sym k) ∙ ap (dims_fit 16 (slice_index bytes 4)) (sym d) ∙
          sym (has-nth (dims_fit 16 (slice_index bytes 4)) bytes l.0).1 ∙ t.2;
      width_is = ap is_width (sym w) ∙ sym (has-nth is_width bytes l.0).2 ∙ t.3;
    }

-- ---- version 1

behind-header : (bytes : List ℕ) → IsBytes bytes → IsBytes (drop 8 bytes)
behind-header bytes b = Each-back (λ b. b < 2 ^ 8) (take 8 bytes) (drop 8 bytes) (subst IsBytes (sym (take-append-drop 8 bytes)) b)

version_1 : (kind : Kind) (dims width : ℕ) (bytes : List ℕ) → IsBytes bytes →
    fault_by (header_tests_1 kind dims width bytes) kind width dims (slice_index bytes 6) bytes ≡ None →
    (T : List Row) × (width ≡ 32) × IsSnapshotOf_1 kind dims bytes T
version_1 kind dims width bytes b h =
    let s : (first_failed (header_tests_1 kind dims width bytes) ≡ None) ×
    (body_fault kind width dims (slice_index bytes 6) bytes ≡ None) =
    neither (first_failed (header_tests_1 kind dims width bytes))
    (body_fault kind width dims (slice_index bytes 6) bytes) h in
    let k : Header_1 kind dims width bytes = header_1-is kind dims width bytes s.0 in
    let r : body_fault kind 32 dims (slice_index bytes 6) bytes ≡ None = subst (λ w. body_fault kind w dims (slice_index bytes 6) bytes ≡ None) k.width_is s.1 in
    let t : (T : List Row) × TableOf kind 32 dims (slice_index bytes 6) (drop 8 bytes) T =
    table-of kind 32 dims (length bytes) 8 (slice_index bytes 6) (drop 8 bytes) (omega arith)
    (behind-header bytes b) k.flag r in (
      t.0,
      k.width_is,
      record {
        is_table = t.1.table;
        rows_are = t.1.fits;
        dims_are = k.dims_are;
        bytes_are = k.written
            ∙ ap (λ x. magic 1 ++ (kind_byte kind ∷ dims ∷ x ∷ 0 ∷ []) ++ drop 8 bytes) (sym t.1.flagged)
            ∙ ap (λ x. magic 1 ++ (kind_byte kind ∷ dims ∷ root_byte (shape 32 t.0) ∷ 0 ∷ []) ++ x) t.1.written;
      },
    )

-- ---- either version

-- bytes with no fault are the snapshot of a table in one of the two versions
pub snapshot-from_none : (kind : Kind) (dims width : ℕ) (bytes : List ℕ) → IsBytes bytes →
    load_fault kind dims width bytes ≡ None → (T : List Row) × IsSnapshotOf kind dims width bytes T
snapshot-from_none kind dims width bytes b h = by_magic (has_magic 1 bytes) h
  where
    by_magic : (m : Bool) → elim m as (λ x. Option Fault) [
      | true ↦ fault_by (header_tests_1 kind dims width bytes) kind width dims (slice_index bytes 6) bytes
      | false ↦
          fault_by (header_tests kind dims width bytes) kind width dims (slice_index bytes 7) bytes
    ] ≡ None →
        (T : List Row) × IsSnapshotOf kind dims width bytes T
    by_magic true r =
        let v : (T : List Row) × (width ≡ 32) × IsSnapshotOf_1 kind dims bytes T = version_1 kind dims width bytes b r in
        (v.0, inl (v.1, v.2))
    by_magic false r =
        let s : (first_failed (header_tests kind dims width bytes) ≡ None) ×
        (body_fault kind width dims (slice_index bytes 7) bytes ≡ None) =
        neither (first_failed (header_tests kind dims width bytes))
        (body_fault kind width dims (slice_index bytes 7) bytes) r in
        let k : Header kind dims width bytes = header-is kind dims width bytes s.0 in
        let t : (T : List Row) × TableOf kind width dims (slice_index bytes 7) (drop 8 bytes) T =
        table-of kind width dims (length bytes) 8 (slice_index bytes 7) (drop 8 bytes)
        (width-fits width k.width_is).0 (behind-header bytes b) k.flag s.1 in (
          t.0,
          inr (record {
            is_table = t.1.table;
            rows_are = t.1.fits;
            dims_are = k.dims_are;
            width_is = k.width_is;
            bytes_are = k.written
                ∙ ap (λ x. magic 2 ++ (kind_byte kind ∷ dims ∷ width ∷ x ∷ []) ++ drop 8 bytes) (sym t.1.flagged)
                ∙ ap (λ x. magic 2 ++ (kind_byte kind ∷ dims ∷ width ∷ root_byte (shape width t.0) ∷ []) ++ x) t.1.written;
          }),
        )

-- the snapshot of a table in either version has no fault
pub none-from_snapshot : (kind : Kind) (dims width : ℕ) (bytes : List ℕ) (T : List Row) → IsSnapshotOf kind dims width bytes T → load_fault kind dims width bytes ≡ None
none-from_snapshot kind dims width bytes T (inl (e, h)) =
    ap (λ w. load_fault kind dims w bytes) e ∙ ap (load_fault kind dims 32) h.bytes_are ∙ snap_1-loads kind dims T h.dims_are h.is_table h.rows_are
none-from_snapshot kind dims width bytes T (inr h) =
    ap (load_fault kind dims width) h.bytes_are ∙ snap-loads kind dims width T h.dims_are h.width_is h.is_table h.rows_are

-- what is read of it is the table
pub read-from_snapshot : (kind : Kind) (dims width : ℕ) (bytes : List ℕ) (T : List Row) →
    IsSnapshotOf kind dims width bytes T → read_snapshot kind dims width bytes ≡ Ok T
read-from_snapshot kind dims width bytes T (inl (e, h)) =
    ap (λ w. read_snapshot kind dims w bytes) e
    ∙ ap (read_snapshot kind dims 32) h.bytes_are
    ∙ ap (λ t. read_unless t dims 32 (snap_1 kind dims T)) (snap_1-loads kind dims T h.dims_are h.is_table h.rows_are)
    ∙ ap {B = Result (List Row) Reply} Ok (snap_1-rows kind dims T (omega (arith, fit-few 8 (kind_byte kind) dims h.dims_are)) h.is_table)
read-from_snapshot kind dims width bytes T (inr h) =
    ap (read_snapshot kind dims width) h.bytes_are ∙ snap-read kind dims width T h.dims_are h.width_is h.is_table h.rows_are

-- the table of a snapshot is one
pub table-from_snapshot : (kind : Kind) (dims width : ℕ) (bytes : List ℕ) (T : List Row) → IsSnapshotOf kind dims width bytes T → IsTable width dims T
table-from_snapshot kind dims width bytes T (inl (e, h)) = subst (λ w. IsTable w dims T) (sym e) h.is_table
table-from_snapshot kind dims width bytes T (inr h) = h.is_table

-- ---- the tree that is read

few-words : (kind : Kind) (dims width : ℕ) (T : List Row) (h : List ℕ) → length (packs dims (nodes (shape width T))) ≤ length (h ++ records dims (shape width T))
few-words kind dims width T h =
    omega (arith, length-append h (records dims (shape width T)), length-bytes (packs dims (nodes (shape width T))))

-- the tree that is read of a snapshot is the shape of its table
pub tree-from_snapshot : (kind : Kind) (dims width : ℕ) (bytes : List ℕ) (T : List Row) →
    IsSnapshotOf kind dims width bytes T →
    first_node (read_nodes (length bytes) dims (root_flag bytes) (drop 8 bytes)).0 ≡ shape width T
tree-from_snapshot kind dims width bytes T (inl (e, h)) =
    ap (λ b. first_node (read_nodes (length b) dims (root_flag b) (drop 8 b)).0) h.bytes_are
    ∙ tree-reads 32 dims (shape 32 T) (omega (arith, fit-few 8 (kind_byte kind) dims h.dims_are)) (omega arith)
    (table-shape 32 dims T (omega arith) h.is_table).0 (length (snap_1 kind dims T))
    (few-words kind dims 32 T (magic 1 ++ (kind_byte kind ∷ dims ∷ root_byte (shape 32 T) ∷ 0 ∷ [])))
    ∙ ap (λ w. shape w T) (sym e)
tree-from_snapshot kind dims width bytes T (inr h) =
    let w : (1 ≤ width) × (width ≤ 62) = width-fits width h.width_is in
    ap (λ b. first_node (read_nodes (length b) dims (root_flag b) (drop 8 b)).0) h.bytes_are
    ∙ tree-reads width dims (shape width T) (fit-few 16 (kind_byte kind) dims h.dims_are) w.1
    (table-shape width dims T w.0 h.is_table).0 (length (snap kind dims width T))
    (few-words kind dims width T (magic 2 ++ (kind_byte kind ∷ dims ∷ width ∷ root_byte (shape width T) ∷ [])))

-- ---- a snapshot is bytes
