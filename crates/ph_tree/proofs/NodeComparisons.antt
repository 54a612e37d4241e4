-- Nodes that are compared by their records and their children, and whole trees.
use Rattle.std.proofs.Common.{◌≡◌, ℕ, suc, ◌+◌, List, [], ◌∷◌, length, refl, sym, ◌∙◌, ap, subst, arith, length-append}
use Rattle.std.specs.Prelude.{Option, Some, None, replicate, ◌↔◌, IsTrue, Bool, ◌≤◌}
use Rattle.std.specs.Borrow.{Bor}
use Rattle.std.specs.List.{AllByRecursion as Each}
use Rattle.std.specs.Option.{option_copied}
use Rattle.ph_specs.specs.TreeRows.{put_together, rows}
use Rattle.ph_model.specs.Lawful.{IsLawful, IsLawfulFrom}
use Rattle.ph_specs.specs.Node.{Entries, end, point, child, PlainNode, flat, nodes, nodes_below}
use Rattle.ph_specs.specs.Pack.{children, pack}
use Rattle.ph_specs.specs.Record.{first_in, unpacked}
use Rattle.ph_specs.specs.Shape.{shape}
use Rattle.ph_specs.specs.Table.{Row, IsTable}
use Rattle.ph_specs.specs.WorkSets.{all_nodes, placed, placed_below}
use Rattle.ph_model.proofs.laws.OneToOne.{packable}
use Rattle.ph_model.proofs.laws.TableShape.{table-shape}
use Rattle.ph_model.proofs.laws.Unpacked.{IsPackable, child_nodes, first-record, unpacked-pack}
use Rattle.ph_node.specs.Kept.{IsNodeOf}
use Rattle.ph_node.specs.Children.{nodes_of}
use Rattle.ph_node.specs.declared.node.ChildOf.{ChildOf}
use Rattle.ph_tree.proofs.Sizes.{trees, below-children}

-- ---- nodes by their records and their children

-- trees that are lawful, each by itself
abbrev pub AreLawful : ℕ → List PlainNode → Type 0
AreLawful dims = Each (λ n. IsLawfulFrom dims n.level 0 n.chain)

pub children-lawful : (dims level least : ℕ) (e : Entries) → IsLawfulFrom dims level least e → AreLawful dims (child_nodes e)
children-lawful dims level least end h = _
children-lawful dims level least (point a body v rest) h = children-lawful dims level (a + 1) rest h.3
children-lawful dims level least (child a body below chain rest) h = (h.6, children-lawful dims level (a + 1) rest h.7)

pub length-children : (e : Entries) → length (child_nodes e) ≡ children (flat e)
length-children end = refl
length-children (point a body v rest) = omega (arith, length-children rest)
length-children (child a body below chain rest) = omega (arith, length-children rest)

pub length-nodes_of : {P : Type 0} (ss : List (ChildOf P)) → length (nodes_of ss) ≡ length ss
length-nodes_of [] = refl
length-nodes_of (s ∷ ss) = ap suc (length-nodes_of ss)

-- a visited node that is lawful, its record and its children
pub record IsSeen {P : Type 0} (dims : ℕ) (n : PlainNode) (ws : List ℕ) (ss : List (ChildOf P)) : Type 0 where
  pub kept : IsNodeOf dims n
  pub lawful : IsLawfulFrom dims n.level 0 n.chain
  pub words : ws ≡ pack dims n
  pub children : nodes_of ss ≡ child_nodes n.chain

module _ {P : Type 0} {dims : ℕ} {n : PlainNode} {ws : List ℕ} {ss : List (ChildOf P)} (h : IsSeen dims n ws ss) where
  seen-packable : IsPackable dims n.level n.chain
  seen-packable = packable dims n.level n.chain h.kept.few (omega (arith, h.kept.low)) h.lawful

  seen-again : unpacked dims ws (nodes_of ss) ≡ n
  seen-again =
      ap (λ t. unpacked dims t (nodes_of ss)) h.words
      ∙ ap (λ t. unpacked dims (pack dims n) t) h.children
      ∙ unpacked-pack dims n seen-packable

  seen-length : length ss ≡ (first_in ws).children
  seen-length =
      sym (length-nodes_of ss)
      ∙ ap length h.children
      ∙ length-children n.chain
      ∙ sym (ap (λ t. (first_in t).children) h.words ∙ ap (λ t. t.children) (first-record dims n.level n.chain seen-packable))

  pub seen-lawful : AreLawful dims (nodes_of ss)
  seen-lawful = subst (AreLawful dims) (sym h.children) (children-lawful dims n.level 0 n.chain h.lawful)

  pub seen-size : length (trees ss) + 1 ≡ length (nodes (Some n))
  seen-size = omega (arith, ap length (below-children ss n n h.children refl))

module _ {P : Type 0} {dims : ℕ} {n m : PlainNode} {ws us : List ℕ} {ss ts : List (ChildOf P)} (h : IsSeen dims n ws ss) (k : IsSeen dims m us ts) where
  module _ (e : ws ≡ us) where
    pub seen-long : length ss ≡ length ts
    seen-long = seen-length h ∙ ap (λ t. (first_in t).children) e ∙ sym (seen-length k)

    pub seen-same : (nodes_of ss ≡ nodes_of ts) ↔ (n ≡ m)
    seen-same = (
      λ f. sym (seen-again h) ∙ ap (λ t. unpacked dims t (nodes_of ss)) e ∙ ap (λ t. unpacked dims us t) f ∙ seen-again k,
      λ f. h.children ∙ ap (λ t. child_nodes t.chain) f ∙ sym k.children,
    )

-- ---- whole trees

length-placed : (w level : ℕ) (above : List ℕ) (e : Entries) → length (placed_below w level above e) ≡ length (nodes_below e)
length-placed w level above end = refl
length-placed w level above (point a body v rest) = length-placed w level above rest
length-placed w level above (child a body below chain rest) =
    let known : List ℕ = put_together level a above body in
    ap suc (length-append (placed_below w below known chain) (placed_below w level above rest)
    ∙ (λ i. length-placed w below known chain i + length-placed w level above rest i)
    ∙ sym (length-append (nodes_below chain) (nodes_below rest)))

-- a tree has as many nodes as there are in the work set of all
pub length-nodes : (w dims : ℕ) (t : Option PlainNode) → length (placed w dims t) ≡ length (nodes t)
length-nodes w dims None = refl
length-nodes w dims (Some n) = ap suc (length-placed w n.level (replicate dims 0) n.chain)

-- a table, and the root of its tree as it is lent
pub record IsRooted (w dims : ℕ) (xs : List Row) (root : Option (Bor PlainNode)) : Type 0 where
  pub wide : 1 ≤ w
  pub table : IsTable w dims xs
  pub shape : option_copied root ≡ shape w xs

module _ {w dims : ℕ} {xs : List Row} {root : Option (Bor PlainNode)} (k : IsRooted w dims xs root) where
  pub root-is : {a : Bor PlainNode} → root ≡ Some a → shape w xs ≡ Some a.now
  root-is e = sym k.shape ∙ ap option_copied e

  pub root-lawful : {a : Bor PlainNode} → root ≡ Some a → IsLawfulFrom dims a.now.level 0 a.now.chain
  root-lawful e = (subst (IsLawful w dims) (root-is e) (table-shape w dims xs k.wide k.table).0).2

  pub root-nodes : {a : Bor PlainNode} → root ≡ Some a → length (all_nodes w dims xs) ≡ length (nodes (Some a.now))
  root-nodes e = length-nodes w dims (shape w xs) ∙ ap (λ t. length (nodes t)) (root-is e)

-- tables are the same where their trees are
pub tables-same : {w v dims : ℕ} {xs ys : List Row} {left right : Option (Bor PlainNode)} {a b : Bor PlainNode}
    {r : Bool} → w ≡ v → IsRooted w dims xs left → IsRooted v dims ys right → left ≡ Some a → right ≡ Some b →
    (IsTrue r ↔ (a.now ≡ b.now)) → IsTrue r ↔ (xs ≡ ys)
tables-same {w} {v} {dims} {xs} {ys} {left} {right} {a} {b} {r} u k l e f g =
    let x : shape w xs ≡ Some a.now = root-is k e in
    let y : shape w ys ≡ Some b.now = ap (λ z. shape z ys) u ∙ root-is l f in
    let n : IsTable w dims ys = subst (λ z. IsTable z dims ys) (sym u) l.table in (
      λ i. sym (table-shape w dims xs k.wide k.table).1 ∙ ap (rows w dims) (x ∙ ap Some (g.0 i) ∙ sym y) ∙ (table-shape w dims ys k.wide n).1,
      λ j. g.1 (inner (sym x ∙ ap (shape w) j ∙ y)),
    )
  where
    inner : Some a.now ≡ Some b.now → a.now ≡ b.now
    inner q = cc
