-- The parts of the rows of a node: what is written of them, and the children that they make one after another.
use Rattle.std.proofs.Common.{◌≡◌, ℕ, ◌+◌, ◌<◌, ◌≤◌, List, [], ◌∷◌, ◌++◌, length, map, take, get_or, sym, ◌∙◌, ap, subst, arith}
use Rattle.std.specs.Prelude.{Some, IsTrue}
use Rattle.std.specs.List.{list_all, AllByRecursion as Each}
use Rattle.ph_model.specs.Layout.{AreRising}
use Rattle.ph_specs.specs.TreeRows.{count}
use Rattle.ph_model.specs.Lawful.{IsLawfulFrom}
use Rattle.ph_specs.specs.Node.{Entries, Flat, PlainNode, flat}
use Rattle.ph_model.specs.NodeSize.{node_size, nodes_in}
use Rattle.ph_specs.specs.Pack.{children, record_of}
use Rattle.ph_specs.specs.Record.{unpacked}
use Rattle.ph_specs.specs.Table.{Row}
use Rattle.ph_model.proofs.laws.Unpacked.{child_nodes}
use Rattle.ph_shape.specs.Groups.{IsGroup}
use Rattle.ph_shape.proofs.Fronts.{each-at}
use Rattle.ph_bulk.specs.declared.parts.Part.{Part}
use Rattle.ph_bulk.specs.Parts.{IsPart, rows_in, chain_of, entry_in, flat_in, is_ready, node_made}
use Rattle.ph_bulk.proofs.Chains.{append-none, nodes-more, size-more, size-part, entry-at, children-more, nodes-children}
use Rattle.ph_bulk.proofs.Flats.{no-child, one-child, child-lawful, child-held, written, all-ready}
use Rattle.ph_bulk.proofs.RecordNodes.{some-there, rises, bottom, again}

-- ---- all parts

-- parts that make the entries of a node at a place, and what is written of them
pub record AreParts {R : Type 0} (f : R → Row) (w dims place : ℕ) (ps : List (Part R)) (chain : Entries) : Type 0 where
  pub parts : Each (IsPart f w dims place) ps
  pub entries : chain_of f w place ps ≡ chain
  pub flats : map (flat_in f w place) ps ≡ flat chain
  pub lawful : IsLawfulFrom dims place 0 (chain_of f w place ps)
  pub ready : IsTrue (list_all (is_ready f w dims place) ps)
  pub some : 1 ≤ length (map (flat_in f w place) ps)
  pub rise : AreRising dims place 0 (map (flat_in f w place) ps)
  pub bottom : place ≡ 0 → children (map (flat_in f w place) ps) ≡ 0
  pub room : length (child_nodes (chain_of f w place ps)) ≡ children (map (flat_in f w place) ps)
  pub node : (below : List PlainNode) → below ≡ child_nodes chain → unpacked dims (record_of dims place (map (flat_in f w place) ps)) below ≡
      record { level = place; chain = chain }

pub are-parts : {R : Type 0} (f : R → Row) (w dims place : ℕ) (ps : List (Part R)) {qs : List (Part R)} {chain : Entries} → ps ≡ qs →
    Each (IsPart f w dims place) qs → chain_of f w place qs ≡ chain → dims ≤ 16 → place ≤ 61 → 1 ≤ count chain →
    IsLawfulFrom dims place 0 chain → AreParts f w dims place ps chain
are-parts f w dims place ps {chain = chain} same are made limit low many lawful =
    let parts : Each (IsPart f w dims place) ps = subst (Each (IsPart f w dims place)) (sym same) are in
    let entries : chain_of f w place ps ≡ chain = ap (chain_of f w place) same ∙ made in
    let flats : map (flat_in f w place) ps ≡ flat chain = written f w dims place ps chain parts entries in
    record {
      parts = parts;
      entries = entries;
      flats = flats;
      lawful = subst (IsLawfulFrom dims place 0) (sym entries) lawful;
      ready = all-ready f w dims place ps parts;
      some = subst (λ (es : List Flat). 1 ≤ length es) (sym flats) (some-there dims place chain limit low many lawful);
      rise = subst (AreRising dims place 0) (sym flats) (rises dims place chain limit low many lawful);
      bottom = λ z. ap children flats ∙ bottom dims place chain limit low many lawful z;
      room = ap (λ ns. length (child_nodes ns)) entries ∙ nodes-children chain ∙ ap children (sym flats);
      node = λ below e. (λ i. unpacked dims (record_of dims place (flats i)) (e i)) ∙ again dims place chain limit low many lawful;
    }

-- the same parts by another name
pub same-parts : {R : Type 0} {f : R → Row} {w dims place : ℕ} {ps qs rs : List (Part R)} {chain : Entries} →
    AreParts f w dims place ps chain → ps ≡ qs → rs ≡ qs → AreParts f w dims place rs chain
same-parts {f = f} {w = w} {dims = dims} {place = place} {chain = chain} h e k = subst (λ ts. AreParts f w dims place ts chain) (e ∙ sym k) h

-- ---- one part

-- the child of one of the parts, and what it adds to those in front of it
pub record IsChild {R : Type 0} (f : R → Row) (w dims place : ℕ) (ps : List (Part R)) (i : ℕ) (p : Part R) (level : ℕ) : Type 0 where
  pub lower : level < place
  pub group : IsGroup w dims (level + 1) (rows_in f p)
  pub many : 1 ≤ count (node_made w level (rows_in f p)).chain
  pub lawful : IsLawfulFrom dims level 0 (node_made w level (rows_in f p)).chain
  pub children : child_nodes (chain_of f w place (take (i + 1) ps)) ≡ child_nodes (chain_of f w place (take i ps)) ++ node_made w level (rows_in f p) ∷ []
  pub size : nodes_in (chain_of f w place (take (i + 1) ps)) ≡ nodes_in (chain_of f w place (take i ps)) + node_size (node_made w level (rows_in f p))
  pub most : nodes_in (chain_of f w place (take (i + 1) ps)) ≤ nodes_in (chain_of f w place ps)
  pub room : length (child_nodes (chain_of f w place (take i ps))) + 1 ≤ length (child_nodes (chain_of f w place ps))

module _ {R : Type 0} (f : R → Row) (w dims place : ℕ) (ps : List (Part R)) (i : ℕ) (p : Part R) (l : i < length ps)
    (e : p ≡ get_or ps i p) (parts : Each (IsPart f w dims place) ps) where
  is-part : IsPart f w dims place p
  is-part = subst (IsPart f w dims place) (sym e) (each-at (IsPart f w dims place) ps i p parts l)

  -- a part with no level has none
  pub adds-none : ((t : ℕ) → p.level ≡ Some t → ⊥) →
      (child_nodes (chain_of f w place (take (i + 1) ps)) ≡ child_nodes (chain_of f w place (take i ps)))
      × (nodes_in (chain_of f w place (take (i + 1) ps)) ≡ nodes_in (chain_of f w place (take i ps)))
  adds-none n =
      let none = no-child f w dims place p is-part n in (
        nodes-more (entry_in f w place) ps i p l e ∙ ap (λ xs. child_nodes (chain_of f w place (take i ps)) ++ xs) none.0
            ∙ append-none (child_nodes (chain_of f w place (take i ps))),
        omega (arith, size-more (entry_in f w place) ps i p l e, none.1),
      )

  pub adds-child : (level : ℕ) → p.level ≡ Some level → IsLawfulFrom dims place 0 (chain_of f w place ps) → IsChild f w dims place ps i p level
  adds-child level is lawful =
      let n = node_made w level (rows_in f p) in
      let b = one-child f w dims place level p is-part is in
      let held = child-held (entry_in f w place p) n b.what in
      let k = child-lawful dims place (entry_in f w place p) n (entry-at (entry_in f w place) ps i p l e dims place 0 lawful) b.what in
      record {
        lower = b.lower;
        group = b.group;
        many = k.many;
        lawful = k.lawful;
        children = nodes-more (entry_in f w place) ps i p l e ∙ ap (λ xs. child_nodes (chain_of f w place (take i ps)) ++ xs) held.0;
        size = omega (arith, size-more (entry_in f w place) ps i p l e, held.1);
        most = size-part (entry_in f w place) ps (i + 1);
        room = children-more (entry_in f w place) ps i p l e n held.0;
      }
