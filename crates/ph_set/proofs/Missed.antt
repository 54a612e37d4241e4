-- Rows whose points no region below a part holds.
use Rattle.std.proofs.Common.{◌≡◌, ℕ, ◌+◌, ◌^◌, ◌<◌, ◌≤◌, List, [], ◌∷◌, refl, ◌∙◌, ap, subst, arith}
use Rattle.std.specs.List.{AllByRecursion as Each}
use Rattle.ph_specs.specs.Table.{Row}
use Rattle.ph_model.specs.EntryList.{Entry, What, value, node}
use Rattle.ph_model.specs.Lawful.{IsAbove, IsLawfulEntry}
use Rattle.ph_specs.specs.Shape.{row_address}
use Rattle.ph_model.proofs.lemmas.Joined.{offsets, from_place, number_at, address_from-is, same_number}
use Rattle.ph_specs.proofs.lemmas.Members.{Each-each}
use Rattle.ph_model.proofs.laws.Paths.{placed_child, held, many, many-append, many-other, none-below}
use Rattle.ph_set.specs.Parts.{IsPart, height, part_nodes, nodes_in, behind}
use Rattle.ph_set.proofs.Parting.{entry_nodes, nodes-first, behind-part, behind-height, behind-address}
use Rattle.ph_set.proofs.Sights.{AreMissed}

-- a row whose digits from a place on are not those of a list has another address there, or other digits above it
same-address : (w c : ℕ) (es : List ℕ) (r : Row) → from_place c (offsets w r.point) ≡ from_place c es → row_address w c r ≡ number_at 0 c es
same-address w c es r e = address_from-is w 0 c r.point ∙ same_number 0 c c (offsets w r.point) es (omega arith) e

-- ---- below a part

part-misses : (w d c : ℕ) (es : List ℕ) (o : What) → IsPart w d es o → height o ≤ c → (r : Row) →
    (row_address w c r ≡ number_at 0 c es → ⊥) → many w r.point (part_nodes w es o) ≡ 0
part-misses w d c es (value v) h l r other = refl
part-misses w d c es (node m) h l r other =
    none-below w d c m.level 0 es m.chain r.point (omega (arith, l)) (record { long = h.long; zeros = h.held.1 }) h.held.2
    (λ e. other (same-address w c es r e))

pub part-missed : (w d c : ℕ) (es : List ℕ) (o : What) → IsPart w d es o → height o ≤ c → (rows : List Row) →
    Each (λ r. row_address w c r ≡ number_at 0 c es → ⊥) rows → AreMissed w (part_nodes w es o) rows
part-missed w d c es o h l rows = Each-each rows (λ r other. part-misses w d c es o h l r other)

-- ---- below entries of a node

module _ (w d c : ℕ) (ds : List ℕ) (l : c < w) (k : IsAbove d c ds) (s : Each (λ x. x < 2 ^ w) ds) where
  entry-misses : (e : Entry) → IsLawfulEntry d c e → (r : Row) → (row_address w c r ≡ e.addr → ⊥) → many w r.point (entry_nodes w c (behind c ds e) e.what) ≡ 0
  entry-misses e h r other = by_what e.what refl
    where
      elsewhere : row_address w c r ≡ number_at 0 c (behind c ds e) → ⊥
      elsewhere q = other (q ∙ behind-address w d c ds l k s e h)

      by_what : (o : What) → e.what ≡ o → many w r.point (entry_nodes w c (behind c ds e) o) ≡ 0
      by_what (value v) q = refl
      by_what (node m) q =
          let part : IsPart w d (behind c ds e) (node m) = subst (IsPart w d (behind c ds e)) q (behind-part w d c ds l k s e h) in
          let low : height (node m) ≤ c = subst (λ o. height o ≤ c) q (behind-height w d c ds l k s e h) in
          many-other w r.point (placed_child w c m.level (behind c ds e) m.chain) (part_nodes w (behind c ds e) (node m))
          (λ t. elsewhere (same-address w c (behind c ds e) r (held w c m.level (behind c ds e) m.chain r.point (omega (arith, low)) t)))
          ∙ part-misses w d c (behind c ds e) (node m) part low r elsewhere

  pub entry-missed : (e : Entry) → IsLawfulEntry d c e → (rows : List Row) → Each (λ r. row_address w c r ≡ e.addr → ⊥) rows →
      AreMissed w (entry_nodes w c (behind c ds e) e.what) rows
  entry-missed e h rows = Each-each rows (λ r other. entry-misses e h r other)

  -- addresses of entries, and others
  module _ (P Q : ℕ → Type 0) (apart : (a : ℕ) → P a → Q a → ⊥) where
    entries-miss : (es : List Entry) → Each (IsLawfulEntry d c) es → Each (λ e. P e.addr) es → (r : Row) → Q (row_address w c r) → many w r.point (nodes_in w c ds es) ≡ 0
    entries-miss [] h m r q = refl
    entries-miss (e ∷ es) h m r q =
        let whole : many w r.point (nodes_in w c ds (e ∷ es)) ≡ many w r.point (entry_nodes w c (behind c ds e) e.what) + many w r.point (nodes_in w c ds es) =
        ap (many w r.point) (nodes-first w c ds e es) ∙ many-append w r.point (entry_nodes w c (behind c ds e) e.what) (nodes_in w c ds es) in
        let first : many w r.point (entry_nodes w c (behind c ds e) e.what) ≡ 0 =
        entry-misses e h.0 r (λ same. apart e.addr m.0 (subst Q same q)) in
        let others : many w r.point (nodes_in w c ds es) ≡ 0 = entries-miss es h.1 m.1 r q in
        omega (arith, whole, first, others)

    pub entries-missed : (es : List Entry) → Each (IsLawfulEntry d c) es → Each (λ e. P e.addr) es → (rows : List Row) →
        Each (λ r. Q (row_address w c r)) rows → AreMissed w (nodes_in w c ds es) rows
    entries-missed es h m rows = Each-each rows (λ r q. entries-miss es h m r q)
