-- The entries of an old record with an edit, as they are read.
use Rattle.std.proofs.Common.{◌≡◌, ℕ, ◌+◌, ◌<◌, ◌≤◌, List, length, map, take, ap, sym, ◌∙◌, subst, arith, false, slice_index_or, get_or}
use Rattle.std.specs.Prelude.{Some, slice_get}
use Rattle.ph_model.specs.Layout.{unvalued, is_child, read_address}
use Rattle.ph_specs.specs.Node.{Flat}
use Rattle.ph_model.specs.NodeSize.{points_in}
use Rattle.ph_specs.specs.Record.{first_in, entries_in, values_in}
use Rattle.ph_bits.specs.Edits.{edited, flats_in, new_flat, edit_of}
use Rattle.ph_bits.specs.Packed.{read_of, rank_at}
use Rattle.ph_bits.specs.declared.entries.Packed.{Packed}
use Rattle.ph_node.specs.Recorded.{IsSource}
use Rattle.std.proofs.lemmas.Option.{slice_get-get_or}
use Rattle.ph_specs.specs.Record.{Read, read}
use Rattle.ph_bits.specs.Packed.{read_body}
use Rattle.ph_linear.proofs.Entries.{no_read}
use Rattle.ph_node.proofs.Marked.{parts}
use Rattle.ph_node.proofs.Listings.{many as many_entries}
use Rattle.ph_node.proofs.Spliced.{many, kept, read-new, read-old, value-new, value-old, new-reads, new-value}

-- how many there are
pub longer : (d : ℕ) (ws : List ℕ) (place less more : ℕ) (x : Flat) → IsSource d ws → place + less ≤ (first_in ws).entries
    → length (edited place less more x (flats_in d ws)) + less ≡ (first_in ws).entries + more
longer d ws place less more x s w =
    let m = many_entries d ws s.laid.tables in
    omega (arith, m, many (entries_in d ws) (values_in d ws) place less more x s.points (omega (arith, m, w)))

module _ (d : ℕ) (ws : List ℕ) (place less more : ℕ) (p : Packed) (v : ℕ) (s : IsSource d ws) (w : place + less ≤ (first_in ws).entries) where
  within : place + less ≤ length (entries_in d ws)
  within = omega (arith, w, many_entries d ws s.laid.tables)

  module _ (i : ℕ) (l : i < length (edit_of d ws place less more p v)) where
    -- a new one
    module _ (h : (place ≤ i) × (i < place + more)) where
      pub new_entry : slice_get (map unvalued (edit_of d ws place less more p v)) i ≡ Some (read_of d p)
      new_entry = read-new (entries_in d ws) (values_in d ws) place less more (new_flat d p v) s.points within i
          (read_of d p) h.0 h.1 l (new-reads p.child p.addr v (take d p.body))

      pub new_value : (u : ℕ) → slice_get (map (λ e. e.value) (edit_of d ws place less more p v)) i ≡ Some (Some u) → v ≡ u
      new_value u g = new-value p.child v u (value-new (entries_in d ws) (values_in d ws) place less more (new_flat d p v) s.points within i u h.0 h.1 l g)

    -- one that was there, at place k
    module _ (k : ℕ) (n : place ≤ i → place + more ≤ i) (f : i < place → k ≡ i) (b : place ≤ i → k + more ≡ i + less) where
      pub old_within : k < (first_in ws).entries
      old_within = omega (
        arith,
        (kept (entries_in d ws) (values_in d ws) place less more (new_flat d p v) s.points
            within i k n f b l).0,
        many_entries d ws s.laid.tables,
      )

      module _ (e : ℕ) (q : Packed) (same : e ≡ d) (g : slice_get (entries_in e ws) k ≡ Some (read_of e q)) where
        got : slice_get (entries_in d ws) k ≡ Some (read_of d q)
        got = subst (λ m. slice_get (entries_in m ws) k ≡ Some (read_of m q)) same g

        pub old_entry : slice_get (map unvalued (edit_of d ws place less more p v)) i ≡ Some (read_of d q)
        old_entry = read-old (entries_in d ws) (values_in d ws) place less more (new_flat d p v) s.points within i k (read_of d q) n f b l got

      -- its value, by the points in front of it
      module _ (e front : ℕ) (same : e ≡ d) (r : front ≡ rank_at false (entries_in e ws) k) (u : ℕ)
          (h : slice_get (map (λ e. e.value) (edit_of d ws place less more p v)) i ≡ Some (Some u)) where
        abbrev it : Read
        it = get_or (entries_in d ws) k no_read

        whole : slice_get (entries_in d ws) k ≡ Some (read (is_child it) (read_address it) (read_body it))
        whole =
            let m : k < length (entries_in d ws) = omega (arith, old_within, many_entries d ws s.laid.tables) in
            slice_get-get_or (entries_in d ws) k no_read m ∙ ap (λ x. Some x) (parts it)

        there : (is_child it ≡ false) × (points_in (take k (entries_in d ws)) < length (values_in d ws)) ×
            (slice_index_or (values_in d ws) (points_in (take k (entries_in d ws))) 0 ≡ u)
        there = value-old (entries_in d ws) (values_in d ws) place less more (new_flat d p v) s.points within i k u
            (read_address it) (read_body it) (is_child it) n f b l h whole

        rank : front ≡ points_in (take k (entries_in d ws))
        rank = r ∙ ap (λ m. rank_at false (entries_in m ws) k) same

        pub rank_within : (m : ℕ) → m ≡ d → front < length (values_in m ws)
        rank_within m z = subst (λ y. front < length (values_in y ws)) (sym z) (subst (λ y. y < length (values_in d ws)) (sym rank) there.1)

        pub old_value : (m x : ℕ) → m ≡ d → x ≡ slice_index_or (values_in m ws) front 0 → x ≡ u
        old_value m x z y = y ∙ ap (λ y. slice_index_or (values_in y ws) front 0) z ∙ ap (λ y. slice_index_or (values_in d ws) y 0) rank ∙ there.2
