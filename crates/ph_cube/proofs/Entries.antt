-- The entry that stands at an address, and the children in front of it.
use Rattle.std.proofs.Common.{◌≡◌, ◌+◌, ◌*◌, ◌<◌, ◌^◌, ℕ, sym, ◌∙◌, ap, subst, arith, length, map, take, false, true, List, [], get_or, slice_index_or, Bool, refl}
use Rattle.std.specs.Prelude.{Some, ◌==◌, if◌then◌else◌, slice_get}
use Rattle.std.specs.Option.{option_map}
use Rattle.std.specs.List.{AllByRecursion as Each}
use Rattle.std.proofs.lemmas.Option.{slice_get-get_or, slice_get-map}
use Rattle.ph_model.specs.Digits.{digits_at}
use Rattle.ph_specs.specs.Record.{first_in, read}
use Rattle.ph_model.specs.Layout.{IsRecord, entries_as, read_address, is_child}
use Rattle.ph_model.specs.NodeSize.{children_in}
use Rattle.ph_model.proofs.lemmas.ReadColumns.{length-parts}
use Rattle.ph_bits.specs.Fields.{ones_in}
use Rattle.ph_linear.proofs.Entries.{no_read, address-read, kind-read}
use Rattle.ph_cube.specs.Cube.{kinds, bodies, twos_in}
use Rattle.ph_cube.specs.Stands.{StandsAt}
use Rattle.ph_cube.proofs.Columns.{length-kinds, kind-digits}
use Rattle.ph_cube.proofs.Places.{present, entry-at, children-at}
use Rattle.ph_cube.proofs.Ranks.{present-ones, twos-digits, length-entries, kind-one}

module _ (d : ℕ) (words : List ℕ) (a i : ℕ) (r : IsRecord true d words) (h : Each (λ x. x < 2 ^ 64) words) where
  many : length (bodies d words) ≡ length (kinds d words)
  many = length-parts (2 ^ d) d _ ∙ sym (length-kinds d words)

  pub kind-there : StandsAt d words a i → (slice_index_or (kinds d words) a 0 == 0) ≡ false
  kind-there s = by (slice_index_or (kinds d words) a 0 == 0) _ (kind-one d words a r h s.limit) s.some
    where
      by : (t : Bool) (x : ℕ) → x ≡ (if t then 0 else 1) → 0 < x → t ≡ false
      by true x e l = absurd (omega (arith, e, l))
      by false x e l = refl

  pub children : a < 2 ^ d → ones_in words 64 (a * 2) ≡ i → children_in (take i (entries_as true d words)) ≡ twos_in words 64 a
  children l e =
      ap (λ t. children_in (take t (entries_as true d words))) (sym e ∙ present-ones d words a r h (omega (arith, l)))
      ∙ children-at 0 (kinds d words) (bodies d words) a many (omega (arith, l, length-kinds d words))
      ∙ sym (twos-digits d words a r h (omega (arith, l)))

  pub entry-is : i < (first_in words).entries → StandsAt d words a i →
      slice_get (entries_as true d words) i ≡ Some (read (digits_at words (64 + a * 2) 2 == 2) a (get_or (bodies d words) a []))
  entry-is w s =
      let ks : List ℕ = kinds d words in
      let j : a < length ks = subst (λ t. a < t) (sym (length-kinds d words)) s.limit in
      let at = entry-at 0 ks (bodies d words) a many j (kind-there s) in
      let e : present ks a ≡ i = sym (present-ones d words a r h (omega (arith, s.limit))) ∙ s.place in
      let z : 0 + a ≡ a = omega arith in
      slice_get-get_or (entries_as true d words) i no_read (subst (λ t. i < t) (sym (length-entries d words r)) w)
      ∙ ap Some (ap (λ t. get_or (entries_as true d words) t no_read) (sym e) ∙ at.1
      ∙ ap (λ t. read (t == 2) (0 + a) (get_or (bodies d words) a [])) (kind-digits d words a r h s.limit)
      ∙ ap (λ t. read (digits_at words (64 + a * 2) 2 == 2) t (get_or (bodies d words) a [])) z)

  pub address-is : i < (first_in words).entries → StandsAt d words a i → slice_get (map read_address (entries_as true d words)) i ≡ Some a
  address-is w s =
      slice_get-map read_address (entries_as true d words) i ∙ ap (option_map read_address) (entry-is w s) ∙ ap Some (address-read _ _ _)

  pub kind-is : i < (first_in words).entries → StandsAt d words a i → slice_get (map is_child (entries_as true d words)) i ≡ Some (digits_at words (64 + a * 2) 2 == 2)
  kind-is w s =
      slice_get-map is_child (entries_as true d words) i ∙ ap (option_map is_child) (entry-is w s) ∙ ap Some (kind-read _ _ _)
