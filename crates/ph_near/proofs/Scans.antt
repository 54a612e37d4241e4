-- Entries of an opened node that are left out by their addresses.
use Rattle.std.proofs.Common.{◌≡◌, ℕ, zero, suc, ◌+◌, ◌<◌, ◌≤◌, ◌^◌, sym, subst, arith, List, ◌++◌, length, map, drop}
use Rattle.ph_model.specs.BestFirst.{Item, item_distance}
use Rattle.ph_specs.specs.Coordinate.{coordinate}
use Rattle.ph_model.specs.Lawful.{IsBody}
use Rattle.ph_specs.specs.Node.{PlainNode}
use Rattle.ph_model.specs.EntryList.{entries}
use Rattle.ph_node.specs.Merge.{addr_at}
use Rattle.ph_node.specs.Shown.{shown}
use Rattle.ph_near.specs.declared.found.Found.{Found}
use Rattle.ph_near.specs.declared.opening.OpenedOf.{OpenedOf}
use Rattle.ph_near.specs.Far.{corner_of, gaps_above}
use Rattle.ph_near.specs.Nearing.{IsKept}
use Rattle.ph_near.specs.Opening.{IsOpened, opened_items, place_item}
use Rattle.ph_near.specs.Ranking.{IsBeyond}
use Rattle.ph_near.specs.Scanning.{AreBeyond}
use Rattle.ph_near.proofs.Entries.{items-more, place-least, place-small}
use Rattle.ph_near.proofs.Nearing.{kept-all, kept-dropped, kept-then}

-- ---- what is farther than n rows

module _ {w d : ℕ} (o : OpenedOf PlainNode d) (h : IsOpened w d o) (center : List ℕ) (q : IsBody d w center) (narrow : w ≤ 62) (few : d ≤ 16)
    (told : ℕ → ℕ) (e : (a : ℕ) → told a ≡ gaps_above (shown o.node).level (corner_of (shown o.node).level a o.known) center)
    (n limit : ℕ) (rows : List (Found d)) (b : (t : ℕ) → limit < t → t < 2 ^ 128 → IsBeyond n rows t) where
  place-beyond : (i : ℕ) → i < length (entries (shown o.node)) → limit < told (addr_at (entries (shown o.node)) i) →
      IsBeyond n rows (item_distance w (map (coordinate w) center) (place_item w o i))
  place-beyond i there far =
      b (item_distance w (map (coordinate w) center) (place_item w o i))
      (omega (arith, far, e (addr_at (entries (shown o.node)) i), place-least o h i there center q)) (place-small o h i there center q narrow few)

  -- the search goes on without them
  pub skipped-kept : (m place stop : ℕ) → m + place ≡ stop → stop ≤ length (entries (shown o.node)) →
      AreBeyond told (entries (shown o.node)) limit place stop → (line : List Item) →
      IsKept w n (map (coordinate w) center) rows (drop place (opened_items w o) ++ line) rows (drop stop (opened_items w o) ++ line)
  skipped-kept zero place stop s l f line =
      subst (λ t. IsKept w n (map (coordinate w) center) rows (drop place (opened_items w o) ++ line) rows (drop t (opened_items w o) ++ line))
      (let t : place ≡ stop = omega (arith, s) in t) (kept-all (drop place (opened_items w o) ++ line))
  skipped-kept (suc m) place stop s l f line =
      let there : place < length (entries (shown o.node)) = omega (arith, s, l) in
      kept-then
      (subst (λ is. IsKept w n (map (coordinate w) center) rows (is ++ line) rows (drop (place + 1) (opened_items w o) ++ line))
      (sym (items-more w (shown o.node).level place o.known (shown o.node).chain there))
      (kept-dropped (place_item w o place) (drop (place + 1) (opened_items w o) ++ line)
      (place-beyond place there (f place (omega arith) (omega (arith, s))))))
      (skipped-kept m (place + 1) stop (omega (arith, s)) l (λ j k t. f j (omega (arith, k)) t) line)
