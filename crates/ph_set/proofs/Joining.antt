-- The digits of entries, joined in one array to those that are known above the level of their node.
use Rattle.std.proofs.Common.{◌≡◌, ℕ, ◌+◌, ◌<◌, ◌≤◌, List, ◌++◌, length, refl, sym, ◌∙◌, ap, subst, arith}
use Rattle.ph_model.specs.EntryEdits.{what_at}
use Rattle.ph_specs.specs.TreeRows.{put_together}
use Rattle.ph_model.specs.Lawful.{IsAbove, IsBody, IsLawfulEntry}
use Rattle.ph_specs.specs.Node.{PlainNode}
use Rattle.ph_model.specs.EntryList.{What, node, entries}
use Rattle.ph_model.specs.PutTree.{body_above}
use Rattle.ph_model.proofs.lemmas.Joined.{from_place, same_from}
use Rattle.ph_node.specs.Split.{body_at}
use Rattle.ph_node.specs.Spots.{IsSpot, joined_digits}
use Rattle.ph_node.specs.declared.spots.Spot.{Spot}
use Rattle.ph_path.proofs.Knowns.{above-from, above-same, above-whole}
use Rattle.ph_set.specs.Parts.{IsPart, height, openings, part_rows, part_nodes, rows_in, nodes_in, behind, stretch}
use Rattle.ph_set.proofs.Parting.{behind-part, behind-height, behind-from}
use Rattle.ph_set.proofs.Walking.{entry_at, entry-is, whole-rows, whole-nodes, step-rows, step-nodes}

-- what is known above a level is the same where the digits from it on are
pub same-above : (c : ℕ) (xs ys : List ℕ) → from_place (c + 1) xs ≡ from_place (c + 1) ys → body_above c xs ≡ body_above c ys
same-above c xs ys e = above-same c c xs ys (omega arith) e

module _ (w d : ℕ) (known : List ℕ) (n : PlainNode) (h : IsPart w d (body_above n.level known) (node n)) (s : Spot)
    (at : IsSpot (entries n) s) (new : List ℕ) (made : new ≡ joined_digits n s known) where
  abbrev above : List ℕ
  above = body_above n.level known

  is-above : IsAbove d n.level above
  is-above = record { long = h.long; zeros = h.held.1 }

  lawful : IsLawfulEntry d n.level (entry_at (entries n) s.place)
  lawful = entry-is w d above n h s s.place refl at

  pub joined-behind : new ≡ behind n.level above (entry_at (entries n) s.place)
  joined-behind = made ∙ ap (λ a. put_together n.level a above (body_at (entries n) s.place)) at.address

  pub joined-part : IsPart w d new (what_at (entries n) s.place)
  joined-part =
      subst (λ t. IsPart w d t (what_at (entries n) s.place)) (sym joined-behind)
      (behind-part w d n.level above h.held.0 is-above h.small (entry_at (entries n) s.place) lawful)

  pub joined-known : IsBody d w new
  joined-known = (joined-part.long, joined-part.small)

  pub joined-from : from_place (n.level + 1) new ≡ from_place (n.level + 1) known
  joined-from =
      ap (from_place (n.level + 1)) joined-behind ∙ behind-from w d n.level above h.held.0 is-above h.small (entry_at (entries n) s.place) lawful
      ∙ above-from n.level known

  -- below an entry that is a child
  module _ (m : PlainNode) (o : what_at (entries n) s.place ≡ node m) where
    child-held : IsPart w d new (node m)
    child-held = subst (IsPart w d new) o joined-part

    child-whole : body_above m.level new ≡ new
    child-whole = above-whole m.level new child-held.held.1

    pub child-level : m.level + 1 ≤ n.level
    child-level =
        subst (λ t. height t ≤ n.level) o (behind-height w d n.level above h.held.0 is-above h.small (entry_at (entries n) s.place) lawful)

    pub child-part : IsPart w d (body_above m.level new) (node m)
    child-part = subst (λ t. IsPart w d t (node m)) (sym child-whole) child-held

    -- what is so of the child by the digits behind the entry is so of what the entry holds
    child-same : {T : Type 0} (of_child : List ℕ → T) (of_part : List ℕ → What → T) → of_child new ≡ of_part new (node m) →
        of_child (body_above m.level new) ≡ of_part (joined_digits n s known) (what_at (entries n) s.place)
    child-same of_child of_part whole =
        ap of_child child-whole ∙ whole ∙ ap (λ t. of_part t (node m)) made ∙ ap (of_part (joined_digits n s known)) (sym o)

    pub child-rows : (k : ℕ) → k ≡ length (entries m) →
        rows_in w m.level (body_above m.level new) (stretch 0 k (entries m)) ≡ part_rows w (joined_digits n s known)
        (what_at (entries n) s.place)
    child-rows k e = child-same (λ t. rows_in w m.level t (stretch 0 k (entries m))) (part_rows w) (whole-rows w new m k e)

    pub child-nodes : (k : ℕ) → k ≡ length (entries m) →
        nodes_in w m.level (body_above m.level new) (stretch 0 k (entries m)) ≡ part_nodes w (joined_digits n s known)
        (what_at (entries n) s.place)
    child-nodes k e = child-same (λ t. nodes_in w m.level t (stretch 0 k (entries m))) (part_nodes w) (whole-nodes w new m k e)

    pub child-from : (last : List ℕ) → from_place (m.level + 1) last ≡ from_place (m.level + 1) new → from_place (n.level + 1) last ≡ from_place (n.level + 1) known
    child-from last e =
        same_from (m.level + 1) (n.level + 1) last new (omega (arith, child-level)) e ∙ joined-from

-- ---- one entry of a stretch

-- the rows and the nodes of a stretch are those of its first entry and those of the rest, where the digits below the level of the node are of whatever
-- entry was joined last
pub record IsStepped (w d : ℕ) (first now : List ℕ) (n : PlainNode) (s : Spot) (from to : ℕ) : Type 0 where
  pub rows : rows_in w n.level (body_above n.level first) (stretch from to (entries n)) ≡
      part_rows w (joined_digits n s now) (what_at (entries n) s.place) ++ rows_in w n.level (body_above n.level first) (stretch (from + 1) to (entries n))
  pub nodes : length (nodes_in w n.level (body_above n.level first) (stretch from to (entries n))) ≡
      openings (what_at (entries n) s.place) + length (part_nodes w (joined_digits n s now) (what_at (entries n) s.place)) +
      length (nodes_in w n.level (body_above n.level first) (stretch (from + 1) to (entries n)))

pub stepped : (w d : ℕ) (first now : List ℕ) (n : PlainNode) → IsPart w d (body_above n.level first) (node n) →
    from_place (n.level + 1) now ≡ from_place (n.level + 1) first → (s : Spot) → IsSpot (entries n) s → (from to : ℕ) → s.place ≡ from →
    from < to → to ≤ length (entries n) → IsStepped w d first now n s from to
stepped w d first now n h above s at from to place less within =
    let same = same-above n.level now first above in
    let part : IsPart w d (body_above n.level now) (node n) = subst (λ t. IsPart w d t (node n)) (sym same) h in
    let made = joined-behind w d now n part s at (joined_digits n s now) refl ∙
    ap (λ t. behind n.level t (entry_at (entries n) s.place)) same ∙
    ap (λ k. behind n.level (body_above n.level first) (entry_at (entries n) k)) place in
    let held = ap (what_at (entries n)) place in
    record {
      rows = step-rows w n.level from to (body_above n.level first) (joined_digits n s now) (what_at (entries n) s.place) (entries n) less within made held;
      nodes = step-nodes w n.level from to (body_above n.level first) (joined_digits n s now) (what_at (entries n) s.place) (entries n) less within made held;
    }
