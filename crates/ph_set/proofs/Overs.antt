-- A node over a lower part: what is listed, and how many nodes it opens there.
use Rattle.std.proofs.Common.{◌≡◌, ℕ, ◌+◌, ◌≤◌, Bool, List, [], ◌++◌, length, refl, sym, ◌∙◌, ap, subst, arith}
use Rattle.std.specs.Prelude.{Some, None, not, position, take}
use Rattle.std.specs.List.{AllByRecursion as Each}
use Rattle.ph_model.specs.EntryEdits.{what_at, has_address}
use Rattle.ph_specs.specs.Table.{Row}
use Rattle.ph_specs.specs.Node.{PlainNode}
use Rattle.ph_model.specs.EntryList.{Entry, What, node, entries}
use Rattle.ph_model.specs.PutTree.{body_address}
use Rattle.ph_specs.specs.Shape.{row_address}
use Rattle.ph_specs.specs.WorkSets.{Placed}
use Rattle.ph_model.proofs.lemmas.Joined.{from_place}
use Rattle.ph_model.proofs.laws.EntryEdits.{address-found}
use Rattle.ph_node.specs.Merge.{addr_at}
use Rattle.ph_node.specs.Places.{place_for}
use Rattle.ph_node.specs.Spots.{IsSpot, joined_digits}
use Rattle.ph_node.specs.declared.spots.Spot.{Spot}
use Rattle.ph_model.specs.Combined.{chosen, seen_nodes}
use Rattle.ph_set.specs.Meeting.{alone, kept_by, kept_of_by, work_of_by}
use Rattle.ph_set.specs.declared.plan.Plan.{Plan}
use Rattle.ph_set.specs.Parts.{IsPart, height, openings, part_rows, part_nodes, stretch_rows, stretch_nodes, behind}
use Rattle.ph_set.proofs.Descending.{rising, over-rows, over-front, over-back, over-work, none-rows, none-front, none-back, none-work, none-other}
use Rattle.ph_set.proofs.Parting.{IsRowAt, part-at, part-some}
use Rattle.ph_set.proofs.Missed.{part-missed}
use Rattle.ph_set.proofs.Sights.{AreMissed}
use Rattle.ph_set.proofs.LeftOrRight.{beside-none, sandwich}
use Rattle.ph_set.proofs.Walking.{entry_at, entry-there, new-digits, new-held, IsCut, cut-place}
use Rattle.ph_set.proofs.Meetings.{body-number}

-- an entry that was looked up by its address
pub spot-address : (a : ℕ) (es : List Entry) (s : Spot) → IsSpot es s → Some s.place ≡ position (has_address a) es → addr_at es s.place ≡ a
spot-address a es s h e = address-found a s.place es (entry_at es s.place) (sym e) (entry-there es s.place h.within)

-- a node and a lower part whose digits agree above it, with the address of the part in the node
pub record IsOver (w d : ℕ) (ds : List ℕ) (n : PlainNode) (dy : List ℕ) (oy : What) (a : ℕ) : Type 0 where
  pub whole : IsPart w d ds (node n)
  pub part : IsPart w d dy oy
  pub low : height oy ≤ n.level
  pub agree : from_place (n.level + 1) dy ≡ from_place (n.level + 1) ds
  pub at : a ≡ body_address n.level dy

-- the same where the level of the node and the number of dimensions were read
pub over-by : (d : ℕ) (known : List ℕ) {w level dims a : ℕ} {ds : List ℕ} {n : PlainNode} {oy : What}
    → IsPart w d ds (node n) → IsPart w d (take d known) oy → height oy ≤ n.level
    → from_place (n.level + 1) (take d known) ≡ from_place (n.level + 1) ds
    → level ≡ n.level → dims ≡ d → a ≡ body_address level (take dims known) → IsOver w d ds n (take d known) oy a
over-by d known {level = level} {a = a} whole part low agree at-level at-dims at =
    record {
      whole = whole;
      part = part;
      low = low;
      agree = agree;
      at = subst (λ k. a ≡ body_address k (take d known)) at-level (subst (λ k. a ≡ body_address level (take k known)) at-dims at);
    }

module _ (p : Plan) (left : Bool) {d : ℕ} {ds : List ℕ} {n : PlainNode} {dy : List ℕ} {oy : What} {a : ℕ} (over : IsOver p.width d ds n dy oy a) where
  abbrev theirs : List Row
  theirs = part_rows p.width dy oy

  abbrev their-nodes : List Placed
  their-nodes = part_nodes p.width dy oy

  abbrev seen : Bool → List Row → List Placed → ℕ
  seen keep rs xs = seen_nodes p.width keep rs xs

  abbrev rows-between : ℕ → ℕ → List Row
  rows-between i j = stretch_rows p.width n ds i j

  abbrev nodes-between : ℕ → ℕ → List Placed
  nodes-between i j = stretch_nodes p.width n ds i j

  theirs-at : Each (IsRowAt p.width n.level a ds) theirs
  theirs-at =
      subst (λ b. Each (IsRowAt p.width n.level b ds) theirs) (sym (body-number 0 n.level dy) ∙ sym over.at)
      (part-at p.width d n.level ds dy oy over.part over.low over.agree)

  -- rows at other addresses lie in none of their nodes
  theirs-away : (rows : List Row) → Each (λ r. row_address p.width n.level r ≡ a → ⊥) rows → AreMissed p.width their-nodes rows
  theirs-away rows other =
      part-missed p.width d n.level dy oy over.part over.low rows
      (subst (λ b. Each (λ r. row_address p.width n.level r ≡ b → ⊥) rows) (over.at ∙ body-number 0 n.level dy) other)

  theirs-some : 1 ≤ length theirs
  theirs-some = part-some p.width d dy oy over.part

  -- an entry has the address
  module _ {s : Spot} {new : List ℕ} {o : What} {end : ℕ} (there : IsSpot (entries n) s) (found : Some s.place ≡ position (has_address a) (entries n))
      (made : new ≡ joined_digits n s ds) (held : o ≡ what_at (entries n) s.place) (last : end ≡ length (entries n)) where
    abbrev it : Entry
    it = entry_at (entries n) s.place

    abbrev its-rows : List Row
    its-rows = part_rows p.width (behind n.level ds it) it.what

    digits-are : new ≡ behind n.level ds it
    digits-are = new-digits p.width d ds n over.whole s s.place refl there new o made held

    held-is : o ≡ it.what
    held-is = new-held p.width d ds n over.whole s s.place refl there new o made held

    rows-are : part_rows p.width new o ≡ its-rows
    rows-are = ap (λ x. part_rows p.width x o) digits-are ∙ ap (part_rows p.width (behind n.level ds it)) held-is

    nodes-are : part_nodes p.width new o ≡ part_nodes p.width (behind n.level ds it) it.what
    nodes-are = ap (λ x. part_nodes p.width x o) digits-are ∙ ap (part_nodes p.width (behind n.level ds it)) held-is

    address-is : addr_at (entries n) s.place ≡ a
    address-is = spot-address a (entries n) s there found

    pub over-found : kept_of_by p left ds (node n) dy oy
        ≡ chosen (alone p left) (rows-between 0 s.place) ++ (kept_of_by p left new o dy oy ++ chosen (alone p left) (rows-between (s.place + 1) end))
    over-found =
        let i = s.place in
        let front = rows-between 0 i in
        let back = rows-between (i + 1) (length (entries n)) in
        ap (λ x. kept_by p left x theirs) (over-rows p.width d ds n over.whole a theirs theirs-at i there.within address-is theirs-some)
        ∙ sandwich p left front its-rows back theirs
        (over-front p.width d ds n over.whole a theirs theirs-at i there.within address-is theirs-some)
        (over-back p.width d ds n over.whole a theirs theirs-at i there.within address-is theirs-some)
        ∙ ap (λ x. chosen (alone p left) front ++ (kept_by p left x theirs ++ chosen (alone p left) back)) (sym rows-are)
        ∙ ap (λ k. chosen (alone p left) front ++ (kept_of_by p left new o dy oy ++ chosen (alone p left) (rows-between (i + 1) k))) (sym last)

    -- the nodes that are opened on the way
    pub found-cost : seen (alone p left) [] (nodes-between 0 s.place) + (openings (what_at (entries n) s.place) + work_of_by p left new o dy oy)
        + seen (alone p left) [] (nodes-between (s.place + 1) end)
        ≡ work_of_by p left ds (node n) dy oy
    found-cost =
        let mine = alone p left in
        let other = alone p (not left) in
        let z = over-work p.width d ds n over.whole a theirs theirs-at s.place there.within address-is theirs-some (alone p left) (alone p (not left)) their-nodes theirs-away in
        let u : seen mine theirs (part_nodes p.width new o) ≡ seen mine theirs (part_nodes p.width (behind n.level ds it) it.what) =
        ap (seen mine theirs) nodes-are in
        let v : seen other (part_rows p.width new o) their-nodes ≡ seen other its-rows their-nodes =
        ap (λ x. seen other x their-nodes) rows-are in
        let e : seen mine [] (nodes-between (s.place + 1) end) ≡ seen mine [] (nodes-between (s.place + 1) (length (entries n))) =
        ap (λ k. seen mine [] (nodes-between (s.place + 1) k)) last in
        omega (arith, z, u, v, e)

  -- no entry has it
  module _ {i end : ℕ} (absent : None ≡ position (has_address a) (entries n)) (place : i ≡ place_for a (entries n)) (last : end ≡ length (entries n)) where
    cut : IsCut a i (entries n)
    cut = cut-place a i 0 (entries n) (rising p.width d ds n over.whole) absent place

    pub none-place : i ≤ length (entries n)
    none-place = cut.within

    pub over-missed : kept_of_by p left ds (node n) dy oy
        ≡ chosen (alone p left) (rows-between 0 i) ++ (chosen (alone p (not left)) theirs ++ chosen (alone p left) (rows-between i end))
    over-missed =
        ap (λ x. kept_by p left x theirs) (none-rows p.width d ds n over.whole a theirs theirs-at i cut)
        ∙ sandwich p left (rows-between 0 i) [] (rows-between i (length (entries n))) theirs
        (none-front p.width d ds n over.whole a theirs theirs-at i cut) (none-back p.width d ds n over.whole a theirs theirs-at i cut)
        ∙ ap (λ t. chosen (alone p left) (rows-between 0 i) ++ (t ++ chosen (alone p left) (rows-between i (length (entries n))))) (beside-none p left theirs)
        ∙ ap (λ k. chosen (alone p left) (rows-between 0 i) ++ (chosen (alone p (not left)) theirs ++ chosen (alone p left) (rows-between i k))) (sym last)

    pub missed-cost : seen (alone p left) [] (nodes-between 0 i) + seen (alone p (not left)) [] their-nodes + seen (alone p left) [] (nodes-between i end)
        ≡ work_of_by p left ds (node n) dy oy
    missed-cost =
        let mine = alone p left in
        let other = alone p (not left) in
        let z = none-work p.width d ds n over.whole a theirs theirs-at i cut (alone p left) in
        let b : seen other (part_rows p.width ds (node n)) their-nodes ≡ seen other [] their-nodes =
        none-other p.width d ds n over.whole a theirs theirs-at i cut other their-nodes theirs-away in
        let e : seen mine [] (nodes-between i end) ≡ seen mine [] (nodes-between i (length (entries n))) =
        ap (λ k. seen mine [] (nodes-between i k)) last in
        omega (arith, z, b, e)
