-- Two parts of trees that meet: what is listed, and how many nodes are opened for that.
use Rattle.std.specs.Prelude.{◌≡◌, ℕ, ◌+◌, ◌≤◌, Bool, true, false, not, List, [], Option, Some, None}
use Rattle.ph_specs.specs.TreeRows.{rows}
use Rattle.ph_specs.specs.Node.{PlainNode}
use Rattle.ph_model.specs.EntryList.{What}
use Rattle.ph_model.specs.PutTree.{digits_from}
use Rattle.ph_specs.specs.Table.{Row}
use Rattle.ph_specs.specs.WorkSets.{Placed, placed}
use Rattle.ph_digits.specs.Differences.{IsTopDifference}
use Rattle.ph_model.specs.Combined.{combined, seen_nodes}
use Rattle.ph_set.specs.Held.{part_digits, part_what, nodes_held}
use Rattle.ph_set.specs.Parts.{height, part_rows, part_nodes}
use Rattle.ph_set.specs.declared.part.PartOf.{PartOf}
use Rattle.ph_set.specs.declared.plan.Plan.{Plan}

-- what a plan keeps of two tables, and how many nodes it opens below two trees for that
abbrev pub kept : Plan → List Row → List Row → List Row
kept p xs ys = combined p.width p.left p.both p.right xs ys

abbrev pub work : Plan → List Row → List Placed → List Row → List Placed → ℕ
work p xs ns ys ms = seen_nodes p.width p.left ys ns + seen_nodes p.width p.right xs ms

-- whether the rows are kept that one tree alone has: the left one, or the right one
abbrev pub alone : Plan → Bool → Bool
alone p true = p.left
alone p false = p.right

-- what a plan keeps of a table of that tree and one of the other, and how many nodes it opens for that
abbrev pub kept_by : Plan → Bool → List Row → List Row → List Row
kept_by p true xs ys = kept p xs ys
kept_by p false xs ys = kept p ys xs

abbrev pub work_by : Plan → Bool → List Row → List Placed → List Row → List Placed → ℕ
work_by p left xs ns ys ms = seen_nodes p.width (alone p left) ys ns + seen_nodes p.width (alone p (not left)) xs ms

-- the same of two trees
abbrev pub kept_trees : Plan → ℕ → Option PlainNode → Option PlainNode → List Row
kept_trees p d a b = kept p (rows p.width d a) (rows p.width d b)

abbrev pub work_trees : Plan → ℕ → Option PlainNode → Option PlainNode → ℕ
work_trees p d a b = work p (rows p.width d a) (placed p.width d a) (rows p.width d b) (placed p.width d b)

-- the same of two parts, by the digits that are known of each and what it holds
abbrev pub kept_of : Plan → List ℕ → What → List ℕ → What → List Row
kept_of p ds o es q = kept p (part_rows p.width ds o) (part_rows p.width es q)

abbrev pub work_of : Plan → List ℕ → What → List ℕ → What → ℕ
work_of p ds o es q =
    work p (part_rows p.width ds o) (part_nodes p.width ds o) (part_rows p.width es q) (part_nodes p.width es q)

abbrev pub kept_of_by : Plan → Bool → List ℕ → What → List ℕ → What → List Row
kept_of_by p left ds o es q = kept_by p left (part_rows p.width ds o) (part_rows p.width es q)

abbrev pub work_of_by : Plan → Bool → List ℕ → What → List ℕ → What → ℕ
work_of_by p left ds o es q =
    work_by p left (part_rows p.width ds o) (part_nodes p.width ds o) (part_rows p.width es q) (part_nodes p.width es q)

-- the same of two parts in memory
abbrev pub kept_parts : Plan → ℕ → PartOf PlainNode → PartOf PlainNode → List Row
kept_parts p d x y = kept_of p (part_digits d x) (part_what x) (part_digits d y) (part_what y)

abbrev pub work_parts : Plan → ℕ → PartOf PlainNode → PartOf PlainNode → ℕ
work_parts p d x y = work_of p (part_digits d x) (part_what x) (part_digits d y) (part_what y)

abbrev pub kept_parts_by : Plan → Bool → ℕ → PartOf PlainNode → PartOf PlainNode → List Row
kept_parts_by p left d x y = kept_of_by p left (part_digits d x) (part_what x) (part_digits d y) (part_what y)

abbrev pub work_parts_by : Plan → Bool → ℕ → PartOf PlainNode → PartOf PlainNode → ℕ
work_parts_by p left d x y = work_of_by p left (part_digits d x) (part_what x) (part_digits d y) (part_what y)

-- and how many below two parts where no region below the one holds a point of the other
abbrev pub apart_parts_by : Plan → Bool → ℕ → PartOf PlainNode → PartOf PlainNode → ℕ
apart_parts_by p left d x y =
    seen_nodes p.width (alone p left) [] (nodes_held p.width d x) + seen_nodes p.width (alone p (not left)) [] (nodes_held p.width d y)

-- the greatest place at which digits differ, where it is known of both; else they are the same from where both are known on
abbrev pub IsParting : ℕ → ℕ → List ℕ → List ℕ → Option ℕ → Type 0
IsParting high low ds es None = (k : ℕ) → high ≤ k → low ≤ k → digits_from k ds ≡ digits_from k es
IsParting high low ds es (Some place) = IsTopDifference ds es place × (high ≤ place) × (low ≤ place)

abbrev pub IsPartingOf : ℕ → PartOf PlainNode → PartOf PlainNode → Option ℕ → Type 0
IsPartingOf d x y place = IsParting (height (part_what x)) (height (part_what y)) (part_digits d x) (part_digits d y) place
