-- A lawful tree is the shape of its rows, by induction over levels.
use Rattle.std.proofs.Common.{◌≡◌, inl, inr, ℕ, zero, suc, ◌+◌, ◌-◌, ◌^◌, ◌<◌, ◌≤◌, refl, sym, ◌∙◌, ap, subst, arith, List}
use Rattle.std.proofs.Common.{[], ◌∷◌, ◌++◌, length, map, replicate, Bool, true, false, eq-eqb, ne_eqb, ◌≢◌}
use Rattle.std.proofs.Math.Nat.{eq-or-lt_of_le, zero-mod}
use Rattle.std.proofs.lemmas.List.{append-nil, length-replicate}
use Rattle.std.specs.Prelude.{ℤ, ◌==◌, Option, Some, None}
use Rattle.std.specs.List.{AllByRecursion as Each}
use Rattle.ph_specs.specs.Coordinate.{coordinate}
use Rattle.ph_specs.specs.Table.{Row, row}
use Rattle.ph_specs.specs.Node.{Entries, end, point, child, PlainNode}
use Rattle.ph_specs.specs.Shape.{Group, row_address, digits_below, digits_between, put_in_front, groups, entry_of, entries_of, node_at, is_one_group, node_below, shape}
use Rattle.ph_specs.specs.TreeRows.{put_together, rows_behind, rows, count}
use Rattle.ph_model.specs.Lawful.{HasZerosFrom, IsLawfulFrom, IsLawful, IsAbove}
use Rattle.ph_model.proofs.lemmas.Joined.{number_at, above-child}
use Rattle.ph_specs.proofs.lemmas.Members.{Each-each}
use Rattle.ph_model.proofs.lemmas.RowsBehind.{rows-under, under-address, point-address, child-addresses, addresses-from, point-body, child-bodies, count-rows}

-- ---- groups

abbrev group : Row → List Row → Group
group r more = record { first = r; others = more }

-- the first group begins with the first row
groups_first : (w b : ℕ) (r : Row) (rs : List Row) → (more : List Row) × (gs : List Group) × (groups w b (r ∷ rs) ≡ group r more ∷ gs)
groups_first w b r rs = front (groups w b rs)
  where
    join : (same : Bool) (g : Group) (gs : List Group) → (more : List Row) × (hs : List Group) ×
        (◌≡◌ {A = List Group} (elim same [ true ↦ group r (g.first ∷ g.others) ∷ gs | false ↦ group r [] ∷ g ∷ gs ])
        (group r more ∷ hs))
    join true g gs = (g.first ∷ g.others, gs, refl)
    join false g gs = ([], g ∷ gs, refl)

    front : (gs : List Group) → (more : List Row) × (hs : List Group) × (put_in_front w b r gs ≡ group r more ∷ hs)
    front [] = ([], [], refl)
    front (g ∷ gs) = join (row_address w b r == row_address w b g.first) g gs

abbrev joined_or_not : Row → Group → List Group → Bool → List Group
joined_or_not r g gs same = elim same [ true ↦ group r (g.first ∷ g.others) ∷ gs | false ↦ group r [] ∷ g ∷ gs ]

-- a row whose address the next one does not have is a group
alone : (w b : ℕ) (r : Row) (rs : List Row) → Each (λ s. row_address w b r ≢ row_address w b s) rs → groups w b (r ∷ rs) ≡ group r [] ∷ groups w b rs
alone w b r [] h = refl
alone w b r (s ∷ rs) h =
    let f : (more : List Row) × (gs : List Group) × (groups w b (s ∷ rs) ≡ group s more ∷ gs) = groups_first w b s rs in
    let t : (row_address w b r == row_address w b s) ≡ false = ne_eqb (row_address w b r) (row_address w b s) h.0 in
    ap (put_in_front w b r) f.2 ∙ ap (joined_or_not r (group s f.0) f.1) t ∙ sym (ap {B = List Group} (λ gs. group r [] ∷ gs) f.2)

-- rows of one address are a group, where the next row has another
together : (w b a : ℕ) (r : Row) (more rest : List Row) → Each (λ s. row_address w b s ≡ a) (r ∷ more) →
    Each (λ s. a ≢ row_address w b s) rest → groups w b ((r ∷ more) ++ rest) ≡ group r more ∷ groups w b rest
together w b a r [] rest h k =
    alone w b r rest (subst (λ n. Each (λ s. n ≢ row_address w b s) rest) (sym h.0) k)
together w b a r (s ∷ more) rest h k =
    let t : (row_address w b r == row_address w b s) ≡ true = eq-eqb (row_address w b r) (row_address w b s) (h.0 ∙ sym h.1.0) in
    ap (put_in_front w b r) (together w b a s more rest h.1 k) ∙ ap (joined_or_not r (group s more) (groups w b rest)) t

-- ---- entries

-- what gives the children of a node at a level gives back each lawful one
abbrev pub GivesBack : ℕ → ℕ → ℕ → (List Row → PlainNode) → Type 0
GivesBack w dims b below =
    (c : ℕ) (known : List ℕ) (chain : Entries) → c < b → IsAbove dims c known → IsLawfulFrom dims c 0 chain →
    2 ≤ count chain → below (rows_behind w c known chain) ≡ record { level = c; chain = chain }

child_entry : (w b a c : ℕ) (body : List ℕ) (below : List Row → PlainNode) (chain : Entries) (rs rest : List Row) →
    2 ≤ length rs → Each (λ r. row_address w b r ≡ a) rs → Each (λ r. digits_between w b c r.point ≡ body) rs →
    below rs ≡ record { level = c; chain = chain } → Each (λ s. a ≢ row_address w b s) rest →
    entries_of w b below (groups w b (rs ++ rest)) ≡ child a body c chain (entries_of w b below (groups w b rest))
child_entry w b a c body below chain [] rest l h k e n = absurd (omega (arith, l))
child_entry w b a c body below chain (r ∷ []) rest l h k e n = absurd (omega (arith, l))
child_entry w b a c body below chain (r ∷ s ∷ more) rest l h k e n =
    let X : Entries = entries_of w b below (groups w b rest) in
    ap (entries_of w b below) (together w b a r (s ∷ more) rest h n) ∙
    ap {B = Entries} (λ m. child (row_address w b r) (digits_between w b m.level r.point) m.level m.chain
    (entries_of w b below (groups w b rest))) e ∙
    ap {B = Entries} (λ t. child t (digits_between w b c r.point) c chain
    (entries_of w b below (groups w b rest))) h.0 ∙
    ap {B = Entries} (λ t. child a t c chain (entries_of w b below (groups w b rest))) k.0

pub entries-unique : (w dims b least : ℕ) (above : List ℕ) (below : List Row → PlainNode) (e : Entries) →
    IsAbove dims b above → IsLawfulFrom dims b least e → GivesBack w dims b below →
    entries_of w b below (groups w b (rows_behind w b above e)) ≡ e
entries-unique w dims b least above below end h k g = refl
entries-unique w dims b least above below (point a body v rest) h k g =
    let p : List ℤ = map (coordinate w) (put_together b a above body) in
    let e : row_address w b (row p v) ≡ a = point-address w dims b a v above body h k.2 k.1 in
    let n : Each (λ s. row_address w b (row p v) ≢ row_address w b s) (rows_behind w b above rest) =
    Each-each (rows_behind w b above rest) (λ s l q. omega (arith, l, e, q))
    (addresses-from w dims b (a + 1) above rest h k.3) in
    ap (entries_of w b below) (alone w b (row p v) (rows_behind w b above rest) n) ∙
    ap {B = Entries} (λ t. point t (digits_below w b p) v
    (entries_of w b below (groups w b (rows_behind w b above rest)))) e ∙
    ap {B = Entries} (λ t. point a t v (entries_of w b below (groups w b (rows_behind w b above rest))))
    (point-body w dims b a above body h k.2) ∙ ap {B = Entries} (λ t. point a body v t)
    (entries-unique w dims b (a + 1) above below rest h k.3 g)
entries-unique w dims b least above below (child a body c chain rest) h k g =
    let known : List ℕ = put_together b a above body in
    let i : IsAbove dims c (put_together b a above body) = above-child dims b c a above body k.3 h k.2 k.4 in
    child_entry w b a c body below chain (rows_behind w c known chain) (rows_behind w b above rest)
    (omega (arith, k.5, count-rows w dims c 0 known chain k.6))
    (child-addresses w dims b a c above body chain h k.2 k.1 k.3 k.4 k.6)
    (child-bodies w dims b a c above body chain h k.2 k.3 k.4 k.6)
    (g c known chain k.3 i k.6 k.5)
    (Each-each (rows_behind w b above rest) (λ s l q. omega (arith, l, q)) (addresses-from w dims b (a + 1) above rest h k.7))
    ∙ ap {B = Entries} (λ t. child a body c chain t) (entries-unique w dims b (a + 1) above below rest h k.7 g)

-- ---- levels

count-entry_of : (w b : ℕ) (below : List Row → PlainNode) (r : Row) (others : List Row) (rest : Entries) →
    count (entry_of w b below (group r others) rest) ≡ suc (count rest)
count-entry_of w b below r [] rest = refl
count-entry_of w b below r (s ∷ more) rest = refl

pub count-entries_of : (w b : ℕ) (below : List Row → PlainNode) (gs : List Group) → count (entries_of w b below gs) ≡ length gs
count-entries_of w b below [] = refl
count-entries_of w b below (g ∷ gs) =
    count-entry_of w b below g.first g.others (entries_of w b below gs) ∙ ap suc (count-entries_of w b below gs)

not_one : (gs : List Group) → 2 ≤ length gs → is_one_group gs ≡ false
not_one [] h = refl
not_one (g ∷ []) h = absurd (omega (arith, h))
not_one (g ∷ g' ∷ gs) h = refl

one_of_many : (w b a : ℕ) (rs : List Row) → 1 ≤ length rs → Each (λ r. row_address w b r ≡ a) rs → is_one_group (groups w b rs) ≡ true
one_of_many w b a [] l h = absurd (omega (arith, l))
one_of_many w b a (r ∷ more) l h =
    ap (λ t. is_one_group (groups w b t)) (sym (append-nil (r ∷ more))) ∙ ap is_one_group (together w b a r more [] h tt)

-- at the level of the rows they are not one group
split_here : (w dims c : ℕ) (known : List ℕ) (chain : Entries) → IsAbove dims c known → IsLawfulFrom dims c 0 chain →
    2 ≤ count chain → GivesBack w dims c (node_below w c) → node_below w (suc c) (rows_behind w c known chain) ≡
    record { level = c; chain = chain }
split_here w dims c known chain i k l g =
    let rs : List Row = rows_behind w c known chain in
    let u : entries_of w c (node_below w c) (groups w c (rows_behind w c known chain)) ≡ chain = entries-unique w dims c 0 known (node_below w c) chain i k g in
    let n : 2 ≤ length (groups w c (rows_behind w c known chain)) =
    omega (arith, l, count-entries_of w c (node_below w c) (groups w c (rows_behind w c known chain)), ap count u) in
    ap {B = PlainNode} (λ t. elim t [ true ↦ node_below w c rs | false ↦ node_at w c (node_below w c) rs ])
    (not_one (groups w c rs) n) ∙ ap {B = PlainNode} (λ t. record { level = c; chain = t }) u

-- above it they are
split_lower : (w dims c place : ℕ) (known : List ℕ) (chain : Entries) → c < place → IsAbove dims c known →
    IsLawfulFrom dims c 0 chain → 2 ≤ count chain → node_below w (suc place) (rows_behind w c known chain) ≡
    node_below w place (rows_behind w c known chain)
split_lower w dims c place known chain l i k m =
    let rs : List Row = rows_behind w c known chain in
    let same : Each (λ r. row_address w place r ≡ number_at 0 place known) (rows_behind w c known chain) =
    Each-each (rows_behind w c known chain) (λ r u. under-address w (c + 1) place known r (omega (arith, l)) u)
    (rows-under w dims c 0 known chain i k) in
    ap {B = PlainNode} (λ t. elim t
    [ true ↦ node_below w place rs | false ↦ node_at w place (node_below w place) rs ])
    (one_of_many w place (number_at 0 place known) rs (omega (arith, m, count-rows w dims c 0 known chain k)) same)

pub below-unique : (w dims place : ℕ) → GivesBack w dims place (node_below w place)
below-unique w dims zero c known chain l i k m = absurd (omega (arith, l))
below-unique w dims (suc place) c known chain l i k m =
    let le : c ≤ place = omega (arith, l) in
    elim (eq-or-lt_of_le le) [
      | inr h ↦ split_lower w dims c place known chain h i k m ∙ below-unique w dims place c known chain h i k m
      | inl e ↦ subst (λ p. node_below w (suc p) (rows_behind w c known chain) ≡ record { level = c; chain = chain })
          e (split_here w dims c known chain i k m
          (subst (λ p. GivesBack w dims p (node_below w p)) (sym e) (below-unique w dims place)))
    ]

-- ---- the law

pub zeros_known : (level n : ℕ) → HasZerosFrom level (replicate n 0)
zeros_known level zero = tt
zeros_known level (suc n) = (zero-mod (2 ^ (level + 1)), zeros_known level n)

-- a lawful tree is the shape of its rows
pub shape-rows : (w dims : ℕ) (t : Option PlainNode) → IsLawful w dims t → shape w (rows w dims t) ≡ t
shape-rows w dims None h = refl
shape-rows w dims (Some n) h =
    let i : IsAbove dims n.level (replicate dims 0) = record { long = length-replicate dims 0; zeros = zeros_known n.level dims } in
    let u : entries_of w n.level (node_below w n.level)
    (groups w n.level (rows_behind w n.level (replicate dims 0) n.chain)) ≡ n.chain =
    entries-unique w dims n.level 0 (replicate dims 0) (node_below w n.level) n.chain i h.2 (below-unique w dims n.level) in
    at_root (rows_behind w n.level (replicate dims 0) n.chain)
    (omega (arith, h.1, count-rows w dims n.level 0 (replicate dims 0) n.chain h.2)) ∙
    ap {B = Option PlainNode} (λ b. Some
    (node_at w b (node_below w b) (rows_behind w n.level (replicate dims 0) n.chain))) (sym h.0) ∙
    ap {B = Option PlainNode} (λ c. Some (record { level = n.level; chain = c })) u
  where
    at_root : (rs : List Row) → 1 ≤ length rs → shape w rs ≡ Some (node_at w (w - 1) (node_below w (w - 1)) rs)
    at_root [] l = absurd (omega (arith, l))
    at_root (r ∷ rs) l = refl
