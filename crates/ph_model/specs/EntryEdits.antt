-- Edits of a list of entries.
use Rattle.std.specs.Prelude.{ℕ, zero, suc, ◌-◌, ◌==◌, Bool, List, [], ◌∷◌, cond, nat_lt}
use Rattle.ph_specs.specs.Node.{PlainNode}
use Rattle.ph_model.specs.EntryList.{Entry, What, value, node, node_of, entries}

-- ---- reading

-- whether an entry is at an address
abbrev pub has_address : ℕ → Entry → Bool
has_address a e = e.addr == a

-- what entry i holds
abbrev pub what_at : List Entry → ℕ → What
what_at [] i = value 0
what_at (x ∷ xs) zero = x.what
what_at (x ∷ xs) (suc i) = what_at xs i

-- what the other of two entries holds
abbrev pub other_what : What → ℕ → What
other_what (value v) j = value v
other_what (node n) j = what_at (entries n) (1 - j)

-- ---- an entry more, an entry with other contents

abbrev pub point_entry : ℕ → List ℕ → ℕ → Entry
point_entry a body v = record { addr = a; body = body; what = value v }

-- an entry in its place by address
abbrev pub inserted : Entry → List Entry → List Entry
inserted e [] = e ∷ []
inserted e (x ∷ xs) = cond (nat_lt e.addr x.addr) (e ∷ x ∷ xs) (x ∷ inserted e xs)

abbrev pub holding : Entry → What → Entry
holding e w = record { addr = e.addr; body = e.body; what = w }

-- the entries with what entry i holds replaced
abbrev pub with_what : List Entry → ℕ → What → List Entry
with_what [] i w = []
with_what (x ∷ xs) zero w = holding x w ∷ xs
with_what (x ∷ xs) (suc i) w = x ∷ with_what xs i w

-- the entries with the body of entry i and what it holds replaced
abbrev pub with_content : List Entry → ℕ → List ℕ → What → List Entry
with_content [] i body w = []
with_content (x ∷ xs) zero body w = record { addr = x.addr; body = body; what = w } ∷ xs
with_content (x ∷ xs) (suc i) body w = x ∷ with_content xs i body w

-- the node with the child of entry i replaced
abbrev pub with_child : PlainNode → ℕ → PlainNode → PlainNode
with_child n i w = node_of n.level (with_what (entries n) i (node w))

-- what an entry is once it is a child at this level that holds what it held, by this address and body, and a new entry
abbrev pub parted : Entry → ℕ → List ℕ → ℕ → List ℕ → Entry → Entry
parted e level shared a body new =
    record { addr = e.addr; body = shared; what = node (node_of level (inserted new (record { addr = a; body = body; what = e.what } ∷ []))) }

-- the entries with entry i split
abbrev pub split_at : List Entry → ℕ → ℕ → List ℕ → ℕ → List ℕ → Entry → List Entry
split_at [] i level shared a body new = []
split_at (x ∷ xs) zero level shared a body new = parted x level shared a body new ∷ xs
split_at (x ∷ xs) (suc i) level shared a body new = x ∷ split_at xs i level shared a body new

-- ---- an entry less

-- the entries without entry i
abbrev pub without : List Entry → ℕ → List Entry
without [] i = []
without (x ∷ xs) zero = xs
without (x ∷ xs) (suc i) = x ∷ without xs i

-- the entries with child i, a node of two entries, replaced by what its entry other than entry j holds
abbrev pub merged : List Entry → ℕ → ℕ → List ℕ → List Entry
merged [] i j body = []
merged (x ∷ xs) zero j body = record { addr = x.addr; body = body; what = other_what x.what j } ∷ xs
merged (x ∷ xs) (suc i) j body = x ∷ merged xs i j body
