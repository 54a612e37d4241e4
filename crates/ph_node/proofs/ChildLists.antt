-- The children of a node in their places, with an edit.
use Rattle.std.proofs.Common.{◌≡◌, ℕ, zero, suc, ◌+◌, ◌<◌, ◌≤◌, List, [], ◌∷◌, take, drop, length, refl, ap, ◌∙◌, arith, Bool, true, false, get_or}
use Rattle.std.specs.List.{insert, remove}
use Rattle.std.specs.Prelude.{if◌then◌else◌}
use Rattle.ph_specs.specs.Node.{PlainNode}
use Rattle.ph_bits.specs.Edits.{edited}
use Rattle.ph_node.specs.OneEdit.{node_at}
use Rattle.ph_node.specs.Children.{nodes_of}
use Rattle.ph_node.specs.declared.node.ChildOf.{ChildOf}

nodes-edited : {P : Type 0} (k less more : ℕ) (s : ChildOf P) (ss : List (ChildOf P)) → nodes_of (edited k less more s ss) ≡ edited k less more s.node (nodes_of ss)
nodes-edited zero zero zero s ss = refl
nodes-edited zero (suc less) zero s [] = refl
nodes-edited zero (suc less) zero s (x ∷ ss) = nodes-edited zero less zero s ss
nodes-edited zero less (suc more) s ss = ap {B = List PlainNode} (λ u. s.node ∷ u) (nodes-edited zero less more s ss)
nodes-edited (suc k) less zero s [] = refl
nodes-edited (suc k) less (suc more) s [] = ap {B = List PlainNode} (λ u. s.node ∷ u) (nodes-edited (suc k) less more s [])
nodes-edited (suc k) less more s (x ∷ ss) = ap {B = List PlainNode} (λ u. x.node ∷ u) (nodes-edited k less more s ss)

insert-edited : {A : Type 0} (xs : List A) (k : ℕ) (x : A) → k ≤ length xs → insert xs k x ≡ edited k 0 1 x xs
insert-edited xs zero x l = refl
insert-edited [] (suc k) x l = absurd (omega (arith, l))
insert-edited (y ∷ ys) (suc k) x l = ap {B = List _} (λ u. y ∷ u) (insert-edited ys k x (omega (arith, l)))

again-edited : {A : Type 0} (xs : List A) (k : ℕ) (x : A) → k < length xs → insert (remove xs k) k x ≡ edited k 1 1 x xs
again-edited [] k x l = absurd (omega (arith, l))
again-edited (y ∷ ys) zero x l = refl
again-edited (y ∷ ys) (suc k) x l = ap {B = List _} (λ u. y ∷ u) (again-edited ys k x (omega (arith, l)))

gone-edited : {A : Type 0} (xs : List A) (k : ℕ) (x : A) → k < length xs → remove xs k ≡ edited k 1 0 x xs
gone-edited [] k x l = absurd (omega (arith, l))
gone-edited (y ∷ ys) zero x l = refl
gone-edited (y ∷ ys) (suc k) x l = ap {B = List _} (λ u. y ∷ u) (gone-edited ys k x (omega (arith, l)))

any-edited : {A : Type 0} (k : ℕ) (x y : A) (xs : List A) → edited k 1 0 x xs ≡ edited k 1 0 y xs
any-edited zero x y xs = refl
any-edited (suc k) x y [] = refl
any-edited (suc k) x y (z ∷ zs) = ap {B = List _} (λ u. z ∷ u) (any-edited k x y zs)

-- a child put in, where one may have been
pub nodes-put : {P : Type 0} (c : Bool) (ss : List (ChildOf P)) (k : ℕ) (s : ChildOf P) → k + (if c then 1 else 0) ≤ length ss
    → nodes_of (insert (if c then remove ss k else ss) k s) ≡ edited k (if c then 1 else 0) 1 s.node (nodes_of ss)
nodes-put true ss k s l = ap nodes_of (again-edited ss k s (omega (arith, l))) ∙ nodes-edited k 1 1 s ss
nodes-put false ss k s l = ap nodes_of (insert-edited ss k s (omega (arith, l))) ∙ nodes-edited k 0 1 s ss

pub nodes-again : {P : Type 0} (ss : List (ChildOf P)) (k : ℕ) (s : ChildOf P) → k < length ss → nodes_of (insert (remove ss k) k s) ≡ edited k 1 1 s.node (nodes_of ss)
nodes-again ss k s l = nodes-put true ss k s (omega (arith, l))

pub nodes-gone : {P : Type 0} (ss : List (ChildOf P)) (k : ℕ) (s : ChildOf P) (n : PlainNode) → k < length ss → nodes_of (remove ss k) ≡ edited k 1 0 n (nodes_of ss)
nodes-gone ss k s n l = ap nodes_of (gone-edited ss k s l) ∙ nodes-edited k 1 0 s ss ∙ any-edited k s.node n (nodes_of ss)

-- and the one that was there
pub nodes-taken : {P : Type 0} (c : Bool) (ss : List (ChildOf P)) (k : ℕ) →
    nodes_of (if c then take 1 (drop k ss) else []) ≡ take (if c then 1 else 0) (drop k (nodes_of ss))
nodes-taken false ss k = zero-of (drop k (nodes_of ss))
  where
    zero-of : (ns : List PlainNode) → [] ≡ take 0 ns
    zero-of ns = refl
nodes-taken true [] zero = refl
nodes-taken true [] (suc k) = refl
nodes-taken true (s ∷ ss) zero = refl
nodes-taken true (s ∷ ss) (suc k) = nodes-taken true ss k

remove-keeps : {A : Type 0} (xs : List A) (k : ℕ) → k < length xs → k ≤ length (remove xs k)
remove-keeps [] k l = absurd (omega (arith, l))
remove-keeps (x ∷ xs) zero l = omega arith
remove-keeps (x ∷ xs) (suc k) l = omega (arith, remove-keeps xs k (omega (arith, l)))

pub place-left : {A : Type 0} (c : Bool) (xs : List A) (k : ℕ) → k + (if c then 1 else 0) ≤ length xs → k ≤ length (if c then remove xs k else xs)
place-left true xs k l = remove-keeps xs k (omega (arith, l))
place-left false xs k l = omega (arith, l)

pub at-child : {P : Type 0} (ss : List (ChildOf P)) (k : ℕ) (s : ChildOf P) → k < length ss → s ≡ get_or ss k s → s.node ≡ node_at (nodes_of ss) k
at-child [] k s l e = absurd (omega (arith, l))
at-child (x ∷ ss) zero s l e = ap (λ u. u.node) e
at-child (x ∷ ss) (suc k) s l e = at-child ss k s (omega (arith, l)) e
