-- Children that are put in one by one, each before the others, and are turned about at the end.
use Rattle.std.proofs.Common.{◌≡◌, List, [], ◌∷◌, ◌++◌, length, reverse, suc, refl, ◌∙◌, ap}
use Rattle.std.proofs.lemmas.List.{reverse-append, length-reverse}
use Rattle.ph_specs.specs.Node.{PlainNode}
use Rattle.ph_node.specs.declared.node.ChildOf.{ChildOf}
use Rattle.ph_node.specs.Children.{nodes_of}

nodes-last : {P : Type 0} (ss : List (ChildOf P)) (s : ChildOf P) → nodes_of (ss ++ s ∷ []) ≡ nodes_of ss ++ s.node ∷ []
nodes-last [] s = refl
nodes-last (r ∷ ss) s = ap {B = List PlainNode} (λ t. r.node ∷ t) (nodes-last ss s)

-- the one that is put in before the others comes last
pub nodes-first : {P : Type 0} (s : ChildOf P) (ss : List (ChildOf P)) → nodes_of (reverse (s ∷ ss)) ≡ nodes_of (reverse ss) ++ s.node ∷ []
nodes-first s ss = ap nodes_of (reverse-append (s ∷ []) ss) ∙ nodes-last (reverse ss) s

pub nodes-long : {P : Type 0} (ss : List (ChildOf P)) → length (nodes_of ss) ≡ length ss
nodes-long [] = refl
nodes-long (s ∷ ss) = ap suc (nodes-long ss)

pub nodes-turned : {P : Type 0} (ss : List (ChildOf P)) → length (nodes_of (reverse ss)) ≡ length ss
nodes-turned ss = nodes-long (reverse ss) ∙ length-reverse ss
