-- Vectors: a tree that is edited row by row is the shape of the table that is edited row by row.
use Rattle.std.proofs.Common.{◌≡◌, ℕ, refl, List, [], ◌∷◌, pos, negsuc}
use Rattle.std.specs.Prelude.{Option, Some, None}
use Rattle.ph_specs.specs.Table.{Row, row, put}
use Rattle.ph_specs.specs.Node.{PlainNode}
use Rattle.ph_specs.specs.Shape.{shape}
use Rattle.ph_model.specs.PutTree.{put_tree, find_tree}

abbrev table_by : ℕ → List Row → List Row → List Row
table_by w t [] = t
table_by w t (r ∷ rs) = table_by w (put w t r.point r.value) rs

abbrev tree_by : ℕ → ℕ → Option PlainNode → List Row → Option PlainNode
tree_by w d t [] = t
tree_by w d t (r ∷ rs) = tree_by w d (put_tree w d t r.point r.value) rs

abbrev some_rows : List Row
some_rows =
    row (pos 3 ∷ pos 4 ∷ []) 1 ∷ row (pos 3 ∷ pos 5 ∷ []) 2 ∷ row (pos 3 ∷ pos 4 ∷ []) 3 ∷
    row (negsuc 3 ∷ pos 100 ∷ []) 4 ∷ row (pos 2 ∷ pos 5 ∷ []) 5 ∷ row (pos 67 ∷ pos 5 ∷ []) 6 ∷
    row (pos 66 ∷ pos 5 ∷ []) 7 ∷ row (pos 1 ∷ pos 1 ∷ []) 8 ∷ row (pos 0 ∷ pos 0 ∷ []) 9 ∷
    row (pos 9 ∷ pos 9 ∷ []) 10 ∷ row (negsuc 127 ∷ negsuc 127 ∷ []) 11 ∷ row (pos 66 ∷ pos 5 ∷ []) 12 ∷ []

edits : tree_by 8 2 None some_rows ≡ shape 8 (table_by 8 [] some_rows)
edits = refl

wide_edits : tree_by 32 2 None some_rows ≡ shape 32 (table_by 32 [] some_rows)
wide_edits = refl

found : find_tree 8 2 (tree_by 8 2 None some_rows) (pos 66 ∷ pos 5 ∷ []) ≡ Some 12
found = refl

not_found : find_tree 8 2 (tree_by 8 2 None some_rows) (pos 66 ∷ pos 4 ∷ []) ≡ None
not_found = refl
