-- Vectors: the removal of points from trees, beside the shape of the table without them.
use Rattle.std.proofs.Common.{◌≡◌, ℕ, refl, List, [], ◌∷◌, pos, negsuc}
use Rattle.std.specs.Prelude.{ℤ, Some, None}
use Rattle.ph_specs.specs.Table.{Row, row, del}
use Rattle.ph_specs.specs.Sets.{table_of}
use Rattle.ph_specs.specs.Node.{end, point, child}
use Rattle.ph_specs.specs.Shape.{shape}
use Rattle.ph_specs.specs.TreeRows.{rows}
use Rattle.ph_model.specs.DelTree.{del_tree}

abbrev at : ℕ → ℕ → List ℤ
at x y = pos x ∷ pos y ∷ []

abbrev three : List Row
three = row (at 0 0) 1 ∷ row (at 0 1) 3 ∷ row (at 1 1) 2 ∷ []

-- the last entry goes with the root
last-goes : del_tree 32 2 (shape 32 (row (at 3 4) 17 ∷ [])) (at 3 4) ≡ None
last-goes = refl

-- a child of three keeps two
three-kept : del_tree 32 2 (shape 32 three) (at 0 1) ≡
    Some (record { level = 31; chain = child 3 (0 ∷ 0 ∷ []) 0 (point 0 (0 ∷ 0 ∷ []) 1 (point 3 (0 ∷ 0 ∷ []) 2 end)) end })
three-kept = refl

-- of a child of two a point entry of the root is left
two-merged : del_tree 32 2 (shape 32 (row (at 0 0) 1 ∷ row (at 1 1) 2 ∷ [])) (at 0 0) ≡ Some (record { level = 31; chain = point 3 (1 ∷ 1 ∷ []) 2 end })
two-merged = refl

-- a point that is not there changes nothing
absent-same : del_tree 32 2 (shape 32 three) (at 1 0) ≡ shape 32 three
absent-same = refl

abbrev deep : List Row
deep = table_of 8 (row (at 0 0) 1 ∷ row (at 0 1) 3 ∷ row (at 1 1) 2 ∷ row (at 16 5) 4 ∷ row (negsuc 3 ∷ pos 7 ∷ []) 5 ∷ [])

-- a child entry that is left joins its digits with those of the child that goes
deep-merged : del_tree 8 2 (shape 8 deep) (at 16 5) ≡ shape 8 (del deep (at 16 5))
deep-merged = refl

deep-rows : rows 8 2 (del_tree 8 2 (shape 8 deep) (at 16 5)) ≡ del deep (at 16 5)
deep-rows = refl

deep-others : del_tree 8 2 (shape 8 deep) (at 0 0) ≡ shape 8 (del deep (at 0 0))
deep-others = refl

deep-root : del_tree 8 2 (shape 8 deep) (negsuc 3 ∷ pos 7 ∷ []) ≡ shape 8 (del deep (negsuc 3 ∷ pos 7 ∷ []))
deep-root = refl

-- a point with the same digits below a child's level and others above it
other-prefix : del_tree 8 2 (shape 8 deep) (at 32 0) ≡ shape 8 deep
other-prefix = refl
