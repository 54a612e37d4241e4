-- The tree that the page on trees draws, and two puts into it.
use Rattle.std.specs.Prelude.{◌≡◌, [], ◌∷◌, pos, negsuc, refl, List, Option}
use Rattle.std.specs.declared.option.Option.TheVariants.{Some}
use Rattle.ph_specs.specs.Table.{Row, row, put}
use Rattle.ph_specs.specs.Node.{Entries, PlainNode, end, point, child}
use Rattle.ph_specs.specs.Shape.{shape}

abbrev drawn : List Row
drawn = row (negsuc 2 ∷ pos 2 ∷ []) 10 ∷ row (pos 2 ∷ pos 0 ∷ []) 20 ∷ row (pos 3 ∷ pos 0 ∷ []) 30 ∷ row (pos 3 ∷ pos 1 ∷ []) 40 ∷ []

-- a root, by the entries behind the point of its first quadrant
abbrev root : Entries → Option PlainNode
root rest = Some (record { level = 2; chain = point 1 (1 ∷ 2 ∷ []) 10 rest })

-- the points of the other three rows
abbrev three : Entries
three = point 0 (0 ∷ 0 ∷ []) 20 (point 2 (0 ∷ 0 ∷ []) 30 (point 3 (0 ∷ 0 ∷ []) 40 end))

drawn_tree : shape 3 drawn ≡ root (child 3 (2 ∷ 0 ∷ []) 0 three end)
drawn_tree = refl

drawn_split : shape 3 (put 3 drawn (pos 0 ∷ pos 0 ∷ []) 50) ≡
    root (child 3 (0 ∷ 0 ∷ []) 1 (point 0 (0 ∷ 0 ∷ []) 50 (child 2 (0 ∷ 0 ∷ []) 0 three end)) end)
drawn_split = refl

drawn_added : shape 3 (put 3 drawn (pos 0 ∷ negsuc 3 ∷ []) 50) ≡
    root (point 2 (0 ∷ 0 ∷ []) 50 (child 3 (2 ∷ 0 ∷ []) 0 three end))
drawn_added = refl
