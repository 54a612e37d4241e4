-- Questions about boxes, and the windows that answer them.
use Rattle.std.specs.Prelude.{ℕ, Bool, List, ℤ}
use Rattle.ph_specs.specs.Boxes.{overlaps, overlaps_low, overlaps_high, is_inside, inside_low, inside_high, covers, covers_low, covers_high}
use Rattle.ph_box.specs.declared.question.Question.{Question}
use Rattle.ph_box.specs.declared.question.Question.TheVariants.{Overlap, Inside, Cover}

-- whether a question about a box lists another one
abbrev pub asks : Question → List ℤ → List ℤ → Bool
asks Overlap asked box = overlaps asked box
asks Inside asked box = is_inside asked box
asks Cover asked box = covers asked box

-- the corners of the window of a question about the box from one corner to another
abbrev pub low_bound : Question → ℕ → List ℤ → List ℤ → List ℤ
low_bound Overlap w lo hi = overlaps_low w lo hi
low_bound Inside w lo hi = inside_low w lo hi
low_bound Cover w lo hi = covers_low w lo hi

abbrev pub high_bound : Question → ℕ → List ℤ → List ℤ → List ℤ
high_bound Overlap w lo hi = overlaps_high w lo hi
high_bound Inside w lo hi = inside_high w lo hi
high_bound Cover w lo hi = covers_high w lo hi
