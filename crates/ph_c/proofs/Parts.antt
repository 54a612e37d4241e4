-- A box that was taken apart owns what the box owned, at the same machine value. Assumes `Logic`.
use mir.Syntax.{Dict}
use denote.RattleType.{RattleType}
use denote.Param.Laws.{Laws}
use Rattle.core.specs.declared.alloc.Allocator.{Ghosts}
use Rattle.std_alloc.proofs.BoxSteps.Form.{Bx, R, P, D}
use Rattle.ph_c.specs.contracts.loose.Loose as loose

-- a box of values of a row, from an allocator
abbrev pub box_of : (T A : RattleType) → Laws T → Laws A → Ghosts A.Denot → Dict → Dict → Bx
box_of T A L LA g d dd = record { row = T; laws = L; al = record { row = A; laws = LA; g = g; d = d; drops = dd } }

-- its parts as a row
abbrev pub Parts : Bx → RattleType
Parts E = loose.the_row (R E) (P E) E.al.g

-- the same parts as a box
abbrev pub whole : (E : Bx) → (Parts E).Denot → D E
whole E p = record { ptr = p.place; alloc = p.heap; value = p.held }

abbrev pub parts : (E : Bx) → D E → (Parts E).Denot
parts E b = record { place = b.ptr; heap = b.alloc; held = b.value }
