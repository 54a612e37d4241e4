use Rattle.std.proofs.Common.{◌≡◌, ℕ, ◌^◌, ◌≤◌, arith, lt-ltb, sym, ap, ◌∙◌, subst, refl}
use Rattle.std.specs.Prelude.{Option, Some, None}
use Rattle.ph_model.specs.Lawful.{IsLawful}
use Rattle.ph_model.specs.PutTree.{find_tree, put_tree}
use Rattle.ph_model.proofs.laws.PutTree.{lawful-put_tree}
use Rattle.ph_bits.specs.Block.{Block}
use Rattle.ph_tree.specs.Rooms.{spare_wanted_in, spare_left_in}
use Rattle.ph_tree.specs.Spare.{IsRoomy}
use Rattle.ph_tree.proofs.Rooms.{room-between}
use Rattle.ph_tree.proofs.Trees.{new_absent}
use Rattle.ph_tree.proofs.moves.move_in.Given.{Over}
use Rattle.ph_tree.proofs.moves.move_in.Goals.{In-Ok-New}
use Rattle.ph_tree.proofs.moves.move_in.Goals as goal

-- a block with room for many words has room for fewer
roomy-less : (block : Option Block) (n m : ℕ) → n ≤ m → IsRoomy block m → IsRoomy block n
roomy-less None n m fewer h = omega (arith, fewer, h)
roomy-less (Some words) n m fewer h = omega (arith, fewer, h)

-- no row is at the new point where the put makes one
free : (g : Over) (c : In-Ok-New g) → find_tree c.args.to.now.width g.P.Dims.D c.args.root.now c.args.to.now.point ≡ None
free g c =
    let put = rw c.in-Ok-New.field-0-is at c.in-Ok-New.ensures in new_absent _ put.put.answer

-- the tree between the put and the removal
between : (g : Over) (c : In-Ok-New g) → c.put_in.new.root ≡ put_tree c.args.to.now.width g.P.Dims.D c.args.root.now c.args.to.now.point c.args.found.value
between g c = c.in-Ok-New.ensures.put.joined (free g c)

pub del_in-requires : goal.del_in-requires
del_in-requires g c =
    let k = c.args.to.now in
    let at = (goal.at.del_in-requires g c).In-Ok-New in
    record {
      lawful = subst (λ (n : ℕ). IsLawful n g.P.Dims.D c.put_in.new.root) (sym c.requires.width)
          (subst (IsLawful k.width g.P.Dims.D) (sym (between g at))
          (lawful-put_tree k.width g.P.Dims.D c.args.root.now k.point c.args.found.value c.requires.wide
          c.requires.point (lt-ltb c.args.found.value (2 ^ 64) (omega arith)) c.requires.lawful));
    }

pub unreachable-requires : goal.unreachable-requires
unreachable-requires g c =
    let at = (goal.at.unreachable-requires g c).In-Ok-New in
    let D = g.P.Dims.D in
    let k = c.args.to.now in
    let f = c.args.from.now in
    let t = c.args.root.now in
    let v = c.args.found.value in
    let there = subst (λ (n : ℕ). find_tree n D t f.point ≡ Some v) c.requires.width c.requires.found in
    let may = sym (c.requires.room ∙ ap (λ n. spare_left_in n D t f.point) c.requires.width) in
    let wide = room-between k.width D t f.point k.point v v c.requires.point c.requires.lawful there in
    let enough : spare_wanted_in k.width D (put_tree k.width D t k.point v) f.point ≤ c.args.found.room =
    subst (λ n. spare_wanted_in k.width D (put_tree k.width D t k.point v) f.point ≤ n) may wide in
    let made = subst (λ u. spare_wanted_in k.width D u f.point ≤ c.args.found.room) (sym (between g at)) enough in
    let wanted = subst (λ n. spare_wanted_in n D c.put_in.new.root f.point ≤ c.args.found.room) (sym c.requires.width) made in
    let put = rw c.in-Ok-New.field-0-is at c.in-Ok-New.ensures in
    let no = c.in-Err-del_in.ensures.roomy
    (roomy-less c.put_in.new.put.spare.block _ _
    (subst (λ n. spare_wanted_in f.width D c.put_in.new.root f.point ≤ n) (sym c.new.ensures.room) wanted) (put.roomy refl)) in
    cc
