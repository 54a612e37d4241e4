use Rattle.std.proofs.Common.{◌≡◌, ◌+◌, Bool, true, false, not, refl, sym, ap, arith, ◌∙◌}
use Rattle.std.specs.Prelude.{if◌then◌else◌}
use Rattle.std.specs.Bool.{beq}
use Rattle.ph_specs.specs.TreeRows.{count}
use Rattle.ph_specs.specs.Pack.{is_cube}
use Rattle.ph_node.specs.Relaid.{differ, is_relaid}
use Rattle.ph_node.specs.Shown.{shown}
use Rattle.ph_tree.proofs.Gone.{length-count}
use Rattle.ph_tree.proofs.NodeRooms.{length-flat}
use Rattle.ph_tree.proofs.RoomLimits.{few-entries}
use Rattle.ph_tree.proofs.spare.is_relaid_near.Goals as goal

unlike : (a b : Bool) → not (beq a b) ≡ differ a b
unlike true true = refl
unlike true false = refl
unlike false true = refl
unlike false false = refl

pub overflow_add-len : goal.overflow_add-len
overflow_add-len g c =
    let n = shown c.args.node in
    omega (arith, c.len.ensures, length-count n.chain, few-entries g.P.Dims.D n c.requires.few c.requires.lawful)

pub wants_cube-requires-clause-entries : goal.wants_cube-requires-clause-entries
wants_cube-requires-clause-entries g c =
    let n = shown c.args.node in
    omega (arith, c.len.ensures, length-count n.chain, few-entries g.P.Dims.D n c.requires.few c.requires.lawful)

pub returns-then-is_relaid : goal.returns-then-is_relaid
returns-then-is_relaid g c =
    let n = shown c.args.node in
    let D = g.P.Dims.D in
    let yes : is_relaid D n.level (count n.chain) ≡ c.is_relaid.result = ap (is_relaid D n.level) (sym (length-count n.chain)) ∙ sym c.is_relaid.ensures in
    sym (ap (λ (b : Bool). if b then true else differ (is_cube D n.level (count n.chain)) (is_cube D n.level (count n.chain + 1)))
    (yes ∙ c.if-is_relaid.true))

pub returns : goal.returns
returns g c =
    let n = shown c.args.node in
    let D = g.P.Dims.D in
    let no : is_relaid D n.level (count n.chain) ≡ false = ap (is_relaid D n.level) (sym (length-count n.chain)) ∙ sym c.is_relaid.ensures ∙ c.if-is_relaid.false in
    let cube : c.is_cube.result ≡ is_cube D n.level (count n.chain) = c.is_cube.ensures ∙ ap (is_cube D n.level) (length-flat n.chain) in
    let more : c.len.result + 1 ≡ count n.chain + 1 = omega (arith, c.len.ensures, length-count n.chain) in
    let grown : c.wants_cube.result ≡ is_cube D n.level (count n.chain + 1) = c.wants_cube.ensures
    ∙ ap (λ d. is_cube d c.level.result (c.len.result + 1)) c.D.ensures
    ∙ ap (λ b. is_cube D b (c.len.result + 1)) c.level.ensures.value ∙ ap (is_cube D n.level) more in
    rw (no, cube, grown) (unlike (is_cube D n.level (count n.chain)) (is_cube D n.level (count n.chain + 1)))
