use Rattle.std.proofs.Common.{ap, take, ◌≡◌, ◌∙◌, refl, sym, Bool, true, false, not}
use Rattle.ph_node.specs.Shown.{shown}
use Rattle.ph_window.proofs.Between.{body-seen, entry-seen}
use Rattle.ph_window.proofs.corners.CornersOf.rules_out.Goals as goal

pub lies_between-requires-clause-known : goal.lies_between-requires-clause-known
lies_between-requires-clause-known g c =
    body-seen c.self.invariant c.self.view_is c.requires.width c.digits-digits.ensures.body c.digits-digits.ensures.value

was-false : (t : Bool) → not t ≡ true → t ≡ false
was-false true e = absurd cc
was-false false e = refl

pub returns-clause-outside : goal.returns-clause-outside
returns-clause-outside g c e =
    sym (c.lies_between.ensures.between
    ∙ entry-seen c.self.invariant c.self.view_is c.requires.width c.digits-digits.ensures.body
    c.digits-digits.ensures.value (ap (λ n. take n c.self.inside.low) c.D-dims.ensures)
    (ap (λ n. take n c.self.inside.high) c.D-dims.ensures) (shown c.args.node).level c.args.spot.addr _
    c.requires.level c.lies_between.ensures.body)
    ∙ was-false c.lies_between.result e
