use Rattle.std.proofs.Common.{◌≡◌, ℕ, List, [], ◌∷◌, ◌+◌, ◌^◌, ◌<◌, length, replicate, refl, sym, arith, ap, subst, ◌∙◌}
use Rattle.std.specs.List.{AllByRecursion as Each}
use Rattle.std.proofs.Math.Nat.{mod-eq_of_lt}
use Rattle.ph_specs.specs.TreeRows.{put_together}
use Rattle.ph_model.specs.Lawful.{HasZerosFrom}
use Rattle.ph_model.specs.EntryList.{entries}
use Rattle.ph_model.specs.PutTree.{body_above}
use Rattle.ph_node.specs.Shown.{shown}
use Rattle.ph_node.specs.Split.{body_at}
use Rattle.ph_node.proofs.reads.NodeRefOf+NodeOf+P.join_child.Goals as goal

-- Fields below a level that have zeros from the place under it down are zeros.
none-left : (level low : ℕ) (xs : List ℕ) → low + 1 ≡ level → Each (λ x. x < 2 ^ level) xs → HasZerosFrom low xs → replicate (length xs) 0 ≡ xs
none-left level low [] e b z = refl
none-left level low (x ∷ xs) e b z =
    let h : x ≡ 0 = sym (mod-eq_of_lt (subst (λ k. x < 2 ^ k) (sym e) b.0)) ∙ z.0 in
    ap {B = List ℕ} (λ t. t ∷ replicate (length xs) 0) (sym h) ∙ ap {B = List ℕ} (λ t. x ∷ t) (none-left level low xs e b.1 z.1)

pub join_address-requires-clause-few : goal.join_address-requires-clause-few
join_address-requires-clause-few g c = omega (arith, c.requires.known.0, c.requires.few)

pub join_address-requires-clause-known : goal.join_address-requires-clause-known
join_address-requires-clause-known g c = (refl, c.requires.known.1)

pub returns-then-low-level : goal.returns-then-low-level
returns-then-low-level g c =
    let n = shown c.args.self.now in
    let known = c.args.known.now in
    let body = body_at (entries n) c.args.spot.place in
    c.join_address.ensures
    ∙ ap (λ (b : ℕ). put_together b c.args.spot.addr (body_above b known) (replicate (length known) 0)) c.level-level.ensures.value
    ∙ ap (λ k. put_together n.level c.args.spot.addr (body_above n.level known) (replicate k 0)) (c.requires.known.0 ∙ sym c.requires.body.0)
    ∙ ap (put_together n.level c.args.spot.addr (body_above n.level known))
    (none-left n.level c.args.low body (c.if-low-level.true ∙ c.level-level.ensures.value) c.requires.body.1 c.requires.zeros)
