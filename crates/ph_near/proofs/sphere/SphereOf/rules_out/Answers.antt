use Rattle.std.proofs.Common.{◌≡◌, ◌≤◌, List, ℕ, take, refl, sym, subst, ap, arith, ◌∙◌}
use Rattle.ph_model.specs.Lawful.{IsBody}
use Rattle.ph_node.specs.Shown.{shown}
use Rattle.ph_path.proofs.Knowns.{wider}
use Rattle.ph_near.specs.BallSphere.{Sphere}
use Rattle.ph_near.proofs.SphereSeen.{out-seen, child-out, child-reached}
use Rattle.ph_near.proofs.sphere.SphereOf.rules_out.Goals as goal

-- ---- the digits fit 62 bits

fits-words : (d w k : ℕ) (xs : List ℕ) → w ≡ k → k ≤ 62 → IsBody d w xs → IsBody d 62 xs
fits-words d w k xs e l h = wider d w 62 xs (omega (arith, e, l)) h

pub is_region_beyond-requires-clause-known : goal.is_region_beyond-requires-clause-known
is_region_beyond-requires-clause-known g c =
    let w = c.requires.width ∙ sym (ap (λ (s : Sphere). s.width) c.self.view_is) in
    (refl, (fits-words g.P.Dims.D _ _ _ w c.self.invariant.narrow c.digits-digits.ensures.body).1)

pub is_region_beyond-requires-clause-center : goal.is_region_beyond-requires-clause-center
is_region_beyond-requires-clause-center g c =
    let d : ℕ = g.P.Dims.D in
    subst (λ n. IsBody n 62 (take c.D.result c.self.inside.center)) (sym c.digits-digits.ensures.body.0)
    (subst (λ n. IsBody d 62 (take n c.self.inside.center)) (sym c.D.ensures) (wider d _ 62 _ c.self.invariant.narrow c.self.invariant.center))

pub is_point_beyond-requires-clause-known : goal.is_point_beyond-requires-clause-known
is_point_beyond-requires-clause-known g c =
    let w = c.requires.width ∙ sym (ap (λ (s : Sphere). s.width) c.self.view_is) in
    fits-words g.P.Dims.D _ _ _ w c.self.invariant.narrow c.digits-digits.ensures.body

pub is_point_beyond-requires-clause-center : goal.is_point_beyond-requires-clause-center
is_point_beyond-requires-clause-center g c =
    subst (λ n. IsBody g.P.Dims.D 62 (take n c.self.inside.center)) (sym c.D.ensures) (wider g.P.Dims.D _ 62 _ c.self.invariant.narrow c.self.invariant.center)

-- ---- a child

pub returns-then-is_child-clause-far : goal.returns-then-is_child-clause-far
returns-then-is_child-clause-far g c e =
    child-out c.self.invariant c.self.view_is (ap (λ n. take n c.self.inside.center) c.D.ensures) c.digits-digits.ensures.value
    (shown c.args.node) c.args.spot c.level.ensures.value
    c.requires.body c.digits-digits.ensures.body.0 (sym c.is_child.ensures ∙ c.if-is_child.true) (c.is_region_beyond.ensures.beyond e)

pub returns-then-is_child-clause-near : goal.returns-then-is_child-clause-near
returns-then-is_child-clause-near g c e child some =
    let low : 1 ≤ c.level.result = omega (arith, some, c.level.ensures.value) in
    child-reached c.self.invariant c.self.view_is (ap (λ n. take n c.self.inside.center) c.D.ensures) c.digits-digits.ensures.value
    (shown c.args.node) c.args.spot c.level.ensures.value
    c.requires.body c.digits-digits.ensures.body.0 some (c.is_region_beyond.ensures.within e low)

-- ---- a point

pub returns-then-D-gt-FEW_DIMS-clause-far : goal.returns-then-D-gt-FEW_DIMS-clause-far
returns-then-D-gt-FEW_DIMS-clause-far g c e =
    out-seen c.self.invariant c.self.view_is (ap (λ n. take n c.self.inside.center) c.D.ensures) c.digits-digits.ensures.value
    (shown c.args.node) c.args.spot (c.is_point_beyond.ensures e)
