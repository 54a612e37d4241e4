use Rattle.std.proofs.Common.{◌≡◌, ◌↔◌, ◌<◌, ◌^◌, ◌∙◌, ℕ, List, true, ap, arith, refl, subst, sym}
use Rattle.std.specs.Prelude.{ℤ, Option, Some, None, IfSome}
use Rattle.std.specs.List.{AllByRecursion as Each}
use Rattle.ph_specs.specs.Coordinate.{IsPoint}
use Rattle.ph_specs.specs.Region.{Region}
use Rattle.ph_model.specs.Regions.{InBoth}
use Rattle.ph_model.specs.Masks.{masks, fits_some, InPart}
use Rattle.ph_model.proofs.laws.Masks.{masks-part, masks-none}
use Rattle.ph_model.proofs.laws.MaskBounds.{AreMasks, masks-fit}
use Rattle.ph_zorder.proofs.Sides.{masks-by, point-small}
use Rattle.ph_zorder.proofs.regions.masks.Goals as goal

pub offset_masks-requires-clause-small : goal.offset_masks-requires-clause-small
offset_masks-requires-clause-small g c =
    let corner : IsPoint c.args.w g.row.D c.r.inside.corner = subst (λ (r : Region). IsPoint c.args.w g.row.D r.corner) (sym c.r.view_is) c.requires.corner in
    subst (Each (λ x. x < 2 ^ 62)) (sym c.offsets.ensures) (point-small c.args.w g.row.D c.r.inside.corner (omega arith) (omega arith) corner)

masks-are : goal.returns-clause-value
masks-are g c =
    let r : Region = record { corner = c.r.inside.corner; level = c.r.inside.level } in
    let corner : IsPoint c.args.w g.row.D c.r.inside.corner = subst (λ (r : Region). IsPoint c.args.w g.row.D r.corner) (sym c.r.view_is) c.requires.corner in
    let level : c.r.inside.level < c.args.w = subst (λ (r : Region). r.level < c.args.w) (sym c.r.view_is) c.requires.level in
    c.offset_masks.ensures
    ∙ masks-by c.args.w g.row.D r c.args.lo.now c.args.hi.now c.offsets.result c.offsets-2.result c.offsets-3.result
    level corner c.requires.lo c.requires.hi c.offsets.ensures c.offsets-2.ensures c.offsets-3.ensures
    ∙ ap (λ (r : Region). masks c.args.w r c.args.lo.now c.args.hi.now) c.r.view_is

pub returns-clause-value : goal.returns-clause-value
returns-clause-value g c = masks-are g c

pub returns-clause-part : goal.returns-clause-part
returns-clause-part g c h small =
    subst (λ m. fits_some m h ≡ true ↔ ((p : List ℤ) × InPart c.args.w g.row.D c.args.r.now h c.args.lo.now c.args.hi.now p)) (sym (masks-are g c))
    (masks-part c.args.w g.row.D c.args.r.now c.args.lo.now c.args.hi.now h c.requires.level c.requires.corner c.requires.lo c.requires.hi small)

pub returns-clause-none : goal.returns-clause-none
returns-clause-none g c =
    subst (λ m. m ≡ None ↔ ((p : List ℤ) → InBoth c.args.w g.row.D c.args.r.now c.args.lo.now c.args.hi.now p → ⊥)) (sym (masks-are g c))
    (masks-none c.args.w g.row.D c.args.r.now c.args.lo.now c.args.hi.now c.requires.level c.requires.corner c.requires.lo c.requires.hi)

pub returns-clause-small : goal.returns-clause-small
returns-clause-small g c =
    by_masks c.offset_masks.result
    (λ m e. masks-fit c.args.w g.row.D c.args.r.now c.args.lo.now c.args.hi.now m c.requires.level
    c.requires.corner c.requires.lo c.requires.hi (sym (masks-are g c) ∙ e))
  where
    by_masks : (o : Option (ℕ × ℕ)) →
        ((m : ℕ × ℕ) → o ≡ Some m → AreMasks c.args.w g.row.D c.args.r.now c.args.lo.now c.args.hi.now m) →
        IfSome o (λ m. (m.0 < 2 ^ g.row.D) × (m.1 < 2 ^ g.row.D))
    by_masks None h = tt
    by_masks (Some m) h = let a = h m refl in (a.lower_small, a.upper_small)
