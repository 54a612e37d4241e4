-- Two tables, of which the first is that of the left tree or that of the right one.
use Rattle.std.proofs.Common.{◌≡◌, Bool, true, false, List, [], ◌++◌, refl, ◌∙◌, ap}
use Rattle.std.specs.Prelude.{not}
use Rattle.ph_model.specs.Combined.{chosen}
use Rattle.ph_specs.specs.Table.{Row}
use Rattle.ph_model.proofs.laws.Combined.{AreParted, combined-left, combined-left-first, combined-right-first, combined-split, sandwich-left, sandwich-right}
use Rattle.ph_set.specs.Meeting.{kept, kept_by, alone}
use Rattle.ph_set.specs.declared.plan.Plan.{Plan}

-- the first comes before the other
pub in-order : (p : Plan) (left : Bool) (xs ys : List Row) → AreParted p.width xs ys →
    kept_by p left xs ys ≡ chosen (alone p left) xs ++ chosen (alone p (not left)) ys
in-order p true xs ys h = combined-left-first p.width p.left p.both p.right xs ys h
in-order p false xs ys h = combined-right-first p.width p.left p.both p.right ys xs h

-- nothing, beside the other
pub beside-none : (p : Plan) (left : Bool) (ys : List Row) → kept_by p left [] ys ≡ chosen (alone p (not left)) ys
beside-none p true ys = refl
beside-none p false ys = combined-left p.width p.left p.both p.right ys

-- the first around a part of it in which the other lies
pub sandwich : (p : Plan) (left : Bool) (us xs vs ys : List Row) → AreParted p.width us ys → AreParted p.width ys vs →
    kept_by p left (us ++ (xs ++ vs)) ys ≡ chosen (alone p left) us ++ (kept_by p left xs ys ++ chosen (alone p left) vs)
sandwich p true us xs vs ys h k = sandwich-left p.width p.left p.both p.right us xs vs ys h k
sandwich p false us xs vs ys h k = sandwich-right p.width p.left p.both p.right us xs vs ys h k

-- what of the first comes before the other
pub passed-front : (p : Plan) (left : Bool) (us xs ys : List Row) → AreParted p.width us ys →
    kept_by p left (us ++ xs) ys ≡ chosen (alone p left) us ++ kept_by p left xs ys
passed-front p true us xs ys h =
    combined-split p.width p.left p.both p.right us xs [] ys h tt ∙ ap (λ t. t ++ kept p xs ys) (combined-left p.width p.left p.both p.right us)
passed-front p false us xs ys h = combined-split p.width p.left p.both p.right [] ys us xs tt h
