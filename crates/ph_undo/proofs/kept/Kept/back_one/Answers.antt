use Rattle.std.proofs.Common.{◌≡◌, [], ◌∙◌, drop, sym, ap, subst, refl, arith, rules}
use Rattle.ph_specs.specs.Past.{back}
use Rattle.ph_undo.specs.Rings.{inverses_in}
use Rattle.ph_undo.specs.Kept.{kept_of, BackVisits}
use Rattle.ph_undo.proofs.Noted.{first-none, first-some, first_point, first_fits, first_changes, is_kept-back, kept-back, past-some, past-none, back-none, back-visits, is_kept-as}
use Rattle.ph_undo.proofs.kept.Kept.back_one.Given.{Over}
use Rattle.ph_undo.proofs.kept.Kept.back_one.Goals.{In_default, After-take_back}
use Rattle.ph_undo.proofs.kept.Kept.back_one.Goals as goal

-- ---- nothing is kept

no_past : (g : Over) (c : In_default g) → c.args.self.now.past ≡ []
no_past g c =
    sym (ap (λ k. k.past) c.self.view_is) ∙ past-none {D = g.row.D} c.self.inside.tree c.self.inside.ring
    (first-none (inverses_in c.self.inside.ring) (sym c.newest.ensures ∙ c.in_default.is))

pub returns-in_default-clause-done : goal.returns-in_default-clause-done
returns-in_default-clause-done g c =
    record {
      none = (λ _. no_past g c, λ _. refl);
      stays = λ _. refl;
      back = back-none c.args.self.now (no_past g c);
      err = tt;
      changes = omega arith;
      spared = tt;
      kept = omega arith;
      made = λ e. absurd (let no = e in cc);
    }

-- ---- the newest inverse

pub take_back-requires : goal.take_back-requires
take_back-requires g c =
    let is = first-some (inverses_in c.self.inside.ring) c.in-Some.inverse (sym c.newest.ensures ∙ c.in-Some.is) in
    let t = c.self.inside.tree in
    let rest = drop 1 (inverses_in c.self.inside.ring) in
    let few = c.self.invariant.few in (
      search rules,
      (
        grind arith,
        (
          first_point t c.self.inside.depth c.in-Some.inverse rest c.self.inside.ring c.self.invariant is,
          (
            first_fits t c.self.inside.depth c.in-Some.inverse rest c.self.inside.ring c.self.invariant is,
            first_changes t c.self.inside.depth c.in-Some.inverse rest c.self.inside.ring c.self.invariant is,
          ),
        ),
      ),
    )

pub invariant_of-self : goal.invariant_of-self
invariant_of-self g c =
    let is = first-some (inverses_in c.self.inside.ring) c.in-Some.inverse (sym c.newest.ensures ∙ c.in-Some.is) in
    is_kept-back c.self.inside.tree c.self.inside.depth c.in-Some.inverse (drop 1 (inverses_in c.self.inside.ring))
    c.self.inside.ring c.self.invariant is c.take_back.new.tree c.in-Ok.ensures.undone c.drop_newest.new.ring
    c.drop_newest.ensures.inverses c.drop_newest.ensures.room

some_past : (g : Over) (c : After-take_back g) → c.args.self.now.past ≡ [] → ⊥
some_past g c e =
    let is = first-some (inverses_in c.self.inside.ring) c.in-Some.inverse (sym c.newest.ensures ∙ c.in-Some.is) in
    past-some c.self.inside.tree c.in-Some.inverse (drop 1 (inverses_in c.self.inside.ring)) c.self.inside.ring is (ap (λ k. k.past) c.self.view_is ∙ e)

pub returns-in-Ok-clause-done : goal.returns-in-Ok-clause-done
returns-in-Ok-clause-done g c =
    let some = some_past g (goal.at.returns-in-Ok-clause-done g c).After-take_back in
    let is = first-some (inverses_in c.self.inside.ring) c.in-Some.inverse (sym c.newest.ensures ∙ c.in-Some.is) in
    record {
      none = (λ e. absurd (let no = e in cc), λ e. absurd (some e));
      stays = λ e. absurd (some e);
      back = kept-back c.self.inside.tree c.self.inside.depth c.in-Some.inverse (drop 1 (inverses_in c.self.inside.ring))
          c.self.inside.ring is c.take_back.new.tree c.in-Ok.ensures.undone c.drop_newest.new.ring c.drop_newest.ensures.inverses
          ∙ ap (λ k. back k 1) c.self.view_is;
      err = tt;
      changes = c.in-Ok.ensures.changes;
      spared = tt;
      kept = let made = c.in-Ok.ensures.made in omega (arith, made);
      made = λ _. c.in-Ok.ensures.made;
    }

-- ---- memory was missing

pub invariant_of-self-in-Err : goal.invariant_of-self-in-Err
invariant_of-self-in-Err g c = is_kept-as c.in-Err.ensures.err c.self.invariant

pub returns-in-Err-clause-done : goal.returns-in-Err-clause-done
returns-in-Err-clause-done g c =
    let some = some_past g (goal.at.returns-in-Err-clause-done g c).After-take_back in
    record {
      none = (λ e. absurd (let no = e in cc), λ e. absurd (some e));
      stays = λ e. absurd (some e);
      back = tt;
      err = ap (λ t. kept_of t c.self.inside.depth c.self.inside.ring) c.in-Err.ensures.err ∙ c.self.view_is;
      changes = c.in-Err.ensures.changes;
      spared = c.in-Err.ensures.spared;
      kept = let spared = c.in-Err.ensures.spared in omega (arith, spared);
      made = λ e. absurd (let no = e in cc);
    }

pub returns-in-Err-clause-idle : goal.returns-in-Err-clause-idle
returns-in-Err-clause-idle g c e = absurd (some_past g (goal.at.returns-in-Err-clause-idle g c).After-take_back e)

-- ---- visits

few : (g : Over) (c : After-take_back g) →
    BackVisits g.row.D c.args.self.now.width c.args.self.now.table c.args.self.now.past c.args.visits.now c.take_back.new.visits
few g c =
    let is = first-some (inverses_in c.self.inside.ring) c.in-Some.inverse (sym c.newest.ensures ∙ c.in-Some.is) in
    let t = c.self.inside.tree in
    let rest = drop 1 (inverses_in c.self.inside.ring) in
    subst (λ k. BackVisits g.row.D k.width k.table k.past c.args.visits.now c.take_back.new.visits) c.self.view_is
    (back-visits t c.in-Some.inverse rest c.self.inside.ring is c.args.visits.now c.take_back.new.visits
    (first_point t c.self.inside.depth c.in-Some.inverse rest c.self.inside.ring c.self.invariant is)
    (first_changes t c.self.inside.depth c.in-Some.inverse rest c.self.inside.ring c.self.invariant is)
    c.take_back.ensures.visits)

pub returns-in_default-clause-visits : goal.returns-in_default-clause-visits
returns-in_default-clause-visits g c =
    subst (λ past. BackVisits g.row.D c.args.self.now.width c.args.self.now.table past c.args.visits.now c.args.visits.now) (sym (no_past g c)) refl

pub returns-in-Ok-clause-visits : goal.returns-in-Ok-clause-visits
returns-in-Ok-clause-visits g c = few g (goal.at.returns-in-Ok-clause-visits g c).After-take_back

pub returns-in-Err-clause-visits : goal.returns-in-Err-clause-visits
returns-in-Err-clause-visits g c = few g (goal.at.returns-in-Err-clause-visits g c).After-take_back
