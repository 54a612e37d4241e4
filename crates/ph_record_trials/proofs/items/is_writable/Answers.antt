use Rattle.std.proofs.Common.{◌≡◌, ◌+◌, ◌-◌, ◌∷◌, ◌<◌, ℕ, suc, ap, sym, ◌∙◌, subst, arith, drop, List, slice_index_or, length}
use Rattle.std.proofs.lemmas.Bool.{eqb-false}
use Rattle.ph_specs.specs.Node.{Flat}
use Rattle.ph_specs.specs.Pack.{children}
use Rattle.ph_model.specs.Layout.{AreRising}
use Rattle.ph_record_trials.specs.declared.items.Item.{Item}
use Rattle.ph_record_trials.specs.Listed.{flat_of, flats}
use Rattle.ph_record_trials.proofs.Lists.{no_item, drop-item, lower, length-flats}
use Rattle.ph_record_trials.proofs.items.is_writable.Goals as goal

pub loop-i-preserved : goal.loop-i-preserved
loop-i-preserved c =
    let v = c.loop-i.invariant in
    let d : ℕ = c.args.dims in
    let b : ℕ = c.args.level in
    let i : ℕ = c.loop-i.i in
    let es : List Item = c.args.items.now in
    let e : Item = slice_index_or es (i - 1) no_item in
    let rest : List Flat = drop i (flats d es) in
    let l : i - 1 < length es = omega (arith, v.few, c.loop-i-test.true) in
    let k : suc (i - 1) ≡ i = omega (arith, c.loop-i-test.true) in
    let q : drop (i - 1) (flats d es) ≡ flat_of d e ∷ rest = drop-item d es (i - 1) l ∙ ap {B = List Flat} (λ t. flat_of d e ∷ drop t (flats d es)) k in
    let one = c.is_item.ensures c.if-not-is_item.false in
    record {
      few = omega (arith, v.few);
      limit = omega (arith, v.limit, c.if-item-next.false);
      bottom = λ z. ap children q ∙ omega (arith, one.bottom z, v.bottom z);
      rising = subst (AreRising d b e.addr) (sym q) (
        omega arith,
        omega (arith, v.limit, c.if-item-next.false),
        one.body,
        lower d b c.loop-i.next (e.addr + 1) rest (omega (arith, c.if-item-next.false)) v.rising,
      );
    }

pub returns : goal.returns
returns c _ =
    let v = c.loop-i.invariant in
    let d : ℕ = c.args.dims in
    let es : List Item = c.args.items.now in
    let z : c.loop-i.i ≡ 0 = omega (arith, c.loop-i-test.false) in
    let some : length es ≡ 0 → ⊥ = eqb-false (length es) 0 (sym c.is_empty.ensures ∙ c.if-is_empty.false) in
    let whole : drop c.loop-i.i (flats d es) ≡ flats d es = ap (λ t. drop t (flats d es)) z in
    record {
      low = omega (arith, c.if-level-gt61.false);
      least = omega (arith, length-flats d es, some);
      bottom = λ y. sym (ap children whole) ∙ v.bottom y;
      rising = subst (AreRising d c.args.level 0) whole (lower d c.args.level c.loop-i.next 0 (drop c.loop-i.i (flats d es)) (omega arith) v.rising);
    }
