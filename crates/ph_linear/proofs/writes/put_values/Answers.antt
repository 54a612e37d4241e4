use Rattle.std.proofs.Common.{◌≡◌, ◌+◌, ◌<◌, ◌++◌, ◌∷◌, [], ℕ, length, take, arith, ◌∙◌, sym, ap, subst, List, get_or, Bool, true, false, not, length-append, map}
use Rattle.std.specs.Prelude.{Some, None, IfSome, if◌then◌else◌, slice_get}
use Rattle.std.proofs.lemmas.List.{append_assoc, append-nil, length-map, get_or-map}
use Rattle.std.proofs.lemmas.Option.{slice_get-get_or}
use Rattle.ph_specs.specs.Node.{Flat}
use Rattle.ph_specs.specs.Pack.{child_mark, values, value_in_front}
use Rattle.ph_specs.specs.Record.{read}
use Rattle.ph_model.specs.Layout.{unvalued}
use Rattle.ph_bits.specs.Block.{room_of}
use Rattle.ph_linear.proofs.Writing.{no_flat, given, values-more, values-room, value-of, no-value}
use Rattle.ph_linear.proofs.writes.put_values.Goals as goal
use Rattle.ph_linear.proofs.writes.put_values.Goals.{then-not-at, else-not-at}

abbrev mark : Bool → ℕ
mark t = if t then 1 else 0

off : (t : Bool) (m : ℕ) → m ≡ (if t then 1 else 0) → not t ≡ true → m ≡ 0
off true m h e = absurd (let z : mark false ≡ mark true = ap mark e in omega (arith, z))
off false m h e = h

on : (t : Bool) (m : ℕ) → m ≡ (if t then 1 else 0) → not t ≡ false → m ≡ 1
on true m h e = h
on false m h e = absurd (let z : mark true ≡ mark false = ap mark e in omega (arith, z))

-- a value more
more-values : (es : List Flat) (i v : ℕ) → i < length es → (get_or es i no_flat).value ≡ Some v → values (take (i + 1) es) ≡ values (take i es) ++ v ∷ []
more-values es i v l e = values-more es i l ∙ ap (λ t. values (take i es) ++ value_in_front t []) e

module _ (es : List Flat) (i a : ℕ) (b : List ℕ) (t : Bool) where
  pub point : i < length es → slice_get (map unvalued es) i ≡ Some (read t a b) → not t ≡ true → (v : ℕ) × ((get_or es i no_flat).value ≡ Some v)
  point l e h = value-of (get_or es i no_flat).value (off t (child_mark (get_or es i no_flat).value) (given es i t a b l e).same_kind h)

  pub no-point : i < length es → slice_get (map unvalued es) i ≡ Some (read t a b) → not t ≡ false → value_in_front (get_or es i no_flat).value [] ≡ []
  no-point l e h = no-value (get_or es i no_flat).value (on t (child_mark (get_or es i no_flat).value) (given es i t a b l e).same_kind h)

-- its value, as the call asks for it
told : (es : List Flat) (i v : ℕ) → i < length es → (get_or es i no_flat).value ≡ Some v → slice_get (map (λ e. e.value) es) i ≡ Some (Some v)
told es i v l e =
    slice_get-get_or (map (λ e. e.value) es) i None (omega (arith, l, length-map es (λ e. e.value))) ∙ ap Some (get_or-map (λ e. e.value) es i no_flat None l ∙ e)

pub value-requires-clause-point : goal.value-requires-clause-point
value-requires-clause-point g c =
    let v = c.loop-i.invariant in
    let es : List Flat = g.E.Entries.list c.args.from.now in
    let p = c.at.result in
    let l : c.loop-i.i < length es = omega (arith, c.loop-i-test.true, v.end) in
    let w = point es c.loop-i.i p.addr (take g.P.Dims.D p.body) p.child l c.at.ensures.entry c.if-not-at.true in
    (w.0, told es c.loop-i.i w.0 l w.1)

pub push-requires : goal.push-requires
push-requires g c =
    let v = c.loop-i.invariant in
    let es : List Flat = g.E.Entries.list c.args.from.now in
    let p = c.at.result in
    let l : c.loop-i.i < length es = omega (arith, c.loop-i-test.true, v.end) in
    let w = point es c.loop-i.i p.addr (take g.P.Dims.D p.body) p.child l c.at.ensures.entry c.if-not-at.true in
    omega (arith, ap length v.words, length-append c.args.words.now.words (values (take c.loop-i.i es)), values-room es c.loop-i.i w.0 l w.1, v.places.0, c.requires.room)

pub loop-i-preserved : goal.loop-i-preserved
loop-i-preserved g c =
    let v = c.loop-i.invariant in
    let es : List Flat = g.E.Entries.list c.args.from.now in
    let p = c.at.result in
    let i : ℕ = c.loop-i.i in
    let old : List ℕ = c.args.words.now.words in
    let l : i < length es = omega (arith, c.loop-i-test.true, v.end) in
    elim c.if-not-at.branch [
      | then-not-at w ↦
          let q = point es i p.addr (take g.P.Dims.D p.body) p.child l c.at.ensures.entry w.if-not-at.true in
          let x : w.value.result ≡ q.0 = w.value.ensures.value q.0 (told es i q.0 l q.1) in
          record {
            end = v.end;
            mark = subst (λ m. IfSome m (g.E.Entries.stands c.args.from.now)) (sym w.mark-is) w.value.ensures.stands;
            words =
                ap (λ t. t.words) w.words-is
                ∙ w.push.ensures.words
                ∙ ap (λ t. c.loop-i.words.words ++ t ∷ []) x
                ∙ ap (λ t. t ++ q.0 ∷ []) v.words
                ∙ append_assoc old (values (take i es)) (q.0 ∷ [])
                ∙ ap (λ t. old ++ t) (sym (more-values es i q.0 l q.1));
            places = (ap room_of w.words-is ∙ w.push.ensures.places.0 ∙ v.places.0, ap (λ t. t.heap) w.words-is ∙ w.push.ensures.places.1 ∙ v.places.1);
          }
      | else-not-at w ↦
          let n : value_in_front (get_or es i no_flat).value [] ≡ [] = no-point es i p.addr (take g.P.Dims.D p.body) p.child l c.at.ensures.entry w.if-not-at.false in
          let h : values (take (i + 1) es) ≡ values (take i es) = values-more es i l ∙ ap (λ t. values (take i es) ++ t) n ∙ append-nil (values (take i es)) in
          record {
            end = v.end;
            mark = subst (λ m. IfSome m (g.E.Entries.stands c.args.from.now)) (sym w.mark-is) c.at.ensures.stands;
            words = ap (λ t. t.words) w.words-is ∙ v.words ∙ ap (λ t. old ++ t) (sym h);
            places = (ap room_of w.words-is ∙ v.places.0, ap (λ t. t.heap) w.words-is ∙ v.places.1);
          }
    ]
