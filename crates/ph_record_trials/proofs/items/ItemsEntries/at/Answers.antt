use Rattle.std.proofs.Common.{◌≡◌, ℕ, List, ap, subst, sym, ◌∙◌, take, slice_index_or, arith}
use Rattle.std.specs.Prelude.{Some}
use Rattle.ph_specs.specs.Record.{read}
use Rattle.ph_bits.specs.Packed.{IsPadded}
use Rattle.ph_record_trials.specs.Listed.{body_of}
use Rattle.ph_record_trials.proofs.Lists.{no_item, length-flats, read-at, kept}
use Rattle.ph_record_trials.proofs.items.ItemsEntries.at.Goals as goal

at-dims : (n d : ℕ) (xs ys : List ℕ) → n ≡ d → take n xs ≡ take n ys → take d xs ≡ take d ys
at-dims n d xs ys e h = subst (λ k. take k xs ≡ take k ys) e h

pub returns : goal.returns
returns g c =
    let d = g.P.Dims.D in
    let es = c.args.self.now.items.now in
    let e = slice_index_or es c.args.i no_item in
    record {
      stands = c.requires.stands;
      entry = read-at d es c.args.i (omega (arith, c.requires.within, length-flats d es))
          ∙ ap Some (kept e.value c.is_none.result e.addr (take d (body_of e.fields)) c.is_none.ensures ∙
          ap (λ t. read c.is_none.result e.addr t)
          (sym (at-dims c.D.result d c.body_of-body.result (body_of e.fields) c.D.ensures c.body_of-body.ensures.fields)));
      zeros = subst (λ n. IsPadded n c.body_of-body.result) c.D.ensures c.body_of-body.ensures.zeros;
    }
