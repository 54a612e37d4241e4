use Rattle.std.proofs.Common.{length, refl, ap, ◌∙◌, arith}
use Rattle.std.proofs.lemmas.Result.{err_from_is_err_and}
use Rattle.ph_node.proofs.Resized.{long_with}
use Rattle.ph_node.proofs.points.add_anew.Goals as goal

pub returns-in_err-words : goal.returns-in_err-words
returns-in_err-words g c =
    let is = err_from_is_err_and c.from_residual.result c.from_residual.ensures.1 in
    rw is.1 (record { put = record { words = tt; kept = refl; values = refl }; most = tt; used = tt })

pub returns : goal.returns
returns g c = record {
  put = record { words = c.lay_out.ensures.words; kept = tt; values = c.lay_out.ensures.values };
  most = omega (arith, c.lay_out.ensures.places, c.in_ok-words.ensures.most, c.count.ensures.value, c.length_with.ensures.value);
  used =
      omega (
        arith,
        c.lay_out.ensures.places,
        c.in_ok-words.ensures.most,
        c.count.ensures.value,
        c.length_with.ensures.value,
        ap length c.lay_out.ensures.words ∙ long_with _ _ _ c.requires.edit,
        ap length c.lay_out.ensures.values,
      );
}
