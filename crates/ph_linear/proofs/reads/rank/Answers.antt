use Rattle.std.proofs.Common.{◌≡◌, ap, sym, ◌∙◌, false}
use Rattle.std.specs.Option.{unwrap_or}
use Rattle.ph_model.specs.Layout.{entries_as}
use Rattle.ph_bits.specs.Packed.{rank_at}
use Rattle.ph_linear.proofs.Ranks.{kind-is}
use Rattle.ph_linear.proofs.reads.rank.Goals as goal

pub returns : goal.returns
returns c child e =
    let same : c.child_at.result ≡ child = c.child_at.ensures ∙ ap (λ o. unwrap_or o false) (sym (kind-is c.args.dims c.args.words.now c.args.i c.requires.within) ∙ e) in
    c.rank_of.ensures ∙ ap (λ t. rank_at t (entries_as false c.args.dims c.args.words.now) c.args.i) same
