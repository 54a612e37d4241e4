use Rattle.std.proofs.Common.{◌≡◌, ap, sym, ◌∙◌, true, false}
use Rattle.std.specs.Option.{unwrap_or}
use Rattle.ph_model.specs.Layout.{entries_as}
use Rattle.ph_model.proofs.laws.WordDigits.{each-fits}
use Rattle.ph_bits.specs.Packed.{rank_at}
use Rattle.ph_cube.proofs.Entries.{kind-is}
use Rattle.ph_cube.proofs.reads.rank.Goals as goal

pub returns : goal.returns
returns c child e =
    let kind = kind-is c.args.dims c.args.words.now c.address_of-addr.result c.args.i c.requires.record
    (each-fits c.args.words.now c.type_inv.words) c.requires.within c.address_of-addr.ensures in
    let same : c.child_at.result ≡ child = c.child_at.ensures ∙ ap (λ o. unwrap_or o false) (sym kind ∙ e) in
    c.rank_of.ensures ∙ ap (λ t. rank_at t (entries_as true c.args.dims c.args.words.now) c.args.i) same
