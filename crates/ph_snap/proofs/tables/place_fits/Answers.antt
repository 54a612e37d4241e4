use Rattle.std.proofs.Common.{◌≡◌, ◌∙◌, sym, ap, arith, false}
use Rattle.std.specs.Prelude.{nat_lt, ◌||◌, ◌==◌}
use Rattle.std.specs.List.{list_all}
use Rattle.std.proofs.lemmas.Bool.Decides.{nat_tests}
use Rattle.ph_bits.specs.Fields.{digits_row}
use Rattle.ph_snap.proofs.tables.place_fits.Goals as goal

pub returns-else-kind-gt0 : goal.returns-else-kind-gt0
returns-else-kind-gt0 c =
    let z : nat_lt 0 c.args.kind ≡ false = grind (arith, nat_tests) in
    c.is_zero.ensures ∙ ap (λ t. t || list_all (λ x. x == 0) (digits_row c.args.words.now c.args.at c.args.level c.args.dims)) (sym z)
