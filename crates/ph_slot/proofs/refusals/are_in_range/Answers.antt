use Rattle.std.proofs.Common.{ap, ◌∙◌}
use Rattle.std.specs.List.{list_all}
use Rattle.std.proofs.lemmas.List.Folds.{list_all-map}
use Rattle.ph_specs.specs.Coordinate.{fits}
use Rattle.ph_script.specs.Meaning.{number_of_coord}
use Rattle.ph_slot.proofs.refusals.are_in_range.Goals as goal

pub returns : goal.returns
returns c =
    rw list_all-map (c.all_fit.ensures ∙ ap (list_all (λ x. fits c.args.w (number_of_coord x))) c.as_slice.ensures.value)
