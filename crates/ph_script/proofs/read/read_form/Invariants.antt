use Rattle.std.proofs.Common.{◌≡◌, [], drop, map}
use Rattle.std.specs.Prelude.{false, None}
use Rattle.ph_script.specs.declared.command.Bad.TheVariants.{Word}
use Rattle.std.specs.List.{AllByRecursion}
use Rattle.ph_specs.specs.Lines.{words}
use Rattle.ph_specs.specs.Command.{forms}
use Rattle.ph_script.specs.Forms.{form_of, read_among, IsRow}
use Rattle.ph_script.proofs.read.read_form.Given as goal

abbrev pub invariant-forms : goal.invariant-forms
invariant-forms l = record {
  value : read_among l.refused l.word (words l.text) (map (form_of l.dims) (drop l.form-index l.form-items)) ≡ read_among Word l.word (words l.text) (forms l.dims);
  rows : AllByRecursion IsRow (drop l.form-index l.form-items);
  coords : l.coords ≡ [];
  counts : l.parts.counts.items ≡ [];
  name : l.parts.name ≡ None;
  file : l.parts.file ≡ None;
  second : l.parts.is_second ≡ false;
}
