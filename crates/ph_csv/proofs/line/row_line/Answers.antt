use Rattle.std.proofs.Common.{◌≡◌, ◌∷◌, [], ◌++◌, ap, sym, refl, ◌∙◌, decimal}
use Rattle.ph_csv.specs.LineText.{coords_text}
use Rattle.ph_csv.proofs.LineTexts.{joined}
use Rattle.ph_csv.proofs.line.row_line.Goals as goal

pub returns : goal.returns
returns g c =
    let p = c.row.inside.point in
    let v = c.row.inside.value in
    let coords : c.push_coords.new.line.bytes ≡ coords_text p = c.push_coords.ensures.text ∙ ap (λ t. t ++ coords_text p) c.new-line.ensures in
    c.push_str-2.ensures.bytes ∙ ap (λ t. t ++ 10 ∷ []) (c.push_str.ensures.bytes ∙ rw (coords, c.format.ensures.text) refl)
    ∙ ap (λ t. t ++ 10 ∷ []) (sym (joined p (decimal v))) ∙ rw (← c.row.view_is) refl
