use Rattle.std.proofs.Common.{◌/◌, ap, length, refl, subst, sym, take-append-drop}
use Rattle.ph_specs.specs.Boxes.{IsWindowFor, overlaps}
use Rattle.ph_specs.specs.Coordinate.{high_corner, low_corner}
use Rattle.ph_specs.proofs.laws.Pairs.{partners-found}
use Rattle.ph_join.proofs.partners.PartnersOf+Dim+D+Row+D.new.Goals as goal

pub returns-clause-pairs : goal.returns-clause-pairs
returns-clause-pairs g c =
    let p = c.first.inside.point in
    let from = c.bounds-from.result.0 in
    let to = c.bounds-from.result.1 in
    partners-found c.width.result c.args.tree.now.width g.row.D c.args.first p (low_corner p) (high_corner p) from to
    c.new.result.rows c.args.tree.now.table c.width.ensures c.root-root.ensures.table c.requires.boxes (ap (λ r. r.point) c.first.view_is) refl refl
    (subst (λ q. IsWindowFor c.width.result g.row.D (overlaps q) from to) (sym (take-append-drop (length p / 2) p)) c.bounds-from.ensures.window)
    c.new.ensures.rows
