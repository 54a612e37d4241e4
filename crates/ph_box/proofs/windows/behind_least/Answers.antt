use Rattle.std.proofs.Common.{rules, arith, ◌≡◌, ◌++◌, ◌/◌, ◌∙◌, ap, length, replicate}
use Rattle.std.proofs.lemmas.List.{take-replicate}
use Rattle.std.specs.Prelude.{take}
use Rattle.ph_specs.specs.Coordinate.{least}
use Rattle.ph_box.proofs.windows.behind_least.Goals as goal

pub returns : goal.returns
returns g c =
    let half : g.row.D / 2 ≡ length c.args.p.now = omega (arith, c.requires.half) in
    let made : c.new.result ≡ take (g.row.D / 2) (replicate g.row.D (least c.args.w)) ++ c.args.p.now = search rules in
    made ∙ ap (λ q. q ++ c.args.p.now) (take-replicate (g.row.D / 2) g.row.D (least c.args.w) (omega arith) ∙ ap (λ k. replicate k (least c.args.w)) half)
