use Rattle.std.proofs.Common.{rules, arith, ◌≡◌, ◌++◌, ◌/◌, ◌-◌, ◌∙◌, ap, drop, length, replicate}
use Rattle.std.proofs.lemmas.List.{drop-replicate}
use Rattle.ph_specs.specs.Coordinate.{greatest}
use Rattle.ph_box.proofs.windows.before_greatest.Goals as goal

pub returns : goal.returns
returns g c =
    let half : g.row.D - g.row.D / 2 ≡ length c.args.p.now = omega (arith, c.requires.half) in
    let made : c.new.result ≡ c.args.p.now ++ drop (g.row.D / 2) (replicate g.row.D (greatest c.args.w)) = search rules in
    made ∙ ap (λ q. c.args.p.now ++ q) (drop-replicate (g.row.D / 2) g.row.D (greatest c.args.w) ∙ ap (λ k. replicate k (greatest c.args.w)) half)
