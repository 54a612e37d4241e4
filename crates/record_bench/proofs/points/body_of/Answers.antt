use Rattle.std.proofs.Common.{◌≡◌, ◌<◌, ◌+◌, ◌++◌, ◌∙◌, ℕ, List, ap, subst, length, drop, replicate, arith}
use Rattle.std.proofs.lemmas.List.{length-replicate}
use Rattle.std.proofs.lemmas.List.Edits.{fill_none, fill_more}
use Rattle.std.specs.Prelude.{slice_set}
use Rattle.record_bench.proofs.points.body_of.Goals as goal

abbrev zeros : List ℕ
zeros = replicate 16 0

pub fields-init : goal.fields-init
fields-init c = record { filled = fill_none zeros c.args.field }

pub fields-preserved : goal.fields-preserved
fields-preserved c =
    let short : c.fields.i < length zeros = omega (arith, c.fields-test.true, c.requires, length-replicate {A = ℕ} 16 0) in
    record { filled = ap (λ body. slice_set body c.fields.i c.args.field) c.fields.invariant.filled ∙ fill_more c.fields.i c.args.field zeros short }

pub returns : goal.returns
returns c =
    let all : c.fields.i ≡ c.args.dims = omega (arith, c.fields-test.false, c.fields.auto.i-end) in
    subst (λ n. c.fields.body ≡ replicate n c.args.field ++ drop n zeros) all c.fields.invariant.filled
