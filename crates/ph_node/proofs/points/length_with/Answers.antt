use Rattle.std.proofs.Common.{◌≡◌, ◌+◌, ◌-◌, ◌^◌, ◌≤◌, ap, refl, ◌∙◌, arith}
use Rattle.std.proofs.Math.Pow.{pow_mono}
use Rattle.ph_specs.specs.Record.{first_in}
use Rattle.ph_bits.specs.Edits.{words_wanted}
use Rattle.ph_node.proofs.Resized.{few_more, words_more}
use Rattle.ph_node.proofs.points.length_with.Goals as goal

pub size-requires-clause-entries : goal.size-requires-clause-entries
size-requires-clause-entries g c =
    few_more g.P.Dims.D c.args.block.now.words _ c.args.edit.now c.requires c.count-n.result c.D-dims.result
    c.words-words.result.now c.count-n.ensures c.words-words.ensures c.D-dims.ensures

pub returns-clause-value : goal.returns-clause-value
returns-clause-value g c =
    let ws = c.args.block.now.words in
    let n : c.count-n.result + 1 ≡ (first_in ws).entries + 1 = omega (arith, c.count-n.ensures, ap (λ u. (first_in u).entries) c.words-words.ensures) in
    let p : c.count-n.result + 1 - c.count-children.result + (first_in ws).children ≡ c.count-n.result + 1 =
    omega (arith, n, c.count-children.ensures.value, c.requires.children, c.requires.edit.source.laid.tables.kids) in
    c.size.ensures.value
    ∙ ap (λ d. words_wanted d c.level_in.result (c.count-n.result + 1) (c.count-n.result + 1 - c.count-children.result)) c.D-dims.ensures
    ∙ words_more g.P.Dims.D ws c.args.edit.now c.requires.edit c.requires.less c.requires.more c.requires.point _ _ _
    (c.level_in.ensures ∙ ap (λ u. (first_in u).level) c.words-words.ensures) n p

pub returns-clause-limit : goal.returns-clause-limit
returns-clause-limit g c =
    let wide : 2 ^ g.P.Dims.D ≤ 2 ^ 16 = pow_mono c.requires.edit.source.laid.tables.few in
    omega (
      arith,
      c.size.ensures.limit,
      wide,
      few_more g.P.Dims.D c.args.block.now.words _ c.args.edit.now c.requires c.count-n.result g.P.Dims.D
          c.words-words.result.now c.count-n.ensures c.words-words.ensures refl,
      c.count-n.ensures,
      ap (λ u. (first_in u).entries) c.words-words.ensures,
      c.count-children.ensures.value,
      c.requires.children,
      c.requires.edit.source.laid.tables.kids,
    )
