use Rattle.std.proofs.Common.{length, ap, arith}
use Rattle.ph_import.proofs.Merged.{rows-within}
use Rattle.ph_import.proofs.imports.import_rows.Goals as goal

pub returns-then-len-clause-limit : goal.returns-then-len-clause-limit
returns-then-len-clause-limit g c =
    let k = c.args.kept.now in
    omega (
      arith,
      c.renew.ensures.limit,
      rows-within k.width (length c.args.rows.items) k.table
          (omega (arith, c.width.ensures, c.bits-bits.ensures.value, c.bits-bits.ensures.some, ap (λ u. u.width) c.tree.ensures))
          (omega (arith, c.if-len.true, c.len-2.ensures.value, c.len-3.ensures, ap (λ u. length u.table) c.tree-3.ensures)),
    )
