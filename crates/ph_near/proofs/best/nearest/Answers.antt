use Rattle.std.proofs.Common.{◌≡◌, ◌+◌, ◌≤◌, arith, rules, subst, length}
use Rattle.std.specs.Prelude.{IfOk}
use Rattle.std.specs.Option.{option_copied}
use Rattle.ph_near.proofs.Starts.{root-lawful, center-body, near-table, reach-table}
use Rattle.ph_near.proofs.NearestRows.{nearest-rows}
use Rattle.ph_near.proofs.best.nearest.Goals as goal

pub search-requires : goal.search-requires
search-requires g c = (
  omega arith,
  (
    search rules,
    (
      search rules,
      (
        search rules,
        (
          c.root.ensures.some,
          (
            c.root.ensures.few,
            (
              center-body c.width-w.result c.args.tree.now.width g.row.D c.args.n (option_copied c.root.result)
                  c.args.tree.now.table c.args.q c.offsets.result
                  (omega (arith, c.bits-bits.ensures.value, c.bits-bits.ensures.some)) c.width-w.ensures
                  c.root.ensures.shape c.root.ensures.table c.requires.point c.offsets.ensures,
              root-lawful c.width-w.result c.args.tree.now.width g.row.D c.args.n (option_copied c.root.result)
                  c.args.tree.now.table c.args.q c.offsets.result
                  (omega (arith, c.bits-bits.ensures.value, c.bits-bits.ensures.some)) c.width-w.ensures
                  c.root.ensures.shape c.root.ensures.table c.requires.point c.offsets.ensures,
            ),
          ),
        ),
      ),
    ),
  ),
)

pub returns-clause-hits : goal.returns-clause-hits
returns-clause-hits g c =
    subst (λ r. IfOk c.search.result (λ hits. hits.items ≡ r))
    (near-table c.width-w.result c.args.tree.now.width g.row.D c.args.n (option_copied c.root.result)
    c.args.tree.now.table c.args.q c.offsets.result
    (omega (arith, c.bits-bits.ensures.value, c.bits-bits.ensures.some)) c.width-w.ensures c.root.ensures.shape
    c.root.ensures.table c.requires.point c.offsets.ensures) c.search.ensures.hits

pub returns-clause-nearest : goal.returns-clause-nearest
returns-clause-nearest g c =
    nearest-rows (λ hits. hits.items) c.args.tree.now.width g.row.D c.args.q c.args.n c.args.tree.now.table c.search.result c.root.ensures.table
    (subst (λ r. IfOk c.search.result (λ hits. hits.items ≡ r))
    (near-table c.width-w.result c.args.tree.now.width g.row.D c.args.n (option_copied c.root.result)
    c.args.tree.now.table c.args.q c.offsets.result
    (omega (arith, c.bits-bits.ensures.value, c.bits-bits.ensures.some)) c.width-w.ensures c.root.ensures.shape
    c.root.ensures.table c.requires.point c.offsets.ensures) c.search.ensures.hits)

pub returns-clause-visits : goal.returns-clause-visits
returns-clause-visits g c =
    subst (λ r. c.search.new.visits ≤ c.args.visits.now + length r)
    (reach-table c.width-w.result c.args.tree.now.width g.row.D c.args.n (option_copied c.root.result)
    c.args.tree.now.table c.args.q c.offsets.result
    (omega (arith, c.bits-bits.ensures.value, c.bits-bits.ensures.some)) c.width-w.ensures c.root.ensures.shape
    c.root.ensures.table c.requires.point c.offsets.ensures) c.search.ensures.visits
