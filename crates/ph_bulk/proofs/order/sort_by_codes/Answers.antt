use Rattle.std.proofs.Common.{◌≡◌, arith, subst, length, rules}
use Rattle.std.specs.List.{AllByRecursion as Each}
use Rattle.std.proofs.lemmas.Fn.{always_returns_same}
use Rattle.ph_specs.specs.Table.{Row}
use Rattle.ph_bulk.specs.Order.{code_of}
use Rattle.ph_bulk.proofs.Codes.{rows-sorted, rows-stable}
use Rattle.ph_bulk.proofs.order.sort_by_codes.Goals as goal

pub returns-clause-sorted : goal.returns-clause-sorted
returns-clause-sorted g c =
    rows-sorted c.args.w g.row.D (omega arith) c.args.rows.now.items c.sort_by_cached_key.new.self.items
    (subst (Each (λ (r : Row). length r.point ≡ g.row.D)) c.as_slice.ensures.value c.have_dims.ensures) c.sort_by_cached_key.ensures.permutation
    (c.in_ok-sort_by_cached_key.ensures.sorted (λ (r : Row). code_of c.args.w r.point) (always_returns_same _ _ _ (λ a r f' k. search rules)))

pub returns-clause-stable : goal.returns-clause-stable
returns-clause-stable g c =
    rows-stable c.args.w g.row.D (omega arith) c.args.rows.now.items c.sort_by_cached_key.new.self.items
    (subst (Each (λ (r : Row). length r.point ≡ g.row.D)) c.as_slice.ensures.value c.have_dims.ensures) c.sort_by_cached_key.ensures.permutation
    (c.sort_by_cached_key.ensures.stable (λ (r : Row). code_of c.args.w r.point) (always_returns_same _ _ _ (λ a r f' k. search rules)))
