use Rattle.std.proofs.Common.{sym, ◌∙◌, ap}
use Rattle.std.specs.Option.{option_copied}
use Rattle.ph_tree.proofs.Trees.{shape_is, table_is, none_is, empty_is, no_copy}
use Rattle.ph_tree.proofs.tree.PhTree.root.Goals as goal

pub returns-clause-table : goal.returns-clause-table
returns-clause-table g c = table_is c.self.view_is c.self.invariant

pub returns-clause-shape : goal.returns-clause-shape
returns-clause-shape g c = c.as_ref.ensures.value ∙ shape_is c.self.view_is c.self.invariant

pub returns-clause-empty : goal.returns-clause-empty
returns-clause-empty g c = (
  λ e. none_is c.self.view_is c.self.invariant (sym c.as_ref.ensures.value ∙ ap (λ o. option_copied o) e),
  λ e. no_copy c.as_ref.result (c.as_ref.ensures.value ∙ empty_is c.self.view_is c.self.invariant e),
)
