-- Which removals are edits.
use Rattle.std.proofs.Common.{◌≡◌, ℕ, List, sym, ap, cond}
use Rattle.std.specs.Prelude.{ℤ, Some, None, is_some}
use Rattle.ph_specs.specs.Table.{find, del}
use Rattle.ph_specs.specs.Past.{Past, after_edit, del_kept}

pub del-edit : (k : Past) (p : List ℤ) (v : ℕ) → find k.table p ≡ Some v → after_edit k (del k.table p) ≡ del_kept k p
del-edit k p v f = ap (λ o. cond (is_some o) (after_edit k (del k.table p)) k) (sym f)

pub del-idle : (k : Past) (p : List ℤ) → find k.table p ≡ None → k ≡ del_kept k p
del-idle k p f = ap (λ o. cond (is_some o) (after_edit k (del k.table p)) k) (sym f)
