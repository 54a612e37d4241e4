-- Entries and lists of entries are the same, and lawful entries are lawful one by one.
use Rattle.std.proofs.Common.{◌≡◌, ℕ, zero, suc, ◌+◌, refl, ap, ◌∙◌, subst, List, [], ◌∷◌}
use Rattle.std.specs.Prelude.{Option, Some, None, slice_get}
use Rattle.std.specs.List.{AllByRecursion as Each}
use Rattle.ph_specs.specs.Node.{Entries, end, point, child, PlainNode}
use Rattle.ph_model.specs.EntryList.{Entry, What, value, node, listed, chained, in_front, node_of, entries}
use Rattle.ph_model.specs.Lawful.{IsLawfulFrom, IsLawfulEntry}

pub chained-listed : (e : Entries) → chained (listed e) ≡ e
chained-listed end = refl
chained-listed (point a body v rest) = ap {B = Entries} (λ t. point a body v t) (chained-listed rest)
chained-listed (child a body level chain rest) = ap {B = Entries} (λ t. child a body level chain t) (chained-listed rest)

pub listed-chained : (es : List Entry) → listed (chained es) ≡ es
listed-chained [] = refl
listed-chained (e ∷ es) = front e.what ∙ ap {B = List Entry} (λ t. e ∷ t) (listed-chained es)
  where
    front : (w : What) → listed (in_front e.addr e.body w (chained es)) ≡ record { addr = e.addr; body = e.body; what = w } ∷ listed (chained es)
    front (value v) = refl
    front (node n) = refl

pub node_of-entries : (n : PlainNode) → node_of n.level (entries n) ≡ n
node_of-entries n = ap {B = PlainNode} (λ t. record { level = n.level; chain = t }) (chained-listed n.chain)

-- ---- lawful entries, one by one

pub entries-lawful : (dims level least : ℕ) (e : Entries) → IsLawfulFrom dims level least e → Each (IsLawfulEntry dims level) (listed e)
entries-lawful dims level least end h = tt
entries-lawful dims level least (point a body v rest) h =
    (record { address = h.1; body = h.2; held = h.4 }, entries-lawful dims level (a + 1) rest h.3)
entries-lawful dims level least (child a body below chain rest) h =
    (record { address = h.1; body = h.2; held = (h.3, h.4, h.5, h.6) }, entries-lawful dims level (a + 1) rest h.7)

pub entry-lawful : (dims level least i : ℕ) (es : Entries) (e : Entry) → IsLawfulFrom dims level least es → slice_get (listed es) i ≡ Some e → IsLawfulEntry dims level e
entry-lawful dims level least i es e h g = at (listed es) i (entries-lawful dims level least es h) g
  where
    at : (xs : List Entry) (i : ℕ) → Each (IsLawfulEntry dims level) xs → slice_get xs i ≡ Some e → IsLawfulEntry dims level e
    at [] i h g = absurd (let no : ◌≡◌ {A = Option Entry} None (Some e) = g in cc)
    at (x ∷ xs) zero h g = let s : x ≡ e = cc in subst (IsLawfulEntry dims level) s h.0
    at (x ∷ xs) (suc i) h g = at xs i h.1 g
