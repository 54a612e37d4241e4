-- What stands at the addresses one after the other, beside entries that rise.
use Rattle.std.proofs.Common.{◌≡◌, ℕ, ◌+◌, ◌^◌, ◌<◌, ◌≤◌, refl, sym, ◌∙◌, ap, subst, arith, List, [], ◌∷◌, length, drop, get_or, eq-eqb, ne_eqb}
use Rattle.std.specs.Prelude.{Option, Some, None, if◌then◌else◌}
use Rattle.std.proofs.lemmas.List.{drop_all, drop_more}
use Rattle.ph_specs.specs.Node.{Flat}
use Rattle.ph_specs.specs.Pack.{at_address}
use Rattle.ph_model.specs.Lawful.{IsBody}
use Rattle.ph_model.specs.Layout.{AreRising}
use Rattle.ph_linear.proofs.Writing.{no_flat}

-- no entry stands at an address from one on, up to another
abbrev pub IsAbsent : List Flat → ℕ → ℕ → Type 0
IsAbsent es from to = (a : ℕ) → from ≤ a → a < to → at_address a es ≡ None

-- no entry is at an address in front of all
none-below : (dims level least a : ℕ) (es : List Flat) → AreRising dims level least es → a < least → at_address a es ≡ None
none-below dims level least a [] h l = refl
none-below dims level least a (e ∷ es) h l =
    ap {B = Option Flat} (λ t. if t then Some e else at_address a es)
    (ne_eqb e.addr a (λ q. omega (arith, h.0, l, q))) ∙ none-below dims level (e.addr + 1) a es h.3 (omega (arith, h.0, l))

-- the addresses in front of one are passed, and with them the first i entries
pub record Passed (dims level addr i : ℕ) (es : List Flat) : Type 0 where
  pub limit : addr ≤ 2 ^ dims
  pub rise : AreRising dims level addr (drop i es)
  pub same : (a : ℕ) → addr ≤ a → at_address a es ≡ at_address a (drop i es)

-- the next entry stands at x
pub record Coming (dims level addr i x : ℕ) (es : List Flat) : Type 0 where
  pub order : addr ≤ x
  pub limit : x < 2 ^ dims
  pub body : IsBody dims level (get_or es i no_flat).body
  pub absent : IsAbsent es addr x
  pub there : at_address x es ≡ Some (get_or es i no_flat)
  pub passed : Passed dims level (x + 1) (i + 1) es

pub none-passed : (dims level : ℕ) (es : List Flat) → AreRising dims level 0 es → Passed dims level 0 0 es
none-passed dims level es h = record { limit = omega arith; rise = h; same = λ a l. refl }

pub coming : (dims level addr i x : ℕ) (es : List Flat) → i < length es → (get_or es i no_flat).addr ≡ x →
    Passed dims level addr i es → Coming dims level addr i x es
coming dims level addr i x es l z h =
    subst (λ t. Coming dims level addr i t es) z
    (next (get_or es i no_flat) refl (subst (AreRising dims level addr) d h.rise) (λ a m. h.same a m ∙ ap (at_address a) d))
  where
    d : drop i es ≡ get_or es i no_flat ∷ drop (i + 1) es
    d = drop_more es i no_flat l

    next : (e : Flat) → get_or es i no_flat ≡ e → AreRising dims level addr (e ∷ drop (i + 1) es) →
        ((a : ℕ) → addr ≤ a → at_address a es ≡ at_address a (e ∷ drop (i + 1) es)) → Coming dims level addr i e.addr es
    next e q r s = record {
      order = r.0;
      limit = r.1;
      body = subst (λ t. IsBody dims level t.body) (sym q) r.2;
      absent = λ a m b. s a m ∙ none-below dims level e.addr a (e ∷ drop (i + 1) es) (omega arith, r.1, r.2, r.3) b;
      there =
          s e.addr r.0
          ∙ ap {B = Option Flat} (λ t. if t then Some e else at_address e.addr (drop (i + 1) es)) (eq-eqb e.addr e.addr refl)
          ∙ ap {B = Option Flat} Some (sym q);
      passed = record {
        limit = omega (arith, r.1);
        rise = r.3;
        same = λ a m. s a (omega (arith, m, r.0)) ∙ ap {B = Option Flat} (λ t. if t then Some e else at_address a (drop (i + 1) es))
            (ne_eqb e.addr a (λ w. omega (arith, w, m)));
      };
    }

-- behind the last entry
pub absent-behind : (dims level addr i to : ℕ) (es : List Flat) → length es ≤ i → Passed dims level addr i es → IsAbsent es addr to
absent-behind dims level addr i to es l h a m b = h.same a m ∙ ap (at_address a) (drop_all i es l)
