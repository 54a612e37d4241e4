-- The machine values of a `Handle`. Assumes `Logic`.
use Rattle.std.proofs.Common.{◌≡◌, List, [], ◌∷◌, ◌++◌, refl, subst}
use seplogic.Ra.Ura.{Ura}
use mir.Val.{Val, vstruct, vcons, vnil, of_list}
use types.Logic.{Logic}
use types.Kit.{Item, Goal, Seq, Step, step, ‵, ◌$◌, drop, fsplit, fjoin, fpick, fpack, feq_i, feq_l}
use denote.RattleType.{RattleType, Valss}
use denote.Builtin.{RawPtr}
use denote.RawPtr.{Ptr, block_ptr, null_ptr, ptr_val, Testable, lies_at, in_a_block}
use denote.Steps.{nothing}
use denote.Struct.Struct.{within}
use denote.Struct.Owning.{shape}
use Rattle.std.specs.Prelude.{ℕ, Option, Some, None}
use base.Fraction.{full_share}
use base.Logic.{ent, guard, via, fst∗, snd∗, never, guard_i}
use types.Logic.{sem}
use types.Kit.{given, use1, learn}
use contract.Monad.{fact_use}
use denote.Memory.{lone}
use mir.Raw.{raw as bare}
use Rattle.std.specs.Global.{Global}
use Rattle.std.proofs.GlobalToken.{dealloc_token-Testable}
use Rattle.std_alloc.specs.Box.Ownership.{box_owns}
use Rattle.ph_c.specs.contracts.trees.Tree.{the_row}
use Rattle.ph_c.specs.Handle.{handle_owns, freed_by_heap}
use Rattle.ph_c.specs.declared.trees.Tree.{Tree}
use Rattle.ph_c.specs.contracts.handle.Handle as handle
use mir.Syntax.{impl, tnil, dnil}
use Rattle.std_alloc.proofs.BoxSteps.Form.{Bx}
use Rattle.std.specs.contracts.alloc.Global as heap
use Rattle.std.proofs.alloc.Global.TheLaws as heap_laws
use Rattle.std.specs.contracts.impls.GlobalAllocator.TheImpl.{ghosts}
use Rattle.ph_c.proofs.trees.Tree.TheLaws as tree_laws
use Rattle.ph_c.specs.contracts.loose.Loose as loose
use Rattle.ph_c.proofs.Parts.{box_of}

-- the box of a tree, and its parts as a handle's calls take them
abbrev pub TreeBox : Bx
TreeBox = box_of the_row heap.the_row tree_laws.the_row_laws heap_laws.the_row_laws ghosts (impl [] tnil dnil) (impl [] tnil dnil)

abbrev pub TreeParts : RattleType
TreeParts = loose.the_row the_row heap.the_row ghosts

abbrev pub word : Ptr → Val
word p = vstruct (vcons (ptr_val p) vnil)

abbrev pub Row : RattleType
Row = handle.the_row

module _ {M : Type 1} {𝓤 : Ura M} {𝓛 : Logic 𝓤} {K : Type 0} {Γ : List (Item 𝓤)} {G : Goal 𝓤 𝓛.H} where
  pub handle_out : K → (d : Row.Denot) (vs : List Val) → (vs ≡ word d.at ∷ [] → Seq K 𝓛 (‵ (handle_owns d.at d.tree) ∷ Γ) G) → Seq K 𝓛 (‵ (Row.own_val d vs) ∷ Γ) G
  handle_out t d vs k =
      fsplit t $ fpick t (λ vss. fsplit t $ feq_l t (λ ev. fsplit t $ feq_l t (λ ep. drop t $ k (subst (λ (ps : List Val). vs ≡ vstruct (of_list (ps ++ [])) ∷ []) ep ev))))

  pub handle_in : K → (p : Ptr) (x : Option Tree) → Step K 𝓛 (‵ (Row.own_val (record { at = p; tree = x }) (word p ∷ [])) ∷ Γ) G (‵ (handle_owns p x) ∷ Γ) G
  handle_in t p x = step (λ s.
      nothing t $ feq_i t (List Val) (ptr_val p ∷ []) (ptr_val p ∷ []) refl $ fjoin t $ feq_i t (List Val) (word p ∷ []) (word p ∷ []) refl $ fjoin t $
      fpack t (Valss (RawPtr ∷ [])) (within (shape handle.the_type) (p, tt) (word p ∷ [])) (ptr_val p ∷ [], tt) $ fjoin t $ s)

abbrev pub boxed : Ptr → Tree → base.Fml.Fml
boxed = box_owns freed_by_heap the_row

module _ {M : Type 1} {𝓤 : Ura M} (𝓛 : Logic 𝓤) (a : Global) where
  pub tested : (p : Ptr) (x : Tree) → ent 𝓤 (sem 𝓛 (boxed p x)) (guard 𝓤 (Testable p) (sem 𝓛 (boxed p x)))
  tested p x = fact_use 𝓤 (Testable p) (via 𝓤 _ (snd∗ 𝓤 (sem 𝓛 (lies_at the_row full_share p x)) (sem 𝓛 (freed_by_heap (bare (lone the_row.mir)) p))) (dealloc_token-Testable 𝓛 a (bare (lone the_row.mir)) p)) (guard_i 𝓤 (Testable p) (sem 𝓛 (boxed p x)))

module _ {M : Type 1} {𝓤 : Ura M} {𝓛 : Logic 𝓤} {K : Type 0} {Γ : List (Item 𝓤)} {G : Goal 𝓤 𝓛.H} where
  pub either_owned : K → Global → (p : Ptr) (x : Option Tree) → (p ≡ null_ptr → x ≡ None → Seq K 𝓛 Γ G)
      → ((b o : ℕ) (y : Tree) → p ≡ block_ptr b o → x ≡ Some y → Testable (block_ptr b o) → Seq K 𝓛 (‵ (boxed (block_ptr b o) y) ∷ Γ) G) → Seq K 𝓛 (‵ (handle_owns p x) ∷ Γ) G
  either_owned t a p None none one = feq_l t (λ e. none e refl)
  either_owned t a p (Some y) none one = in_a_block t p (λ z. boxed z y) (fst∗ 𝓤 (never 𝓤) (sem 𝓛 (freed_by_heap (bare (lone the_row.mir)) null_ptr))) (λ b o e.
      use1 𝓛 (given (Testable (block_ptr b o)) (‵ (boxed (block_ptr b o) y))) (tested 𝓛 a (block_ptr b o) y) $ learn t (λ s. one b o y e refl s))
