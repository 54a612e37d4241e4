-- The frames of a path, as a walk goes on.
use Rattle.std.proofs.Common.{◌≡◌, ℕ, zero, suc, ◌+◌, ◌<◌, ◌≤◌, List, [], ◌∷◌, ◌++◌, length, drop, refl, sym, ◌∙◌, ap, arith, add-one}
use Rattle.std.specs.Prelude.{Option, Some, None, slice_get}
use Rattle.ph_specs.specs.Node.{Entries, PlainNode}
use Rattle.ph_model.specs.EntryList.{Entry, What, node, chained, in_front, entries}
use Rattle.ph_model.specs.EntryEdits.{what_at}
use Rattle.ph_model.specs.PutTree.{body_above}
use Rattle.ph_node.specs.Merge.{addr_at}
use Rattle.ph_node.specs.Shown.{shown}
use Rattle.ph_node.specs.Split.{body_at}
use Rattle.ph_node.specs.Spots.{IsSpot}
use Rattle.ph_node.specs.declared.spots.Spot.{Spot}
use Rattle.ph_path.specs.declared.frame.FrameOf.{FrameOf}
use Rattle.ph_path.specs.Path.{AreOver, IsPath, found_in, found, counted}

-- ---- the last frame

module _ {N M : Type 0} where
  pub no-frames : (fs : List (FrameOf N M)) (o : Option (FrameOf N M)) → o ≡ slice_get fs 0 → o ≡ None → fs ≡ []
  no-frames [] o e n = refl
  no-frames (f ∷ fs) o e n = absurd (let no : ◌≡◌ {A = Option (FrameOf N M)} (Some f) None = sym e ∙ n in cc)

  pub last-frame : (fs : List (FrameOf N M)) (o : Option (FrameOf N M)) (f : FrameOf N M) → o ≡ slice_get fs 0 → o ≡ Some f → fs ≡ f ∷ drop 1 fs
  last-frame [] o f e s = absurd (let no : ◌≡◌ {A = Option (FrameOf N M)} None (Some f) = sym e ∙ s in cc)
  last-frame (g ∷ fs) o f e s =
      let no : ◌≡◌ {A = Option (FrameOf N M)} (Some g) (Some f) = sym e ∙ s in
      let same : g ≡ f = cc in
      ap {B = List (FrameOf N M)} (λ x. x ∷ fs) same

-- ---- entries one by one

pub drop-at : {X : Type 0} (es : List X) (i : ℕ) (x : X) → slice_get es i ≡ Some x → drop i es ≡ x ∷ drop (i + 1) es
drop-at {X = X} es i x g = by_suc es i g ∙ ap {B = List X} (λ n. x ∷ drop n es) (sym (add-one i))
  where
    by_suc : (es : List X) (i : ℕ) → slice_get es i ≡ Some x → drop i es ≡ x ∷ drop (suc i) es
    by_suc [] i g = absurd (let no : ◌≡◌ {A = Option X} None (Some x) = g in cc)
    by_suc (y ∷ es) zero g = let s : y ≡ x = cc in ap {B = List X} (λ t. t ∷ es) s
    by_suc (y ∷ es) (suc i) g = by_suc es i g

pub entry-first : (es : List Entry) (i : ℕ) (x : Entry) → slice_get es i ≡ Some x → chained (drop i es) ≡ in_front x.addr x.body x.what (chained (drop (i + 1) es))
entry-first es i x g = ap chained (drop-at es i x g)

-- the entry that stands at a spot
pub read-entry : (es : List Entry) (s : Spot) {i : ℕ} {o : What} → s.place ≡ i → IsSpot es s →
    o ≡ what_at es s.place → slice_get es i ≡ Some (record { addr = s.addr; body = body_at es s.place; what = o })
read-entry es s at h e =
    ap (slice_get es) (sym at) ∙ here es s.place h.within ∙
    ap {B = Option Entry} (λ a. Some (record { addr = a; body = body_at es s.place; what = what_at es s.place }))
    (sym h.address)
    ∙ ap {B = Option Entry} (λ o. Some (record { addr = s.addr; body = body_at es s.place; what = o })) (sym e)
  where
    here : (es : List Entry) (i : ℕ) → i < length es → slice_get es i ≡ Some (record { addr = addr_at es i; body = body_at es i; what = what_at es i })
    here [] i l = absurd (omega (arith, l))
    here (x ∷ es) zero l = refl
    here (x ∷ es) (suc i) l = here es i (omega (arith, l))

-- ---- other digits below the levels of the frames

module _ {M X : Type 0} (below : ℕ → List ℕ → Entries → List X) (b : ℕ) (old new : List ℕ) (same : (c : ℕ) → b ≤ c → body_above c new ≡ body_above c old) where
  in-kept : (f : FrameOf PlainNode M) → b ≤ (shown f.node).level → found_in below new f ≡ found_in below old f
  in-kept f l = ap (λ t. below (shown f.node).level t (chained (drop f.place (entries (shown f.node))))) (same (shown f.node).level l)

  pub found-kept : (fs : List (FrameOf PlainNode M)) → AreOver b fs → found below new fs ≡ found below old fs
  found-kept [] h = refl
  found-kept (f ∷ fs) h =
      ap (λ t. t ++ found below new fs) (in-kept f (omega (arith, h.0))) ∙ ap (λ t. found_in below old f ++ t) (found-kept fs h.1)

  pub counted-kept : (fs : List (FrameOf PlainNode M)) → AreOver b fs → counted below new fs ≡ counted below old fs
  counted-kept [] h = refl
  counted-kept (f ∷ fs) h =
      ap (λ t. length t + counted below new fs) (in-kept f (omega (arith, h.0))) ∙ ap (λ t. length (found_in below old f) + t) (counted-kept fs h.1)

  -- behind an entry of the last frame's node, which was joined to the digits
  module _ (f : FrameOf PlainNode M) (fs : List (FrameOf PlainNode M)) (i : ℕ) (l : b ≤ (shown f.node).level) (h : AreOver b fs) where
    pub found-behind : below (shown f.node).level (body_above (shown f.node).level old)
        (chained (drop i (entries (shown f.node)))) ++ found below old fs ≡ found below new (record f { place = i } ∷ fs)
    found-behind =
        sym (ap (λ t. t ++ found below new fs) (in-kept (record f { place = i }) l) ∙ ap (λ t. found_in below old (record f { place = i }) ++ t) (found-kept fs h))

    pub counted-behind : length (below (shown f.node).level (body_above (shown f.node).level old)
        (chained (drop i (entries (shown f.node))))) + counted below old fs ≡ counted below new (record f { place = i } ∷ fs)
    counted-behind =
        sym (ap (λ t. length t + counted below new fs) (in-kept (record f { place = i }) l) ∙
        ap (λ t. length (found_in below old (record f { place = i })) + t) (counted-kept fs h))

pub path-kept : {M : Type 0} (b : ℕ) (IsOld IsNew : FrameOf PlainNode M → Type 0) →
    ((f : FrameOf PlainNode M) → b ≤ (shown f.node).level → IsOld f → IsNew f) → (fs : List (FrameOf PlainNode M)) →
    AreOver b fs → IsPath IsOld fs → IsPath IsNew fs
path-kept b IsOld IsNew k [] h p = tt
path-kept b IsOld IsNew k (f ∷ fs) h p = (k f (omega (arith, h.0)) p.0, p.1, path-kept b IsOld IsNew k fs h.1 p.2)

-- ---- how many there are

pub few-frames : {M : Type 0} (w b : ℕ) (IsFrame : FrameOf PlainNode M → Type 0) →
    ((f : FrameOf PlainNode M) → IsFrame f → (shown f.node).level < w) → (fs : List (FrameOf PlainNode M)) → b < w →
    AreOver b fs → IsPath IsFrame fs → length fs + b + 1 ≤ w
few-frames w b IsFrame low [] l h k = omega (arith, l)
few-frames w b IsFrame low (f ∷ fs) l h k =
    let ih : length fs + (shown f.node).level + 1 ≤ w = few-frames w (shown f.node).level IsFrame low fs (low f k.0) k.1 k.2 in
    omega (arith, ih, h.0)

pub over-less : {M : Type 0} (b c : ℕ) (fs : List (FrameOf PlainNode M)) → c ≤ b → AreOver b fs → AreOver c fs
over-less b c [] l h = tt
over-less b c (f ∷ fs) l h = (omega (arith, l, h.0), over-less b c fs l h.1)
