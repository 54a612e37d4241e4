-- A window as a set of points: what its masks rule out, and what they let through.
use Rattle.std.proofs.Common.{◌≡◌, ℕ, ◌+◌, ◌-◌, ◌≤◌, List, length, sym, ◌∙◌, ap, arith, true, false, bit_and}
use Rattle.std.specs.Prelude.{ℤ, Some, slice_get}
use Rattle.ph_specs.specs.Coordinate.{IsPoint}
use Rattle.ph_specs.specs.TreeRows.{put_together}
use Rattle.ph_model.specs.Lawful.{IsLawfulFrom, IsLawfulEntry, IsLawfulWhat}
use Rattle.ph_model.specs.Masks.{masks, fits_masks, fits_some}
use Rattle.ph_specs.specs.Node.{PlainNode, end}
use Rattle.ph_model.specs.EntryList.{What, value, node, Entry, entries}
use Rattle.ph_specs.specs.Region.{meets_window}
use Rattle.ph_specs.specs.Table.{row}
use Rattle.ph_specs.specs.Window.{is_between}
use Rattle.ph_model.specs.WindowWalk.{node_region, is_open}
use Rattle.ph_model.proofs.lemmas.Bounds.{small, small-point}
use Rattle.ph_model.proofs.lemmas.Joined.{length-put_together}
use Rattle.ph_model.proofs.lemmas.RowsBehind.{under-point, point-address}
use Rattle.ph_model.proofs.laws.EntryLists.{entry-lawful}
use Rattle.ph_model.proofs.laws.MaskBounds.{AreMasks, masks-fit, fits-parts}
use Rattle.ph_model.proofs.laws.Regions.{meets-point, point-meets}
use Rattle.ph_model.proofs.laws.WindowWalk.{At, at-corner, row-opens, child-meets, known-small, refuted}
use Rattle.ph_node.specs.Kinds.{is_node}
use Rattle.ph_path.specs.Known.{point_at}
use Rattle.ph_walk.specs.Area.{IsArea, HoldsNone, MayHold, AreOut, IsNext}
use Rattle.ph_walk.proofs.Outs.{out-then, at-one, out-one}
use Rattle.ph_window.specs.Corners.{window_of}
use Rattle.ph_window.specs.Seek.{AreShut, IsNextEntry, CanSeek}

-- a region has a point in the window exactly where it meets it
pub window-exact : (d w : ℕ) (lo hi : List ℤ) → IsPoint w d lo → IsPoint w d hi → IsArea d (window_of w lo hi)
window-exact d w lo hi p q r l c =
    ((λ t. let f = meets-point w d r lo hi l c p q t in (f.0, f.1.0, f.1.1, f.1.2)), (λ f. point-meets w d r lo hi f.0 l c p q (f.1, f.2, f.3)))

module _ {d w b : ℕ} {above : List ℕ} {lo hi : List ℤ} (t : At w d b above lo hi) {l u : ℕ} (m : masks w (node_region w b above) lo hi ≡ Some (l, u)) where
  are-masks : AreMasks w d (node_region w b above) lo hi (l, u)
  are-masks = masks-fit w d (node_region w b above) lo hi (l, u) t.within (at-corner w d b above lo hi t) t.low t.high m

  lower-part : bit_and l u ≡ l
  lower-part = (fits-parts l l u are-masks.lower_fits).1

  -- a node can be looked through by them
  pub can-seek : (n : PlainNode) → IsLawfulFrom d n.level 0 n.chain → CanSeek d l u n
  can-seek n h = record { masks = lower-part; upper_small = are-masks.upper_small; lawful = h }

  pub open-fits : (a : ℕ) → is_open w lo hi b above a ≡ fits_masks a l u
  open-fits a = ap (λ o. fits_some o a) m

  module _ (x : Entry) (k : IsLawfulEntry d b x) where
    abbrev joined : List ℕ
    joined = put_together b x.addr above x.body

    child-fits : (n : _) → IsLawfulWhat d b x.body (node n) → meets_window w (node_region w (b - 1) (put_together b x.addr above x.body)) lo hi ≡ fits_masks x.addr l u
    child-fits n h =
        child-meets w d b n.level x.addr above x.body lo hi n.chain end 0 t (omega arith, k.address, k.body, h.0, h.1, h.2, h.3, tt)
        ∙ open-fits x.addr

    none-by : (o : What) → IsLawfulWhat d b x.body o → fits_masks x.addr l u ≡ false → HoldsNone (window_of w lo hi) b (put_together b x.addr above x.body) o
    none-by (value v) h f =
        let s : small w (put_together b x.addr above x.body) = known-small w d b x.addr above x.body t.within t.known t.room k.body in
        let long : length (put_together b x.addr above x.body) ≡ d = length-put_together b x.addr above x.body (t.known.long ∙ sym k.body.0) ∙ t.known.long in
        refuted (is_between lo hi (point_at w joined)) (is_open w lo hi b above x.addr)
        (row-opens w d b x.addr above lo hi (row (point_at w joined) v) t k.address
        (small-point w d joined (omega (arith, t.within)) long s)
        (under-point w d b x.addr v above x.body t.known k.body)
        (point-address w d b x.addr v above x.body t.known k.body k.address))
        (open-fits x.addr ∙ f)
    none-by (node n) h f = child-fits n h ∙ f

    may-by : (o : What) → IsLawfulWhat d b x.body o → fits_masks x.addr l u ≡ true → MayHold (window_of w lo hi) b (put_together b x.addr above x.body) o
    may-by (value v) h f = tt
    may-by (node n) h f = child-fits n h ∙ f

  -- between a place and itself nothing stands
  pub out-none : (es : List Entry) (p : ℕ) → AreOut (window_of w lo hi) b above es p p
  out-none es p j x r s g = absurd (omega (arith, r, s))

  -- what the masks pass over holds nothing of the window, and what they let through may
  module _ (n : PlainNode) (lawful : IsLawfulFrom d b 0 n.chain) (p q : ℕ) (y : p ≤ q) (h : AreOut (window_of w lo hi) b above (entries n) p q) where
    each : (j : ℕ) (x : Entry) → slice_get (entries n) j ≡ Some x → IsLawfulEntry d b x
    each j x g = entry-lawful d b 0 j n.chain x lawful g

    shut-out : (i : ℕ) → AreShut l u (entries n) q i → AreOut (window_of w lo hi) b above (entries n) p i
    shut-out i s = out-then (window_of w lo hi) b above (entries n) p q i h (λ j x r v g. none-by x (each j x g) x.what (each j x g).held (s j x r v g))

    pub none-left : AreShut l u (entries n) q (length (entries n)) → AreOut (window_of w lo hi) b above (entries n) p (length (entries n))
    none-left s = shut-out (length (entries n)) s

    module _ {i : ℕ} (k : IsNextEntry l u (entries n) q i) where
      pub next-on : IsNext (window_of w lo hi) b above (entries n) p i
      next-on =
          let x : Entry = k.entry.0 in
          let own : IsLawfulEntry d b x = each i x k.entry.1 in
          record {
            behind = omega (arith, y, k.behind);
            may = at-one (entries n) i x k.entry.1 (λ x. MayHold (window_of w lo hi) b (put_together b x.addr above x.body) x.what)
                (may-by x own x.what own.held k.entry.2);
            out = shut-out i k.shut;
          }

      -- and over a point outside
      pub out-on : (x : Entry) → slice_get (entries n) i ≡ Some x → is_node x.what ≡ false →
          is_between lo hi (point_at w (put_together b x.addr above x.body)) ≡ false →
          AreOut (window_of w lo hi) b above (entries n) p (i + 1)
      out-on x at kind out =
          out-then (window_of w lo hi) b above (entries n) p i (i + 1) next-on.out (out-one (window_of w lo hi) b above (entries n) i x at (none x.what kind))
        where
          none : (o : What) → is_node o ≡ false → HoldsNone (window_of w lo hi) b (put_together b x.addr above x.body) o
          none (value v) e = out
          none (node n) e = absurd cc
