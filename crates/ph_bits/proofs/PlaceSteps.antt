-- What the walks over places share. Assumes `Logic`.
--     place_out, place_in      one place is taken out of the row, and put back with whatever it has then
--     front_out, front_in      the first places, and those behind them
--     to_cells, of_cells      places with words are a row of cells
--     front_seen      a `&` to the places is one to the words of the first
--     of_room, to_room      room for an array is a row of places without words
use Rattle.std.proofs.Common.{◌≡◌, ℕ, zero, suc, ◌+◌, ◌*◌, ◌<◌, ◌≤◌, refl, sym, ◌∙◌, ap, arith, List, [], ◌∷◌, ◌++◌, length}
use Rattle.std.proofs.Common.{map, take, take-append-drop, replicate, get_or, slice_set, Option, Some, None}
use Rattle.std.proofs.Common.{drop as behind}
use seplogic.Ra.Ura.{Ura}
use base.Fraction.{full_share}
use base.Logic.{ent, sep, emp, id⊢, mono_r}
use base.Fml.{Fml, Lft, ftrue, fsep, fat, froom}
use mir.Syntax.{ty_int, ty_array, w64}
use mir.Val.{vint}
use types.Logic.{Logic, sem}
use types.SemTy.{cells}
use types.Kit.{‵, ◌⊛◌, ◌$◌, ◌∵◌, !, qed, by, move, keep, use1, use2, split, frame, fsplit, fjoin, rewrite, done}
use denote.Builtin.{u64}
use denote.Memory.{part_at, mem}
use denote.Plain.{uint_out}
use denote.Slice.{elements_shared}
use denote.Steps.{nothing}
use Rattle.ph_bits.specs.Memory.{place, places, place_lent, places_lent}

module _ {M : Type 1} {𝓤 : Ura M} (𝓛 : Logic 𝓤) (b : ℕ) where
  open 𝓛 use {H}

  -- a place forgets its word
  pub emptied : (o : ℕ) (c : Option ℕ) → ent 𝓤 (sem 𝓛 (place b o c)) (H.room (ty_int w64) b o)
  emptied o None = id⊢ 𝓤 _
  emptied o (Some x) = qed 𝓛 (‵ (place b o (Some x)) ∷ []) ∵
      use1 𝓛 (‵ (fat full_share (ty_int w64) b o (vint w64 x))) (uint_out 𝓛 full_share w64 x b o) $ by ! (𝓛.laws.at_room (ty_int w64) b o (vint w64 x))

  -- the places but for the i-th
  abbrev pub beside : ℕ → List (Option ℕ) → ℕ → Fml
  beside o [] i = ftrue
  beside o (c ∷ cs) zero = places b (o + 8) cs
  beside o (c ∷ cs) (suc i) = fsep (place b o c) (beside (o + 8) cs i)

  pub place_out : (cs : List (Option ℕ)) (i o : ℕ) → i < length cs
      → ent 𝓤 (sem 𝓛 (places b o cs)) (sep 𝓤 (sem 𝓛 (place b (i * 8 + o) (get_or cs i None))) (sem 𝓛 (beside o cs i)))
  place_out [] i o l = absurd (omega (arith, l))
  place_out (c ∷ cs) zero o l =
      let e : o ≡ zero * 8 + o = omega arith in
      qed 𝓛 (‵ (places b o (c ∷ cs)) ∷ []) ∵ fsplit ! $ rewrite ! 0 (λ k. ‵ (place b k c)) e refl $ done !
  place_out (c ∷ cs) (suc i) o l =
      let e : i * 8 + (o + 8) ≡ suc i * 8 + o = omega arith in
      qed 𝓛 (‵ (places b o (c ∷ cs)) ∷ []) ∵ fsplit ! $ move ! (1 ∷ []) $
      use1 𝓛 (‵ (place b (i * 8 + (o + 8)) (get_or cs i None)) ⊛ ‵ (beside (o + 8) cs i)) (place_out cs i (o + 8) (omega (arith, l))) $ split ! $
      rewrite ! 0 (λ k. ‵ (place b k (get_or cs i None))) e refl $ frame ! $ move ! (1 ∷ 0 ∷ []) $ fjoin ! $ done !

  pub place_in : (cs : List (Option ℕ)) (i o : ℕ) (c : Option ℕ) → i < length cs
      → ent 𝓤 (sep 𝓤 (sem 𝓛 (place b (i * 8 + o) c)) (sem 𝓛 (beside o cs i))) (sem 𝓛 (places b o (slice_set cs i c)))
  place_in [] i o c l = absurd (omega (arith, l))
  place_in (d ∷ cs) zero o c l =
      let e : zero * 8 + o ≡ o = omega arith in
      qed 𝓛 (‵ (place b (zero * 8 + o) c) ∷ ‵ (beside o (d ∷ cs) zero) ∷ []) ∵ rewrite ! 0 (λ k. ‵ (place b k c)) e refl $ fjoin ! $ done !
  place_in (d ∷ cs) (suc i) o c l =
      let e : suc i * 8 + o ≡ i * 8 + (o + 8) = omega arith in
      qed 𝓛 (‵ (place b (suc i * 8 + o) c) ∷ ‵ (beside o (d ∷ cs) (suc i)) ∷ []) ∵ rewrite ! 0 (λ k. ‵ (place b k c)) e refl $
      move ! (1 ∷ []) $ fsplit ! $ move ! (2 ∷ 1 ∷ []) $
      use2 𝓛 (‵ (places b (o + 8) (slice_set cs i c))) (place_in cs i (o + 8) c (omega (arith, l))) $ move ! (1 ∷ 0 ∷ []) $ fjoin ! $ done !

  pub front_out : (cs : List (Option ℕ)) (n o : ℕ) → n ≤ length cs
      → ent 𝓤 (sem 𝓛 (places b o cs)) (sep 𝓤 (sem 𝓛 (places b o (take n cs))) (sem 𝓛 (places b (n * 8 + o) (behind n cs))))
  front_out cs zero o l =
      let e : o ≡ zero * 8 + o = omega arith in
      qed 𝓛 (‵ (places b o cs) ∷ []) ∵ rewrite ! 0 (λ k. ‵ (places b k cs)) e refl $ use1 𝓛
      (‵ ftrue ⊛ ‵ (places b (zero * 8 + o) cs)) (alone cs (zero * 8 + o)) $ split ! $ done !
    where
      alone : (cs : List (Option ℕ)) (o : ℕ) → ent 𝓤 (sem 𝓛 (places b o cs)) (sep 𝓤 (sem 𝓛 ftrue) (sem 𝓛 (places b o cs)))
      alone cs o = qed 𝓛 (‵ (places b o cs) ∷ []) ∵ nothing ! $ done !
  front_out [] (suc n) o l = absurd (omega (arith, l))
  front_out (c ∷ cs) (suc n) o l =
      let e : n * 8 + (o + 8) ≡ suc n * 8 + o = omega arith in
      qed 𝓛 (‵ (places b o (c ∷ cs)) ∷ []) ∵ fsplit ! $ move ! (1 ∷ []) $
      use1 𝓛 (‵ (places b (o + 8) (take n cs)) ⊛ ‵ (places b (n * 8 + (o + 8)) (behind n cs))) (front_out cs n (o + 8) (omega (arith, l))) $ split ! $
      move ! (2 ∷ 0 ∷ []) $ fjoin ! $ frame ! $ rewrite ! 0 (λ k. ‵ (places b k (behind n cs))) e refl $ done !

  pub front_in : (xs cs : List (Option ℕ)) (o : ℕ)
      → ent 𝓤 (sep 𝓤 (sem 𝓛 (places b o xs)) (sem 𝓛 (places b (length xs * 8 + o) cs))) (sem 𝓛 (places b o (xs ++ cs)))
  front_in [] cs o =
      let e : zero * 8 + o ≡ o = omega arith in
      qed 𝓛 (‵ ftrue ∷ ‵ (places b (zero * 8 + o) cs) ∷ []) ∵ keep ! (1 ∷ []) $ rewrite ! 0 (λ k. ‵ (places b k cs)) e refl $ done !
  front_in (x ∷ xs) cs o =
      let e : suc (length xs) * 8 + o ≡ length xs * 8 + (o + 8) = omega arith in
      qed 𝓛 (‵ (places b o (x ∷ xs)) ∷ ‵ (places b (suc (length xs) * 8 + o) cs) ∷ []) ∵ fsplit ! $
      rewrite ! 2 (λ k. ‵ (places b k cs)) e refl $ move ! (1 ∷ 2 ∷ []) $
      use2 𝓛 (‵ (places b (o + 8) (xs ++ cs))) (front_in xs cs (o + 8)) $ move ! (1 ∷ 0 ∷ []) $ fjoin ! $ done !

  pub to_cells : (xs : List ℕ) (o : ℕ) → ent 𝓤 (sem 𝓛 (places b o (map Some xs))) (sem 𝓛 (cells (mem u64) xs b o))
  to_cells [] o = id⊢ 𝓤 (emp 𝓤)
  to_cells (x ∷ xs) o = mono_r 𝓤 (sem 𝓛 (part_at u64 full_share x b o)) (to_cells xs (o + 8))

  pub of_cells : (xs : List ℕ) (o : ℕ) → ent 𝓤 (sem 𝓛 (cells (mem u64) xs b o)) (sem 𝓛 (places b o (map Some xs)))
  of_cells [] o = id⊢ 𝓤 (emp 𝓤)
  of_cells (x ∷ xs) o = mono_r 𝓤 (sem 𝓛 (part_at u64 full_share x b o)) (of_cells xs (o + 8))

  pub of_room : (n o : ℕ) → ent 𝓤 (H.room (ty_array (ty_int w64) n) b o) (sem 𝓛 (places b o (replicate n None)))
  of_room zero o = qed 𝓛 (‵ (froom (ty_array (ty_int w64) 0) b o) ∷ []) ∵ keep ! [] $ done !
  of_room (suc n) o = qed 𝓛 (‵ (froom (ty_array (ty_int w64) (suc n)) b o) ∷ []) ∵
      use1 𝓛 (‵ (froom (ty_int w64) b o) ⊛ ‵ (froom (ty_array (ty_int w64) n) b (o + 8))) (𝓛.laws.room_uncons (ty_int w64) n b o) $ split ! $
      frame ! $ by ! (of_room n (o + 8))

  pub to_room : (cs : List (Option ℕ)) (o : ℕ) → ent 𝓤 (sem 𝓛 (places b o cs)) (H.room (ty_array (ty_int w64) (length cs)) b o)
  to_room [] o = 𝓛.laws.room_nil (ty_int w64) b o
  to_room (c ∷ cs) o = qed 𝓛 (‵ (places b o (c ∷ cs)) ∷ []) ∵ fsplit ! $
      use1 𝓛 (‵ (froom (ty_int w64) b o)) (emptied o c) $ move ! (1 ∷ []) $
      use1 𝓛 (‵ (froom (ty_array (ty_int w64) (length cs)) b (o + 8))) (to_room cs (o + 8)) $ move ! (1 ∷ []) $ by ! (𝓛.laws.room_cons (ty_int w64) (length cs) b o)

  pub front_seen : (κ : Lft) (cs : List (Option ℕ)) (xs : List ℕ) (n o : ℕ) → take n cs ≡ map Some xs
      → ent 𝓤 (sem 𝓛 (places_lent b o cs κ)) (sem 𝓛 (elements_shared u64 xs b o κ))
  front_seen κ cs xs n o e = qed 𝓛 (‵ (places_lent b o cs κ) ∷ []) ∵
      rewrite ! 0 (λ (l : List (Option ℕ)). ‵ (places_lent b o l κ)) (sym (take-append-drop n cs) ∙ ap (λ l. l ++ behind n cs) e) refl $ by ! (up_to xs (behind n cs) o)
    where
      up_to : (xs : List ℕ) (rest : List (Option ℕ)) (o : ℕ) → ent 𝓤 (sem 𝓛 (places_lent b o (map Some xs ++ rest) κ)) (sem 𝓛 (elements_shared u64 xs b o κ))
      up_to [] rest o = qed 𝓛 (‵ (places_lent b o rest κ) ∷ []) ∵ keep ! [] $ done !
      up_to (x ∷ xs) rest o = mono_r 𝓤 (sem 𝓛 (place_lent b o (Some x) κ)) (up_to xs rest (o + 8))
