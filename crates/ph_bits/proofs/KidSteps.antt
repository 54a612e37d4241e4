-- What the walks over values share. Assumes `Logic`.
--     item      the i-th value, whatever stands for none
--     kid_seen      a `&` to the values is one to each of them
--     kid_out, kid_in      one value is taken out of the row, and put back with another in its place
--     to_array, of_array      values as an array of them
--     to_space, of_space      places as room for such an array
--     at_type      what a call of the values is made at
--     words_stay, words_go      a start and two words, which calls that show or lend values take behind the reference
--     shown_stay, shown_go      the same with a `&` to the values in front
--     both_stay, both_go      the references of the values and of the places, which calls that move a value take in front
use Rattle.std.proofs.Common.{◌≡◌, ℕ, zero, suc, ◌+◌, ◌*◌, ◌<◌, refl, sym, arith, List, [], ◌∷◌, length, replicate, slice_index_or, slice_set, subst, Option, None}
use Rattle.std.proofs.Common.{drop as behind}
use seplogic.Ra.Ura.{Ura}
use base.Fraction.{full_share}
use base.Logic.{ent, sep, ex, guard, via, fst∗, wand, emp, id⊢}
use base.Fml.{Fml, Lft, ftrue, fsep, fat, froom}
use types.Logic.{Logic, sem}
use types.Kit.{‵, ◌⊛◌, given, learn, by, some, pick, show, check, ◌$◌, ◌∵◌, !, qed, move, keep, drop, use1, use2, split, frame, fsplit, fjoin, feq_i, rewrite, done}
use borrow.Table.OneValue.{part_out}
use denote.RattleType.{RattleType}
use denote.Laws.{Is, Typed, shows}
use denote.Builtin.{usize, RefOf}
use denote.Exit.{yes}
use denote.Param.{param, layout, layouts}
use denote.Param.Laws.{Laws, param_laws}
use denote.Steps.{peeks}
use lib.Dec.{T}
use mir.Syntax.{ty_int, ty_array, w64, Args, a_type}
use mir.Val.{Val, vstruct, vnil}
use denote.Shadow.{makes_shadow}
use denote.Signature.{Slot, plain, mut_ref_to}
use denote.Struct.Struct.{Struct}
use denote.Struct.Owning.{shape}
use denote.Triple.End.{Kepts}
use denote.Triple.Walked.{Stays, AllGo, stay_dropped, stay_ref, Goes-dropped, Goes-ref}
use prog.Memory.{divides, size, align}
use Rattle.std.proofs.RcSteps.{Good}
use denote.Memory.{lone, mem, part_at, shared_of}
use types.SemTy.{cells}
use denote.Slice.{elements_shared}
use denote.Array.{Array}
use denote.Index.{row, whole_out, whole_in}
use Rattle.std.proofs.ptr.Rows as Rows
use Rattle.ph_bits.specs.Memory.{places}
use Rattle.ph_bits.proofs.PlaceSteps.{emptied}
use Rattle.ph_bits.specs.contracts.kids.Kids as K
use Rattle.ph_bits.specs.contracts.places.Places.{the_row as P}
use Rattle.ph_bits.specs.contracts.places.Start.{the_row as S}
use Rattle.ph_bits.proofs.Made.{mark}
use Rattle.ph_bits.specs.Kids.{IsWord, word_sized, kids, lent}

-- the i-th value
pub item : {X : Type 0} (xs : List X) (i : ℕ) → i < length xs → (x : X) × ((d : X) → slice_index_or xs i d ≡ x)
item [] i l = absurd (omega (arith, l))
item (x ∷ xs) zero l = (x, λ d. refl)
item (x ∷ xs) (suc i) l = item xs i (omega (arith, l))

-- what is behind all but the last
pub last_left : {X : Type 0} (cs : List X) (n : ℕ) → length cs ≡ n + 1 → (c : X) × (behind n cs ≡ c ∷ [])
last_left [] n e = absurd (omega (arith, e))
last_left (c ∷ []) zero e = (c, refl)
last_left (c ∷ d ∷ cs) zero e = absurd (omega (arith, e))
last_left (c ∷ cs) (suc n) e = last_left cs n (omega (arith, e))

-- the first value, and the others
pub uncons : {X : Type 0} (xs : List X) → 0 < length xs → (x : X) × ((rest : List X) × (xs ≡ x ∷ rest))
uncons [] l = absurd (omega (arith, l))
uncons (x ∷ xs) l = (x, (xs, refl))

module _ (X : RattleType) (L : Laws X) {M : Type 1} {𝓤 : Ura M} (𝓛 : Logic 𝓤) where
  -- the bits of a value in memory
  pub value_out : (x : X.Denot) (b o : ℕ) →
      ent 𝓤 (sem 𝓛 (part_at (param 0 X) full_share x b o))
      (ex 𝓤 (λ (v : Val). guard 𝓤 (Good (layout X) v)
      (sep 𝓤 (𝓛.H.at full_share (layout X) b o v) (sem 𝓛 (X.own_val x (v ∷ []))))))
  value_out x b o = qed 𝓛 (‵ (part_at (param 0 X) full_share x b o) ∷ []) ∵
      use1 𝓛 (some (λ (v : Val). ‵ (fat full_share (layout X) b o v) ⊛ ‵ (X.own_val x (v ∷ []))))
      (part_out 𝓛 (param 0 X) refl full_share x b o) $ pick ! (λ v. split ! $ move ! (1 ∷ []) $
      peeks ! (param 0 X) (Is (param 0 X)) (shows 𝓛 (param 0 X)) x (v ∷ []) (λ p.
      show ! (λ (w : Val). guard 𝓤 (Good (layout X) w)
      (sep 𝓤 (𝓛.H.at full_share (layout X) b o w) (sem 𝓛 (X.own_val x (w ∷ []))))) v $ check !
      (((param_laws 0 X L).lawful 𝓛).typed x (v ∷ []) p).0 $ move ! (1 ∷ 0 ∷ []) $ done !))

  -- the bits of a value, whatever its machine values are
  pub one_value : (x : X.Denot) (vs : List Val) → Is (param 0 X) x vs → (v : Val) × ((vs ≡ v ∷ []) × Good (layout X) v)
  one_value x vs p = alone vs (((param_laws 0 X L).lawful 𝓛).typed x vs p)
    where
      alone : (vs : List Val) → Typed (layout X ∷ []) vs → (v : Val) × ((vs ≡ v ∷ []) × Good (layout X) v)
      alone [] t = absurd t
      alone (v ∷ []) t = (v, (refl, t.0))
      alone (v ∷ w ∷ vs) t = absurd t.1

  -- the room of a value of eight bytes is that of a word, and the other way round
  pub word_room : IsWord (param 0 X) → (b o : ℕ) → ent 𝓤 (𝓛.H.room (layout X) b o) (𝓛.H.room (ty_int w64) b o)
  word_room h b o = via 𝓤 _ (𝓛.laws.room_as (layout X) (ty_int w64) b o (sym h.0)
      (subst (λ k. T (divides 8 k)) (sym h.1) tt))
      (fst∗ 𝓤 (𝓛.H.room (ty_int w64) b o) (wand 𝓤 (𝓛.H.room (ty_int w64) b o) (𝓛.H.room (layout X) b o)))

  pub room_word : IsWord (param 0 X) → (b o : ℕ) → ent 𝓤 (𝓛.H.room (ty_int w64) b o) (𝓛.H.room (layout X) b o)
  room_word h b o = via 𝓤 _ (𝓛.laws.room_as (ty_int w64) (layout X) b o h.0
      (subst (λ k. T (divides k 8)) (sym h.1) tt))
      (fst∗ 𝓤 (𝓛.H.room (layout X) b o) (wand 𝓤 (𝓛.H.room (layout X) b o) (𝓛.H.room (ty_int w64) b o)))

module _ (R : RattleType) {M : Type 1} {𝓤 : Ura M} (𝓛 : Logic 𝓤) (b : ℕ) where
  pub kid_seen : (κ : Lft) (xs : List R.Denot) (d : R.Denot) (i o : ℕ) → i < length xs →
      ent 𝓤 (sem 𝓛 (lent R b o xs κ)) (sem 𝓛 (shared_of R (slice_index_or xs i d) b (i * 8 + o) κ))
  kid_seen κ [] d i o l = absurd (omega (arith, l))
  kid_seen κ (x ∷ xs) d zero o l =
      let e : o ≡ zero * 8 + o = omega arith in
      qed 𝓛 (‵ (lent R b o (x ∷ xs) κ) ∷ []) ∵ fsplit ! $ fsplit ! $ drop ! $ keep ! (0 ∷ []) $ rewrite ! 0 (λ k. ‵ (shared_of R x b k κ)) e refl $ done !
  kid_seen κ (x ∷ xs) d (suc i) o l =
      let e : i * 8 + (o + 8) ≡ suc i * 8 + o = omega arith in
      qed 𝓛 (‵ (lent R b o (x ∷ xs) κ) ∷ []) ∵ fsplit ! $ drop ! $
      use1 𝓛 (‵ (shared_of R (slice_index_or xs i d) b (i * 8 + (o + 8)) κ)) (kid_seen κ xs d i (o + 8) (omega (arith, l))) $
      rewrite ! 0 (λ k. ‵ (shared_of R (slice_index_or xs i d) b k κ)) e refl $ done !

  -- the values but for the i-th
  abbrev pub Others : ℕ → List R.Denot → ℕ → Fml
  Others o [] i = ftrue
  Others o (x ∷ xs) zero = fsep (word_sized R) (kids R b (o + 8) xs)
  Others o (x ∷ xs) (suc i) = fsep (fsep (word_sized R) (part_at R full_share x b o)) (Others (o + 8) xs i)

  pub kid_out : (xs : List R.Denot) (d : R.Denot) (i o : ℕ) → i < length xs
      → ent 𝓤 (sem 𝓛 (kids R b o xs)) (sep 𝓤 (sem 𝓛 (part_at R full_share (slice_index_or xs i d) b (i * 8 + o))) (sem 𝓛 (Others o xs i)))
  kid_out [] d i o l = absurd (omega (arith, l))
  kid_out (x ∷ xs) d zero o l =
      let e : o ≡ zero * 8 + o = omega arith in
      qed 𝓛 (‵ (kids R b o (x ∷ xs)) ∷ []) ∵ fsplit ! $ fsplit ! $ move ! (0 ∷ 2 ∷ []) $ fjoin ! $ move ! (1 ∷ []) $
      rewrite ! 0 (λ k. ‵ (part_at R full_share x b k)) e refl $ frame ! $ done !
  kid_out (x ∷ xs) d (suc i) o l =
      let e : i * 8 + (o + 8) ≡ suc i * 8 + o = omega arith in
      qed 𝓛 (‵ (kids R b o (x ∷ xs)) ∷ []) ∵ fsplit ! $ move ! (1 ∷ []) $
      use1 𝓛 (‵ (part_at R full_share (slice_index_or xs i d) b (i * 8 + (o + 8))) ⊛ ‵ (Others (o + 8) xs i)) (kid_out xs d i (o + 8) (omega (arith, l))) $ split ! $
      rewrite ! 0 (λ k. ‵ (part_at R full_share (slice_index_or xs i d) b k)) e refl $ frame ! $ move ! (1 ∷ 0 ∷ []) $ fjoin ! $ done !

  pub kid_in : (xs : List R.Denot) (i o : ℕ) (y : R.Denot) → i < length xs
      → ent 𝓤 (sep 𝓤 (sem 𝓛 (part_at R full_share y b (i * 8 + o))) (sem 𝓛 (Others o xs i))) (sem 𝓛 (kids R b o (slice_set xs i y)))
  kid_in [] i o y l = absurd (omega (arith, l))
  kid_in (x ∷ xs) zero o y l =
      let e : zero * 8 + o ≡ o = omega arith in
      qed 𝓛 (‵ (part_at R full_share y b (zero * 8 + o)) ∷ ‵ (Others o (x ∷ xs) zero) ∷ []) ∵ rewrite ! 0 (λ k. ‵ (part_at R full_share y b k)) e refl $
      move ! (1 ∷ []) $ fsplit ! $ move ! (0 ∷ 2 ∷ []) $ fjoin ! $ fjoin ! $ done !
  kid_in (x ∷ xs) (suc i) o y l =
      let e : suc i * 8 + o ≡ i * 8 + (o + 8) = omega arith in
      qed 𝓛 (‵ (part_at R full_share y b (suc i * 8 + o)) ∷ ‵ (Others o (x ∷ xs) (suc i)) ∷ []) ∵ rewrite ! 0 (λ k. ‵ (part_at R full_share y b k)) e refl $
      move ! (1 ∷ []) $ fsplit ! $ move ! (2 ∷ 1 ∷ []) $
      use2 𝓛 (‵ (kids R b (o + 8) (slice_set xs i y))) (kid_in xs i (o + 8) y (omega (arith, l))) $ move ! (1 ∷ 0 ∷ []) $ fjoin ! $ done !

-- the one field of `Kids`, which takes no bytes
abbrev pub Mark : RattleType → RattleType
Mark R = Struct (shape (K.the_type R))

pub kid_mark : (R : RattleType) {M : Type 1} {𝓤 : Ura M} (𝓛 : Logic 𝓤) → ent 𝓤 (emp 𝓤) (sem 𝓛 ((Mark R).own_val (tt, tt) (mark ∷ [])))
kid_mark R 𝓛 = makes_shadow 𝓛 ((Mark R).own_val (tt, tt) (mark ∷ [])) (λ vss. (tt, ((λ uss. (tt, tt)), tt))) ((vstruct vnil ∷ [], tt), (refl, ((tt, (refl, tt)), tt)))

module _ (R : RattleType) (h : IsWord R) {M : Type 1} {𝓤 : Ura M} (𝓛 : Logic 𝓤) (b : ℕ) where
  pub to_cells : (xs : List R.Denot) (o : ℕ) → ent 𝓤 (sem 𝓛 (kids R b o xs)) (sem 𝓛 (cells (mem R) xs b o))
  to_cells [] o = id⊢ 𝓤 (emp 𝓤)
  to_cells (x ∷ xs) o = qed 𝓛 (‵ (kids R b o (x ∷ xs)) ∷ []) ∵ fsplit ! $ fsplit ! $ drop ! $ move ! (1 ∷ []) $
      rewrite ! 0 (λ k. ‵ (kids R b (o + k) xs)) (sym h.0) refl $ use1 𝓛
      (‵ (cells (mem R) xs b (o + size (lone R.mir)))) (to_cells xs (o + size (lone R.mir))) $ move ! (1 ∷ 0 ∷ [])
      $ fjoin ! $ done !

  pub of_cells : (xs : List R.Denot) (o : ℕ) → ent 𝓤 (sem 𝓛 (cells (mem R) xs b o)) (sem 𝓛 (kids R b o xs))
  of_cells [] o = id⊢ 𝓤 (emp 𝓤)
  of_cells (x ∷ xs) o = qed 𝓛 (‵ (cells (mem R) (x ∷ xs) b o) ∷ []) ∵ fsplit ! $ move ! (1 ∷ []) $
      use1 𝓛 (‵ (kids R b (o + size (lone R.mir)) xs)) (of_cells xs (o + size (lone R.mir))) $ rewrite ! 0 (λ k. ‵ (kids R b (o + k) xs)) h.0 refl $ move ! (1 ∷ []) $
      feq_i ! ℕ (align (lone R.mir)) 8 h.1 $ feq_i ! ℕ (size (lone R.mir)) 8 h.0 $ fjoin ! $ fjoin ! $ fjoin ! $ done !

  pub all_seen : (κ : Lft) (xs : List R.Denot) (o : ℕ) → ent 𝓤 (sem 𝓛 (lent R b o xs κ)) (sem 𝓛 (elements_shared R xs b o κ))
  all_seen κ [] o = id⊢ 𝓤 _
  all_seen κ (x ∷ xs) o = qed 𝓛 (‵ (lent R b o (x ∷ xs) κ) ∷ []) ∵ fsplit ! $ fsplit ! $ drop ! $ move ! (1 ∷ []) $
      rewrite ! 0 (λ k. ‵ (lent R b (o + k) xs κ)) (sym h.0) refl $
      use1 𝓛 (‵ (elements_shared R xs b (o + size (lone R.mir)) κ)) (all_seen κ xs (o + size (lone R.mir))) $ move ! (1 ∷ 0 ∷ []) $ fjoin ! $ done !

module _ (X : RattleType) (L : Laws X) (h : IsWord (param 0 X)) {M : Type 1} {𝓤 : Ura M} (𝓛 : Logic 𝓤) (b : ℕ) where
  abbrev R : RattleType
  R = param 0 X

  abbrev E : Rows.El
  E = record { row = X; laws = L }

  -- values side by side are an array, and the other way round
  pub to_array : (n : ℕ) (xs : List R.Denot) (o : ℕ) → length xs ≡ n → ent 𝓤 (sem 𝓛 (kids R b o xs)) (sem 𝓛 (part_at (Array R n) full_share xs b o))
  to_array n xs o l = qed 𝓛 (‵ (kids R b o xs) ∷ []) ∵ use1 𝓛 (‵ (cells (mem R) xs b o)) (to_cells R h 𝓛 b xs o) $
      use1 𝓛 (‵ (row R full_share xs b o)) (whole_out 𝓛 R xs b o) $ by ! (Rows.whole E 𝓛 full_share n xs b o l)

  pub of_array : (n : ℕ) (xs : List R.Denot) (o : ℕ) → ent 𝓤 (sem 𝓛 (part_at (Array R n) full_share xs b o)) (sem 𝓛 (kids R b o xs))
  of_array n xs o = qed 𝓛 (‵ (part_at (Array R n) full_share xs b o) ∷ []) ∵
      use1 𝓛 (given (length xs ≡ n) (‵ (row R full_share xs b o))) (Rows.apart E 𝓛 full_share n xs b o) $ learn ! (λ _.
      use1 𝓛 (‵ (cells (mem R) xs b o)) (whole_in 𝓛 R xs b o) $ by ! (of_cells R h 𝓛 b xs o))

  -- places are room for an array of values, and the other way round
  pub to_space : (cs : List (Option ℕ)) (o : ℕ) → ent 𝓤 (sem 𝓛 (places b o cs)) (𝓛.H.room (ty_array (layout X) (length cs)) b o)
  to_space [] o = 𝓛.laws.room_nil (layout X) b o
  to_space (c ∷ cs) o = qed 𝓛 (‵ (places b o (c ∷ cs)) ∷ []) ∵ fsplit ! $ use1 𝓛 (‵ (froom (ty_int w64) b o)) (emptied 𝓛 b o c) $
      use1 𝓛 (‵ (froom (layout X) b o)) (room_word X L 𝓛 h b o) $ move ! (1 ∷ []) $
      use1 𝓛 (‵ (froom (ty_array (layout X) (length cs)) b (o + 8))) (to_space cs (o + 8)) $
      rewrite ! 0 (λ k. ‵ (froom (ty_array (layout X) (length cs)) b (o + k))) (sym h.0) refl $ move ! (1 ∷ []) $ by ! (𝓛.laws.room_cons (layout X) (length cs) b o)

  pub of_space : (n o : ℕ) → ent 𝓤 (𝓛.H.room (ty_array (layout X) n) b o) (sem 𝓛 (places b o (replicate n None)))
  of_space zero o = qed 𝓛 (‵ (froom (ty_array (layout X) 0) b o) ∷ []) ∵ keep ! [] $ done !
  of_space (suc n) o = qed 𝓛 (‵ (froom (ty_array (layout X) (suc n)) b o) ∷ []) ∵
      use1 𝓛 (‵ (froom (layout X) b o) ⊛ ‵ (froom (ty_array (layout X) n) b (o + size (layout X)))) (𝓛.laws.room_uncons (layout X) n b o) $ split ! $
      use1 𝓛 (‵ (froom (ty_int w64) b o)) (word_room X L 𝓛 h b o) $ move ! (1 ∷ []) $
      rewrite ! 0 (λ k. ‵ (froom (ty_array (layout X) n) b (o + k))) h.0 refl $ use1 𝓛 (‵ (places b (o + 8) (replicate n None))) (of_space n (o + 8)) $
      move ! (1 ∷ 0 ∷ []) $ fjoin ! $ done !

abbrev pub at_type : RattleType → Args
at_type X = layouts (a_type ∷ []) (X, tt)

abbrev pub words_stay : Stays {n = 2} (plain (λ _. S) ∷ plain (λ _. usize) ∷ plain (λ _. usize) ∷ []) (yes, (yes, (yes, tt)))
words_stay = (stay_dropped (plain (λ _. S)) yes, (stay_dropped (plain (λ _. usize)) yes, (stay_dropped (plain (λ _. usize)) yes, tt)))

pub words_go : {M : Type 1} {𝓤 : Ura M} (𝓛 : Logic 𝓤) →
    AllGo 𝓛 2 (plain (λ _. S) ∷ plain (λ _. usize) ∷ plain (λ _. usize) ∷ []) (yes, (yes, (yes, tt))) words_stay
words_go 𝓛 =
    let word_goes = Goes-dropped 𝓛 2 (plain (λ _. usize)) yes (λ κs x w. refl) in
    (Goes-dropped 𝓛 2 (plain (λ _. S)) yes (λ κs x w. refl), (word_goes, (word_goes, tt)))

-- the same with a `&` to the values in front
abbrev pub shown_stay : (R : RattleType) → Stays {n = 2}
    (RefOf (0 ∷ []) tt (plain (λ _. K.the_row R)) (λ _. tt) ∷ plain (λ _. S) ∷ plain (λ _. usize) ∷ plain (λ _. usize) ∷ [])
    (yes, (yes, (yes, (yes, tt))))
shown_stay R = (stay_dropped (RefOf (0 ∷ []) tt (plain (λ _. K.the_row R)) (λ _. tt)) yes, words_stay)

pub shown_go : (R : RattleType) {M : Type 1} {𝓤 : Ura M} (𝓛 : Logic 𝓤) → AllGo 𝓛 2
    (RefOf (0 ∷ []) tt (plain (λ _. K.the_row R)) (λ _. tt) ∷ plain (λ _. S) ∷ plain (λ _. usize) ∷ plain (λ _. usize) ∷ [])
    (yes, (yes, (yes, (yes, tt)))) (shown_stay R)
shown_go R 𝓛 = (Goes-dropped 𝓛 2 (RefOf (0 ∷ []) tt (plain (λ _. K.the_row R)) (λ _. tt)) yes (λ κs x w. refl), words_go 𝓛)

-- the `&mut`s of the values and of the places, in front of what a call takes behind them
abbrev pub both_stay : (R : RattleType) (ss : List (Slot 3)) (ks : Kepts ss) → Stays ss ks → Stays {n = 3}
    (mut_ref_to (0 ∷ []) tt (plain (λ _. K.the_row R)) ∷ mut_ref_to (1 ∷ []) tt (plain (λ _. P)) ∷ ss) (yes, (yes, ks))
both_stay R ss ks h = (stay_ref (0 ∷ []) tt (plain (λ _. K.the_row R)), (stay_ref (1 ∷ []) tt (plain (λ _. P)), h))

pub both_go : (R : RattleType) {M : Type 1} {𝓤 : Ura M} (𝓛 : Logic 𝓤) (ss : List (Slot 3)) (ks : Kepts ss) (h : Stays ss ks) →
    AllGo 𝓛 3 ss ks h → AllGo 𝓛 3
    (mut_ref_to (0 ∷ []) tt (plain (λ _. K.the_row R)) ∷ mut_ref_to (1 ∷ []) tt (plain (λ _. P)) ∷ ss) (yes, (yes, ks)) (both_stay R ss ks h)
both_go R 𝓛 ss ks h go = (Goes-ref 𝓛 3 0 tt (plain (λ _. K.the_row R)), (Goes-ref 𝓛 3 1 tt (plain (λ _. P)), go))
