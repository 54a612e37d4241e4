-- How long a record is with a point more or less.
use Rattle.std.proofs.Common.{◌≡◌, ℕ, zero, suc, ◌+◌, ◌-◌, ◌^◌, ◌<◌, ◌≤◌, List, [], ◌∷◌, ◌++◌, length, take, Bool, true, false, refl, ap, sym, ◌∙◌, arith}
use Rattle.std.specs.Prelude.{Option, Some, None, if◌then◌else◌}
use Rattle.std.proofs.Math.Seq.{take-append_seam}
use Rattle.std.proofs.lemmas.List.{length-drop}
use Rattle.ph_specs.specs.Digits.{words_for}
use Rattle.ph_specs.specs.Node.{Flat}
use Rattle.ph_model.specs.NodeSize.{points_in}
use Rattle.ph_specs.specs.Pack.{is_cube, cube_digits, linear_digits, values, value_in_front, record_in}
use Rattle.ph_specs.specs.Record.{Read, read_point, read_child, first_in, has_cube, entries_in, values_in, table_digits}
use Rattle.ph_bits.specs.Edits.{flats, flats_in, edited, edited_as, new_flat, least_digits, words_wanted}
use Rattle.ph_bits.specs.declared.edits.Edit.{Edit}
use Rattle.ph_node.specs.PointEdit.{IsNewPoint}
use Rattle.ph_node.specs.RecordEdit.{IsRecordEdit, with_edit, words_with, record_with}
use Rattle.ph_node.specs.Relaid.{differ, is_relaid}
use Rattle.ph_node.specs.Rooms.{IsLayoutKept}
use Rattle.ph_node.proofs.Lengths.{record-long}
use Rattle.ph_node.proofs.Listings.{many}
use Rattle.ph_node.proofs.RecordEdits.{count_with, few_with}
use Rattle.ph_node.proofs.Removed.{shorter}
use Rattle.ph_node.proofs.Spliced.{length-flats}

-- ---- how many values there are

in-front : (o : Option ℕ) (us vs : List ℕ) (k : ℕ) → length us ≡ length vs + k → length (value_in_front o us) ≡ length (value_in_front o vs) + k
in-front (Some v) us vs k h = omega (arith, h)
in-front None us vs k h = h

in-front-le : (o : Option ℕ) (us vs : List ℕ) → length us ≤ length vs → length (value_in_front o us) ≤ length (value_in_front o vs)
in-front-le (Some v) us vs h = omega (arith, h)
in-front-le None us vs h = h

at-front : (o : Option ℕ) (vs : List ℕ) → length vs ≤ length (value_in_front o vs)
at-front (Some v) vs = omega arith
at-front None vs = omega arith

values-more : (i : ℕ) (x : Flat) (v : ℕ) (fs : List Flat) → x.value ≡ Some v → i ≤ length fs → length (values (edited i 0 1 x fs)) ≡ length (values fs) + 1
values-more zero x v fs e l = ap (λ o. length (value_in_front o (values fs))) e ∙ omega arith
values-more (suc i) x v [] e l = absurd (omega (arith, l))
values-more (suc i) x v (f ∷ fs) e l = in-front f.value (values (edited i 0 1 x fs)) (values fs) 1 (values-more i x v fs e (omega (arith, l)))

values-less : (i : ℕ) (x : Flat) (fs : List Flat) → length (values (edited i 1 0 x fs)) ≤ length (values fs)
values-less zero x [] = omega arith
values-less zero x (f ∷ fs) = at-front f.value (values fs)
values-less (suc i) x [] = omega arith
values-less (suc i) x (f ∷ fs) = in-front-le f.value (values (edited i 1 0 x fs)) (values fs) (values-less i x fs)

values-flats : (rs : List Read) (vs : List ℕ) → points_in rs ≡ length vs → length (values (flats rs vs)) ≡ length vs
values-flats [] [] h = refl
values-flats [] (v ∷ vs) h = absurd (omega (arith, h))
values-flats (read_point a b ∷ rs) [] h = absurd (omega (arith, h))
values-flats (read_point a b ∷ rs) (v ∷ vs) h = ap suc (values-flats rs vs (omega (arith, h)))
values-flats (read_child a b ∷ rs) vs h = values-flats rs vs h

-- ---- the layout

pub same-layout : (a b : Bool) → differ a b ≡ false → a ≡ b
same-layout true true h = refl
same-layout true false h = cc
same-layout false true h = cc
same-layout false false h = refl

differ-same : (a b : Bool) → a ≡ b → differ a b ≡ false
differ-same true true h = refl
differ-same true false h = cc
differ-same false true h = cc
differ-same false false h = refl

-- ---- a record with an edit

module _ (d : ℕ) (ws : List ℕ) (e : Edit) (h : IsRecordEdit d ws e) where
  old-points : length (values (flats_in d ws)) ≡ (first_in ws).entries - (first_in ws).children
  old-points =
      omega (
        arith,
        values-flats (entries_in d ws) (values_in d ws) h.source.points,
        length-drop (1 + words_for (table_digits d (first_in ws))) ws,
        h.source.laid.tables.long,
      )

  old-long : length ws ≡ words_wanted d (first_in ws).level (first_in ws).entries ((first_in ws).entries - (first_in ws).children)
  old-long = h.source.laid.tables.long

  old-many : length (flats_in d ws) ≡ (first_in ws).entries
  old-many = length-flats (entries_in d ws) (values_in d ws) h.source.points ∙ many d ws h.source.laid.tables

  pub long_with : length (record_with d ws e) ≡ words_with d ws e
  long_with = record-long d (first_in ws).level (with_edit d ws e) h.rise

  -- the record in the layout that stays
  pub record_kept : (cube : Bool) → is_cube d (first_in ws).level (length (with_edit d ws e)) ≡
      has_cube d (first_in ws) → has_cube d (first_in ws) ≡ cube →
      record_in cube d (first_in ws).level (edited_as cube d ws e) ≡ record_with d ws e
  record_kept cube same hc =
      ap (λ t. record_in t d (first_in ws).level (edited_as t d ws e)) (sym hc) ∙ ap (λ t. record_in t d (first_in ws).level (with_edit d ws e)) (sym same)

  -- a point more
  module _ (less : e.less ≡ 0) (more : e.more ≡ 1) (point : e.entry.child ≡ false) where
    pub count_more : length (with_edit d ws e) ≡ (first_in ws).entries + 1
    count_more = omega (arith, count_with d ws e h (first_in ws).entries refl, less, more)

    points-more : length (values (with_edit d ws e)) ≡ (first_in ws).entries - (first_in ws).children + 1
    points-more =
        let x : Flat = new_flat d e.entry e.value in
        let v : x.value ≡ Some e.value = ap (λ b. if b then None else Some e.value) point in
        ap (λ k. length (values (edited e.place k e.more x (flats_in d ws)))) less
        ∙ ap (λ k. length (values (edited e.place 0 k x (flats_in d ws)))) more
        ∙ values-more e.place x e.value (flats_in d ws) v (omega (arith, h.within, old-many))
        ∙ ap (λ k. k + 1) old-points

    pub words_more : (l n p : ℕ) → l ≡ (first_in ws).level → n ≡ (first_in ws).entries + 1 → p + (first_in ws).children ≡ n → words_wanted d l n p ≡ words_with d ws e
    words_more l n p a b c =
        ap (λ k. words_wanted d k n p) a
        ∙ ap (λ k. words_wanted d (first_in ws).level k p) (b ∙ sym count_more)
        ∙ ap (λ k. words_wanted d (first_in ws).level (length (with_edit d ws e)) k) (omega (arith, b, c, points-more, h.source.laid.tables.kids))

    pub longer_with : length ws < words_with d ws e
    longer_with =
        let n : (first_in ws).entries + 1 ≡ length (with_edit d ws e) = omega (arith, count_more) in
        let s = shorter d (first_in ws).level (first_in ws).entries ((first_in ws).entries - (first_in ws).children)
        (length (with_edit d ws e)) ((first_in ws).entries - (first_in ws).children) n (omega arith) in
        omega (arith, s, old-long, points-more)

    -- in a cube the value alone
    pub cube_longer : is_cube d (first_in ws).level (length (with_edit d ws e)) ≡ has_cube d (first_in ws) →
        has_cube d (first_in ws) ≡ true → words_with d ws e ≡ length ws + 1
    cube_longer same hc =
        let a : least_digits d (first_in ws).level (length (with_edit d ws e)) ≡ least_digits d (first_in ws).level (first_in ws).entries =
        ap (λ b. if b then cube_digits d (first_in ws).level else linear_digits d (first_in ws).level (length (with_edit d ws e))) (same ∙ hc)
        ∙ sym (ap (λ b. if b then cube_digits d (first_in ws).level else linear_digits d (first_in ws).level (first_in ws).entries) hc)
        in
        omega (arith, ap words_for a, old-long, points-more)

    -- the layout, by numbers that were read
    pub stays_more : (k n : ℕ) (us : List ℕ) (b : Bool) → k ≡ d → us ≡ ws → n ≡ (first_in us).entries →
        b ≡ differ (is_cube k (first_in us).level (n + 1)) (has_cube k (first_in us)) → b ≡ false
        → is_cube d (first_in ws).level (length (with_edit d ws e)) ≡ has_cube d (first_in ws)
    stays_more k n us b p q r x f =
        let same : is_cube k (first_in us).level (n + 1) ≡ has_cube k (first_in us) = same-layout _ _ (sym x ∙ f) in
        let many : length (with_edit d ws e) ≡ n + 1 = omega (arith, count_more, r, ap (λ u. (first_in u).entries) q) in
        ap (λ j. is_cube d (first_in ws).level j) many
        ∙ sym (ap (λ j. is_cube j (first_in ws).level (n + 1)) p) ∙ sym (ap (λ u. is_cube k (first_in u).level (n + 1)) q)
        ∙ same ∙ ap (λ j. has_cube j (first_in us)) p ∙ ap (λ u. has_cube d (first_in u)) q

    pub changes_more : (k n : ℕ) (us : List ℕ) (b : Bool) → k ≡ d → us ≡ ws → n ≡ (first_in us).entries →
        b ≡ differ (is_cube k (first_in us).level (n + 1)) (has_cube k (first_in us)) → b ≡ true → IsLayoutKept d ws e → ⊥
    changes_more k n us b p q r x f kept =
        let many : length (with_edit d ws e) ≡ n + 1 = omega (arith, count_more, r, ap (λ u. (first_in u).entries) q) in
        let same : is_cube k (first_in us).level (n + 1) ≡ has_cube k (first_in us) =
        ap (λ u. is_cube k (first_in u).level (n + 1)) q ∙ ap (λ j. is_cube j (first_in ws).level (n + 1)) p
        ∙ sym (ap (λ j. is_cube d (first_in ws).level j) many)
        ∙ kept ∙ sym (ap (λ u. has_cube d (first_in u)) q) ∙ sym (ap (λ j. has_cube j (first_in us)) p) in
        let no : true ≡ false = sym f ∙ x ∙ differ-same _ _ same in cc

  -- an entry less
  module _ (less : e.less ≡ 1) (more : e.more ≡ 0) where
    pub count_less : length (with_edit d ws e) + 1 ≡ (first_in ws).entries
    count_less = omega (arith, count_with d ws e h (first_in ws).entries refl, less, more, h.within)

    points-less : length (values (with_edit d ws e)) ≤ (first_in ws).entries - (first_in ws).children
    points-less =
        let x : Flat = new_flat d e.entry e.value in
        let s : length (values (with_edit d ws e)) ≡ length (values (edited e.place 1 0 x (flats_in d ws))) =
        ap (λ k. length (values (edited e.place k e.more x (flats_in d ws)))) less ∙ ap (λ k. length (values (edited e.place 1 k x (flats_in d ws)))) more
        in omega (arith, s, values-less e.place x (flats_in d ws), old-points)

    pub shorter_with : words_with d ws e ≤ length ws
    shorter_with =
        omega (
          arith,
          shorter d (first_in ws).level (length (with_edit d ws e)) (length (values (with_edit d ws e)))
              (first_in ws).entries ((first_in ws).entries - (first_in ws).children) count_less points-less,
          old-long,
        )

    pub stays_less : (k n : ℕ) (us : List ℕ) (b : Bool) → k ≡ d → us ≡ ws → n ≡ (first_in us).entries →
        b ≡ differ (is_cube k (first_in us).level (n - 1)) (has_cube k (first_in us)) → b ≡ false
        → is_cube d (first_in ws).level (length (with_edit d ws e)) ≡ has_cube d (first_in ws)
    stays_less k n us b p q r x f =
        let same : is_cube k (first_in us).level (n - 1) ≡ has_cube k (first_in us) = same-layout _ _ (sym x ∙ f) in
        let many : length (with_edit d ws e) ≡ n - 1 = omega (arith, count_less, r, ap (λ u. (first_in u).entries) q) in
        ap (λ j. is_cube d (first_in ws).level j) many
        ∙ sym (ap (λ j. is_cube j (first_in ws).level (n - 1)) p) ∙ sym (ap (λ u. is_cube k (first_in u).level (n - 1)) q)
        ∙ same ∙ ap (λ j. has_cube j (first_in us)) p ∙ ap (λ u. has_cube d (first_in u)) q

-- with a point more there are no more entries than addresses
pub few_more : (d : ℕ) (ws : List ℕ) (k : ℕ) (e : Edit) → IsNewPoint d ws k e → (n dims : ℕ) (us : List ℕ) →
    n ≡ (first_in us).entries → us ≡ ws → dims ≡ d → n + 1 ≤ 2 ^ dims
few_more d ws k e q n dims us a b c =
    omega (
      arith,
      a,
      ap (λ u. (first_in u).entries) b,
      count_more d ws e q.edit q.less q.more q.point,
      few_with d ws e q.edit,
      ap (λ d. 2 ^ d) c,
    )

-- and whether it is another once an entry goes
pub relaid : (d k n : ℕ) (ws us : List ℕ) (b : Bool) → k ≡ d → us ≡ ws → n ≡ (first_in us).entries →
    b ≡ differ (is_cube k (first_in us).level (n - 1)) (has_cube k (first_in us))
    → b ≡ is_relaid d (first_in ws).level (first_in ws).entries
relaid d k n ws us b p q r x =
    x ∙ ap (λ j. differ (is_cube j (first_in us).level (n - 1)) (has_cube j (first_in us))) p
    ∙ ap (λ j. differ (is_cube d (first_in us).level (j - 1)) (has_cube d (first_in us))) r
    ∙ ap (λ u. is_relaid d (first_in u).level (first_in u).entries) q

-- the words in front of others
pub front_is : (ws vs us zs : List ℕ) (n : ℕ) → us ≡ vs → vs ≡ ws ++ zs → n ≡ length ws → take n us ≡ ws
front_is ws vs us zs n a b c =
    ap (λ u. take n u) (a ∙ b) ∙ ap (λ k. take k (ws ++ zs)) c ∙ take-append_seam ws zs
