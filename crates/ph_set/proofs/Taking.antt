-- Rows that a sink takes one after another.
use Rattle.std.proofs.Common.{◌≡◌, List, [], ◌++◌, sym, ◌∙◌, ap, subst, append_assoc}
use Rattle.std.proofs.lemmas.List.{append-nil}
use Rattle.ph_specs.specs.Table.{Row}
use Rattle.ph_set.specs.Sinks.{AreTaken}

module _ {S : Type 0} (adds : S → S → List Row → Type 0)
    (more : (r s t : S) (xs ys : List Row) → adds r s xs → adds s t ys → adds r t (xs ++ ys)) where
  -- of two calls
  pub after-two : (old mid new : S) (a b all : List Row) → adds old mid a → adds mid new b → all ≡ a ++ b → adds old new all
  after-two old mid new a b all h k e = subst (adds old new) (sym e) (more old mid new a b h k)

  -- of three
  pub after-three : (old mid next new : S) (a b c all : List Row) → adds old mid a → adds mid next b → adds next new c → all ≡ a ++ (b ++ c) → adds old new all
  after-three old mid next new a b c all h k l e = after-two old mid new a (b ++ c) all h (more mid next new b c k l) e

  -- more of those that were left
  pub taken-on : (old mid new : S) (rows left some next : List Row) → AreTaken adds old mid rows left → adds mid new some → left ≡ some ++ next →
      AreTaken adds old new rows next
  taken-on old mid new rows left some next t h e = record {
    taken = t.taken ++ some;
    adds_them = more old mid new t.taken some t.adds_them h;
    split = t.split ∙ ap (λ l. t.taken ++ l) e ∙ sym (append_assoc t.taken some next);
  }

  pub taken-both : (old mid new : S) (rows left next : List Row) → AreTaken adds old mid rows left → AreTaken adds mid new left next →
      AreTaken adds old new rows next
  taken-both old mid new rows left next t u = taken-on old mid new rows left u.taken next t u.adds_them u.split

  -- and all of them
  pub taken-all : (old mid new : S) (rows left : List Row) → AreTaken adds old mid rows left → adds mid new left → adds old new rows
  taken-all old mid new rows left t h = after-two old mid new t.taken left rows t.adds_them h t.split

  pub taken-whole : (old new : S) (rows left : List Row) → AreTaken adds old new rows left → left ≡ [] → adds old new rows
  taken-whole old new rows left t e =
      subst (adds old new) (sym (t.split ∙ ap (λ l. t.taken ++ l) e ∙ append-nil t.taken)) t.adds_them
