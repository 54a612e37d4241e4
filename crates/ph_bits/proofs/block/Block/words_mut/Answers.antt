use Rattle.std.proofs.Common.{◌≡◌, ◌+◌, ◌-◌, ◌++◌, ℕ, Option, List, refl, sym, ◌∙◌, ap, subst, arith, length, drop, map, Some}
use Rattle.std.specs.List.{refill}
use Rattle.ph_bits.specs.Filled.{Filled}
use Rattle.ph_bits.specs.Slots.{AreWritten, words_in}
use Rattle.ph_bits.proofs.Headers.{Tells, Holds, told, held, header-before}
use Rattle.ph_bits.proofs.SlotLists.{lent, in-lent, length-lent, written-lent}
use Rattle.ph_bits.proofs.block.Block.words_mut.Goals as goal

-- the header stays, whatever the words are
stays : {X : Type 0} (cs : List (Option ℕ)) (xs : List X) (b : Filled X) (n : ℕ) (w : List ℕ) → Tells cs xs b → n ≡ length b.words
    → Holds (lent n cs w) xs (length b.words + b.spare) n
stays cs xs b n w t e =
    let a : AreWritten (n + 1) cs = subst (λ k. AreWritten (k + 1) cs) (sym e) t.written in
    held (lent n cs w) xs (length b.words + b.spare) n (length-lent n cs w a.0 ∙ t.places) (omega (arith, t.fits, t.count)) (written-lent n cs w a)
    (header-before cs (map Some (refill n (words_in n cs) w) ++ drop n (drop 1 cs)) (omega (arith, a.0)) ∙ omega (arith, t.head, t.count, e))

pub words_mut-requires : goal.words_mut-requires
words_mut-requires g c =
    let h = c.self.invariant in let i = c.self.inside in let cs = i.places.slots in
    let t = told cs i.kids.items i.alloc c.args.self.now c.self.view_is h.6 h.7 h.8 in
    let e = c.len-len.ensures.value ∙ ap (λ (v : Filled g.row.T.Denot). length v.words) c.self.view_is in
    (h.0, subst (λ k. AreWritten (k + 1) cs) (sym e) t.written)

pub invariant_of-self-lent : goal.invariant_of-self-lent
invariant_of-self-lent g c w =
    let h = c.self.invariant in let i = c.self.inside in let cs = i.places.slots in let b = c.args.self.now in
    let t = told cs i.kids.items i.alloc b c.self.view_is h.6 h.7 h.8 in let n = c.len-len.result in
    let e : n ≡ length b.words = c.len-len.ensures.value ∙ ap (λ (v : Filled g.row.T.Denot). length v.words) c.self.view_is in
    let s = stays cs i.kids.items b n w t e in let l = t.places ∙ sym s.places in
    (h.0, h.1, h.2, h.3, h.4 ∙ l, h.5 ∙ ap (λ k. k + length i.kids.items) l, s.small, s.written, s.head)

pub returns : goal.returns
returns g c =
    let h = c.self.invariant in let i = c.self.inside in let cs = i.places.slots in let b = c.args.self.now in
    let t = told cs i.kids.items i.alloc b c.self.view_is h.6 h.7 h.8 in let n = c.len-len.result in
    let e : n ≡ length b.words = c.len-len.ensures.value ∙ ap (λ (v : Filled g.row.T.Denot). length v.words) c.self.view_is in
    let ws : words_in n cs ≡ b.words = ap (λ k. words_in k cs) e ∙ t.words in
    let spare : length b.words + b.spare - n ≡ b.spare = omega (arith, e) in (
      (
        refl,
        λ w.
            let new : words_in n (lent n cs w) ≡ refill (length b.words) b.words w =
            in-lent n cs w (omega (arith, t.places, e)) ∙ ap (λ (v : List ℕ). refill (length v) v w) ws in
            (stays cs i.kids.items b n w t e).seen i.alloc ∙ (λ j. record { words = new j; spare = spare j; values = t.values j; heap = (c.self.view_is j).heap }),
      ),
      record { lends = tt; words = c.words_mut.ensures.words ∙ ws },
    )
