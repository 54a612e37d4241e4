-- How a script is fed: nothing, a part of a line, a line, and one piece after another.
use Rattle.std.proofs.Common.{◌≡◌, ℕ, ◌<◌, Bool, true, false, ◌||◌, List, [], ◌∷◌, ◌++◌, length, take, refl, ap, sym, ◌∙◌, append_assoc, append-nil}
use Rattle.std.proofs.Common.{subst, arith}
use Rattle.std.specs.Prelude.{Ok, Err}
use Rattle.ph_io.specs.Giving.{Given}
use Rattle.ph_slot.specs.Beside.{Beside}
use Rattle.ph_specs.specs.Lines.{LF, lines}
use Rattle.ph_specs.proofs.laws.Put.{and}
use Rattle.ph_engine.specs.Costs.{Spent}
use Rattle.ph_engine.specs.Machine.{Machine, Met, Turn, turn, answers, after, some_refused, lines_of, KEPT, KEPT-is}
use Rattle.ph_commands.specs.Telling.{is_refusal}
use Rattle.ph_engine.specs.Cutting.{ended, is_unbroken}
use Rattle.ph_engine.specs.Answering.{Said, SaidOr}
use Rattle.ph_engine.specs.Feeding.{Fed, Halted, FedOr, Feeds, AtEnd, EndsOr}
use Rattle.ph_engine.specs.Statuses.{read_status, stop_status}
use Rattle.ph_commands.specs.declared.answer.Stop.{Stop}
use Rattle.ph_commands.specs.declared.answer.Stop.TheVariants.{WriteFault, NoMemory}
use Rattle.ph_io.proofs.Appending.{given_none, given_both}
use Rattle.ph_engine.proofs.Cuts.{lines-unbroken, ended-append, all-append, take-front, take-none, take-empty}
use Rattle.ph_engine.proofs.Machines.{answers-append, after-append, refused-append, lines-append, or_false}
use Rattle.ph_engine.proofs.Sums.{spent_both, worked_both, worked_none}

-- nothing is fed
pub fed-none : {S : Type 0} (m : Machine S) (s : S) (unended kept : List ℕ) (b : Beside) → kept ≡ take KEPT unended →
    is_unbroken unended ≡ true → Fed m s unended [] b b s kept false
fed-none m s unended kept b k u = record {
  done = [];
  rest = unended;
  split = append-nil unended;
  unbroken_done = refl;
  unbroken_rest = u;
  told = given_none b.sink;
  state = refl;
  refusals = refl;
  front = k;
  worked = worked_none m s b;
}

-- a part without line feeds is fed behind
pub fed-part : {S : Type 0} (m : Machine S) (s : S) (unended piece part kept : List ℕ) (b now_b : Beside) (now : S)
    (refused : Bool) → is_unbroken part ≡ true → Fed m s unended piece b now_b now kept refused →
    Fed m s unended (piece ++ part) b now_b now (take KEPT (kept ++ part)) refused
fed-part m s unended piece part kept b now_b now refused u h = record {
  done = h.done;
  rest = h.rest ++ part;
  split = sym (append_assoc unended piece part) ∙ ap (λ t. t ++ part) h.split ∙ append_assoc (ended (lines_of h.done)) h.rest part;
  unbroken_done = h.unbroken_done;
  unbroken_rest = all-append _ h.rest part h.unbroken_rest u;
  told = h.told;
  state = h.state;
  refusals = h.refusals;
  front = ap (λ t. take KEPT (t ++ part)) h.front ∙ take-front KEPT h.rest part;
  worked = h.worked;
}

-- two pieces after another
joined : (unended piece next : List ℕ) (done more : List (List ℕ)) (rest last : List ℕ) →
    unended ++ piece ≡ ended done ++ rest → rest ++ next ≡ ended more ++ last →
    unended ++ (piece ++ next) ≡ ended (done ++ more) ++ last
joined unended piece next done more rest last h k =
    sym (append_assoc unended piece next) ∙ ap (λ t. t ++ next) h ∙ append_assoc (ended done) rest next ∙ ap (λ t. ended done ++ t) k
    ∙ sym (append_assoc (ended done) (ended more) last) ∙ ap (λ t. t ++ last) (sym (ended-append done more))

pub fed-fed : {S : Type 0} (m : Machine S) (s : S) (unended piece next kept last : List ℕ) (b middle now_b : Beside)
    (between now : S) (refused more : Bool) → (h : Fed m s unended piece b middle between kept refused) →
    Fed m between h.rest next middle now_b now last more → Fed m s unended (piece ++ next) b now_b now last (refused || more)
fed-fed m s unended piece next kept last b middle now_b between now refused more h k = record {
  done = h.done ++ k.done;
  rest = k.rest;
  split = rw (lines-append h.done k.done) (joined unended piece next (lines_of h.done) (lines_of k.done) h.rest k.rest h.split k.split);
  unbroken_done = rw (lines-append h.done k.done) (all-append _ (lines_of h.done) (lines_of k.done) h.unbroken_done k.unbroken_done);
  unbroken_rest = k.unbroken_rest;
  told = rw answers-append (given_both b.sink middle.sink now_b.sink _ _ h.told
      (let t : Given middle.sink now_b.sink (answers m (after m s h.done) k.done) = rw h.state at k.told in t));
  state = k.state ∙ ap (λ t. after m t k.done) h.state ∙ sym (after-append m s h.done k.done);
  refusals = ap (λ t. t || more) h.refusals ∙ ap (λ t. some_refused m s h.done || t)
      (k.refusals ∙ ap (λ t. some_refused m t k.done) h.state) ∙ sym (refused-append m s h.done k.done);
  front = k.front;
  worked = worked_both m s between h.done k.done b middle now_b h.state h.worked k.worked;
}

-- a fed piece, and a stop in the next one
module _ {S : Type 0} (m : Machine S) (s : S) (unended piece next kept : List ℕ) (b middle now_b : Beside)
    (between : S) (refused : Bool) (h : Fed m s unended piece b middle between kept refused) where
  behind : (done : List Turn) → after m s (h.done ++ done) ≡ after m between done
  behind done = after-append m s h.done done ∙ ap (λ t. after m t done) (sym h.state)

  abbrev fed-halted : Halted m between h.rest next middle now_b → Halted m s unended (piece ++ next) b now_b
  fed-halted k = record {
    done = h.done ++ k.done;
    last = k.last;
    more = k.more;
    split = rw (lines-append h.done k.done, append_assoc)
        (joined unended piece next (lines_of h.done) (lines_of k.done ++ k.last.line ∷ []) h.rest k.more h.split k.split);
    unbroken_done = rw (lines-append h.done k.done) (all-append _ (lines_of h.done) (lines_of k.done) h.unbroken_done k.unbroken_done);
    unbroken_line = k.unbroken_line;
    spent = rw (append_assoc h.done k.done (k.last ∷ [])) (spent_both m s between h.done (k.done ++ k.last ∷ []) b middle now_b h.state h.worked.spent k.spent);
  }

  -- what the stop leaves
  pub fed-stopped : (last : List ℕ) (now : S) (stop : Stop) → FedOr m between h.rest next middle now_b now last (Err stop) →
      FedOr m s unended (piece ++ next) b now_b now last (Err stop)
  fed-stopped last now WriteFault k =
      let e = behind k.at.done in
      record {
        at = fed-halted k.at;
        count = k.count;
        short = rw e k.short;
        told = rw (e, answers-append m s h.done k.at.done, ← h.state, append_assoc) (given_both b.sink middle.sink now_b.sink _ _ h.told k.told);
        state = rw e k.state;
      }
  fed-stopped last now NoMemory k =
      let e = behind k.at.done in
      record {
        at = fed-halted k.at;
        part = k.part;
        told = rw (answers-append m s h.done k.at.done, ← h.state) (given_both b.sink middle.sink now_b.sink _ _ h.told k.told);
        state = rw e k.state;
        wanted = rw e k.wanted;
      }

-- ---- a line

line-split : (unended part : List ℕ) → unended ++ (part ++ LF ∷ []) ≡ ended ((unended ++ part) ∷ []) ++ []
line-split unended part = sym (append_assoc unended part (LF ∷ [])) ∙ sym (append-nil ((unended ++ part) ++ LF ∷ []))

-- a part and a line feed end a line, which is answered
pub line-said : {S : Type 0} (m : Machine S) (s : S) (unended part : List ℕ) (met : Met) (b now_b : Beside) (now : S)
    (refused : Bool) → is_unbroken unended ≡ true → is_unbroken part ≡ true →
    Said m s (turn (unended ++ part) met) b now_b now refused → Fed m s unended (part ++ LF ∷ []) b now_b now [] refused
line-said m s unended part met b now_b now refused u v h = record {
  done = turn (unended ++ part) met ∷ [];
  rest = [];
  split = line-split unended part;
  unbroken_done = and _ _ (all-append _ unended part u v) refl;
  unbroken_rest = refl;
  told = rw append-nil h.told;
  state = h.state;
  refusals = h.refusal ∙ sym (or_false (is_refusal (m.answer s (turn (unended ++ part) met))));
  front = sym (take-empty KEPT);
  worked = h.worked;
}

-- the answer to it fails
module _ {S : Type 0} (m : Machine S) (s : S) (unended part : List ℕ) (met : Met) (b now_b : Beside)
    (u : is_unbroken unended ≡ true) (v : is_unbroken part ≡ true) where
  abbrev line-halted : Spent m s (turn (unended ++ part) met ∷ []) b now_b → Halted m s unended (part ++ LF ∷ []) b now_b
  line-halted spent = record {
    done = [];
    last = turn (unended ++ part) met;
    more = [];
    split = line-split unended part;
    unbroken_done = refl;
    unbroken_line = all-append _ unended part u v;
    spent = spent;
  }

  pub line-stopped : (last : List ℕ) (now : S) (stop : Stop) → SaidOr m s (turn (unended ++ part) met) b now_b now (Err stop) →
      FedOr m s unended (part ++ LF ∷ []) b now_b now last (Err stop)
  line-stopped last now WriteFault h = record { at = line-halted h.spent; count = h.count; short = h.short; told = h.told; state = h.state }
  line-stopped last now NoMemory h = record { at = line-halted h.spent; part = h.part; told = h.told; state = h.state; wanted = h.wanted }

-- ---- the end

kept-some : (unended kept : List ℕ) → kept ≡ take KEPT unended → 0 < length kept → unended ≡ [] → ⊥
kept-some unended kept k some e = let n : kept ≡ [] = k ∙ ap (take KEPT) e ∙ take-empty KEPT in omega (arith, some, ap length n)

kept-none : (unended kept : List ℕ) → kept ≡ take KEPT unended → kept ≡ [] → unended ≡ []
kept-none unended kept k e = take-none KEPT unended (omega (arith, KEPT-is)) (sym k ∙ e)

-- there is no unended line
pub end-none : {S : Type 0} (m : Machine S) (s : S) (unended kept : List ℕ) (refused : Bool) (b : Beside) →
    kept ≡ take KEPT unended → kept ≡ [] → AtEnd m s unended refused b b s (read_status refused)
end-none m s unended kept refused b k e =
    let n : unended ≡ [] = kept-none unended kept k e in
    record {
      answered = record { turns = []; all = rw n refl; told = given_none b.sink; state = refl; worked = worked_none m s b };
      refusals = ap read_status (sym (or_false refused));
    }

-- the unended line is answered
pub end-said : {S : Type 0} (m : Machine S) (s : S) (unended kept : List ℕ) (refused last : Bool) (met : Met)
    (b now_b : Beside) (now : S) → kept ≡ take KEPT unended → is_unbroken unended ≡ true → 0 < length kept →
    Said m s (turn unended met) b now_b now last → AtEnd m s unended refused b now_b now (read_status (refused || last))
end-said m s unended kept refused last met b now_b now k u some h =
    let l : lines unended ≡ unended ∷ [] = lines-unbroken unended u (kept-some unended kept k some) in
    record {
      answered = record { turns = turn unended met ∷ []; all = sym l; told = rw append-nil h.told; state = h.state; worked = h.worked };
      refusals = ap (λ t. read_status (refused || t)) (h.refusal ∙ sym (or_false (is_refusal (m.answer s (turn unended met)))));
    }

-- the answer to it fails
pub end-stopped : {S : Type 0} (m : Machine S) (s : S) (unended kept : List ℕ) (refused : Bool) (met : Met)
    (b now_b : Beside) (now : S) (stop : Stop) → kept ≡ take KEPT unended → is_unbroken unended ≡ true →
    0 < length kept → SaidOr m s (turn unended met) b now_b now (Err stop) →
    EndsOr m s unended refused b now_b now (stop_status stop)
end-stopped m s unended kept refused met b now_b now WriteFault k u some h =
    record { some = lines-unbroken unended u (kept-some unended kept k some); met = met; said = h }
end-stopped m s unended kept refused met b now_b now NoMemory k u some h =
    record { some = lines-unbroken unended u (kept-some unended kept k some); met = met; unsaid = h }

-- a status that the end of a script gives
pub ends-read : {S : Type 0} (m : Machine S) (s : S) (unended : List ℕ) (refused : Bool) (b now_b : Beside) (now : S)
    (r : Bool) → AtEnd m s unended refused b now_b now (read_status r) → EndsOr m s unended refused b now_b now (read_status r)
ends-read m s unended refused b now_b now true h = h
ends-read m s unended refused b now_b now false h = h

-- ---- a stop within a piece

module _ {S : Type 0} (m : Machine S) (s : S) (unended piece more : List ℕ) (b now_b : Beside) where
  abbrev halted-within : Halted m s unended piece b now_b → Halted m s unended (piece ++ more) b now_b
  halted-within h = record {
    done = h.done;
    last = h.last;
    more = h.more ++ more;
    split = sym (append_assoc unended piece more) ∙ ap (λ t. t ++ more) h.split ∙ append_assoc (ended (lines_of h.done ++ h.last.line ∷ [])) h.more more;
    unbroken_done = h.unbroken_done;
    unbroken_line = h.unbroken_line;
    spent = h.spent;
  }

  pub stopped-within : (last : List ℕ) (now : S) (stop : Stop) → FedOr m s unended piece b now_b now last (Err stop) →
      FedOr m s unended (piece ++ more) b now_b now last (Err stop)
  stopped-within last now WriteFault h = record { at = halted-within h.at; count = h.count; short = h.short; told = h.told; state = h.state }
  stopped-within last now NoMemory h = record { at = halted-within h.at; part = h.part; told = h.told; state = h.state; wanted = h.wanted }

-- ---- as code feeds: the two pieces as one, by an equation

pub then-fed : {S : Type 0} (m : Machine S) (s : S) (unended piece next whole kept last : List ℕ)
    (b middle now_b : Beside) (between now : S) (refused more all : Bool) →
    Fed m s unended piece b middle between kept refused → Feeds m between kept next middle now_b now last (Ok more) →
    piece ++ next ≡ whole → all ≡ (refused || more) → Fed m s unended whole b now_b now last all
then-fed m s unended piece next whole kept last b middle now_b between now refused more all h k e a =
    rw (← e, a) (fed-fed m s unended piece next kept last b middle now_b between now refused more h (k h.rest h.front h.unbroken_rest))

pub then-stopped : {S : Type 0} (m : Machine S) (s : S) (unended piece next rest whole kept last : List ℕ)
    (b middle now_b : Beside) (between now : S) (refused : Bool) (stop : Stop) →
    Fed m s unended piece b middle between kept refused → Feeds m between kept next middle now_b now last (Err stop) →
    (piece ++ next) ++ rest ≡ whole → FedOr m s unended whole b now_b now last (Err stop)
then-stopped m s unended piece next rest whole kept last b middle now_b between now refused stop h k e =
    let P : List ℕ → Type 0 = λ t. FedOr m s unended t b now_b now last (Err stop) in
    subst P e (stopped-within m s unended (piece ++ next) rest b now_b last now stop
    (fed-stopped m s unended piece next kept b middle now_b between refused h last now stop (k h.rest h.front h.unbroken_rest)))

pub then-part : {S : Type 0} (m : Machine S) (s : S) (unended piece next whole kept last : List ℕ) (b now_b : Beside)
    (now : S) (refused : Bool) → Fed m s unended piece b now_b now kept refused → is_unbroken next ≡ true →
    last ≡ take KEPT (kept ++ next) → piece ++ next ≡ whole → Fed m s unended whole b now_b now last refused
then-part m s unended piece next whole kept last b now_b now refused h u l e =
    rw (← e, l) (fed-part m s unended piece next kept b now_b now refused u h)
