-- A run over the pieces of a source, from what one piece leads to.
use Rattle.std.proofs.Common.{◌≡◌, ℕ, ◌+◌, ◌<◌, ◌≤◌, inl, inr, Bool, true, false, ◌||◌, List, [], ◌∷◌, ◌++◌, length, take, refl, ap, sym, ◌∙◌}
use Rattle.std.proofs.Common.{append_assoc, append-nil, arith}
use Rattle.std.specs.Prelude.{◌⊎◌, Ok, Err}
use Rattle.std.specs.declared.option.Option.{Option}
use Rattle.std.proofs.lemmas.Bool.{cases_lt}
use Rattle.std.proofs.lemmas.List.{take_all}
use Rattle.std.specs.Io.KnownBytes.{Consumes, IsAtEnd, Keeps}
use Rattle.ph_io.specs.Giving.{Given}
use Rattle.ph_slot.specs.Beside.{Beside}
use Rattle.ph_specs.specs.Lines.{lines, whole_lines}
use Rattle.ph_engine.specs.Costs.{Spent}
use Rattle.ph_engine.specs.Machine.{Machine, Met, turn, answers, after, some_refused, lines_of, KEPT}
use Rattle.ph_engine.specs.Answering.{Answers}
use Rattle.ph_engine.specs.Cutting.{ended, is_unbroken, are_unbroken}
use Rattle.ph_engine.specs.Feeding.{Fed, Halted, FedOr, Feeds, AtEnd, EndsOr, Ends}
use Rattle.ph_engine.specs.Outcomes.{Answered, Interrupted, Exceeded, HaltedAt, Outcome}
use Rattle.ph_engine.specs.Statuses.{read_status, stop_status}
use Rattle.ph_engine.specs.declared.status.Status.{Status}
use Rattle.ph_engine.specs.declared.status.Status.TheVariants as by
use Rattle.ph_engine.specs.declared.status.Status.TheVariants.{Clean, Refused, Usage, ReadFault, TooLong}
use Rattle.ph_commands.specs.declared.answer.Stop.{Stop}
use Rattle.ph_commands.specs.declared.answer.Stop.TheVariants.{WriteFault, NoMemory}
use Rattle.ph_io.proofs.Appending.{given_none, given_both, consumes_none, consumes_both, consumes_kept, take_within, length_more}
use Rattle.ph_engine.proofs.Cuts.{lines-ended, whole-ended, whole-unbroken, all-append, take-empty}
use Rattle.ph_engine.proofs.Machines.{answers-append, after-append, refused-append, lines-append}
use Rattle.ph_engine.proofs.Sums.{spent_both, worked_both, worked_none}
use Rattle.ph_engine.proofs.Feeds.{fed-none, then-fed, then-stopped}

-- The run has taken `taken` bytes, has answered the lines that they end, and has the front of an unended line.
pub record Reached {S : Type 0} (m : Machine S) (left now_left : Option (List ℕ)) (b now_b : Beside) (s now : S)
    (kept : List ℕ) (refused : Bool) (taken : ℕ) : Type 0 where
  pub bytes : List ℕ
  pub consumed : Consumes left now_left bytes
  pub count : length bytes ≡ taken
  pub fed : Fed m s [] bytes b now_b now kept refused

pub reached-none : {S : Type 0} (m : Machine S) (left : Option (List ℕ)) (b : Beside) (s : S) (kept : List ℕ) → kept ≡ [] → Reached m left left b b s s kept false 0
reached-none m left b s kept e = record {
  bytes = [];
  consumed = consumes_none left;
  count = refl;
  fed = fed-none m s [] kept b (e ∙ sym (take-empty KEPT)) refl;
}

-- ---- lines of bytes that were fed

fed-lines : {S : Type 0} (m : Machine S) (s now : S) (bytes kept : List ℕ) (b now_b : Beside) (refused : Bool) →
    (h : Fed m s [] bytes b now_b now kept refused) → lines bytes ≡ lines_of h.done ++ lines h.rest
fed-lines m s now bytes kept b now_b refused h = ap lines h.split ∙ lines-ended (lines_of h.done) h.rest h.unbroken_done

fed-whole : {S : Type 0} (m : Machine S) (s now : S) (bytes kept : List ℕ) (b now_b : Beside) (refused : Bool) →
    (h : Fed m s [] bytes b now_b now kept refused) → whole_lines bytes ≡ lines_of h.done
fed-whole m s now bytes kept b now_b refused h =
    ap whole_lines h.split ∙ whole-ended (lines_of h.done) h.rest h.unbroken_done ∙ ap (λ t. lines_of h.done ++ t)
    (whole-unbroken h.rest h.unbroken_rest) ∙ append-nil (lines_of h.done)

fed-answers : {S : Type 0} (m : Machine S) (s now : S) (bytes kept : List ℕ) (b now_b : Beside) (refused : Bool) →
    (h : Fed m s [] bytes b now_b now kept refused) → (ls : List (List ℕ)) → ls ≡ lines_of h.done → Answers m ls b now_b s now
fed-answers m s now bytes kept b now_b refused h ls e = record { turns = h.done; all = sym e; told = h.told; state = h.state; worked = h.worked }

-- ---- a read fails

pub interrupted : {S : Type 0} (m : Machine S) (most : ℕ) (left middle now_left : Option (List ℕ)) (b now_b : Beside)
    (s now : S) (kept : List ℕ) (refused : Bool) (taken : ℕ) →
    Reached m left middle b now_b s now kept refused taken → taken ≤ most → Keeps middle now_left →
    Interrupted m most left now_left b now_b s now
interrupted m most left middle now_left b now_b s now kept refused taken h w k =
    let e = fed-whole m s now h.bytes kept b now_b refused h.fed in
    record {
      bytes = h.bytes;
      consumed = let c : Consumes left now_left (h.bytes ++ []) = consumes_both left middle now_left h.bytes []
          h.consumed (consumes_kept middle now_left k) in rw append-nil at c;
      within = omega (arith, h.count);
      answered = fed-answers m s now h.bytes kept b now_b refused h.fed (whole_lines h.bytes) e;
    }

-- ---- the source is at its end

end-read : {S : Type 0} (m : Machine S) (most : ℕ) (left now_left : Option (List ℕ)) (b now_b last_b : Beside)
    (s now last : S) (kept : List ℕ) (refused : Bool) (taken : ℕ) (status : Status) →
    (h : Reached m left now_left b now_b s now kept refused taken) → taken ≤ most → IsAtEnd now_left →
    AtEnd m now h.fed.rest refused now_b last_b last status → Answered m most left now_left b last_b s last status
end-read m most left now_left b now_b last_b s now last kept refused taken status h w a k =
    let turns = k.answered.turns in
    record {
      bytes = h.bytes;
      consumed = h.consumed;
      ended = a;
      within = omega (arith, h.count);
      answered = record {
        turns = h.fed.done ++ turns;
        all = lines-append h.fed.done turns ∙ ap (λ t. lines_of h.fed.done ++ t) k.answered.all ∙ sym (fed-lines m s now h.bytes kept b now_b refused h.fed);
        told = rw (answers-append m s h.fed.done turns, ← h.fed.state) (given_both b.sink now_b.sink last_b.sink _ _ h.fed.told k.answered.told);
        state = k.answered.state ∙ ap (λ t. after m t turns) h.fed.state ∙ sym (after-append m s h.fed.done turns);
        worked = worked_both m s now h.fed.done turns b now_b last_b h.fed.state h.fed.worked k.answered.worked;
      };
      refusals = k.refusals ∙ ap read_status
          (ap (λ t. t || some_refused m now turns) h.fed.refusals ∙
          ap (λ t. some_refused m s h.fed.done || some_refused m t turns) h.fed.state ∙
          sym (refused-append m s h.fed.done turns));
    }

-- the unended line is not answered whole
abbrev end-halted : {S : Type 0} (m : Machine S) (most : ℕ) (left now_left : Option (List ℕ)) (b now_b last_b : Beside)
    (s now : S) (kept : List ℕ) (refused : Bool) (taken : ℕ) → (h : Reached m left now_left b now_b s now kept refused taken) →
    taken ≤ most → IsAtEnd now_left → (met : Met) → lines h.fed.rest ≡ h.fed.rest ∷ [] →
    Spent m now (turn h.fed.rest met ∷ []) now_b last_b → HaltedAt m most left now_left b last_b s
end-halted m most left now_left b now_b last_b s now kept refused taken h w a met some spent = record {
  bytes = h.bytes;
  consumed = h.consumed;
  within = omega (arith, h.count);
  done = h.fed.done;
  last = turn h.fed.rest met;
  more = [];
  taken = inr (omega (arith, h.count), a, fed-lines m s now h.bytes kept b now_b refused h.fed ∙ ap (λ t. lines_of h.fed.done ++ t) some);
  spent = spent_both m s now h.fed.done (turn h.fed.rest met ∷ []) b now_b last_b h.fed.state h.fed.worked.spent spent;
}

end-or : {S : Type 0} (m : Machine S) (most : ℕ) (left now_left : Option (List ℕ)) (b now_b last_b : Beside)
    (s now last : S) (kept : List ℕ) (refused : Bool) (taken : ℕ) (status : Status) →
    (h : Reached m left now_left b now_b s now kept refused taken) → taken ≤ most → IsAtEnd now_left →
    EndsOr m now h.fed.rest refused now_b last_b last status → Outcome m most left now_left b last_b s last status
end-or m most left now_left b now_b last_b s now last kept refused taken Clean h w a k = end-read m most left now_left
    b now_b last_b s now last kept refused taken Clean h w a k
end-or m most left now_left b now_b last_b s now last kept refused taken Refused h w a k =
    end-read m most left now_left b now_b last_b s now last kept refused taken Refused h w a k
end-or m most left now_left b now_b last_b s now last kept refused taken by.WriteFault h w a k = record {
  at = end-halted m most left now_left b now_b last_b s now kept refused taken h w a k.met k.some k.said.spent;
  count = k.said.count;
  short = rw (← h.fed.state) k.said.short;
  told = rw (← h.fed.state) (given_both b.sink now_b.sink last_b.sink _ _ h.fed.told k.said.told);
  state = k.said.state ∙ ap (λ t. m.cut t (turn h.fed.rest k.met)) h.fed.state;
}
end-or m most left now_left b now_b last_b s now last kept refused taken by.Memory h w a k = inr (record {
  at = end-halted m most left now_left b now_b last_b s now kept refused taken h w a k.met k.some k.unsaid.spent;
  part = k.unsaid.part;
  told = let t : Given b.sink last_b.sink (answers m s h.fed.done ++ []) = given_both b.sink now_b.sink last_b.sink _ _ h.fed.told k.unsaid.told in rw append-nil at t;
  state = k.unsaid.state ∙ ap (λ t. m.starved t (turn h.fed.rest k.met) k.unsaid.part) h.fed.state;
  wanted = rw (← h.fed.state) k.unsaid.wanted;
})
end-or m most left now_left b now_b last_b s now last kept refused taken Usage h w a k = absurd k
end-or m most left now_left b now_b last_b s now last kept refused taken ReadFault h w a k = absurd k
end-or m most left now_left b now_b last_b s now last kept refused taken TooLong h w a k = absurd k

pub at-end : {S : Type 0} (m : Machine S) (most : ℕ) (left middle now_left : Option (List ℕ))
    (b now_b last_b : Beside) (s now last : S) (kept none : List ℕ) (refused : Bool) (taken : ℕ) (status : Status) →
    Reached m left middle b now_b s now kept refused taken → taken ≤ most → Consumes middle now_left none →
    none ≡ [] → IsAtEnd now_left → Ends m now kept refused now_b last_b last status →
    Outcome m most left now_left b last_b s last status
at-end m most left middle now_left b now_b last_b s now last kept none refused taken status h w c e a k =
    let d : Consumes left now_left (h.bytes ++ none) = consumes_both left middle now_left h.bytes none h.consumed c in
    let r : Reached m left now_left b now_b s now kept refused taken = record { bytes = h.bytes; consumed = rw (e, append-nil) at d; count = h.count; fed = h.fed } in
    end-or m most left now_left b now_b last_b s now last kept refused taken status r w a (k h.fed.rest h.fed.front h.fed.unbroken_rest)

-- ---- a piece

-- the piece is fed whole
pub reached-more : {S : Type 0} (m : Machine S) (left middle now_left : Option (List ℕ)) (b now_b last_b : Beside)
    (s now last : S) (kept next piece fresh : List ℕ) (refused some all : Bool) (taken count : ℕ) →
    Reached m left middle b now_b s now kept refused taken → Consumes middle now_left (take count piece) →
    count ≤ length piece → fresh ≡ take count piece → Feeds m now kept fresh now_b last_b last next (Ok some) →
    all ≡ (refused || some) → Reached m left now_left b last_b s last next all (taken + count)
reached-more m left middle now_left b now_b last_b s now last kept next piece fresh refused some all taken count h c w e k a = record {
  bytes = h.bytes ++ take count piece;
  consumed = consumes_both left middle now_left h.bytes (take count piece) h.consumed c;
  count = length_more h.bytes piece count taken h.count w;
  fed = then-fed m s [] h.bytes fresh (h.bytes ++ take count piece) kept next b now_b last_b now last refused some all h.fed k (ap (λ t. h.bytes ++ t) e) a;
}

-- one byte too many is read
pub exceeded : {S : Type 0} (m : Machine S) (most : ℕ) (left middle now_left : Option (List ℕ))
    (b now_b last_b : Beside) (s now last : S) (kept next piece fresh : List ℕ) (refused some : Bool)
    (taken count front : ℕ) → Reached m left middle b now_b s now kept refused taken →
    Consumes middle now_left (take count piece) → count ≤ length piece → front ≤ count → fresh ≡ take front piece →
    taken + front ≡ most → taken + count ≡ most + 1 → Feeds m now kept fresh now_b last_b last next (Ok some) →
    Exceeded m most left now_left b last_b s last
exceeded m most left middle now_left b now_b last_b s now last kept next piece fresh refused some taken count front h c w f e t o k =
    let fed : Fed m s [] (h.bytes ++ take front piece) b last_b last next (refused || some) =
    then-fed m s [] h.bytes fresh (h.bytes ++ take front piece) kept next b now_b last_b now last refused some
    (refused || some) h.fed k (ap (λ x. h.bytes ++ x) e) refl in
    let early : take most (h.bytes ++ take count piece) ≡ h.bytes ++ take front piece = take_within h.bytes piece most front count f w (omega (arith, h.count)) in
    let l : whole_lines (take most (h.bytes ++ take count piece)) ≡ lines_of fed.done = ap whole_lines early ∙
    fed-whole m s last (h.bytes ++ take front piece) next b last_b (refused || some) fed in
    record {
      bytes = h.bytes ++ take count piece;
      consumed = consumes_both left middle now_left h.bytes (take count piece) h.consumed c;
      over = length_more h.bytes piece count taken h.count w ∙ o;
      answered = fed-answers m s last (h.bytes ++ take front piece) next b last_b (refused || some) fed (whole_lines (take most (h.bytes ++ take count piece))) l;
    }

stop-lines : (bytes : List ℕ) (done : List (List ℕ)) (line more : List ℕ) →
    bytes ≡ ended (done ++ line ∷ []) ++ more → are_unbroken done ≡ true → is_unbroken line ≡ true →
    whole_lines bytes ≡ done ++ line ∷ whole_lines more
stop-lines bytes done line more e u v =
    ap whole_lines e ∙ whole-ended (done ++ line ∷ []) more (all-append _ done (line ∷ []) u (rw v refl)) ∙ append_assoc done (line ∷ []) (whole_lines more)

module _ {S : Type 0} (m : Machine S) (most : ℕ) (left now_left : Option (List ℕ)) (b now_b : Beside) (s : S)
    (bytes early : List ℕ) (c : Consumes left now_left bytes) (w : length bytes ≤ most + 1) (e : take most bytes ≡ early) where
  abbrev stop-halted : Halted m s [] early b now_b → HaltedAt m most left now_left b now_b s
  stop-halted h = record {
    bytes = bytes;
    consumed = c;
    within = w;
    done = h.done;
    last = h.last;
    more = whole_lines h.more;
    taken = inl (ap whole_lines e ∙ stop-lines early (lines_of h.done) h.last.line h.more h.split h.unbroken_done h.unbroken_line);
    spent = h.spent;
  }

  stop-or : (kept : List ℕ) (now : S) (stop : Stop) → FedOr m s [] early b now_b now kept (Err stop) →
      Outcome m most left now_left b now_b s now (stop_status stop)
  stop-or kept now WriteFault h = record { at = stop-halted h.at; count = h.count; short = h.short; told = h.told; state = h.state }
  stop-or kept now NoMemory h = inr (record { at = stop-halted h.at; part = h.part; told = h.told; state = h.state; wanted = h.wanted })

-- the bytes within the limit are those of the piece's front
early-bytes : (bytes piece : List ℕ) (most front count : ℕ) → front ≤ count → count ≤ length piece →
    (most < length bytes + count → length bytes + front ≡ most) → (length bytes + count ≤ most → front ≡ count) →
    take most (bytes ++ take count piece) ≡ bytes ++ take front piece
early-bytes bytes piece most front count f w long short = by-case (cases_lt most (length bytes + count))
  where
    by-case : (most < length bytes + count) ⊎ (length bytes + count ≤ most) → take most (bytes ++ take count piece) ≡ bytes ++ take front piece
    by-case (inl h) = take_within bytes piece most front count f w (long h)
    by-case (inr h) = take_all most (bytes ++ take count piece) (omega (arith, h, length_more bytes piece count (length bytes) refl w)) ∙
        ap (λ n. bytes ++ take n piece) (sym (short h))

-- a line of the piece ends the run
pub stopped : {S : Type 0} (m : Machine S) (most : ℕ) (left middle now_left : Option (List ℕ))
    (b now_b last_b : Beside) (s now last : S) (kept next piece fresh : List ℕ) (refused : Bool)
    (taken count front : ℕ) (stop : Stop) → Reached m left middle b now_b s now kept refused taken →
    Consumes middle now_left (take count piece) → count ≤ length piece → front ≤ count → fresh ≡ take front piece →
    taken + count ≤ most + 1 → (most < taken + count → taken + front ≡ most) → (taken + count ≤ most → front ≡ count) →
    Feeds m now kept fresh now_b last_b last next (Err stop) →
    Outcome m most left now_left b last_b s last (stop_status stop)
stopped m most left middle now_left b now_b last_b s now last kept next piece fresh refused taken count front stop h c w f e o long short k =
    stop-or m most left now_left b last_b s (h.bytes ++ take count piece) (h.bytes ++ take front piece)
    (consumes_both left middle now_left h.bytes (take count piece) h.consumed c)
    (omega (arith, length_more h.bytes piece count taken h.count w))
    (early-bytes h.bytes piece most front count f w
    (λ x. omega (arith, long (omega (arith, x, h.count)), h.count)) (λ x. short (omega (arith, x, h.count)))) next last stop
    (then-stopped m s [] h.bytes fresh [] (h.bytes ++ take front piece) kept next b now_b last_b now last refused stop h.fed k
    (append-nil (h.bytes ++ fresh) ∙ ap (λ t. h.bytes ++ t) e))

-- ---- memory is missing before the first read

pub starved-at-once : {S : Type 0} (m : Machine S) (most : ℕ) (left : Option (List ℕ)) (b : Beside) (s : S) → Outcome m most left left b b s s by.Memory
starved-at-once m most left b s = inl (record {
  consumed = consumes_none left;
  answered = record { turns = []; all = refl; told = given_none b.sink; state = refl; worked = worked_none m s b };
})
