use Rattle.std.proofs.Common.{◌≡◌, ◌++◌, refl, sym, ap, ◌∙◌, drop, vec_len}
use Rattle.std.specs.List.{position}
use Rattle.std.specs.Prelude.{None}
use Rattle.ph_script.specs.Shown.{is_feed, kept}
use Rattle.ph_script.proofs.LinePieces.{feed-none, not_ended, ends, no-byte, line-shown, line-whole, line-goes_on}
use Rattle.ph_script.proofs.lines.Lines.next_line.Goals as goal

pub returns-then-is_whole : goal.returns-then-is_whole
returns-then-is_whole c =
    let rest = drop c.args.at.now c.args.piece.now in
    let line = ends c.args.self.now rest _ c.args.at.now c.in-Some.end c.show.result c.split_at.ensures.back c.in-Some.ensures
    (λ feed. line-whole c.self.inside.is_over c.self.inside.buffer.items
    c.args.self.now c.begin.new.buffer.items rest c.split_at.result.1.now c.split_at-in-Some.result.0.now
    c.in-Some.end c.show.result c.begin.ensures.items c.self.view_is
    (no-byte c.begin.new.buffer.items (vec_len c.begin.new.buffer)
    (sym c.is_empty-is_whole.ensures ∙ c.if-is_whole.true) c.begin.new.buffer.ok.0) c.split_at.ensures.back
    feed c.split_at-in-Some.ensures.front c.show.ensures) in
    ((refl, (λ _. tt), line.none), record { rests = tt; given = line.given; place = line.place })

pub returns-else-is_whole : goal.returns-else-is_whole
returns-else-is_whole c =
    let rest = drop c.args.at.now c.args.piece.now in
    let line = ends c.args.self.now rest _ c.args.at.now c.in-Some.end c.show-in-Some.result c.split_at.ensures.back c.in-Some.ensures
    (λ feed. line-shown c.self.inside.is_over c.self.inside.buffer.items
    c.args.self.now c.begin.new.buffer.items rest c.split_at.result.1.now c.keep.new.buffer.items
    c.deref.result.now c.in-Some.end c.show-in-Some.result c.begin.ensures.items c.self.view_is
    c.split_at.ensures.back feed
    (c.keep.ensures.items ∙ ap (λ l. kept (c.begin.new.buffer.items ++ l)) c.split_at-in-Some.ensures.front)
    c.deref.ensures.value c.show-in-Some.ensures) in
    ((refl, (λ _. tt), line.none), record { rests = tt; given = line.given; place = line.place })

pub returns-in-None : goal.returns-in-None
returns-in-None c =
    let rest = drop c.args.at.now c.args.piece.now in
    let found : position is_feed rest ≡ None = rw (← c.split_at.ensures.back) (sym c.in-None.ensures) in
    let line = line-goes_on c.self.inside.is_over c.self.inside.buffer.items c.args.self.now c.begin.new.buffer.items
    rest c.split_at.result.1.now c.keep-in-None.new.buffer.items c.begin.ensures.items c.self.view_is
    c.split_at.ensures.back c.keep-in-None.ensures.items in (
      (refl, (λ _. tt), line ∙ sym (not_ended c.args.self.now rest found)),
      record {
        rests = tt;
        given = feed-none rest found;
        place = refl;
      },
    )
