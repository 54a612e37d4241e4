use Rattle.std.proofs.Common.{refl, sym, ◌∙◌}
use Rattle.ph_specs.specs.Lines.{words}
use Rattle.ph_specs.specs.Command.{forms}
use Rattle.ph_script.proofs.FormsOfWord.{line-reads, not_comment}
use Rattle.ph_script.proofs.ReadPlaces.{fit-of, does}
use Rattle.ph_script.proofs.read.read_any.Goals as goal

pub command-requires-clause-fit : goal.command-requires-clause-fit
command-requires-clause-fit c =
    let n = c.in-Ok.ensures.1 in
    rw c.as_slice.ensures (fit-of c.in-Ok.verb c.args.dims _ (words c.in-Some.rest.now) _ _ _ _ refl n.1 n.3 n.4 n.5 n.6)

pub returns-in-Ok-clause-meaning : goal.returns-in-Ok-clause-meaning
returns-in-Ok-clause-meaning c =
    let n = c.in-Ok.ensures.1 in
    let meaning = rw c.as_slice.ensures at c.command.ensures.meaning in
    let line = line-reads (words c.args.line.now) c.in-Some.word.text.now (words c.in-Some.rest.now)
    (forms c.args.dims) c.in-Some.ensures.value (not_comment c.in-Some.word.text.now c.if-word-eq-COMMENT.false) in
    sym (line ∙ c.in-Ok.ensures.0 ∙ does c.in-Some.word.text.now c.in-Ok.verb c.args.dims _ _
    (words c.in-Some.rest.now) _ _ _ _ _ _ refl refl n.1 n.2 n.3 n.4 n.5 n.6 n.7 meaning)

pub returns-in-Err-clause-meaning : goal.returns-in-Err-clause-meaning
returns-in-Err-clause-meaning c =
    let line = line-reads (words c.args.line.now) c.in-Some.word.text.now (words c.in-Some.rest.now)
    (forms c.args.dims) c.in-Some.ensures.value (not_comment c.in-Some.word.text.now c.if-word-eq-COMMENT.false) in
    sym (line ∙ c.in-Err.ensures)
