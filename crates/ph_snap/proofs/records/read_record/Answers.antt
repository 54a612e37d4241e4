use Rattle.std.proofs.Common.{◌-◌, ◌^◌, ◌≤◌, ◌∙◌, ap, sym, arith, take, drop, length}
use Rattle.std.proofs.Math.Pow.{pow_mono}
use Rattle.ph_specs.specs.Record.{first_of}
use Rattle.ph_snap.specs.Frames.{said_by}
use Rattle.ph_snap.proofs.Framed.{IsFramedAt, at_most, framed-at}
use Rattle.ph_snap.proofs.records.read_record.Goals.{After-as_slice}
use Rattle.ph_snap.proofs.records.read_record.Goals as goal

pub read_words-requires-clause-small : goal.read_words-requires-clause-small
read_words-requires-clause-small c =
    let format = c.args.format.now in
    let few : 2 ^ format.dims ≤ 2 ^ 16 = pow_mono c.requires.format.few in
    let most = at_most format c.args.place.now c.requires.format c.requires.standing (said_by c.new-first.result) (sym c.if-not-fits.ensures) in
    omega (arith, few, most, c.words-len.ensures.limit)

-- the words that were read
read : (c : After-as_slice) → IsFramedAt c.args.format.now c.args.place.now c.new-first.result c.in-Ok.words.words
read c =
    let bytes = c.args.bytes.now in
    framed-at c.args.format.now c.args.place.now (take (length bytes - c.args.at) (drop c.args.at bytes)) c.requires.format c.requires.standing
    (c.new-first.ensures ∙ ap first_of c.word_at.ensures) c.words-len.ensures.value c.in-Ok.ensures.words
    c.if-not-fits.ensures

pub rest_fits-requires-clause-framed : goal.rest_fits-requires-clause-framed
rest_fits-requires-clause-framed c =
    rw c.as_slice.ensures (read (goal.at.rest_fits-requires-clause-framed c).After-as_slice).framed

pub rest_fits-requires-clause-first : goal.rest_fits-requires-clause-first
rest_fits-requires-clause-first c =
    rw c.as_slice.ensures (read (goal.at.rest_fits-requires-clause-first c).After-as_slice).same

pub rest_fits-requires-clause-clear : goal.rest_fits-requires-clause-clear
rest_fits-requires-clause-clear c =
    rw c.as_slice.ensures (read (goal.at.rest_fits-requires-clause-clear c).After-as_slice).clear

pub returns-clause-clear : goal.returns-clause-clear
returns-clause-clear c = (read (goal.at.returns-clause-clear c).After-as_slice).clear

pub returns-clause-low : goal.returns-clause-low
returns-clause-low c = (read (goal.at.returns-clause-low c).After-as_slice).low

pub returns-clause-room : goal.returns-clause-room
returns-clause-room c =
    c.in-Ok.ensures.room ∙ ap (λ t. t.children) (read (goal.at.returns-clause-room c).After-as_slice).same
