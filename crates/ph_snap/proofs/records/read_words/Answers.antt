use Rattle.std.proofs.Common.{◌++◌, ◌∷◌, [], sym, ◌∙◌, ap, arith, length}
use Rattle.ph_specs.specs.Load.{words_in}
use Rattle.ph_model.proofs.lemmas.ByteWords.{length-words_in}
use Rattle.ph_snap.proofs.Bytes.{words-more}
use Rattle.ph_snap.proofs.records.read_words.Goals as goal

pub push-requires : goal.push-requires
push-requires c =
    omega (arith, c.loop-i.invariant.room, ap length c.loop-i.invariant.words, length-words_in c.loop-i.i c.args.bytes.now)

pub loop-i-preserved : goal.loop-i-preserved
loop-i-preserved c =
    record {
      words = c.push.ensures.words ∙ ap (λ t. t ++ c.word_at.result ∷ []) c.loop-i.invariant.words ∙
          ap (λ t. words_in c.loop-i.i c.args.bytes.now ++ t ∷ []) c.word_at.ensures ∙
          sym (words-more c.loop-i.i c.args.bytes.now);
      room = c.push.ensures.places.0 ∙ c.loop-i.invariant.room;
    }

pub returns-clause-room : goal.returns-clause-room
returns-clause-room c =
    omega (arith, c.loop-i.invariant.room, ap length c.loop-i.invariant.words, length-words_in c.loop-i.i c.args.bytes.now)
