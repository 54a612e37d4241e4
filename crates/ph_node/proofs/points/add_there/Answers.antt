use Rattle.std.proofs.Common.{◌≡◌, length, refl, arith, ap, ◌∙◌}
use Rattle.std.proofs.lemmas.Result.{err_from_is_err_and}
use Rattle.ph_node.specs.RecordEdit.{record_with}
use Rattle.ph_node.specs.Rooms.{places_of}
use Rattle.ph_node.proofs.Resized.{longer_with, long_with}
use Rattle.ph_node.proofs.points.add_there.Goals as goal

pub returns-in_err-make_room : goal.returns-in_err-make_room
returns-in_err-make_room g c =
    let is = err_from_is_err_and c.from_residual.result c.from_residual.ensures.1 in
    rw is.1 (record {
      put = record { words = tt; kept = c.make_room.ensures.words; values = c.make_room.ensures.values };
      room = record {
        lean = λ has. absurd (let no = (c.in_err-make_room.ensures.lean (omega (arith, has.1, c.length_with-long.ensures.value))).0 in cc);
        same = λ has. absurd (let no = (c.in_err-make_room.ensures.lean (omega (arith, has.1, c.length_with-long.ensures.value))).0 in cc);
        longer = λ _. tt;
        changed = λ _. tt;
        used = λ _. tt;
      };
    })

pub returns : goal.returns
returns g c =
    let words : c.insert_entry.new.block.words ≡ record_with g.P.Dims.D c.args.block.now.words c.args.edit.now =
    c.insert_entry.ensures.words
    ∙ ap (λ d. record_with d c.make_room.new.block.words c.args.edit.now) c.D-dims.ensures
    ∙ ap (λ ws. record_with g.P.Dims.D ws c.args.edit.now) c.make_room.ensures.words in
    record {
      put = record {
        words = words;
        kept = tt;
        values = c.insert_entry.ensures.same.0 ∙ c.make_room.ensures.values;
      };
      room = record {
        lean = λ _. refl;
        same = λ has.
            let kept = (c.in_ok-make_room.ensures.lean (omega (arith, has.1, c.length_with-long.ensures.value))).1 in
            omega (arith, c.insert_entry.ensures.places, ap length c.insert_entry.ensures.same.0, ap (λ b. places_of b) kept);
        longer = λ more.
            let fits = c.in_ok-make_room.ensures.most (omega (arith, more, c.length_with-long.ensures.value)) in
            omega (arith, fits, c.insert_entry.ensures.places, ap length c.insert_entry.ensures.same.0, c.length_with-long.ensures.value);
        changed = λ no. absurd (no c.requires.layout);
        used = λ was.
            let q = c.requires.new in
            let longer = longer_with _ _ _ q.edit q.less q.more q.point in
            let most = c.in_ok-make_room.ensures.used (omega (arith, longer, c.length_with-long.ensures.value)) was in
            let long = ap length words ∙ long_with _ _ _ q.edit in
            omega (
              arith,
              most,
              long,
              c.insert_entry.ensures.places,
              ap length c.insert_entry.ensures.same.0,
              ap length c.make_room.ensures.values,
              c.length_with-long.ensures.value,
            );
      };
    }
