-- Bytes are written over as many, behind those that were written before.
use Rattle.std.proofs.Common.{◌≡◌, ℕ, ◌+◌, ◌≤◌, List, length, refl, ap, arith}
use Rattle.std.proofs.lemmas.Grind.{common_steps}
use Rattle.ph_c.proofs.Slices.{put-size, put-behind}
use Rattle.ph_c.proofs.slice_sink.SliceSinkSink.write.Goals as goal

pub returns-clause-follows : goal.returns-clause-follows
returns-clause-follows c =
    let at = c.args.self.now.count in
    let n = c.min-count.result in
    let long : length c.copy_from_slice.new.self ≡ n = grind (arith, common_steps, ap (λ (l : List ℕ). length l) c.copy_from_slice.ensures.after) in
    let room : at + n ≤ length c.args.self.now.bytes.now = grind (arith, common_steps) in
    record {
      loan = refl;
      size = put-size at n c.args.self.now.bytes.now c.copy_from_slice.new.self room long;
      later = omega arith;
      behind = put-behind at n c.args.self.now.bytes.now c.copy_from_slice.new.self room long;
      works = λ h. refl;
    }
