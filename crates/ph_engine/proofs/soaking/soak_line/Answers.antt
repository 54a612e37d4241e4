use Rattle.ph_tree.specs.Stats.{stats_of}
use Rattle.ph_commands.proofs.SizeLines.{line_of_soak}
use Rattle.ph_engine.proofs.soaking.soak_line.Goals as goal

pub returns : goal.returns
returns c =
    rw (
      c.push_str-3.ensures.bytes,
      c.push_str-2.ensures.bytes,
      c.format.ensures.text,
      c.push_str.ensures.bytes,
      c.push_sizes.ensures.bytes,
      c.push_count.ensures.bytes,
      c.new-line.ensures,
    )
    (line_of_soak c.args.n c.args.bytes (stats_of c.args.sizes.now))
