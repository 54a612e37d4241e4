use Rattle.ph_tree.specs.Stats.{stats_of}
use Rattle.ph_commands.proofs.SizeLines.{sizes_joined}
use Rattle.ph_commands.proofs.sizes.push_sizes.Goals as goal

pub returns-clause-bytes : goal.returns-clause-bytes
returns-clause-bytes c =
    rw (
      c.push_str-2.ensures.bytes,
      c.format.ensures.text,
      c.push_str.ensures.bytes,
      c.push_count-4.ensures.bytes,
      c.push_count-3.ensures.bytes,
      c.push_count-2.ensures.bytes,
      c.push_count.ensures.bytes,
    )
    (sizes_joined c.args.line.now.bytes (stats_of c.args.sizes.now))
