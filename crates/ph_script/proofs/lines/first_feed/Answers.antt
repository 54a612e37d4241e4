use Rattle.ph_script.proofs.LinePieces.{found-feed}
use Rattle.ph_script.proofs.lines.first_feed.Goals as goal

pub returns : goal.returns
returns c = found-feed c.args.bytes.now c.memchr.result c.memchr.ensures
