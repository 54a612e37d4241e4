-- What is replied to a command that is refused.
use Rattle.ph_specs.specs.Reply.{Reply}
use Rattle.ph_slot.specs.declared.refusals.Refusal.{Refusal}
use Rattle.ph_slot.specs.declared.refusals.Refusal.TheVariants.{Dims, Kind, Range, Reversed, Cursor, Cursors}

abbrev pub refusal_reply : Refusal → Reply
refusal_reply Dims = Reply.ErrorDims
refusal_reply Kind = Reply.ErrorKind
refusal_reply Range = Reply.ErrorRange
refusal_reply Reversed = Reply.ErrorReversed
refusal_reply Cursor = Reply.ErrorCursor
refusal_reply Cursors = Reply.ErrorCursors
