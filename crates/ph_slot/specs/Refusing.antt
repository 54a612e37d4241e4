-- The refusals of a command in two parts: those that need no files to be told, and those behind them.
use Rattle.std.specs.Prelude.{ℕ, Bool, not, Option, None}
use Rattle.std.specs.List.{list_all}
use Rattle.ph_specs.specs.Coordinate.{fits, is_box}
use Rattle.ph_specs.specs.declared.Kind.{Kind}
use Rattle.ph_specs.specs.Command.{Command}
use Rattle.ph_specs.specs.Reply.{Reply}
use Rattle.ph_specs.specs.State.{Slot, Files}
use Rattle.ph_specs.specs.Refusals.{points_of, boxes_of, refuse_if, refuse_if_bad, has_wrong_dims, has_wrong_kind, is_out_of_range, is_reversed}
use Rattle.ph_specs.specs.Refusals.{lacks_cursor, has_too_many_cursors, has_file_fault, table_read, is_full, is_too_far_back, points_differ}
use Rattle.ph_specs.specs.Refusals.{same_kind}

-- some point of the command has a coordinate that the width has not
abbrev pub names_points_outside : ℕ → Command → Bool
names_points_outside w cmd = not (list_all (list_all (fits w)) (points_of cmd))

-- some point of the command that has to be a box is none
abbrev pub names_reversed : Kind → Command → Bool
names_reversed kind cmd = not (list_all is_box (boxes_of kind cmd))

-- the first of the causes about cursors
abbrev pub cursor_refusal : Slot → Command → Option Reply
cursor_refusal s cmd =
    refuse_if (lacks_cursor s cmd) Reply.ErrorCursor
    (refuse_if (has_too_many_cursors s cmd) Reply.ErrorCursors None)

-- the first cause that a slot and a command tell
abbrev pub early_refusal : Slot → Command → Option Reply
early_refusal s cmd =
    refuse_if (has_wrong_dims cmd) Reply.ErrorDims
    (refuse_if (has_wrong_kind s.kind cmd) Reply.ErrorKind
    (refuse_if (is_out_of_range s cmd) Reply.ErrorRange
    (refuse_if (is_reversed s cmd) Reply.ErrorReversed (cursor_refusal s cmd))))

-- the first cause behind them
abbrev pub late_refusal : ℕ → Slot → Files → Bool → Command → Option Reply
late_refusal most s files fault cmd =
    refuse_if (has_file_fault most files fault cmd) Reply.ErrorFile
    (refuse_if_bad (table_read s files cmd)
    (refuse_if (is_full s files cmd) Reply.ErrorFull
    (refuse_if (is_too_far_back s cmd) Reply.ErrorPast None)))

-- the causes for which the tables of two slots are not combined, but for the room of a union
abbrev pub frame_refusal : Slot → Slot → Option Reply
frame_refusal s t = refuse_if (points_differ s t) Reply.ErrorDims (refuse_if (not (same_kind s.kind t.kind)) Reply.ErrorKind None)
