-- What the commands and replies of the code are in the definitions.
use Rattle.std.specs.Prelude.{◌^◌, List, map, ℤ, pos, Option, Some, None, Result, Ok, Err}
use Rattle.ph_specs.specs.Command.{Command as Asked, Reading}
use Rattle.ph_specs.specs.Command.Command.{Begin as AskBegin, Put as AskPut, Get as AskGet, Del as AskDel, Relocate as AskRelocate, Count as AskCount}
use Rattle.ph_specs.specs.Command.Command.{Clear as AskClear, Window as AskWindow, Cursor as AskCursor, Page as AskPage, Near as AskNear}
use Rattle.ph_specs.specs.Command.Command.{Within as AskWithin, Overlap as AskOverlap, Inside as AskInside, Covers as AskCovers, Save as AskSave}
use Rattle.ph_specs.specs.Command.Command.{Load as AskLoad, Import as AskImport, Export as AskExport, Statistics as AskStatistics, Select as AskSelect}
use Rattle.ph_specs.specs.Command.Command.{Compare as AskCompare, Join as AskJoin, Combine as AskCombine, Keep as AskKeep, Back as AskBack}
use Rattle.ph_specs.specs.Reply.{Reply as Answer}
use Rattle.ph_script.specs.declared.coords.Coord.{Coord}
use Rattle.ph_script.specs.declared.coords.Coord.TheVariants.{Whole, Far}
use Rattle.ph_script.specs.declared.command.Command.{Command}
use Rattle.ph_script.specs.declared.command.Command.TheVariants.{Begin, Put, Get, Del, Relocate, Count, Clear, Window, Cursor, Page, Near}
use Rattle.ph_script.specs.declared.command.Command.TheVariants.{Within, Overlap, Inside, Covers, Save, Load, Import, Export, Stats}
use Rattle.ph_script.specs.declared.command.Command.TheVariants.{Select, Same as SameSlots, Join, Combine, Keep, Back}
use Rattle.ph_script.specs.declared.command.Bad.{Bad}
use Rattle.ph_script.specs.declared.command.Bad.TheVariants.{Word, Count as BadCount, Number, Name}
use Rattle.ph_script.specs.declared.reply.Reply.{Reply}
use Rattle.ph_script.specs.declared.reply.Reply.TheVariants.{Opened, New, Old, Value, Absent, Gone, Moved, Taken, Rows, Cleared, End, More, Ready, Saved}
use Rattle.ph_script.specs.declared.reply.Reply.TheVariants.{Loaded, Imported, Exported, Using, Same, Differ, Combined, Keeping, WentBack, ErrorLong}
use Rattle.ph_script.specs.declared.reply.Reply.TheVariants.{ErrorWord, ErrorCount, ErrorNumber, ErrorName, ErrorDims, ErrorKind, ErrorRange, ErrorReversed}
use Rattle.ph_script.specs.declared.reply.Reply.TheVariants.{ErrorCursor, ErrorCursors, ErrorFile, ErrorFull, ErrorPast, BadMagic, BadHeader, BadDims}
use Rattle.ph_script.specs.declared.reply.Reply.TheVariants.{BadShort, BadNode, BadExtra, BadFields, BadNumber, BadRange, BadReversed}

-- a coordinate; one that is far stands for each number outside of 64 bits
abbrev pub number_of_coord : Coord → ℤ
number_of_coord (Whole n) = n
number_of_coord Far = pos (2 ^ 63)

abbrev pub numbers_of : List Coord → List ℤ
numbers_of cs = map number_of_coord cs

abbrev pub command_of : Command → Asked
command_of (Begin kind k width max) = AskBegin kind k width max
command_of (Put at value) = AskPut (numbers_of at) value
command_of (Get at) = AskGet (numbers_of at)
command_of (Del at) = AskDel (numbers_of at)
command_of (Relocate from to) = AskRelocate (numbers_of from) (numbers_of to)
command_of Count = AskCount
command_of Clear = AskClear
command_of (Window lo hi) = AskWindow (numbers_of lo) (numbers_of hi)
command_of (Cursor name lo hi) = AskCursor name (numbers_of lo) (numbers_of hi)
command_of (Page name n) = AskPage name n
command_of (Near q n) = AskNear (numbers_of q) n
command_of (Within q r) = AskWithin (numbers_of q) r
command_of (Overlap bounds) = AskOverlap (numbers_of bounds)
command_of (Inside bounds) = AskInside (numbers_of bounds)
command_of (Covers bounds) = AskCovers (numbers_of bounds)
command_of (Save file) = AskSave file
command_of (Load file) = AskLoad file
command_of (Import file header) = AskImport file header
command_of (Export file) = AskExport file
command_of Stats = AskStatistics
command_of (Select slot) = AskSelect slot
command_of SameSlots = AskCompare
command_of Join = AskJoin
command_of (Combine operation) = AskCombine operation
command_of (Keep n) = AskKeep n
command_of (Back n) = AskBack n

abbrev pub bad_reply : Bad → Answer
bad_reply Word = Answer.ErrorWord
bad_reply BadCount = Answer.ErrorCount
bad_reply Number = Answer.ErrorNumber
bad_reply Name = Answer.ErrorName

-- what a line was read as
abbrev pub reading_of : Result (Option Command) Bad → Reading
reading_of (Ok None) = Reading.Nothing
reading_of (Ok (Some c)) = Reading.Do (command_of c)
reading_of (Err b) = Reading.Refused (bad_reply b)

abbrev pub reply_of : Reply → Answer
reply_of Opened = Answer.Opened
reply_of New = Answer.New
reply_of (Old v) = Answer.Old v
reply_of (Value v) = Answer.Value v
reply_of Absent = Answer.Absent
reply_of (Gone v) = Answer.Gone v
reply_of Moved = Answer.Moved
reply_of Taken = Answer.Taken
reply_of (Rows n) = Answer.Rows n
reply_of Cleared = Answer.Cleared
reply_of (End n) = Answer.End n
reply_of (More n) = Answer.More n
reply_of Ready = Answer.Ready
reply_of (Saved n) = Answer.Saved n
reply_of (Loaded n) = Answer.Loaded n
reply_of (Imported n) = Answer.Imported n
reply_of (Exported n) = Answer.Exported n
reply_of (Using slot) = Answer.Using slot
reply_of Same = Answer.Same
reply_of Differ = Answer.Differ
reply_of (Combined n) = Answer.Combined n
reply_of (Keeping n) = Answer.Keeping n
reply_of (WentBack n) = Answer.WentBack n
reply_of ErrorLong = Answer.ErrorLong
reply_of ErrorWord = Answer.ErrorWord
reply_of ErrorCount = Answer.ErrorCount
reply_of ErrorNumber = Answer.ErrorNumber
reply_of ErrorName = Answer.ErrorName
reply_of ErrorDims = Answer.ErrorDims
reply_of ErrorKind = Answer.ErrorKind
reply_of ErrorRange = Answer.ErrorRange
reply_of ErrorReversed = Answer.ErrorReversed
reply_of ErrorCursor = Answer.ErrorCursor
reply_of ErrorCursors = Answer.ErrorCursors
reply_of ErrorFile = Answer.ErrorFile
reply_of ErrorFull = Answer.ErrorFull
reply_of ErrorPast = Answer.ErrorPast
reply_of BadMagic = Answer.BadMagic
reply_of (BadHeader at) = Answer.BadHeader at
reply_of BadDims = Answer.BadDims
reply_of (BadShort at) = Answer.BadShort at
reply_of (BadNode at) = Answer.BadNode at
reply_of (BadExtra at) = Answer.BadExtra at
reply_of (BadFields n) = Answer.BadFields n
reply_of (BadNumber n) = Answer.BadNumber n
reply_of (BadRange n) = Answer.BadRange n
reply_of (BadReversed n) = Answer.BadReversed n
