-- The commands of a slot in groups. A command of a group is one of those that the group has.
use Rattle.std.proofs.Common.{◌≡◌, ℕ, Bool, true, false, List, refl}
use Rattle.ph_script.specs.declared.coords.Coord.{Coord}
use Rattle.ph_script.specs.declared.command.Command.{Command}
use Rattle.ph_script.specs.declared.command.Command.TheVariants as by
use Rattle.ph_script.specs.Meaning.{command_of}
use Rattle.ph_specs.specs.declared.Kind.{Kind}
use Rattle.ph_slot.specs.Doing.{is_begin, is_on_row, is_tried, is_sure, is_listed}

-- a command that is none about a row is told by what it is not
pub no-row : (c : Command) → ((at : List Coord) (value : ℕ) → c ≡ by.Put at value → ⊥) →
    ((at : List Coord) → c ≡ by.Get at → ⊥) → ((at : List Coord) → c ≡ by.Del at → ⊥) →
    ((from : List Coord) (to : List Coord) → c ≡ by.Relocate from to → ⊥) → is_on_row (command_of c) ≡ false
no-row (by.Put at value) n1 n2 n3 n4 = absurd (n1 at value refl)
no-row (by.Get at) n1 n2 n3 n4 = absurd (n2 at refl)
no-row (by.Del at) n1 n2 n3 n4 = absurd (n3 at refl)
no-row (by.Relocate from to) n1 n2 n3 n4 = absurd (n4 from to refl)
no-row other n1 n2 n3 n4 = refl

pub all-tried : (c : Command) → is_tried (command_of c) ≡ true →
    ((file : List ℕ) → c ≡ by.Load file → ⊥) →
    ((file : List ℕ) (header : Bool) → c ≡ by.Import file header → ⊥) → ((count : ℕ) → c ≡ by.Keep count → ⊥) →
    ((count : ℕ) → c ≡ by.Back count → ⊥) → ⊥
all-tried (by.Load file) h n1 n2 n3 n4 = n1 file refl
all-tried (by.Import file header) h n1 n2 n3 n4 = n2 file header refl
all-tried (by.Keep count) h n1 n2 n3 n4 = n3 count refl
all-tried (by.Back count) h n1 n2 n3 n4 = n4 count refl
all-tried other h n1 n2 n3 n4 = absurd cc

pub all-sure : (c : Command) → is_sure (command_of c) ≡ true →
    (c ≡ by.Count → ⊥) → (c ≡ by.Clear → ⊥) →
    ((name : List ℕ) (lo : List Coord) (hi : List Coord) → c ≡ by.Cursor name lo hi → ⊥) →
    ((file : List ℕ) → c ≡ by.Save file → ⊥) → ((file : List ℕ) → c ≡ by.Export file → ⊥) → ⊥
all-sure by.Count h n1 n2 n3 n4 n5 = n1 refl
all-sure by.Clear h n1 n2 n3 n4 n5 = n2 refl
all-sure (by.Cursor name lo hi) h n1 n2 n3 n4 n5 = n3 name lo hi refl
all-sure (by.Save file) h n1 n2 n3 n4 n5 = n4 file refl
all-sure (by.Export file) h n1 n2 n3 n4 n5 = n5 file refl
all-sure other h n1 n2 n3 n4 n5 = absurd cc

-- a command that makes no slot another one is told by what it is not
pub no-begin : (c : Command) → ((kind : Kind) (k : ℕ) (width : ℕ) (max : ℕ) → c ≡ by.Begin kind k width max → ⊥) → is_begin (command_of c) ≡ false
no-begin (by.Begin kind k width max) n = absurd (n kind k width max refl)
no-begin other n = refl

pub all-lists : (c : Command) → is_listed (command_of c) ≡ true →
    ((lo : List Coord) (hi : List Coord) → c ≡ by.Window lo hi → ⊥) →
    ((name : List ℕ) (count : ℕ) → c ≡ by.Page name count → ⊥) →
    ((q : List Coord) (count : ℕ) → c ≡ by.Near q count → ⊥) → ((q : List Coord) (r : ℕ) → c ≡ by.Within q r → ⊥) →
    ((bounds : List Coord) → c ≡ by.Overlap bounds → ⊥) → ((bounds : List Coord) → c ≡ by.Inside bounds → ⊥) →
    ((bounds : List Coord) → c ≡ by.Covers bounds → ⊥) → (c ≡ by.Stats → ⊥) → ⊥
all-lists (by.Window lo hi) h n1 n2 n3 n4 n5 n6 n7 n8 = n1 lo hi refl
all-lists (by.Page name count) h n1 n2 n3 n4 n5 n6 n7 n8 = n2 name count refl
all-lists (by.Near q count) h n1 n2 n3 n4 n5 n6 n7 n8 = n3 q count refl
all-lists (by.Within q r) h n1 n2 n3 n4 n5 n6 n7 n8 = n4 q r refl
all-lists (by.Overlap bounds) h n1 n2 n3 n4 n5 n6 n7 n8 = n5 bounds refl
all-lists (by.Inside bounds) h n1 n2 n3 n4 n5 n6 n7 n8 = n6 bounds refl
all-lists (by.Covers bounds) h n1 n2 n3 n4 n5 n6 n7 n8 = n7 bounds refl
all-lists by.Stats h n1 n2 n3 n4 n5 n6 n7 n8 = n8 refl
all-lists other h n1 n2 n3 n4 n5 n6 n7 n8 = absurd cc
