-- The bytes of a file's name are text.
use Rattle.std.proofs.Common.{◌≡◌, ℕ, ◌<◌, List, true, arith}
use Rattle.std.specs.Prelude.{IsUtf8}
use Rattle.std.proofs.lemmas.Bool.{and_parts}
use Rattle.std.proofs.lemmas.Bool.Decides.{nat_tests}
use Rattle.ph_specs.specs.Lines.{is_file_name, is_printed}
use Rattle.ph_script.proofs.AsciiBytes.{ascii-text}

byte-ascii : (b : ℕ) → is_printed b ≡ true → b < 128
byte-ascii b h = grind (arith, nat_tests)

pub file_name-text : (name : List ℕ) → is_file_name name ≡ true → IsUtf8 name
file_name-text name h = ascii-text is_printed byte-ascii name (and_parts _ _ h).1
