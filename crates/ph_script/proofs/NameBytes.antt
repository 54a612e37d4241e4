-- What the bytes of a name are, and how they are kept.
use Rattle.std.proofs.Common.{◌≡◌, ℕ, ◌-◌, ◌<◌, ◌≤◌, List, ◌++◌, length, take, drop, true, refl, ap, arith}
use Rattle.std.specs.Prelude.{IsUtf8, replicate, nat_lt, nat_le, ◌&&◌}
use Rattle.std.specs.List.{list_all}
use Rattle.std.proofs.lemmas.Bool.{and_parts}
use Rattle.std.proofs.lemmas.Bool.Decides.{nat_tests}
use Rattle.std.proofs.lemmas.List.{take_at, drop-replicate}
use Rattle.ph_specs.specs.Lines.{is_name, is_name_byte}
use Rattle.ph_script.specs.KeptName.{IsKept}
use Rattle.ph_script.proofs.AsciiBytes.{ascii-text}

byte-ascii : (b : ℕ) → is_name_byte b ≡ true → b < 128
byte-ascii b h = grind (arith, nat_tests)

pub name-text : (name : List ℕ) → is_name name ≡ true → IsUtf8 name
name-text name h = ascii-text is_name_byte byte-ascii name (and_parts _ _ h).1

name-limit : (name : List ℕ) → is_name name ≡ true → length name ≤ 32
name-limit name h =
    let sizes = (and_parts (nat_lt 0 (length name) && nat_le (length name) 32) (list_all is_name_byte name) h).0 in
    let most = (and_parts (nat_lt 0 (length name)) (nat_le (length name) 32) sizes).1 in
    grind (arith, nat_tests)

-- a name that is copied over zeros
pub filled : (name copied : List ℕ) → copied ≡ name → is_name name ≡ true → IsKept (copied ++ drop (length name) (replicate 32 0)) (length name)
filled name copied e h =
    let rest = drop (length name) (replicate 32 0) in
    let front : take (length name) (copied ++ rest) ≡ name = rw e (take_at name rest (length name) refl) in
    let zeros : rest ≡ replicate (32 - length name) 0 = drop-replicate (length name) 32 0 in
    record { limit = name-limit name h; zeros = rw (front, e) (ap (λ bytes. name ++ bytes) zeros); size = ap length front; name = rw front h }
