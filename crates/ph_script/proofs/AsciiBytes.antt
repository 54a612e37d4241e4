-- Bytes below 128 are text.
use Rattle.std.proofs.Common.{◌≡◌, ℕ, ◌<◌, Bool, List, [], ◌∷◌, true}
use Rattle.std.specs.Prelude.{IsAscii, IsUtf8}
use Rattle.std.specs.List.{list_all}
use Rattle.std.proofs.lemmas.Bool.{and_parts}
use Rattle.std.proofs.lemmas.Str.{IsUtf8-from_ascii}
use Rattle.std.proofs.lemmas.Str.Ascii.{IsAscii-nil, IsAscii-cons}

bytes-ascii : (is : ℕ → Bool) → ((b : ℕ) → is b ≡ true → b < 128) → (bs : List ℕ) → list_all is bs ≡ true → IsAscii bs
bytes-ascii is below [] h = IsAscii-nil
bytes-ascii is below (b ∷ bs) h = let p = and_parts (is b) (list_all is bs) h in IsAscii-cons b bs (below b p.0) (bytes-ascii is below bs p.1)

pub ascii-text : (is : ℕ → Bool) → ((b : ℕ) → is b ≡ true → b < 128) → (bs : List ℕ) → list_all is bs ≡ true → IsUtf8 bs
ascii-text is below bs h = IsUtf8-from_ascii bs (bytes-ascii is below bs h)
