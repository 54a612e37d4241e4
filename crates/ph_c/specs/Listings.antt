-- A page of any listing in arrays of a caller.
use Rattle.std.specs.Prelude.{ℕ, List, ℤ}
use Rattle.ph_c.specs.declared.listing.Listing.{Listing}
use Rattle.ph_c.specs.declared.listing.Listing.TheVariants.{Window, Ball, Boxes}
use Rattle.ph_c.specs.Asked.{IsAsked}
use Rattle.ph_c.specs.Balls.{IsBall}
use Rattle.ph_c.specs.Trees.{AnyTable}
use Rattle.ph_c.specs.Windows.{IsWindow, Lent}

-- a page of what is listed
abbrev pub IsPage : Listing → AnyTable → List ℤ → Lent → Lent → ℕ → Type 0
IsPage (Window low high) t last before after answer = IsWindow t low.now high.now last before after answer
IsPage (Ball center radius) t last before after answer = IsBall t center.now radius last before after answer
IsPage (Boxes question low high) t last before after answer = IsAsked question t low.now high.now last before after answer
