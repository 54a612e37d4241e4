-- What a sink over the file that is begun leaves, a later state leaves too.
use Rattle.std.specs.Prelude.{◌≡◌, Bool, true, false, refl}
use Rattle.std.proofs.Common.{◌∙◌, arith}
use Rattle.ph_io.specs.Causes.{Rose}
use Rattle.ph_slot.specs.Drafting.{Drafted, Follows}
use Rattle.ph_commands.proofs.Shelves.{stays_itself, stays_on}

pub follows_itself : (a : Drafted) → Follows a a
follows_itself a =
    record {
      loan = refl;
      files = stays_itself a.files;
      name = stays_itself a.name;
      later = omega arith;
      none = λ h. (h, refl);
      fell = λ h k. absurd (let no : true ≡ false = cc in cc);
    }

fell-on : (a b c : Drafted) (m : Bool) → Follows a b → Follows b c → b.works ≡ m → a.works ≡ true → c.works ≡ false → Rose a.faults c.faults
fell-on a b c true h k e w f = let r = k.fell e f in omega (arith, h.later, r)
fell-on a b c false h k e w f = let r = h.fell w e in omega (arith, k.later, r)

pub follows_on : (a b c : Drafted) → Follows a b → Follows b c → Follows a c
follows_on a b c h k = record {
  loan = k.loan ∙ h.loan;
  files = stays_on a.files b.files c.files h.files k.files;
  name = stays_on a.name b.name c.name h.name k.name;
  later = omega (arith, h.later, k.later);
  none = λ w. let m = k.none w in let n = h.none m.0 in (n.0, m.1 ∙ n.1);
  fell = λ w f. fell-on a b c b.works h k refl w f;
}
