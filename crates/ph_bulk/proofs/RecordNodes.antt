-- The record of lawful entries and their children make the node of these entries.
use Rattle.std.proofs.Common.{◌≡◌, ℕ, ◌^◌, ◌<◌, ◌≤◌, length, arith}
use Rattle.ph_specs.specs.Node.{Entries, PlainNode, flat}
use Rattle.ph_specs.specs.TreeRows.{count}
use Rattle.ph_model.specs.Lawful.{IsLawfulFrom}
use Rattle.ph_model.specs.Layout.{AreRising}
use Rattle.ph_specs.specs.Pack.{children, pack}
use Rattle.ph_specs.specs.Record.{unpacked}
use Rattle.ph_model.proofs.laws.Layouts.{rising, fits-first}
use Rattle.ph_model.proofs.laws.Unpacked.{child_nodes, unpacked-pack}
use Rattle.ph_bulk.proofs.Chains.{flat-count, none-below}

module _ (dims level : ℕ) (c : Entries) (limit : dims ≤ 16) (low : level ≤ 61) (many : 1 ≤ count c) (lawful : IsLawfulFrom dims level 0 c) where
  abbrev n : PlainNode
  n = record { level = level; chain = c }

  pub some-there : 1 ≤ length (flat c)
  some-there = omega (arith, many, flat-count c)

  pub rises : AreRising dims level 0 (flat c)
  rises = rising dims level 0 c lawful

  pub bottom : level ≡ 0 → children (flat c) ≡ 0
  bottom z = none-below dims level 0 c lawful z

  pub again : unpacked dims (pack dims n) (child_nodes c) ≡ n
  again =
      let small : level < 2 ^ 8 = omega (arith, low) in
      unpacked-pack dims n (record { rises = rises; fits = fits-first dims level (flat c) limit small rises; bottom = bottom })
