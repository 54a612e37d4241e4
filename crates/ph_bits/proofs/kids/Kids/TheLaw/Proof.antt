-- A `&` to the values reaches each of them. Assumes `Logic`.
use Rattle.std.specs.Prelude.{[], ◌++◌}
use base.Fml.{Incl-trans}
use contract.BorrowLft.{meet_⊑_left}
use denote.RattleType.{RattleType}
use denote.RawPtr.{RawPtr}
use denote.Param.Laws.{Laws}
use denote.Param.Shared.{copy_shared}
use denote.Struct.Laws.{field_copy}
use denote.Struct.Lending.{of_Lends}
use Rattle.std.specs.contracts.marker.PhantomData as marker
use Rattle.ph_bits.specs.contracts.kids.Kids as K
use Rattle.ph_bits.proofs.kids.Kids.TheLaw.Statement.{statement}
use Rattle.ph_bits.proofs.KidSharing.{kids_lent_laws, Lends-kids}

pub shares : (R : RattleType) (L : Laws R) → statement R L
shares R L = of_Lends (K.struct R) (K.the_codes R.Denot R.coded (marker.the_row RawPtr).coded) (K.the_heap R) (K.the_lent R)
    (λ d p. kids_lent_laws R L.shr_laws d.at d.from d.items) (copy_shared (marker.the_field RawPtr) (field_copy (marker.the_type RawPtr) tt), tt)
    (λ M 𝓤 𝓛 d p. Lends-kids 𝓛 (K.the_row R).lives R L (Incl-trans (meet_⊑_left (R.lives ++ []) _) (meet_⊑_left R.lives [])) d.at d.from d.items)
