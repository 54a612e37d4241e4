-- A `&` to the places is made of their words. Assumes `Logic`.
use denote.RawPtr.{RawPtr}
use denote.Param.Shared.{copy_shared}
use denote.Struct.Laws.{field_copy}
use denote.Struct.Lending.{of_Lends}
use Rattle.std.specs.contracts.marker.PhantomData as marker
use Rattle.ph_bits.specs.contracts.places.Places as P
use Rattle.ph_bits.proofs.places.Places.TheLaw.Statement.{statement}
use Rattle.ph_bits.proofs.Sharing.{block_laws, Lends-block}

pub shares : statement
shares = of_Lends P.struct (P.the_codes (marker.the_row RawPtr).coded) P.the_heap P.the_lent (λ d p. block_laws d.at d.slots)
    (copy_shared (marker.the_field RawPtr) (field_copy (marker.the_type RawPtr) tt), tt) (λ M 𝓤 𝓛 d p. Lends-block 𝓛 P.the_row.lives d.at d.slots)
