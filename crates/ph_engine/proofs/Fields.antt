-- An engine has these fields and no other.
use Rattle.std.proofs.Common.{◌≡◌, refl}
use Rattle.ph_engine.specs.declared.engine.Engine.TheInside.{Inside as EngineInside}

pub engine_fields : (e : EngineInside) → e ≡ record { a = e.a; b = e.b; current = e.current }
engine_fields e = refl
