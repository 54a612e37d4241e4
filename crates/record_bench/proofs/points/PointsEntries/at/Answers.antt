use Rattle.std.proofs.Common.{◌≡◌, ◌≤◌, ◌-◌, ◌*◌, ◌++◌, ◌∙◌, ℕ, List, ap, sym, length, take, drop, replicate, arith}
use Rattle.std.proofs.lemmas.List.{drop-replicate, length-replicate, take-replicate, take_at, drop_at}
use Rattle.std.specs.Prelude.{Some}
use Rattle.ph_specs.specs.Record.{read_point}
use Rattle.ph_bits.specs.Packed.{IsPadded}
use Rattle.record_bench.proofs.Listing.{inside, read-at, address-small}
use Rattle.record_bench.proofs.points.PointsEntries.at.Goals as goal

pub overflow_cast-result : goal.overflow_cast-result
overflow_cast-result g c =
    let s = c.args.self.now in
    omega (arith, inside g.P.Dims.D s.count s.step s.field c.args.i c.requires.within)

pub overflow_mul-result : goal.overflow_mul-result
overflow_mul-result g c =
    let s = c.args.self.now in
    omega (arith, address-small g.P.Dims.D s.count s.step c.args.i s.few s.within (inside g.P.Dims.D s.count s.step s.field c.args.i c.requires.within))

-- an array whose first numbers are filled
filled : (d n field : ℕ) (body : List ℕ) → n ≡ d → d ≤ 16 → body ≡ replicate n field ++ drop n (replicate 16 0) → (take d body ≡ replicate d field) × IsPadded d body
filled d n field body e f h =
    let is : body ≡ replicate d field ++ replicate (16 - d) 0 = h ∙
    ap (λ k. replicate k field ++ drop k (replicate 16 0)) e ∙ ap (λ u. replicate d field ++ u) (drop-replicate d 16 0) in
    let len : length (replicate d field) ≡ d = length-replicate d field in
    (ap (take d) is ∙ take_at (replicate d field) (replicate (16 - d) 0) d len, ap (drop d) is ∙ drop_at (replicate d field) (replicate (16 - d) 0) d len)

pub returns : goal.returns
returns g c =
    let s = c.args.self.now in
    let d = g.P.Dims.D in
    let is = filled d c.D.result s.field c.body_of-body.result c.D.ensures s.few c.body_of-body.ensures in
    record {
      stands = c.requires.stands;
      entry = read-at d s.count s.step s.field c.args.i s.few (inside d s.count s.step s.field c.args.i c.requires.within) ∙
          ap (λ b. Some (read_point (c.args.i * s.step) b)) (take-replicate d 16 s.field s.few ∙ sym is.0);
      zeros = is.1;
    }
