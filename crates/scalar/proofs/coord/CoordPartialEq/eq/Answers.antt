use Rattle.std.proofs.Common.{◌≡◌, Bool, sym, subst, rules}
use Rattle.plane.specs.Reflects.{Reflects}
use Rattle.scalar.specs.Coords.{equal_coords}
use Rattle.scalar.proofs.CoordLaws.{coord_reflects}
use Rattle.scalar.proofs.coord.CoordPartialEq.eq.Goals as goal

pub returns-then-eq-clause-same : goal.returns-then-eq-clause-same
returns-then-eq-clause-same g c =
    let a = c.args.self.now in
    let b = c.args.other.now in
    let u = g.T.Units.units in
    let e : c.eq-then-eq.result ≡ equal_coords u a b = search rules in
    subst (λ (r : Bool). Reflects r (a ≡ b)) (sym e) (coord_reflects u g.met.T.CoordNum.equal_units a b)
