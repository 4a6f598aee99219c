use Rattle.std.proofs.Common.{◌≡◌, drop}
use Rattle.scalar.specs.Coords.{grid_point}
use Rattle.polygon.specs.Polygons.{past_holes, rings}
use Rattle.polygon.proofs.polygon.position_past_holes.Given as goal

abbrev pub invariant-loop-interior : goal.invariant-loop-interior
invariant-loop-interior g l =
    let k = grid_point g.T.Units.units l.coord in
    past_holes (rings (drop l.interior-index l.interiors)) k ≡ past_holes (rings l.interiors) k
