use Rattle.std.proofs.Common.{rules, tests}
use Rattle.plane.specs.Points.{Segment, Touches}
use Rattle.plane.proofs.Iterators.{any_reflects}
use Rattle.polyline.specs.Segments.{OnAny}
use Rattle.polyline.proofs.Neighbours.{windows_yield}
use Rattle.scalar.specs.Coords.{grid_point}
use Rattle.line_strings.proofs.line_string.LineString.touches.Goals as goal

pub returns : goal.returns
returns g c =
    let k = grid_point g.T.Units.units c.args.coord.now in
    any_reflects (λ (s : Segment). Touches s k) _ _ c.any.result (λ ss. OnAny ss k.x k.y 1) (λ n. n) (λ s ss. ((λ h. h), (λ h. h))) c.any.ensures.ran
    (windows_yield c.args.self.now.points.now c.array_windows.ensures.rest c.array_windows.ensures.size) (λ x b q h. search (rules, tests))
