use Rattle.std.proofs.Common.{◌-ℤ◌, nat_abs, ◌<ℤ◌}
use Rattle.polyline.specs.Strings.{vertices, segments}
use Rattle.polyline.proofs.Trimming.{Trimming}
use Rattle.geometry.specs.Shapes.{segment}
use Rattle.line_strings.proofs.trimming.Target.is_covered_by.Given as goal

abbrev pub invariant-loop-left : goal.invariant-loop-left
invariant-loop-left g l = Trimming (segments (vertices l.points)) (segment g.T.Units.units l.self.line.now) l.left × (l.left.0 <ℤ l.left.1)

abbrev pub decreases-loop-left : goal.decreases-loop-left
decreases-loop-left g l = nat_abs (l.left.1 -ℤ l.left.0)
