use Rattle.std.proofs.Common.{◌≡◌, length, drop}
use Rattle.polyline.specs.Strings.{vertices, segments}
use Rattle.polyline.specs.Trimming.{round}
use Rattle.geometry.specs.Shapes.{segment}
use Rattle.line_strings.proofs.trimming.Target.trim_round.Given as goal

abbrev pub invariant-loop-start : goal.invariant-loop-start
invariant-loop-start g l =
    round (segment g.T.Units.units l.self.line.now) l.left (drop (length l.yielded) (segments (vertices l.points)))
    ≡ round (segment g.T.Units.units l.self.line.now) l.initial.left (segments (vertices l.points))
