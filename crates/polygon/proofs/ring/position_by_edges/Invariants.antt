use Rattle.std.specs.Slice.ArrayWindows.{array_windows_parts}
use Rattle.polygon.proofs.Rings.{CountedWindows}
use Rattle.polygon.proofs.ring.position_by_edges.Given as goal

abbrev pub invariant-loop-start : goal.invariant-loop-start
invariant-loop-start g l = CountedWindows l.probe.at l.upward l.downward (array_windows_parts l.start-iterator) l.points
