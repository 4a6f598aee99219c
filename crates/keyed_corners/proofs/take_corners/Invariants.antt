use Rattle.std.proofs.Common.{◌≡◌, ◌++◌, drop, filter_map}
use Rattle.keyed_corners.specs.Corners.{corner_of}
use Rattle.keyed_corners.proofs.take_corners.Given as goal

abbrev pub invariant-loop-corner : goal.invariant-loop-corner
invariant-loop-corner g l = l.corners.items ++ filter_map corner_of (drop l.corner-index l.keyed) ≡ filter_map corner_of l.keyed
