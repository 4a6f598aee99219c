use Rattle.std.proofs.Common.{rules}
use mathlib.Core.Bool.{xor}
use Rattle.coordinate_position.proofs.group.GroupCoordinatePosition.calculate_coordinate_position.Goals as goal

pub returns : goal.returns
unfolding xor
returns g c = search rules
