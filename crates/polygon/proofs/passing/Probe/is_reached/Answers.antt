use Rattle.std.proofs.Common.{arith}
use Rattle.std.proofs.lemmas.Int.{to_z-of_z}
use Rattle.polygon.proofs.passing.Probe.is_reached.Goals as goal

pub returns : goal.returns
returns g c = grind (arith, to_z-of_z)
