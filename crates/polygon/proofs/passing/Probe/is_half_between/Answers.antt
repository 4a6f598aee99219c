use Rattle.std.proofs.Common.{arith}
use Rattle.std.proofs.lemmas.Int.{to_z-of_z}
use Rattle.polygon.proofs.passing.Probe.is_half_between.Goals as goal

pub returns-then-read_units-self : goal.returns-then-read_units-self
returns-then-read_units-self g c = grind (arith, to_z-of_z)
