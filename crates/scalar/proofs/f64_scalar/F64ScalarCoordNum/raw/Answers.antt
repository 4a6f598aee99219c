use Rattle.std.proofs.Common.{refl}
use Rattle.scalar.proofs.Refusals.{own_accepted}
use Rattle.scalar.proofs.f64_scalar.F64ScalarCoordNum.raw.Goals as goal

pub returns : goal.returns
returns c = record { remakes = (own_accepted c.args.self.value c.args.self.grid, refl); value = refl }
