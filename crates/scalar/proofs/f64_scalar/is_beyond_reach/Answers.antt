use Rattle.std.proofs.Common.{◌∙◌}
use lib.Ieee.{lt}
use Rattle.millimetre.proofs.Tests.{k21_is, reach_test}
use Rattle.scalar.proofs.f64_scalar.is_beyond_reach.Goals as goal

pub returns : goal.returns
returns c = (λ i. lt (k21_is i) (c.abs.ensures.value i)) ∙ reach_test c.args.x
