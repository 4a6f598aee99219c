use Rattle.std.proofs.Common.{ap, ◌∙◌}
use lib.Ieee.{binary64, fits, eq, mul, of_bits}
use Rattle.std.specs.Float.{trunc}
use Rattle.millimetre.proofs.Exact.{k256_is}
use Rattle.millimetre.proofs.Tests.{yes, whole_test}
use Rattle.scalar.proofs.f64_scalar.is_whole_units.Goals as goal

pub returns : goal.returns
returns c =
    let x = c.args.x in
    ap (eq (mul binary64 x (of_bits binary64 4643211215818981376))) c.trunc.ensures
    ∙ (λ i. eq (mul binary64 x (k256_is i)) (trunc binary64 (mul binary64 x (k256_is i))))
    ∙ whole_test x (yes (fits binary64 x) c.well_formed.0.1) c.requires
