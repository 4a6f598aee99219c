use Rattle.std.proofs.Common.{sym, ap, ◌∙◌, rules}
use lib.Ieee.{fits, binary64, eq, of_bits}
use Rattle.millimetre.specs.Millimetres.{beyond, whole, units_of}
use Rattle.millimetre.proofs.Tests.{yes, no, zero_is, zero_units, not_zero, on_grid_by_tests}
use Rattle.scalar.proofs.f64_scalar.F64ScalarCoordNum.new.Goals as goal

pub invariant_of-result : goal.invariant_of-result
unfolding fits of_bits
invariant_of-result c = record { binary64 = tt; grid = tt }

pub invariant_of-result-else-raw : goal.invariant_of-result-else-raw
invariant_of-result-else-raw c =
    let x = c.args.raw in record {
      binary64 = yes (fits binary64 x) c.well_formed.0.1;
      grid = on_grid_by_tests x (yes (whole x) (sym c.if-not-is_whole_units.ensures)) (no (beyond x) (sym c.if-is_beyond_reach.ensures)) (not_zero x (ap (eq x) (sym zero_is) ∙ c.if-raw.false));
    }

pub returns-then-raw : goal.returns-then-raw
returns-then-raw c = (search rules, (λ i. units_of (zero_is i)) ∙ sym (zero_units c.args.raw (ap (eq c.args.raw) (sym zero_is) ∙ c.if-raw.true)))
