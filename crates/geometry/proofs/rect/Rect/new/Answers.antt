use Rattle.std.proofs.Common.{arith}
use Rattle.std.proofs.lemmas.Int.{ints, clamps}
use Rattle.scalar.specs.Coords.{grid_point}
use Rattle.scalar.proofs.UnitsLaws.{units_min, units_max}
use Rattle.geometry.proofs.RectLaws.{spanned_again}
use Rattle.geometry.proofs.rect.Rect.new.Goals as goal

-- by what each corner's two numbers are, so that a corner taken otherwise fails at what it is
pub invariant_of-result : goal.invariant_of-result
invariant_of-result g c =
    let u = g.T.Units.units in
    let lesser = units_min u g.T.PartialOrd.partial_cmp g.T.Ord.cmp g.met.T.Ord.matches_partial_cmp g.met.T.Units.ordered in
    let greater = units_max u g.T.PartialOrd.partial_cmp g.T.Ord.cmp g.met.T.Ord.matches_partial_cmp g.met.T.Units.ordered in
    record {
      left_to_right = omega (arith, ints, clamps, lesser _ _ _ c.min.ensures, greater _ _ _ c.max.ensures);
      bottom_to_top = omega (arith, ints, clamps, lesser _ _ _ c.min-2.ensures, greater _ _ _ c.max-2.ensures);
    }

pub returns : goal.returns
returns g c =
    let u = g.T.Units.units in
    let lesser = units_min u g.T.PartialOrd.partial_cmp g.T.Ord.cmp g.met.T.Ord.matches_partial_cmp g.met.T.Units.ordered in
    let greater = units_max u g.T.PartialOrd.partial_cmp g.T.Ord.cmp g.met.T.Ord.matches_partial_cmp g.met.T.Units.ordered in
    let low : _ = λ i. record {
      x = lesser c.min.result c.args.a.x c.args.b.x c.min.ensures i;
      y = lesser c.min-2.result c.args.a.y c.args.b.y c.min-2.ensures i;
    } in
    let high : _ = λ i. record {
      x = greater c.max.result c.args.a.x c.args.b.x c.max.ensures i;
      y = greater c.max-2.result c.args.a.y c.args.b.y c.max-2.ensures i;
    } in
    record { corners = spanned_again (grid_point u c.args.a) (grid_point u c.args.b) _ _ low high; sorted = (low, high) }
