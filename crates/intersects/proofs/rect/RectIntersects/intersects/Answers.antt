use mathlib.Core.Path.{◌≡◌, subst₂}
use mathlib.Core.Bool.{Bool, true, false}
use Rattle.std.proofs.Common.{ℤ}
use Rattle.std.specs.declared.cmp.Ord as Ord
use Rattle.std.specs.declared.cmp.PartialEq as PartialEq
use Rattle.std.specs.declared.cmp.PartialOrd as PartialOrd
use Rattle.plane.specs.declared.grid_point.GridPoint.{GridPoint}
use Rattle.plane.specs.Reflects.{Reflects}
use Rattle.plane.specs.Sets.{Box, Common, InBox}
use Rattle.plane.proofs.Terms.{Overlap}
use Rattle.plane.proofs.Answers.{reflects_same}
use Rattle.plane.proofs.Rectangles.{boxes_reflect, corners_are}
use Rattle.scalar.specs.declared.units.Units as Units
use Rattle.scalar.proofs.UnitsLaws.{at_least_reflects, at_most_reflects}
use Rattle.geometry.specs.declared.rect.Rect.{Rect}
use Rattle.geometry.specs.Rects.{box}
use Rattle.geometry.proofs.RectLaws.{box_ordered}
use Rattle.intersects.proofs.rect.RectIntersects.intersects.Goals as goal

-- two rectangles by their corners as the code has them
rects_reflect : {T : Type 0} {U : Units.Ghosts T} {O : Ord.Ghosts T} {E : PartialEq.Ghosts T} {P : PartialOrd.Ghosts T} (units : T → ℤ) (a b : Rect T U O E P) (r : Bool) (min max other_min other_max : GridPoint)
    → min ≡ (box units a).min → max ≡ (box units a).max → other_min ≡ (box units b).min → other_max ≡ (box units b).max
    → Reflects r (Overlap (record { min = min; max = max }) (record { min = other_min; max = other_max })) → Reflects r (Common (InBox (box units a)) (InBox (box units b)))
rects_reflect units a b r min max other_min other_max e f e' f' h =
    boxes_reflect r (box units a) (box units b) (box_ordered units a) (box_ordered units b)
    (subst₂ (λ (p q : Box). Reflects r (Overlap p q)) (corners_are (box units a) min max e f) (corners_are (box units b) other_min other_max e' f') h)

pub returns-then-lt : goal.returns-then-lt
returns-then-lt g c =
    let u = g.T.Units.units in
    let reached = at_least_reflects u g.T.PartialOrd.partial_cmp g.T.Ord.cmp g.met.T.Ord.matches_partial_cmp g.met.T.Units.ordered in
    record { points = rects_reflect u c.args.self.now c.args.other.now false _ _ _ _ c.min-min.ensures c.max-max.ensures c.min-other_min.ensures c.max-other_max.ensures (λ o. reached true _ _ c.if-lt.ensures o.0) }

pub returns-then-lt-2 : goal.returns-then-lt-2
returns-then-lt-2 g c =
    let u = g.T.Units.units in
    let reached = at_least_reflects u g.T.PartialOrd.partial_cmp g.T.Ord.cmp g.met.T.Ord.matches_partial_cmp g.met.T.Units.ordered in
    record { points = rects_reflect u c.args.self.now c.args.other.now false _ _ _ _ c.min-min.ensures c.max-max.ensures c.min-other_min.ensures c.max-other_max.ensures (λ o. reached true _ _ c.if-lt-2.ensures o.1) }

pub returns-then-lt-3 : goal.returns-then-lt-3
returns-then-lt-3 g c =
    let u = g.T.Units.units in
    let reached = at_least_reflects u g.T.PartialOrd.partial_cmp g.T.Ord.cmp g.met.T.Ord.matches_partial_cmp g.met.T.Units.ordered in
    record { points = rects_reflect u c.args.self.now c.args.other.now false _ _ _ _ c.min-min.ensures c.max-max.ensures c.min-other_min.ensures c.max-other_max.ensures (λ o. reached true _ _ c.if-lt-3.ensures o.2) }

pub returns : goal.returns
returns g c =
    let u = g.T.Units.units in
    let reached = at_least_reflects u g.T.PartialOrd.partial_cmp g.T.Ord.cmp g.met.T.Ord.matches_partial_cmp g.met.T.Units.ordered in
    let last = at_most_reflects u g.T.PartialOrd.partial_cmp g.T.Ord.cmp g.met.T.Ord.matches_partial_cmp g.met.T.Units.ordered c.le.result _ _ c.le.ensures in
    record {
      points =
          rects_reflect u c.args.self.now c.args.other.now c.le.result _ _ _ _ c.min-min.ensures c.max-max.ensures c.min-other_min.ensures c.max-other_max.ensures
          (reflects_same c.le.result (λ h. (reached false _ _ c.if-lt.ensures, reached false _ _ c.if-lt-2.ensures, reached false _ _ c.if-lt-3.ensures, h)) (λ o. o.3) last);
    }
