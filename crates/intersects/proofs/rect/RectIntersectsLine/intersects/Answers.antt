use mathlib.Core.Path.{◌≡◌, sym, ap, ◌∙◌, subst}
use Rattle.plane.specs.declared.grid_point.GridPoint.{GridPoint}
use Rattle.plane.specs.declared.orientation.Orientation.{Orientation}
use Rattle.plane.specs.declared.orientation.Orientation.TheVariants.{Collinear}
use Rattle.plane.specs.Points.{Segment}
use Rattle.plane.specs.Sets.{Box, Common, InBox}
use Rattle.std.proofs.Common.{true, rules}
use Rattle.plane.proofs.Answers.{reflects_same}
use Rattle.plane.specs.contracts.orientation.Orientation.{the_type}
use Rattle.plane.proofs.Enums.{eq_reflects, ne_reflects, equal_unless_ne}
use Rattle.plane.proofs.Orientations.{turn}
use Rattle.plane.proofs.Rectangles.{around_missed, low_right, high_left, low_right_apart, high_right_apart, high_left_apart, corners_reflect}
use Rattle.geometry.specs.Shapes.{segment}
use Rattle.geometry.specs.Rects.{box}
use Rattle.geometry.proofs.RectLaws.{box_ordered}
use Rattle.intersects.proofs.rect.RectIntersectsLine.intersects.Goals as goal

-- the turn of a corner as the code has it
at_corner : (s : Segment) (o : Orientation) (c d : GridPoint) → o ≡ turn s c → c ≡ d → o ≡ turn s d
at_corner s o c d e f = e ∙ ap (turn s) f

-- the corners of the box from those of the code
right_under : (r : Box) (lo hi : GridPoint) → lo ≡ r.min → hi ≡ r.max → ◌≡◌ {A = GridPoint} (record { x = hi.x; y = lo.y }) (low_right r)
right_under r lo hi e f = λ i. record { x = (f i).x; y = (e i).y }

left_over : (r : Box) (lo hi : GridPoint) → lo ≡ r.min → hi ≡ r.max → ◌≡◌ {A = GridPoint} (record { x = lo.x; y = hi.y }) (high_left r)
left_over r lo hi e f = λ i. record { x = (e i).x; y = (f i).y }

pub returns-then-not-intersects : goal.returns-then-not-intersects
returns-then-not-intersects g c =
    let u = g.T.Units.units in
    let r = box u c.args.self.now in
    record {
      points =
          around_missed r (segment u c.args.rhs.now) (subst (λ (b : Box). Common (InBox r) (InBox b) → ⊥) c.new.ensures.corners c.if-not-intersects.ensures.points);
    }

pub returns-then-ne : goal.returns-then-ne
returns-then-ne g c =
    let u = g.T.Units.units in
    let s = segment u c.args.rhs.now in
    let r = box u c.args.self.now in
    let e0 = at_corner s _ _ r.min c.orient2d-o0.ensures.turn c.min-c0.ensures in
    let e1 = at_corner s _ _ (low_right r) c.orient2d-o1.ensures.turn (right_under r _ _ c.min-c0.ensures c.max-c2.ensures) in
    record {
      points =
          low_right_apart s r (box_ordered u c.args.self.now) (subst (λ (b : Box). Common (InBox r) (InBox b)) c.new.ensures.corners c.if-not-intersects.ensures.points)
          (λ e. ne_reflects the_type (search rules) true c.orient2d-o0.result c.orient2d-o1.result c.if-ne.ensures (e0 ∙ e ∙ sym e1));
    }

pub returns-then-ne-2 : goal.returns-then-ne-2
returns-then-ne-2 g c =
    let u = g.T.Units.units in
    let s = segment u c.args.rhs.now in
    let r = box u c.args.self.now in
    let e0 = at_corner s _ _ r.min c.orient2d-o0.ensures.turn c.min-c0.ensures in
    let e2 = at_corner s _ _ r.max c.orient2d-o2.ensures.turn c.max-c2.ensures in
    record {
      points =
          high_right_apart s r (box_ordered u c.args.self.now) (subst (λ (b : Box). Common (InBox r) (InBox b)) c.new.ensures.corners c.if-not-intersects.ensures.points)
          (λ e. ne_reflects the_type (search rules) true c.orient2d-o0.result c.orient2d-o2.result c.if-ne-2.ensures (e0 ∙ e ∙ sym e2));
    }

pub returns-then-ne-3 : goal.returns-then-ne-3
returns-then-ne-3 g c =
    let u = g.T.Units.units in
    let s = segment u c.args.rhs.now in
    let r = box u c.args.self.now in
    let e0 = at_corner s _ _ r.min c.orient2d-o0.ensures.turn c.min-c0.ensures in
    let e3 = at_corner s _ _ (high_left r) c.orient2d-o3.ensures.turn (left_over r _ _ c.min-c0.ensures c.max-c2.ensures) in
    record {
      points =
          high_left_apart s r (box_ordered u c.args.self.now) (subst (λ (b : Box). Common (InBox r) (InBox b)) c.new.ensures.corners c.if-not-intersects.ensures.points)
          (λ e. ne_reflects the_type (search rules) true c.orient2d-o0.result c.orient2d-o3.result c.if-ne-3.ensures (e0 ∙ e ∙ sym e3));
    }

pub returns : goal.returns
returns g c =
    let u = g.T.Units.units in
    let s = segment u c.args.rhs.now in
    let r = box u c.args.self.now in
    let e0 = at_corner s _ _ r.min c.orient2d-o0.ensures.turn c.min-c0.ensures in
    let e1 = at_corner s _ _ (low_right r) c.orient2d-o1.ensures.turn (right_under r _ _ c.min-c0.ensures c.max-c2.ensures) in
    let e2 = at_corner s _ _ r.max c.orient2d-o2.ensures.turn c.max-c2.ensures in
    let e3 = at_corner s _ _ (high_left r) c.orient2d-o3.ensures.turn (left_over r _ _ c.min-c0.ensures c.max-c2.ensures) in
    record {
      points =
          corners_reflect s r (box_ordered u c.args.self.now) (subst (λ (b : Box). Common (InBox r) (InBox b)) c.new.ensures.corners c.if-not-intersects.ensures.points) c.eq.result
          (sym e0 ∙ equal_unless_ne the_type (search rules) c.orient2d-o0.result c.orient2d-o1.result c.if-ne.ensures ∙ e1) (sym e0 ∙ equal_unless_ne the_type (search rules) c.orient2d-o0.result c.orient2d-o2.result c.if-ne-2.ensures ∙ e2) (sym e0 ∙ equal_unless_ne the_type (search rules) c.orient2d-o0.result c.orient2d-o3.result c.if-ne-3.ensures ∙ e3)
          (reflects_same c.eq.result (λ e. sym e0 ∙ e) (λ e. e0 ∙ e) (eq_reflects the_type (search rules) c.eq.result c.orient2d-o0.result Collinear c.eq.ensures));
    }
