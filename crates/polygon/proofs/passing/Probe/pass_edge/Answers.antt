use Rattle.plane.specs.Points.{Segment}
use Rattle.plane.specs.Reach.{read_point}
use Rattle.polygon.proofs.Passings.{told_turn, missed_clear, left_upward, left_clear, right_downward, right_clear, line_touched, line_clear}
use Rattle.polygon.proofs.passing.Probe.pass_edge.Goals as goal

pub returns-then-not-is_reached : goal.returns-then-not-is_reached
returns-then-not-is_reached g c =
    let e : Segment = record { p = read_point c.args.start; q = read_point c.args.end } in
    missed_clear e c.args.self.now.at c.if-not-is_reached.ensures

pub returns-in-CounterClockwise : goal.returns-in-CounterClockwise
returns-in-CounterClockwise g c =
    let e : Segment = record { p = read_point c.args.start; q = read_point c.args.end } in
    let k = c.args.self.now.at in
    left_upward e k (told_turn e k _ _ _ _ c.in-CounterClockwise.ensures.turn c.from_grid.ensures c.from_grid-2.ensures c.args.self.now.same) c.if-is_half_between.ensures

pub returns-in-Clockwise : goal.returns-in-Clockwise
returns-in-Clockwise g c =
    let e : Segment = record { p = read_point c.args.start; q = read_point c.args.end } in
    let k = c.args.self.now.at in
    right_downward e k (told_turn e k _ _ _ _ c.in-Clockwise.ensures.turn c.from_grid.ensures c.from_grid-2.ensures c.args.self.now.same) c.if-is_half_between-2.ensures

pub returns-in-Collinear : goal.returns-in-Collinear
returns-in-Collinear g c =
    let e : Segment = record { p = read_point c.args.start; q = read_point c.args.end } in
    let k = c.args.self.now.at in
    line_touched e k (told_turn e k _ _ _ _ c.in-Collinear.ensures.turn c.from_grid.ensures c.from_grid-2.ensures c.args.self.now.same) (c.if-is_beside.ensures, c.if-not-is_reached.ensures)

pub returns-in_default : goal.returns-in_default
returns-in_default g c =
    let e : Segment = record { p = read_point c.args.start; q = read_point c.args.end } in
    let k = c.args.self.now.at in
    left_clear e k (told_turn e k _ _ _ _ c.in-CounterClockwise.ensures.turn c.from_grid.ensures c.from_grid-2.ensures c.args.self.now.same) c.if-is_half_between.ensures

pub returns-in_default-2 : goal.returns-in_default-2
returns-in_default-2 g c =
    let e : Segment = record { p = read_point c.args.start; q = read_point c.args.end } in
    let k = c.args.self.now.at in
    right_clear e k (told_turn e k _ _ _ _ c.in-Clockwise.ensures.turn c.from_grid.ensures c.from_grid-2.ensures c.args.self.now.same) c.if-is_half_between-2.ensures

pub returns-in_default-3 : goal.returns-in_default-3
returns-in_default-3 g c =
    let e : Segment = record { p = read_point c.args.start; q = read_point c.args.end } in
    let k = c.args.self.now.at in
    line_clear e k (told_turn e k _ _ _ _ c.in-Collinear.ensures.turn c.from_grid.ensures c.from_grid-2.ensures c.args.self.now.same) c.if-is_beside.ensures
