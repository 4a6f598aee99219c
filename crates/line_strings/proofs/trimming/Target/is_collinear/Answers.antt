use Rattle.std.proofs.Common.{◌≡◌, pos, sym, ap, ◌∙◌, rules}
use Rattle.plane.specs.declared.grid_point.GridPoint.{GridPoint}
use Rattle.plane.specs.declared.orientation.Orientation.TheVariants.{Collinear}
use Rattle.plane.specs.Orient.{det, orientation}
use Rattle.plane.specs.Reach.{read_point}
use Rattle.plane.proofs.Answers.{reflects_same, one_answer}
use Rattle.plane.specs.contracts.orientation.Orientation.{the_type}
use Rattle.plane.proofs.Enums.{eq_reflects}
use Rattle.plane.proofs.Orientations.{collinear_zero, no_turn}
use Rattle.polyline.specs.Tests.{collinear}
use Rattle.polyline.proofs.Tests.{zero_reflects}
use Rattle.scalar.specs.Coords.{grid_point}
use Rattle.line_strings.proofs.trimming.Target.is_collinear.Goals as goal

pub returns : goal.returns
returns g c =
    let u = g.T.Units.units in
    let p = grid_point u c.args.self.now.line.now.start in
    let q = grid_point u c.args.self.now.line.now.end in
    let v = read_point c.args.vertex in
    let r = c.eq.result in
    let t : c.orient2d.result ≡ orientation (det p q v) = c.orient2d.ensures.turn ∙ ap (λ (k : GridPoint). orientation (det p q k)) c.from_grid-vertex.ensures in
    one_answer (det p q v ≡ pos 0) r (collinear p q v)
    (reflects_same r (λ e. collinear_zero (det p q v) (sym t ∙ e)) (λ z. t ∙ sym (no_turn (det p q v) z)) (eq_reflects the_type (search rules) r c.orient2d.result Collinear c.eq.ensures))
    (zero_reflects (det p q v))
