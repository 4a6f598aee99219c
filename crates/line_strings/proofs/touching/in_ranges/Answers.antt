use Rattle.std.proofs.Common.{arith, to_z-of_z}
use Rattle.plane.specs.Points.{Between}
use Rattle.plane.specs.Reach.{read}
use Rattle.plane.proofs.Answers.{reflects_same}
use Rattle.line_strings.proofs.touching.in_ranges.Goals as goal

pub returns-then-value_in_between : goal.returns-then-value_in_between
returns-then-value_in_between c =
    let x : Between c.args.at.x (read c.args.start.x) (read c.args.end.x) = grind (arith, to_z-of_z) in
    reflects_same c.value_in_between-then-value_in_between.result (λ y. (x, y)) (λ h. h.1) (grind (arith, to_z-of_z))

pub returns-else-value_in_between : goal.returns-else-value_in_between
returns-else-value_in_between c = grind (arith, to_z-of_z)
