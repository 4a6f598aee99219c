use Rattle.std.proofs.Common.{arith, rules, to_z-of_z, w32, SFits}
use Rattle.line_strings.proofs.trimming.Axis.span.Goals as goal

pub returns-in-X : goal.returns-in-X
returns-in-X c = grind (arith, to_z-of_z)

pub returns-in-Y : goal.returns-in-Y
returns-in-Y c =
    let f1 : SFits w32 c.args.start.y = search rules in
    let f2 : SFits w32 c.args.end.y = search rules in
    let f3 : SFits w32 c.read_units-in-Y.result = search rules in
    let f4 : SFits w32 c.read_units-in-Y-2.result = search rules in
    grind (arith, to_z-of_z)
