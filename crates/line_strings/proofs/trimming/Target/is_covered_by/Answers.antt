use Rattle.std.proofs.Common.{true, false, arith, rules}
use Rattle.std.proofs.lemmas.Int.{ints}
use Rattle.polyline.specs.Strings.{vertices, segments}
use Rattle.polyline.proofs.Trimming.{trimming_begins, trimming_next, trimming_done, trimming_unchanged, trimming_changed, pair_tells}
use Rattle.geometry.specs.Shapes.{segment}
use Rattle.line_strings.proofs.trimming.Target.is_covered_by.Goals as goal

pub loop-left-init : goal.loop-left-init
loop-left-init g c = trimming_begins (segments (vertices c.args.points.now)) (segment g.T.Units.units c.args.self.now.line.now) c.stretch-left.result c.requires c.stretch-left.ensures

pub returns-then-next : goal.returns-then-next
returns-then-next g c =
    let ts = segments (vertices c.args.points.now) in
    let s = segment g.T.Units.units c.args.self.now.line.now in
    trimming_done ts s c.trim_round-next.result (trimming_next ts s c.loop-left.left c.trim_round-next.result c.requires c.loop-left.invariant.0 c.trim_round-next.ensures) (omega (arith, ints))

pub returns-then-eq : goal.returns-then-eq
returns-then-eq g c =
    let e = pair_tells true c.trim_round-next.result c.loop-left.left c.if-eq.ensures in
    search (rules, trimming_unchanged)

pub loop-left-smaller : goal.loop-left-smaller
loop-left-smaller g c =
    let e = pair_tells false c.trim_round-next.result c.loop-left.left c.if-eq.ensures in
    search (rules, trimming_changed)

pub loop-left-preserved : goal.loop-left-preserved
loop-left-preserved g c = search (rules, ints, trimming_next)
