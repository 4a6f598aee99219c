use Rattle.std.proofs.Common.{◌++◌, ◌∷◌, [], length, drop, ℤ, sym, ap, ◌∙◌}
use Rattle.plane.proofs.Iterators.{left_more, left_none}
use Rattle.polyline.specs.Strings.{vertices, segments}
use Rattle.polyline.specs.Trimming.{round}
use Rattle.polyline.proofs.Neighbours.{windows_yield}
use Rattle.polyline.proofs.Trimming.{gone_stays}
use Rattle.geometry.specs.Shapes.{segment}
use Rattle.line_strings.proofs.trimming.Target.trim_round.Goals as goal

pub returns-then-is_gone : goal.returns-then-is_gone
returns-then-is_gone g c =
    let s = segment g.T.Units.units c.args.self.now.line.now in
    let ts = drop (length (c.loop-start.yielded ++ c.in-Some.field-0 ∷ [])) (segments (vertices c.args.points.now)) in
    sym (gone_stays s ts c.trim_by_segment-left.result c.if-is_gone.ensures)
    ∙ ap (λ (l : ℤ × ℤ). round s l ts) c.trim_by_segment-left.ensures
    ∙ sym (left_more (round s c.loop-start.left) (windows_yield _ (cc) (cc)) c.loop-start.yielded _ c.loop-start.yielded_by _ _ c.in-Some.field-0 c.in-Some.is c.next.ensures.steps)
    ∙ c.loop-start.invariant

pub loop-start-preserved : goal.loop-start-preserved
loop-start-preserved g c =
    let s = segment g.T.Units.units c.args.self.now.line.now in
    let ts = drop (length (c.loop-start.yielded ++ c.in-Some.field-0 ∷ [])) (segments (vertices c.args.points.now)) in
    ap (λ (l : ℤ × ℤ). round s l ts) c.trim_by_segment-left.ensures
    ∙ sym (left_more (round s c.loop-start.left) (windows_yield _ (cc) (cc)) c.loop-start.yielded _ c.loop-start.yielded_by _ _ c.in-Some.field-0 c.in-Some.is c.next.ensures.steps)
    ∙ c.loop-start.invariant

pub returns : goal.returns
returns g c =
    let s = segment g.T.Units.units c.args.self.now.line.now in
    let e = left_none (round s c.loop-start.left) (windows_yield c.args.points.now (cc) (cc)) c.loop-start.yielded _ c.loop-start.yielded_by _ _ c.in-None.is c.next.ensures.steps in
    cc
