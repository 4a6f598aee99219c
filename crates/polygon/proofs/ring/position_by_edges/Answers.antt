use Rattle.polygon.proofs.Rings.{window_upward, window_downward, window_clear}
use Rattle.polygon.proofs.ring.position_by_edges.Goals as goal

pub loop-start-preserved-in-Upward : goal.loop-start-preserved-in-Upward
loop-start-preserved-in-Upward g c = window_upward _ _ _ _ _ c.in-Some.field-0 _ c.loop-start.invariant c.in-Some.ensures.steps c.in-Upward.ensures

pub loop-start-preserved-in-Downward : goal.loop-start-preserved-in-Downward
loop-start-preserved-in-Downward g c = window_downward _ _ _ _ _ c.in-Some.field-0 _ c.loop-start.invariant c.in-Some.ensures.steps c.in-Downward.ensures

pub loop-start-preserved : goal.loop-start-preserved
loop-start-preserved g c = window_clear _ _ _ _ _ c.in-Some.field-0 _ c.loop-start.invariant c.in-Some.ensures.steps c.in-Clear.ensures
