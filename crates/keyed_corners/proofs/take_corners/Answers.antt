use Rattle.std.proofs.Common.{◌+◌, List, ◌++◌, drop, filter_map, ap, sym, ◌∙◌}
use Rattle.std.specs.Result.{result_ok}
use Rattle.plane.specs.declared.grid_point.GridPoint.{GridPoint}
use Rattle.keyed_corners.specs.Corners.{corner_of}
use Rattle.keyed_corners.proofs.Kept.{kept, passed, all_kept}
use Rattle.keyed_corners.proofs.take_corners.Goals.{in-Ok+in_ok-push-in-Ok+in_ok-println-in-Ok, in-Err+in_ok-println-in-Err}
use Rattle.keyed_corners.proofs.take_corners.Goals as goal

pub loop-corner-init : goal.loop-corner-init
loop-corner-init g c = ap (λ (ps : List GridPoint). ps ++ filter_map corner_of c.args.keyed.now) c.new-corners.ensures.items

pub loop-corner-preserved : goal.loop-corner-preserved
loop-corner-preserved g c =
    let place = sym c.grid_corner.ensures.place in
    elim c.match-grid_corner.branch [
      | in-Ok+in_ok-push-in-Ok+in_ok-println-in-Ok w ↦
          kept corner_of c.args.keyed.now c.loop-corner.corner-index _ _ _ w.in-Ok.p c.loop-corner-test.true
          (place ∙ ap result_ok w.in-Ok.is)
          ((λ i. (w.corners-is i).items) ∙ w.in_ok-push-in-Ok.ensures.items)
          c.loop-corner.invariant
      | in-Err+in_ok-println-in-Err w ↦
          (λ i. (w.corners-is i).items ++ filter_map corner_of (drop (c.loop-corner.corner-index + 1) c.args.keyed.now))
          ∙ passed corner_of c.args.keyed.now c.loop-corner.corner-index _ _ c.loop-corner-test.true (place ∙ ap result_ok w.in-Err.is) c.loop-corner.invariant
    ]

pub returns : goal.returns
returns g c = all_kept corner_of c.args.keyed.now c.loop-corner.corner-index c.loop-corner.corners.items c.loop-corner-test.false c.loop-corner.invariant
