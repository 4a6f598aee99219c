use mathlib.Core.Logic.{inl, inr}
use Rattle.std.proofs.Common.{◌≡◌, Bool, false, sym, ◌∙◌, subst, true≢false}
use Rattle.plane.specs.Points.{Ranges}
use Rattle.plane.specs.Reflects.{Reflects}
use Rattle.plane.proofs.Answers.{reflects_same}
use Rattle.geometry.specs.Shapes.{segment}
use Rattle.intersects.proofs.line.overlap_along.Goals.{then-point_in_rect, else-point_in_rect}
use Rattle.intersects.proofs.line.overlap_along.Goals as goal

denied : (P : Type 0) (r : Bool) → r ≡ false → Reflects r P → P → ⊥
denied P r e h = subst (λ (b : Bool). Reflects b P) e h

pub returns-else-point_in_rect-2 : goal.returns-else-point_in_rect-2
returns-else-point_in_rect-2 g c =
    let u = g.T.Units.units in
    let end = c.args.line.now.end in
    elim c.if-point_in_rect.branch [
      | then-point_in_rect w ↦ absurd (true≢false (sym w.if-point_in_rect.true ∙ sym w.value-is ∙ c.if-point_in_rect-2.false))
      | else-point_in_rect w ↦
          let second = w.point_in_rect-else-point_in_rect in
          let no = denied (Ranges (segment u c.args.l.now) (u end.x) (u end.y)) second.result (sym w.value-is ∙ c.if-point_in_rect-2.false) second.ensures in
          reflects_same c.point_in_rect-else-point_in_rect-2.result (λ h. inr (inr h))
          (λ z. elim z [ inl k ↦ absurd (w.if-point_in_rect.ensures k) | inr k ↦ elim k [ inl l ↦ absurd (no l) | inr l ↦ l ] ])
          c.point_in_rect-else-point_in_rect-2.ensures
    ]
