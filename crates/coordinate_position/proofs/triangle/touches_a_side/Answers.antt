use Rattle.std.proofs.Common.{Bool, true≢false, sym, ◌∙◌, subst, inl, inr}
use Rattle.plane.specs.Reflects.{Reflects}
use Rattle.plane.proofs.Answers.{reflects_same}
use Rattle.coordinate_position.proofs.triangle.touches_a_side.Goals as goal
use Rattle.coordinate_position.proofs.triangle.touches_a_side.Goals.{then-touches_side, else-touches_side}

pub returns-else-touches_side-2 : goal.returns-else-touches_side-2
returns-else-touches_side-2 g c =
    elim c.if-touches_side.branch [
      | then-touches_side w ↦ absurd (true≢false (sym w.if-touches_side.true ∙ sym w.value-is ∙ c.if-touches_side-2.false))
      | else-touches_side w ↦
          let n = subst (λ (b : Bool). Reflects b _) (sym w.value-is ∙ c.if-touches_side-2.false) w.touches_side-else-touches_side.ensures in
          reflects_same c.touches_side-else-touches_side-2.result (λ t. inr (inr (inl t)))
          (λ o. elim o [ inl t ↦ absurd (w.if-touches_side.ensures t) | inr o ↦ elim o [ inl t ↦ absurd (n t) | inr o ↦ elim o [ inl t ↦ t | inr o ↦ absurd o ] ] ])
          c.touches_side-else-touches_side-2.ensures
    ]
