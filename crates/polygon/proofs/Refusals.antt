-- Which rings are refused.
use Rattle.std.proofs.Common.{◌≡◌, ℕ, ◌+◌, Bool, true, false, cond, List, [], ◌∷◌, Some, None, sym, refl, ap, ◌∙◌, arith}
use Rattle.std.specs.List.{AllByRecursion}
use Rattle.plane.specs.declared.grid_point.GridPoint.{GridPoint}
use Rattle.plane.specs.Reflects.{Reflects, Iff}
use Rattle.plane.proofs.Answers.{one_answer}
use Rattle.polyline.specs.Strings.{last, Closed}
use Rattle.polyline.proofs.Tests.{same_reflects}
use Rattle.polygon.specs.declared.fault.RingFault.TheVariants.{Open}
use Rattle.polygon.specs.Faults.{ring_fault, closed, refusal_from}

pub closed_reflects : (vs : List GridPoint) → Reflects (closed vs) (Closed vs)
closed_reflects [] = tt
closed_reflects (v ∷ vs) = same_reflects v (last v vs)

module _ (i : ℕ) (r : List GridPoint) (rs : List (List GridPoint)) where
  by_closed : (b : Bool) → Reflects b (Closed r) → refusal_from i (r ∷ rs) ≡ cond b (refusal_from (i + 1) rs) (Some (ring_fault (Open i)))
  by_closed b h = ap (λ (b : Bool). cond b (refusal_from (i + 1) rs) (Some (ring_fault (Open i)))) (one_answer (Closed r) (closed r) b (closed_reflects r) h)

  -- a closed ring leaves it to the others
  pub closed_passes : Closed r → refusal_from i (r ∷ rs) ≡ refusal_from (i + 1) rs
  closed_passes h = by_closed true h

  -- an open one is refused with its place
  pub open_refused : (Closed r → ⊥) → refusal_from i (r ∷ rs) ≡ Some (ring_fault (Open i))
  open_refused n = by_closed false n

-- rings are not refused exactly if all are closed
pub none_refused : (i : ℕ) (rs : List (List GridPoint)) → Iff (refusal_from i rs ≡ None) (AllByRecursion Closed rs)
none_refused i [] = ((λ _. tt), (λ _. refl))
none_refused i (r ∷ rs) = let j = none_refused (i + 1) rs in
    ((λ e. tell j.0 (closed r) (closed_reflects r) e), (λ h. closed_passes i r rs h.0 ∙ j.1 h.1))
  where
    never : Some (ring_fault (Open i)) ≡ None → ⊥
    never e = let z : ◌≡◌ {A = ℕ} 0 1 = cc in omega arith

    tell : (refusal_from (i + 1) rs ≡ None → AllByRecursion Closed rs) → (b : Bool) → Reflects b (Closed r) → cond (closed r) (refusal_from (i + 1) rs) (Some (ring_fault (Open i))) ≡ None → Closed r × AllByRecursion Closed rs
    tell f true c e = (c, f (sym (closed_passes i r rs c) ∙ e))
    tell f false n e = absurd (never (sym (open_refused i r rs n) ∙ e))
