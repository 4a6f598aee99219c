-- The holes of a polygon as a loop over them reads them.
use Rattle.std.proofs.Common.{true, false, Bool, not, cond, [], refl, Option, MatchOption, ◌≡◌, ℕ, ◌+◌, List, ◌∷◌, Some, None, sym, ap, ◌∙◌}
use Rattle.std.specs.List.{position, position_from}
use Rattle.std.specs.Option.{IsSomeAnd, option_map}
use Rattle.std.proofs.lemmas.Iterator.Adapters.{position_from-zero}
use Rattle.std.proofs.lemmas.Option.{none-some}
use Rattle.plane.proofs.Answers.{one_answer}
use Rattle.plane.specs.Reflects.{Reflects}
use Rattle.polyline.specs.Strings.{vertices, Closed}
use Rattle.line_strings.specs.declared.line_string.LineString.{LineString}
use Rattle.polygon.specs.declared.fault.RingFault.TheVariants.{Open}
use Rattle.polygon.specs.Faults.{closed, ring_fault, refusal_from}
use Rattle.polygon.specs.Polygons.{rings}
use Rattle.polygon.proofs.Refusals.{closed_reflects}

module _ {T : Type 0} where
  abbrev pub is_open : LineString T → Bool
  is_open s = not (closed (vertices s.points.now))

  -- what the code tells of a hole
  pub open_told : (h : LineString T) (b : Bool) → ((r : Bool) × (b ≡ not r) × Reflects r (Closed (vertices h.points.now))) → b ≡ is_open h
  open_told h b t = t.1 ∙ ap not (one_answer _ t.0 (closed (vertices h.points.now)) t.2 (closed_reflects (vertices h.points.now)))

  -- the first open hole is refused with its place
  place_refused : (i : ℕ) (hs : List (LineString T)) → refusal_from (i + 1) (rings hs) ≡ option_map (λ k. ring_fault (Open (k + 1))) (position_from is_open i hs)
  place_refused i [] = refl
  place_refused i (h ∷ hs) = go (closed (vertices h.points.now)) (place_refused (i + 1) hs)
    where
      go : (b : Bool) → refusal_from ((i + 1) + 1) (rings hs) ≡ option_map (λ k. ring_fault (Open (k + 1))) (position_from is_open (i + 1) hs) → cond b (refusal_from ((i + 1) + 1) (rings hs)) (Some (ring_fault (Open (i + 1)))) ≡ option_map (λ k. ring_fault (Open (k + 1))) (cond (not b) (Some i) (position_from is_open (i + 1) hs))
      go true e = e
      go false e = refl

  pub first_refused : (hs : List (LineString T)) (p r : Option ℕ) → p ≡ position is_open hs → MatchOption p (r ≡ None) (λ i. IsSomeAnd r (λ j. j ≡ i + 1)) → MatchOption r (refusal_from 1 (rings hs) ≡ None) (λ k. refusal_from 1 (rings hs) ≡ Some (ring_fault (Open k)))
  first_refused hs p r e m = go p r (place_refused 0 hs ∙ ap (option_map (λ k. ring_fault (Open (k + 1)))) (sym (e ∙ position_from-zero is_open hs))) m
    where
      go : (p r : Option ℕ) → refusal_from 1 (rings hs) ≡ option_map (λ k. ring_fault (Open (k + 1))) p → MatchOption p (r ≡ None) (λ i. IsSomeAnd r (λ j. j ≡ i + 1)) → MatchOption r (refusal_from 1 (rings hs) ≡ None) (λ k. refusal_from 1 (rings hs) ≡ Some (ring_fault (Open k)))
      go None None e m = e
      go None (Some k) e m = absurd (none-some k (sym m))
      go (Some i) None e m = absurd m
      go (Some i) (Some k) e m = e ∙ ap (λ (k : ℕ). Some (ring_fault (Open k))) (sym m)
