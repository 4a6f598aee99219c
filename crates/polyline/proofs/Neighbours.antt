-- The segments of a line string, as iterators over its neighbouring points give them.
use Rattle.std.proofs.Common.{◌≡◌, ◌≤◌, ◌<◌, List, [], ◌∷◌, Some, None, length, get_or, take, drop, ◌∙◌, refl, subst, arith, Bor}
use Rattle.std.specs.Slice.ArrayWindows.{array_windows_parts, array_windows_steps}
use Rattle.std.specs.Slice.Iter.{windows_rest, windows_size}
use Rattle.std.specs.declared.slice.ArrayWindows.{ArrayWindows}
use Rattle.std.proofs.lemmas.Iterator.{YieldsList}
use Rattle.std.proofs.lemmas.Iterator.Splits.{YieldsList-from_shown_while}
use Rattle.plane.specs.declared.grid_point.GridPoint.{GridPoint}
use Rattle.plane.specs.Points.{Segment}
use Rattle.plane.specs.Reach.{read_point}
use Rattle.polyline.specs.Strings.{vertices, segments}
use Rattle.polyline.proofs.Chains.{origin}

-- the segment between the first two points
abbrev pub first_two : List GridPoint → Segment
first_two ps = record { p = read_point (get_or ps 0 origin); q = read_point (get_or ps 1 origin) }

few : (ps : List GridPoint) → length ps < 2 → length (segments (vertices ps)) ≡ 0
few [] h = refl
few (p ∷ []) h = refl
few (p ∷ (q ∷ qs)) h = absurd (omega arith)

pub first_window : (ps : List GridPoint) → 2 ≤ length ps → segments (vertices ps) ≡ first_two (take 2 ps) ∷ segments (vertices (drop 1 ps))
first_window [] h = absurd (omega arith)
first_window (p ∷ []) h = absurd (omega arith)
first_window (p ∷ (q ∷ qs)) h = refl

pub windows_yield : {s : ArrayWindows GridPoint 2} (ps : List GridPoint) → windows_rest (array_windows_parts s) ≡ ps → windows_size (array_windows_parts s) ≡ 2 → YieldsList array_windows_steps (λ w. first_two w.now) s (segments (vertices ps))
windows_yield {s} ps e z = subst (λ (qs : List GridPoint). YieldsList array_windows_steps (λ w. first_two w.now) s (segments (vertices qs))) e (YieldsList-from_shown_while array_windows_steps (λ w. first_two w.now) shown (λ t. windows_size (array_windows_parts t) ≡ 2) none some s z)
  where
    shown : ArrayWindows GridPoint 2 → List Segment
    shown t = segments (vertices (windows_rest (array_windows_parts t)))

    none : (t u : ArrayWindows GridPoint 2) → windows_size (array_windows_parts t) ≡ 2 → array_windows_steps t None u → length (shown t) ≡ 0
    none t u z k = few (windows_rest (array_windows_parts t)) (omega arith)

    some : (t : ArrayWindows GridPoint 2) (w : Bor (List GridPoint)) (u : ArrayWindows GridPoint 2) → windows_size (array_windows_parts t) ≡ 2 → array_windows_steps t (Some w) u → (windows_size (array_windows_parts u) ≡ 2) × (shown t ≡ first_two w.now ∷ shown u)
    some t w u z k = (k.0 ∙ z, rw (k.1.1, k.1.2, z) (first_window (windows_rest (array_windows_parts t)) (omega arith)))
