-- What is within reach is read as it is.
use Rattle.std.proofs.Common.{◌≡◌, Bool, true, false, cond, ℤ, pos, negsuc, ◌≤ℤ◌, refl}
use Rattle.plane.specs.declared.grid_point.GridPoint.{GridPoint}
use Rattle.plane.specs.Reach.{Within, WithinReach, read, read_point}
use Rattle.plane.specs.Reflects.{Reflects}
use Rattle.plane.proofs.Collinear.{same_point}
use Rattle.plane.proofs.Answers.{and_reflects}
use Rattle.polyline.proofs.Tests.{le_reflects}
use lib.Signed.{le_z}

read_same : (u : ℤ) → Within u → read u ≡ u
read_same u h = go _ (and_reflects (negsuc 536870911 ≤ℤ u) (u ≤ℤ pos 536870912) (le_z (negsuc 536870911) u) (le_z u (pos 536870912)) (le_reflects (negsuc 536870911) u) (le_reflects u (pos 536870912)))
  where
    go : (b : Bool) → Reflects b ((negsuc 536870911 ≤ℤ u) × (u ≤ℤ pos 536870912)) → cond b u (pos 0) ≡ u
    go true k = refl
    go false n = absurd (n h)

pub reads_itself : (p : GridPoint) → WithinReach p → read_point p ≡ p
reads_itself p h = same_point (read_point p) p (read_same p.x h.0) (read_same p.y h.1)
