-- Differences of numbers within reach.
use Rattle.std.specs.Prelude.{ℤ, pos, negsuc, ◌≤ℤ◌}

-- u lies from -2 ^ 30 to 2 ^ 30, as the difference of two numbers within reach does
abbrev pub Difference : ℤ → Type 0
Difference u = (negsuc 1073741823 ≤ℤ u) × (u ≤ℤ pos 1073741824)
