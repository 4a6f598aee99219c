-- Floats in millimetres on the grid of 1/256 millimetre. A finite float `fin s m e` is m * 2 ^ e, or minus that where s
-- is true, and 2 ^ e is `up e` / `down e`.
use Rattle.std.specs.Prelude.{◌*◌, ◌/◌, ◌%◌, Bool, true, false, not, ◌&&◌, ℤ, pos, neg_ℤ, ◌==◌, nat_lt, Float}
use Rattle.std.specs.Float.{nan, inf, fin}
use Rattle.std.specs.Float.Ieee.{up, down}

-- 256 times x, cut to a whole number
abbrev pub units_of : Float → ℤ
units_of nan = pos 0
units_of (inf s) = pos 0
units_of (fin true m e) = neg_ℤ (pos (m * up e * 256 / down e))
units_of (fin false m e) = pos (m * up e * 256 / down e)

-- 256 times x lies beyond 2 ^ 29 in size, as the infinities do
abbrev pub beyond : Float → Bool
beyond nan = false
beyond (inf s) = true
beyond (fin s m e) = nat_lt (536870912 * down e) (m * up e * 256)

-- 256 times x is whole
abbrev pub whole : Float → Bool
whole nan = false
whole (inf s) = false
whole (fin s m e) = m * up e * 256 % down e == 0

-- x is -0.0
abbrev pub minus_zero : Float → Bool
minus_zero nan = false
minus_zero (inf s) = false
minus_zero (fin s m e) = s && m == 0

-- x may be a scalar's float: 256 times x is whole and within reach, and x is not -0.0
abbrev pub on_grid : Float → Bool
on_grid x = whole x && not (beyond x) && not (minus_zero x)
