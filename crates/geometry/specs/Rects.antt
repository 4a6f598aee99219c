-- What a rectangle means in units: the box of its two corners.
use Rattle.std.specs.Prelude.{ℤ}
use Rattle.std.specs.declared.cmp.Ord as Ord
use Rattle.std.specs.declared.cmp.PartialEq as PartialEq
use Rattle.std.specs.declared.cmp.PartialOrd as PartialOrd
use Rattle.plane.specs.Sets.{Box, spanned}
use Rattle.scalar.specs.Coords.{grid_point}
use Rattle.scalar.specs.declared.units.Units as Units
use Rattle.geometry.specs.declared.rect.Rect.{Rect}

-- the members of T's bounds, which its type rests on, are left implicit
abbrev pub box : {T : Type 0} {U : Units.Ghosts T} {O : Ord.Ghosts T} {E : PartialEq.Ghosts T} {P : PartialOrd.Ghosts T} → (T → ℤ) → Rect T U O E P → Box
box units r = spanned (grid_point units r.min) (grid_point units r.max)
