-- The axis of a stretch as the definitions of trimming have it.
use Rattle.std.specs.Prelude.{Bool, true, false}
use Rattle.line_strings.specs.declared.trimming.Axis.{Axis}
use Rattle.line_strings.specs.declared.trimming.Axis.TheVariants.{X, Y}

-- along y (true) or x (false)
abbrev pub is_y : Axis → Bool
is_y X = false
is_y Y = true
