-- What a line string means: its vertices.
use Rattle.std.specs.Prelude.{List}
use Rattle.plane.specs.declared.grid_point.GridPoint.{GridPoint}
use Rattle.polyline.specs.Strings.{vertices}
use Rattle.line_strings.specs.declared.line_string.LineString.{LineString}

-- the vertices that its grid points are read as
abbrev pub vertices_of : {T : Type 0} → LineString T → List GridPoint
vertices_of s = vertices s.points.now
