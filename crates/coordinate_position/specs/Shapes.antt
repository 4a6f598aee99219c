-- What shapes mean: at every grid point, whether it is inside, and whether it is on the boundary an odd number of times.
use Rattle.std.specs.Prelude.{◌≡◌, Bool, false, cond, not, ◌&&◌, ◌||◌, List, [], ◌∷◌, ℤ, pos, ◌≢◌, int_lt}
use Rattle.std.specs.Bool.{xor}
use Rattle.plane.specs.declared.grid_point.GridPoint.{GridPoint}
use Rattle.plane.specs.declared.orientation.Orientation.{Orientation}
use Rattle.plane.specs.declared.orientation.Orientation.TheVariants.{Collinear}
use Rattle.plane.specs.Orient.{det, orientation}
use Rattle.plane.specs.Points.{Segment}
use Rattle.plane.specs.Sets.{Box}
use Rattle.polyline.specs.Tests.{same, touches, touches_any}
use Rattle.polyline.specs.Strings.{segments, last}
use Rattle.geometry.specs.Shapes.{sides, outline}
use Rattle.coordinate_position.specs.declared.position.CoordPos.{CoordPos}
use Rattle.coordinate_position.specs.declared.position.Membership.{Membership}
use Rattle.coordinate_position.specs.Positions.{mod_2}

pub record Shape : Type 0 where
  pub inside : GridPoint → Bool
  pub odd : GridPoint → Bool

-- what a shape says of a grid point
abbrev pub membership : Shape → GridPoint → Membership
membership f c = record { inside = f.inside c; odd = f.odd c }

-- where a grid point lies
abbrev pub position : Shape → GridPoint → CoordPos
position f c = mod_2 (f.inside c) (f.odd c)

-- a group of two shapes: inside if either says so, boundary counts added
abbrev pub grouped : Shape → Shape → Shape
grouped f g = record { inside = λ c. f.inside c || g.inside c; odd = λ c. xor (f.odd c) (g.odd c) }

-- a shape without points
abbrev pub nothing : Shape
nothing = record { inside = λ c. false; odd = λ c. false }

-- a coordinate: inside where equal
abbrev pub coord_shape : GridPoint → Shape
coord_shape v = record { inside = λ c. same v c; odd = λ c. false }

-- a line: its ends are boundary, and what else touches it is inside; at zero length it is a coordinate
abbrev pub line_shape : Segment → Shape
line_shape s =
    cond (same s.p s.q) (coord_shape s.p)
    (record { inside = λ c. touches s c && not (same s.p c || same s.q c); odd = λ c. same s.p c || same s.q c })

-- a line string of three vertices and more: the first and the last are boundary unless they are equal, and what else
-- touches a segment is inside
abbrev pub long_string_shape : GridPoint → List GridPoint → Shape
long_string_shape v vs =
    let end : GridPoint → Bool = λ c. not (same v (last v vs)) && (same v c || same (last v vs) c) in
    record { inside = λ c. touches_any (segments (v ∷ vs)) c && not (end c); odd = end }

-- a line string: nothing, a coordinate, a line, or the rest
abbrev pub string_shape : List GridPoint → Shape
string_shape [] = nothing
string_shape (v ∷ []) = coord_shape v
string_shape (v ∷ (w ∷ [])) = line_shape (record { p = v; q = w })
string_shape (v ∷ (w ∷ (u ∷ us))) = long_string_shape v (w ∷ (u ∷ us))

-- a rectangle: strictly within is inside, on a side is boundary
abbrev pub box_shape : Box → Shape
box_shape r = record {
  inside = λ c. (int_lt r.min.x c.x && int_lt c.x r.max.x) && (int_lt r.min.y c.y && int_lt c.y r.max.y);
  odd = λ c. touches_any (outline r) c;
}

-- all three are above zero, or all three below
abbrev pub one_sign : ℤ → ℤ → ℤ → Bool
one_sign a b c = (int_lt (pos 0) a && (int_lt (pos 0) b && int_lt (pos 0) c)) || (int_lt a (pos 0) && (int_lt b (pos 0) && int_lt c (pos 0)))

-- three turns are equal and not collinear
abbrev pub TurnAlike : Orientation → Orientation → Orientation → Type 0
TurnAlike a b c = (a ≡ b) × (b ≡ c) × (a ≢ Collinear)

-- so are those of c past the sides of the triangle u, v, w
abbrev pub TurnsAgree : GridPoint → GridPoint → GridPoint → GridPoint → Type 0
TurnsAgree u v w c = TurnAlike (orientation (det u v c)) (orientation (det v w c)) (orientation (det w u c))

-- a triangle: inside if the three turns past its sides agree and none is collinear; what touches a side counts once
abbrev pub triangle_shape : GridPoint → GridPoint → GridPoint → Shape
triangle_shape u v w = record { inside = λ c. one_sign (det u v c) (det v w c) (det w u c); odd = λ c. touches_any (sides u v w) c }
