-- Heights of columns as shapes: a step where the height changes. This project's own.
use Rattle.std.specs.Prelude.{ℕ, ◌+◌, ◌-◌, ◌*◌, ◌/◌, ◌==◌, List, [], ◌∷◌, ◌++◌, length, reverse, if◌then◌else◌}
use Rattle.svg_text.specs.declared.shapes.Point.{Point}
use Rattle.run_picture.specs.declared.series.TheConstants.{LEFT, WIDTH}

-- where a column of so many begins, or ends where it is one behind the last
abbrev pub place_of : (column count : ℕ) → ℕ
place_of column count = if count == 0 then LEFT else LEFT + column * WIDTH / count

-- a corner over a base line
abbrev pub corner : (count base column height : ℕ) → Point
corner count base column height = record { x = place_of column count; y = base - height }

-- the step to a height, if it is another one
abbrev pub step : (count base column last height : ℕ) → List Point
step count base column last height =
    if height == last then [] else corner count base column last ∷ corner count base column height ∷ []

-- the corners of heights from a column on, that come after a height
abbrev pub corners : (count base column last : ℕ) → List ℕ → List Point
corners count base column last [] = corner count base count last ∷ []
corners count base column last (height ∷ heights) =
    step count base column last height ++ corners count base (column + 1) height heights

abbrev pub first_of : List ℕ → ℕ
first_of [] = 0
first_of (height ∷ heights) = height

-- a line along heights
abbrev pub line_points : (base : ℕ) → List ℕ → List Point
line_points base heights =
    corner (length heights) base 0 (first_of heights) ∷ corners (length heights) base 0 (first_of heights) heights

-- the area between heights and the base line
abbrev pub area_points : (base : ℕ) → List ℕ → List Point
area_points base heights = corners (length heights) base 0 0 heights ++ corner (length heights) base (length heights) 0
    ∷ []
