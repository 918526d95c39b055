-- The whole text of a picture: one element of SVG 1.1 with a title, a style, a ground and the shapes. This project's
-- own.
use Rattle.std.specs.Prelude.{ℕ, List, ◌++◌, codes, decimal}
use Rattle.std.specs.List.{flat_map}
use Rattle.svg_text.specs.declared.shapes.Picture.{Picture}
use Rattle.svg_text.specs.declared.style.TheConstants.{STYLE}
use Rattle.svg_text.specs.Shapes.{attribute, extent, shape_text, title_text}

-- which places the picture has
abbrev pub view_text : (width height : ℕ) → List ℕ
view_text width height =
    attribute (codes "viewBox") (codes "0 0 " ++ decimal width ++ codes " " ++ decimal height)

-- the front of the outermost element
abbrev pub root_text : (width height : ℕ) → List ℕ
root_text width height =
    codes "<svg xmlns=\"http://www.w3.org/2000/svg\" role=\"img\"" ++ extent width height
    ++ view_text width height ++ codes ">\n"

-- what stands before the shapes
unfoldable pub head_text : Picture → List ℕ
head_text picture =
    root_text picture.width picture.height ++ title_text picture.title ++ codes "\n<style>" ++ STYLE.now
    ++ codes "</style>\n<rect class=\"ground\"" ++ extent picture.width picture.height ++ codes "/>\n"

-- the text
abbrev pub picture_text : Picture → List ℕ
picture_text picture = head_text picture ++ flat_map shape_text picture.shapes ++ codes "</svg>\n"
