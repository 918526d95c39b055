-- The texts of pictures are well-formed.
use Rattle.std.proofs.Common.{◌≡◌, ℕ, ◌+◌, ◌-◌, ◌^◌, ◌≤◌, ◌<◌, ◌%◌, Bool, true, false, List, [], ◌∷◌, ◌++◌, codes, arith, append_assoc, append-nil, refl, sym, subst}
use Rattle.std.specs.Prelude.{All, ◌==◌, ◌&&◌, decimal, if◌then◌else◌}
use Rattle.std.specs.List.{flat_map, list_all}
use Rattle.std.proofs.lemmas.Bool.Decides.{nat_tests}
use Rattle.std.proofs.lemmas.Fmt.{decimal_by_steps}
use Rattle.std.proofs.lemmas.List.Elements.{All-head, All-tail}
use Rattle.svg_text.specs.declared.shapes.Anchor.{Anchor}
use Rattle.svg_text.specs.declared.shapes.Anchor.TheVariants as anchor
use Rattle.svg_text.specs.declared.shapes.Paint.{Paint}
use Rattle.svg_text.specs.declared.shapes.Paint.TheVariants as paint
use Rattle.svg_text.specs.declared.shapes.Picture.{Picture}
use Rattle.svg_text.specs.declared.shapes.Point.{Point}
use Rattle.svg_text.specs.declared.shapes.Shape.{Shape}
use Rattle.svg_text.specs.declared.shapes.Shape.TheVariants as shape
use Rattle.svg_text.specs.declared.style.TheConstants.{STYLE}
use Rattle.svg_text.specs.Documents.{AreAttributes, IsContent, IsDocument, IsText, element, empty, ended, is_name, is_plain, more, none, nothing, plain, reference, text}
use Rattle.svg_text.specs.Escapes.{byte_text, escaped, is_printed}
use Rattle.svg_text.specs.Pictures.{head_text, picture_text, view_text}
use Rattle.svg_text.specs.Shapes.{along_text, anchor_word, attribute, class_of, count, hint_end, line_text, point_text, rect_front, shape_text, title_text, words_text}
use Rattle.svg_text.specs.Within.{IsBoxWithin, IsPictureWithin, IsPointWithin, IsWithin}

-- the greatest number of 32 bits
abbrev most : ℕ
most = 2 ^ 32 - 1

-- ---- texts

text_append : {a b : List ℕ} → IsText a → IsText b → IsText (a ++ b)
text_append ended u = u
text_append {b = b} (plain byte rest is t) u = plain byte (rest ++ b) is (text_append t u)
text_append {b = b} (reference mark rest among t) u = subst IsText (sym (append_assoc mark rest b)) (reference mark (rest ++ b) among (text_append t u))

both : (x y : Bool) → (x && y) ≡ true → (x ≡ true) × (y ≡ true)
both true y e = (refl, e)
both false y e = let bad : false ≡ true = e in cc

plain_text : (words : List ℕ) → list_all is_plain words ≡ true → IsText words
plain_text [] e = ended
plain_text (byte ∷ words) e =
    let parts = both (is_plain byte) (list_all is_plain words) e in plain byte words parts.0 (plain_text words parts.1)

byte_is : (byte : ℕ) (rest : List ℕ) → IsText rest → IsText (byte_text byte ++ rest)
byte_is byte rest t = by (byte == 60) refl (byte == 62) refl (byte == 38) refl (byte == 34) refl (is_printed byte) refl
  where
    by : (less : Bool) → (byte == 60) ≡ less → (greater : Bool) → (byte == 62) ≡ greater → (and : Bool) → (byte == 38) ≡ and → (quote : Bool) → (byte == 34) ≡ quote → (printed : Bool)
        → is_printed byte ≡ printed
        → IsText ((if less then codes "&lt;" else (if greater then codes "&gt;" else (if and then codes "&amp;" else (if quote then codes "&quot;" else (if printed then byte ∷ [] else codes "?"))))) ++ rest)
    by true e greater f and g quote h printed i = reference (codes "&lt;") rest (0, omega arith, refl) t
    by false e true f and g quote h printed i = reference (codes "&gt;") rest (1, omega arith, refl) t
    by false e false f true g quote h printed i = reference (codes "&amp;") rest (2, omega arith, refl) t
    by false e false f false g true h printed i = reference (codes "&quot;") rest (3, omega arith, refl) t
    by false e false f false g false h true i = plain byte rest (rw (e, f, g, h, i) refl) t
    by false e false f false g false h false i = plain 63 rest refl t

escaped_text : (words : List ℕ) → IsText (escaped words)
escaped_text [] = ended
escaped_text (byte ∷ words) = byte_is byte (escaped words) (escaped_text words)

digit_plain : (digit : ℕ) → digit < 10 → is_plain (48 + digit) ≡ true
digit_plain digit small = grind (arith, nat_tests)

one_digit : (digit : ℕ) → digit < 10 → IsText ((48 + digit) ∷ [])
one_digit digit small = plain (48 + digit) [] (digit_plain digit small) ended

number_text : (n : ℕ) → n ≤ most → IsText (decimal n)
number_text n small =
    decimal_by_steps (λ m ds. IsText ds) (λ m few. one_digit m few) (λ m ds many t. text_append t (one_digit (m % 10) (omega arith))) n (omega (arith, small))

class_text : (paint : Paint) → IsText (class_of paint)
class_text paint.Ink = plain_text (codes "ink") refl
class_text paint.Faint = plain_text (codes "faint") refl
class_text paint.Box = plain_text (codes "box") refl
class_text paint.Edge = plain_text (codes "edge") refl
class_text paint.Grid = plain_text (codes "grid") refl
class_text (paint.Route number) = text_append (plain_text (codes "route") refl) (number_text (number % 8) (omega arith))
class_text paint.Blocked = plain_text (codes "blocked") refl
class_text paint.Pathless = plain_text (codes "pathless") refl
class_text paint.Sent = plain_text (codes "sent") refl
class_text paint.Fetched = plain_text (codes "fetched") refl
class_text paint.Reach = plain_text (codes "reach") refl
class_text paint.Written = plain_text (codes "written") refl
class_text paint.Silence = plain_text (codes "silence") refl
class_text paint.Hole = plain_text (codes "hole") refl
class_text paint.Limit = plain_text (codes "limit") refl
class_text paint.Sound = plain_text (codes "sound") refl
class_text paint.Quiet = plain_text (codes "quiet") refl

anchor_text : (anchor : Anchor) → IsText (anchor_word anchor)
anchor_text anchor.Start = plain_text (codes "start") refl
anchor_text anchor.Middle = plain_text (codes "middle") refl
anchor_text anchor.End = plain_text (codes "end") refl

point_is : (point : Point) → IsPointWithin most point → IsText (point_text point)
point_is point within =
    text_append (text_append (text_append (number_text point.x within.x) (plain_text (codes ",") refl)) (number_text point.y within.y)) (plain_text (codes " ") refl)

points_text : (points : List Point) → All (IsPointWithin most) points → IsText (flat_map point_text points)
points_text [] within = ended
points_text (point ∷ points) within =
    text_append (point_is point (All-head (IsPointWithin most) point points within)) (points_text points (All-tail (IsPointWithin most) point points within))

-- ---- contents

content_append : {a b : List ℕ} → IsContent a → IsContent b → IsContent (a ++ b)
content_append nothing u = u
content_append {b = b} (text words rest t c) u = subst IsContent (sym (append_assoc words rest b)) (text words (rest ++ b) t (content_append c u))
content_append {b = b} (element names name attributes content rest named are inner c) u =
    subst IsContent (sym (append_assoc (codes "<" ++ name ++ attributes ++ codes ">" ++ content ++ codes "</" ++ name ++ codes ">") rest b))
    (element names name attributes content (rest ++ b) named are inner (content_append c u))
content_append {b = b} (empty names name attributes rest named are c) u =
    subst IsContent (sym (append_assoc (codes "<" ++ name ++ attributes ++ codes "/>") rest b)) (empty names name attributes (rest ++ b) named are (content_append c u))

text_content : (words : List ℕ) → IsText words → IsContent words
text_content words t = subst IsContent (append-nil words) (text words [] t nothing)

wrapped_form : (a c e n g : List ℕ) → ((((a ++ c) ++ e) ++ n) ++ g) ++ [] ≡ (a ++ c) ++ ((e ++ n) ++ g)
wrapped_form a c e n g = simp (append_assoc, append-nil)

wrapped : (names : List (List ℕ)) (name attributes content : List ℕ) → is_name name ≡ true → AreAttributes names attributes → IsContent content
    → IsContent ((codes "<" ++ name ++ attributes ++ codes ">") ++ content ++ (codes "</" ++ name ++ codes ">"))
wrapped names name attributes content named are inner =
    subst IsContent (wrapped_form (codes "<" ++ name ++ attributes ++ codes ">") content (codes "</") name (codes ">"))
    (element names name attributes content [] named are inner nothing)

-- the end of a line
line_feed : IsContent (codes "\n")
line_feed = text_content (codes "\n") (plain_text (codes "\n") refl)

title_content : (words : List ℕ) → IsContent (title_text words)
title_content words = wrapped [] (codes "title") [] (escaped words) refl none (text_content (escaped words) (escaped_text words))

-- ---- shapes

-- attributes of a box
box_attributes : (paint : Paint) (at : Point) (width height : ℕ) → IsBoxWithin most at width height
    → AreAttributes (codes "class" ∷ codes "x" ∷ codes "y" ∷ codes "width" ∷ codes "height" ∷ [])
    (attribute (codes "class") (class_of paint) ++ (count (codes "x") at.x ++ (count (codes "y") at.y ++ (count (codes "width") width ++ (count (codes "height") height ++ [])))))
box_attributes paint at width height within =
    more _ (codes "class") (class_of paint) _ refl refl (class_text paint)
    (more _ (codes "x") (decimal at.x) _ refl refl (number_text at.x within.corner.x)
    (more _ (codes "y") (decimal at.y) _ refl refl (number_text at.y within.corner.y)
    (more _ (codes "width") (decimal width) _ refl refl (number_text width within.width_is)
    (more _ (codes "height") (decimal height) _ refl refl (number_text height within.height_is) none))))

rect_form : (o n a x y w h e l : List ℕ) → ((o ++ n ++ (a ++ (x ++ (y ++ (w ++ (h ++ [])))))) ++ e) ++ l ≡ (((o ++ n ++ a) ++ (x ++ y)) ++ (w ++ h)) ++ (e ++ l)
rect_form o n a x y w h e l = simp (append_assoc, append-nil)

hint_form : (o n a x y w h g t c l : List ℕ)
    → ((((o ++ n ++ (a ++ (x ++ (y ++ (w ++ (h ++ [])))))) ++ g) ++ t) ++ c) ++ l ≡ (((o ++ n ++ a) ++ (x ++ y)) ++ (w ++ h)) ++ ((g ++ t) ++ (c ++ l))
hint_form o n a x y w h g t c l = simp (append_assoc, append-nil)

line_form : (o n a p q r s e l : List ℕ) → ((o ++ n ++ (a ++ (p ++ (q ++ (r ++ (s ++ [])))))) ++ e) ++ l ≡ (((((o ++ n ++ a) ++ p) ++ q) ++ r) ++ s) ++ (e ++ l)
line_form o n a p q r s e l = simp (append_assoc, append-nil)

along_form : (o n a p e l : List ℕ) → ((o ++ n ++ (a ++ (p ++ []))) ++ e) ++ l ≡ ((o ++ n ++ a) ++ p) ++ (e ++ l)
along_form o n a p e l = simp (append_assoc, append-nil)

words_form : (o n a t x y g w c l : List ℕ)
    → ((((o ++ n ++ (a ++ (t ++ (x ++ (y ++ []))))) ++ g) ++ w) ++ c) ++ l ≡ (((((o ++ n ++ a) ++ t) ++ (x ++ y)) ++ g) ++ w) ++ (c ++ l)
words_form o n a t x y g w c l = simp (append_assoc, append-nil)

rect_content : (paint : Paint) (at : Point) (width height : ℕ) → IsBoxWithin most at width height → IsContent (rect_front paint at width height ++ codes "/>\n")
rect_content paint at width height within =
    subst IsContent
    (rect_form (codes "<") (codes "rect") (attribute (codes "class") (class_of paint)) (count (codes "x") at.x) (count (codes "y") at.y) (count (codes "width") width)
    (count (codes "height") height) (codes "/>") (codes "\n")) (empty _ (codes "rect") _ (codes "\n") refl (box_attributes paint at width height within) line_feed)

hint_content : (paint : Paint) (at : Point) (width height : ℕ) (words : List ℕ) → IsBoxWithin most at width height → IsContent (rect_front paint at width height ++ hint_end words)
hint_content paint at width height words within =
    subst IsContent
    (hint_form (codes "<") (codes "rect") (attribute (codes "class") (class_of paint)) (count (codes "x") at.x) (count (codes "y") at.y) (count (codes "width") width)
    (count (codes "height") height) (codes ">") (title_text words) (codes "</rect>") (codes "\n"))
    (content_append (wrapped _ (codes "rect") _ (title_text words) refl (box_attributes paint at width height within) (title_content words)) line_feed)

line_content : (paint : Paint) (from to : Point) → IsPointWithin most from → IsPointWithin most to → IsContent (line_text paint from to)
line_content paint from to from_within to_within =
    subst IsContent
    (line_form (codes "<") (codes "line") (attribute (codes "class") (class_of paint)) (count (codes "x1") from.x) (count (codes "y1") from.y) (count (codes "x2") to.x) (count (codes "y2") to.y)
    (codes "/>") (codes "\n"))
    (empty (codes "class" ∷ codes "x1" ∷ codes "y1" ∷ codes "x2" ∷ codes "y2" ∷ []) (codes "line") _ (codes "\n") refl
    (more _ (codes "class") (class_of paint) _ refl refl (class_text paint)
    (more _ (codes "x1") (decimal from.x) _ refl refl (number_text from.x from_within.x)
    (more _ (codes "y1") (decimal from.y) _ refl refl (number_text from.y from_within.y)
    (more _ (codes "x2") (decimal to.x) _ refl refl (number_text to.x to_within.x)
    (more _ (codes "y2") (decimal to.y) _ refl refl (number_text to.y to_within.y) none))))) line_feed)

along_content : (name : List ℕ) (paint : Paint) (points : List Point) → is_name name ≡ true → All (IsPointWithin most) points → IsContent (along_text name paint points)
along_content name paint points named within =
    subst IsContent
    (along_form (codes "<") name (attribute (codes "class") (class_of paint)) (attribute (codes "points") (flat_map point_text points)) (codes "/>") (codes "\n"))
    (empty (codes "class" ∷ codes "points" ∷ []) name _ (codes "\n") named
    (more _ (codes "class") (class_of paint) _ refl refl (class_text paint)
    (more _ (codes "points") (flat_map point_text points) _ refl refl (points_text points within) none)) line_feed)

words_content : (paint : Paint) (anchor : Anchor) (at : Point) (words : List ℕ) → IsPointWithin most at → IsContent (words_text paint anchor at words)
words_content paint anchor at words within =
    subst IsContent
    (words_form (codes "<") (codes "text") (attribute (codes "class") (class_of paint)) (attribute (codes "text-anchor") (anchor_word anchor)) (count (codes "x") at.x) (count (codes "y") at.y)
    (codes ">") (escaped words) (codes "</text>") (codes "\n"))
    (content_append
    (wrapped (codes "class" ∷ codes "text-anchor" ∷ codes "x" ∷ codes "y" ∷ []) (codes "text") _ (escaped words) refl
    (more _ (codes "class") (class_of paint) _ refl refl (class_text paint)
    (more _ (codes "text-anchor") (anchor_word anchor) _ refl refl (anchor_text anchor)
    (more _ (codes "x") (decimal at.x) _ refl refl (number_text at.x within.x)
    (more _ (codes "y") (decimal at.y) _ refl refl (number_text at.y within.y) none)))) (text_content (escaped words) (escaped_text words))) line_feed)

shape_content : (shape : Shape) → IsWithin most shape → IsContent (shape_text shape)
shape_content (shape.Rect paint at width height) within = rect_content paint at width height within
shape_content (shape.Line paint from to) within = line_content paint from to within.0 within.1
shape_content (shape.Trail paint points) within = along_content (codes "polyline") paint points refl within
shape_content (shape.Area paint points) within = along_content (codes "polygon") paint points refl within
shape_content (shape.Text paint anchor at words) within = words_content paint anchor at words within
shape_content (shape.Hint paint at width height words) within = hint_content paint at width height words within

shapes_content : (shapes : List Shape) → All (IsWithin most) shapes → IsContent (flat_map shape_text shapes)
shapes_content [] within = nothing
shapes_content (shape ∷ shapes) within =
    content_append (shape_content shape (All-head (IsWithin most) shape shapes within)) (shapes_content shapes (All-tail (IsWithin most) shape shapes within))

-- ---- a picture

style_content : IsContent (codes "<style>" ++ STYLE.now ++ codes "</style>")
style_content = wrapped [] (codes "style") [] STYLE.now refl none (text_content STYLE.now (plain_text STYLE.now refl))

ground_form : (o n a w h e : List ℕ) → ((o ++ n ++ (a ++ (w ++ (h ++ [])))) ++ e) ++ [] ≡ ((o ++ n ++ a) ++ (w ++ h)) ++ e
ground_form o n a w h e = simp (append_assoc, append-nil)

ground_content : (width height : ℕ) → width ≤ most → height ≤ most
    → IsContent ((codes "<rect class=\"ground\"" ++ (count (codes "width") width ++ count (codes "height") height)) ++ codes "/>")
ground_content width height w h =
    subst IsContent
    (ground_form (codes "<") (codes "rect") (attribute (codes "class") (codes "ground")) (count (codes "width") width) (count (codes "height") height) (codes "/>"))
    (empty (codes "class" ∷ codes "width" ∷ codes "height" ∷ []) (codes "rect") _ [] refl
    (more _ (codes "class") (codes "ground") _ refl refl (plain_text (codes "ground") refl)
    (more _ (codes "width") (decimal width) _ refl refl (number_text width w)
    (more _ (codes "height") (decimal height) _ refl refl (number_text height h) none))) nothing)

view_value : (width height : ℕ) → width ≤ most → height ≤ most → IsText (codes "0 0 " ++ decimal width ++ codes " " ++ decimal height)
view_value width height w h =
    text_append (text_append (text_append (plain_text (codes "0 0 ") refl) (number_text width w)) (plain_text (codes " ") refl)) (number_text height h)

picture_form : (o n s r w h v g l t a b c d e z p q : List ℕ)
    → ((((((((((((o ++ n ++ s ++ r) ++ (w ++ h)) ++ v) ++ (g ++ l)) ++ t) ++ (l ++ a)) ++ b) ++ (c ++ l ++ d)) ++ (w ++ h)) ++ (e ++ l)) ++ z) ++ (p ++ n ++ q))
    ≡ o ++ n ++ (s ++ (r ++ (w ++ (h ++ (v ++ []))))) ++ g ++ (l ++ t ++ l ++ (a ++ b ++ c) ++ l ++ (d ++ (w ++ h) ++ e) ++ l ++ z) ++ p ++ n ++ q
picture_form o n s r w h v g l t a b c d e z p q = simp (append_assoc, append-nil)

pub picture_well_formed : (picture : Picture) → IsPictureWithin most picture → IsDocument (picture_text picture)
unfolding head_text
picture_well_formed picture within =
    let width = count (codes "width") picture.width in
    let height = count (codes "height") picture.height in
    let shapes = flat_map shape_text picture.shapes in
    record {
      names = codes "xmlns" ∷ codes "role" ∷ codes "width" ∷ codes "height" ∷ codes "viewBox" ∷ [];
      name = codes "svg";
      attributes = attribute (codes "xmlns") (codes "http://www.w3.org/2000/svg") ++ (attribute (codes "role") (codes "img")
          ++ (width ++ (height ++ (view_text picture.width picture.height ++ []))));
      content = codes "\n" ++ title_text picture.title ++ codes "\n" ++ (codes "<style>" ++ STYLE.now ++ codes "</style>") ++ codes "\n"
          ++ (codes "<rect class=\"ground\"" ++ (width ++ height) ++ codes "/>") ++ codes "\n" ++ shapes;
      named = refl;
      attributed =
          more _ (codes "xmlns") (codes "http://www.w3.org/2000/svg") _ refl refl (plain_text (codes "http://www.w3.org/2000/svg") refl)
          (more _ (codes "role") (codes "img") _ refl refl (plain_text (codes "img") refl)
          (more _ (codes "width") (decimal picture.width) _ refl refl (number_text picture.width within.width_is)
          (more _ (codes "height") (decimal picture.height) _ refl refl (number_text picture.height within.height_is)
          (more _ (codes "viewBox") (codes "0 0 " ++ decimal picture.width ++ codes " " ++ decimal picture.height) _ refl refl
          (view_value picture.width picture.height within.width_is within.height_is) none))));
      contains =
          content_append
          (content_append
          (content_append
          (content_append (content_append (content_append (content_append line_feed (title_content picture.title)) line_feed) style_content) line_feed)
          (ground_content picture.width picture.height within.width_is within.height_is)) line_feed) (shapes_content picture.shapes within.shapes);
      is =
          picture_form (codes "<") (codes "svg") (attribute (codes "xmlns") (codes "http://www.w3.org/2000/svg")) (attribute (codes "role") (codes "img")) width height
          (view_text picture.width picture.height) (codes ">") (codes "\n") (title_text picture.title) (codes "<style>") STYLE.now (codes "</style>")
          (codes "<rect class=\"ground\"") (codes "/>") shapes (codes "</") (codes ">\n");
    }
