-- The picture of codecs, one below the other. This project's own.
use Rattle.std.specs.Prelude.{ℕ, ◌+◌, List, [], ◌++◌, length, take, codes, Option, Some, None, slice_get, sum_by}
use Rattle.hda_files.specs.declared.machine.CodecFile.{CodecFile}
use Rattle.route_planner.specs.declared.routes.PinPlan.{PinPlan}
use Rattle.route_planner.specs.declared.routes.Plan.{Plan}
use Rattle.svg_text.specs.declared.shapes.Anchor.TheVariants as anchor
use Rattle.svg_text.specs.declared.shapes.Paint.TheVariants as paint
use Rattle.svg_text.specs.declared.shapes.Picture.{Picture}
use Rattle.svg_text.specs.declared.shapes.Shape.{Shape}
use Rattle.codec_picture.specs.declared.columns.TheConstants.{WIDTH, MARGIN, FOOT}
use Rattle.codec_picture.specs.declared.whole.TheConstants.{FIRST_TOP}
use Rattle.codec_picture.specs.Codecs.{codec_shapes, words_at}
use Rattle.codec_picture.specs.Columns.{height_of}
use Rattle.codec_picture.specs.Repeats.{numbered}

-- how far down the part of the codec at a place begins: below those before it
abbrev pub top_of : List CodecFile → (place : ℕ) → ℕ
top_of codecs place = FIRST_TOP + sum_by (λ (file : CodecFile). height_of file.graph) (take place codecs)

-- the pins of a plan, where there is one
abbrev pub pins_in : Option Plan → List PinPlan
pins_in None = []
pins_in (Some plan) = plan.pins

-- the part of the codec at a place, with the pins of the plan at this place
abbrev pub part_at : List CodecFile → List Plan → (place : ℕ) → CodecFile → List Shape
part_at codecs plans place file =
    codec_shapes file.graph (top_of codecs place) (pins_in (slice_get plans place))

abbrev pub codecs_shapes : List CodecFile → List Plan → List Shape
codecs_shapes codecs plans = numbered (part_at codecs plans) 0 codecs

abbrev pub caption : List Shape
caption =
    words_at paint.Faint anchor.Start (record { x = MARGIN; y = 28 })
    (codes "Each route has a colour. Grey lines are connections.")

abbrev pub codec_picture : List CodecFile → List Plan → Picture
codec_picture codecs plans = record {
  width = WIDTH;
  height = top_of codecs (length codecs) + FOOT;
  title = codes "Widgets and routes";
  shapes = caption ++ codecs_shapes codecs plans;
}
