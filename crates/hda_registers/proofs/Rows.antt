-- Rows of accesses that the definitions compute.
use Rattle.std.proofs.Common.{◌≡◌, refl, true, false}
use Rattle.hda_registers.specs.declared.shapes.Width.TheVariants.{One, Two, Four}
use Rattle.hda_registers.specs.declared.shapes.RingSize.TheVariants as sizes
use Rattle.hda_registers.specs.declared.shapes.Raise.TheVariants.{Codec, Response}
use Rattle.hda_registers.specs.declared.shapes.Shape.{Shape}
use Rattle.hda_registers.specs.Fields.{Fields, opening}
use Rattle.hda_registers.specs.Access.{value_at, shown_at, placed, written, global_shown, stream_shown, global_groups_in, stream_groups_in, global_written, stream_written}
use Rattle.hda_registers.specs.Status.{interrupt_line_of}
use Rattle.hda_registers.specs.Moves.{raised}

abbrev shape : Shape
shape = record { fifo = 192; corb = sizes.Full; rirb = sizes.Sixteen; codecs = 5 }

abbrev out : Fields
out = written (opening shape) 0x08 Four 1

abbrev asked : Fields
asked = raised (raised out (Codec 0)) (Codec 2)

status : value_at asked 0x0E Two ≡ 5
unfolding written placed value_at shown_at global_shown stream_shown global_groups_in stream_groups_in global_written stream_written
status = refl

cleared : value_at (written asked 0x0E Two 4) 0x0E Two ≡ 1
unfolding written placed value_at shown_at global_shown stream_shown global_groups_in stream_groups_in global_written stream_written
cleared = refl

kept : value_at (written (written (written asked 0x0E Two 4) 0x08 Four 0) 0x08 Four 1) 0x0E Two ≡ 1
unfolding written placed value_at shown_at global_shown stream_shown global_groups_in stream_groups_in global_written stream_written
kept = refl

abbrev answered : Fields
answered = raised (written (written out 0x20 Four 0xC0000000) 0x5C One 1) Response

asks : value_at answered 0x24 Four ≡ 0xC0000000
unfolding written placed value_at shown_at global_shown stream_shown global_groups_in stream_groups_in global_written stream_written
asks = refl

high : interrupt_line_of answered ≡ true
unfolding written placed value_at shown_at global_shown stream_shown global_groups_in stream_groups_in global_written stream_written
high = refl

stays : written answered 0x5D One 0 ≡ answered
unfolding written placed value_at shown_at global_shown stream_shown global_groups_in stream_groups_in global_written stream_written
stays = refl

low : interrupt_line_of (written answered 0x5D One 1) ≡ false
unfolding written placed value_at shown_at global_shown stream_shown global_groups_in stream_groups_in global_written stream_written
low = refl

quiet : value_at (written answered 0x5D One 1) 0x24 Four ≡ 0
unfolding written placed value_at shown_at global_shown stream_shown global_groups_in stream_groups_in global_written stream_written
quiet = refl

in_reset : value_at (written (opening shape) 0x20 Four 0xFFFFFFFF) 0x20 Four ≡ 0
unfolding written placed value_at shown_at global_shown stream_shown global_groups_in stream_groups_in global_written stream_written
in_reset = refl

named : value_at (written out 0x20 Four 0xFFFFFFFF) 0x20 Four ≡ 0xC0000003
unfolding written placed value_at shown_at global_shown stream_shown global_groups_in stream_groups_in global_written stream_written
named = refl

-- a variable in the fields, and the word of several registers
stream_ctl : value_at (written out 0xA0 Four 0xFFFFFFFE) 0xA0 Four ≡ 0x00F0001E
unfolding written placed value_at shown_at global_shown stream_shown global_groups_in stream_groups_in global_written stream_written
stream_ctl = refl

corb_word : value_at out 0x4C Four ≡ 0x00420000
unfolding written placed value_at shown_at global_shown stream_shown global_groups_in stream_groups_in global_written stream_written
corb_word = refl

fifo : value_at out 0x90 Two ≡ 192
unfolding written placed value_at shown_at global_shown stream_shown global_groups_in stream_groups_in global_written stream_written
fifo = refl

size : value_at out 0x5E One ≡ 0x21
unfolding written placed value_at shown_at global_shown stream_shown global_groups_in stream_groups_in global_written stream_written
size = refl

head : value_at out 0x00 Four ≡ 0x01001100
unfolding written placed value_at shown_at global_shown stream_shown global_groups_in stream_groups_in global_written stream_written
head = refl

half : value_at (written (written out 0x40 Four 0xFFFFFFFF) 0x41 One 0) 0x40 Four ≡ 0xFFFF0080
unfolding written placed value_at shown_at global_shown stream_shown global_groups_in stream_groups_in global_written stream_written
half = refl
