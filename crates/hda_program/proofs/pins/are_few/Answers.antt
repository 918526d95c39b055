use Rattle.std.proofs.Common.{◌≡◌, ◌∙◌, ℕ, List, get_or, take, sym, ap, arith}
use Rattle.std.proofs.lemmas.Bool.{le-leb, lt-leb}
use Rattle.std.proofs.lemmas.List.{take_all}
use Rattle.std.proofs.lemmas.List.Sums.{sum_by_more, sum_by_more_le}
use Rattle.hda_files.specs.declared.machine.CodecFile.{CodecFile}
use Rattle.hda_program.specs.Pins.{most_pins, pins_among, pins_in}
use Rattle.hda_program.proofs.pins.are_few.Goals as goal

-- those of the codec are more than are left
pub returns-then-pins-left : goal.returns-then-pins-left
returns-then-pins-left c =
    let count : CodecFile → ℕ = λ file. pins_in c.args.kind file.graph in
    let codec = c.codec-item.result in
    let within = sum_by_more_le count c.args.codecs.now c.loop-codec.codec-index codec (omega arith) in
    let same : count (get_or c.args.codecs.now c.loop-codec.codec-index codec) ≡ c.in_ok-pins.pins = ap count (sym c.codec-item.is) ∙ sym c.in_ok-pins.ensures in
    sym (lt-leb (pins_among c.args.kind c.args.codecs.now) most_pins (omega (arith, within, same, c.loop-codec.invariant, c.if-pins-left.true)))

pub loop-codec-preserved : goal.loop-codec-preserved
loop-codec-preserved c =
    let count : CodecFile → ℕ = λ file. pins_in c.args.kind file.graph in
    let codec = c.codec-item.result in
    let more = sum_by_more count c.args.codecs.now c.loop-codec.codec-index codec (omega arith) in
    let same : count (get_or c.args.codecs.now c.loop-codec.codec-index codec) ≡ c.in_ok-pins.pins = ap count (sym c.codec-item.is) ∙ sym c.in_ok-pins.ensures in
    omega (arith, more, same, c.loop-codec.invariant, c.if-pins-left.false)

pub returns : goal.returns
returns c =
    let all : pins_among c.args.kind (take c.loop-codec.codec-index c.args.codecs.now) ≡ pins_among c.args.kind c.args.codecs.now = ap (λ (files : List CodecFile). pins_among c.args.kind files) (take_all c.loop-codec.codec-index c.args.codecs.now c.loop-codec-test.false) in
    sym (le-leb (pins_among c.args.kind c.args.codecs.now) most_pins (omega (arith, all, c.loop-codec.invariant)))
