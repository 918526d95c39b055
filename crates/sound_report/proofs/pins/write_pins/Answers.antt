use Rattle.std.proofs.Common.{[], rules, refl, arith}
use Rattle.heard_lists.specs.declared.pin_list.PinHeard.{PinHeard}
use Rattle.sound_report.specs.PinParts.{pin_part}
use Rattle.sound_report.proofs.PageLemmas.{line_more, lines_left, no_sink}
use Rattle.sound_report.proofs.pins.write_pins.Goals as goal

-- any pin
abbrev some : PinHeard
some = record { codec = 0; pin = 0; list = [] }

pub returns-in_err-write_pin_at-clause-text : goal.returns-in_err-write_pin_at-clause-text
returns-in_err-write_pin_at-clause-text g c =
    no_sink c.from_residual.result _ c.loop-place.page.items _ _ _ c.from_residual.ensures.0 c.loop-place.invariant.text
    (lines_left (pin_part c.args.bits) c.args.pins.now c.loop-place.place some (let test = c.loop-place-test.true in omega (arith, test))) refl
    (c.in_err-write_pin_at.ensures.text some)

pub loop-place-preserved : goal.loop-place-preserved
loop-place-preserved g c =
    record {
      text =
          line_more c.loop-place.page.items _ _ _ c.loop-place.invariant.text
          (lines_left (pin_part c.args.bits) c.args.pins.now c.loop-place.place some (let test = c.loop-place-test.true in omega (arith, test))) refl
          (c.in_ok-write_pin_at.ensures.text some);
      pieces = search rules;
      later = search rules;
    }
