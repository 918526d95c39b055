use Rattle.std.proofs.Common.{inl, inr, Ok, ap, refl, rules}
use Rattle.program_captures.specs.Inputs.{IsInputOf}
use Rattle.hda_program.proofs.capture.capture_ring.Goals as goal

pub inputs_of-requires : goal.inputs_of-requires
inputs_of-requires c = rw c.as_slice.ensures c.requires.sound.ascending

pub capture-requires-clause-whole : goal.capture-requires-clause-whole
capture-requires-clause-whole c = c.read_machines_are_whole.ensures c.args.machine c.requires.sound c.requires.read

-- some codec has an input
pub returns-in_ok-captured-in-Some : goal.returns-in_ok-captured-in-Some
returns-in_ok-captured-in-Some c =
    let planned : IsInputOf c.args.given.format c.args.machine.codecs c.in-Some.address c.in-Some.plans.items = search rules in
    inr (
      c.in_ok-captured-in-Some.captured,
      record { address = c.in-Some.address; plans = c.in-Some.plans.items; planned = planned; run = c.in_ok-captured-in-Some.ensures },
      refl,
    )

-- none has
pub returns-in_ok-no_input-in-None : goal.returns-in_ok-no_input-in-None
returns-in_ok-no_input-in-None c =
    let none = rw c.as_slice.ensures at c.in_ok-address.ensures.none (ap Ok c.in-None.is) in inl (none, c.in_ok-no_input-in-None.ensures)
