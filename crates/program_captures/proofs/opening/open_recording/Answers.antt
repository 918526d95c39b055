use Rattle.std.proofs.Common.{ap, ◌∙◌, Err}
use Rattle.program_captures.specs.Capturing.{total_of}
use Rattle.program_captures.proofs.Opened.{room_is, fits_again}
use Rattle.program_captures.proofs.opening.open_recording.Goals as goal

pub unreachable-requires : goal.unreachable-requires
unreachable-requires c =
    room_is c.args.terms.geometry c.args.parts c.requires.geometry c.requires.fits c.recorders_have_room.ensures.room (c.open.ensures.no_run (c.in-Err-NoRun.is ∙ ap Err c.in-Err-NoRun.field-0-is))

pub returns-in-Ok-clause-first_fits : goal.returns-in-Ok-clause-first_fits
returns-in-Ok-clause-first_fits c =
    fits_again c.args.terms.geometry c.args.parts c.requires.geometry c.requires.fits c.recorders_have_room.ensures.first_fits c.args.terms.runs (total_of c.args.terms) c.in-Ok.driver c.in-Ok.ensures.opens
