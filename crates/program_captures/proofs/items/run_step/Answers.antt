use Rattle.program_captures.specs.Capturing.{total_of}
use Rattle.program_captures.proofs.Going.{KeepsFor, step_ran}
use Rattle.program_captures.proofs.items.run_step.Goals as goal

pub returns-in-Ok : goal.returns-in-Ok
returns-in-Ok c =
    let terms = c.args.terms in
    let keeps : KeepsFor terms = λ verbs graphs task nid is. c.drivers_that_capture_keep_to_progress.ensures terms.input terms.geometry.format verbs graphs task (total_of terms) nid is.of_codecs is.silent is.hears in
    step_ran terms keeps c.args.step.now c.args.capturer c.args.rig.now c.step.new.self (c.pieces_follow.ensures.step c.args.step.now) c.in-Ok.ensures.went c.requires.between c.in-Ok.ensures.setting c.requires.is
