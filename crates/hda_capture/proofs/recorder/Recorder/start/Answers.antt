use Rattle.std.proofs.Common.{◌≡◌, ◌∙◌, ap, subst}
use Rattle.hda_world.specs.Tellings.{Between, Makes}
use Rattle.hda_world.proofs.Callers.{row_one, row_more, row_both}
use Rattle.hda_capture.specs.Starting.{set_accesses}
use Rattle.hda_capture.specs.Recordings.{facts_of, tally_after}
use Rattle.hda_capture.specs.Recorders.{RecorderState, tally_of, measures_of}
use Rattle.hda_capture.proofs.recorder.Recorder.start.Goals as goal

pub returns-clause-starts : goal.returns-clause-starts
returns-clause-starts g c =
    let reset = c.reset_stream.ensures.made in
    let same = c.write_entries.ensures.same in
    let run = subst (λ (recorder : RecorderState). Between (Makes (set_accesses recorder.list.address recorder.geometry)) (g.P.Platform.told c.write_entries.new.platform) (g.P.Platform.told c.set_going.new.platform)) same c.set_going.ensures.made in
    record {
      from = c.read-from.result;
      in_reset = reset.in_reset;
      ready = reset.ready;
      to = c.read-to.result;
      made = row_more c.read-from.ensures.told (row_both reset.made (row_both c.write_entries.ensures.made (row_both run (row_one c.read-to.ensures.told))));
      tally_is = subst (λ (recorder : RecorderState). tally_of c.note_start.new.self ≡ tally_after (measures_of recorder) (tally_of recorder) (facts_of c.read-from.result 0 c.read-to.result)) same c.note_start.ensures.tally;
      bytes_is = c.note_start.ensures.bytes ∙ ap (λ (recorder : RecorderState). recorder.bytes) same;
    }
