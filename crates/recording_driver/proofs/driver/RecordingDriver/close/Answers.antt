use Rattle.std.proofs.Common.{refl}
use Rattle.hda_capture.proofs.Callers.{recorder_owns_on}
use Rattle.recording_driver.specs.Inside.{state_inside}
use Rattle.recording_driver.specs.RecordingDrivers.{RecordingState}
use Rattle.recording_driver.proofs.Ended.{ends_record}
use Rattle.recording_driver.proofs.driver.RecordingDriver.close.Goals as goal

pub give_back-bytes-requires-clause-ring : goal.give_back-bytes-requires-clause-ring
give_back-bytes-requires-clause-ring g c =
    recorder_owns_on c.self.inside.pool.taken c.self.inside.recorder c.end_record.new.recorder c.end_record.ensures.keeps c.self.invariant.owns_ring

pub returns-clause-closes : goal.returns-clause-closes
returns-clause-closes g c = rw (← c.self.view_is)
    (let inside = c.self.inside in
    let now = c.end_record.ensures in
    let ended : RecordingState = record {
      engine = c.end_record.new.engine;
      recorder = c.end_record.new.recorder;
      pool = inside.pool;
      graphs = inside.graphs.items;
      plans = inside.plans.items;
      sent = inside.sent;
      runs = inside.runs;
      calls = inside.calls;
    } in record {
      ended = ended;
      ends = ends_record (state_inside inside) ended (g.P.Platform.told c.args.platform.now) (g.P.Platform.told c.end_record.new.platform) (g.P.Platform.told c.shut.new.platform) c.self.invariant.idle now.ends c.shut.ensures.made
          (record {
            corb = now.corb;
            rirb = now.rirb;
            geometry = now.keeps.geometry;
            list = now.keeps.list;
            periods = now.keeps.periods;
            total = now.keeps.total;
            pool = refl;
            graphs = refl;
            plans = refl;
            sent = refl;
            runs = refl;
          });
      recorder = c.phase_of-phase.ensures.recorder;
      phase = c.phase_of-phase.ensures.value;
      sent = refl;
      graphs = refl;
      plans = refl;
      runs = c.give_back-bytes.ensures.runs;
      bytes = c.give_back-bytes.ensures.bytes;
    })
