-- That routes stay open: all codecs are set up at every moment from the answer to the last command on.
use Rattle.std.proofs.Common.{List, subst}
use Rattle.std.specs.Prelude.{[], ◌∷◌, ◌++◌}
use Rattle.codec_graph.specs.declared.raw.RawCodec.{RawCodec}
use Rattle.stream_format.specs.declared.format.Format.{Format}
use Rattle.codec_graph.specs.declared.pin_kind.PinKind.{PinKind}
use Rattle.schedule_reader.specs.declared.schedule.Schedule.{Schedule}
use Rattle.hda_files.specs.declared.machine.Machine.{Machine}
use Rattle.hda_world.specs.Worlds.{World}
use Rattle.hda_world.specs.Events.{Event, happens, after}
use Rattle.hda_world.specs.Tellings.{Telling}
use Rattle.driver_progress.specs.Progress.{Trail, trail_after, trail_opened, noted}
use Rattle.driver_progress.specs.Tasks.{Task}
use Rattle.route_setup.specs.Means.{Means}
use Rattle.digital_out.specs.Means.{outputs}
use Rattle.laws_bring_up.specs.SettingUp.{Always, IsThere, SetUpAt, StaysSetUp}
use Rattle.heard_lists.specs.Listings.{graphs_in}
use Rattle.laws_start.specs.Tasks.{stream_tag}
use Rattle.program_runs.specs.Lines.{lines_of}
use Rattle.program_runs.specs.Histories.{IsOpenFor, StaysOpen}

-- what holds always holds at each moment
at_moment : (Holds : World → Trail → Type 0) (task : Task) (before later : List Event) (world : World) (trail : Trail) → Always Holds task (before ++ later) world trail
    → Holds (after before world) (trail_after task before world trail)
at_moment Holds task [] [] world trail always = always
at_moment Holds task [] (event ∷ later) world trail always = always.0
at_moment Holds task (event ∷ before) later world trail always = at_moment Holds task before later (happens world event) (noted task trail world event) always.1

-- a codec whose output pins of the kind are set up
open_there : (kind : PinKind) (format : Format) (world : World) (graph : RawCodec) → IsThere (outputs kind format stream_tag) graph world.codecs → IsOpenFor kind format world graph
open_there kind format world graph there = record { now = there.now; found = there.found; graph_is = there.graph_is; set_up = there.opened }

pub stays_open : (kind : PinKind) (format : Format) (machine : Machine) (schedule : Schedule) (task : Task) (telling : Telling) → StaysSetUp (outputs kind format stream_tag) (graphs_in machine.codecs) task (lines_of schedule) telling
    → StaysOpen kind format machine schedule task telling
stays_open kind format machine schedule task telling always = λ before later split answered graph among.
    let means : Means = outputs kind format stream_tag in
    let opened : Trail = trail_opened (lines_of schedule) in
    open_there kind format (after before telling.start) graph
    (at_moment (SetUpAt means (graphs_in machine.codecs) task) task before later telling.start opened
    (subst (λ (journal : List Event). Always (SetUpAt means (graphs_in machine.codecs) task) task journal telling.start opened) split always) answered graph among)
