use Rattle.std.proofs.Common.{◌≡◌, ◌∙◌, ap, Some}
use Rattle.hda_outside.specs.Counts.{Rose}
use Rattle.hda_outside.specs.MemoryShelf.{SteadyShelf, fault_count}
use Rattle.codec_graph.specs.declared.pin_kind.PinKind.TheVariants.{Analog}
use Rattle.sound_report.specs.declared.played.Played.{Played}
use Rattle.program_runs.specs.Plays.{IsCutUnder, IsPlayedFrom}
use Rattle.program_runs.specs.MadeRuns.{IsMadeRun}
use Rattle.program_runs.specs.Shelves.{made_files, sound_name}
use Rattle.program_runs.proofs.Heads.{never_fails}
use Rattle.program_runs.proofs.Machines.{whole}
use Rattle.program_runs.proofs.Routes.{routed}
use Rattle.program_runs.proofs.Sounds.{if_both, made_run}
use Rattle.program_runs.proofs.made_playing.play_made.Goals as goal

pub play-requires-clause-whole : goal.play-requires-clause-whole
play-requires-clause-whole c = whole c.args.machine c.requires.machine c.made_codec_is_well_formed.ensures c.requires.sound

pub play-requires-clause-routed : goal.play-requires-clause-routed
play-requires-clause-routed c = routed c.args.machine c.args.plans.items c.requires.machine c.requires.plans

pub returns : goal.returns
returns c =
    let shelf = c.open_made.new.shelf in
    let head = c.in_ok-head.head in
    let files_are : shelf.files ≡ made_files c.args.number = c.in_ok-head.ensures.kept ∙ ap (λ (one : SteadyShelf). one.files) c.in_ok-shelf.ensures in
    let failed = Rose (fault_count shelf.files 0 shelf.missing sound_name) (fault_count c.play.new.shelf.files 0 c.play.new.shelf.missing sound_name) in
    let emptied = Rose shelf.empties c.play.new.shelf.empties in
    if_both (IsPlayedFrom Analog (Some shelf.files) sound_name head c.args.machine c.args.plans.items c.in-Ok.geometry c.in_ok-schedule.schedule)
    (λ (played : Played). IsCutUnder sound_name head played.read failed emptied played.cut) (IsMadeRun c.args.number) c.play.result
    c.play.ensures.played c.play.ensures.cut
    (λ played from cut.
    made_run c.written_sound_is_read.ensures c.args.number c.args.machine c.args.plans.items head c.in-Ok.geometry c.in_ok-schedule.schedule shelf.files played c.requires.machine c.requires.plans
    (routed c.args.machine c.args.plans.items c.requires.machine c.requires.plans) c.in_ok-schedule.ensures.made
    (record { periods_are = c.in-Ok.ensures.periods; period_is = c.in-Ok.ensures.period; fifo_is = c.in-Ok.ensures.fifo; format_is = c.in-Ok.ensures.format })
    files_are c.in_ok-head.ensures.head from failed emptied cut
    (never_fails c.args.number shelf.files c.play.new.shelf.files shelf.missing c.play.new.shelf.missing files_are c.play.ensures.told))
