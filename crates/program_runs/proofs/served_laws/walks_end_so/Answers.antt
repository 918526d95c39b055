use Rattle.std.proofs.Common.{◌≡◌, ◌∙◌, ℕ, List, length, false, refl, sym, ap, subst}
use Rattle.std.proofs.lemmas.List.{length-map}
use Rattle.schedule_reader.specs.Counts.{items_of}
use Rattle.driver_progress.specs.Tasks.{Task, DriverLine, order_of}
use Rattle.driver_progress.specs.Progress.{state_of}
use Rattle.laws_start.specs.Tasks.{commands_of}
use Rattle.codec_graph.specs.declared.pin_kind.PinKind.TheVariants.{Analog}
use Rattle.program_runs.specs.Histories.{command_total, journal_of, telling_of_run}
use Rattle.program_runs.specs.Walks.{walk_format, walked_task}
use Rattle.laws_serving.specs.ServingSchedules.{ServesCommands}
use Rattle.laws_serving.specs.Coming.{HasComeTo}
use Rattle.laws_serving.specs.Runs.{IsTaskTo, calls_of}
use Rattle.program_runs.specs.Served.{machine_addresses, all_rounds, line_count}
use Rattle.program_runs.proofs.Orders.{orders_go}
use Rattle.program_runs.proofs.Blocks.{lie_well}
use Rattle.program_runs.proofs.Starts.{starts, run_of, calls_are}
use Rattle.program_runs.proofs.Ends.{walk_ends}
use Rattle.program_runs.proofs.served_laws.walks_end_so.Goals as goal

pub returns : goal.returns
returns c = λ machine plans schedule played sound whole have limited serves walked.
    let task : Task = walked_task machine plans walked.geometry walked.blocks in
    let codecs = machine_addresses machine in
    let items = items_of schedule in
    let telling = telling_of_run machine played in
    let well = lie_well walked.geometry walked.blocks walked.first_fits in
    let to : IsTaskTo codecs task = record { orders = orders_go Analog walk_format machine.codecs plans have whole.well_formed sound.each; corb_block = well.corb; rirb_block = well.rirb } in
    let count : length task.orders ≡ command_total Analog walk_format machine plans = length-map (commands_of walk_format machine.codecs plans) order_of in
    let run = run_of machine schedule task (journal_of played) limited walked.run.history walked.run.progress.progress walked.run.progress.finds in
    let come = c.served_drivers_come_up.ensures task codecs items telling refl to (starts machine task sound well) run
    (subst (λ (commands : ℕ). ServesCommands codecs commands (all_rounds schedule)) (sym count) serves) in
    let state : state_of task (calls_of items) telling ≡ walked.run.state = ap (λ (lines : List DriverLine). state_of task lines telling) (calls_are items) ∙ walked.run.progress.state_is in
    walk_ends (command_total Analog walk_format machine plans) (line_count schedule) played.commands walked.run.state played.fault
    (subst (λ (commands : ℕ). HasComeTo commands (line_count schedule) false walked.run.state) count (subst (HasComeTo (length task.orders) (line_count schedule) false) state come)) walked.run.commands walked.run.fault
