use Rattle.std.proofs.Common.{◌≡◌, ◌*◌, ℕ, false, List, [], length, refl, sym, ap, subst, ◌∙◌, arith, true}
use Rattle.stream_format.specs.declared.format.Format.{Format}
use Rattle.stream_format.specs.Cadence.{block_bytes}
use Rattle.route_planner.specs.declared.routes.Plan.{Plan}
use Rattle.hda_files.specs.declared.machine.CodecFile.{CodecFile}
use Rattle.hda_files.specs.declared.machine.Machine.{Machine}
use Rattle.hda_world.specs.declared.world.TheConstants.{REGION_BYTES}
use Rattle.audio_driver.specs.Opening.{IsOpened}
use Rattle.driver_agenda.specs.Planned.{have_route}
use Rattle.laws_capture.specs.Listening.{RecordsPin}
use Rattle.laws_start.specs.Tasks.{HavePlansBy, blocks_of}
use Rattle.rig.specs.declared.setting.Setting.{Setting}
use Rattle.rig.specs.Rigs.{telling_of, setting_of}
use Rattle.rig.specs.Replays.{telling_given}
use Rattle.program_runs.proofs.Callers.{some_same, few_lines, if_ok}
use Rattle.program_captures.specs.declared.terms.CaptureTerms.{CaptureTerms}
use Rattle.program_captures.specs.Inputs.{capture_means, capture_total}
use Rattle.program_captures.specs.Captures.{captured_task}
use Rattle.program_captures.specs.Capturing.{IsComingFor, means_of, total_of}
use Rattle.program_captures.proofs.Planned.{PlansOne, input_planned}
use Rattle.program_captures.proofs.Known.{IsReady, known, finished}
use Rattle.program_captures.proofs.capturing.capture.Goals.{In_ok-driven}
use Rattle.program_captures.proofs.capturing.capture.Goals as goal

pub invariant_of-terms-clause-few : goal.invariant_of-terms-clause-few
invariant_of-terms-clause-few c =
    let lines = few_lines c.args.schedule.now in
    omega (arith, c.line_count.ensures, lines, c.requires.limits.steps)

pub invariant_of-terms-clause-short : goal.invariant_of-terms-clause-short
invariant_of-terms-clause-short c =
    let same : c.args.wav.frames * block_bytes c.args.geometry.format ≡ length c.args.wav.pcm = ap (λ (format : Format). c.args.wav.frames * block_bytes format) c.requires.format ∙ sym c.requires.pcm in
    omega (arith, same, c.requires.short)

-- it can begin
ready : (c : In_ok-driven) (terms : CaptureTerms) (nid : ℕ) → IsComingFor terms c.in_ok-driver.driver → IsOpened terms.geometry terms.runs c.in_ok-driver.driver.bring_up c.in_ok-driver.driver.writer → terms.geometry.fifo ≡ c.args.machine.fifo
    → HavePlansBy (means_of terms) c.args.machine.codecs c.args.plans.items → RecordsPin terms.input.codec c.args.machine.codecs c.args.plans.items nid → have_route c.args.plans.items ≡ true → IsReady terms c.args.machine c.args.plans.items c.in_ok-driver.driver
ready c terms nid coming opened fifo planned records routed =
    let driver = c.in_ok-driver.driver in
    let machine = c.args.machine in
    let plans = c.args.plans.items in record {
      keeps = λ verbs graphs task nid is. c.drivers_that_capture_keep_to_progress.ensures terms.input terms.geometry.format verbs graphs task (total_of terms) nid is.of_codecs is.silent is.hears;
      whole = c.whole_records_can_be_written.ensures;
      stays = c.the_given_sound_stays.ensures;
      opened = opened;
      coming = coming;
      apart = c.in_ok-driver.ensures.apart;
      fifo = fifo;
      first = captured_task terms.input.codec machine plans terms.geometry (blocks_of driver.bring_up driver.writer);
      begins = c.opened_drivers_can_begin.ensures terms.input terms.geometry.format machine plans terms.geometry false [] terms.runs driver.bring_up driver.writer c.requires.sound c.requires.whole opened;
      rests = c.machines_rest.ensures machine;
      of_codecs = λ blocks. c.machines_have_tasks.ensures terms.input terms.geometry.format machine plans terms.geometry false [] blocks c.requires.sound c.requires.whole planned routed;
      nid = nid;
      hears = λ ascend. c.open_inputs_are_heard.ensures terms.input.codec nid terms.geometry.format machine.codecs plans c.requires.whole.well_formed ascend planned records;
    }

-- with these plans
planned : (c : In_ok-driven) → HavePlansBy (capture_means c.args.address c.args.geometry.format) c.args.machine.codecs c.args.plans.items
planned c = subst (λ (format : Format). HavePlansBy (capture_means c.args.address format) c.args.machine.codecs c.args.plans.items) (sym c.requires.format) c.requires.input.planned

one_input : (c : In_ok-driven) → PlansOne c.args.wav.format c.args.address c.args.machine.codecs c.args.plans.items
one_input c = input_planned c.args.wav.format c.args.address c.args.machine.codecs c.args.plans.items c.requires.input

-- the rig was given the sound
at : (c : In_ok-driven) → telling_of c.give.new.self ≡ telling_given REGION_BYTES c.args.machine c.args.wav.pcm []
at c =
    some_same c.give.ensures.told ∙ ap (λ (machine : Machine). telling_given REGION_BYTES machine c.into_vec.result.items []) c.in_ok-rig.ensures.machine
    ∙ ap (λ (sound : List ℕ). telling_given REGION_BYTES c.args.machine sound []) c.into_vec.ensures

there : (c : In_ok-driven) → (setting_of c.drive.new.rig).machine ≡ c.args.machine
there c = c.in_ok-driven.ensures.machine ∙ ap (λ (s : Setting). s.machine) c.give.ensures.setting ∙ c.in_ok-rig.ensures.machine

commands : (c : In_ok-driven) → c.in_ok-commands.commands ≡ capture_total c.args.address c.args.wav.format c.args.machine.codecs c.args.plans.items
commands c =
    c.in_ok-commands.ensures ∙ ap (λ (codecs : List CodecFile). capture_total c.args.address c.args.wav.format codecs c.as_slice-2.result.now) c.as_slice.ensures
    ∙ ap (λ (plans : List Plan). capture_total c.args.address c.args.wav.format c.args.machine.codecs plans) c.as_slice-2.ensures.value

pub kept-requires-clause-can_end : goal.kept-requires-clause-can_end
kept-requires-clause-can_end c =
    (known _ c.args.machine c.args.plans.items c.args.wav c.args.schedule.now c.in_ok-driver.driver c.in_ok-driven.driven c.give.new.self c.drive.new.rig c.in_ok-driven.ensures
    (ready c _ (one_input c).nid c.in_ok-driver.ensures.coming c.in_ok-driver.ensures.opened c.requires.fifo (planned c) (one_input c).records (one_input c).routed) c.requires.limits (at c)).ends

pub kept-requires-clause-can : goal.kept-requires-clause-can
kept-requires-clause-can c =
    (known _ c.args.machine c.args.plans.items c.args.wav c.args.schedule.now c.in_ok-driver.driver c.in_ok-driven.driven c.give.new.self c.drive.new.rig c.in_ok-driven.ensures
    (ready c _ (one_input c).nid c.in_ok-driver.ensures.coming c.in_ok-driver.ensures.opened c.requires.fifo (planned c) (one_input c).records (one_input c).routed) c.requires.limits (at c)).can

pub returns : goal.returns
returns c =
    let b : In_ok-driven = c.before in
    if_ok c.kept.result (λ captured is. finished _ c.args.machine c.args.plans.items c.args.wav c.args.schedule.now c.in_ok-driver.driver c.in_ok-driven.driven c.give.new.self c.drive.new.rig c.in_ok-driven.ensures
    (ready b _ (one_input b).nid c.in_ok-driver.ensures.coming c.in_ok-driver.ensures.opened c.requires.fifo (planned b) (one_input b).records (one_input b).routed) c.requires.limits (at b) c.in_ok-commands.commands captured
    c.requires.sound c.requires.format refl (there b) (commands b) is) c.kept.ensures
