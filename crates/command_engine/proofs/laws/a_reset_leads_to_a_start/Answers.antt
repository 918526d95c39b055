use Rattle.command_engine.proofs.Quiet.{reset_quiet, risen_can_start, reset_can_start, reset_can_start_stopped}
use Rattle.command_engine.proofs.laws.a_reset_leads_to_a_start.Goals as goal

pub returns : goal.returns
returns c = record {
  resets = λ corb rirb value world even blocks ascend. reset_quiet corb rirb value world even blocks ascend;
  rises = λ corb rirb value world odd quiet. risen_can_start corb rirb value world odd quiet;
  leads = λ corb rirb before later world blocks ascend first second. reset_can_start corb rirb before later world blocks ascend first second;
  leaves = reset_can_start_stopped;
}
