use Rattle.laws_capture.proofs.InputsHeard.{AloneLaws, inputs_heard}
use Rattle.laws_capture.proofs.laws.open_inputs_are_heard.Goals as goal

pub returns : goal.returns
returns c =
    let laws : AloneLaws = record {
      one = c.an_open_input_takes_alone.ensures.one;
      none = c.an_open_input_takes_alone.ensures.none;
    } in
    λ address nid format files plans well ascend have records. inputs_heard laws address format nid files plans well ascend have records
