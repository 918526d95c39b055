use Rattle.laws_hearing.proofs.Steadying.{steps_steady}
use Rattle.laws_hearing.proofs.laws.steps_keep_it_steady.Goals as goal

pub returns : goal.returns
returns c = λ codecs tag word layout from steps world known steady. steps_steady codecs tag word layout from known steps world steady
