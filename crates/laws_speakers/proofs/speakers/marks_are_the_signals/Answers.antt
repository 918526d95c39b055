use Rattle.laws_speakers.proofs.MarkedFrames.{pair_along, others_along}
use Rattle.laws_speakers.proofs.speakers.marks_are_the_signals.Goals as goal

pub returns-clause-pair : goal.returns-clause-pair
returns-clause-pair c = λ is_speaker kind start from world first tag word block layout pin pair is by switching streams known at well of heard.
    pair_along is_speaker kind start from world tag word block layout known is by switching streams first pin pair at well of heard

pub returns-clause-others : goal.returns-clause-others
returns-clause-others c = λ is_speaker kind start from world tag word block layout address pin signal is by switching streams known none heard.
    others_along is_speaker kind start from world tag word block layout known is by switching streams address pin signal none heard
