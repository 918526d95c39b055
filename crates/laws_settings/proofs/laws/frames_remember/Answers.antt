use Rattle.laws_settings.proofs.FrameRemembering.{remembers_its_frames, steps_remember_frames, events_remember_frames}
use Rattle.laws_settings.proofs.laws.frames_remember.Goals as goal

pub returns-clause-begins : goal.returns-clause-begins
returns-clause-begins c = remembers_its_frames

pub returns-clause-steps : goal.returns-clause-steps
returns-clause-steps c = steps_remember_frames

pub returns-clause-events : goal.returns-clause-events
returns-clause-events c = events_remember_frames
