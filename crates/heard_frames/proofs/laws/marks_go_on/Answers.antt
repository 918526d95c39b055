use Rattle.heard_frames.proofs.Marks.{marks-frames, marks-append}
use Rattle.heard_frames.proofs.laws.marks_go_on.Goals as goal

pub returns : goal.returns
returns c = record {
  commands = λ kind address pin before later frames added within. marks-append kind address pin frames added before later within;
  frames = λ kind address pin commands frames added within. marks-frames kind address pin frames added commands within;
}
