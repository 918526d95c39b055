use Rattle.sound_report.specs.PlanLines.{nid_text}
use Rattle.trace_lines.proofs.words.push_byte.Goals as goal

-- two digits of a byte are those of a list of one
pub returns : goal.returns
unfolding nid_text
returns c = c.push_hex.ensures
