use Rattle.std.proofs.Common.{◌≡◌, ◌-◌, ◌*◌, ◌/◌, ℕ, ap, ◌∙◌, arith}
use Rattle.stream_format.specs.Cadence.{most_bytes}
use Rattle.period_writer.specs.Rings.{ring_bytes}
use Rattle.period_writer.proofs.CourseLaws.{ring_small}
use Rattle.period_writer.proofs.Shapes.{slack_bytes}
use Rattle.period_writer.proofs.geometry.Geometry.ahead.Goals as goal

pub frames_bytes-requires : goal.frames_bytes-requires
frames_bytes-requires c =
    let now = c.args.self.now in
    let few = slack_bytes (ring_bytes c.args.self.now.periods c.args.self.now.period) c.args.self.now.fifo (most_bytes c.args.self.now.format) in
    let small = ring_small c.args.self.now.periods c.args.self.now.period c.args.self.now.few_periods c.args.self.now.few in
    let is : c.slack.result * c.most_of.result ≡ (ring_bytes c.args.self.now.periods c.args.self.now.period - c.args.self.now.fifo) / most_bytes c.args.self.now.format / 4 * most_bytes c.args.self.now.format =
    ap (λ (n : ℕ). n * c.most_of.result) c.slack.ensures ∙ ap (λ (n : ℕ). (ring_bytes c.args.self.now.periods c.args.self.now.period - c.args.self.now.fifo) / most_bytes c.args.self.now.format / 4 * n) c.most_of.ensures.value in
    omega (arith, few, small, is)
