use Rattle.std.proofs.Common.{◌<◌, ◌≤◌, ◌+◌, length, sym, ◌∙◌, arith}
use Rattle.codec_nodes.proofs.Rings.{turned-none, turned-same, turned-drop, turned-keep, turned-some, turned-all}
use Rattle.codec_nodes.proofs.queue.drop_first_answer.Goals as goal
use Rattle.codec_nodes.proofs.queue.drop_first_answer.Goals.{in-Some+then-is_first_answer, in-Some+else-is_first_answer, in_default}

pub loop-turn-init : goal.loop-turn-init
loop-turn-init c = turned-none c.args.items.now

pub loop-turn-preserved : goal.loop-turn-preserved
loop-turn-preserved c =
    let all = c.args.items.now.items in
    let capacity = c.args.items.now.capacity in
    let turn = c.loop-turn._turn in
    let low : turn < length all = omega (arith, c.len-turn-end.ensures.len) in
    let fits : length all ≤ capacity = omega (arith, c.len-turn-end.ensures.len, c.len-turn-end.ensures.within.0) in
    elim c.match-pop_front.branch [
      | in-Some+then-is_first_answer w ↦
          turned-same all capacity (turn + 1) _ c.match-pop_front.items _ c.match-pop_front.dropped (turned-drop all capacity turn c.loop-turn.items c.pop_front.new.self c.loop-turn.dropped w.in-Some.item c.loop-turn.invariant low (sym c.pop_front.ensures.value ∙ w.in-Some.is) c.pop_front.ensures.items (sym w.is_first_answer.ensures ∙ w.if-is_first_answer.true)) w.items-is w.dropped-is
      | in-Some+else-is_first_answer w ↦
          turned-same all capacity (turn + 1) _ c.match-pop_front.items _ c.match-pop_front.dropped (turned-keep all capacity turn c.loop-turn.items c.pop_front.new.self w.push_back.new.self c.loop-turn.dropped w.in-Some.item c.loop-turn.invariant low fits (sym c.pop_front.ensures.value ∙ w.in-Some.is) c.pop_front.ensures.items w.push_back.ensures.items (sym w.is_first_answer.ensures ∙ w.if-is_first_answer.false)) w.items-is w.dropped-is
      | in_default w ↦
          absurd (turned-some all capacity turn c.loop-turn.items c.loop-turn.dropped c.loop-turn.invariant low (sym c.pop_front.ensures.value ∙ w.in_default.is))
    ]

pub returns : goal.returns
returns c = turned-all c.args.items.now.items c.args.items.now.capacity c.loop-turn._turn c.loop-turn.items c.loop-turn.dropped c.loop-turn.invariant (omega (arith, c.len-turn-end.ensures.len))
