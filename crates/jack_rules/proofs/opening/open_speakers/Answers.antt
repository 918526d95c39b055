use Rattle.std.proofs.Common.{◌≡◌, ◌≤◌, ◌∙◌, ◌+◌, ◌++◌, ℕ, List, drop, get_or, map, sym, ap, subst, length, arith}
use Rattle.std.proofs.lemmas.List.Elements.{All-append}
use Rattle.codec_graph.specs.declared.raw.RawCodec.{RawCodec}
use Rattle.codec_graph.specs.Cycles.{IsWellFormed}
use Rattle.route_planner.specs.declared.routes.PinPlan.{PinPlan}
use Rattle.route_planner.specs.declared.routes.Plan.{Plan}
use Rattle.jack_rules.specs.declared.pins.SpeakerState.{SpeakerState}
use Rattle.jack_rules.specs.declared.pins.SpeakerPin.{SpeakerPin}
use Rattle.jack_rules.specs.JackPins.{speakers_from, speakers_among}
use Rattle.jack_rules.specs.Switching.{pin_of, speaker_opened, IsInReach, SpeakersReach}
use Rattle.jack_rules.proofs.Rows.{speakers_among_next, row_more}
use Rattle.jack_rules.proofs.Reached.{speakers_from_reach}
use Rattle.jack_rules.proofs.opening.open_speakers.Goals as goal

pub loop-place-preserved : goal.loop-place-preserved
loop-place-preserved c =
    let graphs = c.args.graphs.now in
    let plans = c.args.plans.now in
    let place = c.loop-place.place in
    let codec = c.index-graphs-place.result in
    let plan = c.index-plans-place.result in
    let few : codec.address ≤ 14 = subst (λ (codec : RawCodec). codec.address ≤ 14) (sym c.index-graphs-place.is) (c.requires.few place codec c.loop-place-test.true) in
    let well : IsWellFormed codec = c.raw-codec.ensures.well_formed in
    let pushed : c.push_speakers.new.speakers.items ≡ c.loop-place.speakers.items ++ map speaker_opened (speakers_from (map pin_of c.args.jacks.now) codec plan.pins) =
    c.in_ok-push_speakers.ensures
    ∙ ap (λ (codec : RawCodec). c.loop-place.speakers.items ++ map speaker_opened (speakers_from (map pin_of c.args.jacks.now) codec c.as_slice.result.now)) c.raw-codec.ensures.value
    ∙ ap (λ (entries : List PinPlan). c.loop-place.speakers.items ++ map speaker_opened (speakers_from (map pin_of c.args.jacks.now) codec entries)) c.as_slice.ensures
    ∙ ap (λ (plan : Plan). c.loop-place.speakers.items ++ map speaker_opened (speakers_from (map pin_of c.args.jacks.now) codec plan.pins)) (sym c.index-plans-place.is) in (
      row_more speaker_opened (speakers_from (map pin_of c.args.jacks.now) codec plan.pins) (speakers_among (map pin_of c.args.jacks.now) (drop (place + 1) graphs) (drop (place + 1) plans)) c.loop-place.speakers.items c.push_speakers.new.speakers.items pushed
          ∙ ap (λ (all : List SpeakerPin). c.loop-place.speakers.items ++ map speaker_opened all) (sym (speakers_among_next (map pin_of c.args.jacks.now) graphs plans place codec plan c.loop-place-test.true c.requires.one_each (sym c.index-graphs-place.is) (sym c.index-plans-place.is)))
          ∙ c.loop-place.invariant.0,
      subst SpeakersReach (sym pushed)
          (All-append (λ (state : SpeakerState). IsInReach state.speaker.codec state.speaker.pin) c.loop-place.speakers.items (map speaker_opened (speakers_from (map pin_of c.args.jacks.now) codec plan.pins)) c.loop-place.invariant.1 (speakers_from_reach (map pin_of c.args.jacks.now) codec plan.pins well few)),
    )
