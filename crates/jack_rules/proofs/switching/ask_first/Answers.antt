use Rattle.std.proofs.Common.{◌≡◌, ◌<◌, ◌∙◌, ℕ, true, false, length, get_or, set, Option, None, Some, sym, ap, subst, arith}
use Rattle.std.specs.Option.{option_map}
use Rattle.jack_rules.specs.declared.pins.JackPin.{JackPin}
use Rattle.jack_rules.specs.declared.pins.JackState.{JackState}
use Rattle.jack_rules.specs.Switching.{is_to_ask, asked_now, ask_first}
use Rattle.jack_rules.proofs.Firsts.{first_none, first_some}
use Rattle.jack_rules.proofs.switching.ask_first.Goals as goal

none : JackState
none = record { jack = record { codec = 0; pin = 0; tag = 0; association = 0 }; to_ask = false; present = false }

pub returns-then-state-clause-jack : goal.returns-then-state-clause-jack
unfolding none
returns-then-state-clause-jack c =
    let jacks = c.args.jacks.now in
    let same = c.loop-state.invariant.0 in
    let within : c.loop-state.state-index < length jacks = omega (arith, c.loop-state-test.true) in
    let here : is_to_ask (get_or jacks c.loop-state.state-index none) ≡ true = ap (λ jacks. is_to_ask (get_or jacks c.loop-state.state-index none)) (sym same) ∙ c.if-state.true in
    let first = first_some is_to_ask asked_now jacks c.loop-state.state-index none within c.loop-state.invariant.1 here in
    ap (λ jacks. Some (get_or jacks c.loop-state.state-index none).jack) same
    ∙ sym (ap (λ (found : Option JackState). option_map (λ (state : JackState). state.jack) found) first.0)

pub returns-then-state-clause-jacks : goal.returns-then-state-clause-jacks
unfolding none
returns-then-state-clause-jacks c =
    let jacks = c.args.jacks.now in
    let same = c.loop-state.invariant.0 in
    let within : c.loop-state.state-index < length jacks = omega (arith, c.loop-state-test.true) in
    let here : is_to_ask (get_or jacks c.loop-state.state-index none) ≡ true = ap (λ jacks. is_to_ask (get_or jacks c.loop-state.state-index none)) (sym same) ∙ c.if-state.true in
    let first = first_some is_to_ask asked_now jacks c.loop-state.state-index none within c.loop-state.invariant.1 here in
    ap (λ jacks. set jacks c.loop-state.state-index (asked_now (get_or jacks c.loop-state.state-index none))) same ∙ sym first.1

pub returns-clause-jack : goal.returns-clause-jack
returns-clause-jack c =
    let jacks = c.args.jacks.now in
    let first = first_none is_to_ask asked_now jacks (λ k d within. c.loop-state.invariant.1 k d (omega (arith, within, c.loop-state-test.false))) in
    sym (ap (λ (found : Option JackState). option_map (λ (state : JackState). state.jack) found) first.0)

pub returns-clause-jacks : goal.returns-clause-jacks
returns-clause-jacks c =
    let jacks = c.args.jacks.now in
    let first = first_none is_to_ask asked_now jacks (λ k d within. c.loop-state.invariant.1 k d (omega (arith, within, c.loop-state-test.false))) in
    c.loop-state.invariant.0 ∙ sym first.1
