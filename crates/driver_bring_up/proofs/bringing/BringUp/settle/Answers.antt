use Rattle.driver_progress.specs.Phases.{goes_on}
use Rattle.std.proofs.Common.{ℕ, refl, ap, subst, ◌∙◌}
use Rattle.std.proofs.lemmas.Bool.{false≢true}
use Rattle.hda_world.specs.Tellings.{world_of}
use Rattle.hda_world.specs.Discovery.{addresses_of}
use Rattle.hda_world.proofs.Callers.{told_map}
use Rattle.driver_progress.specs.Announcing.{AreCodecs}
use Rattle.driver_bring_up.proofs.Unread.{can_stay, settles_on, walks_settles, walking_settles, reset_settles}
use Rattle.driver_progress.specs.Expected.{has_settled}
use Rattle.driver_progress.specs.Settling.{settle_accesses}
use Rattle.driver_progress.specs.declared.settling.Settled.TheVariants.{TooEarly, NoCodec, Codecs}
use Rattle.driver_progress.proofs.Callers.{settle_unread}
use Rattle.driver_bring_up.specs.Calls.{state_of}
use Rattle.driver_bring_up.proofs.Settles.{too_early, found_some, found_started, begins_phase, settle_with, begins_with, found_named}
use Rattle.driver_bring_up.proofs.bringing.BringUp.settle.Goals as goal

pub new-requires-clause-some : goal.new-requires-clause-some
new-requires-clause-some g c =
    let settles = c.in-Codecs.ensures.settles in
    let some = found_some (has_settled c.args.self.now.kept settles.clock) settles.reads c.in-Codecs.codecs settles.answer_is in
    c.in_ok-addresses-in-Codecs.ensures.some some.0 some.1

pub invariant_of-self-in-Codecs-2-clause-led : goal.invariant_of-self-in-Codecs-2-clause-led
invariant_of-self-in-Codecs-2-clause-led g c = λ asking.
    let agenda = c.in_ok-self-in-Codecs.field-0 in
    let begins = c.in_ok-self-in-Codecs.ensures.begins in
    begins_phase agenda.walk begins.under_way agenda.verbs.items agenda.answered _ _ begins.is agenda.under_way

pub invariant_of-self-in-Codecs-2-clause-started : goal.invariant_of-self-in-Codecs-2-clause-started
invariant_of-self-in-Codecs-2-clause-started g c = λ asking.
    let settles = c.in-Codecs.ensures.settles in
    ap (λ rings. rings.started) settles.rings_are ∙ found_started (has_settled c.args.self.now.kept settles.clock) settles.reads c.args.self.now.engine.rings c.in-Codecs.codecs settles.answer_is

pub returns-in-TooEarly-clause-leads : goal.returns-in-TooEarly-clause-leads
returns-in-TooEarly-clause-leads g c =
    let old = c.args.self.now in
    let settles = c.in-TooEarly.ensures.settles in record {
      made = settle_accesses old.kept settles.clock old.engine.corb.address old.engine.rirb.address settles.reads;
      by = settles.made;
      is = λ task budget of. settle_with task (state_of old) budget settles.clock settles.reads TooEarly c.settle.new.engine.rings old.engine.corb.address old.engine.rirb.address of.corb of.rirb c.requires.phase settles.answer_is settles.rings_are;
      still = ap goes_on c.requires.phase;
      moves = can_stay old.phase;
      unread = settle_unread old.kept settles.clock old.engine.corb.address old.engine.rirb.address settles.reads;
      jacks = refl;
      agenda = λ still. refl;
      begun = λ was is. absurd (walks_settles old.phase was is);
      resets = λ was. absurd (reset_settles old.phase was c.requires.phase);
      untaken = λ was. absurd (reset_settles old.phase was c.requires.phase);
      settles = λ was. told_map (λ before after leads settling some. record {
        stays = λ none. was;
        late = λ found settled. absurd (too_early (has_settled old.kept settles.clock) settles.reads settles.answer_is settled);
        early = λ still. (leads settling).0;
        untaken = λ still. (leads settling).1;
        codecs = λ walking. absurd (walks_settles old.phase was walking);
        started = λ walking. absurd (walks_settles old.phase was walking);
      }) c.in-TooEarly.ensures.tells;
    }

pub returns-in-NoCodec-clause-leads : goal.returns-in-NoCodec-clause-leads
returns-in-NoCodec-clause-leads g c =
    let old = c.args.self.now in
    let settles = c.in-NoCodec.ensures.settles in record {
      made = settle_accesses old.kept settles.clock old.engine.corb.address old.engine.rirb.address settles.reads;
      by = settles.made;
      is = λ task budget of. settle_with task (state_of old) budget settles.clock settles.reads NoCodec c.settle.new.engine.rings old.engine.corb.address old.engine.rirb.address of.corb of.rirb c.requires.phase settles.answer_is settles.rings_are;
      still = ap goes_on c.requires.phase;
      moves = can_stay old.phase;
      unread = settle_unread old.kept settles.clock old.engine.corb.address old.engine.rirb.address settles.reads;
      jacks = refl;
      agenda = λ still. refl;
      begun = λ was is. absurd (walks_settles old.phase was is);
      resets = λ was. absurd (reset_settles old.phase was c.requires.phase);
      untaken = λ was. absurd (reset_settles old.phase was c.requires.phase);
      settles = λ was. told_map (λ before after leads settling some. absurd (some (leads settling))) c.in-NoCodec.ensures.tells;
    }

pub returns-in_ok-self-in-Codecs-clause-leads : goal.returns-in_ok-self-in-Codecs-clause-leads
returns-in_ok-self-in-Codecs-clause-leads g c =
    let old = c.args.self.now in
    let settles = c.in-Codecs.ensures.settles in record {
      made = settle_accesses old.kept settles.clock old.engine.corb.address old.engine.rirb.address settles.reads;
      by = settles.made;
      is = λ task budget of. settle_with task (state_of old) budget settles.clock settles.reads (Codecs c.in-Codecs.codecs) c.settle.new.engine.rings old.engine.corb.address old.engine.rirb.address of.corb of.rirb c.requires.phase settles.answer_is settles.rings_are;
      still = ap goes_on c.requires.phase;
      moves = settles_on old.phase c.requires.phase;
      unread = settle_unread old.kept settles.clock old.engine.corb.address old.engine.rirb.address settles.reads;
      jacks = refl;
      agenda = λ still. absurd (still c.requires.phase refl);
      begun = λ was is. begins_with (has_settled old.kept settles.clock) settles.reads c.in-Codecs.codecs settles.clock old.engine.corb.address old.engine.rirb.address c.in_ok-addresses-in-Codecs.addresses.items c.in_ok-self-in-Codecs.field-0 settles.answer_is c.in_ok-addresses-in-Codecs.ensures.value c.in_ok-self-in-Codecs.ensures.addresses c.in_ok-self-in-Codecs.ensures.begins;
      resets = λ was. absurd (reset_settles old.phase was c.requires.phase);
      untaken = λ was. absurd (reset_settles old.phase was c.requires.phase);
      settles = λ was. told_map (λ before after leads settling some. record {
        stays = λ none. absurd (false≢true none);
        late = λ found settled. refl;
        early = λ still. absurd (walking_settles still);
        untaken = λ still. absurd (walking_settles still);
        codecs = λ walking. subst (λ (bits : ℕ). AreCodecs bits (addresses_of (world_of before).codecs)) (found_named (has_settled old.kept settles.clock) settles.reads c.in-Codecs.codecs settles.clock old.engine.corb.address old.engine.rirb.address settles.answer_is) (leads settling).0;
        started = λ walking. (leads settling).1;
      }) c.in-Codecs.ensures.tells;
    }
