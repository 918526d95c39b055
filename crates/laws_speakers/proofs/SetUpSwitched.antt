-- Codecs stay set up over words that switch speakers, but for those that are off.
use Rattle.std.proofs.Common.{◌≡◌, ◌++◌, ℕ, Bool, true, false, List, [], ◌∷◌, drop, get_or, Option, None, Some, refl, sym, ap, subst, ◌∙◌, if◌then◌else◌}
use Rattle.std.specs.Prelude.{All}
use Rattle.std.proofs.lemmas.List.Elements.{All-weaker}
use Rattle.codec_graph.specs.declared.raw.RawCodec.{RawCodec}
use Rattle.codec_graph.specs.declared.controls.Control.TheVariants as control
use Rattle.codec_graph.specs.declared.pin_kind.PinKind.TheVariants.{Analog}
use Rattle.codec_graph.specs.Cycles.{IsWellFormed}
use Rattle.codec_graph.specs.Settings.{Entries, setting_of, IsSettingsOf}
use Rattle.codec_graph.specs.CodecStates.{CodecState}
use Rattle.codec_sound.specs.Amplifiers.{is_muted}
use Rattle.codec_sound.specs.declared.signals.Signal.TheVariants.{Silence, Pair}
use Rattle.codec_sound.specs.Signals.{stream_of}
use Rattle.verb_codes.specs.Verbs.{reading_of}
use Rattle.stream_format.specs.declared.format.Format.{Format}
use Rattle.route_planner.specs.declared.routes.Hop.{Hop}
use Rattle.route_planner.specs.declared.routes.Route as declared_route
use Rattle.route_planner.specs.declared.routes.Outcome.{Outcome}
use Rattle.route_planner.specs.declared.routes.Outcome.TheVariants as outcome
use Rattle.route_planner.specs.declared.routes.Plan.{Plan}
use Rattle.setup_verbs.specs.SetUp.{IsSelected, AreOthersMuted, IsOpen, IsOutcomeOpen, HasNoRoute, IsSetUp}
use Rattle.heard_frames.specs.Marks.{control_for}
use Rattle.hda_world.specs.Worlds.{World, codec_at}
use Rattle.laws_settings.specs.Histories.{after_reading, settings_by, words_to, FoundTaken, Remembers}
use Rattle.laws_settings.specs.PinControls.{control_with, later_of, last_control}
use Rattle.laws_settings.proofs.Callers.{found_by, last_stands, made_of}
use Rattle.codec_graph.proofs.Callers.{settings-reading}
use Rattle.verb_codes.specs.Words.{has_bit}
use Rattle.laws_speakers.specs.Pins.{AgreeBesidePins, is_enabled, is_on}
use Rattle.laws_speakers.proofs.Agreeing.{pair_enabled}
use Rattle.laws_speakers.proofs.PinPuts.{kept_bit, enabled_has}
use Rattle.laws_speakers.specs.SwitchWords.{IsSwitchWord}
use Rattle.laws_speakers.specs.SetUpBut.{IsOpenOrOff, IsSetUpBut, IsRouteOn, AreRoutesOn}
use Rattle.laws_speakers.proofs.SwitchedPins.{words_agree, pair_hears, others_hear}
use Rattle.laws_speakers.proofs.MarkedFrames.{all_named, none_in}

-- ---- words that set a codec up

-- settings of the graph stay such over words
settings_on : (graph : RawCodec) (settings : Entries) (words : List ℕ) → IsSettingsOf graph settings → IsSettingsOf graph (settings_by graph settings words)
settings_on graph settings [] of = of
settings_on graph settings (word ∷ words) of =
    let codec : CodecState = record { graph = graph; settings = settings; present = []; waiting = [] } in
    settings_on graph (after_reading graph settings (reading_of word)) words (subst (IsSettingsOf graph) (made_of codec (reading_of word)) (settings-reading codec word of))

module _ (graph : RawCodec) (settings : Entries) (words : List ℕ) (format : Format) (tag : ℕ) (well : IsWellFormed graph) (of : IsSettingsOf graph settings) where
  on_by_last : (pin : ℕ) (last : Option ℕ) → last_control pin words ≡ last → is_enabled (settings_by graph settings words) pin ≡ true → is_on last ≡ true
  on_by_last pin None is on = refl
  on_by_last pin (Some value) is on =
      let has = enabled_has graph (settings_by graph settings words) pin well (settings_on graph settings words of) on in
      sym (kept_bit value)
      ∙ ap (λ (n : ℕ). has_bit n 6) (sym (last_stands graph settings pin words well of has ∙ ap (λ (o : Option ℕ). control_with o (setting_of settings pin control.Pin)) is))
      ∙ on

  route_left_on : (pin pair : ℕ) (found : Outcome) → IsOutcomeOpen graph (settings_by graph settings words) format tag pin pair found → IsRouteOn (is_on (last_control pin words)) found
  route_left_on pin pair (outcome.Route route) opened =
      on_by_last pin (last_control pin words) refl (pair_enabled Analog graph (settings_by graph settings words) (stream_of tag format) pin pair opened.heard)
  route_left_on pin pair outcome.Blocked opened = tt {0}
  route_left_on pin pair outcome.NoPath opened = tt {0}

pub routes_left_on : (graph : RawCodec) (settings : Entries) (words : List ℕ) (plan : Plan) (format : Format) (tag : ℕ) → IsWellFormed graph → IsSettingsOf graph settings → IsSetUp graph (settings_by graph settings words) plan format tag
    → AreRoutesOn (λ pin. last_control pin words) plan
routes_left_on graph settings words plan format tag well of is = λ place other within.
    route_left_on graph settings words format tag well of (get_or plan.pins place other).pin (get_or plan.pins place other).pair (get_or plan.pins place other).outcome (is.routes place other within)

-- ---- at once

open_on : (on : Bool) (codec : RawCodec) (settings : Entries) (format : Format) (tag pin pair : ℕ) (found : Outcome) → IsOutcomeOpen codec settings format tag pin pair found → IsRouteOn on found → IsOpenOrOff on codec settings format tag pin pair found
open_on true codec settings format tag pin pair (outcome.Route route) is on = is
open_on false codec settings format tag pin pair (outcome.Route route) is on = cc
open_on true codec settings format tag pin pair outcome.Blocked is on = tt {0}
open_on false codec settings format tag pin pair outcome.Blocked is on = tt {0}
open_on true codec settings format tag pin pair outcome.NoPath is on = tt {0}
open_on false codec settings format tag pin pair outcome.NoPath is on = tt {0}

pub set_up_at_once : (words : List ℕ) (codec : CodecState) (plan : Plan) (format : Format) (tag : ℕ) → IsSetUp codec.graph codec.settings plan format tag → AreRoutesOn (λ pin. last_control pin words) plan
    → IsSetUpBut (λ pin. last_control pin words) codec.graph codec.settings plan format tag
set_up_at_once words codec plan format tag is on = record {
  routes = λ place other within.
      let entry = get_or plan.pins place other in
      open_on (is_on (last_control (get_or plan.pins place other).pin words)) codec.graph codec.settings format tag (get_or plan.pins place other).pin (get_or plan.pins place other).pair (get_or plan.pins place other).outcome
      (is.routes place other within) (on place other within);
  others = is.others;
}

-- ---- later

later_both : (first middle later : Option ℕ) → later_of first (later_of middle later) ≡ later_of (later_of first middle) later
later_both first middle None = refl
later_both first middle (Some value) = refl

no_later : (later : Option ℕ) → later ≡ later_of None later
no_later None = refl
no_later (Some value) = refl

last_append : (pin : ℕ) (first later : List ℕ) → last_control pin (first ++ later) ≡ later_of (last_control pin first) (last_control pin later)
last_append pin [] later = no_later (last_control pin later)
last_append pin (word ∷ first) later =
    ap (later_of (control_for pin (reading_of word))) (last_append pin first later) ∙ later_both (control_for pin (reading_of word)) (last_control pin first) (last_control pin later)

on_later : (first later : Option ℕ) → is_on first ≡ true → is_on (later_of first later) ≡ is_on later
on_later first None on = on
on_later first (Some value) on = refl

module _ (is_speaker : ℕ → ℕ → Bool) (graph : RawCodec) (settings : Entries) (words : List ℕ) (plan : Plan) (format : Format) (tag : ℕ) (all : All (IsSwitchWord is_speaker) words) (well : IsWellFormed graph) (of : IsSettingsOf graph settings) where
  abbrev now : Entries
  now = settings_by graph settings words

  agree : AgreeBesidePins settings (settings_by graph settings words)
  agree = words_agree is_speaker graph settings words all

  selected_on : (hop : Hop) → IsSelected graph settings hop → IsSelected graph (settings_by graph settings words) hop
  selected_on hop is choice = agree.same hop.nid control.Select (λ e. cc) ∙ is choice

  muted_on : (hop : Hop) → AreOthersMuted graph settings hop → AreOthersMuted graph (settings_by graph settings words) hop
  muted_on hop is node there mixer place within other =
      let was = is node there mixer place within other in record {
        left = ap is_muted (agree.same hop.nid (control.InLeft place) (λ e. cc)) ∙ was.left;
        right = ap is_muted (agree.same hop.nid (control.InRight place) (λ e. cc)) ∙ was.right;
      }

  route_on : (pin pair : ℕ) (route : declared_route.Route) (on : Bool) → is_on (last_control pin words) ≡ on → IsOpen graph settings format tag pin pair route
      → IsOpenOrOff on graph (settings_by graph settings words) format tag pin pair (outcome.Route route)
  route_on pin pair route true is opened = record {
    selected = All-weaker (IsSelected graph settings) (IsSelected graph (settings_by graph settings words)) selected_on route.hops opened.selected;
    muted = All-weaker (AreOthersMuted graph settings) (AreOthersMuted graph (settings_by graph settings words)) muted_on route.hops opened.muted;
    heard = pair_hears is_speaker graph Analog settings (stream_of tag format) words pin all pair well of opened.heard ∙ ap (λ (on : Bool). if on then Pair pair else Silence) is;
  }
  route_on pin pair route false is opened =
      pair_hears is_speaker graph Analog settings (stream_of tag format) words pin all pair well of opened.heard ∙ ap (λ (on : Bool). if on then Pair pair else Silence) is

  outcome_on : (earlier : List ℕ) (pin pair : ℕ) (found : Outcome) (on : Bool) → is_on (last_control pin (earlier ++ words)) ≡ on → IsOutcomeOpen graph settings format tag pin pair found → IsRouteOn (is_on (last_control pin earlier)) found
      → IsOpenOrOff on graph (settings_by graph settings words) format tag pin pair found
  outcome_on earlier pin pair (outcome.Route route) on is opened was =
      route_on pin pair route on (sym (on_later (last_control pin earlier) (last_control pin words) was) ∙ ap is_on (sym (last_append pin earlier words)) ∙ is) opened
  outcome_on earlier pin pair outcome.Blocked true is opened was = tt {0}
  outcome_on earlier pin pair outcome.Blocked false is opened was = tt {0}
  outcome_on earlier pin pair outcome.NoPath true is opened was = tt {0}
  outcome_on earlier pin pair outcome.NoPath false is opened was = tt {0}

  pub set_up_on : (earlier : List ℕ) → IsSetUp graph settings plan format tag → AreRoutesOn (λ pin. last_control pin earlier) plan → ((pin : ℕ) → HasNoRoute plan pin → last_control pin words ≡ None)
      → IsSetUpBut (λ pin. last_control pin (earlier ++ words)) graph (settings_by graph settings words) plan format tag
  set_up_on earlier is on unrouted = record {
    routes = λ place other within.
        outcome_on earlier (get_or plan.pins place other).pin (get_or plan.pins place other).pair (get_or plan.pins place other).outcome (is_on (last_control (get_or plan.pins place other).pin (earlier ++ words))) refl
        (is.routes place other within) (on place other within);
    others = λ pin there none. others_hear is_speaker graph Analog settings (stream_of tag format) words pin all (unrouted pin none) ∙ is.others pin there none;
  }

pub set_up_later : (is_speaker : ℕ → ℕ → Bool) (start : List CodecState) (from : ℕ) (world : World) (first now : CodecState) (earlier : List ℕ) (plan : Plan) (format : Format) (tag : ℕ) → Remembers start from world
    → All (IsSwitchWord is_speaker) (words_to first.graph.address (drop from world.commands)) → codec_at first.graph.address start ≡ Some first → codec_at first.graph.address world.codecs ≡ Some now
    → IsWellFormed first.graph → IsSettingsOf first.graph first.settings → IsSetUp first.graph first.settings plan format tag → AreRoutesOn (λ pin. last_control pin earlier) plan
    → ((pin : ℕ) → HasNoRoute plan pin → is_speaker first.graph.address pin ≡ false)
    → IsSetUpBut (λ pin. last_control pin (earlier ++ words_to first.graph.address (drop from world.commands))) now.graph now.settings plan format tag
set_up_later is_speaker start from world first now earlier plan format tag is all before after well of set on unrouted =
    let since = drop from world.commands in
    let words = words_to first.graph.address (drop from world.commands) in
    let found = found_by start from world first.graph.address is in
    let has = subst (FoundTaken (drop from world.commands) (Some first)) after (subst (λ (old : Option CodecState). FoundTaken (drop from world.commands) old (codec_at first.graph.address world.codecs)) before found) in
    subst (λ (graph : RawCodec). IsSetUpBut (λ pin. last_control pin (earlier ++ words_to first.graph.address (drop from world.commands))) graph now.settings plan format tag) (sym has.graph)
    (subst (λ (entries : Entries). IsSetUpBut (λ pin. last_control pin (earlier ++ words_to first.graph.address (drop from world.commands))) first.graph entries plan format tag) (sym has.settings)
    (set_up_on is_speaker first.graph first.settings (words_to first.graph.address (drop from world.commands)) plan format tag all well of earlier set on
    (λ pin none. none_in is_speaker first.graph.address pin (unrouted pin none) (drop from world.commands) all (all_named start (drop from world.commands) is.taken))))
