-- After the digital set-up verbs the codec is set up for its digital pins.
use Rattle.std.proofs.Common.{◌≤◌, ℕ, get_or, subst}
use Rattle.codec_graph.specs.declared.raw.RawCodec.{RawCodec}
use Rattle.codec_graph.specs.Settings.{Entries, IsSettingsOf}
use Rattle.codec_graph.specs.Cycles.{IsWellFormed}
use Rattle.stream_format.specs.declared.format.Format.{Format}
use Rattle.codec_graph.specs.declared.pin_kind.PinKind.TheVariants.{Analog, Digital}
use Rattle.route_planner.specs.declared.routes.Plan.{Plan}
use Rattle.route_planner.specs.Plans.{IsDigitalPlan}
use Rattle.setup_verbs.specs.VerbList.{setup_verbs_as}
use Rattle.setup_verbs.specs.SetUp.{IsRouteHeard, AreRoutesHeard, IsDigitallySetUp, settings_after}
use Rattle.setup_verbs.proofs.Final.{lead_to_hearing}

-- each route of a digital plan has the first pair
digitally_set_up : (codec : RawCodec) (settings : Entries) (plan : Plan) (format : Format) (tag : ℕ) → IsDigitalPlan codec format plan → AreRoutesHeard Digital codec settings plan format tag → IsDigitallySetUp codec settings plan format tag
digitally_set_up codec settings plan format tag is heard = record {
  routes = λ k d within.
      subst (λ pair. IsRouteHeard Digital codec settings format tag (get_or plan.pins k d).pin pair (get_or plan.pins k d).outcome) (is.pins.pairs k d within) (heard.routes k d within);
  others = λ pin is-pin none. (heard.others Analog pin is-pin none, heard.others Digital pin is-pin none);
}

-- the digital set-up verbs lead from any settings to ones that are set up
pub lead_to_digital_set_up : (codec : RawCodec) (plan : Plan) (format : Format) (tag : ℕ) → IsWellFormed codec → IsDigitalPlan codec format plan → 1 ≤ tag → tag ≤ 15 → (settings : Entries) → IsSettingsOf codec settings
    → IsDigitallySetUp codec (settings_after codec settings (setup_verbs_as Digital codec plan format tag)) plan format tag
lead_to_digital_set_up codec plan format tag well is some few settings of =
    digitally_set_up codec (settings_after codec settings (setup_verbs_as Digital codec plan format tag)) plan format tag is (lead_to_hearing Digital codec plan format tag well is some few settings of)
