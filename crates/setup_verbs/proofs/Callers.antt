-- What proofs of the layers above cite.
use Rattle.std.proofs.Common.{◌≡◌, ◌≤◌, ℕ}
use Rattle.codec_graph.specs.declared.raw.RawCodec.{RawCodec}
use Rattle.codec_graph.specs.Cycles.{IsWellFormed}
use Rattle.codec_graph.specs.Settings.{Entries, IsSettingsOf}
use Rattle.stream_format.specs.declared.format.Format.{Format}
use Rattle.codec_graph.specs.declared.pin_kind.PinKind.{PinKind}
use Rattle.codec_graph.specs.declared.pin_kind.PinKind.TheVariants.{Analog, Digital}
use Rattle.route_planner.specs.declared.routes.Plan.{Plan}
use Rattle.route_planner.specs.Plans.{IsPlan, IsPlanAs}
use Rattle.route_planner.proofs.Callers.{only_plan}
use Rattle.setup_verbs.specs.VerbList.{setup_verbs_as}
use Rattle.setup_verbs.specs.SetUp.{IsSetUpFor, settings_after}
use Rattle.setup_verbs.proofs.Final as final
use Rattle.setup_verbs.proofs.DigitalOpened as digital
-- the set-up verbs lead from any settings to ones that are set up
pub use Rattle.setup_verbs.proofs.Final.{lead_to_set_up}
-- those of a kind of pins lead from any settings to ones in which its routes are heard
pub use Rattle.setup_verbs.proofs.Final.{lead_to_hearing}
-- and those of digital pins to ones that are set up for them
pub use Rattle.setup_verbs.proofs.DigitalOpened.{lead_to_digital_set_up}
-- each goes to the codec, and can be encoded where that is one of 0 to 14
pub use Rattle.setup_verbs.proofs.Ranged.{all_commands_of}
-- ---- for lists of verbs in the same steps, whatever the roles and the verbs are

-- all of some verbs that put what is wanted settle each control that one of them sets
pub use Rattle.setup_verbs.proofs.Settling.{IsWanted, Sets, settle}
-- what amplifiers and choices are set to
pub use Rattle.setup_verbs.proofs.Wanted.{select_wanted, input_wanted, output_wanted}
-- what a verb of one control puts and sets
pub use Rattle.setup_verbs.proofs.Wanted.{one_wanted, if_wanted, one_sets}
-- what holds of all verbs, and which are among them
pub use Rattle.setup_verbs.proofs.Members.{all_if, all_verbs_by, has_if, has_mapped, has_group_by, has_verb_by}
-- the verbs of amplifiers put what is wanted, and set it
pub use Rattle.setup_verbs.proofs.Amplified.{InputGood, outputs_good, pass_good, mixers_good, input_has, mixer_among}
pub use Rattle.setup_verbs.proofs.Amplified.{output_left, output_right, pass_left, pass_right, mixer_left, mixer_right}
-- an amplifier that is set so lets pass
pub use Rattle.setup_verbs.proofs.Passing.{input_passes, output_passes}
-- so do a mixer and what a node selects
pub use Rattle.setup_verbs.proofs.Through.{IsInputSet, IsMixerSet, IsChoiceSet, CanMuteOthers, mixed_through, selected_through}
-- what can be left by an index
pub use Rattle.setup_verbs.proofs.Passing.{IsLeft, left_from}
-- widgets of a well-formed graph: few inputs, amplifiers whose 0 dB step is one of theirs, none is the group
pub use Rattle.setup_verbs.proofs.Faultless.{faultless_at, input_offset, output_offset, apart_at}
-- what holds of each use holds of each node's role
pub use Rattle.setup_verbs.proofs.RoleFacts.{role_all, within_list, leads_by}
-- a use with which all others agree is the node's role, and the hops of one path agree
pub use Rattle.setup_verbs.proofs.Sharing.{IsSolid, AreInner, role_found, inner_no_pin, hops_alike, hop_kind}
-- roles after one route more
pub use Rattle.setup_verbs.proofs.RoleLists.{entry_more, unused_at}
-- lists of commands, joined
pub use Rattle.setup_verbs.proofs.Lists.{five_lists, step_more, all_below}
-- nodes that pass a test
pub use Rattle.setup_verbs.proofs.Final.{Passing, passing, passed_at}
-- what two tests say: of one that fails, and of the fourth of seven
pub use Rattle.setup_verbs.proofs.Final.{not_true, fourth}
-- a number that is there
pub use Rattle.setup_verbs.proofs.Opened.{some_of}
-- a verb whose argument fits, and its command
pub use Rattle.setup_verbs.proofs.Ranged.{IsNarrow, Fits, short_fits, pass_fits, mixer_fits, output_fits, command_of}
-- a candidate is a pin widget
pub use Rattle.setup_verbs.proofs.Agreeing.{candidate_is_pin, candidate_is_pin_as}

-- a graph has one plan for a format
pub one_plan_of : (codec : RawCodec) (format : Format) (plan other : Plan) → IsPlan codec format plan → IsPlan codec format other → other ≡ plan
one_plan_of codec format plan other is twin = only_plan Analog codec format plan is other twin

-- and one for each kind of pins
pub one_plan_as : (kind : PinKind) (codec : RawCodec) (format : Format) (plan other : Plan) → IsPlanAs kind codec format plan → IsPlanAs kind codec format other → other ≡ plan
one_plan_as kind codec format plan other is twin = only_plan kind codec format plan is other twin

-- the set-up verbs of a kind of pins lead from any settings to ones that are set up for it
pub lead_to_set_up_for : (kind : PinKind) (codec : RawCodec) (plan : Plan) (format : Format) (tag : ℕ) → IsWellFormed codec → IsPlanAs kind codec format plan → 1 ≤ tag → tag ≤ 15 → (settings : Entries) → IsSettingsOf codec settings
    → IsSetUpFor kind codec (settings_after codec settings (setup_verbs_as kind codec plan format tag)) plan format tag
lead_to_set_up_for Analog codec plan format tag well is some few settings of = final.lead_to_set_up codec plan format tag well is some few settings of
lead_to_set_up_for Digital codec plan format tag well is some few settings of = digital.lead_to_digital_set_up codec plan format tag well is some few settings of
