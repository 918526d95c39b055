use Rattle.std.proofs.Common.{◌≡◌, ◌≢◌, List, [], ◌∷◌, map, refl, lit≤}
use Rattle.codec_graph.specs.Settings.{Entries}
use Rattle.laws_bring_up.proofs.Ready.{SetterLaws}
use Rattle.verb_codes.specs.declared.verbs.Command.{Command}
use Rattle.codec_graph.specs.declared.raw.RawCodec.{RawCodec}
use Rattle.route_planner.specs.declared.routes.Plan.{Plan}
use Rattle.route_setup.specs.Means.{Means}
use Rattle.driver_agenda.specs.declared.agenda.Agenda.{Agenda}
use Rattle.driver_agenda.specs.Agendas.{BeginsWalk}
use Rattle.driver_agenda.specs.Following.{Follows}
use Rattle.driver_bring_up.specs.declared.answers.TheConstants.{TAG}
use Rattle.laws_bring_up.proofs.Whole.{whole}
use Rattle.laws_bring_up.proofs.Moving.{Steady}
use Rattle.laws_bring_up.proofs.Noting.{Laws}
use Rattle.laws_bring_up.proofs.Following.{AgendaLaws}
use Rattle.laws_bring_up.proofs.laws.bring_ups_keep_to_progress.Goals as goal

begins_by : (means : Means) (verbs : RawCodec → List Command) (graphs : List RawCodec) → graphs ≢ []
    → ((first : RawCodec) (rest : List RawCodec) (agenda : Agenda) → agenda.addresses.items ≡ map (λ (graph : RawCodec). graph.address) (first ∷ rest) → BeginsWalk agenda.addresses.items [] agenda → Follows means verbs (first ∷ rest) 0 agenda)
    → (agenda : Agenda) → agenda.addresses.items ≡ map (λ (graph : RawCodec). graph.address) graphs → BeginsWalk agenda.addresses.items [] agenda → Follows means verbs graphs 0 agenda
begins_by means verbs [] some begins agenda are is = absurd (some refl)
begins_by means verbs (first ∷ rest) some begins agenda are is = begins first rest agenda are is

pub returns : goal.returns
returns g c = λ setter format verbs graphs task of.
    let means : Means = g.T.Setter.means setter format TAG in
    let laws : AgendaLaws means verbs graphs = record {
      leads = λ count answer old new follows reply led same. c.agendas_follow.ensures.leads setter format verbs graphs count answer old new of.right follows reply led same;
      well_formed = λ count answer old fault follows reply faulty. c.agendas_follow.ensures.well_formed setter format verbs graphs count answer old fault of.right follows reply faulty;
      routed = λ count answer old new follows reply none. c.agendas_follow.ensures.routed setter format verbs graphs count answer old new of.right follows reply none;
      agrees = λ count agenda task follows is_for. c.agendas_agree.ensures setter format verbs graphs count agenda task of.right.well_formed follows is_for;
    } in
    let notes : Laws = record {
      polls = c.polls_are_noted.ensures;
      found = c.answers_agree.ensures.found;
      grows = c.answers_agree.ensures.grows;
      submitted = c.answers_agree.ensures.submitted;
      polled = c.answers_agree.ensures.polled;
      none = c.answers_agree.ensures.none;
    } in
    let begins = begins_by means verbs graphs of.some (λ first rest agenda are is. c.agendas_follow.ensures.begins setter format verbs first rest agenda are is) in
    let steady : Steady = record { can_reset = c.a_reset_stays.ensures.before; settling = c.a_reset_stays.ensures.later } in
    let opening : SetterLaws means = record {
      encodable = λ graph plan well planned. g.met.T.Setter.encodable setter graph plan format 1 well planned (lit≤ tt);
      opens = λ graph plan settings well planned are. g.met.T.Setter.opens setter graph plan format 1 settings well planned (lit≤ tt) (lit≤ tt) are;
    } in
    whole means verbs graphs task laws of opening notes steady begins
