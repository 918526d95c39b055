-- An agenda that follows the commands of a task's codecs agrees with the task.
use Rattle.std.proofs.Common.{◌≡◌, ◌≤◌, ◌<◌, ◌+◌, ℕ, List, ◌∷◌, ◌++◌, length, Bool, true, false, nat_le, nat_lt, if◌then◌else◌, Option, Some, None, refl, sym, ap, ◌∙◌, arith, ◌⊎◌, inl, inr}
use Rattle.std.specs.Prelude.{slice_get, map, get_or}
use Rattle.std.specs.List.{flat_map}
use Rattle.std.specs.Option.{is_some, option_map}
use Rattle.std.proofs.lemmas.Bool.{le-leb, lt-leb, ltb-true, ltb-false}
use Rattle.std.proofs.lemmas.Option.{slice_get-map, slice_get_past, slice_get_cases}
use Rattle.std.proofs.lemmas.List.{length-append, length-map}
use Rattle.std.proofs.lemmas.Grind.{flat_map-append}
use Rattle.verb_codes.specs.declared.verbs.Command.{Command}
use Rattle.codec_graph.specs.declared.raw.RawCodec.{RawCodec}
use Rattle.route_setup.specs.Means.{Means}
use Rattle.codec_walk.specs.declared.walk.Walk.{Walk}
use Rattle.codec_walk.specs.Commands.{walk_commands}
use Rattle.driver_agenda.specs.declared.agenda.Agenda.{Agenda}
use Rattle.driver_agenda.specs.Agendas.{next_of}
use Rattle.driver_agenda.specs.Following.{commands_of, FollowsBy, Follows}
use Rattle.driver_progress.specs.declared.phase.Phase.TheVariants.{Walking, SettingUp, Ready}
use Rattle.driver_progress.specs.Tasks.{Task, Order, order_of, commands_for, IsTaskFor}
use Rattle.driver_progress.specs.Next.{phase_of_answers}
use Rattle.driver_bring_up.specs.Standing.{phase_at, order_in, Agrees}

-- ---- the order

order_map : (command : Option Command) → order_in command ≡ option_map order_of command
order_map None = refl
order_map (Some command) = refl

order_same : (orders : List Order) (commands : List Command) (count : ℕ) → orders ≡ map order_of commands → order_in (slice_get commands count) ≡ slice_get orders count
order_same orders commands count are =
    order_map (slice_get commands count) ∙ sym (slice_get-map order_of commands count) ∙ ap (λ (orders : List Order). slice_get orders count) (sym are)

-- ---- the phase

left_by : (commands : List Command) (count : ℕ) → count < length commands → ((x : Command) × (count < length commands) × (slice_get commands count ≡ Some x) × (get_or commands count x ≡ x)) ⊎ ((length commands ≤ count) × (slice_get commands count ≡ None)) → is_some (slice_get commands count) ≡ true
left_by commands count within (inl there) = ap is_some there.2
left_by commands count within (inr past) = absurd (omega (arith, past.0))

some_left : (commands : List Command) (count : ℕ) → count < length commands → is_some (slice_get commands count) ≡ true
some_left commands count within = let cases = slice_get_cases commands count in left_by commands count within cases.1

none_left : (commands : List Command) (count : ℕ) → length commands ≤ count → is_some (slice_get commands count) ≡ false
none_left commands count past = ap is_some (slice_get_past commands count past)

-- by how many commands there are, how many of them are the walks', and how many were answered
phase_walking : (all walks count : ℕ) → count < walks → walks ≤ all → (if nat_le all count then Ready else (if nat_le walks count then SettingUp else Walking)) ≡ Walking
phase_walking all walks count within few =
    ap (λ (is : Bool). if is then Ready else (if nat_le walks count then SettingUp else Walking)) (lt-leb all count (omega arith)) ∙ ap (λ (is : Bool). if is then SettingUp else Walking) (lt-leb walks count within)

phase_setting : (all walks count : ℕ) → walks ≤ count → count < all → (if nat_le all count then Ready else (if nat_le walks count then SettingUp else Walking)) ≡ SettingUp
phase_setting all walks count walked within =
    ap (λ (is : Bool). if is then Ready else (if nat_le walks count then SettingUp else Walking)) (lt-leb all count within) ∙ ap (λ (is : Bool). if is then SettingUp else Walking) (le-leb walks count walked)

phase_ready : (all walks count : ℕ) → all ≤ count → (if nat_le all count then Ready else (if nat_le walks count then SettingUp else Walking)) ≡ Ready
phase_ready all walks count past = ap (λ (is : Bool). if is then Ready else (if nat_le walks count then SettingUp else Walking)) (le-leb all count past)

-- a walk that is not at its end is among all walks
within_walks : (graphs done rest : List RawCodec) (current : RawCodec) (words count : ℕ) → graphs ≡ done ++ current ∷ rest → words < length (walk_commands current) → count ≡ length (flat_map walk_commands done) + words
    → count < length (flat_map walk_commands graphs)
within_walks graphs done rest current words count split few is =
    let whole = ap (λ (graphs : List RawCodec). length (flat_map walk_commands graphs)) split ∙ ap length (flat_map-append walk_commands done (current ∷ rest))
    ∙ length-append (flat_map walk_commands done) (walk_commands current ++ flat_map walk_commands rest) in
    let last = length-append (walk_commands current) (flat_map walk_commands rest) in
    omega arith

all_orders : (verbs : RawCodec → List Command) (graphs : List RawCodec) (task : Task) → IsTaskFor verbs graphs task → length task.orders ≡ length (flat_map walk_commands graphs) + length (flat_map verbs graphs)
all_orders verbs graphs task for =
    ap length for.orders ∙ length-map (commands_for verbs graphs) order_of ∙ length-append (flat_map walk_commands graphs) (flat_map verbs graphs)

verbs_phase : (verbs : List Command) (all walks count answered : ℕ) (left : Bool) → nat_lt answered (length verbs) ≡ left → all ≡ walks + length verbs → count ≡ walks + answered
    → phase_at (is_some (slice_get verbs answered)) false ≡ (if nat_le all count then Ready else (if nat_le walks count then SettingUp else Walking))
verbs_phase verbs all walks count answered true is whole at =
    ap (λ (asks : Bool). phase_at asks false) (some_left verbs answered (ltb-true answered (length verbs) is)) ∙ sym (phase_setting all walks count (omega arith) (let within = ltb-true answered (length verbs) is in omega arith))
verbs_phase verbs all walks count answered false is whole at =
    ap (λ (asks : Bool). phase_at asks false) (none_left verbs answered (ltb-false answered (length verbs) is)) ∙ sym (phase_ready all walks count (let past = ltb-false answered (length verbs) is in omega arith))

phase_by : (means : Means) (verbs : RawCodec → List Command) (graphs : List RawCodec) (count : ℕ) (agenda : Agenda) (task : Task) (walk : Option Walk)
    → next_of walk agenda.verbs.items agenda.answered ≡ slice_get (commands_of verbs graphs) count → FollowsBy means verbs graphs count agenda walk → IsTaskFor verbs graphs task
    → phase_at (is_some (next_of walk agenda.verbs.items agenda.answered)) (is_some walk) ≡ phase_of_answers task count
phase_by means verbs graphs count agenda task (Some walk) asks follows for =
    let all = all_orders verbs graphs task for in
    let walks = for.walks in
    let within = within_walks graphs follows.done follows.rest follows.current (length follows.words) count follows.split follows.few follows.count_is in
    let cmds = length-append (flat_map walk_commands graphs) (flat_map verbs graphs) in
    ap (λ (asks : Bool). phase_at asks true) (ap is_some asks ∙ some_left (commands_of verbs graphs) count (omega arith))
    ∙ sym (phase_walking (length task.orders) task.walks count (omega arith) (omega arith))
phase_by means verbs graphs count agenda task None asks follows for =
    let all = all_orders verbs graphs task for in
    let walks = for.walks in
    ap (λ (verbs : List Command). phase_at (is_some (slice_get verbs agenda.answered)) false) follows.verbs_are
    ∙ verbs_phase (flat_map verbs graphs) (length task.orders) task.walks count agenda.answered (nat_lt agenda.answered (length (flat_map verbs graphs))) refl (omega arith) (let at = follows.count_is in omega arith)

pub agree : (means : Means) (verbs : RawCodec → List Command) (graphs : List RawCodec) (count : ℕ) (agenda : Agenda) (task : Task)
    → next_of agenda.walk agenda.verbs.items agenda.answered ≡ slice_get (commands_of verbs graphs) count → Follows means verbs graphs count agenda → IsTaskFor verbs graphs task → Agrees task count agenda
agree means verbs graphs count agenda task asks follows for = record {
  order = ap order_in asks ∙ order_same task.orders (commands_of verbs graphs) count for.orders;
  phase = phase_by means verbs graphs count agenda task agenda.walk asks follows.stands for;
}
