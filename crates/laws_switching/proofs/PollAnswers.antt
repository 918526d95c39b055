-- Whether a look of a driver that switches found an answer is what its rules note.
use Rattle.std.proofs.Common.{◌≡◌, ◌≤◌, ◌+◌, ℕ, Bool, true, false, if◌then◌else◌, List, [], ◌∷◌, length, drop, map, nat_le, not, ◌&&◌, Option, None, Some, refl, sym, ap, subst, ◌∙◌, arith}
use Rattle.std.specs.Option.{is_some, option_map}
use Rattle.std.specs.List.{find}
use Rattle.codec_graph.specs.declared.raw.RawCodec.{RawCodec}
use Rattle.stream_format.specs.declared.format.Format.{Format}
use Rattle.route_planner.specs.declared.routes.Plan.{Plan}
use Rattle.world_rings.specs.declared.response.Response.{Response}
use Rattle.hda_world.specs.Tellings.{Telling, world_of, Makes}
use Rattle.command_engine.specs.declared.answers.Outstanding.{Outstanding}
use Rattle.command_engine.specs.declared.answers.Poll.TheVariants as polls
use Rattle.command_engine.specs.Belonging.{as_held}
use Rattle.command_engine.specs.Entries.{responses_in, answers_it, answer_among}
use Rattle.command_engine.specs.Polling.{PollReads, poll_accesses, rings_polled, found_by, still_outstanding, asked_of, poll_of, answer_limit}
use Rattle.command_engine.specs.Told.{found_since}
use Rattle.driver_progress.specs.Answers.{has_answer, AnswersAgree}
use Rattle.driver_progress.specs.Tasks.{Task, DriverLine}
use Rattle.driver_progress.specs.Progress.{Trail, trail_of}
use Rattle.driver_rules.specs.Onward.{Onward, onward_of, asked_by}
use Rattle.driver_rules.proofs.Callers.{polls_noted, trail_is}
use Rattle.jack_switch.specs.SwitchRules.{SwitchState, switch_rules}
use Rattle.jack_switch.specs.JackDrivers.{JackDriverState, switch_state}
use Rattle.laws_bring_up.proofs.Callers.{row_on}
use Rattle.laws_switching.proofs.Given.{Given}

-- ---- what was read is what was written

never : (late : Bool) (issued clock word : ℕ) → (if late then polls.Unanswered issued clock else polls.Waiting) ≡ polls.Answered word → ⊥
never true issued clock word is = cc
never false issued clock word is = cc

same_found : (command : Outstanding) (one other : Option ℕ) (clock : ℕ) → poll_of (Some command) one clock ≡ poll_of (Some command) other clock → is_some one ≡ is_some other
same_found command None None clock same = refl
same_found command None (Some word) clock same = absurd (never (nat_le (command.issued + answer_limit) clock) command.issued clock word same)
same_found command (Some word) None clock same = absurd (never (nat_le (command.issued + answer_limit) clock) command.issued clock word (sym same))
same_found command (Some word) (Some other) clock same = refl

never_theirs : (unsolicited : Bool) → (not unsolicited && false) ≡ false
never_theirs true = refl
never_theirs false = refl

none_asked : (responses : List Response) → answer_among None responses ≡ None
none_asked [] = refl
none_asked (response ∷ responses) =
    ap (λ (is : Bool). option_map (λ (response : Response). response.answer) (if is then Some response else find (answers_it None) responses)) (never_theirs response.unsolicited) ∙ none_asked responses

found_same : (outstanding : Option Outstanding) (one other : List Response) (clock : ℕ) → poll_of outstanding (answer_among (asked_of outstanding) one) clock ≡ poll_of outstanding (answer_among (asked_of outstanding) other) clock
    → is_some (answer_among (asked_of outstanding) one) ≡ is_some (answer_among (asked_of outstanding) other)
found_same None one other clock same = ap (λ (answer : Option ℕ). is_some answer) (none_asked one) ∙ sym (ap (λ (answer : Option ℕ). is_some answer) (none_asked other))
found_same (Some command) one other clock same = same_found command (answer_among (asked_of (Some command)) one) (answer_among (asked_of (Some command)) other) clock same

module _ (format : Format) (graphs : List RawCodec) (plans : List Plan) (task : Task) (given : Given format graphs plans task) (lines : List DriverLine) where
  agree_by : (outstanding : Option Outstanding) (found : Option ℕ) (submitted read : ℕ) (written : List Response) → AnswersAgree (asked_of outstanding) submitted read written → is_some found ≡ has_answer (asked_of outstanding) (drop read written)
      → AnswersAgree (asked_of (still_outstanding outstanding found)) submitted (length written) written
  agree_by None None submitted read written agree same = given.none submitted (length written) written agree.submitted_within (omega arith)
  agree_by None (Some word) submitted read written agree same = given.none submitted (length written) written agree.submitted_within (omega arith)
  agree_by (Some command) None submitted read written agree same = given.polled (asked_of (Some command)) submitted read written agree (sym same)
  agree_by (Some command) (Some word) submitted read written agree same = given.none submitted (length written) written agree.submitted_within (omega arith)

  module _ (driver : JackDriverState) (reads : PollReads) (read clock : ℕ) (old new : Telling) (makes : Makes (poll_accesses driver.engine.rirb.address driver.engine.rings reads) old new)
      (flag : (world_of old).registers.global.response_flag ≤ 1) (later : (onward_of (switch_rules task graphs plans) task lines old).later ≡ Some (switch_state driver))
      (agree : AnswersAgree (asked_of driver.engine.rings.outstanding) (trail_of task lines old).written read (world_of old).written)
      (answer : poll_of driver.engine.rings.outstanding (found_by driver.engine.rings reads) clock ≡ poll_of driver.engine.rings.outstanding (found_since read driver.engine.rings (world_of new)) clock) where
    abbrev asked : Option ℕ
    asked = asked_of driver.engine.rings.outstanding

    abbrev rules_now : Telling → Onward SwitchState
    rules_now telling = onward_of (switch_rules task graphs plans) task lines telling

    agree_new : AnswersAgree asked (trail_of task lines old).written read (world_of new).written
    agree_new =
        let on = row_on (poll_accesses driver.engine.rirb.address driver.engine.rings reads) old new makes in
        subst (AnswersAgree asked (trail_of task lines old).written read) (sym on.written) (given.grows asked (trail_of task lines old).written read (world_of old).written on.more_written agree)

    found_has : is_some (found_by driver.engine.rings reads) ≡ has_answer asked (drop read (world_of new).written)
    found_has =
        found_same driver.engine.rings.outstanding (responses_in reads.entries) (map as_held (drop read (world_of new).written)) clock answer ∙ given.found asked (drop read (world_of new).written)

    -- the rules note just whether the look found an answer
    pub poll_answered : (rules_now new).answered ≡ is_some (found_by driver.engine.rings reads)
    poll_answered =
        (polls_noted (switch_rules task graphs plans) task lines driver.engine.rirb.address driver.engine.rings reads old new makes flag).answered_is
        ∙ ap (λ (later : Option SwitchState). has_answer (asked_by (switch_rules task graphs plans) later) (drop (rules_now old).trail.written (world_of new).written)) later
        ∙ ap (λ (trail : Trail). has_answer asked (drop trail.written (world_of new).written)) (trail_is (switch_rules task graphs plans) task lines old)
        ∙ agree_new.agree ∙ sym found_has

    -- and then just those responses answer that were not read
    pub poll_agree : AnswersAgree (asked_of (rings_polled driver.engine.rings reads).outstanding) (trail_of task lines new).written (length (world_of new).written) (world_of new).written
    poll_agree =
        let noted = polls_noted (switch_rules task graphs plans) task lines driver.engine.rirb.address driver.engine.rings reads old new makes flag in
        let same : (trail_of task lines new).written ≡ (trail_of task lines old).written =
        ap (λ (trail : Trail). trail.written) (sym (trail_is (switch_rules task graphs plans) task lines new)) ∙ noted.written_is
        ∙ ap (λ (trail : Trail). trail.written) (trail_is (switch_rules task graphs plans) task lines old) in
        subst (λ (written : ℕ). AnswersAgree (asked_of (rings_polled driver.engine.rings reads).outstanding) written (length (world_of new).written) (world_of new).written) (sym same)
        (agree_by driver.engine.rings.outstanding (found_by driver.engine.rings reads) (trail_of task lines old).written read (world_of new).written agree_new found_has)
