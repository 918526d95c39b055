-- How rigs that went on go on.
use Rattle.std.proofs.Common.{◌≡◌, ◌≤◌, ℕ, Bool, List, [], ◌∷◌, ◌++◌, length, Option, refl, sym, ap, subst, ◌∙◌, arith, append_assoc}
use Rattle.std.proofs.lemmas.List.{length-append}
use Rattle.hda_outside.specs.Shelf.{Files}
use Rattle.hda_outside.specs.declared.pieces.Cut.{Cut}
use Rattle.wav_reader.specs.Shelves.{HasFile}
use Rattle.wav_reader.specs.Supplies.{Source, Supplied, MayGive, taken_between}
use Rattle.wav_reader.specs.Wavs.{ring_bytes}
use Rattle.wav_reader.proofs.Callers.{bytes_both}
use Rattle.period_writer.specs.declared.course.Course.{Course}
use Rattle.period_writer.specs.declared.geometry.Geometry.{Geometry}
use Rattle.period_writer.specs.Writers.{WriterState}
use Rattle.period_writer.specs.Runs.{Measures, measures}
use Rattle.period_writer.specs.Writers.{measures_of}
use Rattle.driver_bring_up.specs.declared.bringing.BringUp.{BringUp}
use Rattle.std.specs.Prelude.{false, OnOk, IfOk, Result, Ok, Err}
use Rattle.stream_format.specs.declared.format.Format.{Format}
use Rattle.route_setup.specs.Means.{StreamMeaning}
use Rattle.schedule_reader.specs.declared.schedule.Item.{Item}
use Rattle.schedule_reader.specs.declared.schedule.Item.TheVariants.{Drive}
use Rattle.schedule_reader.specs.declared.schedule.DriverLine.{DriverLine as Line}
use Rattle.hda_world.specs.Events.{Event}
use Rattle.rig.specs.declared.rig.Rig.{Rig}
use Rattle.rig.specs.declared.setting.Setting.{Setting}
use Rattle.rig.specs.Rigs.{telling_of, setting_of}
use Rattle.rig.specs.Follows.{FollowItems}
use Rattle.rig.specs.Stretches.{IsStretchFrom}
use Rattle.program_runs.specs.Feeding.{Shelves, IsFed, IsFedSo, Took}
use Rattle.program_runs.specs.Going.{Goes, Ran, RanLine, Player, Stand, IsFedFrom, sounded, parts_of, stand_of}
use Rattle.program_runs.proofs.Goes.{FollowBoth, goes_none, goes_both}
use Rattle.program_runs.proofs.Feeds.{fed_on}
use Rattle.program_runs.proofs.FedRings.{took_line}

-- nothing was taken
pub took_none : (told : Shelves) (supply : Supplied) → Took [] told supply supply
took_none told supply = record { may = λ later may. may; taken = omega arith; source_is = refl; next = λ source file is tells next. next; gave_is = λ source file is tells next. refl }

-- some bytes and then others, with the same files told
pub took_both : (first second : List ℕ) (told told' : Shelves) (old middle new : Supplied) → ((name : List ℕ) → (told' name).told ≡ (told name).told) → Took first told old middle → Took second told' middle new → Took (first ++ second) told old new
took_both first second told told' old middle new same one other =
    let taken = one.taken in
    let more = other.taken in
    let both = length-append first second in
    record {
      may = λ later may. subst (MayGive old) (sym (append_assoc first second later)) (one.may (second ++ later) (other.may later may));
      taken = omega (arith, taken, more, both);
      source_is = other.source_is ∙ one.source_is;
      next = λ source file is tells next. other.next source file (one.source_is ∙ is) (still source file tells) (one.next source file is tells next);
      gave_is = λ source file is tells next.
          bytes_both first second old.taken middle.taken (ring_bytes file source.head) (one.gave_is source file is tells next) one.taken
          (other.gave_is source file (one.source_is ∙ is) (still source file tells) (one.next source file is tells next));
    }
  where
    still : (source : Source) (file : List ℕ) → HasFile (told source.name).told source.name source.head file → HasFile (told' source.name).told source.name source.head file
    still source file tells = subst (λ (told : Option Files). HasFile told source.name source.head file) (sym (same source.name)) tells

-- nothing was run
pub ran_none : (means : StreamMeaning) (format : Format) (play : Bool) → FollowItems [] [] → (stand : Stand) → (setting_of stand.rig).in_run ≡ false → Ran means format play [] stand stand
ran_none means format play none stand between = record {
  gave = [];
  took = took_none stand.shelf stand.player.supply;
  goes = λ later may. goes_none means format play none (sounded stand.player later) (telling_of stand.rig);
  fed = λ source first fed. fed;
  told_is = λ name. refl;
  format_is = refl;
  between = between;
  machine = refl;
  kind = refl;
}

-- some items and then others, where what the setter means, the format and whether it plays stayed
pub ran_both : (means means' : StreamMeaning) (format : Format) (play play' : Bool) → FollowBoth → (first second : List Item) (old middle new : Stand)
    → means' ≡ means → format ≡ old.player.bring_up.agenda.format → play' ≡ play → Ran means format play first old middle
    → Ran means' middle.player.bring_up.agenda.format play' second middle new → Ran means format play (first ++ second) old new
ran_both means means' format play play' follow first second old middle new same is plays one other =
    let stays : middle.player.bring_up.agenda.format ≡ format = one.format_is ∙ sym is in
    record {
      gave = one.gave ++ other.gave;
      took = took_both one.gave other.gave old.shelf middle.shelf old.player.supply middle.player.supply new.player.supply one.told_is one.took other.took;
      goes = λ later may.
          (let sound = other.gave ++ later in
          let begun = one.goes sound (other.took.may later may) in
          let next : Goes means format play second (sounded middle.player sound) (sounded new.player later) (telling_of middle.rig) (telling_of new.rig) =
          subst (λ (m : StreamMeaning). Goes m format play second (sounded middle.player sound) (sounded new.player later) (telling_of middle.rig) (telling_of new.rig)) same
          (subst (λ (f : Format). Goes means' f play second (sounded middle.player sound) (sounded new.player later) (telling_of middle.rig) (telling_of new.rig)) stays
          (subst (λ (p : Bool). Goes means' middle.player.bring_up.agenda.format p second (sounded middle.player sound) (sounded new.player later) (telling_of middle.rig) (telling_of new.rig)) plays (other.goes later may))) in
          subst (λ (all : List ℕ). Goes means format play (first ++ second) (sounded old.player all) (sounded new.player later) (telling_of old.rig) (telling_of new.rig)) (sym (append_assoc one.gave other.gave later))
          (goes_both means format play follow first second (sounded old.player (one.gave ++ sound)) (sounded middle.player sound) (sounded new.player later) (telling_of old.rig) (telling_of middle.rig) (telling_of new.rig) begun next));
      fed = λ source moment fed. other.fed source moment (one.fed source moment fed);
      told_is = λ name. other.told_is name ∙ one.told_is name;
      format_is = other.format_is ∙ one.format_is;
      between = other.between;
      machine = other.machine ∙ one.machine;
      kind = other.kind ∙ one.kind;
    }

-- a supply that is fed is so later on
pub fed_so : (m m' : Measures) (now now' : Shelves) (cut cut' : Option Cut) (supply supply' : Supplied) (course course' : Course)
    → ((source : Option Source) (first : Shelves) → IsFed m source first now cut supply course → IsFed m' source first now' cut' supply' course') → IsFedSo m now cut supply course → IsFedSo m' now' cut' supply' course'
fed_so m m' now now' cut cut' supply supply' course course' keeps fed = record { source = fed.source; first = fed.first; is = keeps fed.source fed.first fed.is }

-- a run is a stretch of the groups with which it began, from where it began
pub stretched_from : (now middle begun : Setting) (journal : List Event) → now ≡ middle → middle ≡ begun → IsStretchFrom now.begun now.groups journal → IsStretchFrom begun.begun begun.groups journal
stretched_from now middle begun journal kept same stretched = subst (λ (setting : Setting). IsStretchFrom setting.begun setting.groups journal) (kept ∙ same) stretched

-- what holds where a call answered leads to what follows from it
pub on_ok : {X E : Type 0} {A B : Type 0} (result : Result X E) → (A → B) → OnOk result A → OnOk result B
on_ok {X} {E} {A} {B} (Ok x) leads holds = leads holds
on_ok {X} {E} {A} {B} (Err e) leads holds = tt

pub on_ok_both : {X E : Type 0} {A B C : Type 0} (result : Result X E) → (A → B → C) → OnOk result A → OnOk result B → OnOk result C
on_ok_both {X} {E} {A} {B} {C} (Ok x) leads one other = leads one other
on_ok_both {X} {E} {A} {B} {C} (Err e) leads one other = tt

pub if_ok : {X E : Type 0} {A B : X → Type 0} (result : Result X E) → ((x : X) → A x → B x) → IfOk result A → IfOk result B
if_ok {X} {E} {A} {B} (Ok x) leads holds = leads x holds
if_ok {X} {E} {A} {B} (Err e) leads holds = tt

-- a driver line that was run after a fill, where the fill left all but the supply
module _ (means means' : StreamMeaning) (format : Format) (play play' : Bool) (line : Line) (old : Stand) (middle : Player) (shelf : Shelves) (cut : Option Cut) (new : Player) (rig : Rig) where
  filled_ran : means' ≡ means → format ≡ old.player.bring_up.agenda.format → play' ≡ play → middle.bring_up ≡ old.player.bring_up → middle.writer ≡ old.player.writer
      → RanLine means' middle.bring_up.agenda.format play' line middle new old.rig rig
      → RanLine means format play line (parts_of old.player.bring_up old.player.writer middle.supply) new old.rig rig
  filled_ran same is plays bring_up writer ran =
      subst (λ (f : Format). RanLine means f play line (parts_of old.player.bring_up old.player.writer middle.supply) new old.rig rig) (sym is)
      (subst (λ (w : WriterState). RanLine means old.player.bring_up.agenda.format play line (parts_of old.player.bring_up w middle.supply) new old.rig rig) writer
      (subst (λ (b : BringUp). RanLine means b.agenda.format play line (parts_of b middle.writer middle.supply) new old.rig rig) bring_up
      (subst (λ (p : Bool). RanLine means middle.bring_up.agenda.format p line middle new old.rig rig) plays
      (subst (λ (m : StreamMeaning). RanLine m middle.bring_up.agenda.format play' line middle new old.rig rig) same ran))))

  pub ran_filled : means' ≡ means → format ≡ old.player.bring_up.agenda.format → play' ≡ play → middle.bring_up ≡ old.player.bring_up → middle.writer ≡ old.player.writer
      → ((source : Option Source) (first : Shelves) → IsFedFrom source first old → IsFed (measures_of old.player.writer) source first shelf cut middle.supply old.player.writer.course)
      → Took [] old.shelf old.player.supply middle.supply → ((name : List ℕ) → (shelf name).told ≡ (old.shelf name).told) → length middle.supply.held ≤ middle.supply.left
      → new.writer.geometry ≡ middle.writer.geometry → RanLine means' middle.bring_up.agenda.format play' line middle new old.rig rig
      → Ran means format play (Drive line ∷ []) old (stand_of new.bring_up new.writer new.supply shelf cut rig)
  ran_filled same is plays bring_up writer fed took told rule ring line_ran = by (filled_ran same is plays bring_up writer line_ran) where
    by : RanLine means format play line (parts_of old.player.bring_up old.player.writer middle.supply) new old.rig rig
        → Ran means format play (Drive line ∷ []) old (stand_of new.bring_up new.writer new.supply shelf cut rig)
    by ran = record {
      gave = taken_between middle.supply new.supply;
      took = took_both [] (taken_between middle.supply new.supply) old.shelf shelf old.player.supply middle.supply new.supply told took (took_line shelf middle.supply new.supply ran.taken rule);
      goes = ran.goes;
      fed = λ source first was.
          subst (λ (geometry : Geometry). IsFed (measures geometry) source first shelf cut new.supply new.writer.course) (sym (ring ∙ ap (λ (w : WriterState). w.geometry) writer))
          (fed_on (measures_of old.player.writer) source first shelf cut middle.supply new.supply old.player.writer.course new.writer.course ran.taken ran.accounts (fed source first was));
      told_is = told;
      format_is = ran.format_is;
      between = ran.between;
      machine = ran.machine;
      kind = ran.kind;
    }
