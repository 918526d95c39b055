-- Kept signals after a step of CORB's engine.
use Rattle.codec_graph.specs.declared.pin_kind.PinKind.{PinKind}
use Rattle.std.proofs.Common.{◌≡◌, ◌≢◌, inl, inr, ℕ, zero, suc, Bool, true, false, List, [], ◌∷◌, length, map, set, get_or, Option, Some, None, if◌then◌else◌, refl, sym, ap, subst, ◌∙◌}
use Rattle.std.specs.Prelude.{Vec, IfSome, slice_get, slice_index, slice_set}
use Rattle.std.specs.Vec.{with_items}
use Rattle.std.proofs.lemmas.List.{with_items_is}
use Rattle.codec_graph.specs.Settings.{put_all}
use Rattle.codec_graph.specs.CodecStates.{CodecState, taken, reading_settings}
use Rattle.codec_graph.specs.VerbMeaning.{after, writes_of, verb_writes}
use Rattle.verb_codes.specs.declared.verbs.Command.{Command}
use Rattle.verb_codes.specs.declared.verbs.Verb.{Verb}
use Rattle.verb_codes.specs.declared.verbs.Verb.TheVariants.{GetParam, GetSelect, SetSelect, GetList, GetPower, SetPower, GetStream, SetStream, GetPin, SetPin, GetUnsol, SetUnsol, GetSense, GetEapd, SetEapd, GetDigital, SetDigital, GetDefault, SetDefault, GetFormat, SetFormat, GetAmp, SetAmp}
use Rattle.verb_codes.specs.Verbs.{reading_of}
use Rattle.codec_sound.specs.Keeping.{KeptSignals, counted_on}
use Rattle.hda_world.specs.Worlds.{with_codec}
use Rattle.hda_world.specs.Steps.{address_of}
use Rattle.device_core.specs.declared.codecs.Handed.{Handed}
use Rattle.device_core.specs.Codecs.{AreAddresses, addresses_of, KeepCodecs, graphs_of_all, with_handed, handed_by}
use Rattle.device_core.specs.Devices.{DeviceState, KeepsSound}
use Rattle.device_core.proofs.Callers.{changed_here, keeps-with_codec, parts-with_codec, IsThere, handed_there}
use Rattle.hda_controller.specs.Commands.{is_set_verb, is_set_reading, is_set_command}
use Rattle.hda_controller.specs.Keeping.{IsKeptFor, AreKeptFor}
use Rattle.hda_controller.specs.Renewing.{one_renewed, renewed_after}
use Rattle.hda_controller.specs.Controllers.{renewals_handed}
use Rattle.hda_controller.proofs.Keeping.{part_there, same_count, device_stays, keeps_same}
use Rattle.hda_controller.proofs.Renewed.{renewed_fits, length-one, renewals-one, one_there}

-- ---- a command that sets nothing leaves the settings

verb_sets_none : (codec : CodecState) (nid : ℕ) (verb : Verb) → is_set_verb verb ≡ false → verb_writes codec.graph codec.settings nid verb ≡ []
verb_sets_none codec nid (GetParam number) none = refl
verb_sets_none codec nid GetSelect none = refl
verb_sets_none codec nid (SetSelect place) none = cc
verb_sets_none codec nid (GetList place) none = refl
verb_sets_none codec nid GetPower none = refl
verb_sets_none codec nid (SetPower state) none = cc
verb_sets_none codec nid GetStream none = refl
verb_sets_none codec nid (SetStream stream) none = cc
verb_sets_none codec nid GetPin none = refl
verb_sets_none codec nid (SetPin control) none = cc
verb_sets_none codec nid GetUnsol none = refl
verb_sets_none codec nid (SetUnsol control) none = cc
verb_sets_none codec nid GetSense none = refl
verb_sets_none codec nid GetEapd none = refl
verb_sets_none codec nid (SetEapd control) none = cc
verb_sets_none codec nid GetDigital none = refl
verb_sets_none codec nid (SetDigital control) none = cc
verb_sets_none codec nid GetDefault none = refl
verb_sets_none codec nid (SetDefault place byte) none = cc
verb_sets_none codec nid GetFormat none = refl
verb_sets_none codec nid (SetFormat format) none = cc
verb_sets_none codec nid (GetAmp side) none = refl
verb_sets_none codec nid (SetAmp setting) none = cc

reading_sets_none : (codec : CodecState) (reading : Option Command) → is_set_reading reading ≡ false → reading_settings codec reading ≡ codec.settings
unfolding after writes_of
reading_sets_none codec None none = refl
reading_sets_none codec (Some command) none = ap (put_all codec.settings) (verb_sets_none codec command.nid command.verb none)

get-set_other : {A : Type 0} (xs : List A) (place other : ℕ) (x : A) → other ≢ place → slice_get (set xs place x) other ≡ slice_get xs other
get-set_other [] place other x apart = refl
get-set_other (y ∷ xs) zero zero x apart = absurd (apart refl)
get-set_other (y ∷ xs) zero (suc other) x apart = refl
get-set_other (y ∷ xs) (suc place) zero x apart = refl
get-set_other (y ∷ xs) (suc place) (suc other) x apart = get-set_other xs place other x (λ same. apart (ap suc same))

module _ (kind : PinKind) (tag word : ℕ) (codecs : List CodecState) (kept : List KeptSignals) (handed : Handed) where
  abbrev after_command : List CodecState
  after_command = with_codec (address_of handed.word) (λ codec. taken codec handed.word) codecs

  pub command_leaves : is_set_command handed.word ≡ false → KeepCodecs codecs after_command
  command_leaves none =
      keeps-with_codec (address_of handed.word) (λ codec. taken codec handed.word) (λ codec. refl) (λ codec. reading_sets_none codec (reading_of handed.word) none) codecs

  graphs_stay : graphs_of_all after_command ≡ graphs_of_all codecs
  graphs_stay = parts-with_codec (λ codec. codec.graph) (address_of handed.word) (λ codec. taken codec handed.word) (λ codec. refl) codecs

  pub count_stays : length codecs ≡ length after_command
  count_stays = same_count codecs after_command graphs_stay

  pub command_fits : AreAddresses (addresses_of codecs) → IsThere codecs handed → AreKeptFor kind tag word codecs kept
      → AreKeptFor kind tag word after_command (one_renewed kind tag word after_command handed.place kept)
  command_fits addresses there are = record {
    count = length-one kind tag word after_command handed.place kept (are.count ∙ count_stays);
    each = λ other codec one at here. (
        let found = one_there kind tag word after_command handed.place kept other codec one at here in
        elim found.2 [
          | inl hit ↦ (
              let before = part_there (λ c. c.graph) codecs after_command graphs_stay other codec at in
              subst (λ (k : KeptSignals). IsKeptFor kind tag word codec.graph codec.settings k) hit.1
              (renewed_fits kind tag word tag word before.0 codec found.0 before.2 (are.each other before.0 found.0 before.1 found.1)))
          | inr apart ↦ (
              let stays = get-set_other codecs handed.place other (taken (get_or codecs handed.place codec) handed.word) apart.0 in
              let put = changed_here (address_of handed.word) (λ c. taken c handed.word) codecs handed.place codec addresses.ascend there.place in
              subst (λ (k : KeptSignals). IsKeptFor kind tag word codec.graph codec.settings k) apart.1
              (are.each other codec found.0 (sym stays ∙ (ap (λ (list : List CodecState). slice_get list other) (sym put) ∙ at)) found.1))
        ]);
  }

-- ---- whether or not a command was handed

module _ (kind : PinKind) (old new : DeviceState) (kept : List KeptSignals) (count : length kept ≡ length old.codecs) where
  abbrev tag_now : ℕ
  tag_now = new.registers.output.tag

  abbrev word_now : ℕ
  word_now = new.registers.output.format

  -- the device took the command, and its stream is as it was
  set_fits : (handed : Handed) (set : Bool) → is_set_command handed.word ≡ set → AreAddresses (addresses_of old.codecs) → IsThere old.codecs handed
      → KeepsSound old.registers new.registers → new.codecs ≡ with_handed (Some handed) old.codecs → AreKeptFor kind old.registers.output.tag old.registers.output.format old.codecs kept
      → AreKeptFor kind tag_now word_now new.codecs (if set then one_renewed kind tag_now word_now new.codecs handed.place kept else kept)
  set_fits handed true is addresses there sound codecs are =
      subst (λ (list : List CodecState). AreKeptFor kind tag_now word_now list (one_renewed kind tag_now word_now list handed.place kept)) (sym codecs)
      (subst (λ (tag : ℕ). AreKeptFor kind tag word_now (with_handed (Some handed) old.codecs) (one_renewed kind tag word_now (with_handed (Some handed) old.codecs) handed.place kept)) (sym sound.tag)
      (subst (λ (word : ℕ). AreKeptFor kind old.registers.output.tag word (with_handed (Some handed) old.codecs) (one_renewed kind old.registers.output.tag word (with_handed (Some handed) old.codecs) handed.place kept)) (sym sound.format)
      (command_fits kind old.registers.output.tag old.registers.output.format old.codecs kept handed addresses there are)))
  set_fits handed false is addresses there sound codecs are =
      device_stays kind old new kept (subst (λ (list : List CodecState). KeepCodecs old.codecs list) (sym codecs) (command_leaves kind old.registers.output.tag old.registers.output.format old.codecs kept handed is)) sound are

  pub handed_fits : (o : Option Handed) → IfSome o (IsThere old.codecs) → AreAddresses (addresses_of old.codecs) → KeepsSound old.registers new.registers
      → new.codecs ≡ with_handed o old.codecs → AreKeptFor kind old.registers.output.tag old.registers.output.format old.codecs kept → AreKeptFor kind tag_now word_now new.codecs (renewed_after kind o new kept)
  handed_fits None there addresses sound codecs are = device_stays kind old new kept (keeps_same old.codecs new.codecs codecs) sound are
  handed_fits (Some handed) there addresses sound codecs are = set_fits handed (is_set_command handed.word) refl addresses there sound codecs are

  -- as many codecs as before
  pub count_after : (o : Option Handed) → new.codecs ≡ with_handed o old.codecs → length kept ≡ length new.codecs
  count_after None codecs = count ∙ ap length (sym codecs)
  count_after (Some handed) codecs = count ∙ (count_stays kind old.registers.output.tag old.registers.output.format old.codecs kept handed ∙ ap length (sym codecs))

  set_renewals : (handed : Handed) (set : Bool) → length kept ≡ length new.codecs
      → map (λ one. one.renewals) (if set then one_renewed kind tag_now word_now new.codecs handed.place kept else kept)
      ≡ (if set then slice_set (map (λ one. one.renewals) kept) handed.place (counted_on (slice_index (map (λ one. one.renewals) kept) handed.place)) else map (λ one. one.renewals) kept)
  set_renewals handed true size = renewals-one kind tag_now word_now new.codecs handed.place kept size
  set_renewals handed false size = refl

  pub handed_renewals : (o : Option Handed) → new.codecs ≡ with_handed o old.codecs → map (λ one. one.renewals) (renewed_after kind o new kept) ≡ renewals_handed o (map (λ one. one.renewals) kept)
  handed_renewals None codecs = refl
  handed_renewals (Some handed) codecs = set_renewals handed (is_set_command handed.word) (count_after (Some handed) codecs)

  set_count : (handed : Handed) (set : Bool) → length kept ≡ length new.codecs → length (if set then one_renewed kind tag_now word_now new.codecs handed.place kept else kept) ≡ length kept
  set_count handed true size = length-one kind tag_now word_now new.codecs handed.place kept size ∙ sym size
  set_count handed false size = refl

  pub renewed_count : (o : Option Handed) → new.codecs ≡ with_handed o old.codecs → length (renewed_after kind o new kept) ≡ length kept
  renewed_count None codecs = refl
  renewed_count (Some handed) codecs = set_count handed (is_set_command handed.word) (count_after (Some handed) codecs)

-- put back into their vector
pub handed_back : {Z : Type 0} (kind : PinKind) (v : Vec KeptSignals Z) (kept : List KeptSignals) (o : Option Handed) (old new : DeviceState) → kept ≡ renewed_after kind o new v.items
    → length v.items ≡ length old.codecs → new.codecs ≡ with_handed o old.codecs → (with_items v kept).items ≡ renewed_after kind o new v.items
handed_back kind v kept o old new is count codecs =
    with_items_is v kept (ap length is ∙ (renewed_count kind old new v.items count o codecs ∙ sym v.ok.0)) ∙ is

pub none_or_there : (o : Option Handed) (next : Option ℕ) (codecs : List CodecState) → o ≡ handed_by next codecs → IfSome o (IsThere codecs)
none_or_there o next codecs is = subst (λ (o : Option Handed). IfSome o (IsThere codecs)) (sym is) (handed_there next codecs)
