-- Kept signals stay those of the moment while settings, tag and format stay.
use Rattle.codec_graph.specs.declared.pin_kind.PinKind.{PinKind}
use Rattle.std.proofs.Common.{◌≡◌, ℕ, zero, suc, List, [], ◌∷◌, length, map, drop, get_or, Option, Some, None, refl, sym, ap, subst, ◌∙◌}
use Rattle.std.specs.Prelude.{slice_get}
use Rattle.std.specs.Option.{unwrap_or}
use Rattle.std.proofs.lemmas.List.{length-map}
use Rattle.codec_graph.specs.declared.raw.RawCodec.{RawCodec}
use Rattle.codec_graph.specs.Settings.{Entries}
use Rattle.codec_graph.specs.CodecStates.{CodecState}
use Rattle.codec_sound.specs.Keeping.{KeptSignals}
use Rattle.hda_registers.specs.Fields.{Fields}
use Rattle.device_core.specs.Codecs.{KeepCodecs, graphs_of_all, settings_of_all}
use Rattle.device_core.specs.Devices.{DeviceState, KeepsSound}
use Rattle.hda_controller.specs.Keeping.{IsKeptFor, AreKeptFor}

-- lists of codecs with the same parts have the same part at each place
pub part_there : {A : Type 0} (part : CodecState → A) (old new : List CodecState) → map part new ≡ map part old → (place : ℕ) (codec : CodecState) → slice_get new place ≡ Some codec
    → (before : CodecState) × (slice_get old place ≡ Some before) × (part before ≡ part codec)
part_there part old [] same place codec at = (let never : None ≡ Some codec = at in cc)
part_there part [] (n ∷ new) same place codec at = (let never : part n ∷ map part new ≡ [] = same in cc)
part_there part (o ∷ old) (n ∷ new) same zero codec at =
    (o, refl, sym (ap (λ xs. get_or xs 0 (part n)) same) ∙ ap (λ (found : Option CodecState). part (unwrap_or found n)) at)
part_there part (o ∷ old) (n ∷ new) same (suc place) codec at = part_there part old new (ap (drop 1) same) place codec at

same_there : (old : List CodecState) (place : ℕ) (first second : CodecState) → slice_get old place ≡ Some first → slice_get old place ≡ Some second → first ≡ second
same_there old place first second one two = ap (λ (found : Option CodecState). unwrap_or found first) (sym one ∙ two)

pub same_count : (old new : List CodecState) → graphs_of_all new ≡ graphs_of_all old → length old ≡ length new
same_count old new graphs = sym (length-map old (λ codec. codec.graph)) ∙ (ap length (sym graphs) ∙ length-map new (λ codec. codec.graph))

-- what depends on the parts alone goes over from one codec to another
IsKeptFor-by : (kind : PinKind) (tag word : ℕ) (first second : CodecState) (one : KeptSignals) → first.graph ≡ second.graph → first.settings ≡ second.settings
    → IsKeptFor kind tag word first.graph first.settings one → IsKeptFor kind tag word second.graph second.settings one
IsKeptFor-by kind tag word first second one graphs settings is =
    subst (λ (graph : RawCodec). IsKeptFor kind tag word graph second.settings one) graphs
    (subst (λ (entries : Entries). IsKeptFor kind tag word first.graph entries one) settings is)

pub codecs_stay : (kind : PinKind) (tag word : ℕ) (old new : List CodecState) (kept : List KeptSignals) → KeepCodecs old new → AreKeptFor kind tag word old kept → AreKeptFor kind tag word new kept
codecs_stay kind tag word old new kept keeps are = record {
  count = are.count ∙ same_count old new keeps.graphs;
  each = λ place codec one at there. (
      let graph = part_there (λ c. c.graph) old new keeps.graphs place codec at in
      let entries = part_there (λ c. c.settings) old new keeps.settings place codec at in
      IsKeptFor-by kind tag word graph.0 codec one graph.2
      (ap (λ (c : CodecState). c.settings) (same_there old place graph.0 entries.0 graph.1 entries.1) ∙ entries.2)
      (are.each place graph.0 one graph.1 there));
}

-- a device that keeps all that signals depend on
pub device_stays : (kind : PinKind) (old new : DeviceState) (kept : List KeptSignals) → KeepCodecs old.codecs new.codecs → KeepsSound old.registers new.registers
    → AreKeptFor kind old.registers.output.tag old.registers.output.format old.codecs kept → AreKeptFor kind new.registers.output.tag new.registers.output.format new.codecs kept
device_stays kind old new kept keeps sound are =
    subst (λ (tag : ℕ). AreKeptFor kind tag new.registers.output.format new.codecs kept) (sym sound.tag)
    (subst (λ (word : ℕ). AreKeptFor kind old.registers.output.tag word new.codecs kept) (sym sound.format)
    (codecs_stay kind old.registers.output.tag old.registers.output.format old.codecs new.codecs kept keeps are))

pub keeps_same : (old new : List CodecState) → new ≡ old → KeepCodecs old new
keeps_same old new same = record { graphs = ap graphs_of_all same; settings = ap settings_of_all same }

pub sound_same : (old new : Fields) → new ≡ old → KeepsSound old new
sound_same old new same = record { tag = ap (λ (f : Fields). f.output.tag) same; format = ap (λ (f : Fields). f.output.format) same }
