-- What the one converter hears that takes the stream is kept.
use Rattle.std.proofs.Common.{◌≡◌, ◌≢◌, ◌/◌, ◌==◌, inl, inr, not, ℕ, Bool, true, false, List, [], ◌∷◌, ◌++◌, Some, if◌then◌else◌, refl, sym, ap, ap₂, subst, ◌∙◌, arith}
use Rattle.std.specs.Prelude.{All}
use Rattle.std.proofs.lemmas.List.Elements.{All-head, All-tail}
use Rattle.codec_graph.specs.declared.raw.RawCodec.{RawCodec}
use Rattle.codec_graph.specs.Settings.{Entries}
use Rattle.codec_graph.specs.CodecStates.{CodecState, plugged, without_first, without_answer}
use Rattle.codec_graph.proofs.Callers.{graph-plugged, settings-plugged}
use Rattle.codec_sound.specs.declared.in_heard.InHeard.{InHeard}
use Rattle.codec_sound.specs.declared.in_heard.InHeard.TheVariants.{Pin}
use Rattle.hda_registers.specs.declared.shapes.Width.{Width}
use Rattle.hda_registers.specs.Fields.{Fields, Global, is_out_of_reset}
use Rattle.hda_registers.proofs.Callers.{keeps-reset, keeps-left, not_control, written_pointers}
use Rattle.period_writer.specs.Standing.{Ring}
use Rattle.stream_format.specs.declared.format.Format.{Format}
use Rattle.stream_format.specs.Words.{format_word}
use Rattle.world_rings.proofs.Callers.{batch_registers, none_fetched}
use Rattle.hda_world.specs.Worlds.{World, with_codec}
use Rattle.hda_world.specs.Arriving.{brought_by_codec, brought_by, brought_alone, listened}
use Rattle.hda_world.specs.Steps.{passed}
use Rattle.hda_world.specs.Kept.{Kept}
use Rattle.hda_world.specs.Events.{Event, Stepped, Begin, End, Read, Write, DmaRead, DmaWrite, happens, after, after_write}
use Rattle.hda_world.proofs.Callers.{passed_global, frames_after, by_moves, kept_step, plain_write}
use Rattle.laws_recording.specs.Beside.{LeavesFilling}
use Rattle.laws_recording.specs.Sound.{HearsGiven}

-- ---- what is heard depends on graphs and settings alone

module _ (tag word address : ℕ) (change : CodecState → CodecState) (graphs : (codec : CodecState) → (change codec).graph ≡ codec.graph) (settings : (codec : CodecState) → (change codec).settings ≡ codec.settings) where
  brought_one : (named : Bool) (codec : CodecState) → brought_by_codec tag word (if named then change codec else codec) ≡ brought_by_codec tag word codec
  brought_one true codec =
      ap₂ (λ (graph : RawCodec) (settings : Entries). brought_by_codec tag word (record codec { graph = graph; settings = settings })) (graphs codec) (settings codec)
  brought_one false codec = refl

  brought_same : (codecs : List CodecState) → brought_by tag word (with_codec address change codecs) ≡ brought_by tag word codecs
  brought_same [] = refl
  brought_same (codec ∷ codecs) =
      ap₂ (λ (first rest : List InHeard). first ++ rest) (brought_one (codec.graph.address == address) codec) (brought_same codecs)

  heard_same : (codecs : List CodecState) → listened tag word (with_codec address change codecs) ≡ listened tag word codecs
  unfolding listened
  heard_same codecs = ap brought_alone (brought_same codecs)

-- ---- steps

record HearsBy (format : Format) (nid read write : ℕ) (codecs : List CodecState) : Type 0 where
  fetched : read ≡ write
  listens : listened 1 (format_word format) codecs ≡ Some (Pin nid)

abbrev Hears : Format → ℕ → World → Type 0
Hears format nid world = HearsBy format nid world.registers.global.corb_read_pointer world.registers.global.corb_write_pointer world.codecs

module _ (format : Format) (nid : ℕ) where
  changed : (world : World) (address : ℕ) (change : CodecState → CodecState) → ((codec : CodecState) → (change codec).graph ≡ codec.graph) → ((codec : CodecState) → (change codec).settings ≡ codec.settings) → Hears format nid world
      → HearsBy format nid world.registers.global.corb_read_pointer world.registers.global.corb_write_pointer (with_codec address change world.codecs)
  changed world address change graphs settings hears = record {
    fetched = hears.fetched;
    listens = heard_same 1 (format_word format) address change graphs settings world.codecs ∙ hears.listens;
  }

  passes : (world : World) → Hears format nid world → Hears format nid (passed world)
  passes world hears = subst (λ (g : Global). HearsBy format nid g.corb_read_pointer g.corb_write_pointer world.codecs) (sym (passed_global world)) hears

  hears_kept : Kept (Hears format nid)
  hears_kept = record {
    codecs = record {
      hands = λ world hears can free.
          none_fetched (is_out_of_reset world.registers.global) (world.registers.global.corb_run == 1) (not (world.registers.global.corb_pointer_reset == 1)) world.registers.global.corb_read_pointer world.registers.global.corb_write_pointer hears.fetched can;
      sends = λ world address item rest hears out room are. changed world address without_first (λ codec. refl) (λ codec. refl) hears;
      loses = λ world address hears out. changed world address without_answer (λ codec. refl) (λ codec. refl) hears;
      plugs = λ world address nid present hears. changed world address (λ codec. plugged codec nid present) (graph-plugged nid present) (settings-plugged nid present) hears;
    };
    responds = λ world response rest hears can are.
        subst (λ (f : Fields). HearsBy format nid f.global.corb_read_pointer f.global.corb_write_pointer world.codecs) (sym (batch_registers response rest world.registers)) hears;
    bytes = record {
      comes = λ world hears can room good is. hears;
      ends = λ world hears can room good is. hears;
      breaks = λ world hears can room bad. hears;
      refuses = λ world hears must. hears;
    };
    input = by_moves (Hears format nid) (λ world change hears moves. hears);
    passes = λ world hears out still. passes world hears;
    frames = frames_after (Hears format nid) (λ world hears out. passes world hears) (record {
      gaps = λ world hears can none. hears;
      sends = λ world hears can some enough. hears;
      misses = λ world hears can short. hears;
      stops = λ world hears must. hears;
    });
  }

  seen : (world : World) → HearsGiven format nid world → Hears format nid world
  seen world hears = record { fetched = hears.fetched; listens = hears.listens }

  told : (world : World) → Hears format nid world → HearsGiven format nid world
  told world hears = record { fetched = hears.fetched; listens = hears.listens }

-- ---- events

-- an event writes neither GCTL nor CORB's pointers
abbrev pub LeavesHearing : Event → Type 0
LeavesHearing (Write at width value) = (at / 4 ≢ 2) × (at / 4 ≢ 18)
LeavesHearing (Stepped step) = Unit {0}
LeavesHearing Begin = Unit {0}
LeavesHearing End = Unit {0}
LeavesHearing (Read at width value) = Unit {0}
LeavesHearing (DmaRead at bytes) = Unit {0}
LeavesHearing (DmaWrite at bytes) = Unit {0}

-- an event that leaves a ring alone is one
pub fill_hears : (ring : Ring) (event : Event) → LeavesFilling ring event → LeavesHearing event
fill_hears ring (Write at width value) (inl (rings, input)) = (not_control at rings.control, λ same. elim rings.rings [ inl below ↦ absurd (omega (arith, below, same)) | inr above ↦ absurd (omega (arith, above, same)) ])
fill_hears ring (Write at width value) (inr (inl status)) = let is = status.at_is in (λ same. absurd (omega (arith, is, same)), λ same. absurd (omega (arith, is, same)))
fill_hears ring (Write at width value) (inr (inr status)) = let is = status.at_is in (λ same. absurd (omega (arith, is, same)), λ same. absurd (omega (arith, is, same)))
fill_hears ring (Stepped step) leaves = tt
fill_hears ring Begin leaves = tt
fill_hears ring End leaves = tt
fill_hears ring (Read at width value) leaves = tt
fill_hears ring (DmaRead at bytes) leaves = tt
fill_hears ring (DmaWrite at bytes) leaves = tt

module _ (format : Format) (nid : ℕ) where
  write_hears : (world : World) (at value : ℕ) (width : Width) → at / 4 ≢ 2 → at / 4 ≢ 18 → HearsGiven format nid world → HearsGiven format nid (after_write at width value world)
  write_hears world at value width control corb hears =
      let plain = plain_write world at value width (keeps-reset world.registers at width value control) (keeps-left world.registers at width value control) in
      let keeps = written_pointers world.registers at width value control corb (is_out_of_reset world.registers.global) refl in
      record {
        fetched = ap (λ (w : World). w.registers.global.corb_read_pointer) plain ∙ keeps.read ∙ hears.fetched ∙ sym (ap (λ (w : World). w.registers.global.corb_write_pointer) plain ∙ keeps.write);
        listens = ap (λ (w : World). listened 1 (format_word format) w.codecs) plain ∙ hears.listens;
      }

  pub event_hears : (event : Event) (world : World) → LeavesHearing event → HearsGiven format nid world → HearsGiven format nid (happens world event)
  event_hears (Stepped step) world leaves hears = told format nid (happens world (Stepped step)) (kept_step (Hears format nid) (hears_kept format nid) step world (seen format nid world hears))
  event_hears Begin world leaves hears = hears
  event_hears End world leaves hears = hears
  event_hears (Read at width value) world leaves hears = hears
  event_hears (Write at width value) world leaves hears = write_hears world at value width leaves.0 leaves.1 hears
  event_hears (DmaRead at bytes) world leaves hears = hears
  event_hears (DmaWrite at bytes) world leaves hears = record { fetched = hears.fetched; listens = hears.listens }

  pub events_hear : (events : List Event) (world : World) → All LeavesHearing events → HearsGiven format nid world → HearsGiven format nid (after events world)
  events_hear [] world leave hears = hears
  events_hear (event ∷ events) world leave hears =
      events_hear events (happens world event) (All-tail LeavesHearing event events leave) (event_hears event world (All-head LeavesHearing event events leave) hears)
