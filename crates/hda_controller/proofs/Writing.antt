-- Kept signals after a write of a register, and how often they were renewed.
use Rattle.codec_graph.specs.declared.pin_kind.PinKind.{PinKind}
use Rattle.std.proofs.Common.{◌≡◌, ℕ, Bool, true, false, List, length, map, if◌then◌else◌, ap, sym, subst, refl, ◌∙◌}
use Rattle.std.specs.Prelude.{Vec}
use Rattle.std.specs.Vec.{with_items}
use Rattle.std.proofs.lemmas.List.{with_items_is}
use Rattle.codec_graph.specs.CodecStates.{CodecState}
use Rattle.codec_sound.specs.Keeping.{KeptSignals, counted_on}
use Rattle.device_core.specs.Codecs.{KeepCodecs}
use Rattle.device_core.specs.Devices.{DeviceState, KeepsSound}
use Rattle.hda_controller.specs.Keeping.{IsKeptFor, AreKeptFor}
use Rattle.hda_controller.specs.Renewing.{all_renewed, renewed_if}
use Rattle.hda_controller.proofs.Keeping.{part_there, same_count, device_stays}
use Rattle.hda_controller.proofs.Renewed.{renewed_fits, length-all, all_there, renewals-all}

-- worked out for all codecs, they fit whatever the stream is now
all_fit : (kind : PinKind) (old new : DeviceState) (kept : List KeptSignals) (tag word : ℕ) → KeepCodecs old.codecs new.codecs
    → AreKeptFor kind old.registers.output.tag old.registers.output.format old.codecs kept → AreKeptFor kind tag word new.codecs (all_renewed kind tag word new.codecs kept)
all_fit kind old new kept tag word keeps are = record {
  count = length-all kind tag word new.codecs kept (are.count ∙ same_count old.codecs new.codecs keeps.graphs);
  each = λ place codec one at there. (
      let found = all_there kind tag word new.codecs kept place codec one at there in
      let before = part_there (λ c. c.graph) old.codecs new.codecs keeps.graphs place codec at in
      subst (λ (k : KeptSignals). IsKeptFor kind tag word codec.graph codec.settings k) found.2
      (renewed_fits kind tag word old.registers.output.tag old.registers.output.format before.0 codec found.0 before.2 (are.each place before.0 found.0 before.1 found.1)));
}

pub written_fits : (kind : PinKind) (touched : Bool) (old new : DeviceState) (kept : List KeptSignals) → KeepCodecs old.codecs new.codecs → (touched ≡ false → KeepsSound old.registers new.registers)
    → AreKeptFor kind old.registers.output.tag old.registers.output.format old.codecs kept → AreKeptFor kind new.registers.output.tag new.registers.output.format new.codecs (renewed_if kind touched new kept)
written_fits kind true old new kept keeps sound are = all_fit kind old new kept new.registers.output.tag new.registers.output.format keeps are
written_fits kind false old new kept keeps sound are = device_stays kind old new kept keeps (sound refl) are

pub written_renewals : (kind : PinKind) (touched : Bool) (old new : DeviceState) (kept : List KeptSignals) → KeepCodecs old.codecs new.codecs → length kept ≡ length old.codecs
    → map (λ one. one.renewals) (renewed_if kind touched new kept) ≡ (if touched then map counted_on (map (λ one. one.renewals) kept) else map (λ one. one.renewals) kept)
written_renewals kind true old new kept keeps count =
    renewals-all kind new.registers.output.tag new.registers.output.format new.codecs kept (count ∙ same_count old.codecs new.codecs keeps.graphs)
written_renewals kind false old new kept keeps count = refl

renewed_count : (kind : PinKind) (touched : Bool) (device : DeviceState) (kept : List KeptSignals) → length kept ≡ length device.codecs → length (renewed_if kind touched device kept) ≡ length kept
renewed_count kind true device kept is = length-all kind device.registers.output.tag device.registers.output.format device.codecs kept is ∙ sym is
renewed_count kind false device kept is = refl

-- put back into their vector
pub kept_back : {Z : Type 0} (kind : PinKind) (v : Vec KeptSignals Z) (kept : List KeptSignals) (touched : Bool) (old : List CodecState) (new : DeviceState) → kept ≡ renewed_if kind touched new v.items
    → length v.items ≡ length old → KeepCodecs old new.codecs → (with_items v kept).items ≡ renewed_if kind touched new v.items
kept_back kind v kept touched old new is count keeps =
    with_items_is v kept (ap length is ∙ (renewed_count kind touched new v.items (count ∙ same_count old new.codecs keeps.graphs) ∙ sym v.ok.0)) ∙ is
