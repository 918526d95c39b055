-- Blocks that wait until they are heard.
use Rattle.codec_graph.specs.declared.pin_kind.PinKind.{PinKind}
use Rattle.std.proofs.Common.{◌≡◌, ◌≤◌, ◌+◌, ◌*◌, true, ℕ, List, [], ◌++◌, length, map, ◌∷◌, Option, Some, None, refl, sym, ap, subst, ◌∙◌, arith, length-append}
use Rattle.std.proofs.Math.Nat.{zero-div, add-mul}
use Rattle.std.proofs.lemmas.List.Elements.{All-map}
use Rattle.codec_graph.specs.CodecStates.{CodecState}
use Rattle.stream_format.specs.Layouts.{Layout, layout_of}
use Rattle.world_streams.proofs.Callers.{some_block}
use Rattle.codec_sound.specs.declared.signals.Signal.{Signal}
use Rattle.heard_frames.specs.HeardLists.{block_size}
use Rattle.device_core.specs.Devices.{DeviceState, KeepsSound}
use Rattle.heard_frames.specs.declared.heard.Heard.TheVariants.{Hole}
use Rattle.heard_lists.specs.Listings.{Listing, HasRoom, with_blocks, with_items}
use Rattle.heard_lists.proofs.Callers.{both_count, blocks-on, no-blocks, HasRoom-fewer}
use Rattle.hda_controller.specs.Controllers.{is_candidate_of_kind}
use Rattle.hda_controller.specs.Hearing.{AreHeardAs}
use Rattle.hda_controller.specs.Unheard.{block_count, AreWhole, with_heard, layout_now, heard_now}
use Rattle.hda_controller.proofs.Growth.{signals}

-- ---- nothing waits

pub whole-none : (found : Option Layout) → AreWhole found []
whole-none None = refl
whole-none (Some layout) = rw zero-div (omega arith)

pub count-none : (found : Option Layout) → block_count found [] ≡ 0
count-none None = refl
count-none (Some layout) = zero-div (block_size layout)

pub heard-none : (found : Option Layout) (signal : ℕ → ℕ → Signal) (lists : List Listing) → with_heard found signal [] lists ≡ lists
heard-none None signal lists = refl
heard-none (Some layout) signal lists = sym (no-blocks signal layout [] lists (zero-div (block_size layout)))

-- ---- blocks after blocks

module _ (word : ℕ) where
  pub count-on : (found : Option Layout) → layout_of word ≡ found → (first second : List ℕ) → AreWhole found first
      → block_count found (first ++ second) ≡ block_count found first + block_count found second
  count-on None is first second whole = refl
  count-on (Some layout) is first second whole =
      both_count layout first second (block_count (Some layout) first) (some_block word layout is) whole

  pub whole-on : (found : Option Layout) → layout_of word ≡ found → (first second : List ℕ) → AreWhole found first → AreWhole found second → AreWhole found (first ++ second)
  whole-on None is first second whole more = ap (λ (front : List ℕ). front ++ second) whole ∙ more
  whole-on (Some layout) is first second whole more =
      let size : ℕ = block_size layout in
      let before : ℕ = block_count (Some layout) first in
      let after : ℕ = block_count (Some layout) second in
      length-append first second
      ∙ (ap (λ (n : ℕ). n + length second) whole
      ∙ (ap (λ (n : ℕ). before * size + n) more
      ∙ (sym (add-mul before after size)
      ∙ ap (λ (n : ℕ). n * size) (sym (count-on (Some layout) is first second whole)))))

  pub heard-on : (found : Option Layout) → layout_of word ≡ found → (signal : ℕ → ℕ → Signal) (first second : List ℕ) (lists : List Listing) → AreWhole found first
      → with_heard found signal (first ++ second) lists ≡ with_heard found signal second (with_heard found signal first lists)
  heard-on None is signal first second lists whole = refl
  heard-on (Some layout) is signal first second lists whole =
      sym (blocks-on layout first second (block_count (Some layout) first) (some_block word layout is) whole signal lists)

-- ---- over moves that keep the codecs and the stream's tag and format

module _ (old new : DeviceState) (codecs : new.codecs ≡ old.codecs) (sound : KeepsSound old.registers new.registers) where
  pub layout-same : layout_now new ≡ layout_now old
  layout-same = ap layout_of sound.format

  -- what waits is as it was
  pub whole-moved : (bytes : List ℕ) → AreWhole (layout_now old) bytes → AreWhole (layout_now new) bytes
  whole-moved bytes whole = subst (λ (found : Option Layout). AreWhole found bytes) (sym layout-same) whole

  pub count-same : (bytes : List ℕ) → block_count (layout_now new) bytes ≡ block_count (layout_now old) bytes
  count-same bytes = ap (λ (found : Option Layout). block_count found bytes) layout-same

  pub room-moved : (bytes : List ℕ) (fewer items : ℕ) (lists : List Listing) → fewer ≤ items → HasRoom (block_count (layout_now old) bytes + items) lists
      → HasRoom (block_count (layout_now new) bytes + fewer) lists
  room-moved bytes fewer items lists less has =
      let same = count-same bytes in
      HasRoom-fewer (block_count (layout_now new) bytes + fewer) (block_count (layout_now old) bytes + items) lists (omega (arith, same, less)) has

module _ (kind : PinKind) (old new : DeviceState) (codecs : new.codecs ≡ old.codecs) (sound : KeepsSound old.registers new.registers) where
  pub heard-same : (bytes : List ℕ) (lists : List Listing) → heard_now kind new bytes lists ≡ heard_now kind old bytes lists
  heard-same bytes lists =
      ap (λ (list : List CodecState). with_heard (layout_of new.registers.output.format) (signals kind list new.registers.output.tag new.registers.output.format) bytes lists) codecs
      ∙ (ap (λ (tag : ℕ). with_heard (layout_of new.registers.output.format) (signals kind old.codecs tag new.registers.output.format) bytes lists) sound.tag
      ∙ ap (λ (word : ℕ). with_heard (layout_of word) (signals kind old.codecs old.registers.output.tag word) bytes lists) sound.format)

  pub listed-moved : (lists : List Listing) → AreHeardAs kind old.codecs lists → AreHeardAs kind new.codecs lists
  listed-moved lists are = subst (λ (list : List CodecState). AreHeardAs kind list lists) (sym codecs) are

-- ---- lists of candidate pins stay so

pub listed-on : (kind : PinKind) (codecs : List CodecState) (found : Option Layout) (signal : ℕ → ℕ → Signal) (bytes : List ℕ) (lists : List Listing) → AreHeardAs kind codecs lists
    → AreHeardAs kind codecs (with_heard found signal bytes lists)
listed-on kind codecs None signal bytes lists are = are
listed-on kind codecs (Some layout) signal bytes lists are =
    All-map (λ (listing : Listing). is_candidate_of_kind kind codecs listing.codec listing.pin ≡ true) (with_blocks signal layout bytes) lists (λ k d within. are k d within)

pub listed-missed : (kind : PinKind) (codecs : List CodecState) (lists : List Listing) → AreHeardAs kind codecs lists → AreHeardAs kind codecs (map (with_items (Hole ∷ [])) lists)
listed-missed kind codecs lists are =
    All-map (λ (listing : Listing). is_candidate_of_kind kind codecs listing.codec listing.pin ≡ true) (with_items (Hole ∷ [])) lists (λ k d within. are k d within)
