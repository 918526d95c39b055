-- The blocks that are due in a link frame, and what pins hear of them.
use Rattle.codec_graph.specs.declared.pin_kind.PinKind.{PinKind}
use Rattle.std.proofs.Common.{◌≡◌, ◌≤◌, ◌*◌, ◌/◌, ℕ, List, length, take, Option, Some, None, sym, ap, subst, ◌∙◌, arith}
use Rattle.std.specs.Option.{unwrap_or}
use Rattle.std.proofs.Math.Nat.{mul-div_cancel}
use Rattle.std.proofs.lemmas.List.{length-take-le}
use Rattle.codec_graph.specs.CodecStates.{CodecState}
use Rattle.stream_format.specs.declared.format.Format.{Format}
use Rattle.stream_format.specs.Cadence.{blocks_of, most_blocks, block_bytes}
use Rattle.stream_format.specs.Layouts.{Layout, layout, layout_of}
use Rattle.stream_format.proofs.Callers.{bounded}
use Rattle.world_streams.proofs.Callers.{few_bytes, some_block, few_blocks}
use Rattle.codec_sound.specs.Signals.{IsAmong}
use Rattle.heard_frames.specs.HeardLists.{signal_with_as}
use Rattle.codec_sound.proofs.Callers.{among-signal_of}
use Rattle.hda_controller.specs.Hearing.{AreDue}
use Rattle.hda_controller.specs.Unheard.{AreWhole, block_count}

-- ---- how many they are

module _ (word blocks : ℕ) (format : Format) (due : AreDue word blocks) (is : Some (layout format) ≡ layout_of word) where
  same_layout : due.layout ≡ layout format
  same_layout = ap (λ (o : Option Layout). unwrap_or o due.layout) (sym due.format_is ∙ sym is)

  of_format : blocks ≡ blocks_of format.rate due.frame
  of_format = due.blocks_are ∙ ap (λ (l : Layout). blocks_of l.rate due.frame) same_layout

  due_few : blocks ≤ 4
  due_few =
      let most : blocks_of format.rate due.frame ≤ most_blocks format.rate = bounded format.rate due.frame in
      let four = few_blocks format.rate in
      omega (arith, of_format, most, four)

  -- their bytes
  pub due_fit : (size : ℕ) → size ≡ block_bytes format → blocks * size ≤ 128
  due_fit size block = subst (λ (n : ℕ). n * size ≤ 128) (sym of_format) (subst (λ (n : ℕ). blocks_of format.rate due.frame * n ≤ 128) (sym block) (few_bytes format due.frame))

  -- which have as many blocks
  due_count : (size : ℕ) (bytes : List ℕ) → size ≡ block_bytes format → length bytes ≡ 128 → length (take (blocks * size) bytes) / block_bytes format ≡ blocks
  due_count size bytes block long =
      ap (λ (n : ℕ). n / block_bytes format) (length-take-le (blocks * size) bytes (let fit = due_fit size block in omega (arith, fit, long)))
      ∙ (ap (λ (n : ℕ). blocks * n / block_bytes format) block ∙ mul-div_cancel blocks (some_block word (layout format) (sym is)))

  -- and these are four at most
  pub few_items : (size : ℕ) (bytes : List ℕ) → size ≡ block_bytes format → length bytes ≡ 128 → length (take (blocks * size) bytes) / block_bytes format ≤ 4
  few_items size bytes block long = let count = due_count size bytes block long in let few = due_few in omega (arith, count, few)

  -- they are whole
  pub due_whole : (size : ℕ) (bytes : List ℕ) → size ≡ block_bytes format → length bytes ≡ 128 → AreWhole (layout_of word) (take (blocks * size) bytes)
  due_whole size bytes block long =
      let front : List ℕ = take (blocks * size) bytes in
      subst (λ (found : Option Layout). AreWhole found front) is
      (length-take-le (blocks * size) bytes (let fit = due_fit size block in omega (arith, fit, long))
      ∙ (ap (λ (n : ℕ). blocks * n) block ∙ ap (λ (n : ℕ). n * block_bytes format) (sym (due_count size bytes block long))))

  -- and four at most
  pub due_items : (size : ℕ) (bytes : List ℕ) → size ≡ block_bytes format → length bytes ≡ 128 → block_count (layout_of word) (take (blocks * size) bytes) ≤ 4
  due_items size bytes block long =
      subst (λ (found : Option Layout). block_count found (take (blocks * size) bytes) ≤ 4) is (few_items size bytes block long)

  -- of that layout
  pub due_layout : (layout' : Layout) → layout_of word ≡ Some layout' → layout' ≡ layout format
  due_layout layout' reads = ap (λ (o : Option Layout). unwrap_or o layout') (sym reads ∙ sym is)

-- ---- the pairs that pins hear are among the format's channels

among_with : (kind : PinKind) (format : Format) (found : Option CodecState) (tag word pin : ℕ) → IsAmong format.channels (signal_with_as kind found tag word (Some (layout format)) pin)
among_with kind format None tag word pin = tt
among_with kind format (Some codec) tag word pin = among-signal_of kind codec.graph codec.settings _ pin format.even

pub among : (kind : PinKind) (format : Format) (found : Option CodecState) (tag word pin : ℕ) → Some (layout format) ≡ layout_of word → IsAmong format.channels (signal_with_as kind found tag word (layout_of word) pin)
among kind format found tag word pin is = subst (λ (o : Option Layout). IsAmong format.channels (signal_with_as kind found tag word o pin)) is (among_with kind format found tag word pin)
