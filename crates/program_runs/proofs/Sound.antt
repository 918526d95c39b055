-- Which sound was read, and that a run over it is one that the supply may have given.
use Rattle.std.proofs.Common.{◌≡◌, ◌≤◌, ◌<◌, ◌+◌, ◌-◌, ◌*◌, ◌/◌, ◌%◌, ◌∙◌, ℕ, List, [], ◌++◌, length, Option, Some, None, refl, sym, ap, subst, arith, append_assoc, append-nil}
use Rattle.std.specs.Prelude.{take, drop, replicate}
use Rattle.std.proofs.Math.Seq.{take-append_seam, take-length}
use Rattle.std.proofs.lemmas.List.{length-append, length-drop, length-take-le, length-replicate, take-append-drop}
use Rattle.std.proofs.lemmas.Nat.{div-add-mod', div_below}
use Rattle.std.proofs.Math.Nat.{mul-mod_left}
use Rattle.hda_outside.specs.Shelf.{Files, file_of}
use Rattle.hda_outside.specs.declared.pieces.Cut.{Cut}
use Rattle.wav_reader.specs.Heads.{Head, IsRingFormat}
use Rattle.wav_reader.specs.Shelves.{HasFile}
use Rattle.wav_reader.specs.Supplies.{Source, Supplied, MayGive, EndsWith, block_of}
use Rattle.wav_reader.specs.Fills.{IsNextOf}
use Rattle.wav_reader.specs.Wavs.{ring_bytes}
use Rattle.wav_reader.proofs.Callers.{may_more, ends_all, bytes_both, ring_length}
use Rattle.program_runs.specs.Feeding.{Shelves, IsLeftAfter, Took}
use Rattle.program_runs.specs.Reading.{frames_read}

-- ---- bytes up to a length

abbrev padded : ℕ → List ℕ → List ℕ
padded count bytes = take count (bytes ++ replicate count 0)

padded_length : (count : ℕ) (bytes : List ℕ) → length (padded count bytes) ≡ count
padded_length count bytes =
    let both = length-append bytes (replicate count 0) in
    let zero_byte : ℕ = 0 in
    let zeros = length-replicate count zero_byte in
    length-take-le count (bytes ++ replicate count 0) (omega (arith, both, zeros))

padded_all : (count : ℕ) (bytes : List ℕ) → count ≡ length bytes → padded count bytes ≡ bytes
padded_all count bytes all =
    ap (λ (n : ℕ). take n (bytes ++ replicate count 0)) all ∙ take-append_seam bytes (replicate count 0)

-- ---- the sound of a file

abbrev bytes_if : Option (List ℕ) → Head → List ℕ
bytes_if None head = []
bytes_if (Some file) head = ring_bytes file head

-- the ring bytes of the file under a name, where one is told
abbrev bytes_told : Option Files → List ℕ → Head → List ℕ
bytes_told None name head = []
bytes_told (Some files) name head = bytes_if (file_of files name) head

told_bytes : (told : Option Files) (name : List ℕ) (head : Head) (file : List ℕ) → HasFile told name head file → bytes_told told name head ≡ ring_bytes file head
told_bytes told name head file tells =
    ap (λ (told : Option Files). bytes_told told name head) tells.told_is ∙ ap (λ (file : Option (List ℕ)). bytes_if file head) tells.file_is

-- ---- what is to come of a supply

-- after what is held: nothing after a cut, else what the file has next
abbrev rest_of : Option Cut → Option Files → Source → Supplied → List ℕ
rest_of None told source supply = padded (supply.left - length supply.held) (drop (supply.taken + length supply.held) (bytes_told told source.name source.head))
rest_of (Some cut) told source supply = []

abbrev pub later_of : Option Cut → Option Files → Source → Supplied → List ℕ
later_of cut told source supply = supply.held ++ rest_of cut told source supply

rest_length : (cut : Option Cut) (told : Option Files) (source : Source) (supply : Supplied) → length supply.held ≤ supply.left → IsLeftAfter cut source supply → length supply.held + length (rest_of cut told source supply) ≡ supply.left
rest_length None told source supply within left =
    let long = padded_length (supply.left - length supply.held) (drop (supply.taken + length supply.held) (bytes_told told source.name source.head)) in omega (arith, within, long)
rest_length (Some cut) told source supply within left = let all = left.0 in omega (arith, all)

pub may_later : (cut : Option Cut) (told : Option Files) (source : Source) (supply : Supplied) → length supply.held ≤ supply.left → IsLeftAfter cut source supply → MayGive supply (later_of cut told source supply)
may_later cut told source supply within left =
    let long = rest_length cut told source supply within left in
    may_more supply (rest_of cut told source supply) (omega (arith, long))

pub ends_later : (cut : Option Cut) (told : Option Files) (source : Source) (supply : Supplied) → length supply.held ≤ supply.left → IsLeftAfter cut source supply → EndsWith supply (later_of cut told source supply)
ends_later cut told source supply within left =
    ends_all supply (later_of cut told source supply) (length-append supply.held (rest_of cut told source supply) ∙ rest_length cut told source supply within left)

-- ---- the whole sound

whole_of : (block bytes : ℕ) → bytes % block ≡ 0 → bytes ≡ bytes / block * block
whole_of block bytes is = let all = div-add-mod' bytes block in omega (arith, all, is)

module _ (gave : List ℕ) (told : Shelves) (source : Source) (old last : Supplied) (took : Took gave told old last) (source_is : old.source ≡ Some source) (none_held : old.held ≡ []) (none_taken : old.taken ≡ 0) where
  abbrev files : Option Files
  files = (told source.name).told

  abbrev pub sound_of : Option Cut → List ℕ
  sound_of cut = gave ++ later_of cut files source last

  gave_long : last.taken ≡ length gave
  gave_long = (let taken = took.taken in omega (arith, taken, none_taken))

  -- so many frames were read
  pub sound_length : (cut : Option Cut) (block : ℕ) → block ≡ block_of source.head → length last.held ≤ last.left → IsLeftAfter cut source last → last.taken % block ≡ 0 → length last.held % block ≡ 0
      → length (sound_of cut) ≡ frames_read cut (last.taken + length last.held) block source.head.frames * block
  sound_length None block same within left taken held =
      let both = length-append gave (later_of None files source last) in
      let later = length-append last.held (rest_of None files source last) in
      let rest = rest_length None files source last within left in
      let long = gave_long in
      let total : last.taken + last.left ≡ source.head.frames * block = left ∙ ap (λ (block : ℕ). source.head.frames * block) (sym same) in
      omega (arith, both, later, rest, long, total)
  sound_length (Some cut) block same within left taken held =
      let both = length-append gave (later_of (Some cut) files source last) in
      let later = length-append last.held [] in
      let long = gave_long in
      let one = whole_of block last.taken taken in
      let other = whole_of block (length last.held) held in
      let sum : (last.taken + length last.held) % block ≡ 0 = sum_is block last.taken (length last.held) taken held in
      let whole = whole_of block (last.taken + length last.held) sum in
      omega (arith, both, later, long, whole)
    where
      sum_is : (block taken count : ℕ) → taken % block ≡ 0 → count % block ≡ 0 → (taken + count) % block ≡ 0
      sum_is block taken count taken_is count_is =
          let first = div-add-mod' taken block in
          let second = div-add-mod' count block in
          let both : (taken / block + count / block) * block ≡ taken / block * block + count / block * block = omega arith in
          let sum : taken + count ≡ (taken / block + count / block) * block = omega (arith, first, second, both, taken_is, count_is) in
          ap (λ (bytes : ℕ). bytes % block) sum ∙ mul-mod_left (taken / block + count / block) block

  -- where the file is told these are its first bytes
  pub sound_told : (cut : Option Cut) (count : ℕ) → count ≡ length (sound_of cut) → length last.held ≤ last.left → IsLeftAfter cut source last → IsRingFormat source.head.mono source.head.format → (file : List ℕ) → HasFile files source.name source.head file
      → sound_of cut ≡ take count (ring_bytes file source.head)
  sound_told cut count is within left form file tells = by cut is left where
    pcm : List ℕ
    pcm = ring_bytes file source.head

    next_old : IsNextOf (ring_bytes file source.head) old
    next_old = subst (λ (held : List ℕ). held ≡ take (length held) (drop old.taken (ring_bytes file source.head))) (sym none_held) refl

    gave_is : gave ≡ take (length gave) (drop 0 (ring_bytes file source.head))
    gave_is = took.gave_is source file source_is tells next_old ∙ ap (λ (n : ℕ). take (length gave) (drop n (ring_bytes file source.head))) none_taken

    both_are : gave ++ last.held ≡ take (length (gave ++ last.held)) (drop 0 (ring_bytes file source.head))
    both_are = bytes_both gave last.held 0 last.taken (ring_bytes file source.head) gave_is (let long = gave_long in omega (arith, long)) (took.next source file source_is tells next_old)

    read_long : length (gave ++ last.held) ≡ last.taken + length last.held
    read_long = (let both = length-append gave last.held in let long = gave_long in omega (arith, both, long))

    by : (cut : Option Cut) → count ≡ length (sound_of cut) → IsLeftAfter cut source last → sound_of cut ≡ take count (ring_bytes file source.head)
    by (Some cut) is left =
        let held : gave ++ (last.held ++ []) ≡ gave ++ last.held = ap (λ (bytes : List ℕ). gave ++ bytes) (append-nil last.held) in
        held ∙ both_are ∙ ap (λ (n : ℕ). take n (ring_bytes file source.head)) (sym (is ∙ ap length held))
    by None is left =
        let front = gave ++ last.held in
        let place = last.taken + length last.held in
        let whole = ring_length file source.head form tells.head_is in
        let less = length-drop place (ring_bytes file source.head) in
        let rest : rest_of None files source last ≡ drop place (ring_bytes file source.head) =
        ap (λ (bytes : List ℕ). padded (last.left - length last.held) (drop place bytes)) (told_bytes files source.name source.head file tells)
        ∙ padded_all (last.left - length last.held) (drop place (ring_bytes file source.head)) (omega (arith, less, whole, left, within)) in
        let all : sound_of None ≡ ring_bytes file source.head =
        ap (λ (bytes : List ℕ). gave ++ (last.held ++ bytes)) rest ∙ sym (append_assoc gave last.held (drop place (ring_bytes file source.head)))
        ∙ ap (λ (bytes : List ℕ). bytes ++ drop place (ring_bytes file source.head)) (both_are ∙ ap (λ (n : ℕ). take n (ring_bytes file source.head)) read_long)
        ∙ take-append-drop place (ring_bytes file source.head) in
        all ∙ sym (take-length (ring_bytes file source.head)) ∙ ap (λ (n : ℕ). take n (ring_bytes file source.head)) (sym (is ∙ ap length all))

  -- fewer frames than there are were read where the reading was cut
  pub read_less : (cut : Cut) (block : ℕ) → 1 ≤ block → block ≡ block_of source.head → IsLeftAfter (Some cut) source last → frames_read (Some cut) (last.taken + length last.held) block source.head.frames < source.head.frames
  read_less cut block some same left =
      div_below (last.taken + length last.held) block source.head.frames some (subst (λ (block : ℕ). last.taken + length last.held < source.head.frames * block) (sym same) left.1)
