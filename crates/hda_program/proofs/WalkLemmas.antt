-- A shelf that is asked twice, and requests as what the words mean.
use Rattle.std.proofs.Common.{◌≡◌, ◌≢◌, ℕ, ◌+◌, ◌≤◌, List, [], ◌∷◌, inl, inr, Option, Some, subst, sym, arith}
use Rattle.codec_graph.specs.declared.pin_kind.PinKind.TheVariants.{Analog, Digital}
use Rattle.hda_outside.specs.Shelf.{Files}
use Rattle.hda_files.specs.declared.machine.Machine.{Machine}
use Rattle.program_words.specs.declared.request.Request.{Request}
use Rattle.program_words.specs.declared.request.Request.TheVariants as request
use Rattle.program_words.specs.Asked.{Asked, asked_by, request_of}
use Rattle.std.specs.List.{Contains}
use Rattle.hda_program.specs.Answers.{IsMeant, MachineWalks, RequestAnswers}
use Rattle.hda_program.specs.Asks.{Names, files_asked, files_of}
use Rattle.hda_program.specs.Meanings.{Meant}

-- what was given in all, by what was given before and then
pub given_longer : (first before last most : ℕ) → before ≤ first + most → (n : ℕ) → last ≤ before + n → last ≤ first + (most + n)
given_longer first before last most few n later = omega arith

-- what is said of a shelf that had been asked before holds of both together
pub MachineWalks-both : (told later : Option Files) (failed both : List ℕ → Type 0) (machine : Machine) (name : List ℕ) (meant : Meant) → later ≡ told
    → ((n : List ℕ) → failed n → both n) → MachineWalks later failed machine name meant → MachineWalks told both machine name meant
MachineWalks-both told later failed both machine name meant same rose (inl (inl unread)) = inl (inl (rose name unread.0, unread.1))
MachineWalks-both told later failed both machine name meant same rose (inl (inr refused)) =
    let P : Option Files → Type 0 = λ files. MachineWalks files both machine name meant in subst P same (inl (inr refused))
MachineWalks-both told later failed both machine name meant same rose (inr walked) =
    let P : Option Files → Type 0 = λ files. MachineWalks files both machine name meant in subst P same (inr walked)

-- an answer to a request of the words is meant by them
pub request_meant : (told : Option Files) (failed emptied unasked : List ℕ → Type 0) (gave : ℕ → Type 0) (words : List (List ℕ)) (asked : Request) (meant : Meant)
    → request_of words ≡ Some (asked_by asked) → RequestAnswers told failed emptied unasked gave asked meant → IsMeant told failed emptied unasked gave words meant
request_meant told failed emptied unasked gave words (request.Route codec format) meant is answers = inr (inl (codec.now, format, is, answers))
request_meant told failed emptied unasked gave words (request.Walk codec schedule) meant is answers = inr (inr (inl (codec.now, schedule.now, is, answers)))
request_meant told failed emptied unasked gave words (request.Play codec wav schedule periods period) meant is answers =
    inr (inr (inr (inl (Analog, codec.now, wav.now, schedule.now, periods, period, is, answers))))
request_meant told failed emptied unasked gave words (request.Make number) meant is answers = inr (inr (inr (inr (inl (number, is, answers)))))
request_meant told failed emptied unasked gave words (request.Spdif codec wav schedule periods period) meant is answers =
    inr (inr (inr (inl (Digital, codec.now, wav.now, schedule.now, periods, period, is, answers))))
request_meant told failed emptied unasked gave words (request.Capture codec wav schedule periods period) meant is answers =
    inr (inr (inr (inr (inr (codec.now, wav.now, schedule.now, periods, period, is, answers)))))

-- a name that the words do not name is none of the request's files
pub other_name : (words : List (List ℕ)) (asked : Asked) (name : List ℕ) → request_of words ≡ Some asked → (Names words name → ⊥) → Contains (files_of asked) name → ⊥
other_name words asked name is other named =
    let P : Option Asked → Type 0 = λ asks. Contains (files_asked asks) name in other (subst P (sym is) named)

-- a name that is none of one or two names is another than each
pub other_one : (one name : List ℕ) → (Contains (one ∷ []) name → ⊥) → name ≢ one
other_one one name other same = other (0, omega arith, sym same)

pub other_first : (one two name : List ℕ) → (Contains (one ∷ two ∷ []) name → ⊥) → name ≢ one
other_first one two name other same = other (0, omega arith, sym same)

pub other_second : (one two name : List ℕ) → (Contains (one ∷ two ∷ []) name → ⊥) → name ≢ two
other_second one two name other same = other (1, omega arith, sym same)

-- a name that is none of three names
pub record IsOtherThan (one two three name : List ℕ) : Type 0 where
  pub first : name ≢ one
  pub second : name ≢ two
  pub third : name ≢ three

pub other_three : (one two three name : List ℕ) → (Contains (one ∷ two ∷ three ∷ []) name → ⊥) → IsOtherThan one two three name
other_three one two three name other = record {
  first = λ same. other (0, omega arith, sym same);
  second = λ same. other (1, omega arith, sym same);
  third = λ same. other (2, omega arith, sym same);
}
