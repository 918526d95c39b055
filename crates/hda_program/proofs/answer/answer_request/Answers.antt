use Rattle.std.proofs.Common.{◌≡◌, ℕ, ◌+◌, ◌≤◌, List, subst, sym}
use Rattle.std.specs.Prelude.{IfOk, Contains}
use Rattle.hda_outside.specs.Counts.{Rose}
use Rattle.program_words.specs.Asked.{asked_by, IsInRange}
use Rattle.program_words.specs.declared.request.Request.{Request}
use Rattle.hda_program.specs.Answers.{RequestAnswers}
use Rattle.hda_program.specs.Asks.{files_of}
use Rattle.hda_program.specs.Meanings.{answer_meant, message_meant}
use Rattle.hda_program.proofs.WalkLemmas.{other_first, other_second, other_three}
use Rattle.hda_program.proofs.answer.answer_request.Goals as goal

pub returns-in_ok-message-in-Route-clause-answers : goal.returns-in_ok-message-in-Route-clause-answers
returns-in_ok-message-in-Route-clause-answers g c =
    let failed : List ℕ → Type 0 = λ name. Rose (g.S.Shelf.faults c.args.shelf.now name) (g.S.Shelf.faults c.answer_route.new.shelf name) in
    let emptied : List ℕ → Type 0 = λ name. Rose (g.S.Shelf.empties c.args.shelf.now name) (g.S.Shelf.empties c.answer_route.new.shelf name) in
    let unasked : List ℕ → Type 0 = λ name. g.S.Shelf.asked c.answer_route.new.shelf name ≡ g.S.Shelf.asked c.args.shelf.now name in
    let gave : ℕ → Type 0 = λ n. g.S.Shelf.given c.answer_route.new.shelf ≤ g.S.Shelf.given c.args.shelf.now + n in
    let P : Request → Type 0 = λ asked. RequestAnswers (g.S.Shelf.told c.args.shelf.now) failed emptied unasked gave asked (message_meant c.in_ok-message-in-Route.message) in
    subst P (sym c.in-Route.is) c.in_ok-message-in-Route.ensures.answers

pub returns-in-Walk-clause-answers : goal.returns-in-Walk-clause-answers
returns-in-Walk-clause-answers g c =
    let failed : List ℕ → Type 0 = λ name. Rose (g.S.Shelf.faults c.args.shelf.now name) (g.S.Shelf.faults c.answer_walk.new.shelf name) in
    let emptied : List ℕ → Type 0 = λ name. Rose (g.S.Shelf.empties c.args.shelf.now name) (g.S.Shelf.empties c.answer_walk.new.shelf name) in
    let unasked : List ℕ → Type 0 = λ name. g.S.Shelf.asked c.answer_walk.new.shelf name ≡ g.S.Shelf.asked c.args.shelf.now name in
    let gave : ℕ → Type 0 = λ n. g.S.Shelf.given c.answer_walk.new.shelf ≤ g.S.Shelf.given c.args.shelf.now + n in
    let P : Request → Type 0 = λ asked. IfOk c.answer_walk.result (λ answer. RequestAnswers (g.S.Shelf.told c.args.shelf.now) failed emptied unasked gave asked (answer_meant answer)) in
    subst P (sym c.in-Walk.is) c.answer_walk.ensures.answers

pub returns-in-Walk-clause-asked : goal.returns-in-Walk-clause-asked
returns-in-Walk-clause-asked g c = λ other apart.
    let P : Request → Type 0 = λ asked. Contains (files_of (asked_by asked)) other → ⊥ in
    let both = subst P c.in-Walk.is apart in
    c.answer_walk.ensures.asked other (other_first c.in-Walk.codec.now c.in-Walk.schedule.now other both) (other_second c.in-Walk.codec.now c.in-Walk.schedule.now other both)

pub answer_play-requires : goal.answer_play-requires
answer_play-requires g c = let P : Request → Type 0 = λ asked. IsInRange asked in record { ring = subst P c.in-Play.is c.requires.ranges }

pub returns-in-Play-clause-answers : goal.returns-in-Play-clause-answers
returns-in-Play-clause-answers g c =
    let failed : List ℕ → Type 0 = λ name. Rose (g.S.Shelf.faults c.args.shelf.now name) (g.S.Shelf.faults c.answer_play.new.shelf name) in
    let emptied : List ℕ → Type 0 = λ name. Rose (g.S.Shelf.empties c.args.shelf.now name) (g.S.Shelf.empties c.answer_play.new.shelf name) in
    let unasked : List ℕ → Type 0 = λ name. g.S.Shelf.asked c.answer_play.new.shelf name ≡ g.S.Shelf.asked c.args.shelf.now name in
    let gave : ℕ → Type 0 = λ n. g.S.Shelf.given c.answer_play.new.shelf ≤ g.S.Shelf.given c.args.shelf.now + n in
    let P : Request → Type 0 = λ asked. IfOk c.answer_play.result (λ answer. RequestAnswers (g.S.Shelf.told c.args.shelf.now) failed emptied unasked gave asked (answer_meant answer)) in
    subst P (sym c.in-Play.is) c.answer_play.ensures.answers

pub returns-in-Play-clause-asked : goal.returns-in-Play-clause-asked
returns-in-Play-clause-asked g c = λ other apart.
    let P : Request → Type 0 = λ asked. Contains (files_of (asked_by asked)) other → ⊥ in
    let apart_from = other_three c.in-Play.codec.now c.in-Play.wav.now c.in-Play.schedule.now other (subst P c.in-Play.is apart) in
    c.answer_play.ensures.asked other apart_from.first apart_from.second apart_from.third

pub answer_play-requires-in-Spdif : goal.answer_play-requires-in-Spdif
answer_play-requires-in-Spdif g c = let P : Request → Type 0 = λ asked. IsInRange asked in record { ring = subst P c.in-Spdif.is c.requires.ranges }

pub returns-in-Spdif-clause-answers : goal.returns-in-Spdif-clause-answers
returns-in-Spdif-clause-answers g c =
    let failed : List ℕ → Type 0 = λ name. Rose (g.S.Shelf.faults c.args.shelf.now name) (g.S.Shelf.faults c.answer_play-in-Spdif.new.shelf name) in
    let emptied : List ℕ → Type 0 = λ name. Rose (g.S.Shelf.empties c.args.shelf.now name) (g.S.Shelf.empties c.answer_play-in-Spdif.new.shelf name) in
    let unasked : List ℕ → Type 0 = λ name. g.S.Shelf.asked c.answer_play-in-Spdif.new.shelf name ≡ g.S.Shelf.asked c.args.shelf.now name in
    let gave : ℕ → Type 0 = λ n. g.S.Shelf.given c.answer_play-in-Spdif.new.shelf ≤ g.S.Shelf.given c.args.shelf.now + n in
    let P : Request → Type 0 = λ asked. IfOk c.answer_play-in-Spdif.result (λ answer. RequestAnswers (g.S.Shelf.told c.args.shelf.now) failed emptied unasked gave asked (answer_meant answer)) in
    subst P (sym c.in-Spdif.is) c.answer_play-in-Spdif.ensures.answers

pub returns-in-Spdif-clause-asked : goal.returns-in-Spdif-clause-asked
returns-in-Spdif-clause-asked g c = λ other apart.
    let P : Request → Type 0 = λ asked. Contains (files_of (asked_by asked)) other → ⊥ in
    let apart_from = other_three c.in-Spdif.codec.now c.in-Spdif.wav.now c.in-Spdif.schedule.now other (subst P c.in-Spdif.is apart) in
    c.answer_play-in-Spdif.ensures.asked other apart_from.first apart_from.second apart_from.third

pub answer_capture-requires : goal.answer_capture-requires
answer_capture-requires g c = let P : Request → Type 0 = λ asked. IsInRange asked in record { ring = subst P c.in-Capture.is c.requires.ranges }

pub returns-in-Capture-clause-answers : goal.returns-in-Capture-clause-answers
returns-in-Capture-clause-answers g c =
    let failed : List ℕ → Type 0 = λ name. Rose (g.S.Shelf.faults c.args.shelf.now name) (g.S.Shelf.faults c.answer_capture.new.shelf name) in
    let emptied : List ℕ → Type 0 = λ name. Rose (g.S.Shelf.empties c.args.shelf.now name) (g.S.Shelf.empties c.answer_capture.new.shelf name) in
    let unasked : List ℕ → Type 0 = λ name. g.S.Shelf.asked c.answer_capture.new.shelf name ≡ g.S.Shelf.asked c.args.shelf.now name in
    let gave : ℕ → Type 0 = λ n. g.S.Shelf.given c.answer_capture.new.shelf ≤ g.S.Shelf.given c.args.shelf.now + n in
    let P : Request → Type 0 = λ asked. IfOk c.answer_capture.result (λ answer. RequestAnswers (g.S.Shelf.told c.args.shelf.now) failed emptied unasked gave asked (answer_meant answer)) in
    subst P (sym c.in-Capture.is) c.answer_capture.ensures.answers

pub returns-in-Capture-clause-asked : goal.returns-in-Capture-clause-asked
returns-in-Capture-clause-asked g c = λ other apart.
    let P : Request → Type 0 = λ asked. Contains (files_of (asked_by asked)) other → ⊥ in
    let apart_from = other_three c.in-Capture.codec.now c.in-Capture.wav.now c.in-Capture.schedule.now other (subst P c.in-Capture.is apart) in
    c.answer_capture.ensures.asked other apart_from.first apart_from.second apart_from.third
