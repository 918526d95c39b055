-- Accesses by other names.
use Rattle.std.proofs.Common.{◌≡◌, ℕ, List, [], ◌∷◌, Option, subst}
use Rattle.hda_registers.specs.declared.shapes.Width.TheVariants.{One, Two, Four}
use Rattle.hda_registers.specs.declared.places.TheConstants.{INTCTL}
use Rattle.hda_world.specs.Events.{Event, Write}
use Rattle.hda_world.specs.Tellings.{Telling, Between, Makes}
use Rattle.hda_capture.specs.declared.registers.TheConstants.{CONTROL, RING_LENGTH, LAST_INDEX, FORMAT, LIST_ADDRESS}

-- the same settings
pub set_as : (list ring ring' last last' word word' : ℕ) (old new : Option Telling) → ring ≡ ring' → last ≡ last' → word ≡ word'
    → Between (Makes (Write RING_LENGTH Four ring ∷ Write LAST_INDEX Two last ∷ Write FORMAT Two word ∷ Write LIST_ADDRESS Four list ∷ Write CONTROL Four 0x0010001C ∷ Write INTCTL Four 0xC0000001 ∷ Write CONTROL One 0x1E ∷ [])) old new
    → Between (Makes (Write RING_LENGTH Four ring' ∷ Write LAST_INDEX Two last' ∷ Write FORMAT Two word' ∷ Write LIST_ADDRESS Four list ∷ Write CONTROL Four 0x0010001C ∷ Write INTCTL Four 0xC0000001 ∷ Write CONTROL One 0x1E ∷ [])) old new
set_as list ring ring' last last' word word' old new a b c made =
    let rest : ℕ → ℕ → ℕ → List Event = λ ring last word. Write RING_LENGTH Four ring ∷ Write LAST_INDEX Two last ∷ Write FORMAT Two word ∷ Write LIST_ADDRESS Four list ∷ Write CONTROL Four 0x0010001C ∷ Write INTCTL Four 0xC0000001 ∷ Write CONTROL One 0x1E ∷ [] in
    subst (λ (v : ℕ). Between (Makes (rest v last' word')) old new) a
    (subst (λ (v : ℕ). Between (Makes (rest ring v word')) old new) b
    (subst (λ (v : ℕ). Between (Makes (rest ring last v)) old new) c made))
