-- Accesses in a row.
use Rattle.std.proofs.Common.{List, [], ◌∷◌, ◌++◌, Option, refl, sym, subst}
use Rattle.hda_world.specs.Events.{Event}
use Rattle.hda_world.specs.Tellings.{Telling, Accessed, Grew, Between, Makes, MakesBy}
use Rattle.hda_world.proofs.Telling.{told_both, told_map, went_none, grew_both, grew_access}

made_both : (first second : List Event) (old middle new : Telling) → MakesBy first old middle → MakesBy second middle new → MakesBy (first ++ second) old new
made_both [] second old middle new none made = subst (λ (from : Telling). MakesBy second from new) none made
made_both (event ∷ first) second old middle new before after = (before.0, before.1, made_both first second before.0 middle new before.2 after)

pub makes_both : {first second : List Event} {old middle new : Telling} → Makes first old middle → Makes second middle new → Makes (first ++ second) old new
makes_both {first} {second} {old} {middle} {new} before after = record { by = made_both first second old middle new before.by after.by }

-- one access is a row
pub row_one : {event : Event} {old new : Option Telling} → Between (λ old new. Accessed old new event) old new → Between (Makes (event ∷ [])) old new
row_one {event} accessed = told_map (λ old new once. record { by = (new, once, refl) }) accessed

-- an access before a row
pub row_more : {event : Event} {events : List Event} {old middle new : Option Telling} → Between (λ old new. Accessed old new event) old middle → Between (Makes events) middle new → Between (Makes (event ∷ events)) old new
row_more {event} {events} accessed rest = told_map (λ old new both. record { by = (both.0, both.1, both.2.by) }) (told_both accessed rest)

-- a row before a row
pub row_both : {first second : List Event} {old middle new : Option Telling} → Between (Makes first) old middle → Between (Makes second) middle new → Between (Makes (first ++ second)) old new
row_both {first} {second} before after = told_map (λ old new both. makes_both both.1 both.2) (told_both before after)

grew_by : (events : List Event) (old new : Telling) → MakesBy events old new → Grew old new
grew_by [] old new none = subst (λ (to : Telling). Grew old to) (sym none) (record { events = []; went = went_none old })
grew_by (event ∷ events) old new made = grew_both old made.0 new (grew_access old made.0 event made.1) (grew_by events made.0 new made.2)

-- over a row the journal grew
pub grew_row : {events : List Event} {old new : Telling} → Makes events old new → Grew old new
grew_row {events} {old} {new} made = grew_by events old new made.by

pub ruleset rows = (row_one, row_more, row_both)
