-- Jacks and speakers are found entry by entry and codec by codec.
use Rattle.std.proofs.Common.{◌≡◌, ◌<◌, ◌+◌, ℕ, suc, List, [], ◌∷◌, ◌++◌, length, map, drop, get_or, Option, None, Some, refl, sym, ap, ◌∙◌, ◌||◌, Bool, append_assoc, drop-cons, add-one, arith}
use Rattle.std.specs.List.{list_any}
use Rattle.std.proofs.lemmas.List.{map-append}
use Rattle.codec_graph.specs.declared.raw.RawCodec.{RawCodec}
use Rattle.route_planner.specs.declared.routes.PinPlan.{PinPlan}
use Rattle.route_planner.specs.declared.routes.Plan.{Plan}
use Rattle.jack_rules.specs.declared.pins.JackPin.{JackPin}
use Rattle.jack_rules.specs.declared.pins.SpeakerPin.{SpeakerPin}
use Rattle.jack_rules.specs.declared.pins.JackState.{JackState}
use Rattle.jack_rules.specs.declared.pins.SpeakerState.{SpeakerState}
use Rattle.jack_rules.specs.JackPins.{put_first, jack_at, jacks_from, jacks_of, speaker_if, speaker_at, speakers_from, speakers_among}
use Rattle.jack_rules.specs.Switching.{jack_opened, speaker_opened, pin_of}

next_items : {X : Type 0} (xs : List X) (i : ℕ) (x : X) → i < length xs → get_or xs i x ≡ x → drop i xs ≡ x ∷ drop (i + 1) xs
next_items xs i x within is = drop-cons xs i x within ∙ ap (λ y. y ∷ drop (suc i) xs) is ∙ ap (λ n. x ∷ drop n xs) (sym (add-one i))

-- ---- entries

pub jacks_next : (codec : RawCodec) (entries : List PinPlan) (place : ℕ) (entry : PinPlan) → place < length entries → get_or entries place entry ≡ entry
    → jacks_from codec place (drop place entries) ≡ put_first (jack_at codec place entry.pin entry.outcome) (jacks_from codec (place + 1) (drop (place + 1) entries))
jacks_next codec entries place entry within is = ap (λ (rest : List PinPlan). jacks_from codec place rest) (next_items entries place entry within is)

pub speakers_next : (jacks : List JackPin) (codec : RawCodec) (entries : List PinPlan) (place : ℕ) (entry : PinPlan) → place < length entries → get_or entries place entry ≡ entry
    → speakers_from jacks codec (drop place entries) ≡ put_first (speaker_if jacks (speaker_at codec entry.pin entry.outcome)) (speakers_from jacks codec (drop (place + 1) entries))
speakers_next jacks codec entries place entry within is = ap (λ (rest : List PinPlan). speakers_from jacks codec rest) (next_items entries place entry within is)

-- one more was put last, or none
pub one_more : {X Y : Type 0} (f : X → Y) (found : Option X) (x : X) (rest : List X) (before : List Y) → found ≡ Some x → before ++ map f (put_first found rest) ≡ (before ++ f x ∷ []) ++ map f rest
one_more {X} f found x rest before is = ap (λ (found : Option X). before ++ map f (put_first found rest)) is ∙ sym (append_assoc before (f x ∷ []) (map f rest))

pub none_more : {X Y : Type 0} (f : X → Y) (found : Option X) (rest : List X) (before : List Y) → found ≡ None → before ++ map f (put_first found rest) ≡ before ++ map f rest
none_more {X} f found rest before is = ap (λ (found : Option X). before ++ map f (put_first found rest)) is

-- ---- codecs

pub jacks_of_next : (graphs : List RawCodec) (plans : List Plan) (place : ℕ) (codec : RawCodec) (plan : Plan) → place < length graphs → length plans ≡ length graphs → get_or graphs place codec ≡ codec → get_or plans place plan ≡ plan
    → jacks_of (drop place graphs) (drop place plans) ≡ jacks_from codec 0 plan.pins ++ jacks_of (drop (place + 1) graphs) (drop (place + 1) plans)
jacks_of_next graphs plans place codec plan within same is_codec is_plan =
    ap (λ (codecs : List RawCodec). jacks_of codecs (drop place plans)) (next_items graphs place codec within is_codec)
    ∙ ap (λ (rest : List Plan). jacks_of (codec ∷ drop (place + 1) graphs) rest) (next_items plans place plan (omega (arith, within, same)) is_plan)

pub speakers_among_next : (jacks : List JackPin) (graphs : List RawCodec) (plans : List Plan) (place : ℕ) (codec : RawCodec) (plan : Plan) → place < length graphs → length plans ≡ length graphs → get_or graphs place codec ≡ codec → get_or plans place plan ≡ plan
    → speakers_among jacks (drop place graphs) (drop place plans) ≡ speakers_from jacks codec plan.pins ++ speakers_among jacks (drop (place + 1) graphs) (drop (place + 1) plans)
speakers_among_next jacks graphs plans place codec plan within same is_codec is_plan =
    ap (λ (codecs : List RawCodec). speakers_among jacks codecs (drop place plans)) (next_items graphs place codec within is_codec)
    ∙ ap (λ (rest : List Plan). speakers_among jacks (codec ∷ drop (place + 1) graphs) rest) (next_items plans place plan (omega (arith, within, same)) is_plan)

-- so many were put last
pub row_more : {X Y : Type 0} (f : X → Y) (some rest : List X) (before after : List Y) → after ≡ before ++ map f some → after ++ map f rest ≡ before ++ map f (some ++ rest)
row_more {X} {Y} f some rest before after is =
    ap (λ (items : List Y). items ++ map f rest) is ∙ append_assoc before (map f some) (map f rest) ∙ ap (λ (items : List Y). before ++ items) (sym (map-append f some rest))

-- a test of what is looked at
pub any_map : {X Y : Type 0} (test : Y → Bool) (look : X → Y) (xs : List X) → list_any test (map look xs) ≡ list_any (λ (x : X). test (look x)) xs
any_map test look [] = refl
any_map test look (x ∷ xs) = ap (λ (rest : Bool). test (look x) || rest) (any_map test look xs)

-- the pins of jacks that were opened
pub opened_pins : (jacks : List JackPin) → map pin_of (map jack_opened jacks) ≡ jacks
opened_pins [] = refl
opened_pins (jack ∷ jacks) = ap (λ (rest : List JackPin). jack ∷ rest) (opened_pins jacks)
