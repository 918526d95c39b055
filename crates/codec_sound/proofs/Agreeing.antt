-- What a node gives depends on what the nodes give that it lists, and on no other.
use Rattle.std.proofs.Common.{◌≡◌, ℕ, suc, ◌+◌, Bool, true, false, cond, ◌||◌, not, List, [], ◌∷◌, Contains, Option, Some, None, refl, ap, arith}
use Rattle.std.proofs.lemmas.Option.{get_or_from_slice_get, slice_get_within}
use Rattle.codec_graph.specs.declared.raw.RawNode.{RawNode}
use Rattle.codec_graph.specs.declared.raw.RawCodec.{RawCodec}
use Rattle.codec_graph.specs.Widget.{node_at, is_input_converter, is_mixer, is_selector, is_pin, is_stereo}
use Rattle.codec_graph.specs.Cycles.{inner_list_of, inner_list}
use Rattle.codec_graph.specs.Settings.{Entries}
use Rattle.codec_graph.specs.declared.pin_kind.PinKind.{PinKind}
use Rattle.codec_graph.specs.declared.pin_kind.PinKind.TheVariants.{Analog, Digital}
use Rattle.codec_sound.specs.declared.signals.Signal.{Signal}
use Rattle.codec_sound.specs.declared.signals.Signal.TheVariants.{Silence}
use Rattle.codec_sound.specs.declared.streams.LinkStream.{LinkStream}
use Rattle.codec_sound.specs.declared.sources.Sources.{Sources}
use Rattle.codec_sound.specs.declared.sources.Sources.TheVariants.{Converters}
use Rattle.codec_sound.specs.Amplifiers.{changed_if, after_output, after_input}
use Rattle.codec_sound.specs.Signals.{is_off, is_foreign, mixed, mixed_as, selected_place, selected, passed_on, is_source, source_signal, source_kind, made_from, given_from_at, gives_from, gives_as, is_silent_pin, comes_from, hears}
use Rattle.codec_sound.specs.Inward.{hears_in}

-- an element at the front, and one behind it
pub contains_first : {X : Type 0} (x : X) (xs : List X) → Contains (x ∷ xs) x
contains_first x xs = (0, omega arith, refl)

pub contains_later : {X : Type 0} (x y : X) (xs : List X) → Contains xs y → Contains (x ∷ xs) y
contains_later x y xs h = (suc h.0, omega (arith, h.1), h.2)

mixed-agree : (codec : RawCodec) (settings : Entries) (f g : ℕ → Signal) (nid : ℕ) (node : RawNode) (list : List ℕ) (place : ℕ) → ((to : ℕ) → Contains list to → f to ≡ g to) → mixed codec settings f nid node place list ≡ mixed codec settings g nid node place list
mixed-agree codec settings f g nid node [] place same = refl
mixed-agree codec settings f g nid node (from ∷ list) place same =
    let first : f from ≡ g from = same from (contains_first from list) in
    let rest : mixed codec settings f nid node (place + 1) list ≡ mixed codec settings g nid node (place + 1) list = mixed-agree codec settings f g nid node list (place + 1) (λ to h. same to (contains_later from to list h)) in
    rw (first, rest) refl

-- the selected node is one of the list
selected_listed : (settings : Entries) (nid : ℕ) (node : RawNode) (from : ℕ) → selected settings nid node ≡ Some from → Contains node.list from
selected_listed settings nid node from is =
    (selected_place settings nid node, slice_get_within node.list (selected_place settings nid node) from is, get_or_from_slice_get node.list (selected_place settings nid node) from from is)

passed_on-agree : (codec : RawCodec) (settings : Entries) (f g : ℕ → Signal) (nid : ℕ) (node : RawNode) (o : Option ℕ) → ((to : ℕ) → o ≡ Some to → f to ≡ g to) → passed_on codec settings f nid node o ≡ passed_on codec settings g nid node o
passed_on-agree codec settings f g nid node None same = refl
passed_on-agree codec settings f g nid node (Some from) same = ap (after_input codec settings nid node (selected_place settings nid node)) (same from refl)

-- a choice of three that agree where they are chosen
choice-agree : (one two three : Bool) (a b b' c c' d : Signal) → (two ≡ true → b ≡ b') → (three ≡ true → c ≡ c') → cond one a (cond two b (cond three c d)) ≡ cond one a (cond two b' (cond three c' d))
choice-agree true two three a b b' c c' d second third = refl
choice-agree false true three a b b' c c' d second third = second refl
choice-agree false false true a b b' c c' d second third = third refl
choice-agree false false false a b b' c c' d second third = refl

-- a mixer or selector has its list
listed_left : (one two : Bool) (list : List ℕ) → one ≡ true → cond (one || two) list [] ≡ list
listed_left true two list e = refl
listed_left false two list e = cc

listed_right : (one two : Bool) (list : List ℕ) → two ≡ true → cond (one || two) list [] ≡ list
listed_right true two list e = refl
listed_right false true list e = refl
listed_right false false list e = cc

-- a mixer makes of what agrees the same
mixed_as-agree : (kind : PinKind) (codec : RawCodec) (settings : Entries) (f g : ℕ → Signal) (nid : ℕ) (node : RawNode) → ((to : ℕ) → Contains node.list to → f to ≡ g to) → mixed_as kind codec settings f nid node ≡ mixed_as kind codec settings g nid node
mixed_as-agree Analog codec settings f g nid node same = ap (changed_if (not (is_stereo node))) (mixed-agree codec settings f g nid node node.list 0 same)
mixed_as-agree Digital codec settings f g nid node same = refl

made-agree : (sources : Sources) (codec : RawCodec) (settings : Entries) (f g : ℕ → Signal) (nid : ℕ) (node : RawNode) → ((to : ℕ) → Contains (inner_list_of (Some node)) to → f to ≡ g to) → made_from sources codec settings f nid node ≡ made_from sources codec settings g nid node
made-agree sources codec settings f g nid node same =
    choice-agree (is_source sources node) (is_mixer node) (is_selector node) (source_signal sources codec settings nid node) _ _ _ _ Silence
    (λ mixer. mixed_as-agree (source_kind sources) codec settings f g nid node (λ to h. same to (rw (listed_left (is_mixer node) (is_selector node) node.list mixer) h)))
    (λ selector. ap (changed_if (not (is_stereo node))) (passed_on-agree codec settings f g nid node (selected settings nid node) (λ to is. same to (rw (listed_right (is_mixer node) (is_selector node) node.list selector) (selected_listed settings nid node to is)))))

given_at-agree : (sources : Sources) (codec : RawCodec) (settings : Entries) (f g : ℕ → Signal) (nid : ℕ) (o : Option RawNode) → ((to : ℕ) → Contains (inner_list_of o) to → f to ≡ g to) → given_from_at sources codec settings f nid o ≡ given_from_at sources codec settings g nid o
given_at-agree sources codec settings f g nid None same = refl
given_at-agree sources codec settings f g nid (Some node) same =
    ap (λ (signal : Signal). cond (is_off codec settings nid node) Silence (after_output codec settings nid node signal)) (made-agree sources codec settings f g nid node same)

-- what a node gives is the same where what its listed nodes give is
pub gives-agree-from : (sources : Sources) (codec : RawCodec) (settings : Entries) (f g : ℕ → Signal) (nid : ℕ) → ((to : ℕ) → Contains (inner_list codec nid) to → f to ≡ g to) → gives_from sources codec settings f nid ≡ gives_from sources codec settings g nid
unfolding gives_from
gives-agree-from sources codec settings f g nid same = given_at-agree sources codec settings f g nid (node_at codec nid) same

pub gives-agree : (kind : PinKind) (codec : RawCodec) (settings : Entries) (stream : LinkStream) (f g : ℕ → Signal) (nid : ℕ) → ((to : ℕ) → Contains (inner_list codec nid) to → f to ≡ g to) → gives_as kind codec settings stream f nid ≡ gives_as kind codec settings stream g nid
gives-agree kind codec settings stream = gives-agree-from (Converters kind stream) codec settings

comes_from-agree : (f g : ℕ → Signal) (o : Option ℕ) → ((to : ℕ) → f to ≡ g to) → comes_from f o ≡ comes_from g o
comes_from-agree f g None same = refl
comes_from-agree f g (Some from) same = same from

-- what a node hears is the same where what all nodes give is
pub hears-agree : (kind : PinKind) (codec : RawCodec) (settings : Entries) (f g : ℕ → Signal) (nid : ℕ) (o : Option RawNode) → ((to : ℕ) → f to ≡ g to) → hears kind codec settings f nid o ≡ hears kind codec settings g nid o
hears-agree kind codec settings f g nid None same = refl
hears-agree kind codec settings f g nid (Some node) same =
    ap (λ (signal : Signal). cond (is_pin node) (cond (is_silent_pin codec settings nid node) Silence (changed_if (not (is_stereo node) || is_foreign kind node) (after_output codec settings nid node signal))) Silence)
    (comes_from-agree f g (selected settings nid node) same)

-- what an input converter hears is the same where what all nodes give on the way in is
passed_on-all : (codec : RawCodec) (settings : Entries) (f g : ℕ → Signal) (nid : ℕ) (node : RawNode) → ((to : ℕ) → f to ≡ g to) → passed_on codec settings f nid node (selected settings nid node) ≡ passed_on codec settings g nid node (selected settings nid node)
passed_on-all codec settings f g nid node same = passed_on-agree codec settings f g nid node (selected settings nid node) (λ to is. same to)

pub hears_in-agree : (codec : RawCodec) (settings : Entries) (f g : ℕ → Signal) (nid : ℕ) (o : Option RawNode) → ((to : ℕ) → f to ≡ g to) → hears_in codec settings f nid o ≡ hears_in codec settings g nid o
hears_in-agree codec settings f g nid None same = refl
hears_in-agree codec settings f g nid (Some node) same =
    ap (λ (signal : Signal). cond (is_input_converter node) (cond (is_off codec settings nid node) Silence (after_output codec settings nid node signal)) Silence)
    (passed_on-all codec settings f g nid node same)
