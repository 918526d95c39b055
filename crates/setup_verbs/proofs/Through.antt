-- What an opened mixer passes on, and what an opened node passes on of what it selects.
use Rattle.std.proofs.Common.{◌≡◌, ◌≢◌, ◌<◌, ◌≤◌, ◌==◌, ◌⊎◌, ℕ, true, cond, length, Option, Some, refl, ap, ◌∙◌, inl, inr, arith}
use Rattle.std.specs.Prelude.{slice_get, nat_le}
use Rattle.std.proofs.lemmas.Bool.{eq-eqb, ne_eqb, cases_eq}
use Rattle.std.proofs.lemmas.Bool.Decides.{nat_tests}
use Rattle.codec_graph.specs.declared.raw.RawNode.{RawNode}
use Rattle.codec_graph.specs.declared.raw.RawCodec.{RawCodec}
use Rattle.codec_graph.specs.declared.controls.Control.TheVariants as control
use Rattle.codec_graph.specs.Widget.{node_at, is_mixer, has_input_amplifier, input_amplifier_word, can_mute}
use Rattle.codec_graph.specs.Settings.{Entries, setting_of}
use Rattle.codec_graph.specs.Cycles.{IsWellFormed}
use Rattle.codec_sound.specs.declared.signals.Signal.{Signal}
use Rattle.codec_sound.specs.declared.signals.Signal.TheVariants.{Silence}
use Rattle.codec_sound.specs.Amplifiers.{is_muted, after_input}
use Rattle.codec_sound.specs.Signals.{mixed, selected_place, selected, passed_on}
use Rattle.setup_verbs.specs.SetUp.{AreSidesMuted}
use Rattle.setup_verbs.proofs.Wanted.{input_wanted}
use Rattle.setup_verbs.proofs.Faultless.{faultless_at, input_offset}
use Rattle.setup_verbs.proofs.RoleFacts.{within_list}
use Rattle.setup_verbs.proofs.Passing.{input_passes, input_muted, mixed_one, kept_mute}

-- the amplifier of an input is set so that the input at the index passes
pub record IsInputSet (codec : RawCodec) (s : Entries) (nid : ℕ) (node : RawNode) (index place : ℕ) : Type 0 where
  pub left : setting_of s nid (control.InLeft place) ≡ input_wanted codec node index place
  pub right : setting_of s nid (control.InRight place) ≡ input_wanted codec node index place

-- so are all of a mixer
abbrev pub IsMixerSet : RawCodec → Entries → (nid : ℕ) → RawNode → (index : ℕ) → Type 0
IsMixerSet codec s nid node index = has_input_amplifier node ≡ true → (place : ℕ) → place < length node.list → IsInputSet codec s nid node index place

-- a node with a choice has the index selected
abbrev pub IsChoiceSet : Entries → (nid : ℕ) → RawNode → (index : ℕ) → Type 0
IsChoiceSet s nid node index = nat_le 2 (length node.list) ≡ true → setting_of s nid control.Select ≡ index

-- a mixer with a choice has amplifiers that can mute
abbrev pub CanMuteOthers : RawCodec → RawNode → Type 0
CanMuteOthers codec node = 2 ≤ length node.list → (has_input_amplifier node ≡ true) × (can_mute (input_amplifier_word codec node) ≡ true)

module _ (codec : RawCodec) (well : IsWellFormed codec) (s : Entries) (nid : ℕ) (node : RawNode) (there : node_at codec nid ≡ Some node) where
  -- each other input of a mixer is muted
  pub muted_beside : (index place : ℕ) → IsMixerSet codec s nid node index → CanMuteOthers codec node → index < length node.list → place < length node.list → place ≢ index → AreSidesMuted s nid place
  muted_beside index place set mutes within low other =
      let long : 2 ≤ length node.list = omega arith in
      let can = mutes long in
      let mute : input_wanted codec node index place ≡ _ = rw (ne_eqb place index other) refl in
      let here = set can.0 place low in
      record {
        left = ap is_muted (here.left ∙ mute) ∙ kept_mute (input_amplifier_word codec node) place can.1;
        right = ap is_muted (here.right ∙ mute) ∙ kept_mute (input_amplifier_word codec node) place can.1;
      }

  -- a mixer passes on what the connection at the index gives
  pub mixed_through : (out : ℕ → Signal) (index from : ℕ) → IsMixerSet codec s nid node index → CanMuteOthers codec node → is_mixer node ≡ true → slice_get node.list index ≡ Some from → mixed codec s out nid node 0 node.list ≡ out from
  mixed_through out index from set mutes is leads =
      mixed_one codec s out nid node 0 index node.list index from leads (omega arith)
      (λ x. input_passes codec s nid node index index x (input_offset codec nid node well there) refl (λ has. few index within) (λ has. (set has index within).left) (λ has. (set has index within).right))
      (λ j x low high other. silent j x (omega arith) other)
    where
      within : index < length node.list
      within = within_list node.list index from leads

      few : (j : ℕ) → j < length node.list → j < 16
      few j low = let z = (faultless_at codec nid node well there).inputs is in omega arith

      silent : (j : ℕ) (x : Signal) → j < length node.list → j ≢ index → after_input codec s nid node j x ≡ Silence
      silent j x low other =
          let m = muted_beside index j set mutes within low other in
          let w = within in
          let long : 2 ≤ length node.list = omega arith in
          input_muted codec s nid node j x (mutes long).0 (few j low) m.left m.right

  -- the selected place is the index
  place_is : (index : ℕ) → IsChoiceSet s nid node index → index < length node.list → selected_place s nid node ≡ index
  place_is index set within = by (cases_eq (length node.list) 1)
    where
      by : (length node.list ≡ 1) ⊎ (length node.list ≢ 1) → cond (length node.list == 1) 0 (setting_of s nid control.Select) ≡ index
      by (inl one) = rw (eq-eqb (length node.list) 1 one) (omega arith)
      by (inr more) = rw (ne_eqb (length node.list) 1 more) (set (long (length node.list) (omega arith)))
        where
          long : (n : ℕ) → 2 ≤ n → nat_le 2 n ≡ true
          long n h = grind (arith, nat_tests)

  pub selected_is : (index from : ℕ) → IsChoiceSet s nid node index → slice_get node.list index ≡ Some from → selected s nid node ≡ Some from
  selected_is index from set leads = ap (λ i. slice_get node.list i) (place_is index set (within_list node.list index from leads)) ∙ leads

  -- what is selected passes
  pub selected_through : (out : ℕ → Signal) (index from : ℕ) → IsChoiceSet s nid node index → (has_input_amplifier node ≡ true → index < 16) → (has_input_amplifier node ≡ true → IsInputSet codec s nid node index index) → slice_get node.list index ≡ Some from
      → passed_on codec s out nid node (selected s nid node) ≡ out from
  selected_through out index from set low input leads =
      ap (λ (o : Option ℕ). passed_on codec s out nid node o) (selected_is index from set leads)
      ∙ ap (λ i. after_input codec s nid node i (out from)) (place_is index set (within_list node.list index from leads))
      ∙ input_passes codec s nid node index index (out from) (input_offset codec nid node well there) refl low (λ has. (input has).left) (λ has. (input has).right)
