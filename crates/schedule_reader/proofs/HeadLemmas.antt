-- Reading keyword by keyword is reading by the table of operands.
use Rattle.std.proofs.Common.{◌≡◌, ℕ, suc, eqb, false, length, List, [], ◌∷◌, Option, Some, None, refl, sym, ap, ◌∙◌, arith}
use Rattle.std.proofs.lemmas.Bool.{cond-false}
use Rattle.std.proofs.lemmas.Bool.Decides.{nat_tests}
use Rattle.world_steps.specs.declared.Step.{Step}
use Rattle.schedule_reader.specs.declared.keywords.Keyword.{Keyword}
use Rattle.schedule_reader.specs.declared.keywords.Keyword.TheVariants.{Corb, Answer, Lose, Rirb, Fetch, Link, Plug, Unplug, Run, Irq, Repeat, End}
use Rattle.schedule_reader.specs.declared.heads.Head.{Head}
use Rattle.schedule_reader.specs.declared.heads.Head.TheVariants as head
use Rattle.schedule_reader.specs.Cuts.{one, two}
use Rattle.schedule_reader.specs.Numbers.{◌>>=◌}
use Rattle.schedule_reader.specs.Keywords.{keyword_of}
use Rattle.schedule_reader.specs.Operands.{Operand, Number, Nid, codec, most_budget, operands_of, value_of, values_of}
use Rattle.schedule_reader.specs.Heads.{head_with, head_of, device_step, step_of}
use Rattle.schedule_reader.specs.Readers as readers
use Rattle.schedule_reader.specs.Readers.{alone}

eqb-suc : (n : ℕ) → eqb (suc n) 0 ≡ false
eqb-suc n = grind (arith, nat_tests)

alone-more : {A : Type 0} (x : A) (text : List ℕ) (texts : List (List ℕ)) → alone x (text ∷ texts) ≡ None
alone-more x text texts = cond-false _ _ _ (eqb-suc (length texts))

-- no operand
no_operand : {A : Type 0} (made : List ℕ → Option A) (x : A) (texts : List (List ℕ)) → made [] ≡ Some x → (values_of [] texts >>= made) ≡ alone x texts
no_operand made x [] e = e
no_operand made x (text ∷ texts) e = sym (alone-more x text texts)

-- one operand
one_value : {A : Type 0} (made : List ℕ → Option A) (found : Option ℕ) → ((found >>= λ v. Some (v ∷ [])) >>= made) ≡ (found >>= λ v. made (v ∷ []))
one_value made None = refl
one_value made (Some v) = refl

abbrev nothing : (A : Type 0) → Option A
nothing A = None

no_value : (found : Option ℕ) → (found >>= λ v. nothing (List ℕ)) ≡ None
no_value None = refl
no_value (Some v) = refl

one_operand : {A : Type 0} (operand : Operand) (made : List ℕ → Option A) (texts : List (List ℕ)) → (values_of (operand ∷ []) texts >>= made) ≡ ((one texts >>= value_of operand) >>= λ v. made (v ∷ []))
one_operand operand made [] = refl
one_operand operand made (text ∷ []) = one_value made (value_of operand text)
one_operand operand made (text ∷ other ∷ texts) = ap (λ found. found >>= made) (no_value (value_of operand text))

-- two operands
two_values : {A : Type 0} (made : List ℕ → Option A) (found other : Option ℕ) → ((found >>= λ v. (other >>= λ u. Some (u ∷ [])) >>= λ vs. Some (v ∷ vs)) >>= made) ≡ ((found >>= λ v. other >>= λ u. Some (v, u)) >>= λ (both : ℕ × ℕ). made (both.0 ∷ both.1 ∷ []))
two_values made None other = refl
two_values made (Some v) None = refl
two_values made (Some v) (Some u) = refl

two_operands : {A : Type 0} (operand later : Operand) (made : List ℕ → Option A) (texts : List (List ℕ)) → (values_of (operand ∷ later ∷ []) texts >>= made) ≡ ((two texts >>= λ (both : List ℕ × List ℕ). value_of operand both.0 >>= λ v. value_of later both.1 >>= λ u. Some (v, u)) >>= λ (both : ℕ × ℕ). made (both.0 ∷ both.1 ∷ []))
two_operands operand later made [] = refl
two_operands operand later made (text ∷ []) = ap (λ found. found >>= made) (no_value (value_of operand text))
two_operands operand later made (text ∷ other ∷ []) = two_values made (value_of operand text) (value_of later other)
two_operands operand later made (text ∷ other ∷ third ∷ texts) = ap (λ found. found >>= made) (first_of_three (value_of operand text) (value_of later other))
  where
    first_of_three : (found next : Option ℕ) → (found >>= λ v. (next >>= λ u. nothing (List ℕ)) >>= λ vs. Some (v ∷ vs)) ≡ None
    first_of_three None next = refl
    first_of_three (Some v) None = refl
    first_of_three (Some v) (Some u) = refl

alone-device : (step : Step) (texts : List (List ℕ)) → alone (head.Device step) texts ≡ (alone step texts >>= λ step. Some (head.Device step))
alone-device step [] = refl
alone-device step (text ∷ texts) = alone-more (head.Device step) text texts ∙ sym (ap (λ found. found >>= λ step. Some (head.Device step)) (alone-more step text texts))

then-device : {A : Type 0} (found : Option A) (made : A → Step) → (found >>= λ v. Some (head.Device (made v))) ≡ ((found >>= λ v. Some (made v)) >>= λ step. Some (head.Device step))
then-device None made = refl
then-device (Some v) made = refl

-- what a keyword says of the words behind it
pub head_with-reads : (first : Keyword) (texts : List (List ℕ)) → (values_of (operands_of first) texts >>= head_with first) ≡ readers.head_with first texts
head_with-reads Corb texts = no_operand (head_with Corb) _ texts refl ∙ alone-device _ texts
head_with-reads Rirb texts = no_operand (head_with Rirb) _ texts refl ∙ alone-device _ texts
head_with-reads End texts = no_operand (head_with End) _ texts refl
head_with-reads Answer texts = one_operand codec (head_with Answer) texts ∙ then-device (readers.only_codec texts) _
head_with-reads Lose texts = one_operand codec (head_with Lose) texts ∙ then-device (readers.only_codec texts) _
head_with-reads Link texts = one_operand (Number 1 1000000) (head_with Link) texts ∙ then-device (readers.only_frames texts) _
head_with-reads Run texts = one_operand (Number 0 most_budget) (head_with Run) texts
head_with-reads Irq texts = one_operand (Number 0 most_budget) (head_with Irq) texts
head_with-reads Repeat texts = one_operand (Number 1 1000000) (head_with Repeat) texts
head_with-reads Fetch texts = two_operands (Number 0 1) (Number 1 65535) (head_with Fetch) texts ∙ then-device (readers.stream_and_bytes texts) _
head_with-reads Plug texts = two_operands codec Nid (head_with Plug) texts ∙ then-device (readers.codec_and_nid texts) _
head_with-reads Unplug texts = two_operands codec Nid (head_with Unplug) texts ∙ then-device (readers.codec_and_nid texts) _

-- what words say
pub head_of-reads : (texts : List (List ℕ)) → head_of texts ≡ readers.head_of texts
unfolding head_of readers.head_of
head_of-reads [] = refl
head_of-reads (word ∷ texts) = by_keyword (keyword_of word)
  where
    by_keyword : (first : Option Keyword) → (first >>= λ first. values_of (operands_of first) texts >>= head_with first) ≡ (first >>= λ first. readers.head_with first texts)
    by_keyword None = refl
    by_keyword (Some first) = head_with-reads first texts

of_step : (found : Option Step) → ((found >>= λ step. Some (head.Device step)) >>= device_step) ≡ found
of_step None = refl
of_step (Some step) = refl

of_drive : (found : Option ℕ) (made : ℕ → Head) → ((v : ℕ) → device_step (made v) ≡ None) → ((found >>= λ v. Some (made v)) >>= device_step) ≡ None
of_drive None made e = refl
of_drive (Some v) made e = e v

of_end : (texts : List (List ℕ)) → (alone head.End texts >>= device_step) ≡ None
of_end [] = refl
of_end (text ∷ texts) = ap (λ found. found >>= device_step) (alone-more head.End text texts)

-- a head is a step exactly where the keyword is one of a step
device_step-with : (first : Keyword) (texts : List (List ℕ)) → (readers.head_with first texts >>= device_step) ≡ readers.step_with first texts
device_step-with Corb texts = of_step (readers.step_with Corb texts)
device_step-with Answer texts = of_step (readers.step_with Answer texts)
device_step-with Lose texts = of_step (readers.step_with Lose texts)
device_step-with Rirb texts = of_step (readers.step_with Rirb texts)
device_step-with Fetch texts = of_step (readers.step_with Fetch texts)
device_step-with Link texts = of_step (readers.step_with Link texts)
device_step-with Plug texts = of_step (readers.step_with Plug texts)
device_step-with Unplug texts = of_step (readers.step_with Unplug texts)
device_step-with Run texts = of_drive (readers.only_budget texts) _ (λ v. refl)
device_step-with Irq texts = of_drive (readers.only_budget texts) _ (λ v. refl)
device_step-with Repeat texts = of_drive (readers.only_times texts) _ (λ v. refl)
device_step-with End texts = of_end texts

pub step_of-reads : (texts : List (List ℕ)) → step_of texts ≡ readers.step_of texts
unfolding step_of readers.head_of readers.step_of
step_of-reads texts = ap (λ found. found >>= device_step) (head_of-reads texts) ∙ by_words texts
  where
    by_keyword : (first : Option Keyword) (texts : List (List ℕ)) → ((first >>= λ first. readers.head_with first texts) >>= device_step) ≡ (first >>= λ first. readers.step_with first texts)
    by_keyword None texts = refl
    by_keyword (Some first) texts = device_step-with first texts

    by_words : (texts : List (List ℕ)) → (readers.head_of texts >>= device_step) ≡ readers.step_of texts
    by_words [] = refl
    by_words (word ∷ texts) = by_keyword (keyword_of word) texts
