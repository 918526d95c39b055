-- What some commands settle: where all their writes to each control agree, a control that one of them writes has the number wanted.
use Rattle.std.proofs.Common.{◌≡◌, ◌<◌, ◌||◌, ℕ, zero, suc, Bool, true, false, cond, List, [], ◌∷◌, length, get_or, Option, Some, refl, sym, ap, ◌∙◌, arith}
use Rattle.std.specs.Prelude.{All, Contains, unwrap_or}
use Rattle.std.specs.Option.{option_map}
use Rattle.std.specs.BTreeMap.{is_at}
use Rattle.std.specs.List.{list_any}
use Rattle.std.proofs.lemmas.List.Elements.{All-head, All-tail}
use Rattle.codec_graph.specs.declared.raw.RawCodec.{RawCodec}
use Rattle.codec_graph.specs.declared.controls.Control.{Control}
use Rattle.codec_graph.specs.declared.controls.ControlKey.{ControlKey}
use Rattle.codec_graph.specs.Settings.{Entries, key, key_cmp, setting_at, setting_of, put, put_all}
use Rattle.codec_graph.specs.VerbMeaning.{writes_of, after}
use Rattle.codec_graph.proofs.Callers.{same_key}
use Rattle.codec_graph.proofs.Callers.{lookup-put}
use Rattle.verb_codes.specs.declared.verbs.Command.{Command}
use Rattle.setup_verbs.specs.SetUp.{settings_after}

-- some writes put what is wanted
abbrev pub AllWanted : (ControlKey → ℕ) → Entries → Type 0
AllWanted W writes = All (λ (w : ControlKey × ℕ). w.1 ≡ W w.0) writes

-- a command puts what is wanted alone, from any settings
pub record IsWanted (W : ControlKey → ℕ) (codec : RawCodec) (command : Command) : Type 0 where
  pub writes : (settings : Entries) → AllWanted W (writes_of codec settings command)

-- some writes have a key
abbrev pub has_key : ControlKey → Entries → Bool
has_key at writes = list_any (λ (w : ControlKey × ℕ). is_at (key_cmp at) w.0) writes

-- a command sets a control
pub record Sets (codec : RawCodec) (command : Command) (nid : ℕ) (control : Control) : Type 0 where
  pub hit : (settings : Entries) → has_key (key nid control) (writes_of codec settings command) ≡ true

-- the setting after a number was put
after_put : (settings : Entries) (at : ControlKey) (value n : ℕ) (nid : ℕ) (control : Control) (b : Bool) → is_at (key_cmp (key nid control)) at ≡ b → setting_at settings nid control ≡ Some n
    → setting_at (put settings at value) nid control ≡ Some (cond b value n)
after_put settings at value n nid control true e there =
    lookup-put (key nid control) at value settings
    ∙ ap (λ b. cond b (option_map (λ _. value) (setting_at settings nid control)) (setting_at settings nid control)) e
    ∙ ap (λ (o : Option ℕ). option_map (λ _. value) o) there
after_put settings at value n nid control false e there =
    lookup-put (key nid control) at value settings
    ∙ ap (λ b. cond b (option_map (λ _. value) (setting_at settings nid control)) (setting_at settings nid control)) e
    ∙ there

-- a write that is wanted keeps a setting that is wanted
kept_put : (W : ControlKey → ℕ) (settings : Entries) (at : ControlKey) (value : ℕ) (nid : ℕ) (control : Control) → value ≡ W at → setting_at settings nid control ≡ Some (W (key nid control))
    → setting_at (put settings at value) nid control ≡ Some (W (key nid control))
kept_put W settings at value nid control is there = by (is_at (key_cmp (key nid control)) at) refl
  where
    by : (b : Bool) → is_at (key_cmp (key nid control)) at ≡ b → setting_at (put settings at value) nid control ≡ Some (W (key nid control))
    by true e = after_put settings at value (W (key nid control)) nid control true e there ∙ ap (λ n. Some n) (is ∙ ap W (sym (same_key (key nid control) at e)))
    by false e = after_put settings at value (W (key nid control)) nid control false e there

kept_all : (W : ControlKey → ℕ) (writes settings : Entries) (nid : ℕ) (control : Control) → AllWanted W writes → setting_at settings nid control ≡ Some (W (key nid control))
    → setting_at (put_all settings writes) nid control ≡ Some (W (key nid control))
kept_all W [] settings nid control wanted there = there
kept_all W (w ∷ writes) settings nid control wanted there =
    kept_all W writes (put settings w.0 w.1) nid control (All-tail (λ (x : ControlKey × ℕ). x.1 ≡ W x.0) w writes wanted)
    (kept_put W settings w.0 w.1 nid control (All-head (λ (x : ControlKey × ℕ). x.1 ≡ W x.0) w writes wanted) there)

some_put : (settings : Entries) (at : ControlKey) (value n : ℕ) (nid : ℕ) (control : Control) → setting_at settings nid control ≡ Some n → (m : ℕ) × (setting_at (put settings at value) nid control ≡ Some m)
some_put settings at value n nid control there = (cond (is_at (key_cmp (key nid control)) at) value n, after_put settings at value n nid control (is_at (key_cmp (key nid control)) at) refl there)

some_all : (writes settings : Entries) (n : ℕ) (nid : ℕ) (control : Control) → setting_at settings nid control ≡ Some n → (m : ℕ) × (setting_at (put_all settings writes) nid control ≡ Some m)
some_all [] settings n nid control there = (n, there)
some_all (w ∷ writes) settings n nid control there =
    let one = some_put settings w.0 w.1 n nid control there in some_all writes (put settings w.0 w.1) one.0 nid control one.1

hit_all : (W : ControlKey → ℕ) (writes settings : Entries) (n : ℕ) (nid : ℕ) (control : Control) → AllWanted W writes → has_key (key nid control) writes ≡ true → setting_at settings nid control ≡ Some n
    → setting_at (put_all settings writes) nid control ≡ Some (W (key nid control))
hit_all W [] settings n nid control wanted hit there = cc
hit_all W (w ∷ writes) settings n nid control wanted hit there =
    by (is_at (key_cmp (key nid control)) w.0) refl hit (hit_all W writes)
  where
    rest : AllWanted W writes
    rest = All-tail (λ (x : ControlKey × ℕ). x.1 ≡ W x.0) w writes wanted

    is : w.1 ≡ W w.0
    is = All-head (λ (x : ControlKey × ℕ). x.1 ≡ W x.0) w writes wanted

    by : (b : Bool) → is_at (key_cmp (key nid control)) w.0 ≡ b → (b || has_key (key nid control) writes) ≡ true
        → ((settings' : Entries) (n' nid' : ℕ) (control' : Control) → AllWanted W writes → has_key (key nid' control') writes ≡ true → setting_at settings' nid' control' ≡ Some n' → setting_at (put_all settings' writes) nid' control' ≡ Some (W (key nid' control')))
        → setting_at (put_all (put settings w.0 w.1) writes) nid control ≡ Some (W (key nid control))
    by true e h more =
        kept_all W writes (put settings w.0 w.1) nid control rest
        (after_put settings w.0 w.1 n nid control true e there ∙ ap (λ m. Some m) (is ∙ ap W (sym (same_key (key nid control) w.0 e))))
    by false e h more = more (put settings w.0 w.1) n nid control rest h (after_put settings w.0 w.1 n nid control false e there)

kept_commands : (W : ControlKey → ℕ) (codec : RawCodec) (commands : List Command) (settings : Entries) (nid : ℕ) (control : Control) → All (IsWanted W codec) commands → setting_at settings nid control ≡ Some (W (key nid control))
    → setting_at (settings_after codec settings commands) nid control ≡ Some (W (key nid control))
unfolding after
kept_commands W codec [] settings nid control wanted there = there
kept_commands W codec (c ∷ commands) settings nid control wanted there =
    kept_commands W codec commands (after codec settings c) nid control (All-tail (IsWanted W codec) c commands wanted) here
  where
    here : setting_at (after codec settings c) nid control ≡ Some (W (key nid control))
    here = kept_all W (writes_of codec settings c) settings nid control ((All-head (IsWanted W codec) c commands wanted).writes settings) there

settle_at : (W : ControlKey → ℕ) (codec : RawCodec) (commands : List Command) (k : ℕ) (settings : Entries) (n nid : ℕ) (control : Control) (command : Command) → k < length commands → get_or commands k command ≡ command
    → All (IsWanted W codec) commands → Sets codec command nid control → setting_at settings nid control ≡ Some n
    → setting_at (settings_after codec settings commands) nid control ≡ Some (W (key nid control))
unfolding after
settle_at W codec [] k settings n nid control command within is wanted sets there = absurd (omega arith)
settle_at W codec (c ∷ commands) zero settings n nid control command within is wanted sets there =
    kept_commands W codec commands (after codec settings c) nid control (All-tail (IsWanted W codec) c commands wanted)
    (hit_all W (writes_of codec settings c) settings n nid control ((All-head (IsWanted W codec) c commands wanted).writes settings)
    (ap (λ (x : Command). has_key (key nid control) (writes_of codec settings x)) is ∙ sets.hit settings) there)
settle_at W codec (c ∷ commands) (suc k) settings n nid control command within is wanted sets there =
    let more = some_all (writes_of codec settings c) settings n nid control there in
    settle_at W codec commands k (after codec settings c) more.0 nid control command (omega arith) is (All-tail (IsWanted W codec) c commands wanted) sets more.1

-- a control that one of some commands sets, all of which put what is wanted
pub settle : (W : ControlKey → ℕ) (codec : RawCodec) (commands : List Command) (settings : Entries) (n nid : ℕ) (control : Control) (command : Command) → All (IsWanted W codec) commands → Contains commands command → Sets codec command nid control
    → setting_at settings nid control ≡ Some n → setting_of (settings_after codec settings commands) nid control ≡ W (key nid control)
settle W codec commands settings n nid control command wanted has sets there =
    ap (λ (o : Option ℕ). unwrap_or o 0) (settle_at W codec commands has.0 settings n nid control command has.1 has.2 wanted sets there)
