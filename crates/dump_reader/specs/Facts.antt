-- What a dump says of a codec: facts with nothing in them yet, and how one comes in.
use Rattle.std.specs.Prelude.{ℕ, ◌+◌, ◌==◌, List, [], ◌∷◌, ◌++◌, Bool, false, Option, Some, None, if◌then◌else◌}
use Rattle.std.specs.Prelude.{bytes_eq}
use Rattle.std.specs.Prelude.{min}
use Rattle.std.specs.List.{list_any}
use Rattle.dump_reader.specs.declared.labels.Label.{Label}
use Rattle.dump_reader.specs.declared.facts.NodeFacts.{NodeFacts}
use Rattle.dump_reader.specs.declared.facts.CodecFacts.{CodecFacts}
use Rattle.dump_reader.specs.Labels.{label_text}

-- nothing is known yet of the node that begins on this line, but its identifier and its capabilities
abbrev pub plain_facts : ℕ → ℕ → ℕ → NodeFacts
plain_facts line nid caps = record {
  nid = nid;
  caps = caps;
  pcm = None;
  formats = None;
  pin_caps = None;
  is_old_pin_caps = false;
  amp_in = None;
  amp_out = None;
  power = None;
  default = None;
  list = None;
  select = None;
  power_state = None;
  stream = None;
  control = None;
  unsol = None;
  eapd = None;
  digital = None;
  gain_out = None;
  gains_in = None;
  lines = record { node = line; amp_in = 0; amp_out = 0; list = 0 };
  notes = [];
  others = 0;
  first_other = 0;
}

-- nothing is known yet of the codec with this name, which begins on this line; its function group has the usual
-- identifier 1 and no widget capabilities
abbrev pub plain_codec : ℕ → List ℕ → CodecFacts
plain_codec line name = record {
  name = name;
  line = line;
  address = None;
  vendor = None;
  revision = None;
  group_type = None;
  group_nid = None;
  is_modem = false;
  group = plain_facts line 1 0;
  nodes = [];
}

-- a fact comes in once
abbrev pub once : {A : Type 0} → Option A → A → Option (Option A)
once None fact = Some (Some fact)
once (Some _) fact = None

-- a fact that may not be available comes in once, where it is
abbrev pub once_given : {A : Type 0} → Option A → Option A → Option (Option A)
once_given held None = Some held
once_given held (Some fact) = once held fact

-- whether a label is among the notes
abbrev pub is_noted : List Label → Label → Bool
is_noted notes label = list_any (λ other. bytes_eq (label_text other) (label_text label)) notes

-- a line with this label says something that has no key: it is noted once
abbrev pub noted : Label → NodeFacts → NodeFacts
noted label facts = if is_noted facts.notes label then facts else record facts { notes = facts.notes ++ label ∷ [] }

-- a line without a label says something that has no key; they are counted up to the greatest number of 32 bits
abbrev pub with_other : ℕ → NodeFacts → NodeFacts
with_other line facts = record facts {
  others = min (facts.others + 1) 4294967295;
  first_other = if facts.others == 0 then line else facts.first_other;
}
