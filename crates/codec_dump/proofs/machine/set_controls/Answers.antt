use Rattle.std.proofs.Common.{◌≡◌, refl}
use Rattle.std.specs.Option.{option_map}
use Rattle.verb_codes.specs.declared.verbs.Verb.TheVariants.{SetSelect, SetPower, SetStream, SetPin, SetUnsol, SetEapd, SetDigital}
use Rattle.codec_dump.specs.Machines.{gain_out_verb}
use Rattle.codec_dump.proofs.StartLemmas.{mapped, mapped_by}
use Rattle.codec_dump.proofs.machine.set_controls.Goals as goal

pub returns-clause-value : goal.returns-clause-value
returns-clause-value c =
    let facts = c.args.facts.now in
    let select : c.map.result ≡ option_map SetSelect facts.select = mapped SetSelect _ _ c.map.ensures.cases in
    let power_state : c.map-2.result ≡ option_map SetPower facts.power_state = mapped SetPower _ _ c.map-2.ensures.cases in
    let stream : c.map-3.result ≡ option_map SetStream facts.stream = mapped SetStream _ _ c.map-3.ensures.cases in
    let control : c.map-4.result ≡ option_map SetPin facts.control = mapped SetPin _ _ c.map-4.ensures.cases in
    let unsol : c.map-5.result ≡ option_map SetUnsol facts.unsol = mapped SetUnsol _ _ c.map-5.ensures.cases in
    let eapd : c.map-6.result ≡ option_map SetEapd facts.eapd = mapped SetEapd _ _ c.map-6.ensures.cases in
    let digital : c.map-7.result ≡ option_map SetDigital facts.digital = mapped SetDigital _ _ c.map-7.ensures.cases in
    let gain_out : c.map-8.result ≡ option_map gain_out_verb facts.gain_out = mapped_by gain_out_verb _ (λ x y h. h.0) _ _ c.map-8.ensures.cases in
    rw (
      c.set_given-8.ensures.value,
      c.set_given-7.ensures.value,
      c.set_given-6.ensures.value,
      c.set_given-5.ensures.value,
      c.set_given-4.ensures.value,
      c.set_given-3.ensures.value,
      c.set_given-2.ensures.value,
      c.set_given.ensures.value,
      select,
      power_state,
      stream,
      control,
      unsol,
      eapd,
      digital,
      gain_out,
    ) refl
