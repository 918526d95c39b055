use Rattle.std.proofs.Common.{◌≡◌, refl}
use Rattle.std.specs.Option.{option_map}
use Rattle.verb_codes.specs.declared.verbs.Verb.TheVariants.{SetSelect, SetPower, SetStream, SetPin, SetUnsol, SetEapd, SetDigital, SetFormat}
use Rattle.hda_files.specs.Starts.{output_gain}
use Rattle.hda_files.proofs.StartLemmas.{mapped, mapped_by}
use Rattle.hda_files.proofs.start.set_controls.Goals as goal

pub returns-clause-value : goal.returns-clause-value
returns-clause-value c =
    let keys = c.args.keys.now in
    let select : c.map.result ≡ option_map SetSelect keys.select = mapped SetSelect _ _ c.map.ensures.cases in
    let power_state : c.map-2.result ≡ option_map SetPower keys.power_state = mapped SetPower _ _ c.map-2.ensures.cases in
    let stream : c.map-3.result ≡ option_map SetStream keys.stream = mapped SetStream _ _ c.map-3.ensures.cases in
    let control : c.map-4.result ≡ option_map SetPin keys.control = mapped SetPin _ _ c.map-4.ensures.cases in
    let unsol : c.map-5.result ≡ option_map SetUnsol keys.unsol = mapped SetUnsol _ _ c.map-5.ensures.cases in
    let eapd : c.map-6.result ≡ option_map SetEapd keys.eapd = mapped SetEapd _ _ c.map-6.ensures.cases in
    let digital : c.map-7.result ≡ option_map SetDigital keys.digital = mapped SetDigital _ _ c.map-7.ensures.cases in
    let gain_out : c.map-8.result ≡ option_map output_gain keys.gain_out = mapped_by output_gain _ (λ x y h. h.0) _ _ c.map-8.ensures.cases in
    let format : c.map-9.result ≡ option_map SetFormat keys.format = mapped SetFormat _ _ c.map-9.ensures.cases in
    rw (
      c.set_given-9.ensures.value,
      c.set_given-8.ensures.value,
      c.set_given-7.ensures.value,
      c.set_given-6.ensures.value,
      c.set_given-5.ensures.value,
      c.set_given-4.ensures.value,
      c.set_given-3.ensures.value,
      c.set_given-2.ensures.value,
      c.set_given.ensures.value,
      select,
      power_state,
      stream,
      control,
      unsol,
      eapd,
      digital,
      gain_out,
      format,
    ) refl
