use Rattle.std.proofs.Common.{◌≤◌, arith, lit≤}
use Rattle.std.proofs.lemmas.List.{length-drop}
use Rattle.hda_registers.specs.declared.shapes.RingSize.{RingSize}
use Rattle.hda_registers.specs.declared.shapes.RingSize.TheVariants.{Two, Sixteen, Full}
use Rattle.command_engine.specs.Sizes.{half_of}
use Rattle.command_engine.proofs.laws.few_responses_are_unread.Goals as goal

half_few : (size : RingSize) → half_of size ≤ 128
half_few Two = lit≤ tt
half_few Sixteen = lit≤ tt
half_few Full = lit≤ tt

pub returns : goal.returns
returns c = record {
  unread = λ from read corb rirb rings world holds. let few = holds.few in let long = length-drop read world.written in omega arith;
  half = half_few;
}
