use Rattle.std.proofs.Common.{◌≡◌, ◌+◌, ◌*◌, nat_le, ℕ, Bool, true, false, List, ◌++◌, length, take, drop, replicate, Some, None, if◌then◌else◌, refl, sym, ap, ◌∙◌}
use Rattle.std.proofs.lemmas.Option.{none-some}
use Rattle.std.proofs.lemmas.List.{take-replicate}
use Rattle.world_streams.specs.Input.{given_block, silent_block}
use Rattle.stream_descriptor.proofs.stream.taking.accept_block.Goals as goal

-- a test that gives nothing failed
no_start : (test : Bool) (start : ℕ) → None ≡ (if test then Some start else None) → test ≡ false
no_start true start none = absurd (none-some start none)
no_start false start none = refl

silent : (size place : ℕ) (sound : List ℕ) → nat_le ((place + 1) * size) (length sound) ≡ false → given_block size sound place ≡ silent_block size
silent size place sound past = ap (λ (fits : Bool). if fits then take size (drop (place * size) sound) else silent_block size) past

pub returns-in-None-clause-taken : goal.returns-in-None-clause-taken
returns-in-None-clause-taken c = λ taken. (
    let past = no_start _ _ (sym c.in-None.is ∙ c.block_start.ensures) in
    let block : take c.args.blocks.size (replicate 32 0) ≡ given_block c.args.blocks.size c.args.sound.now (c.args.blocks.from + c.args.place) =
    take-replicate c.args.blocks.size 32 0 c.requires ∙ sym (silent c.args.blocks.size (c.args.blocks.from + c.args.place) c.args.sound.now past) in
    c.accept-in-None.ensures.taken taken ∙ ap (λ (bytes : List ℕ). record c.args.fetch.now { bytes = c.args.fetch.now.bytes ++ bytes }) block)
