use Rattle.std.proofs.Common.{Err, ap, subst}
use Rattle.hda_outside.specs.Shelf.{file_of}
use Rattle.wav_reader.specs.Opening.{IsOpenedBy}
use Rattle.program_runs.specs.Shelves.{sound_name}
use Rattle.wav_reader.specs.declared.opened.WavOpen.{WavOpen}
use Rattle.program_runs.proofs.Heads.{head_is, never_fails, not_long, not_refused}
use Rattle.program_runs.proofs.made_playing.open_made.Goals as goal

pub unreachable-requires : goal.unreachable-requires
unreachable-requires c =
    never_fails c.args.number c.args.shelf.now.files c.open_wav.new.shelf.files c.args.shelf.now.missing c.open_wav.new.shelf.missing c.requires
    c.in-Err-Failed.ensures.told (c.in-Err-Failed.ensures.failed (ap Err c.in-Err-Failed.field-0-is))

pub unreachable-requires-in-Err-TooLong : goal.unreachable-requires-in-Err-TooLong
unreachable-requires-in-Err-TooLong c = not_long c.args.number c.args.shelf.now.files c.requires
    (subst (λ (fault : WavOpen). IsOpenedBy (file_of c.args.shelf.now.files sound_name) (Err fault)) c.in-Err-TooLong.field-0-is c.in-Err-TooLong.ensures.exact)

pub unreachable-requires-in-Err-Wav : goal.unreachable-requires-in-Err-Wav
unreachable-requires-in-Err-Wav c =
    not_refused c.written_sound_is_read.ensures c.args.number c.args.shelf.now.files c.in-Err-Wav.field-0-0 c.requires
    (subst (λ (fault : WavOpen). IsOpenedBy (file_of c.args.shelf.now.files sound_name) (Err fault)) c.in-Err-Wav.field-0-is c.in-Err-Wav.ensures.exact)

pub returns-in-Ok-clause-head : goal.returns-in-Ok-clause-head
returns-in-Ok-clause-head c = head_is c.written_sound_is_read.ensures c.args.number c.args.shelf.now.files c.in-Ok.head c.requires c.in-Ok.ensures.exact
