use Rattle.capture_report.proofs.FileLemmas.{file_pieces}
use Rattle.capture_report.proofs.laws.wav_lines_are_the_file.Goals as goal

pub returns-clause-joined : goal.returns-clause-joined
returns-clause-joined c = λ file. (file_pieces file).joined

pub returns-clause-some : goal.returns-clause-some
returns-clause-some c = λ file. (file_pieces file).some

pub returns-clause-most : goal.returns-clause-most
returns-clause-most c = λ file. (file_pieces file).few

pub returns-clause-full : goal.returns-clause-full
returns-clause-full c = λ file. (file_pieces file).full
