-- The lines that the program writes, but for the words of a codec file's fault. This project's own.
use Rattle.std.specs.Prelude.{ℕ, List, ◌++◌, codes}
use Rattle.sound_report.specs.PlanLines.{newline}

-- the last lines of the program
abbrev pub refused_line : (what fault : List ℕ) → List ℕ
refused_line what fault = what ++ codes " refused: " ++ fault ++ newline

abbrev pub codec_refused_line : List ℕ → List ℕ
codec_refused_line fault = refused_line (codes "codec") fault

abbrev pub schedule_refused_line : List ℕ → List ℕ
schedule_refused_line fault = refused_line (codes "schedule") fault

abbrev pub wav_refused_line : List ℕ → List ℕ
wav_refused_line fault = refused_line (codes "wav") fault

abbrev pub geometry_refused_line : List ℕ → List ℕ
geometry_refused_line fault = refused_line (codes "geometry") fault

abbrev pub nothing_routed_line : List ℕ
nothing_routed_line = codes "nothing routed" ++ newline

abbrev pub usage_line : List ℕ
usage_line =
    codes "usage: hda_play route CODEC [--rate R] [--channels C] [--bits B] | walk CODEC SCHEDULE"
    ++ codes " | play CODEC WAV SCHEDULE [--periods K] [--period M] | make N"
    ++ codes " | spdif CODEC WAV SCHEDULE [--periods K] [--period M]"
    ++ codes " | capture CODEC WAV SCHEDULE [--periods K] [--period M]"
    ++ newline
