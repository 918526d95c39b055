-- What a converter must support for a stream format: supported PCM sizes and rates, High Definition Audio 1.0a,
-- 7.3.4.7, and supported stream formats, 7.3.4.8.
use Rattle.std.specs.Prelude.{ℕ, Bool, ◌&&◌}
use Rattle.codec_graph.specs.declared.raw.RawNode.{RawNode}
use Rattle.codec_graph.specs.declared.raw.RawCodec.{RawCodec}
use Rattle.verb_codes.specs.Words.{has_bit}
use Rattle.codec_graph.specs.Widget.{pcm_word, formats_word}
use Rattle.stream_format.specs.declared.format.Rate.{Rate}
use Rattle.stream_format.specs.declared.format.Rate.TheVariants.{R8, R16, R44, R48, R96, R192}
use Rattle.stream_format.specs.declared.format.Bits.{Bits}
use Rattle.stream_format.specs.declared.format.Bits.TheVariants.{B16, B24, B32}

-- the bit of the PCM word for a sample rate, and for a sample size
abbrev pub rate_bit : Rate → ℕ
rate_bit R8 = 0
rate_bit R16 = 2
rate_bit R44 = 5
rate_bit R48 = 6
rate_bit R96 = 8
rate_bit R192 = 10

abbrev pub size_bit : Bits → ℕ
size_bit B16 = 17
size_bit B24 = 19
size_bit B32 = 20

-- the converter takes PCM of this rate and sample size
abbrev pub supports : RawCodec → Rate → Bits → RawNode → Bool
supports codec rate bits node =
    has_bit (formats_word codec node) 0 && has_bit (pcm_word codec node) (rate_bit rate) && has_bit
    (pcm_word codec node) (size_bit bits)
