-- Sample formats: their numbers in alsa/pcm.h, and the bytes of a sample.
use Rattle.std.specs.Prelude.{ℕ, ◌/◌, List, [], ◌∷◌, ℤ, pos, ◌+ℤ◌, ◌-ℤ◌, ◌*ℤ◌, slice_index}
use Rattle.std.specs.Int.{w8, w16, cast_signed, cast_unsigned, from_le_bytes, from_be_bytes, to_le_bytes, to_be_bytes, int_div_euclid}
use Rattle.pcm_format.specs.declared.format.Format.{Format}
use Rattle.pcm_format.specs.declared.format.Format.TheVariants.{S8, U8, S16Le, S16Be}

-- the number of a format in `snd_pcm_format_t`
abbrev pub format_number : Format → ℕ
format_number S8 = 0
format_number U8 = 1
format_number S16Le = 2
format_number S16Be = 3

-- how many bits a sample has
abbrev pub bits_of : Format → ℕ
bits_of S8 = 8
bits_of U8 = 8
bits_of S16Le = 16
bits_of S16Be = 16

-- how many bytes a sample has
abbrev pub bytes_of : Format → ℕ
bytes_of format = bits_of format / 8

-- the byte that silence repeats
abbrev pub silence_of : Format → ℕ
silence_of S8 = 0
silence_of U8 = 128
silence_of S16Le = 0
silence_of S16Be = 0

-- the sample of 16 bits that bytes represent
abbrev pub sample_of_bytes : Format → List ℕ → ℤ
sample_of_bytes S8 bytes = cast_signed w8 (slice_index bytes 0) *ℤ pos 256
sample_of_bytes U8 bytes = (pos (slice_index bytes 0) -ℤ pos 128) *ℤ pos 256
sample_of_bytes S16Le bytes = cast_signed w16 (from_le_bytes w16 bytes)
sample_of_bytes S16Be bytes = cast_signed w16 (from_be_bytes w16 bytes)

-- a sample divided by 256, rounded down: the divisor is positive, so the remainder isn't negative
abbrev pub high_part : ℤ → ℤ
high_part sample = int_div_euclid sample (pos 256)

-- the bytes that a sample of 16 bits is written as
abbrev pub bytes_of_sample : Format → ℤ → List ℕ
bytes_of_sample S8 sample = cast_unsigned w8 (high_part sample) ∷ []
bytes_of_sample U8 sample = cast_unsigned w8 (high_part sample +ℤ pos 128) ∷ []
bytes_of_sample S16Le sample = to_le_bytes w16 (cast_unsigned w16 sample)
bytes_of_sample S16Be sample = to_be_bytes w16 (cast_unsigned w16 sample)
