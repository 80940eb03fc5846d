-- The 16-bit samples of every width.
use Rattle.std.specs.Prelude.{ℕ, ◌+◌, ◌*◌, ◌-◌, ◌^◌, nat_lt, if◌then◌else◌, List, [], ◌∷◌, ℤ, pos, ◌-ℤ◌}
use Rattle.std.specs.Int.{int_div_euclid}
use Rattle.pcm_format.specs.declared.format.Format.TheVariants as formats
use Rattle.pcm_format.specs.Samples.{sample_of_bytes}
use Rattle.plug_chain.specs.declared.wide.Wide.{Wide}
use Rattle.plug_chain.specs.declared.wide.Wide.TheVariants.{S8, U8, S16Le, S16Be, S24Packed, S32Le}

-- how many bytes a sample has
abbrev pub bytes_of : Wide → ℕ
bytes_of S8 = 1
bytes_of U8 = 1
bytes_of S16Le = 2
bytes_of S16Be = 2
bytes_of S24Packed = 3
bytes_of S32Le = 4

-- the number that bytes represent, the low byte first
abbrev pub low_first : List ℕ → ℕ
low_first [] = 0
low_first (b ∷ bytes) = b + 256 * low_first bytes

-- the signed number of so many bits that a number below 2 ^ bits represents
abbrev pub signed_number : ℕ → ℕ → ℤ
signed_number bits n = if nat_lt n (2 ^ (bits - 1)) then pos n else pos n -ℤ pos (2 ^ bits)

-- the sample of 16 bits that bytes represent: a number of more bits is divided and rounded down
abbrev pub wide_sample : Wide → List ℕ → ℤ
wide_sample S8 bytes = sample_of_bytes formats.S8 bytes
wide_sample U8 bytes = sample_of_bytes formats.U8 bytes
wide_sample S16Le bytes = sample_of_bytes formats.S16Le bytes
wide_sample S16Be bytes = sample_of_bytes formats.S16Be bytes
wide_sample S24Packed bytes = int_div_euclid (signed_number 24 (low_first bytes)) (pos (2 ^ 8))
wide_sample S32Le bytes = int_div_euclid (signed_number 32 (low_first bytes)) (pos (2 ^ 16))
