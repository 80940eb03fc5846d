-- How many bytes the WAV files of clients have.
use Rattle.lab_make.specs.Prelude.{arith, length, ◌≡◌, ◌≤◌, canonical, most_bytes, Sound, IsMadeSound}
use Rattle.lab_output.specs.FileLaws.{length-canonical}

-- a client's file has 16,428 bytes
pub length-made : (s : Sound) → IsMadeSound s → length (canonical s) ≡ 16428
length-made s made = omega (arith, length-canonical s, made.size)

-- so it isn't too long to be read
pub length-made-few : (s : Sound) → IsMadeSound s → length (canonical s) ≤ most_bytes
length-made-few s made = omega (arith, length-made s made)
