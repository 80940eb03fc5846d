-- What a call of the library answers: a number of frames or 0, or the number of an error of errno.h with a minus sign.
use Rattle.std.specs.Prelude.{ℕ, ℤ, pos, negsuc, ◌-ℤ◌, min, Result, Ok, Err}
use Rattle.snd_base.specs.declared.errors.PcmError.{PcmError}
use Rattle.snd_base.specs.Errors.{code_of}

-- EBADF: the handle is closed, or stands for something else
abbrev pub bad_handle : ℤ
bad_handle = negsuc 8

-- EBUSY: a handle that is to be opened is open
abbrev pub handle_in_use : ℤ
handle_in_use = negsuc 15

-- an error as alsa-lib answers it
abbrev pub error_number : PcmError → ℤ
error_number e = pos 0 -ℤ pos (code_of e)

-- a number, or the greatest of 63 bits where that is less, or an error
abbrev pub number_of : Result ℕ PcmError → ℤ
number_of (Ok n) = pos (min n 9223372036854775807)
number_of (Err e) = error_number e

-- what a call gives that has no number: 0
abbrev pub done_of : Result (Unit {0}) PcmError → Result ℕ PcmError
done_of (Ok done) = Ok 0
done_of (Err e) = Err e
