-- The error numbers of errno.h for the refusals of PCM calls.
use Rattle.std.specs.Prelude.{ℕ}
use Rattle.snd_base.specs.declared.errors.PcmError.{PcmError}
use Rattle.snd_base.specs.declared.errors.PcmError.TheVariants.{BadState, Xrun, Again, NoDevice, Invalid, Busy, NotSupported, LapEnd, Stopped, Memory}

-- the error number of a refusal: EBADFD, EPIPE, EAGAIN, ENODEV, EINVAL, EBUSY, EIO, EOVERFLOW, EINTR, ENOMEM
abbrev pub code_of : PcmError → ℕ
code_of BadState = 77
code_of (Xrun why) = 32
code_of Again = 11
code_of NoDevice = 19
code_of (Invalid why) = 22
code_of (Busy until seen) = 16
code_of NotSupported = 5
code_of LapEnd = 75
code_of Stopped = 4
code_of Memory = 12
