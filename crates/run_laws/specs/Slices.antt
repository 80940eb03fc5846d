-- A reader that runs reads on: the frames that it gets are one slice, until a line ends its stretch.
use Rattle.std.specs.Prelude.{◌≡◌, ◌⊎◌, ℕ, ◌+◌, Bool, true, false, ◌++◌, Some}
use Rattle.std.specs.List.{range_with_len}
use Rattle.snd_base.specs.declared.errors.PcmError.{PcmError}
use Rattle.snd_base.specs.declared.errors.PcmError.TheVariants.{NoDevice, Xrun}
use Rattle.pcm_states.specs.declared.states.State.TheVariants.{Running}
use Rattle.dsnoop_client.specs.declared.stream.CaptureStream.{CaptureStream}
use Rattle.lab_lines.specs.declared.line.Op.{Op}
use Rattle.lab_lines.specs.declared.line.Op.TheVariants as op
use Rattle.lab_lines.specs.declared.row.Answer.{Answer}
use Rattle.lab_lines.specs.declared.row.Answer.TheVariants.{Failed}
use Rattle.lab_run.specs.Lines.{LineMay}
use Rattle.lab_run.specs.Reader.{Reader, reader_kind}
use Rattle.lab_run.specs.Rules.{AtPort, Rules}

-- a reader doesn't run any more after these errors
abbrev pub ends_by : PcmError → Bool
ends_by (Xrun why) = true
ends_by NoDevice = true
ends_by other = false

-- a line ends a stretch: a drop, and what is answered by an xrun, or by a card that is gone
abbrev pub ends_stretch : Op → Answer → Bool
ends_stretch op.Drop answer = true
ends_stretch asked (Failed e) = ends_by e
ends_stretch asked answer = false

-- a line of a reader that runs got so many frames, from the reader's next one on, and the next one is then the one after them; the reader
-- runs on, or the line ends the stretch
pub record ReadsOn (reader : Reader) (r : CaptureStream) (asked : Op) (after : Reader)
    (answer : Answer) : Type 0 where
  pub own : CaptureStream
  pub is_own : after.own ≡ Some own
  pub count : ℕ
  pub frames : after.frames ≡ reader.frames ++ range_with_len r.next count
  pub next : own.next ≡ r.next + count
  pub goes : (own.status.state ≡ Running) ⊎ (ends_stretch asked answer ≡ true)

-- each line that a phase allows to a reader that runs
abbrev pub ReadersReadOn : Rules → ℕ → ℕ → Type 0
ReadersReadOn rules phase number =
    (a b : AtPort) (reader after : Reader) (r : CaptureStream) (asked : Op) (answer : Answer)
    → reader.own ≡ Some r → r.status.state ≡ Running
    → LineMay (reader_kind phase number) rules (a, reader) asked (b, after) answer
    → ReadsOn reader r asked after answer

-- a line got one slice of frames, if it got any
pub record GetsSlice (reader after : Reader) : Type 0 where
  pub first : ℕ
  pub count : ℕ
  pub frames : after.frames ≡ reader.frames ++ range_with_len first count

-- each line that a phase allows to a reader
abbrev pub LinesGetSlices : Rules → ℕ → ℕ → Type 0
LinesGetSlices rules phase number =
    (a b : AtPort) (reader after : Reader) (asked : Op) (answer : Answer)
    → LineMay (reader_kind phase number) rules (a, reader) asked (b, after) answer
    → GetsSlice reader after
