-- What a row that is answered late names: the first sample that the client hasn't placed, or, of a rewind, the last one that it couldn't take back.
use Rattle.std.specs.Prelude.{◌≡◌, ℕ, ◌+◌, ◌<◌, Bool, true, false, slice_index, Some}
use Rattle.snd_base.specs.declared.errors.PcmError.TheVariants.{Xrun}
use Rattle.snd_base.specs.declared.errors.XrunWhy.TheVariants.{Late}
use Rattle.bindings.specs.Bound.{rising}
use Rattle.wav_io.specs.Sound.{Sound}
use Rattle.dmix_client.specs.declared.stream.PlaybackStream.{PlaybackStream}
use Rattle.dmix_client.specs.Rewind.{last_channel, last_laid}
use Rattle.lab_lines.specs.declared.line.Op.{Op}
use Rattle.lab_lines.specs.declared.line.Op.TheVariants as op
use Rattle.lab_lines.specs.declared.row.Answer.{Answer}
use Rattle.lab_lines.specs.declared.row.Answer.TheVariants.{Failed}
use Rattle.lab_run.specs.Client.{Client, client_kind}
use Rattle.lab_run.specs.Lines.{LineMay}
use Rattle.lab_run.specs.Rules.{AtPort, Rules}

-- a frame and channel are those of the first sample that a client hasn't placed
abbrev pub IsNextSample : PlaybackStream → ℕ → ℕ → Type 0
IsNextSample c frame channel =
    (frame ≡ c.stretch.card + c.stretch.committed)
    × (channel ≡ slice_index c.setup.bindings
    (slice_index (rising c.setup.bindings) c.stretch.part))

-- a rewind names the last sample that it couldn't take back instead
abbrev pub is_rewind : Op → Bool
is_rewind (op.Rewind n) = true
is_rewind other = false

-- an open client after a line: where it was late, the row names the first sample that isn't placed
pub record NamesNext (after : Client) (answer : Answer) : Type 0 where
  pub own : PlaybackStream
  pub is_own : after.own ≡ Some own
  pub late : (frame channel : ℕ) → answer ≡ Failed (Xrun (Late frame channel 0))
      → IsNextSample own frame channel

-- each line but a rewind that a phase allows to an open client
abbrev pub LateRowsNameNext : Rules → ℕ → Sound → ℕ → Type 0
LateRowsNameNext rules phase wav number =
    (a b : AtPort) (client after : Client) (c : PlaybackStream) (asked : Op) (answer : Answer)
    → client.own ≡ Some c → is_rewind asked ≡ false
    → LineMay (client_kind phase wav number) rules (a, client) asked (b, after) answer
    → NamesNext after answer

-- a frame and channel are those of the last sample of its stretch that a client has in the card's ring
abbrev pub IsLastSample : PlaybackStream → ℕ → ℕ → Type 0
IsLastSample c frame channel =
    (frame ≡ last_laid c) × (channel ≡ last_channel c) × (0 < c.stretch.committed + c.stretch.part)

-- an open client after a rewind: where it was late, the row names the last sample that it couldn't take back
pub record NamesLast (after : Client) (answer : Answer) : Type 0 where
  pub own : PlaybackStream
  pub is_own : after.own ≡ Some own
  pub late : (frame channel : ℕ) → answer ≡ Failed (Xrun (Late frame channel 0))
      → IsLastSample own frame channel

-- each rewind that a phase allows to an open client
abbrev pub LateRewindsNameLast : Rules → ℕ → Sound → ℕ → Type 0
LateRewindsNameLast rules phase wav number =
    (a b : AtPort) (client after : Client) (c : PlaybackStream) (n : ℕ) (answer : Answer)
    → client.own ≡ Some c
    → LineMay (client_kind phase wav number) rules (a, client) (op.Rewind n) (b, after) answer
    → NamesLast after answer
