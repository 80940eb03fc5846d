-- What a write does at a port.
use Rattle.std.specs.Prelude.{◌≡◌, ℕ, ◌+◌, ◌/◌, ◌%◌, ◌^◌, ◌<◌, ◌≤◌, Bool, nat_eq, nat_le, if◌then◌else◌, ℤ, List, length, Ok, Err, unwrap_or}
use Rattle.dmix_client.specs.declared.stream.PlaybackStream.{PlaybackStream}
use Rattle.dmix_client.specs.Calls.{Answered, commit_count, taken_of}
use Rattle.dmix_client.specs.Ring.{with_frames}

-- the whole frames of some interleaved samples
abbrev pub frames_in : PlaybackStream → List ℤ → ℕ
frames_in c samples = length samples / length c.setup.bindings

-- the ring of a client with frames after what is written
abbrev pub ring_with : PlaybackStream → List ℤ → List ℤ → ℕ → List ℤ
ring_with c ring samples n =
    with_frames c.setup.config.buffer_size (length c.setup.bindings) ring
    (c.stretch.source + c.stretch.written) samples n

-- how many frames a write of n takes after its sync
abbrev pub taken_after : Answered (Unit {0}) → ℕ → ℕ
taken_after (u, Ok done) n = taken_of u n
taken_after (u, Err e) n = 0

-- how many frames are to be committed where a write took some, at the position that was seen
abbrev pub count_with : PlaybackStream → ℕ → ℕ
count_with u taken = if nat_eq taken 0 then 0
    else commit_count u (unwrap_or u.seen 0) (u.stretch.written + taken)

-- a write of n frames into a prepared stream starts it
abbrev pub starts_with : PlaybackStream → ℕ → Bool
starts_with c n = nat_le c.setup.params.start_threshold (c.stretch.written + taken_of c n)

-- the samples of a write: whole frames, not too many, and the count of all frames has room
pub record IsOffer (c : PlaybackStream) (samples : List ℤ) : Type 0 where
  pub whole : length samples % length c.setup.bindings ≡ 0
  pub few : frames_in c samples ≤ 4194304
  pub fed : c.fed < 2 ^ 63
