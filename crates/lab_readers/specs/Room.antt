-- The frames of a reader for which there is room.
use Rattle.std.specs.Prelude.{ℕ, ℤ, ◌+◌, ◌-◌, ◌*◌, ◌/◌, List, length, max, min, sum_by, vec_capacity, vec_len}
use Rattle.std.specs.Global.{Vec}
use Rattle.dsnoop_client.specs.declared.stream.CaptureStream.{CaptureStream}
use Rattle.dsnoop_client.specs.FewerReads.{most_read}
use Rattle.lab_lines.specs.declared.line.Op.{Op}
use Rattle.lab_lines.specs.declared.line.Op.TheVariants as op

-- the frames that a line asks to read
abbrev pub asked_by : Op → ℕ
asked_by (op.Read frames) = frames
asked_by other = 0

-- the most frames for which a reader gets room in a phase in which the card plays so many: as many as the ring has and as the card plays, and with them
-- the greatest start threshold of a script's reader, or its own where that is greater still
abbrev pub most_wanted : CaptureStream → ℕ → ℕ → ℕ
most_wanted reader ring played = ring + played + max reader.setup.params.start_threshold 65536

-- the frames for which lines get room: as many as they ask to read, and no more than the most
abbrev pub frames_wanted : ℕ → List Op → ℕ
frames_wanted most ops = min (sum_by asked_by ops) most

-- the frames that one read wants room for: as many as it asks to read, and no more than it gets or starts by
abbrev pub wanted_by : ℕ → Op → ℕ
wanted_by most (op.Read frames) = min frames most
wanted_by most other = 0

-- the samples of these frames
abbrev pub samples_wanted : CaptureStream → Op → ℕ
samples_wanted reader asked = wanted_by (most_read reader) asked * length reader.setup.bindings

-- the frames of a reader that there is room for yet
abbrev pub spare_frames : CaptureStream → Vec ℤ → ℕ
spare_frames reader samples =
    (vec_capacity samples - vec_len samples) / length reader.setup.bindings

-- a read asks for as many frames as there is room for
abbrev pub fitting_op : ℕ → Op → Op
fitting_op spare (op.Read frames) = op.Read (min frames spare)
fitting_op spare other = other
