use Rattle.std.proofs.Common.{sym}
use Rattle.wav_io.proofs.Bodies.{no_room}
use Rattle.wav_io.proofs.next_places.is_at.Goals as goal

pub returns-then-bytes-place : goal.returns-then-bytes-place
returns-then-bytes-place c = sym (no_room c.args.place c.args.bytes.now c.args.name.now c.requires.four c.if-bytes-place.true)
