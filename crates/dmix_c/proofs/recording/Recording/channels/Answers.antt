use Rattle.dmix_c.proofs.Counted.{stream_channels-configured, stream_channels-none}
use Rattle.dmix_c.proofs.recording.Recording.channels.Goals as goal

pub returns-in-Some : goal.returns-in-Some
returns-in-Some c =
    stream_channels-configured c.args.self.now.reader.setup c.in-Some.config c.in-Some.ensures (λ has. (c.counts_are_sound.ensures.configured has).runs.channels)

pub returns-in-None : goal.returns-in-None
returns-in-None c = stream_channels-none c.args.self.now.reader.setup c.in-None.ensures
