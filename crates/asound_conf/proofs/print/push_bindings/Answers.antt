-- The channel that was appended follows those before it.
use Rattle.std.proofs.Common.{◌++◌, codes, string_bytes, arith}
use Rattle.asound_conf.proofs.Joined.{channel_more}
use Rattle.asound_conf.proofs.print.push_bindings.Goals as goal

pub loop-client-preserved : goal.loop-client-preserved
loop-client-preserved c =
    channel_more (string_bytes c.args.text.now ++ codes "bindings ") (string_bytes c.loop-client.text) _ c.args.bindings.now c.loop-client.client c.card_channel-channel.result
    (omega arith) (omega arith) c.loop-client.invariant c.card_channel-channel.ensures.value c.in_ok-write-2.ensures.bytes
