use Rattle.std.proofs.Common.{◌%◌, List, ℤ, length, ap, ◌∙◌}
use Rattle.lab_input.proofs.Feeding.{wav_file-ended}
use Rattle.lab_input.proofs.sound.SoundReader.finish.Goals as goal

pub invariant_of-result : goal.invariant_of-result
invariant_of-result c =
    let head = c.in_ok-head.head in
    record {
      some_channel = head.some_channel;
      few_channels = head.few_channels;
      some_rate = head.some_rate;
      whole = ap (λ (zs : List ℤ). length zs % head.channels) c.from_vec.ensures
          ∙ c.in_ok-head.ensures.frames c.requires.seen _ (wav_file-ended c.args.self c.requires.seen head.channels head.rate c.requires.after c.in_ok-head.ensures.ok);
    }
