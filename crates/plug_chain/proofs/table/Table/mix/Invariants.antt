use Rattle.plug_chain.specs.Prelude.{length, map, take, ◌≡◌, range_with_len, samples_of, output_channel}
use Rattle.plug_chain.proofs.table.Table.mix.Given as goal

abbrev pub invariant-loop-output : goal.invariant-loop-output
invariant-loop-output l = record {
  channels : length (samples_of l.frame) ≡ l.self.outputs;
  output_samples : take l.output (samples_of l.frame) ≡ map (output_channel l.self l.samples) (range_with_len 0 l.output);
}
