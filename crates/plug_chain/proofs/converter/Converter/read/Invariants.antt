use Rattle.plug_chain.specs.Prelude.{length, take, ◌*◌, ◌++◌, ◌-◌, ◌≡◌, samples_in, samples_of, bytes_of}
use Rattle.plug_chain.proofs.converter.Converter.read.Given as goal

abbrev pub invariant-loop-channel : goal.invariant-loop-channel
invariant-loop-channel l = record {
  channels : length (samples_of l.frame) ≡ l.self.table.inputs;
  left : length l.rest ≡ (l.self.table.inputs - l.channel) * bytes_of l.self.from;
  all : take l.channel (samples_of l.frame) ++ samples_in l.self.from (l.self.table.inputs - l.channel) l.rest ≡ samples_in l.self.from l.self.table.inputs l.bytes;
}
