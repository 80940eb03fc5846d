use Rattle.plug_chain.specs.Prelude.{drop, ◌++◌, ◌≡◌, Extends, frame_between}
use Rattle.plug_chain.proofs.interpolation.push_between.Given as goal

abbrev pub invariant-loop-channel : goal.invariant-loop-channel
invariant-loop-channel l = record {
  rest : l.out.items ++ frame_between l.part l.parts (drop l.channel l.from) (drop l.channel l.to) ≡ l.fn.out.items ++ frame_between l.part l.parts l.from l.to;
  grows : Extends l.fn.out.items l.out.items;
}
