use Rattle.plug_chain.proofs.Lengths.{known_of-nil, length-plug_of, length-plug_of-append, plug_of-nil}
use Rattle.plug_chain.proofs.laws.conversions_have_whole_frames.Goals as goal

pub returns : goal.returns
returns c = record {
  length = length-plug_of;
  longer = length-plug_of-append;
  none = λ by rates. (plug_of-nil by rates, known_of-nil by);
}
