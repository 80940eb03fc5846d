use Rattle.wav_io.specs.Prelude.{ap, Err, length, List, Ok, ℤ, [], ◌%◌, ◌∙◌, ◌≡◌, Memory, wav_file}
use Rattle.wav_io.proofs.Readers.{refusal_from, whole_err, whole_ok}
use Rattle.wav_io.proofs.reading.read_whole.Goals as goal

pub returns-in-Err-clause-exact : goal.returns-in-Err-clause-exact
returns-in-Err-clause-exact c =
    refusal_from c.in-Err.error (wav_file c.args.bytes.now) (λ ne.
    whole_err c.new-reader.result c.feed.new.self c.args.bytes.now c.new-samples.result.items c.feed.new.samples.items c.in-Err.error c.new-reader.ensures.whole (c.in-Err.ensures.same (λ is. ne cc) []) (c.in-Err.ensures.after []))

pub invariant_of-result : goal.invariant_of-result
invariant_of-result c =
    let head = c.in-Ok.head in
    let file : wav_file c.args.bytes.now ≡ Ok (record { channels = head.channels; rate = head.rate; samples = c.feed.new.samples.items }) =
    whole_ok c.new-reader.result c.feed.new.self c.args.bytes.now c.new-samples.result.items c.feed.new.samples.items head.channels head.rate c.new-reader.ensures.whole (c.in_default.ensures.same (λ is. cc) []) c.new-samples.ensures.items c.in-Ok.ensures.ok in
    record {
      some_channel = head.some_channel;
      few_channels = head.few_channels;
      some_rate = head.some_rate;
      whole = ap (λ (zs : List ℤ). length zs % head.channels) c.from_vec.ensures ∙ c.in-Ok.ensures.frames c.args.bytes.now _ file;
    }

pub returns-in-Err-finish-clause-memory : goal.returns-in-Err-finish-clause-memory
returns-in-Err-finish-clause-memory c is =
    let e : c.in-Err-finish.error ≡ Memory = cc in
    let starved = c.in-Err-finish.ensures.memory (ap (λ x. Err x) e) in
    absurd (let no_error = c.in_default.ensures.no_error in cc)
