use Rattle.wav_io.specs.Prelude.{ap, arith, length, take, ◌++◌, ◌∙◌, ◌≡◌, take-append-drop}
use Rattle.wav_io.proofs.Places.{filled}
use Rattle.wav_io.proofs.kept_bytes.Kept.fill.Goals as goal

pub returns-clause-all : goal.returns-clause-all
returns-clause-all c =
    let front = c.copy_from_slice.new.self in
    let behind = c.split_at.result.1.now in
    let all : front ++ behind ≡ c.args.bytes.now = ap (λ b. b ++ behind) c.copy_from_slice.ensures.after ∙ ap (λ b. b ++ behind) c.split_at.ensures.front ∙ ap (λ b. take c.min-count.result c.args.bytes.now ++ b) c.split_at.ensures.back ∙ take-append-drop c.min-count.result c.args.bytes.now in
    let some : length front ≡ c.min-count.result = ap length c.copy_from_slice.ensures.after ∙ c.split_at.ensures.front_len in
    filled c.self.inside.len c.min-count.result _ c.self.inside.bytes front behind c.args.bytes.now c.args.self.now c.self.view_is (omega arith) some all
