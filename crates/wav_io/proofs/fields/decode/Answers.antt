use Rattle.wav_io.specs.Prelude.{ap, arith, drop, get_or, length, length-set, List, of_z, rules, sym, take, to_z, ℕ, [], ◌*◌, ◌++◌, ◌+◌, ◌<◌, ◌∙◌, ◌∷◌, ◌≡◌}
use Rattle.wav_io.specs.Prelude.{to_z-of_z, take_all, take_more_set, cast_signed, from_le_bytes, w16, FitsSigned, samples_of_bytes}
use Rattle.wav_io.proofs.Bodies.{drop-two, goes_on, ends}
use Rattle.wav_io.proofs.fields.decode.Goals as goal

pub loop-i-preserved : goal.loop-i-preserved
loop-i-preserved c =
    let i = c.loop-i.i in
    let bytes = c.args.bytes.now in
    let fits : FitsSigned w16 c.sample_at.result = search rules in
    let here : drop (2 * i) bytes ≡ get_or bytes (2 * i) 0 ∷ get_or bytes (2 * i + 1) 0 ∷ drop (2 * (i + 1)) bytes = drop-two bytes i (omega arith) in
    let sample : to_z w16 (of_z w16 c.sample_at.result) ≡ cast_signed w16 (from_le_bytes w16 (get_or bytes (2 * i) 0 ∷ get_or bytes (2 * i + 1) 0 ∷ []))
    = to_z-of_z w16 _ fits ∙ c.sample_at.ensures ∙ ap (λ (rest : List ℕ). cast_signed w16 (from_le_bytes w16 rest)) here in
    let inside : i < length c.loop-i.samples = omega arith in
    record {
      so_far = ap (λ zs. zs ++ samples_of_bytes (drop (2 * (i + 1)) bytes)) (take_more_set c.loop-i.samples i _ inside ∙ ap (λ z. take i c.loop-i.samples ++ z ∷ []) sample) ∙ goes_on (take i c.loop-i.samples) bytes i _ (omega arith) c.loop-i.invariant.so_far;
      len = length-set c.loop-i.samples i _ ∙ c.loop-i.invariant.len;
    }

pub returns : goal.returns
returns c = sym (take_all c.loop-i.i c.loop-i.samples (omega arith)) ∙ ends (take c.loop-i.i c.loop-i.samples) c.args.bytes.now c.loop-i.i _ (omega arith) c.loop-i.invariant.so_far
