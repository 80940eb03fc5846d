use Rattle.wav_io.specs.Prelude.{ap, arith, get_or, length, length-set, List, pos, rules, subst, sym, take, ℕ, ℤ, [], ◌*◌, ◌++◌, ◌<◌, ◌∙◌, ◌∷◌, ◌≡◌, to_z-of_z}
use Rattle.wav_io.specs.Prelude.{flat_map_more, take_all, take_more, All-more, w16, flat_map, All, FitsSigned, sample_bytes}
use Rattle.wav_io.proofs.Bodies.{pair_put}
use Rattle.wav_io.proofs.writing.encode.Goals as goal

pub loop-i-preserved : goal.loop-i-preserved
loop-i-preserved c =
    let samples = c.args.samples.now in
    let i = c.loop-i.i in
    let x : ℤ = get_or samples i (pos 0) in
    let inside : i < length samples = omega arith in
    let item : FitsSigned w16 x = search rules in
    let bytes_of : c.to_le_bytes-pair.result ≡ sample_bytes x = c.to_le_bytes-pair.ensures ∙ ap sample_bytes (to_z-of_z w16 x item) in
    let pair : get_or c.to_le_bytes-pair.result 0 0 ∷ get_or c.to_le_bytes-pair.result 1 0 ∷ [] ≡ sample_bytes x = ap (λ (b : List ℕ). get_or b 0 0 ∷ get_or b 1 0 ∷ []) bytes_of in
    record {
      put = pair_put i c.loop-i.bytes _ _ (omega (arith, c.loop-i.invariant.len)) ∙ ap (λ (b : List ℕ). take (2 * i) c.loop-i.bytes ++ b) pair ∙ ap (λ (b : List ℕ). b ++ sample_bytes x) c.loop-i.invariant.put ∙ flat_map_more sample_bytes [] (take i samples) x ∙ ap (flat_map sample_bytes) (sym (take_more samples i (pos 0) inside));
      fit = All-more (FitsSigned w16) samples i (pos 0) inside c.loop-i.invariant.fit item;
      len = length-set _ _ _ ∙ length-set _ _ _ ∙ c.loop-i.invariant.len;
    }

pub returns : goal.returns
returns c =
    let samples = c.args.samples.now in
    let i = c.loop-i.i in
    let all : take i samples ≡ samples = take_all i samples (omega arith) in
    record {
      put = sym (take_all (2 * i) c.loop-i.bytes (omega (arith, c.loop-i.invariant.len))) ∙ c.loop-i.invariant.put ∙ ap (flat_map sample_bytes) all;
      fit = subst (All (FitsSigned w16)) all c.loop-i.invariant.fit;
    }
