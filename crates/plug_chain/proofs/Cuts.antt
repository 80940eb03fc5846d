-- Bytes divided into frames, in two pieces.
use Rattle.plug_chain.specs.Prelude.{ap, arith, drop, inl, inr, length, length-append, length-drop, List, refl, suc, sym, take, zero, ℕ, [], ◌%◌, ◌*◌, ◌++◌}
use Rattle.plug_chain.specs.Prelude.{◌+◌, ◌/◌, ◌<◌, ◌∙◌, ◌∷◌, ◌≡◌, ◌≤◌, cases_lt, drop-append-le, drop-drop, take-append-le, div-add-mod', div-mul-add}
use Rattle.plug_chain.specs.Prelude.{mod_below, Conversion, first_frames, frame_bytes, frame_count, frame_from_bytes, frames_of_bytes, rest_of}

pub frame_count-short : (c : Conversion) (bytes : List ℕ) → length bytes < frame_bytes c → frame_count c bytes ≡ 0
frame_count-short c bytes short = ap (λ (n : ℕ). n / frame_bytes c) (let e : length bytes ≡ 0 * frame_bytes c + length bytes = omega arith in e) ∙ div-mul-add 0 (frame_bytes c) (length bytes) short

pub frame_count-more : (c : Conversion) (bytes : List ℕ) → 1 ≤ frame_bytes c → frame_bytes c ≤ length bytes → frame_count c bytes ≡ suc (frame_count c (drop (frame_bytes c) bytes))
frame_count-more c bytes some enough =
    let rest : ℕ = length (drop (frame_bytes c) bytes) in
    let split : rest / frame_bytes c * frame_bytes c + rest % frame_bytes c ≡ rest = div-add-mod' rest (frame_bytes c) in
    let low : rest % frame_bytes c < frame_bytes c = mod_below rest (frame_bytes c) some in
    let whole : length bytes ≡ suc (rest / frame_bytes c) * frame_bytes c + rest % frame_bytes c = omega (arith, split, length-drop (frame_bytes c) bytes) in
    ap (λ (n : ℕ). n / frame_bytes c) whole ∙ div-mul-add (suc (rest / frame_bytes c)) (frame_bytes c) (rest % frame_bytes c) low

pub frames_of_bytes-short : (c : Conversion) (bytes : List ℕ) → length bytes < frame_bytes c → frames_of_bytes c bytes ≡ []
unfolding frames_of_bytes
frames_of_bytes-short c bytes short = ap (λ (n : ℕ). first_frames c n bytes) (frame_count-short c bytes short)

pub rest_of-short : (c : Conversion) (bytes : List ℕ) → length bytes < frame_bytes c → rest_of c bytes ≡ bytes
unfolding rest_of
rest_of-short c bytes short = ap (λ (n : ℕ). drop (n * frame_bytes c) bytes) (frame_count-short c bytes short) ∙ ap (λ (n : ℕ). drop n bytes) (let e : 0 * frame_bytes c ≡ 0 = omega arith in e)

pub frames_of_bytes-more : (c : Conversion) (bytes : List ℕ) → 1 ≤ frame_bytes c → frame_bytes c ≤ length bytes
    → frames_of_bytes c bytes ≡ frame_from_bytes c (take (frame_bytes c) bytes) ∷ frames_of_bytes c (drop (frame_bytes c) bytes)
unfolding frames_of_bytes
frames_of_bytes-more c bytes some enough = ap (λ (n : ℕ). first_frames c n bytes) (frame_count-more c bytes some enough)

pub rest_of-more : (c : Conversion) (bytes : List ℕ) → 1 ≤ frame_bytes c → frame_bytes c ≤ length bytes → rest_of c bytes ≡ rest_of c (drop (frame_bytes c) bytes)
unfolding rest_of
rest_of-more c bytes some enough =
    ap (λ (n : ℕ). drop n bytes) (let e : frame_count c bytes * frame_bytes c ≡ frame_bytes c + frame_count c (drop (frame_bytes c) bytes) * frame_bytes c = omega (arith, ap (λ (n : ℕ). n * frame_bytes c) (frame_count-more c bytes some enough)) in e)
    ∙ sym (drop-drop (frame_count c (drop (frame_bytes c) bytes) * frame_bytes c) (frame_bytes c) bytes)

-- the rest is no whole frame
pub length-rest_of : (c : Conversion) (bytes : List ℕ) → 1 ≤ frame_bytes c → length (rest_of c bytes) < frame_bytes c
unfolding rest_of
length-rest_of c bytes some = omega (arith, length-drop (frame_count c bytes * frame_bytes c) bytes, div-add-mod' (length bytes) (frame_bytes c), mod_below (length bytes) (frame_bytes c) some)

-- two pieces give the frames of the first, and those of its rest and the second; and so they leave what these do
pub record AreJoined (c : Conversion) (a b : List ℕ) : Type 0 where
  pub frames : frames_of_bytes c (a ++ b) ≡ frames_of_bytes c a ++ frames_of_bytes c (rest_of c a ++ b)
  pub rest : rest_of c (a ++ b) ≡ rest_of c (rest_of c a ++ b)

joined-short : (c : Conversion) (a b : List ℕ) → length a < frame_bytes c → AreJoined c a b
joined-short c a b short = record { frames = rw (frames_of_bytes-short c a short, rest_of-short c a short) refl; rest = rw (rest_of-short c a short) refl }

joined_by : (n : ℕ) (c : Conversion) (a b : List ℕ) → 1 ≤ frame_bytes c → length a ≤ n → AreJoined c a b
joined_by zero c a b some most = joined-short c a b (omega arith)
joined_by (suc n) c a b some most = elim (cases_lt (length a) (frame_bytes c)) [
  | inl short ↦ joined-short c a b short
  | inr enough ↦
      let more : frame_bytes c ≤ length (a ++ b) = omega (arith, length-append a b) in
      let back = drop-append-le (frame_bytes c) a b enough in
      let again = joined_by n c (drop (frame_bytes c) a) b some (omega (arith, length-drop (frame_bytes c) a)) in
      record {
        frames = rw (
          frames_of_bytes-more c (a ++ b) some more,
          take-append-le (frame_bytes c) a b enough,
          back,
          frames_of_bytes-more c a some enough,
          rest_of-more c a
              some enough,
          again.frames,
        ) refl;
        rest = rw (rest_of-more c (a ++ b) some more, back, rest_of-more c a some enough) again.rest;
      }
]

pub joined : (c : Conversion) (a b : List ℕ) → 1 ≤ frame_bytes c → AreJoined c a b
joined c a b some = joined_by (length a) c a b some (omega arith)
