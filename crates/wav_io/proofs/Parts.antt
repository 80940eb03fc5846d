-- Frames that are cut between two parts of the data.
use Rattle.wav_io.specs.Prelude.{ap, append-nil, append_assoc, arith, drop, inl, inr, length, length-append, List, refl, sym, take, ℕ, [], ◌*◌, ◌++◌, ◌+◌, ◌/◌}
use Rattle.wav_io.specs.Prelude.{◌<◌, ◌∙◌, ◌≡◌, ◌⊎◌, div-mul-le_self, length-drop, length-take, nil_from_length, take-append-drop, div-add-mod', mod_below, min}
use Rattle.wav_io.specs.Prelude.{IsCut}

-- nothing is after a part that isn't filled
pub nothing_behind : (size : ℕ) (part rest before body : List ℕ) → part ++ rest ≡ before ++ body → length part ≡ min size (length before + length body) → length part < size → rest ≡ []
nothing_behind size part rest before body same len less =
    let all : length part + length rest ≡ length before + length body = omega (arith, ap length same, length-append part rest, length-append before body) in
    nil_from_length rest (omega (arith, all, len))

rest_less : (size : ℕ) (bytes : List ℕ) → 0 < size → length (drop (length bytes / size * size) bytes) < size
rest_less size bytes some = omega (arith, length-drop (length bytes / size * size) bytes, div-add-mod' (length bytes) size, mod_below (length bytes) size some)

-- what was filled in is all
filled_all : (size : ℕ) (part left before rest : List ℕ) → part ++ left ≡ before ++ rest → length part ≡ min size (length before + length rest) → length before + length rest < size → part ≡ before ++ rest
filled_all size part left before rest same len few =
    let all : length part + length left ≡ length before + length rest = omega (arith, ap length same, length-append part left, length-append before rest) in
    sym (append-nil part) ∙ ap (λ (b : List ℕ). part ++ b) (sym (nil_from_length left (omega (arith, all, len)))) ∙ same

pub cut_is : (size : ℕ) (part body first mid behind others rest new left : List ℕ) (n : ℕ) → first ++ (mid ++ behind) ≡ part ++ body → length first ≡ n * size → length mid < size → (mid ≡ []) ⊎ (behind ≡ [])
    → others ≡ take (length behind / size * size) behind → rest ≡ drop (length behind / size * size) behind → new ++ left ≡ mid ++ rest → length new ≡ min size (length mid + length rest)
    → IsCut size part body (first ++ others) new
cut_is size part body first mid behind others rest new left n all frames less one front back filled len =
    let count : length others ≡ length behind / size * size = omega (arith, ap length front, length-take (length behind / size * size) behind, div-mul-le_self (length behind) size) in
    let distribute : (n + length behind / size) * size ≡ n * size + length behind / size * size = omega arith in
    let rest_short : length rest < size = omega (arith, ap length back, rest_less size behind (omega arith)) in
    let short : length mid + length rest < size = elim one [
      | inl none ↦ omega (arith, ap length none, rest_short)
      | inr none ↦ omega (arith, ap length none, ap length back, length-drop (length behind / size * size) behind)
    ] in
    let whole_new = filled_all size new left mid rest filled len short in
    let parts : others ++ rest ≡ behind = rw (front, back) (take-append-drop (length behind / size * size) behind) in
    let joined : others ++ new ≡ mid ++ behind = elim one [
      | inl none ↦ rw (whole_new, none) parts
      | inr none ↦
          let no_others : others ≡ [] = nil_from_length others (omega (arith, ap length none, ap length front, length-take (length behind / size * size) behind)) in
          let no_rest : rest ≡ [] = nil_from_length rest (omega (arith, ap length none, ap length back, length-drop (length behind / size * size) behind)) in
          rw (no_others, whole_new, no_rest, none) refl
    ] in
    record {
      frames = n + length behind / size;
      all = append_assoc first others new ∙ ap (λ (b : List ℕ). first ++ b) joined ∙ all;
      whole_frames = omega (arith, length-append first others, frames, count, distribute);
      less = omega (arith, ap length whole_new, length-append mid rest, short);
    }
