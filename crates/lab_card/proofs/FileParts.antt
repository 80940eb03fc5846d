-- What a card captures of a file that has its channels: a part of the file's samples, and silence behind it.
use Rattle.lab_card.specs.Prelude.{ap, arith, drop, get_or, inl, inr, length, List, refl, Some, sym, take, ℕ, ℤ, [], ◌*◌, ◌++◌, ◌+◌, ◌-◌, ◌<◌, ◌∙◌, ◌≡◌}
use Rattle.lab_card.specs.Prelude.{cases_lt, drop_min, ext_get_or, get_or-append_right, get_or-drop, get_or-take, get_or_append_left, length-append}
use Rattle.lab_card.specs.Prelude.{length-drop, length-replicate, take_min, get_or-map-range_with_len, length-map-range_with_len, Bool, if◌then◌else◌, min}
use Rattle.lab_card.specs.Prelude.{nat_lt, Option, pos, replicate, suc, true, zero, ◌∷◌, Sound, captured_at, captured_frame, captured_frames, sample_in}
use Rattle.std.proofs.lemmas.Bool.Decides.{nat_tests}

-- a part of a list, of which there is less maybe
pub part-taken : (xs : List ℤ) (start count first size : ℕ) → first ≡ min start (length xs) → size ≡ min count (length xs - first)
    → take (first + size - first) (drop first xs) ≡ take count (drop start xs)
part-taken xs start count first size is_first is_size =
    let size_is : first + size - first ≡ min count (length (drop first xs)) =
    (let e : first + size - first ≡ size = omega arith in e) ∙ is_size ∙ ap (λ (n : ℕ). min count n) (sym (length-drop first xs)) in
    ap (λ (n : ℕ). take n (drop first xs)) size_is
    ∙ take_min count (drop first xs)
    ∙ ap (λ (ys : List ℤ). take count ys) (ap (λ (n : ℕ). drop n xs) is_first ∙ drop_min start xs)

-- silence behind a list is what is read there anyway
padded : (xs : List ℤ) (n k : ℕ) → get_or (xs ++ replicate n (pos 0)) k (pos 0) ≡ get_or xs k (pos 0)
padded [] zero k = refl
padded [] (suc n) zero = refl
padded [] (suc n) (suc k) = padded [] n k
padded (x ∷ xs) n zero = refl
padded (x ∷ xs) n (suc k) = padded xs n k

sample_in-index : (wav : Sound) (channels frame channel : ℕ) → wav.channels ≡ channels → channel < channels
    → sample_in wav frame channel ≡ get_or wav.samples (frame * channels + channel) (pos 0)
sample_in-index wav channels frame channel same below =
    let inside : nat_lt channel wav.channels ≡ true = grind (arith, nat_tests) in
    ap (λ (test : Bool). if test then get_or wav.samples (frame * wav.channels + channel) (pos 0) else pos 0) inside
    ∙ ap (λ (n : ℕ). get_or wav.samples (frame * n + channel) (pos 0)) same

captured_frames-size : (capture : Option Sound) (channels from n : ℕ) → length (captured_frames capture channels from n) ≡ n * channels
captured_frames-size capture channels from zero = let e : 0 ≡ 0 * channels = omega arith in e
captured_frames-size capture channels from (suc n) =
    let front : List ℤ = captured_frame capture channels from in
    let rest : List ℤ = captured_frames capture channels (from + 1) n in
    let long : length front ≡ channels = length-map-range_with_len (captured_at capture from) 0 channels in
    let behind : length rest ≡ n * channels = captured_frames-size capture channels (from + 1) n in
    let all : channels + n * channels ≡ suc n * channels = omega arith in
    length-append front rest ∙ (let e : length front + length rest ≡ suc n * channels = omega (arith, long, behind, all) in e)

captured_frames-index : (wav : Sound) (channels from n k : ℕ) → wav.channels ≡ channels → k < n * channels
    → get_or (captured_frames (Some wav) channels from n) k (pos 0) ≡ get_or wav.samples (from * channels + k) (pos 0)
captured_frames-index wav channels from zero k same within = absurd (omega (arith, within))
captured_frames-index wav channels from (suc n) k same within =
    let front : List ℤ = captured_frame (Some wav) channels from in
    let rest : List ℤ = captured_frames (Some wav) channels (from + 1) n in
    let long : length front ≡ channels = length-map-range_with_len (captured_at (Some wav) from) 0 channels in
    let all : channels + n * channels ≡ suc n * channels = omega arith in
    let next : (from + 1) * channels ≡ from * channels + channels = omega arith in
    elim (cases_lt k channels) [
      | inl below ↦ get_or_append_left front rest (pos 0) k (omega (arith, below, long))
          ∙ get_or-map-range_with_len (captured_at (Some wav) from) 0 channels k k (pos 0) below (omega arith)
          ∙ sample_in-index wav channels from k same below
      | inr above ↦ get_or-append_right front rest channels k (pos 0) long above
          ∙ captured_frames-index wav channels (from + 1) n (k - channels) same (omega (arith, within, above, all))
          ∙ ap (λ (j : ℕ). get_or wav.samples j (pos 0))
          (let e : (from + 1) * channels + (k - channels) ≡ from * channels + k = omega (arith, next, above) in e)
    ]

-- the part of a file that has the card's channels, and silence behind it, are the captured samples
pub captured_frames-part : (wav : Sound) (channels from frames rest : ℕ) (part : List ℤ) → wav.channels ≡ channels
    → part ≡ take (frames * channels) (drop (from * channels) wav.samples) → rest + length part ≡ frames * channels
    → part ++ replicate rest (pos 0) ≡ captured_frames (Some wav) channels from frames
captured_frames-part wav channels from frames rest part same is whole =
    let size : length (part ++ replicate rest (pos 0)) ≡ frames * channels =
    omega (arith, length-append part (replicate rest (pos 0)), length-replicate rest (pos 0), whole) in
    ext_get_or (pos 0) (part ++ replicate rest (pos 0)) (captured_frames (Some wav) channels from frames)
    (size ∙ sym (captured_frames-size (Some wav) channels from frames))
    (λ k within.
    let below : k < frames * channels = omega (arith, within, size) in
    padded part rest k
    ∙ ap (λ (xs : List ℤ). get_or xs k (pos 0)) is
    ∙ get_or-take (frames * channels) (drop (from * channels) wav.samples) k (pos 0) below
    ∙ get_or-drop (from * channels) wav.samples k (pos 0)
    ∙ sym (captured_frames-index wav channels from frames k same below))
