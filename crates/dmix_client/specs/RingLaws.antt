-- What is in a local ring after frames were stored in it.
use Rattle.std.proofs.Common.{◌≡◌, ℕ, zero, suc, ◌<◌, ◌≤◌, ◌+◌, ◌*◌, ◌%◌, List, [], ◌++◌, refl, sym, ◌∙◌, ap, arith, inl, inr, length, take, drop, get_or, append_assoc}
use Rattle.std.proofs.Math.Nat.{mod-add-mod, mod-lt, mod-eq_of_lt, mul-le-mul_right}
use Rattle.std.proofs.Math.Seq.{drop-append-add, take-add, take-append_seam}
use Rattle.std.proofs.lemmas.Bool.{cases_eq, cases_lt}
use Rattle.std.proofs.lemmas.List.{append-nil, drop-drop, get_or-append-add, get_or-append_right, get_or-drop, get_or-take, get_or_append_left, length-append, length-drop, length-take, take-append-drop}
use Rattle.std.specs.Prelude.{ℤ, pos, ◌-◌}
use Rattle.snd_base.specs.PlaceLaws.{mod-same}
use Rattle.dmix_client.specs.Ring.{with_frames, written_over}

-- a list with a part written over, in three parts
in_parts : (ring part : List ℤ) (place : ℕ) → written_over ring place part ≡ take place ring
    ++ (part ++ drop (place + length part) ring)
in_parts ring part place = append_assoc (take place ring) part (drop (place + length part) ring)

-- it is as long as it was
length-written_over : (ring part : List ℤ) (place : ℕ) → place + length part ≤ length ring
    → length (written_over ring place part) ≡ length ring
length-written_over ring part place room =
    let first : length (take place ring) ≡ place = omega (arith, length-take place ring) in
    let last : length (drop (place + length part) ring) ≡ length ring - (place + length part) = length-drop (place + length part) ring in
    ap length (in_parts ring part place)
    ∙ omega (
      arith,
      length-append (take place ring) (part ++ drop (place + length part) ring),
      length-append part
          (drop (place + length part) ring),
      first,
      last,
    )

-- it has the part there
written_over-here : (ring part : List ℤ) (place k : ℕ) → place + length part ≤ length ring
    → k < length part
    → get_or (written_over ring place part) (place + k) (pos 0) ≡ get_or part k (pos 0)
written_over-here ring part place k room within =
    let first : length (take place ring) ≡ place = omega (arith, length-take place ring) in
    ap (λ (xs : List ℤ). get_or xs (place + k) (pos 0)) (in_parts ring part place)
    ∙ ap (λ (n : ℕ). get_or (take place ring ++ (part ++ drop (place + length part) ring)) (n + k) (pos 0)) (sym first)
    ∙ get_or-append-add (take place ring) (part ++ drop (place + length part) ring) k (pos 0)
    ∙ get_or_append_left part (drop (place + length part) ring) (pos 0) k within

-- and else what it had
written_over-before : (ring part : List ℤ) (place k : ℕ) → place + length part ≤ length ring
    → k < place → get_or (written_over ring place part) k (pos 0) ≡ get_or ring k (pos 0)
written_over-before ring part place k room before =
    let first : length (take place ring) ≡ place = omega (arith, length-take place ring) in
    ap (λ (xs : List ℤ). get_or xs k (pos 0)) (in_parts ring part place)
    ∙ get_or_append_left (take place ring) (part ++ drop (place + length part) ring) (pos 0) k (omega (arith, first))
    ∙ get_or-take place ring k (pos 0) before

written_over-behind : (ring part : List ℤ) (place k : ℕ) → place + length part ≤ length ring
    → place + length part ≤ k → get_or (written_over ring place part) k (pos 0)
    ≡ get_or ring k (pos 0)
written_over-behind ring part place k room behind =
    let first : length (take place ring) ≡ place = omega (arith, length-take place ring) in
    ap (λ (xs : List ℤ). get_or xs k (pos 0)) (in_parts ring part place)
    ∙ get_or-append_right (take place ring) (part ++ drop (place + length part) ring) place k (pos 0) first (omega arith)
    ∙ get_or-append_right part (drop (place + length part) ring) (length part) (k - place) (pos 0) refl (omega arith)
    ∙ get_or-drop (place + length part) ring (k - place - length part) (pos 0)
    ∙ ap (λ (n : ℕ). get_or ring n (pos 0)) (omega arith)

-- the samples of one frame among interleaved ones
frame-sample : (samples : List ℤ) (channels n q : ℕ) → q < channels
    → get_or (take channels (drop (n * channels) samples)) q (pos 0)
    ≡ get_or samples (n * channels + q) (pos 0)
frame-sample samples channels n q within = get_or-take channels (drop (n * channels) samples) q (pos 0) within ∙ get_or-drop (n * channels) samples q (pos 0)

-- a ring that has room for a frame in each slot
pub record HasRoom (buffer channels : ℕ) (ring : List ℤ) : Type 0 where
  pub some : 1 ≤ buffer
  pub room : length ring ≡ buffer * channels

pub slot-within : (buffer channels n : ℕ) → 1 ≤ buffer
    → n % buffer * channels + channels ≤ buffer * channels
slot-within buffer channels n some =
    let low : n % buffer + 1 ≤ buffer = omega (arith, mod-lt n some) in
    let scaled : (n % buffer + 1) * channels ≤ buffer * channels = mul-le-mul_right channels low in
    omega (arith, scaled)

-- two slots that differ have no place in common
slots-apart : (channels a b q : ℕ) → q < channels → a < b → a * channels + q < b * channels
slots-apart channels a b q within less =
    let scaled : (a + 1) * channels ≤ b * channels = mul-le-mul_right channels (let h : a + 1 ≤ b = omega arith in h) in
    omega (arith, scaled)

frame-length : (samples : List ℤ) (channels n : ℕ) → n * channels + channels ≤ length samples
    → length (take channels (drop (n * channels) samples)) ≡ channels
frame-length samples channels n room = omega (arith, length-take channels (drop (n * channels) samples), length-drop (n * channels) samples)

pub stored-HasRoom : (buffer channels : ℕ) (ring : List ℤ) (from : ℕ) (samples : List ℤ) (n : ℕ)
    → HasRoom buffer channels ring → n * channels ≤ length samples
    → HasRoom buffer channels (with_frames buffer channels ring from samples n)
stored-HasRoom buffer channels ring from samples zero has room = has
stored-HasRoom buffer channels ring from samples (suc n) has room =
    let before = stored-HasRoom buffer channels ring from samples n has (omega arith) in
    let part : List ℤ = take channels (drop (n * channels) samples) in
    let one : length part ≡ channels = frame-length samples channels n (omega arith) in
    let fits = slot-within buffer channels (from + n) has.some in
    record {
      some = has.some;
      room = length-written_over (with_frames buffer channels ring from samples n) part ((from + n) % buffer * channels)
          (omega (arith, one, fits, before.room)) ∙ before.room;
    }

-- a frame written over leaves the other slots
elsewhere : (ring part : List ℤ) (channels a b q : ℕ) → b * channels + length part ≤ length ring
    → length part ≡ channels → q < channels → (a ≡ b → ⊥)
    → get_or (written_over ring (b * channels) part) (a * channels + q) (pos 0)
    ≡ get_or ring (a * channels + q) (pos 0)
elsewhere ring part channels a b q room one in_range apart = elim (cases_lt a b) [
  | inl less ↦ written_over-before ring part (b * channels) (a * channels + q) room (slots-apart channels a b q in_range less)
  | inr not_less ↦
      let more : b < a = elim (cases_eq a b) [ inl same ↦ absurd (apart same) | inr other ↦ omega arith ] in
      written_over-behind ring part (b * channels) (a * channels + q) room (omega (arith, one, slots_follow channels b a more))
]
  where
    slots_follow : (channels b a : ℕ) → b < a → b * channels + channels ≤ a * channels
    slots_follow channels b a less =
        let scaled : (b + 1) * channels ≤ a * channels = mul-le-mul_right channels (let h : b + 1 ≤ a = omega arith in h) in omega (arith, scaled)

-- a frame that was stored is in its slot
pub stored-new : (buffer channels : ℕ) (ring : List ℤ) (from : ℕ) (samples : List ℤ) (n k q : ℕ)
    → HasRoom buffer channels ring → n * channels ≤ length samples → n ≤ buffer
    → k < n → q < channels
    → get_or (with_frames buffer channels ring from samples n) ((from + k) % buffer * channels + q)
    (pos 0) ≡ get_or samples (k * channels + q) (pos 0)
stored-new buffer channels ring from samples zero k q has room few within in_range = absurd (omega (arith, within))
stored-new buffer channels ring from samples (suc n) k q has room few within in_range =
    let before = stored-HasRoom buffer channels ring from samples n has (omega arith) in
    let part : List ℤ = take channels (drop (n * channels) samples) in
    let one : length part ≡ channels = frame-length samples channels n (omega arith) in
    let fits = slot-within buffer channels (from + n) has.some in
    let room_here : (from + n) % buffer * channels + length part ≤ length (with_frames buffer channels ring from samples n) = omega (
      arith,
      one,
      fits,
      before.room,
    ) in
    elim (cases_eq k n) [
      | inl same ↦
          ap (λ (i : ℕ). get_or (with_frames buffer channels ring from samples (suc n)) ((from + i) % buffer * channels + q) (pos 0)) same
          ∙ written_over-here (with_frames buffer channels ring from samples n) part ((from + n) % buffer * channels) q room_here (omega (arith, one))
          ∙ frame-sample samples channels n q in_range
          ∙ ap (λ (i : ℕ). get_or samples (i * channels + q) (pos 0)) (sym same)
      | inr other ↦
          let apart : (from + k) % buffer ≡ (from + n) % buffer → ⊥ =
          λ same. absurd (omega (arith, mod-same buffer (from + k) (from + k) (from + n) (omega arith) (omega arith) (omega arith) (omega arith) same)) in
          elsewhere (with_frames buffer channels ring from samples n) part channels ((from + k) % buffer) ((from + n) % buffer) q room_here one in_range apart
          ∙ stored-new buffer channels ring from samples n k q has (omega arith) (omega arith) (omega arith) in_range
    ]

-- and the frames before them that are at most a buffer before the end of these are where they were
pub stored-old : (buffer channels : ℕ) (ring : List ℤ) (from : ℕ) (samples : List ℤ) (n j q : ℕ)
    → HasRoom buffer channels ring → n * channels ≤ length samples
    → j < from → from + n ≤ j + buffer → q < channels
    → get_or (with_frames buffer channels ring from samples n) (j % buffer * channels + q) (pos 0)
    ≡ get_or ring (j % buffer * channels + q) (pos 0)
stored-old buffer channels ring from samples zero j q has room before near in_range = refl
stored-old buffer channels ring from samples (suc n) j q has room before near in_range =
    let earlier = stored-HasRoom buffer channels ring from samples n has (omega arith) in
    let part : List ℤ = take channels (drop (n * channels) samples) in
    let one : length part ≡ channels = frame-length samples channels n (omega arith) in
    let fits = slot-within buffer channels (from + n) has.some in
    let apart : j % buffer ≡ (from + n) % buffer → ⊥ =
    λ same. absurd (omega (arith, mod-same buffer j j (from + n) (omega arith) (omega arith) (omega arith) (omega arith) same)) in
    elsewhere (with_frames buffer channels ring from samples n) part channels (j % buffer) ((from + n) % buffer) q
    (omega (arith, one, fits, earlier.room)) one in_range apart
    ∙ stored-old buffer channels ring from samples n j q has (omega arith) before (omega arith) in_range

-- a list with nothing written over is as it was
written_over-none : (ring : List ℤ) (place : ℕ) → written_over ring place [] ≡ ring
written_over-none ring place =
    ap (λ (xs : List ℤ). xs ++ drop (place + 0) ring) (append-nil (take place ring))
    ∙ ap (λ (n : ℕ). take place ring ++ drop n ring) (let same : place + 0 ≡ place = omega arith in same)
    ∙ take-append-drop place ring

-- a part written over right after another is one part written over
written_over-twice : (ring a b : List ℤ) (place : ℕ)
    → place + (length a + length b) ≤ length ring
    → written_over (written_over ring place a) (place + length a) b
    ≡ written_over ring place (a ++ b)
written_over-twice ring a b place room =
    let front : List ℤ = take place ring ++ a in
    let rest : List ℤ = drop (place + length a) ring in
    let at : place + length a ≡ length front = omega (arith, length-append (take place ring) a, length-take place ring) in
    let all : place + length a + length b ≡ place + length (a ++ b) = omega (arith, length-append a b) in
    ap (λ (n : ℕ). take n (front ++ rest) ++ b ++ drop (n + length b) (front ++ rest)) at
    ∙ ap (λ (xs : List ℤ). xs ++ b ++ drop (length front + length b) (front ++ rest)) (take-append_seam front rest)
    ∙ ap (λ (xs : List ℤ). front ++ b ++ xs) (drop-append-add front rest (length b) ∙ drop-drop (length b) (place + length a) ring)
    ∙ ap (λ (xs : List ℤ). xs ++ drop (place + length a + length b) ring) (append_assoc (take place ring) a b)
    ∙ ap (λ (n : ℕ). take place ring ++ (a ++ b) ++ drop n ring) all

-- a slot that is before the ring's end by so many frames
pub slot-behind : (buffer n k : ℕ) → n % buffer + k < buffer → (n + k) % buffer ≡ n % buffer + k
slot-behind buffer n k before = sym (mod-add-mod n buffer k) ∙ mod-eq_of_lt before

-- a run of frames up to the ring's end is stored in one part
pub stored-run : (buffer channels : ℕ) (ring : List ℤ) (from : ℕ) (samples : List ℤ) (n k : ℕ)
    → HasRoom buffer channels ring → (n + k) * channels ≤ length samples
    → (from + n) % buffer + k ≤ buffer
    → with_frames buffer channels ring from samples (n + k)
    ≡ written_over (with_frames buffer channels ring from samples n) ((from + n) % buffer * channels)
    (take (k * channels) (drop (n * channels) samples))
stored-run buffer channels ring from samples n zero has held fits =
    let so_far : List ℤ = with_frames buffer channels ring from samples n in
    let place : ℕ = (from + n) % buffer * channels in
    ap (with_frames buffer channels ring from samples) (let same : n + 0 ≡ n = omega arith in same)
    ∙ sym (written_over-none so_far place)
    ∙ ap (λ (m : ℕ). written_over so_far place (take m (drop (n * channels) samples))) (let none : 0 ≡ 0 * channels = omega arith in none)
stored-run buffer channels ring from samples n (suc k) has held fits =
    let so_far : List ℤ = with_frames buffer channels ring from samples n in
    let place : ℕ = (from + n) % buffer * channels in
    let behind : List ℤ = drop (n * channels) samples in
    let run : List ℤ = take (k * channels) behind in
    let last : List ℤ = take channels (drop ((n + k) * channels) samples) in
    let shorter : (n + k) * channels ≤ length samples = omega (arith, held) in
    let long : length run ≡ k * channels = omega (arith, length-take (k * channels) behind, length-drop (n * channels) samples, shorter) in
    let one : length last ≡ channels = frame-length samples channels (n + k) (omega (arith, held)) in
    let slot : (from + (n + k)) % buffer ≡ (from + n) % buffer + k =
    ap (λ (m : ℕ). m % buffer) (let same : from + (n + k) ≡ from + n + k = omega arith in same) ∙ slot-behind buffer (from + n) k (omega (arith, fits)) in
    let at : (from + (n + k)) % buffer * channels ≡ place + length run = ap (λ (m : ℕ). m * channels) slot ∙ omega (arith, long) in
    let whole : run ++ last ≡ take (suc k * channels) behind =
    ap (λ (xs : List ℤ). run ++ take channels xs)
    (ap (λ (m : ℕ). drop m samples) (let sum : (n + k) * channels ≡ n * channels + k * channels = omega arith in sum)
    ∙ sym (drop-drop (k * channels) (n * channels) samples))
    ∙ sym (take-add (k * channels) channels behind)
    ∙ ap (λ (m : ℕ). take m behind) (let more : k * channels + channels ≡ suc k * channels = omega arith in more) in
    let before = stored-HasRoom buffer channels ring from samples n has (omega (arith, shorter)) in
    let scaled : ((from + n) % buffer + suc k) * channels ≤ buffer * channels = mul-le-mul_right channels fits in
    let room : place + (length run + length last) ≤ length so_far = omega (arith, scaled, long, one, before.room) in
    ap (with_frames buffer channels ring from samples) (let same : n + suc k ≡ suc (n + k) = omega arith in same)
    ∙ ap (λ (xs : List ℤ). written_over xs ((from + (n + k)) % buffer * channels) last)
    (stored-run buffer channels ring from samples n k has shorter (omega (arith, fits)))
    ∙ ap (λ (m : ℕ). written_over (written_over so_far place run) m last) at
    ∙ written_over-twice so_far run last place room
    ∙ ap (written_over so_far place) whole
