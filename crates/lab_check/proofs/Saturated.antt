-- Sums that are saturated are the samples that are played.
use Rattle.lab_check.specs.Prelude.{ap, append_assoc, arith, drop, length, List, refl, subst, sym, take, ℕ, [], ◌%◌, ◌*◌, ◌++◌, ◌+◌, ◌/◌, ◌<◌, ◌∙◌, ◌∷◌, ◌≡◌}
use Rattle.lab_check.specs.Prelude.{div-add-mod, mod-lt, ints, get_or-replicate, length-replicate, map-append, same_lists, take-append-le, take_all}
use Rattle.lab_check.specs.Prelude.{get_or-map-range_with_len, length-map-range_with_len, map-range_with_len_more, div-mul-add, mod-mul-add, int_wrap, w64}
use Rattle.lab_check.specs.Prelude.{range_with_len, map, pos, replicate, slice_index_or, ℤ, ◌+ℤ◌, clamp_of, Entry, total, range_with_len-append, mixed_at}
use Rattle.lab_check.specs.Prelude.{IsSummed}

-- a sum is the total at its place, up to a multiple of 2^64
pub saturated-total : (channels from : ℕ) (es : List Entry) (sums : List ℤ) (k : ℕ) → IsSummed channels from es (replicate (length sums) (pos 0)) sums → k < length sums
    → int_wrap w64 (slice_index_or sums k (pos 0)) ≡ int_wrap w64 (total es (from + k / channels) (k % channels))
saturated-total channels from es sums k summed low =
    let none : slice_index_or (replicate (length sums) (pos 0)) k (pos 0) ≡ pos 0 = get_or-replicate (length sums) k (pos 0) (pos 0) low in
    let all : slice_index_or (replicate (length sums) (pos 0)) k (pos 0) +ℤ total es (from + k / channels) (k % channels) ≡ total es (from + k / channels) (k % channels) = omega (arith, ints, none) in
    summed.sums k (subst (λ n. k < n) (sym (length-replicate (length sums) (pos 0))) low) ∙ ap (int_wrap w64) all

-- one sample more
pub played-more : (channels from k : ℕ) (es : List Entry) (before : List ℤ) (sample : ℤ) → sample ≡ clamp_of (total es (from + k / channels) (k % channels))
    → (before ++ map (mixed_at channels from es) (range_with_len 0 k)) ++ sample ∷ [] ≡ before ++ map (mixed_at channels from es) (range_with_len 0 (k + 1))
played-more channels from k es before sample is =
    append_assoc before (map (mixed_at channels from es) (range_with_len 0 k)) (sample ∷ [])
    ∙ ap (λ (l : List ℤ). before ++ l)
    (ap (λ (s : ℤ). map (mixed_at channels from es) (range_with_len 0 k) ++ s ∷ []) is ∙ sym (map-range_with_len_more (mixed_at channels from es) 0 k k (omega arith)))

-- ---- windows

shifted : (channels first done k : ℕ) (es : List Entry) → 0 < channels → mixed_at channels (first + done) es k ≡ mixed_at channels first es (done * channels + k)
shifted channels first done k es some =
    let c = k % channels in
    let low : c < channels = mod-lt k some in
    let parts : channels * (k / channels) + c ≡ k = div-add-mod k channels in
    let place : done * channels + k ≡ (done + k / channels) * channels + c = omega (arith, parts) in
    let row : (done * channels + k) / channels ≡ done + k / channels = ap (λ n. n / channels) place ∙ div-mul-add (done + k / channels) channels c low in
    let channel : (done * channels + k) % channels ≡ c = ap (λ n. n % channels) place ∙ mod-mul-add (done + k / channels) channels c low in
    let frame : first + done + k / channels ≡ first + (done * channels + k) / channels = omega (arith, row) in
    ap (λ f. clamp_of (total es f c)) frame ∙ ap (λ n. clamp_of (total es (first + (done * channels + k) / channels) n)) (sym channel)

map-shifted : (f g : ℕ → ℤ) (a b n : ℕ) → ((k : ℕ) → f (a + k) ≡ g (b + k)) → map f (range_with_len a n) ≡ map g (range_with_len b n)
map-shifted f g a b n same = same_lists (map f (range_with_len a n)) (map g (range_with_len b n)) (length-map-range_with_len f a n ∙ sym (length-map-range_with_len g b n))
    (λ k d low.
    let inside : k < n = omega (arith, low, length-map-range_with_len f a n) in
    get_or-map-range_with_len f a n k (a + k) d inside refl ∙ same k ∙ sym (get_or-map-range_with_len g b n k (b + k) d inside refl))

-- the samples of a window after those before it
pub window-more : (channels first done frames : ℕ) (es : List Entry) → 0 < channels
    → map (mixed_at channels first es) (range_with_len 0 (done * channels)) ++ map (mixed_at channels (first + done) es) (range_with_len 0 (frames * channels))
    ≡ map (mixed_at channels first es) (range_with_len 0 ((done + frames) * channels))
window-more channels first done frames es some =
    let size : done * channels + frames * channels ≡ (done + frames) * channels = omega arith in
    ap (λ (l : List ℤ). map (mixed_at channels first es) (range_with_len 0 (done * channels)) ++ l)
    (map-shifted (mixed_at channels (first + done) es) (mixed_at channels first es) 0 (0 + done * channels) (frames * channels)
    (λ k. ap (mixed_at channels (first + done) es) (let e : 0 + k ≡ k = omega arith in e) ∙ shifted channels first done k es some
    ∙ ap (mixed_at channels first es) (let e : done * channels + k ≡ (0 + done * channels) + k = omega arith in e)))
    ∙ sym (map-append (mixed_at channels first es) (range_with_len 0 (done * channels)) (range_with_len (0 + done * channels) (frames * channels)))
    ∙ ap (map (mixed_at channels first es)) (sym (range_with_len-append 0 (done * channels) (frames * channels)))
    ∙ ap (λ n. map (mixed_at channels first es) (range_with_len 0 n)) size

-- what is written back
pub back : (n : ℕ) (new old : List ℤ) → n ≡ length new → take n (new ++ drop (length new) old) ≡ new
back n new old same = take-append-le n new (drop (length new) old) (omega (arith, same)) ∙ take_all n new (omega (arith, same))

-- sums of zeros to which all is added, as samples after those before
pub window-played : (channels first done frames : ℕ) (es : List Entry) (before after sums : List ℤ) → 0 < channels → length sums ≡ frames * channels
    → before ≡ map (mixed_at channels first es) (range_with_len 0 (done * channels))
    → after ≡ before ++ map (mixed_at channels (first + done) es) (range_with_len 0 (length sums))
    → after ≡ map (mixed_at channels first es) (range_with_len 0 ((done + frames) * channels))
window-played channels first done frames es before after sums some size before_is after_is =
    after_is
    ∙ ap (λ n. before ++ map (mixed_at channels (first + done) es) (range_with_len 0 n)) size
    ∙ ap (λ (l : List ℤ). l ++ map (mixed_at channels (first + done) es) (range_with_len 0 (frames * channels))) before_is
    ∙ window-more channels first done frames es some
