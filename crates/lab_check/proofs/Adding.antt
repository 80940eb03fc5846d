-- A segment is added to the sums of a window of frames.
use Rattle.lab_check.specs.Prelude.{ap, arith, inl, inr, length, List, refl, subst, sym, take, ℕ, [], ◌%◌, ◌*◌, ◌++◌, ◌+◌, ◌-◌, ◌/◌, ◌<◌, ◌∙◌, ◌∷◌, ◌≡◌, ◌≤◌}
use Rattle.lab_check.specs.Prelude.{◌⊎◌, div-lt_iff_lt-mul, nat_tests, append-nil, flat_map, range_with_len, Bool, false, if◌then◌else◌, map, min, nat_eq}
use Rattle.lab_check.specs.Prelude.{nat_lt, suc, zero, ℤ, rising, Entry, frame_entries, sample_at, IsSummed}
use Rattle.lab_check.proofs.Covers.{entry_at}
use Rattle.lab_check.proofs.Summing.{frame_of_segment, of, of-append, outside, summed-both, summed-none, whole_frame, whole-same}

-- ---- the frames of a segment

map-take_none : {X : Type 0} (f : ℕ → X) (xs : List ℕ) → map f (take 0 xs) ≡ []
map-take_none f [] = refl
map-take_none f (x ∷ xs) = refl

module _ (member : ℕ) (bindings : List ℕ) (samples : List ℤ) (source card whole : ℕ) where
  abbrev pub sample_from : ℕ → ℕ → ℤ
  sample_from = λ j. sample_at samples (length bindings) (source + j)

  -- the frame behind the whole ones, if some of its channels have a sample
  last-of : (part : ℕ) → frame_entries member bindings (sample_from (0 + whole)) part (card + (0 + whole))
      ≡ of member bindings sample_from card whole part whole (if nat_eq part 0 then 0 else 1)
  last-of zero = map-take_none (entry_at member bindings 0 0 (sample_from (0 + whole)) (card + (0 + whole))) (rising bindings)
  last-of (suc part) =
      let behind : nat_lt whole whole ≡ false = grind (arith, nat_tests) in
      let some : nat_eq (suc part) 0 ≡ false = grind (arith, nat_tests) in
      let same : 0 + whole ≡ whole = omega arith in
      ap (λ n. frame_entries member bindings (sample_from n) (suc part) (card + n)) same
      ∙ ap (λ b. frame_entries member bindings (sample_from whole) (if b then length bindings else suc part) (card + whole)) (sym behind)
      ∙ sym (append-nil (frame_of_segment member bindings sample_from card whole (suc part) whole))
      ∙ ap (λ b. of member bindings sample_from card whole (suc part) whole (if b then 0 else 1)) (sym some)

  pub frames-of : (part : ℕ)
      → flat_map (whole_frame member bindings sample_from card whole part) (range_with_len 0 whole)
      ++ frame_entries member bindings (sample_from (0 + whole)) part (card + (0 + whole))
      ≡ of member bindings sample_from card whole part 0 (whole + (if nat_eq part 0 then 0 else 1))
  frames-of part = ap (λ es. es ++ frame_entries member bindings (sample_from (0 + whole)) part (card + (0 + whole))) (whole-same member bindings sample_from card whole part 0 whole (omega arith))
      ∙ ap (λ es. of member bindings sample_from card whole part 0 whole ++ es) (last-of part)
      ∙ sym (of-append member bindings sample_from card whole part 0 whole (if nat_eq part 0 then 0 else 1) whole (omega arith))

-- ---- the window

row-below : (channels frames k : ℕ) → k < frames * channels → k / channels < frames
row-below zero frames k low = absurd (omega (arith, low))
row-below (suc channels) frames k low = (div-lt_iff_lt-mul (omega arith)).1 low

module _ (member : ℕ) (bindings : List ℕ) (sample_of : ℕ → ℕ → ℤ) (card whole part : ℕ) (channels from frames : ℕ) where
  abbrev own : ℕ → ℕ → List Entry
  own = of member bindings sample_of card whole part

  -- frames of the segment that aren't in the window
  none-in : (a n : ℕ) (sums : List ℤ) → frames * channels ≡ length sums → ((j row : ℕ) → a ≤ j → j < a + n → row < frames → card + j ≡ from + row → ⊥)
      → IsSummed channels from (own a n) sums sums
  none-in a n sums size not = summed-none channels from (own a n) sums
      (λ k low. outside member bindings sample_of card whole part a n (from + k / channels) (k % channels)
      (λ j above below. not j (k / channels) above below (row-below channels frames k (omega (arith, low, size)))))

  -- nothing of it is
  pub nothing-in : (taken : ℕ) (sums : List ℤ) → frames * channels ≡ length sums → (frames ≤ card - from) ⊎ (taken ≤ from - card) → IsSummed channels from (own 0 taken) sums sums
  nothing-in taken sums size (inl late) = none-in 0 taken sums size (λ j row above below in_frames is. absurd (omega (arith, late, in_frames, is)))
  nothing-in taken sums size (inr early) = none-in 0 taken sums size (λ j row above below in_frames is. absurd (omega (arith, early, below, is)))

  -- the frames in the window
  pub all-in : (taken skipped late end : ℕ) (old new : List ℤ) → frames * channels ≡ length old
      → skipped ≡ from - card → late ≡ card - from → late < frames → skipped < taken → end ≡ min taken (skipped + (frames - late))
      → IsSummed channels from (own skipped (end - skipped)) old new → IsSummed channels from (own 0 taken) old new
  all-in taken skipped late end old new size skipped_is late_is in_frames some end_is middle =
      subst (λ (es : List Entry). IsSummed channels from es old new) (sym parts)
      (summed-both channels from (own 0 skipped) (own skipped (end - skipped) ++ own end (taken - end)) old old new
      (none-in 0 skipped old size (λ j row above below inside is. absurd (omega (arith, skipped_is, below, is))))
      (summed-both channels from (own skipped (end - skipped)) (own end (taken - end)) old new new middle
      (none-in end (taken - end) new (size ∙ sym middle.same) (λ j row above below inside is. absurd (omega (arith, end_is, skipped_is, late_is, above, below, inside, is, in_frames))))))
    where
      parts : own 0 taken ≡ own 0 skipped ++ (own skipped (end - skipped) ++ own end (taken - end))
      parts =
          let all : taken ≡ skipped + ((end - skipped) + (taken - end)) = omega (arith, end_is, some) in
          ap (own 0) all
          ∙ of-append member bindings sample_of card whole part 0 skipped ((end - skipped) + (taken - end)) skipped (omega arith)
          ∙ ap (λ es. own 0 skipped ++ es) (of-append member bindings sample_of card whole part skipped (end - skipped) (taken - end) end (omega (arith, end_is, some)))

  -- one frame more
  pub one-in : (skipped j : ℕ) (old mid new : List ℤ) → skipped ≤ j
      → IsSummed channels from (own skipped (j - skipped)) old mid
      → IsSummed channels from (frame_of_segment member bindings sample_of card whole part j) mid new
      → IsSummed channels from (own skipped ((j + 1) - skipped)) old new
  one-in skipped j old mid new low before one =
      let count : (j + 1) - skipped ≡ (j - skipped) + 1 = omega (arith, low) in
      let split : own skipped ((j + 1) - skipped) ≡ own skipped (j - skipped) ++ frame_of_segment member bindings sample_of card whole part j =
      ap (own skipped) count
      ∙ of-append member bindings sample_of card whole part skipped (j - skipped) 1 j (omega (arith, low))
      ∙ ap (λ es. own skipped (j - skipped) ++ es) (append-nil (frame_of_segment member bindings sample_of card whole part j)) in
      subst (λ (es : List Entry). IsSummed channels from es old new) (sym split)
      (summed-both channels from (own skipped (j - skipped)) (frame_of_segment member bindings sample_of card whole part j) old mid new before one)

pub places-of : (whole part all j : ℕ) (b : Bool) → nat_lt j whole ≡ b → (if nat_lt j whole then all else part) ≡ (if b then all else part)
places-of whole part all j b is = ap (λ t. if t then all else part) is

pub samples-fit : (source j taken count size samples : ℕ) → j < taken → count ≡ size → (source + taken) * size ≤ samples → (source + j) * count + size ≤ samples
samples-fit source j taken count size samples low same most = grind (arith, nat_tests)
