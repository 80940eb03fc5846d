use Rattle.sum_table.specs.Prelude.{ap, arith, negsuc, pos, subst, sym, ℕ, ℤ, ◌*◌, ◌+ℤ◌, ◌+◌, ◌-◌, ◌<◌, ◌^◌, ◌∙◌, ◌≡◌, ◌≤ℤ◌, ◌≤◌, ints, to_z-of_z, w16, w32}
use Rattle.sum_table.specs.Prelude.{count_of, lap_of, StandsFor, sum_of, signed_sample}
use Rattle.sum_table.proofs.seats.mix.changed.Goals as goal

-- by how much the word of one sample is more than a silent word
more-by : (one : ℕ) (value : ℤ) → negsuc 32767 ≤ℤ value → pos one ≡ pos 16777216 +ℤ (value +ℤ pos 8388608) → (8388608 ≤ one) × (pos (one - 8388608) ≡ pos 16777216 +ℤ value)
more-by one value low is = (omega (arith, ints, low, is), omega (arith, ints, low, is))

silent-word : (silence : ℕ) → StandsFor silence 0 0 (pos 0) → silence ≡ 8388608
silent-word silence is = omega (arith, ints, is.layout)

one-more : (one silence : ℕ) (value : ℤ) → negsuc 32767 ≤ℤ value → StandsFor one 0 1 value → StandsFor silence 0 0 (pos 0) → (silence ≤ one) × (pos (one - silence) ≡ pos 16777216 +ℤ value)
one-more one silence value low is silent =
    subst (λ (k : ℕ). (k ≤ one) × (pos (one - k) ≡ pos 16777216 +ℤ value)) (sym (silent-word silence silent)) (more-by one value low is.layout)

-- a word to which so much was added
changed-stands : (word more : ℕ) (value : ℤ) → word < 2 ^ 64 → pos more ≡ pos 16777216 +ℤ value → count_of word < 255 → negsuc 8388607 ≤ℤ (sum_of word +ℤ value) → (sum_of word +ℤ value) ≤ℤ pos 8388607
    → StandsFor (word + more) (lap_of word) (count_of word + 1) (sum_of word +ℤ value)
changed-stands word more value fits is room low high =
    record { lap_fits = omega arith; count_fits = omega arith; low = low; high = high; layout = grind (arith, ints) }

-- a word that stands for three numbers has 64 bits
within : (word base : ℕ) (sum : ℤ) → sum ≤ℤ pos 8388607 → pos word ≡ pos base +ℤ (sum +ℤ pos 8388608) → word < base + 16777216
within word base sum high is = grind (arith, ints)

stands-fits : (word lap count : ℕ) (sum : ℤ) → StandsFor word lap count sum → word < 2 ^ 64
stands-fits word lap count sum is = omega (arith, within word (lap * 4294967296 + count * 16777216) sum is.high is.layout, is.lap_fits, is.count_fits)

grown : (c : goal.After-pack-2) → (c.pack-2.result ≤ c.pack.result) × (pos (c.pack.result - c.pack-2.result) ≡ pos 16777216 +ℤ c.signed-value.result)
grown c =
    one-more c.pack.result c.pack-2.result c.signed-value.result c.signed-value.ensures.low
    (subst (λ (v : ℤ). StandsFor c.pack.result 0 1 v) (to_z-of_z w32 c.signed-value.result (record { sfits = c.signed-value.type_inv })) c.pack.ensures.stands) c.pack-2.ensures.stands

pub overflow_sub-result : goal.overflow_sub-result
overflow_sub-result c = (grown c).0

pub returns : goal.returns
returns c =
    changed-stands c.args.word (c.pack.result - c.pack-2.result) (signed_sample c.args.kind c.args.sample) c.ranges.word.fits
    (subst (λ (v : ℤ). pos (c.pack.result - c.pack-2.result) ≡ pos 16777216 +ℤ v) (c.signed-value.ensures.value ∙ ap (signed_sample c.args.kind) (to_z-of_z w16 c.args.sample c.ranges.sample)) (grown c).1)
    c.requires.room c.requires.low c.requires.high

pub overflow_add-result : goal.overflow_add-result
overflow_add-result c = record { fits = stands-fits _ _ _ _ (returns c) }
