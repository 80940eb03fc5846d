-- What the first byte of a text says of the token there, and of its end.
use Rattle.asound_conf.specs.Prelude.{ap, arith, drop, false, inl, inr, is_none, List, None, Option, refl, Some, sym, take, true, ℕ, ◌∙◌, ◌≡◌, ◌⊎◌, and_parts}
use Rattle.asound_conf.specs.Prelude.{cases_Bool, false_from_ne_true, false≢true, not-true, nat_tests, slice_index, ◌==◌, Mark, bad, end_at, ends_word}
use Rattle.asound_conf.specs.Prelude.{is_quote, is_skipped, is_word_byte, mark, mark_of, quoted_size, quoted_token, token_at, token_end, word}
use Rattle.asound_conf.specs.declared.error.ConfWhy.TheVariants as why

is_none-true : (m : Option Mark) → is_none m ≡ true → m ≡ None
is_none-true None is = refl
is_none-true (Some m) is = cc

-- a byte of a word, or a quote, isn't a `#`
is_word_byte-35 : (b : ℕ) → is_word_byte b ≡ true → (b == 35) ≡ false
is_word_byte-35 b is = false_from_ne_true (b == 35) (λ e. let at : b ≡ 35 = grind (arith, nat_tests, e) in false≢true (sym (ap is_word_byte at) ∙ is))

is_quote-35 : (b : ℕ) → is_quote b ≡ true → (b == 35) ≡ false
is_quote-35 b is = false_from_ne_true (b == 35) (λ e. let at : b ≡ 35 = grind (arith, nat_tests, e) in false≢true (sym (ap is_quote at) ∙ is))

-- a byte of a word is no quote and no mark
is_word_byte-quote : (b : ℕ) → is_word_byte b ≡ true → is_quote b ≡ false
is_word_byte-quote b is = not-true (is_quote b) (and_parts _ _ ((and_parts _ _ is).0)).1

is_word_byte-mark : (b : ℕ) → is_word_byte b ≡ true → mark_of b ≡ None
is_word_byte-mark b is = is_none-true (mark_of b) (and_parts _ _ is).1

-- a quote is no mark
is_quote-mark : (b : ℕ) → is_quote b ≡ true → mark_of b ≡ None
is_quote-mark b is = grind (arith, nat_tests)

-- a word
pub token_at-word : (text : List ℕ) → is_word_byte (slice_index text 0) ≡ true → token_at text ≡ word (take (end_at ends_word text) text)
unfolding token_at
token_at-word text is = rw (is, is_word_byte-quote (slice_index text 0) is, is_word_byte-mark (slice_index text 0) is) refl

pub token_end-word : (text : List ℕ) → is_word_byte (slice_index text 0) ≡ true → token_end text ≡ end_at ends_word text
unfolding token_end
token_end-word text is = rw (is, is_word_byte-35 (slice_index text 0) is, is_word_byte-quote (slice_index text 0) is) refl

-- a quoted text
pub token_at-quote : (text : List ℕ) → is_quote (slice_index text 0) ≡ true → token_at text ≡ quoted_token (slice_index text 0) (drop 1 text)
unfolding token_at
token_at-quote text is = rw (is, is_quote-mark (slice_index text 0) is) refl

pub token_end-quote : (text : List ℕ) → is_quote (slice_index text 0) ≡ true → token_end text ≡ quoted_size (slice_index text 0) (drop 1 text)
unfolding token_end
token_end-quote text is = rw (is_quote-35 (slice_index text 0) is, is) refl

-- a mark, or a byte that begins no token
pub token_at-mark : (text : List ℕ) (m : Mark) → mark_of (slice_index text 0) ≡ Some m → token_at text ≡ mark m
unfolding token_at
token_at-mark text m is = rw is refl

pub token_at-bad : (text : List ℕ) → mark_of (slice_index text 0) ≡ None → is_quote (slice_index text 0) ≡ false → is_word_byte (slice_index text 0) ≡ false → token_at text ≡ bad why.Byte
unfolding token_at
token_at-bad text marks quotes words = rw (words, quotes, marks) refl

pub token_end-one : (text : List ℕ) → is_skipped (slice_index text 0) ≡ false → is_quote (slice_index text 0) ≡ false → is_word_byte (slice_index text 0) ≡ false → token_end text ≡ 1
unfolding token_end
token_end-one text kept quotes words = grind (arith, nat_tests)

-- a text begins with a word, with a quote, with a mark, or with none of them
pub first-cases : (text : List ℕ) → (is_word_byte (slice_index text 0) ≡ true) ⊎ ((is_quote (slice_index text 0) ≡ true) ⊎ (((m : Mark) × (token_at text ≡ mark m)) ⊎ (token_at text ≡ bad why.Byte)))
first-cases text = elim (cases_Bool (is_word_byte (slice_index text 0))) [
  | inl is ↦ inl is
  | inr words ↦ elim (cases_Bool (is_quote (slice_index text 0))) [
    | inl is ↦ inr (inl is)
    | inr quotes ↦ inr (inr (by_mark quotes words (mark_of (slice_index text 0)) refl))
  ]
]
  where
    by_mark : is_quote (slice_index text 0) ≡ false → is_word_byte (slice_index text 0) ≡ false → (m : Option Mark) → mark_of (slice_index text 0) ≡ m → ((m : Mark) × (token_at text ≡ mark m)) ⊎ (token_at text ≡ bad why.Byte)
    by_mark quotes words (Some m) is = inl (m, token_at-mark text m is)
    by_mark quotes words None is = inr (token_at-bad text is quotes words)
