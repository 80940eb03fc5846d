-- Where the tokens of a text are in it.
use Rattle.asound_conf.specs.Prelude.{ap, arith, Bool, drop, inl, inr, length, List, subst, sym, take, true, ℕ, ◌+◌, ◌-◌, ◌<◌, ◌^◌, ◌∙◌, ◌≡◌, ◌≤◌, cond-true}
use Rattle.asound_conf.specs.Prelude.{nat_tests, drop-drop, drop-take, length-drop, length-take, take-take, if◌then◌else◌, slice_index, ◌==◌, Mark, AreAt}
use Rattle.asound_conf.specs.Prelude.{AreBefore, IsBefore, IsSuffix, span_in, bad, end_at, ends_word, quoted, quoted_end, token_at, token_end, token_of, word}
use Rattle.asound_conf.proofs.FirstBytes.{first-cases, token_at-quote, token_at-word, token_end-quote, token_end-word}
use Rattle.asound_conf.specs.declared.error.ConfWhy.TheVariants as why
use Rattle.asound_conf.specs.declared.token.Token as code
use Rattle.asound_conf.specs.declared.token.Token.TheVariants as lent

-- a text ends with itself
pub IsSuffix-self : (text : List ℕ) → IsSuffix text text
IsSuffix-self text = record { short = omega arith; is = let none : length text - length text ≡ 0 = omega arith in ap (λ (k : ℕ). drop k text) none }

-- what follows is a text's end, too
pub IsSuffix-drop : (text rest : List ℕ) (n : ℕ) → IsSuffix text rest → n ≤ length rest → IsSuffix text (drop n rest)
IsSuffix-drop text rest n suffix within =
    let count = length-drop n rest in
    let place : length text - length (drop n rest) ≡ length text - length rest + n = omega (arith, count, within, suffix.short) in
    record {
      short = omega (arith, count, suffix.short);
      is = ap (λ (k : ℕ). drop k text) place ∙ sym (drop-drop n (length text - length rest) text) ∙ ap (drop n) suffix.is;
    }

-- the end of a text's end
pub IsSuffix-both : (text rest last : List ℕ) → IsSuffix text rest → IsSuffix rest last → IsSuffix text last
IsSuffix-both text rest last first second = subst (IsSuffix text) second.is (IsSuffix-drop text rest (length rest - length last) first (omega arith))

-- bytes in a text's end are in the text
AreBefore-suffix : (text rest last : List ℕ) (after : ℕ) (bytes : List ℕ) → IsSuffix text rest → AreBefore rest last after bytes → AreBefore text last after bytes
AreBefore-suffix text rest last after bytes suffix before =
    let all = length bytes + after + length last in
    let place : length text - all ≡ (length text - length rest) + (length rest - all) = omega (arith, suffix.short, before.room) in
    record {
      room = omega (arith, suffix.short, before.room);
      are = ap (λ (k : ℕ). take (length bytes) (drop k text)) place
          ∙ ap (take (length bytes)) (sym (drop-drop (length rest - all) (length text - length rest) text) ∙ ap (drop (length rest - all)) suffix.is) ∙ before.are;
    }

pub IsBefore-suffix : (text rest last : List ℕ) (token : code.Token) → IsSuffix text rest → IsBefore rest last token → IsBefore text last token
IsBefore-suffix text rest last (lent.Word w) suffix before = AreBefore-suffix text rest last 0 w.now suffix before
IsBefore-suffix text rest last (lent.Quoted q) suffix before = AreBefore-suffix text rest last 1 q.now suffix before
IsBefore-suffix text rest last (lent.Mark m) suffix before = tt
IsBefore-suffix text rest last (lent.Bad w) suffix before = tt

-- bytes before a text's end are at the place that the lengths say
pub AreAt-before : (text rest : List ℕ) (after : ℕ) (bytes : List ℕ) (start : ℕ) → length text < 2 ^ 32 → start ≡ length text - (length bytes + after + length rest) → AreBefore text rest after bytes → AreAt text start bytes
AreAt-before text rest after bytes start small at before = grind (arith, nat_tests)

quoted-no_word : (a b c : Bool) (w q : List ℕ) → word w ≡ (if a then bad why.Byte else if b then bad why.Escape else if c then quoted q else bad why.Unclosed) → ⊥
quoted-no_word a b c w q e = grind (arith, nat_tests)

-- a word is the first of a text, and the text goes on after it
pub record IsWordFirst (text w : List ℕ) : Type 0 where
  pub end : token_end text ≡ end_at ends_word text
  pub is : w ≡ take (end_at ends_word text) text

pub word-first : (text w : List ℕ) → word w ≡ token_at text → IsWordFirst text w
word-first text w e = elim (first-cases text) [
  | inl is ↦ record { end = token_end-word text is; is = let same : word w ≡ word (take (end_at ends_word text) text) = e ∙ token_at-word text is in cc }
  | inr other ↦ elim other [
    | inl is ↦ absurd (quoted-no_word _ _ _ w _ (e ∙ token_at-quote text is))
    | inr neither ↦ elim neither [ inl is ↦ absurd (cc (e ∙ is.1)) | inr is ↦ absurd (cc (e ∙ is)) ]
  ]
]

-- a quoted text is after the first byte of a text, and the text goes on after the quote that follows it
pub record IsQuotedFirst (text q : List ℕ) : Type 0 where
  pub end : token_end text ≡ quoted_end (slice_index text 0) (drop 1 text) + 2
  pub is : q ≡ take (quoted_end (slice_index text 0) (drop 1 text)) (drop 1 text)

quoted-it : (a b c : Bool) (q x : List ℕ) → quoted q ≡ (if a then bad why.Byte else if b then bad why.Escape else if c then quoted x else bad why.Unclosed) → (c ≡ true) × (q ≡ x)
quoted-it a b c q x e = grind (arith, nat_tests)

pub quoted-first : (text q : List ℕ) → quoted q ≡ token_at text → IsQuotedFirst text q
quoted-first text q e = elim (first-cases text) [
  | inl is ↦ absurd (cc (e ∙ token_at-word text is))
  | inr other ↦ elim other [
    | inl is ↦
        let it = quoted-it _ _ (slice_index (drop 1 text) (quoted_end (slice_index text 0) (drop 1 text)) == slice_index text 0) q _ (e ∙ token_at-quote text is) in
        record { end = token_end-quote text is ∙ cond-true _ _ _ it.0; is = it.1 }
    | inr neither ↦ elim neither [ inl is ↦ absurd (cc (e ∙ is.1)) | inr is ↦ absurd (cc (e ∙ is)) ]
  ]
]

-- bytes of the first token of a text, which are before what follows it
AreBefore-first : (text rest bytes : List ℕ) (at n after : ℕ) → bytes ≡ take n (drop at text) → token_end text ≡ at + n + after → rest ≡ drop (token_end text) text → token_end text ≤ length text
    → AreBefore text rest after bytes
AreBefore-first text rest bytes at n after is end follows within =
    let size : length bytes ≡ n = omega (arith, ap length is, length-take n (drop at text), length-drop at text, end, within) in
    let left : length rest ≡ length text - token_end text = ap length follows ∙ length-drop (token_end text) text in
    let place : length text - (length bytes + after + length rest) ≡ at = omega (arith, size, left, within, end) in
    record { room = omega (arith, size, left, within, end); are = rw (place, size) (sym is) }

-- the first token of a text is before what follows
pub IsBefore-first : (text rest : List ℕ) (token : code.Token) → token_of token ≡ token_at text → rest ≡ drop (token_end text) text → token_end text ≤ length text → IsBefore text rest token
IsBefore-first text rest (lent.Mark m) is follows within = tt
IsBefore-first text rest (lent.Bad w) is follows within = tt
IsBefore-first text rest (lent.Word w) is follows within =
    let it = word-first text w.now is in
    AreBefore-first text rest w.now 0 (end_at ends_word text) 0 it.is (omega (arith, it.end)) follows within
IsBefore-first text rest (lent.Quoted q) is follows within =
    let it = quoted-first text q.now is in
    AreBefore-first text rest q.now 1 (quoted_end (slice_index text 0) (drop 1 text)) 1 it.is (omega (arith, it.end)) follows within

-- parts of bytes are where they are in a text
pub span-take : (text bytes : List ℕ) (start n : ℕ) → n ≤ length bytes → span_in text (record { start = start; count = length bytes }) ≡ bytes → span_in text (record { start = start; count = n }) ≡ take n bytes
span-take text bytes start n within are = sym (take-take n (length bytes) (drop start text) within) ∙ ap (take n) are

pub span-drop : (text bytes : List ℕ) (start n : ℕ) → n ≤ length bytes → span_in text (record { start = start; count = length bytes }) ≡ bytes → span_in text (record { start = start + n; count = length bytes - n }) ≡ drop n bytes
span-drop text bytes start n within are =
    let size : length bytes ≡ n + (length bytes - n) = omega (arith, within) in
    let moved : drop n (take (length bytes) (drop start text)) ≡ take (length bytes - n) (drop n (drop start text)) =
    ap (λ (k : ℕ). drop n (take k (drop start text))) size ∙ drop-take n (length bytes - n) (drop start text) in
    ap (take (length bytes - n)) (sym (drop-drop n start text)) ∙ sym moved ∙ ap (drop n) are
