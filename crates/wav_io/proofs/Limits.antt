-- What is found in a file of no more bytes than it may have, and in a longer one.
use Rattle.wav_io.specs.Prelude.{arith, inl, inr, length, length-append, List, None, refl, Some, take, ℕ, ◌++◌, ◌+◌, ◌-◌, ◌<◌, ◌≡◌, ◌≤◌, take-append-add}
use Rattle.wav_io.specs.Prelude.{cases_lt, cond-false, cond-true, le-leb, lt-leb, with_front, at_end, before_end, body_found, ended, Finding, format_cut}
use Rattle.wav_io.specs.Prelude.{most_bytes, refused, within_limit, with_body}

pub limited-short : (seen : ℕ) (find : List ℕ → Finding) (bytes : List ℕ) → seen + length bytes ≤ most_bytes → within_limit seen find bytes ≡ at_end (find bytes)
unfolding within_limit
limited-short seen find bytes short = cond-true _ _ _ (le-leb _ _ short)

pub limited-long : (seen : ℕ) (find : List ℕ → Finding) (bytes : List ℕ) → most_bytes < seen + length bytes → within_limit seen find bytes ≡ before_end (find (take (most_bytes - seen) bytes))
unfolding within_limit
limited-long seen find bytes long = cond-false _ _ _ (lt-leb _ _ long)

at_end-with_body : (front : List ℕ) (f : Finding) → at_end (with_body front f) ≡ with_front front (at_end f)
at_end-with_body front (refused e) = refl
at_end-with_body front (body_found f body) = refl
at_end-with_body front format_cut = refl
at_end-with_body front (ended None) = refl
at_end-with_body front (ended (Some f)) = refl

pub before_end-with_body : (front : List ℕ) (f : Finding) → before_end (with_body front f) ≡ with_front front (before_end f)
before_end-with_body front format_cut = refl
before_end-with_body front other = refl

-- a piece that doesn't pass the limit, and what follows it
pub limited-append : (seen : ℕ) (old new : List ℕ → Finding) (front piece : List ℕ) → seen + length piece ≤ most_bytes
    → ((more : List ℕ) → old (piece ++ more) ≡ with_body front (new more))
    → (more : List ℕ) → within_limit seen old (piece ++ more) ≡ with_front front (within_limit (seen + length piece) new more)
limited-append seen old new front piece short same more =
    elim (cases_lt most_bytes (seen + length piece + length more)) [
      | inr within ↦
          rw (limited-short seen old (piece ++ more) (omega (arith, length-append piece more)), same more, limited-short (seen + length piece) new more within)
          (at_end-with_body front (new more))
      | inl long ↦
          let room : most_bytes - seen ≡ length piece + (most_bytes - (seen + length piece)) = omega arith in
          rw (limited-long seen old (piece ++ more) (omega (arith, length-append piece more)), room, take-append-add piece more (most_bytes - (seen + length piece)))
          (rw (same (take (most_bytes - (seen + length piece)) more), limited-long (seen + length piece) new more long)
          (before_end-with_body front (new (take (most_bytes - (seen + length piece)) more))))
    ]
