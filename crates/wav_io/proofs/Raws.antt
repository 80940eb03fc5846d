-- Readers of the bytes of a file's samples.
use Rattle.wav_io.specs.Prelude.{ap, append-nil, append_assoc, arith, Err, false, inl, inr, length, List, None, Ok, refl, Result, Some, subst, sym, ℕ, [], ◌%◌}
use Rattle.wav_io.specs.Prelude.{◌*◌, ◌++◌, ◌+◌, ◌/◌, ◌<◌, ◌∙◌, ◌≡◌, div-mul-le_self, mul-mod_left, cases_Bool, cases_lt, cond-true, nat_tests, length-take-le}
use Rattle.wav_io.specs.Prelude.{IsOk, WavError, Memory, UpTo32, Format, Place, DataBody, whole, IsFormat, IsCut, found_from, with_front, error_of, IsOfHead}
use Rattle.wav_io.specs.Prelude.{IsPart, Raw, raw_frame, raw_to_come, raws, Reader, rest_of, with_bytes, Contents, most_bytes, IsScan, refusal_of, to_come}
use Rattle.wav_io.proofs.Limits.{limited-short, limited-long}
use Rattle.wav_io.proofs.Readers.{fed_comes, cut-whole, whole-less, format_comes}
use Rattle.wav_io.proofs.Scans.{ends_at, ends_data}

pub raw_frame-some : (f : Format) → IsFormat f → 0 < raw_frame f
raw_frame-some f in_order = grind (arith, nat_tests)

pub raws-frames : (r : Result Contents WavError) (s : Raw) → raws r ≡ Ok s → length s.body % (s.channels * (s.bits / 8)) ≡ 0
raws-frames (Ok c) s is =
    let size = raw_frame c.format in
    let count = length c.body / size in
    let same : record { channels = c.format.channels; rate = c.format.rate; bits = c.format.bits; body = whole size c.body } ≡ s = cc in
    let bytes : length (whole size c.body) ≡ count * size = length-take-le (count * size) c.body (div-mul-le_self (length c.body) size) in
    ap (λ (t : Raw). length t.body % (t.channels * (t.bits / 8))) (sym same) ∙ ap (λ (n : ℕ). n % size) bytes ∙ mul-mod_left count size
raws-frames (Err e) s is = absurd (cc)

raws-cut : (f : Format) (part body bytes rest items : List ℕ) (r : Result Contents WavError) → IsCut (raw_frame f) part body bytes rest → 0 < raw_frame f → ((c : Contents) → r ≡ Ok c → c.format ≡ f)
    → with_bytes items (raws (with_front part (with_front body r))) ≡ with_bytes (items ++ bytes) (raws (with_front rest r))
raws-cut f part body bytes rest items (Err e) cut some same = refl
raws-cut f part body bytes rest items (Ok c) cut some same =
    rw (same c refl)
    (ap (λ (b : List ℕ). Ok (record { channels = f.channels; rate = f.rate; bits = f.bits; body = b }))
    (ap (λ (b : List ℕ). items ++ b) (cut-whole (raw_frame f) part body bytes rest c.body cut some) ∙ sym (append_assoc items bytes (whole (raw_frame f) (rest ++ c.body)))))

pub some_raw : (old new : Reader) (f : Format) (n : ℕ) (piece body bytes items after : List ℕ) → old.starved ≡ false → new.starved ≡ false → new.scan.place ≡ DataBody f n → 0 < raw_frame f
    → IsCut (raw_frame f) old.part body bytes new.part → after ≡ items ++ bytes
    → (more : List ℕ) → to_come UpTo32 old.scan (piece ++ more) ≡ with_front body (to_come UpTo32 new.scan more)
    → with_bytes items (raws (rest_of UpTo32 old (piece ++ more))) ≡ with_bytes after (raws (rest_of UpTo32 new more))
some_raw old new f n piece body bytes items after fed still is some cut appended more come =
    rw (appended, fed_comes UpTo32 old (piece ++ more) fed, fed_comes UpTo32 new more still, come)
    (raws-cut f old.part body bytes new.part items (to_come UpTo32 new.scan more) cut some (format_comes UpTo32 new.scan f n is more))

pub ends_raw : (r : Reader) (f : Format) (n : ℕ) → r.starved ≡ false → r.scan.place ≡ DataBody f n → IsPart raw_frame r.scan.place r.part → to_come UpTo32 r.scan [] ≡ Ok (record { format = f; body = [] })
    → raw_to_come r [] ≡ Ok (record { channels = f.channels; rate = f.rate; bits = f.bits; body = [] })
ends_raw r f n fed is part come =
    let less : length (r.part ++ []) < raw_frame f = omega (arith, subst (λ (q : Place). IsPart raw_frame q r.part) is part, ap length (append-nil r.part)) in
    ap raws (fed_comes UpTo32 r [] fed ∙ ap (with_front r.part) come)
    ∙ ap (λ (b : List ℕ). Ok (record { channels = f.channels; rate = f.rate; bits = f.bits; body = b })) (whole-less (raw_frame f) (r.part ++ []) less)

-- after a format, an answer has that format, or the file is too long
of_data : (r : Reader) (f : Format) (n : ℕ) → r.scan.place ≡ DataBody f n → r.starved ≡ false → (more : List ℕ) → IsOfHead f.channels f.rate f.bits (raw_to_come r more)
unfolding found_from
of_data r f n is fed more = elim (cases_lt most_bytes (r.scan.seen + length more)) [
  | inl long ↦ rw (fed_comes UpTo32 r more fed, is, limited-long r.scan.seen (found_from UpTo32 (DataBody f n) r.scan.kept) more long) refl
  | inr short ↦ rw (fed_comes UpTo32 r more fed, is, limited-short r.scan.seen (found_from UpTo32 (DataBody f n) r.scan.kept) more short) (refl, refl, refl)
]

pub raw_to_come-head : (r : Reader) (f : Format) (n : ℕ) → r.scan.place ≡ DataBody f n → error_of r ≡ None → (more : List ℕ) → IsOfHead f.channels f.rate f.bits (raw_to_come r more)
raw_to_come-head r f n is none =
    elim (cases_Bool r.starved) [
      | inl hungry ↦ absurd (let e : Some Memory ≡ None = sym (cond-true r.starved (Some Memory) (refusal_of r.scan.place) hungry) ∙ none in cc)
      | inr fed ↦ of_data r f n is fed
    ]

-- where the file ends after its format, it is read
pub raw_to_come-ends : (r : Reader) (f : Format) (n : ℕ) → IsScan r.scan → r.scan.place ≡ DataBody f n → error_of r ≡ None → IsOk (raw_to_come r [])
raw_to_come-ends r f n scan is none =
    elim (cases_Bool r.starved) [
      | inl hungry ↦ absurd (let e : Some Memory ≡ None = sym (cond-true r.starved (Some Memory) (refusal_of r.scan.place) hungry) ∙ none in cc)
      | inr fed ↦ rw (fed_comes UpTo32 r [] fed, ends_at UpTo32 r.scan (DataBody f n) _ scan is (ends_data UpTo32 f n r.scan.kept)) refl
    ]
