-- Readers of a file in pieces.
use Rattle.wav_io.specs.Prelude.{ap, append-nil, append_assoc, arith, Err, false, inl, inr, length, length-append, List, None, Ok, Option, refl, Result, Some}
use Rattle.wav_io.specs.Prelude.{subst, suc, sym, take, true, zero, ℕ, ℤ, [], ◌%◌, ◌*◌, ◌++◌, ◌+◌, ◌/◌, ◌<◌, ◌∙◌, ◌∷◌, ◌≡◌, ◌≢◌, div-eq_of_lt}
use Rattle.wav_io.specs.Prelude.{mul-add-div_right, take-append-add, cases_Bool, cases_lt, cond-false, cond-true, nat_tests, cast_signed, from_le_bytes, w16}
use Rattle.wav_io.specs.Prelude.{IfSome, WavError, Memory, Depths, Sixteen, Format, Place, DataBody, Opening, Refused, Part, Scan, samples_of_bytes, whole}
use Rattle.wav_io.specs.Prelude.{IsCut, found_from, with_front, error_of, IsPart, Reader, rest_of, sound_to_come, wav_frame, with_samples, Contents, contents}
use Rattle.wav_io.specs.Prelude.{IsRefusal, most_bytes, sound_of, sounds, wav_file, FollowsData, IsScan, refusal_of, to_come, Sound}
use Rattle.wav_io.proofs.Bodies.{whole_frames-whole}
use Rattle.wav_io.proofs.Limits.{limited-short, limited-long}
use Rattle.wav_io.proofs.Places.{regroup}
use Rattle.wav_io.proofs.Scans.{ends_at, ends_data, refused_comes}

pub starved_comes : (depths : Depths) (r : Reader) (more : List ℕ) → r.starved ≡ true → rest_of depths r more ≡ Err Memory
unfolding rest_of
starved_comes depths r more is = cond-true r.starved _ _ is

pub fed_comes : (depths : Depths) (r : Reader) (more : List ℕ) → r.starved ≡ false → rest_of depths r more ≡ with_front r.part (to_come depths r.scan more)
unfolding rest_of
fed_comes depths r more is = cond-false r.starved _ _ is

pub with_front-nil : (r : Result Contents WavError) → with_front [] r ≡ r
with_front-nil (Ok c) = refl
with_front-nil (Err e) = refl

-- less than a frame is none
pub whole-less : (size : ℕ) (xs : List ℕ) → length xs < size → whole size xs ≡ []
whole-less size xs less =
    let none : length xs / size ≡ 0 = div-eq_of_lt less in
    let bytes : length xs / size * size ≡ 0 = ap (λ (n : ℕ). n * size) none ∙ omega arith in
    ap (λ (n : ℕ). take n xs) bytes

pub sounds-frames : (r : Result Contents WavError) (s : Sound) → sounds r ≡ Ok s → length s.samples % s.channels ≡ 0
sounds-frames (Ok c) s is =
    let same : sound_of c.format c.body ≡ s = cc in
    ap (λ (t : Sound). length t.samples % t.channels) (sym same) ∙ whole_frames-whole c.format.channels c.body
sounds-frames (Err e) s is = absurd (cc)

-- ---- the first piece, and one that brings no data

pub new_comes : (depths : Depths) (s : Scan) (part bytes : List ℕ) → s ≡ record { place = Opening; kept = []; seen = 0 } → part ≡ [] → rest_of depths (record { scan = s; part = part; starved = false }) bytes ≡ contents depths bytes
unfolding rest_of found_from
new_comes depths s part bytes is none = rw (is, none) (with_front-nil (contents depths bytes))

pub no_data : (depths : Depths) (old new : Reader) (bytes more : List ℕ) → old.starved ≡ false → new.starved ≡ false → new.part ≡ old.part → to_come depths old.scan (bytes ++ more) ≡ with_front [] (to_come depths new.scan more)
    → rest_of depths old (bytes ++ more) ≡ rest_of depths new more
no_data depths old new bytes more fed still same come =
    rw (fed_comes depths old (bytes ++ more) fed, fed_comes depths new more still, come, with_front-nil (to_come depths new.scan more))
    (ap (λ (p : List ℕ). with_front p (to_come depths new.scan more)) (sym same))

pub refused_rest : (depths : Depths) (old : Reader) (bytes : List ℕ) (e : WavError) → old.starved ≡ false → to_come depths old.scan bytes ≡ Err e → rest_of depths old bytes ≡ Err e
refused_rest depths old bytes e fed is = fed_comes depths old bytes fed ∙ ap (with_front old.part) is

-- a piece that is refused
pub refused_same : (depths : Depths) (old new : Reader) (bytes more : List ℕ) (e : WavError) → old.starved ≡ false → new.starved ≡ false → to_come depths old.scan (bytes ++ more) ≡ Err e → to_come depths new.scan more ≡ Err e
    → rest_of depths old (bytes ++ more) ≡ rest_of depths new more
refused_same depths old new bytes more e fed still was is = refused_rest depths old (bytes ++ more) e fed was ∙ sym (refused_rest depths new more e still is)

-- ---- a piece with data

whole-append : (n size : ℕ) (a b : List ℕ) → 0 < size → length a ≡ n * size → whole size (a ++ b) ≡ a ++ whole size b
whole-append n size a b some count =
    let frames : length (a ++ b) / size ≡ n + length b / size = ap (λ (k : ℕ). k / size) (length-append a b ∙ ap (λ (k : ℕ). k + length b) count) ∙ mul-add-div_right some n (length b) in
    let bytes : length (a ++ b) / size * size ≡ length a + length b / size * size = omega (arith, ap (λ (k : ℕ). k * size) frames, count) in
    ap (λ (k : ℕ). take k (a ++ b)) bytes ∙ take-append-add a b (length b / size * size)

pub samples_of_bytes-append : (n : ℕ) (a b : List ℕ) → length a ≡ 2 * n → samples_of_bytes (a ++ b) ≡ samples_of_bytes a ++ samples_of_bytes b
samples_of_bytes-append n [] b even = refl
samples_of_bytes-append n (low ∷ []) b even = absurd (omega arith)
samples_of_bytes-append zero (low ∷ high ∷ rest) b even = absurd (omega arith)
samples_of_bytes-append (suc n) (low ∷ high ∷ rest) b even =
    ap (λ (zs : List ℤ). cast_signed w16 (from_le_bytes w16 (low ∷ high ∷ [])) ∷ zs) (samples_of_bytes-append n rest b (omega arith))

pub samples_of_bytes-frames : (n channels : ℕ) (a b : List ℕ) → length a ≡ n * (2 * channels) → samples_of_bytes (a ++ b) ≡ samples_of_bytes a ++ samples_of_bytes b
samples_of_bytes-frames n channels a b count = samples_of_bytes-append (n * channels) a b (omega arith)

-- the frames of a part and more of the data
pub cut-whole : (size : ℕ) (part body bytes rest more : List ℕ) → IsCut size part body bytes rest → 0 < size → whole size (part ++ (body ++ more)) ≡ bytes ++ whole size (rest ++ more)
cut-whole size part body bytes rest more cut some =
    ap (whole size) (regroup part body bytes rest more (sym cut.all)) ∙ whole-append cut.frames size bytes (rest ++ more) some cut.whole_frames

pub sounds-cut : (f : Format) (part body bytes rest : List ℕ) (items : List ℤ) (r : Result Contents WavError) → IsCut (wav_frame f) part body bytes rest → 0 < wav_frame f → ((c : Contents) → r ≡ Ok c → c.format ≡ f)
    → with_samples items (sounds (with_front part (with_front body r))) ≡ with_samples (items ++ samples_of_bytes bytes) (sounds (with_front rest r))
sounds-cut f part body bytes rest items (Err e) cut some same = refl
sounds-cut f part body bytes rest items (Ok c) cut some same =
    rw (same c refl)
    (ap (λ (zs : List ℤ). Ok (record { channels = f.channels; rate = f.rate; samples = zs }))
    (ap (λ (b : List ℕ). items ++ samples_of_bytes b) (cut-whole (wav_frame f) part body bytes rest c.body cut some)
    ∙ ap (λ (zs : List ℤ). items ++ zs) (samples_of_bytes-frames cut.frames f.channels bytes (whole (wav_frame f) (rest ++ c.body)) cut.whole_frames)
    ∙ sym (append_assoc items (samples_of_bytes bytes) (samples_of_bytes (whole (wav_frame f) (rest ++ c.body))))))

-- the format of the data that is to come
pub format_comes : (depths : Depths) (s : Scan) (f : Format) (n : ℕ) → s.place ≡ DataBody f n → (more : List ℕ) (c : Contents) → to_come depths s more ≡ Ok c → c.format ≡ f
unfolding found_from
format_comes depths s f n is more c come = elim (cases_lt most_bytes (s.seen + length more)) [
  | inl long ↦ absurd (let e = rw (is, limited-long s.seen (found_from depths (DataBody f n) s.kept) more long) at come in cc)
  | inr short ↦
      let e : Ok (record { format = f; body = take n more }) ≡ Ok c = rw (is, limited-short s.seen (found_from depths (DataBody f n) s.kept) more short) at come in
      let same : record { format = f; body = take n more } ≡ c = cc in
      ap (λ (d : Contents). d.format) (sym same)
]

pub some_data : (old new : Reader) (f : Format) (n : ℕ) (piece body bytes : List ℕ) (items after : List ℤ) → old.starved ≡ false → new.starved ≡ false → new.scan.place ≡ DataBody f n → 0 < wav_frame f
    → IsCut (wav_frame f) old.part body bytes new.part → after ≡ items ++ samples_of_bytes bytes
    → (more : List ℕ) → to_come Sixteen old.scan (piece ++ more) ≡ with_front body (to_come Sixteen new.scan more)
    → with_samples items (sounds (rest_of Sixteen old (piece ++ more))) ≡ with_samples after (sounds (rest_of Sixteen new more))
some_data old new f n piece body bytes items after fed still is some cut appended more come =
    rw (appended, fed_comes Sixteen old (piece ++ more) fed, fed_comes Sixteen new more still, come)
    (sounds-cut f old.part body bytes new.part items (to_come Sixteen new.scan more) cut some (format_comes Sixteen new.scan f n is more))

-- where memory was wanted the file isn't refused so far
pub not_refused : (depths : Depths) (old : Reader) (scan : Scan) (f : Format) (n : ℕ) (piece body : List ℕ) → old.starved ≡ false → IsScan scan → scan.place ≡ DataBody f n
    → to_come depths old.scan (piece ++ []) ≡ with_front body (to_come depths scan []) → (c : Contents) × (rest_of depths old piece ≡ Ok c)
not_refused depths old scan f n piece body fed is place come =
    (_, fed_comes depths old piece fed ∙ ap (λ (b : List ℕ). with_front old.part (to_come depths old.scan b)) (sym (append-nil piece)) ∙ ap (with_front old.part) (come ∙ ap (with_front body) (ends_at depths scan (DataBody f n) _ is place (ends_data depths f n scan.kept))))

-- ---- answers of a reader

pub refused_place : (place : Place) → ((e : WavError) → place ≡ Refused e → ⊥) → refusal_of place ≡ None
refused_place (Refused e) other = absurd (other e refl)
refused_place place other = refl

pub place_refused : (place : Place) (e : WavError) → refusal_of place ≡ Some e → place ≡ Refused e
place_refused (Refused d) e is = let same : d ≡ e = cc in ap (λ (x : WavError). Refused x) same
place_refused place e is = absurd (cc)

pub error_comes : (depths : Depths) (r : Reader) (e : WavError) → error_of r ≡ Some e → (more : List ℕ) → rest_of depths r more ≡ Err e
error_comes depths r e is more =
    elim (cases_Bool r.starved) [
      | inl hungry ↦
          let memory : Some Memory ≡ Some e = sym (cond-true r.starved (Some Memory) (refusal_of r.scan.place) hungry) ∙ is in
          let same : Memory ≡ e = cc in
          starved_comes depths r more hungry ∙ ap (λ (x : WavError). Err x) same
      | inr fed ↦
          let place = place_refused r.scan.place e (sym (cond-false r.starved (Some Memory) (refusal_of r.scan.place) fed) ∙ is) in
          refused_rest depths r more e fed (refused_comes depths r.scan e place more)
    ]

-- whatever a reader's error implies holds where its scan goes on, since there is none
pub error_of-followed : (P : WavError → Type 0) (r now : Reader) (part : Option Part) → r ≡ now → r.starved ≡ false → FollowsData r.scan.place (Ok part) → IfSome (error_of now) P
error_of-followed P r now part same fed follows = grind (arith, nat_tests)

-- ---- a file in one piece

unsampled : (a : List ℤ) (r : Result Sound WavError) (e : WavError) → with_samples a r ≡ Err e → r ≡ Err e
unsampled a (Ok s) e is = absurd (cc)
unsampled a (Err d) e is = is

pub whole_err : (old new : Reader) (bytes : List ℕ) (a b : List ℤ) (e : WavError) → ((x : List ℕ) → sound_to_come old x ≡ wav_file x) → with_samples a (sound_to_come old (bytes ++ [])) ≡ with_samples b (sound_to_come new []) → sound_to_come new [] ≡ Err e
    → wav_file bytes ≡ Err e
whole_err old new bytes a b e file same is =
    ap wav_file (sym (append-nil bytes)) ∙ sym (file (bytes ++ [])) ∙ unsampled a (sound_to_come old (bytes ++ [])) e (same ∙ ap (with_samples b) is)

with_samples-nil : (r : Result Sound WavError) → with_samples [] r ≡ r
with_samples-nil (Ok s) = refl
with_samples-nil (Err e) = refl

pub whole_ok : (old new : Reader) (bytes : List ℕ) (a b : List ℤ) (channels rate : ℕ) → ((x : List ℕ) → sound_to_come old x ≡ wav_file x) → with_samples a (sound_to_come old (bytes ++ [])) ≡ with_samples b (sound_to_come new []) → a ≡ []
    → sound_to_come new [] ≡ Ok (record { channels = channels; rate = rate; samples = [] }) → wav_file bytes ≡ Ok (record { channels = channels; rate = rate; samples = b })
whole_ok old new bytes a b channels rate file same none is =
    ap wav_file (sym (append-nil bytes)) ∙ sym (file (bytes ++ [])) ∙ sym (with_samples-nil (sound_to_come old (bytes ++ [])))
    ∙ ap (λ (zs : List ℤ). with_samples zs (sound_to_come old (bytes ++ []))) (sym none) ∙ same ∙ ap (with_samples b) is
    ∙ ap (λ (zs : List ℤ). Ok (record { channels = channels; rate = rate; samples = zs })) (append-nil b)

-- ---- the end of a reader

pub ends_fed : (r : Reader) (f : Format) (n : ℕ) → r.starved ≡ false → r.scan.place ≡ DataBody f n → IsPart wav_frame r.scan.place r.part → to_come Sixteen r.scan [] ≡ Ok (record { format = f; body = [] })
    → sound_to_come r [] ≡ Ok (record { channels = f.channels; rate = f.rate; samples = [] })
ends_fed r f n fed is part come =
    let less : length (r.part ++ []) < wav_frame f = omega (arith, subst (λ (q : Place). IsPart wav_frame q r.part) is part, ap length (append-nil r.part)) in
    ap sounds (fed_comes Sixteen r [] fed ∙ ap (with_front r.part) come)
    ∙ ap (λ (b : List ℕ). Ok (record { channels = f.channels; rate = f.rate; samples = samples_of_bytes b })) (whole-less (wav_frame f) (r.part ++ []) less)

pub again_at : (depths : Depths) (r : Reader) (e : WavError) (o : Option WavError) → error_of r ≡ o → rest_of depths r [] ≡ Err e → IfSome o (λ d. e ≡ d)
again_at depths r e None is come = tt
again_at depths r e (Some d) is come = let same = sym come ∙ error_comes depths r d is [] in cc

pub IfSome-weaker : (o : Option WavError) (P Q : WavError → Type 0) → ((e : WavError) → P e → Q e) → IfSome o P → IfSome o Q
IfSome-weaker None P Q f h = tt
IfSome-weaker (Some e) P Q f h = f e h

pub refusal_from : (e : WavError) (given : Result Sound WavError) → (e ≢ Memory → given ≡ Err e) → IsRefusal e given
refusal_from Memory given h = tt
refusal_from e given h = h (λ is. cc)
