-- How far a file is read: some bytes, up to the limit, and the end.
use Rattle.wav_io.specs.Prelude.{ap, append-nil, arith, Err, false, inl, inr, length, length-append, List, None, Ok, Option, refl, Some, subst, sym, take, true}
use Rattle.wav_io.specs.Prelude.{ℕ, [], ◌++◌, ◌+◌, ◌-◌, ◌<◌, ◌∙◌, ◌≡◌, ◌≤◌, take-append-add, cases_lt, lt-ltb, nat_tests, drop_all, length-take, take-append-le}
use Rattle.wav_io.specs.Prelude.{take_all, codes, min, bytes_eq, WavError, NotRiff, NotWave, TooLong, Depths, Format, Place, DataBody, FormatBody, Head}
use Rattle.wav_io.specs.Prelude.{Opening, Refused, Part, Scan, found_from, GoesOn, HasSeen, IsSoundPlace, IsWalked, with_front, at_end, before_end, body_found}
use Rattle.wav_io.specs.Prelude.{ended, Finding, format_cut, found_in, most_bytes, refused, scan_of, within_limit, ContinuesData, FollowsData, GoesThrough}
use Rattle.wav_io.specs.Prelude.{IsAfterData, IsScan, part_bytes, to_come, with_body}
use Rattle.wav_io.proofs.Bodies.{no_room}
use Rattle.wav_io.proofs.Cutting.{chunks-none}
use Rattle.wav_io.proofs.Limits.{limited-short, limited-long, limited-append, before_end-with_body}

-- ---- in the data

take-append : (n : ℕ) (xs ys : List ℕ) → take n (xs ++ ys) ≡ take n xs ++ take (n - length xs) ys
take-append n xs ys =
    elim (cases_lt (length xs) n) [
      | inl more ↦
          ap (λ (k : ℕ). take k (xs ++ ys)) (omega arith) ∙ take-append-add xs ys (n - length xs)
          ∙ ap (λ (front : List ℕ). front ++ take (n - length xs) ys) (sym (take_all n xs (omega arith)))
      | inr within ↦
          let none : n - length xs ≡ 0 = omega arith in
          take-append-le n xs ys within ∙ sym (append-nil (take n xs)) ∙ ap (λ (k : ℕ). take n xs ++ take k ys) (sym none)
    ]

data-same : (depths : Depths) (f : Format) (missing : ℕ) (kept after bytes more : List ℕ)
    → found_from depths (DataBody f missing) kept (bytes ++ more) ≡ with_body (take missing bytes) (found_from depths (DataBody f (missing - length bytes)) after more)
unfolding found_from
data-same depths f missing kept after bytes more = ap (body_found f) (take-append missing bytes more)

pub through_data : (depths : Depths) (f : Format) (missing : ℕ) (old : Scan) (bytes : List ℕ) (p : Part) (new : Scan) → old.place ≡ DataBody f missing → IsSoundPlace old.place old.kept
    → new ≡ record old { place = DataBody f (missing - length bytes) } → p.format ≡ f → p.body.now ≡ take missing bytes → GoesThrough depths old bytes (Some p) new
through_data depths f missing old bytes p new is place moved same body =
    subst (λ (s : Scan). GoesThrough depths old bytes (Some p) s) (sym moved) (record {
      same = λ more. ap (λ (q : Place). found_from depths q old.kept (bytes ++ more)) is ∙ data-same depths f missing old.kept old.kept bytes more ∙ ap (λ (front : List ℕ). with_body front (found_from depths (DataBody f (missing - length bytes)) old.kept more)) (sym body);
      place = subst (λ (q : Place). IsSoundPlace q old.kept) is place;
      seen = λ n was. tt;
      behind = (missing - length bytes, ap (λ (g : Format). DataBody g (missing - length bytes)) (sym same));
      continues = subst (λ (q : Place). ContinuesData q (Some p)) (sym is) same;
      counted = refl;
    })

-- ---- up to the data, and through it

not_data : (place : Place) (part : Option Part) → ((f : Format) (n : ℕ) → place ≡ DataBody f n → ⊥) → ContinuesData place part
not_data (DataBody f n) part other = absurd (other f n refl)
not_data place part other = tt

pub through_walk : (depths : Depths) (old walked : Scan) (bytes rest : List ℕ) (part : Option Part) (new : Scan) → ((f : Format) (n : ℕ) → old.place ≡ DataBody f n → ⊥)
    → GoesOn depths old.place old.kept bytes walked.place walked.kept rest → walked.seen ≡ old.seen → GoesThrough depths walked rest part new → GoesThrough depths old bytes part new
through_walk depths old walked bytes rest part new other goes counted through = grind (arith, nat_tests)

none-same : (depths : Depths) (place : Place) (kept rest : List ℕ) → IsWalked place rest → ((f : Format) (n : ℕ) → place ≡ DataBody f n → ⊥)
    → (more : List ℕ) → found_from depths place kept (rest ++ more) ≡ with_body [] (found_from depths place kept more)
unfolding found_from
none-same depths place kept rest walked other more = grind (arith, nat_tests)

none-seen : (place : Place) (kept rest : List ℕ) (n : ℕ) → IsWalked place rest → HasSeen place (kept ++ rest) n → HasSeen place kept n
none-seen Opening kept rest n walked was = was ∙ ap (λ (b : List ℕ). length (kept ++ b)) walked ∙ ap length (append-nil kept)
none-seen place kept rest n walked was = tt

none-behind : (place : Place) → ((f : Format) (n : ℕ) → place ≡ DataBody f n → ⊥) → IsAfterData None place
none-behind (DataBody f n) other = other f n refl
none-behind place other = tt

pub through_none : (depths : Depths) (walked : Scan) (rest : List ℕ) → IsSoundPlace walked.place walked.kept → IsWalked walked.place rest → ((f : Format) (n : ℕ) → walked.place ≡ DataBody f n → ⊥) → GoesThrough depths walked rest None walked
through_none depths walked rest place is other = record {
  same = none-same depths walked.place walked.kept rest is other;
  place = place;
  seen = λ n was. none-seen walked.place walked.kept rest n is was;
  behind = none-behind walked.place other;
  continues = not_data walked.place None other;
  counted = refl;
}

-- ---- a piece

seen-more : (place : Place) (kept bytes : List ℕ) (seen : ℕ) → HasSeen place kept seen → HasSeen place (kept ++ bytes) (seen + length bytes)
seen-more Opening kept bytes seen is = ap (λ (n : ℕ). n + length bytes) is ∙ sym (length-append kept bytes)
seen-more place kept bytes seen is = tt

abbrev counted_on : Scan → List ℕ → Scan
counted_on s bytes = record s { seen = s.seen + length bytes }

pub still_scan : (depths : Depths) (old mid : Scan) (near : List ℕ) (part : Option Part) → IsScan old → GoesThrough depths old near part mid → old.seen + length near ≤ most_bytes → IsScan (counted_on mid near)
still_scan depths old mid near part scan through short = record {
  place = through.place;
  seen = through.seen (mid.seen + length near) (subst (λ (n : ℕ). HasSeen old.place (old.kept ++ near) (n + length near)) (sym through.counted) (seen-more old.place old.kept near old.seen scan.seen));
  limit = omega (arith, through.counted);
}

-- what is to come after a piece
pub piece_through : (depths : Depths) (old mid : Scan) (near : List ℕ) (part : Option Part) → GoesThrough depths old near part mid → old.seen + length near ≤ most_bytes
    → (more : List ℕ) → to_come depths old (near ++ more) ≡ with_front (part_bytes part) (to_come depths (counted_on mid near) more)
piece_through depths old mid near part through short more =
    limited-append old.seen (found_from depths old.place old.kept) (found_from depths mid.place mid.kept) (part_bytes part) near short through.same more
    ∙ ap (λ (n : ℕ). with_front (part_bytes part) (within_limit (n + length near) (found_from depths mid.place mid.kept) more)) (sym through.counted)

-- ---- refusals

pub refused_comes : (depths : Depths) (s : Scan) (e : WavError) → s.place ≡ Refused e → (more : List ℕ) → to_come depths s more ≡ Err e
unfolding found_from
refused_comes depths s e is more = elim (cases_lt most_bytes (s.seen + length more)) [
  | inl long ↦ rw is (limited-long s.seen (found_from depths (Refused e) s.kept) more long)
  | inr short ↦ rw is (limited-short s.seen (found_from depths (Refused e) s.kept) more short)
]

-- a piece that passes the limit
past_limit : (depths : Depths) (old mid : Scan) (piece : List ℕ) (part : Option Part) → GoesThrough depths old (take (most_bytes - old.seen) piece) part mid → IsScan old → most_bytes < old.seen + length piece
    → (more : List ℕ) → to_come depths old (piece ++ more) ≡ with_front (part_bytes part) (before_end (found_from depths mid.place mid.kept []))
past_limit depths old mid piece part through scan long more =
    let room = most_bytes - old.seen in
    let within : room ≤ length piece = omega (arith, scan.limit) in
    limited-long old.seen (found_from depths old.place old.kept) (piece ++ more) (omega (arith, length-append piece more))
    ∙ ap (λ (b : List ℕ). before_end (found_from depths old.place old.kept b)) (take-append-le room piece more within ∙ sym (append-nil (take room piece)))
    ∙ ap before_end (through.same [])
    ∙ before_end-with_body (part_bytes part) (found_from depths mid.place mid.kept [])

-- ends within a head and a format chunk
pub ends_head : (depths : Depths) (format : Option Format) (skip : ℕ) (kept : List ℕ) → length kept < 8 → found_from depths (Head format skip) kept [] ≡ ended format
unfolding found_from
ends_head depths format skip kept few = rw (drop_all {X = ℕ} skip [] (omega arith), append-nil kept) (ap (scan_of depths format) (chunks-none kept few))

pub ends_cut : (depths : Depths) (missing pad : ℕ) (kept : List ℕ) → 0 < missing → found_from depths (FormatBody missing pad) kept [] ≡ format_cut
unfolding found_from
ends_cut depths missing pad kept some = rw (lt-ltb 0 missing some) refl

cut_short : (depths : Depths) (place : Place) (kept : List ℕ) → IsSoundPlace place kept → HasSeen place kept most_bytes → ((e : WavError) → place ≡ Refused e → ⊥) → before_end (found_from depths place kept []) ≡ Err TooLong
unfolding found_from
cut_short depths Opening kept few seen unrefused = absurd (omega (arith, seen, few))
cut_short depths (Head format skip) kept few seen unrefused = ap before_end (ends_head depths format skip kept few.0)
cut_short depths (FormatBody missing pad) kept few seen unrefused = ap before_end (ends_cut depths missing pad kept few.0)
cut_short depths (DataBody f n) kept few seen unrefused = refl
cut_short depths (Refused e) kept few seen unrefused = absurd (unrefused e refl)

pub follows_from : (place : Place) (part : Option Part) → ContinuesData place part → ((e : WavError) → place ≡ Refused e → ⊥) → FollowsData place (Ok part)
follows_from place part is unrefused = grind (arith, nat_tests)

pub follows_err : (place : Place) (e : WavError) → ((d : WavError) → place ≡ Refused d → ⊥) → FollowsData place (Err e)
follows_err (Refused d) e unrefused = absurd (unrefused d refl)
follows_err place e unrefused = tt

-- ---- the end

pub ends_at : (depths : Depths) (s : Scan) (place : Place) (f : Finding) → IsScan s → s.place ≡ place → found_from depths place s.kept [] ≡ f → to_come depths s [] ≡ at_end f
ends_at depths s place f scan is found =
    limited-short s.seen (found_from depths s.place s.kept) [] (omega (arith, scan.limit)) ∙ ap (λ (q : Place). at_end (found_from depths q s.kept [])) is ∙ ap at_end found

pub ends_not_riff : (depths : Depths) (kept : List ℕ) → bytes_eq (take 4 kept) (codes "RIFF") ≡ false → found_from depths Opening kept [] ≡ refused NotRiff
unfolding found_from found_in
ends_not_riff depths kept isnt = rw (append-nil kept, isnt) refl

pub ends_not_wave : (depths : Depths) (kept : List ℕ) → length kept < 12 → bytes_eq (take 4 kept) (codes "RIFF") ≡ true → found_from depths Opening kept [] ≡ refused NotWave
unfolding found_from found_in
ends_not_wave depths kept few is = rw (append-nil kept, is, no_room 8 kept (codes "WAVE") refl few) refl

pub ends_data : (depths : Depths) (f : Format) (missing : ℕ) (kept : List ℕ) → found_from depths (DataBody f missing) kept [] ≡ body_found f []
unfolding found_from
ends_data depths f missing kept = ap (body_found f) (take_all missing [] (omega arith))

-- ---- a piece and what comes of it

abbrev near_of : Scan → List ℕ → List ℕ
near_of old piece = take (min (length piece) (most_bytes - old.seen)) piece

pub piece_refused : (depths : Depths) (old mid : Scan) (piece near : List ℕ) (part : Option Part) (e : WavError) → near ≡ near_of old piece → GoesThrough depths old near part mid → IsScan old → mid.place ≡ Refused e
    → (more : List ℕ) → to_come depths old (piece ++ more) ≡ Err e
unfolding found_from
piece_refused depths old mid piece near part e is through scan at more =
    elim (cases_lt (most_bytes - old.seen) (length piece)) [
      | inl past ↦
          let all : near ≡ take (most_bytes - old.seen) piece = is ∙ ap (λ (n : ℕ). take n piece) (omega arith) in
          past_limit depths old mid piece part (rw all at through) scan (omega arith) more ∙ ap
          (λ (q : Place). with_front (part_bytes part) (before_end (found_from depths q mid.kept []))) at
      | inr within ↦
          let all : near ≡ piece = is ∙ take_all (min (length piece) (most_bytes - old.seen)) piece (omega arith) in
          piece_through depths old mid piece part (rw all at through) (omega (arith, scan.limit)) more ∙ ap (with_front (part_bytes part))
          (refused_comes depths (counted_on mid piece) e at more)
    ]

pub piece_too_long : (depths : Depths) (old mid : Scan) (piece near : List ℕ) (part : Option Part) → near ≡ near_of old piece → GoesThrough depths old near part mid → IsScan old → length near < length piece
    → ((e : WavError) → mid.place ≡ Refused e → ⊥) → (more : List ℕ) → to_come depths old (piece ++ more) ≡ Err TooLong
piece_too_long depths old mid piece near part is through scan less unrefused more =
    let count : length near ≡ min (length piece) (most_bytes - old.seen) = omega (arith, ap length is, length-take (min (length piece) (most_bytes - old.seen)) piece) in
    let all : near ≡ take (most_bytes - old.seen) piece = is ∙ ap (λ (n : ℕ). take n piece) (omega arith) in
    let end : old.seen + length near ≡ most_bytes = omega (arith, scan.limit) in
    let seen : HasSeen mid.place mid.kept most_bytes = through.seen most_bytes (subst (λ (n : ℕ). HasSeen old.place (old.kept ++ near) n) end
    (seen-more old.place old.kept near old.seen scan.seen)) in
    past_limit depths old mid piece part (rw all at through) scan (omega arith) more ∙ ap (with_front (part_bytes part))
    (cut_short depths mid.place mid.kept through.place seen unrefused)

pub piece_whole : (old : Scan) (piece near : List ℕ) → near ≡ near_of old piece → length piece ≤ length near → near ≡ piece
piece_whole old piece near is all = is ∙ take_all (min (length piece) (most_bytes - old.seen)) piece (omega (arith, ap length is, length-take (min (length piece) (most_bytes - old.seen)) piece))

pub piece_fits : (old : Scan) (piece near : List ℕ) → near ≡ near_of old piece → IsScan old → old.seen + length near ≤ most_bytes
piece_fits old piece near is scan = omega (arith, scan.limit, ap length is, length-take (min (length piece) (most_bytes - old.seen)) piece)
