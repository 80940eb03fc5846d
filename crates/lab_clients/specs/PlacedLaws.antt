-- Laws of what was placed for clients: entries that are alike are worth the same, and what the exchange of one seat changes.
use Rattle.std.specs.Prelude.{◌≡◌, ◌≢◌, ℕ, zero, suc, ◌+◌, ◌<◌, ◌+ℤ◌, ℤ, pos, nat_eq, cond, count_by, Bool, true, false, if◌then◌else◌, List, [], ◌∷◌, ◌++◌, filter, length, map, Option, Some, None, replicate, slice_index_or, slice_set}
use Rattle.std.proofs.Common.{refl, sym, ◌∙◌, ap, arith}
use Rattle.std.proofs.lemmas.Bool.Decides.{nat_tests}
use Rattle.std.proofs.lemmas.Int.{ints}
use Rattle.std.proofs.lemmas.List.{append-nil, append_cancel_right, map-append}
use Rattle.std.proofs.lemmas.List.Elements.{filter-append}
use Rattle.std.proofs.lemmas.List.Sums.{sum_by-cons}
use Rattle.snd_base.specs.declared.places.Segment.{Segment}
use Rattle.mix_core.specs.declared.port.Entry.{Entry}
use Rattle.mix_core.specs.HistoryLaws.{fold-append_sum, total-append}
use Rattle.mix_core.specs.Laid.{is_at, sum_of_samples, total, value_of}
use Rattle.lab_run.specs.Members.{of_member}
use Rattle.lab_clients.specs.Placed.{ArePlacedAlike, SeatSegment, client_and_segment, client_segments, place_segments, with_number, worth_all, worth_left, worth_of}

-- ---- entries that are alike

pub ArePlacedAlike-append : (xs ys us vs : List Entry) → ArePlacedAlike xs ys → ArePlacedAlike us vs → ArePlacedAlike (xs ++ us) (ys ++ vs)
ArePlacedAlike-append xs ys us vs first second =
    map-append (of_member 0) xs us
    ∙ (ap (λ es. es ++ map (of_member 0) us) first ∙ (ap (λ es. map (of_member 0) ys ++ es) second ∙ sym (map-append (of_member 0) ys vs)))

-- those before some that are alike
pub ArePlacedAlike-before : (xs ys us vs : List Entry) → ArePlacedAlike us vs → ArePlacedAlike (xs ++ us) (ys ++ vs) → ArePlacedAlike xs ys
ArePlacedAlike-before xs ys us vs second all =
    append_cancel_right (map (of_member 0) xs) (map (of_member 0) ys) (map (of_member 0) vs)
    (ap (λ es. map (of_member 0) xs ++ es) (sym second) ∙ (sym (map-append (of_member 0) xs us) ∙ (all ∙ map-append (of_member 0) ys vs)))

-- entries of another member
pub ArePlacedAlike-of_member : (member : ℕ) (es : List Entry) → ArePlacedAlike (map (of_member member) es) es
ArePlacedAlike-of_member member [] = refl
ArePlacedAlike-of_member member (e ∷ es) = ap (λ more. of_member 0 e ∷ more) (ArePlacedAlike-of_member member es)

pub worth_of-append : (worth : Entry → ℤ) (xs ys : List Entry) → worth_of worth (xs ++ ys) ≡ worth_of worth xs +ℤ worth_of worth ys
worth_of-append worth xs ys =
    ap (λ es. sum_of_samples (map worth es)) (map-append (of_member 0) xs ys)
    ∙ (ap sum_of_samples (map-append worth (map (of_member 0) xs) (map (of_member 0) ys))
    ∙ fold-append_sum (pos 0) (map worth (map (of_member 0) xs)) (map worth (map (of_member 0) ys)))

pub worth_of-alike : (worth : Entry → ℤ) (xs ys : List Entry) → ArePlacedAlike xs ys → worth_of worth xs ≡ worth_of worth ys
worth_of-alike worth xs ys alike = ap (λ (es : List Entry). sum_of_samples (map worth es)) alike

-- the sum at a frame and channel is what the entries are worth there
abbrev pub worth_at : ℕ → ℕ → Entry → ℤ
worth_at f k e = if is_at f k e then value_of e else pos 0

pub worth_of-worth_at : (f k : ℕ) (es : List Entry) → worth_of (worth_at f k) es ≡ total es f k
worth_of-worth_at f k [] = refl
worth_of-worth_at f k (e ∷ es) =
    worth_of-append (worth_at f k) (e ∷ []) es
    ∙ (ap (λ first. first +ℤ worth_of (worth_at f k) es) (by_test (is_at f k e))
    ∙ (ap (λ more. total (e ∷ []) f k +ℤ more) (worth_of-worth_at f k es) ∙ sym (total-append (e ∷ []) es f k)))
  where
    by_test : (b : Bool) → sum_of_samples ((if b then value_of e else pos 0) ∷ []) ≡ sum_of_samples (map value_of (cond b (e ∷ []) []))
    by_test true = refl
    by_test false = refl

-- how many entries pass a test of their frames, channels, samples and kinds is what they are worth, where each that passes is worth one
abbrev worth_one : (Entry → Bool) → Entry → ℤ
worth_one passes e = if passes e then pos 1 else pos 0

worth_of-worth_one : (passes : Entry → Bool) (es : List Entry) → worth_of (worth_one passes) es ≡ pos (count_by passes (map (of_member 0) es))
worth_of-worth_one passes [] = refl
worth_of-worth_one passes (e ∷ es) =
    let own : worth_of (worth_one passes) (e ∷ []) ≡ pos (cond (passes (of_member 0 e)) 1 0) = by_test (passes (of_member 0 e)) in
    let sum = worth_of-append (worth_one passes) (e ∷ []) es in
    let more = worth_of-worth_one passes es in
    let count : count_by passes (map (of_member 0) (e ∷ es)) ≡ cond (passes (of_member 0 e)) 1 0 + count_by passes (map (of_member 0) es) =
    sum_by-cons (λ (x : Entry). cond (passes x) 1 0) (of_member 0 e) (map (of_member 0) es) in
    omega (arith, ints, own, sum, more, count)
  where
    by_test : (b : Bool) → sum_of_samples ((if b then pos 1 else pos 0) ∷ []) ≡ pos (cond b 1 0)
    by_test true = refl
    by_test false = refl

-- Entries that are worth the same, whatever each is worth, are there as often: as many of them pass any test.
pub count_by-worth : (xs ys : List Entry) → ((worth : Entry → ℤ) → worth_of worth xs ≡ worth_of worth ys) → (passes : Entry → Bool)
    → count_by passes (map (of_member 0) xs) ≡ count_by passes (map (of_member 0) ys)
count_by-worth xs ys same passes =
    let own = worth_of-worth_one passes xs in
    let others = worth_of-worth_one passes ys in
    let worths = same (worth_one passes) in
    omega (arith, ints, own, others, worths)

-- ---- the lists of seats

-- one of them is exchanged
pub worth_all-set : (worth : Entry → ℤ) (lists : List (Option (List Entry))) (place : ℕ) (laid : Option (List Entry)) → place < length lists
    → worth_all worth (slice_set lists place laid) +ℤ worth_left worth (slice_index_or lists place None) ≡ worth_all worth lists +ℤ worth_left worth laid
worth_all-set worth [] place laid inside = absurd (omega (arith, inside))
worth_all-set worth (first ∷ lists) zero laid inside = omega (arith, ints)
worth_all-set worth (first ∷ lists) (suc place) laid inside =
    let more = worth_all-set worth lists place laid (omega (arith, inside)) in omega (arith, ints, more)

-- seats that placed nothing
pub worth_all-new : (worth : Entry → ℤ) (n : ℕ) → worth_all worth (replicate n (Some [])) ≡ pos 0
worth_all-new worth zero = refl
worth_all-new worth (suc n) =
    let none : worth_left worth (Some []) ≡ pos 0 = refl in
    let more = worth_all-new worth n in
    omega (arith, ints, none, more)

-- ---- the segments of closed openings

-- the segments that a client made through the seat of a place
abbrev pub seat_segments : ℕ → ℕ → List Segment → List SeatSegment
seat_segments place client segments = map (λ segment. record { place = place; client = client; segment = segment }) segments

module _ (place client : ℕ) where
  place_segments-own : (segments : List Segment) → place_segments place (seat_segments place client segments) ≡ map (with_number client) segments
  place_segments-own [] = refl
  place_segments-own (segment ∷ segments) =
      by_test (nat_eq place place) (grind (arith, nat_tests)) ∙ ap (λ more. with_number client segment ∷ more) (place_segments-own segments)
    where
      first : SeatSegment
      first = record { place = place; client = client; segment = segment }

      others : List SeatSegment
      others = filter (λ (m : SeatSegment). nat_eq m.place place) (seat_segments place client segments)

      by_test : (b : Bool) → b ≡ true → map client_and_segment (cond b (first ∷ others) others) ≡ with_number client segment ∷ map client_and_segment others
      by_test true is = refl
      by_test false is = absurd (cc)

  client_segments-own : (segments : List Segment) → client_segments client (seat_segments place client segments) ≡ segments
  client_segments-own [] = refl
  client_segments-own (segment ∷ segments) =
      by_test (nat_eq client client) (grind (arith, nat_tests)) ∙ ap (λ more. segment ∷ more) (client_segments-own segments)
    where
      first : SeatSegment
      first = record { place = place; client = client; segment = segment }

      others : List SeatSegment
      others = filter (λ (m : SeatSegment). nat_eq m.client client) (seat_segments place client segments)

      by_test : (b : Bool) → b ≡ true → map (λ (m : SeatSegment). m.segment) (cond b (first ∷ others) others) ≡ segment ∷ map (λ (m : SeatSegment). m.segment) others
      by_test true is = refl
      by_test false is = absurd (cc)

  -- none of them is another place's or client's
  filter-other : (n own : ℕ) (of : SeatSegment → ℕ) (segments : List Segment) → own ≢ n → ((segment : Segment) → of (record { place = place; client = client; segment = segment }) ≡ own)
      → filter (λ m. nat_eq (of m) n) (seat_segments place client segments) ≡ []
  filter-other n own of [] differ is = refl
  filter-other n own of (segment ∷ segments) differ is =
      let tested : nat_eq (of (record { place = place; client = client; segment = segment })) n ≡ false =
      ap (λ (k : ℕ). nat_eq k n) (is segment) ∙ differs own differ in
      ap (λ (b : Bool). cond b (record { place = place; client = client; segment = segment } ∷ others) others) tested ∙ filter-other n own of segments differ is
    where
      others : List SeatSegment
      others = filter (λ m. nat_eq (of m) n) (seat_segments place client segments)

      differs : (k : ℕ) → k ≢ n → nat_eq k n ≡ false
      differs k other = grind (arith, nat_tests)

  -- those of the place, and of the client, after such segments
  pub place_segments-more : (history : List SeatSegment) (segments : List Segment)
      → place_segments place (history ++ seat_segments place client segments) ≡ place_segments place history ++ map (with_number client) segments
  place_segments-more history segments =
      ap (map client_and_segment) (filter-append (λ (m : SeatSegment). nat_eq m.place place) history (seat_segments place client segments))
      ∙ (map-append client_and_segment (filter (λ (m : SeatSegment). nat_eq m.place place) history) (filter (λ (m : SeatSegment). nat_eq m.place place) (seat_segments place client segments))
      ∙ ap (λ more. place_segments place history ++ more) (place_segments-own segments))

  pub client_segments-more : (history : List SeatSegment) (segments : List Segment)
      → client_segments client (history ++ seat_segments place client segments) ≡ client_segments client history ++ segments
  client_segments-more history segments =
      ap (map (λ (m : SeatSegment). m.segment)) (filter-append (λ (m : SeatSegment). nat_eq m.client client) history (seat_segments place client segments))
      ∙ (map-append (λ (m : SeatSegment). m.segment) (filter (λ (m : SeatSegment). nat_eq m.client client) history)
      (filter (λ (m : SeatSegment). nat_eq m.client client) (seat_segments place client segments))
      ∙ ap (λ more. client_segments client history ++ more) (client_segments-own segments))

  -- and of the others
  pub place_segments-other : (history : List SeatSegment) (segments : List Segment) (n : ℕ) → place ≢ n
      → place_segments n (history ++ seat_segments place client segments) ≡ place_segments n history
  place_segments-other history segments n differ =
      ap (map client_and_segment)
      (filter-append (λ (m : SeatSegment). nat_eq m.place n) history (seat_segments place client segments)
      ∙ (ap (λ more. filter (λ (m : SeatSegment). nat_eq m.place n) history ++ more) (filter-other n place (λ m. m.place) segments differ (λ segment. refl))
      ∙ append-nil (filter (λ (m : SeatSegment). nat_eq m.place n) history)))

  pub client_segments-other : (history : List SeatSegment) (segments : List Segment) (n : ℕ) → client ≢ n
      → client_segments n (history ++ seat_segments place client segments) ≡ client_segments n history
  client_segments-other history segments n differ =
      ap (map (λ (m : SeatSegment). m.segment))
      (filter-append (λ (m : SeatSegment). nat_eq m.client n) history (seat_segments place client segments)
      ∙ (ap (λ more. filter (λ (m : SeatSegment). nat_eq m.client n) history ++ more) (filter-other n client (λ m. m.client) segments differ (λ segment. refl))
      ∙ append-nil (filter (λ (m : SeatSegment). nat_eq m.client n) history)))
