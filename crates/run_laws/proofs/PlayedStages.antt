-- What a card has played stays as it is: no item of a body changes what the segments place below the card's position.
use Rattle.run_laws.specs.Prelude.{ap, arith, List, mul-le-mul, refl, subst, sym, ℕ, [], ◌*◌, ◌++◌, ◌+◌, ◌-◌, ◌<◌, ◌∙◌, ◌∷◌, ◌≡◌, ◌≤◌, append-nil}
use Rattle.run_laws.specs.Prelude.{take-append-drop, flat_map-append, flat_map-map, take-map-range_with_len, div_below, flat_map, range_with_len, drop, map}
use Rattle.run_laws.specs.Prelude.{slice_index_or, slice_set, suc, zero, ℤ, ◌%◌, ◌/◌, Segment, ClaimRow as Claim, clamp_of, at-append, sum_of_samples, Item}
use Rattle.run_laws.specs.Prelude.{first_frame, Client, present_of, segments_of, ItemsMay, no_sound, all_segments, entries_by, entries_of, mixed_at}
use Rattle.run_laws.specs.Prelude.{with_numbers, AtPort, ended_client, first_stage, no_client, Session, Stage, AreBound}
use Rattle.run_laws.specs.Played.{PlayedStays}
use Rattle.run_laws.proofs.FileLines.{IsFileClient, clients-hold}
use Rattle.run_laws.proofs.PlayedLines.{line-heard}
use Rattle.run_laws.proofs.PlayedSegments.{heard}
use Rattle.run_laws.proofs.Stages.{EachFrom, IsLasting, at, client_opened, each-from, items-held, reached-each}
use Rattle.mix_core.specs.Laid as laid

-- ---- the segments of all clients

abbrev segments_from : ℕ → List (AtPort × Client) → List (ℕ × Segment)
segments_from number clients = with_numbers (λ (client : AtPort × Client). segments_of client.1) number clients

-- what they placed at a frame and channel is what each client placed
module _ (session : Session) (frame channel : ℕ) where
  abbrev heard_from : ℕ → List (AtPort × Client) → List ℤ
  heard_from number clients = laid.at (flat_map (entries_by session) (segments_from number clients)) frame channel

  heard-from : (number : ℕ) (x : AtPort × Client) (clients : List (AtPort × Client))
      → heard_from number (x ∷ clients) ≡ heard session number frame channel (segments_of x.1) ++ heard_from (number + 1) clients
  heard-from number x clients =
      ap (λ es. laid.at es frame channel) (flat_map-append (entries_by session) (map (λ s. (number, s)) (segments_of x.1)) (segments_from (number + 1) clients))
      ∙ at-append (flat_map (entries_by session) (map (λ s. (number, s)) (segments_of x.1))) (flat_map (entries_by session) (segments_from (number + 1) clients)) frame channel
      ∙ ap (λ es. laid.at es frame channel ++ heard_from (number + 1) clients) (flat_map-map (entries_by session) (λ s. (number, s)) (segments_of x.1))

  -- a client in the place of one that placed the same
  set-heard : (n number i : ℕ) (clients : List (AtPort × Client)) (d y : AtPort × Client) → number + i ≡ n
      → heard session n frame channel (segments_of y.1) ≡ heard session n frame channel (segments_of (slice_index_or clients i d).1)
      → heard_from number (slice_set clients i y) ≡ heard_from number clients
  set-heard n number i [] d y at same = refl
  set-heard n number zero (x ∷ clients) d y at same = let here : n ≡ number = omega (arith, at) in
      heard-from number y clients
      ∙ ap (λ l. l ++ heard_from (number + 1) clients)
      (subst (λ m. heard session m frame channel (segments_of y.1) ≡ heard session m frame channel (segments_of x.1)) here same)
      ∙ sym (heard-from number x clients)
  set-heard n number (suc i) (x ∷ clients) d y at same =
      heard-from number x (slice_set clients i y)
      ∙ ap (λ l. heard session number frame channel (segments_of x.1) ++ l) (set-heard n (number + 1) i clients d y (omega (arith, at)) same)
      ∙ sym (heard-from number x clients)

-- ---- the items of a body

-- clients of their files, where the card is at p or past it: below p they placed what they did
module _ (session : Session) (bound : AreBound session) (p : ℕ) (placed : ℕ → ℕ → List ℤ) where
  abbrev StillHeard : List (AtPort × Client) → List Claim → ℕ → Type 0
  StillHeard clients claims position = EachFrom session 0 (IsFileClient session 0) (clients-hold session bound 0) clients claims position × (p ≤ position)
      × ((frame channel : ℕ) → frame < p → heard_from session frame channel 0 clients ≡ placed frame channel)

  still-heard : IsLasting session StillHeard
  still-heard = record {
    line = λ rules phase clients claims position n y asked answer least within may so. (
      files.line rules phase clients claims position n y asked answer least within may so.0,
      so.1,
      λ frame channel before. set-heard session frame channel n 0 n clients (no_client session.ring) y (omega arith)
          (line-heard session n frame channel p before rules (λ q there. let past = so.1 in omega (arith, past, least q there)) phase (slice_index_or session.sounds n no_sound) n
          (at session clients n).0 y.0 (at session clients n).1 y.1 asked answer (so.0.1 n).own may) ∙ so.2 frame channel before,
    );
    opens = λ clients claims position n setup there closed granted so. (
      files.opens clients claims position n setup there closed granted so.0,
      so.1,
      λ frame channel before. set-heard session frame channel n 0 n clients (no_client session.ring) (client_opened session clients n setup) (omega arith)
          (ap (λ own. heard session n frame channel ((at session clients n).1.ended ++ present_of own)) (sym closed)) ∙ so.2 frame channel before,
    );
    ends = λ clients claims position n c within is so. (
      files.ends clients claims position n c within is so.0,
      so.1,
      λ frame channel before. set-heard session frame channel n 0 n clients (no_client session.ring) (ended_client session.ring (at session clients n)) (omega arith)
          (ap (heard session n frame channel) (append-nil (segments_of (at session clients n).1))) ∙ so.2 frame channel before,
    );
    later = λ clients claims position q after so. (files.later clients claims position q after so.0, (let past = so.1 in omega (arith, past, after)), so.2);
  }
    where
      files : IsLasting session (EachFrom session 0 (IsFileClient session 0) (clients-hold session bound 0))
      files = each-from session 0 (IsFileClient session 0) (clients-hold session bound 0)

-- ---- the mix

-- functions that are the same on some numbers
range-same : (f g : ℕ → ℤ) (first n : ℕ) → ((k : ℕ) → first ≤ k → k < first + n → f k ≡ g k) → map f (range_with_len first n) ≡ map g (range_with_len first n)
range-same f g first zero same = refl
range-same f g first (suc n) same =
    ap (λ x. x ∷ map f (range_with_len (first + 1) n)) (same first (omega arith) (omega arith))
    ∙ ap (λ xs. g first ∷ xs) (range-same f g (first + 1) n (λ k low high. same k (omega (arith, low)) (omega (arith, high))))

pub stage-stays : (session : Session) (done others : List Item) (stage end : Stage) → AreBound session → ItemsMay session (first_stage session) done stage
    → ItemsMay session stage others end → PlayedStays session stage end
stage-stays session done others stage end bound may rest = (
  drop (n * channels) (map f (range_with_len 0 (m * channels))),
  sym (take-append-drop (n * channels) (map f (range_with_len 0 (m * channels))))
      ∙ ap (λ xs. xs ++ drop (n * channels) (map f (range_with_len 0 (m * channels)))) (take-map-range_with_len f 0 (m * channels) (n * channels) few ∙ range-same f g 0 (n * channels) same),
)
  where
    placed : ℕ → ℕ → List ℤ
    placed frame channel = heard_from session frame channel 0 stage.clients

    files : EachFrom session 0 (IsFileClient session 0) (clients-hold session bound 0) stage.clients stage.claims stage.position
    files = reached-each session 0 (IsFileClient session 0) (clients-hold session bound 0) done stage (omega arith) may

    stays : StillHeard session bound stage.position placed end.clients end.claims end.position
    stays = items-held session (StillHeard session bound stage.position placed) (still-heard session bound stage.position placed) stage end others rest
        (files, omega arith, λ frame channel before. refl)

    channels : ℕ
    channels = session.card.channels

    n : ℕ
    n = stage.position - first_frame session.card

    m : ℕ
    m = end.position - first_frame session.card

    f : ℕ → ℤ
    f = mixed_at session.card.channels (first_frame session.card) (entries_of session (all_segments end.clients))

    g : ℕ → ℤ
    g = mixed_at session.card.channels (first_frame session.card) (entries_of session (all_segments stage.clients))

    few : n * channels ≤ m * channels
    few = let on = stays.1 in mul-le-mul {n₁ = n} {m₁ = channels} {n₂ = m} {m₂ = channels} (omega (arith, on)) (omega arith)

    same : (k : ℕ) → 0 ≤ k → k < 0 + n * channels → f k ≡ g k
    same k low high = ap (λ l. clamp_of (sum_of_samples l)) (stays.2 (first_frame session.card + k / session.card.channels) (k % session.card.channels) within)
      where
        below : (a b c : ℕ) → a < 0 + b * c → a / c < b
        below a b zero less = absurd (omega (arith, less))
        below a b (suc c) less = div_below a (suc c) b (omega arith) (omega (arith, less))

        within : first_frame session.card + k / session.card.channels < stage.position
        within = let quotient = below k (stage.position - first_frame session.card) session.card.channels high in omega (arith, quotient)
