-- The requests of a phase, sorted by the places of their actors.
use Rattle.lab_report.specs.Prelude.{ap, arith, get_or, inl, inr, length, List, map, refl, slice_index_or, slice_set, suc, sym, take, zero, ℕ, [], ◌++◌, ◌+◌}
use Rattle.lab_report.specs.Prelude.{◌<◌, ◌==◌, ◌∙◌, ◌∷◌, ◌≡◌, ◌≢◌, ◌≤◌, cases_eq, eq-eqb, ne_eqb, append-nil, get_or-set_other, get_or-set_same}
use Rattle.lab_report.specs.Prelude.{get_or_default, map-append, filter_more, Line, Request, AddsRequest, AreSorted, of_place, place_of_actor, request_of}

-- a place more that has no requests
pub none-push : (places : List (List Request)) → ((k : ℕ) → slice_index_or places k [] ≡ []) → (k : ℕ) → slice_index_or (places ++ [] ∷ []) k [] ≡ []
none-push [] none zero = refl
none-push [] none (suc k) = refl
none-push (own ∷ places) none zero = none zero
none-push (own ∷ places) none (suc k) = none-push places (λ j. none (suc j)) k

-- the requests of another place than that of a line's actor
nothing-more : (phase : ℕ) (line : Line) (k : ℕ) (own : List Request) → place_of_actor line.actor ≢ k
    → own ≡ own ++ map (request_of phase) (of_place (line ∷ []) k)
nothing-more phase line k own other = rw (ne_eqb (place_of_actor line.actor) k other) (sym (append-nil own))

-- a line whose actor has no place
pub AddsRequest-none : (phase place : ℕ) (line : Line) (places : List (List Request)) → place ≡ place_of_actor line.actor → length places ≤ place
    → AddsRequest phase line places places
AddsRequest-none phase place line places at past =
    λ k within. nothing-more phase line k (slice_index_or places k []) (λ same. omega (arith, at, past, same, within))

-- a line whose request is put behind those of its place
pub AddsRequest-set : (phase place : ℕ) (line : Line) (places : List (List Request)) (own d : List Request) → place ≡ place_of_actor line.actor
    → place < length places → own ≡ slice_index_or places place d ++ request_of phase line ∷ [] → AddsRequest phase line places (slice_set places place own)
AddsRequest-set phase place line places own d at inside grown = λ k within. elim (cases_eq k place) [
  | inl here ↦ rw (
    here,
    get_or-set_same places place own [] inside,
    eq-eqb (place_of_actor line.actor) place (sym at),
    get_or_default places place [] d inside,
  ) grown
  | inr other ↦ get_or-set_other places place k own [] other
      ∙ nothing-more phase line k (slice_index_or places k []) (λ same. other (sym same ∙ sym at))
]

-- a line more
pub AreSorted-more : (phase : ℕ) (lines : List Line) (i : ℕ) (d : Line) (before after : List (List Request)) → i < length lines
    → length after ≡ length before → AreSorted phase (take i lines) before → AddsRequest phase (get_or lines i d) before after
    → AreSorted phase (take (i + 1) lines) after
AreSorted-more phase lines i d before after inside count sorted adds = λ k within.
    let below : k < length before = omega (arith, within, count) in
    adds k below
    ∙ ap (λ (own : List Request). own ++ map (request_of phase) (of_place (get_or lines i d ∷ []) k)) (sorted k below)
    ∙ sym (ap (map (request_of phase)) (filter_more (λ (line : Line). place_of_actor line.actor == k) lines i d inside)
    ∙ map-append (request_of phase) (of_place (take i lines) k) (of_place (get_or lines i d ∷ []) k))
