-- A seat is split into seats of one place each.
use Rattle.lobby.specs.Prelude.{ap, arith, inl, inr, length, List, None, Option, refl, Some, subst, sym, ℕ, [], ◌++◌, ◌+◌, ◌-◌, ◌<◌, ◌∙◌, ◌∷◌, ◌≡◌, cases_lt}
use Rattle.lobby.specs.Prelude.{get_or_append_left, get_or_push, length-append, none-some, same_Some, MixSeat, View, part_of, with_places, without_places}
use Rattle.lobby.specs.Prelude.{HasSplit, KeepsSeat, key_of, places_of_seat, ring_of, view_of, IsSplitSeat, ArePlaces, IsPlace, seat_at}
use Rattle.std.proofs.Math.ListN.{get_or-eq_default}

-- so many seats of one place were split off
pub record IsSplitting (whole rest : MixSeat) (seats : List (Option MixSeat)) (n : ℕ) : Type 0 where
  pub stays : KeepsSeat whole rest
  pub view : view_of rest ≡ without_places (view_of whole) n
  pub laid : (view_of rest).laid ≡ []
  pub part : part_of (view_of rest) 1 ≡ part_of (view_of whole) 1
  pub places : places_of_seat rest + n ≡ places_of_seat whole
  pub count : length seats ≡ n
  pub each : (place : ℕ) → place < n → (s : MixSeat) × (seat_at seats place ≡ Some s) × IsSplitSeat whole place s

without-none : (v : View) → without_places v 0 ≡ v
without-none v = let same : v.places - 0 ≡ v.places = omega arith in ap (λ (n : ℕ). with_places v n) same

without-more : (v : View) (n : ℕ) → without_places (without_places v n) 1 ≡ without_places v (n + 1)
without-more v n = let same : v.places - n - 1 ≡ v.places - (n + 1) = omega arith in ap (λ (k : ℕ). with_places v k) same

KeepsSeat-joined : (s t u : MixSeat) → KeepsSeat s t → KeepsSeat t u → KeepsSeat s u
KeepsSeat-joined s t u first then = record {
  ring = then.ring ∙ first.ring;
  key = then.key ∙ first.key;
  member = then.member ∙ first.member;
  marks = then.marks ∙ first.marks;
  seen = then.seen ∙ first.seen;
  last = then.last ∙ first.last;
}

-- none yet
pub IsSplitting-none : (whole : MixSeat) → (view_of whole).laid ≡ [] → IsSplitting whole whole [] 0
IsSplitting-none whole nothing = record {
  stays = record { ring = refl; key = refl; member = refl; marks = refl; seen = refl; last = refl };
  view = sym (without-none (view_of whole));
  laid = nothing;
  part = refl;
  places = omega arith;
  count = refl;
  each = λ place below. absurd (omega arith);
}

-- one more
pub IsSplitting-more : (whole rest after one : MixSeat) (seats : List (Option MixSeat)) (n : ℕ) → IsSplitting whole rest seats n → HasSplit rest after one 1 n
    → IsSplitting whole after (seats ++ Some one ∷ []) (n + 1)
IsSplitting-more whole rest after one seats n is split = record {
  stays = KeepsSeat-joined whole rest after is.stays split.stays;
  view = split.view ∙ (ap (λ (v : View). without_places v 1) is.view ∙ without-more (view_of whole) n);
  laid = ap (λ (v : View). v.laid) split.view ∙ is.laid;
  part = ap (λ v. part_of v 1) split.view ∙ is.part;
  places = omega (arith, split.places, is.places);
  count = length-append seats (Some one ∷ []) ∙ ap (λ k. k + 1) is.count;
  each = λ place below. elim (cases_lt place n) [
    | inl before ↦
        let earlier = is.each place before in
        (earlier.0, get_or_append_left seats (Some one ∷ []) None place (subst (λ k. place < k) (sym is.count) before) ∙ earlier.1, earlier.2)
    | inr not_before ↦
        let here : place ≡ n = omega arith in (
          one,
          get_or_push seats (Some one) None place (is.count ∙ sym here),
          subst (λ i. IsSplitSeat whole i one) (sym here) (record {
            is_place = record { of_ring = split.new_ring ∙ is.stays.ring; of_key = split.new_key ∙ is.stays.key; member = split.new_member; places = split.new_places };
            view = split.new_view ∙ is.part;
            seen = split.new_seen ∙ is.stays.seen;
          }),
        )
  ];
}

-- each of them is the seat of its place
pub ArePlaces-split : (whole rest : MixSeat) (seats : List (Option MixSeat)) (n : ℕ) → IsSplitting whole rest seats n → ArePlaces (ring_of rest) (key_of rest) seats
ArePlaces-split whole rest seats n is place s at = elim (cases_lt place n) [
  | inl before ↦
      let found = is.each place before in
      let p : IsPlace (ring_of whole) (key_of whole) place found.0 = found.2.is_place in
      subst (IsPlace (ring_of rest) (key_of rest) place) (same_Some found.0 s (sym found.1 ∙ at))
      (record { of_ring = p.of_ring ∙ sym is.stays.ring; of_key = p.of_key ∙ sym is.stays.key; member = p.member; places = p.places })
  | inr past ↦ absurd (none-some s (sym (get_or-eq_default seats None (omega (arith, is.count))) ∙ at))
]
