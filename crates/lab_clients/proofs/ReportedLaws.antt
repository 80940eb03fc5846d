-- What the seats placed that an opening and a closing hand out and take back is what the segments say, as before.
use Rattle.lab_clients.specs.Prelude.{ap, append_assoc, arith, inl, inr, length, List, map, subst, sym, zero-add, ℕ, [], ◌++◌, ◌+◌, ◌∙◌, ◌∷◌, ◌≡◌, cases_eq}
use Rattle.lab_clients.specs.Prelude.{append-nil, get_or-set_other, get_or-set_same, length-map, none-some, same_Some, IfSome, None, Option, option_map}
use Rattle.lab_clients.specs.Prelude.{slice_index_or, slice_set, Some, ◌<◌, ◌≢◌, Segment, Entry, MixSeat, member_of, PlaybackStream, Client, present_of}
use Rattle.lab_clients.specs.Prelude.{segments_of, stretch_of, with_member, AtPort, Session, laid_list, laid_lists, AreEach-set_rest, AreEach, AreEach-at}
use Rattle.lab_clients.specs.Prelude.{LabClient, OpenClient, IsAsOften, IsLaidWith, open_of, stream_of, client_segments, IsClientPlaced, IsPlacedBy}
use Rattle.lab_clients.specs.Prelude.{IsPlacedFor, IsPlacedOpen, IsReported, place_segments, SeatSegment, with_number, client_segments-more}
use Rattle.lab_clients.specs.Prelude.{client_segments-other, place_segments-more, place_segments-other, seat_segments}

-- two relations of the items of two lists
AreEach-both : {X Y : Type 0} (R T : ℕ → X → Y → Type 0) (number : ℕ) (xs : List X) (ys : List Y) → AreEach R number xs ys → AreEach T number xs ys
    → AreEach (λ n x y. R n x y × T n x y) number xs ys
AreEach-both R T number [] [] one two = tt
AreEach-both R T number (x ∷ xs) (y ∷ ys) one two = ((one.0, two.0), AreEach-both R T (number + 1) xs ys one.1 two.1)
AreEach-both R T number [] (y ∷ ys) one two = absurd one
AreEach-both R T number (x ∷ xs) [] one two = absurd one

-- what was placed for the client of a number, which is open or not
pub IsPlacedFor-at : (session : Session) (history : List SeatSegment) (ds : List LabClient) (xs : List (AtPort × Client)) (number : ℕ) (d : LabClient) (x : AtPort × Client)
    → AreEach (IsClientPlaced session history) 0 ds xs → number < length ds → d ≡ slice_index_or ds number d → (own : Option OpenClient) → open_of d ≡ own
    → IsPlacedFor session history number own (slice_index_or xs number x).1
IsPlacedFor-at session history ds xs number d x are inside is own open_is =
    rw (sym open_is, is) (subst (λ (n : ℕ). IsClientPlaced session history n (slice_index_or ds number d) (slice_index_or xs number x)) (zero-add number)
    (AreEach-at (IsClientPlaced session history) 0 ds xs are number d x inside))

-- ---- the lists of seats

module _ (fewer : List (Option MixSeat)) (seat : MixSeat) (more : List (Option MixSeat)) (with_it : IsLaidWith fewer seat more) where
  -- the one with the seat has that in its place, and the others as the one without it
  laid_lists-own : slice_index_or (laid_lists more) (member_of seat) None ≡ Some (laid_list seat)
  laid_lists-own =
      let number = with_it.number in
      let len = length-map fewer (option_map laid_list) in
      ap (λ lists. slice_index_or lists (member_of seat) None) with_it.with_it
      ∙ get_or-set_same (laid_lists fewer) (member_of seat) (Some (laid_list seat)) None (omega (arith, number, len))

  laid_lists-other : (place : ℕ) → place ≢ member_of seat → slice_index_or (laid_lists more) place None ≡ slice_index_or (laid_lists fewer) place None
  laid_lists-other place differ =
      ap (λ lists. slice_index_or lists place None) with_it.with_it ∙ get_or-set_other (laid_lists fewer) (member_of seat) place (Some (laid_list seat)) None differ

-- ---- an opening

-- the seat of a client that is opened placed what the segments say that were made through it before
IsPlacedOpen-new : (session : Session) (history : List SeatSegment) (number : ℕ) (o : OpenClient) (seat : MixSeat) (client : Client) → o.seat ≡ seat → stretch_of (stream_of o) ≡ []
    → client.ended ≡ client_segments number history → IsPlacedBy session (laid_list seat) (place_segments (member_of seat) history) → IsPlacedOpen session history number o client
IsPlacedOpen-new session history number o seat client seat_is none ended_are placed = record {
  stretches = [];
  ended_are = ended_are ∙ sym (append-nil (client_segments number history));
  placed = rw (seat_is, none, append-nil) placed;
}

-- A seat was handed out to a client that wasn't open.
pub IsReported-opened : (session : Session) (fewer : List (Option MixSeat)) (seat : MixSeat) (more : List (Option MixSeat)) → IsLaidWith fewer seat more → (ds : List LabClient) (number : ℕ)
    (e : LabClient) (o : OpenClient) (xs : List (AtPort × Client)) (y : AtPort × Client) → (reported : IsReported session (laid_lists more) ds xs) → open_of e ≡ Some o → o.seat ≡ seat
    → stretch_of (stream_of o) ≡ [] → y.1.ended ≡ client_segments number reported.history → IsAsOften session fewer (slice_set ds number e) (slice_set xs number y)
    → IsReported session (laid_lists fewer) (slice_set ds number e) (slice_set xs number y)
IsReported-opened session fewer seat more with_it ds number e o xs y reported open_is seat_is none ended_are as_often = record {
  history = reported.history;
  free = λ place laid is. elim (cases_eq place (member_of seat)) [
    | inl same ↦ absurd (none-some laid (sym with_it.out ∙ (ap (λ (n : ℕ). slice_index_or (laid_lists fewer) n None) (sym same) ∙ is)))
    | inr differ ↦ reported.free place laid (laid_lists-other fewer seat more with_it place differ ∙ is)
  ];
  clients = AreEach-set_rest (IsClientPlaced session reported.history) (IsClientPlaced session reported.history) 0 number ds xs e y (λ n a b differ is. is)
      (subst (λ (n : ℕ). IsClientPlaced session reported.history n e y) (omega arith)
      (subst (λ (own : Option OpenClient). IsPlacedFor session reported.history number own y.1) (sym open_is)
      (IsPlacedOpen-new session reported.history number o seat y.1 seat_is none ended_are
      (reported.free (member_of seat) (laid_list seat) (laid_lists-own fewer seat more with_it)))))
      reported.clients;
  as_often = as_often;
}

-- ---- a closing

-- another client isn't at a place
abbrev pub IsApart : ℕ → ℕ → ℕ → LabClient → Type 0
IsApart number place n d = n ≢ number → IfSome (open_of d) (λ (o : OpenClient). place ≢ member_of o.seat)

-- the others' seats placed what they placed, and their segments are what they were
IsPlacedFor-other : (session : Session) (history : List SeatSegment) (place number : ℕ) (segments : List Segment) (n : ℕ) (own : Option OpenClient) (client : Client) → number ≢ n
    → IfSome own (λ (o : OpenClient). place ≢ member_of o.seat) → IsPlacedFor session history n own client
    → IsPlacedFor session (history ++ seat_segments place number segments) n own client
IsPlacedFor-other session history place number segments n None client differ apart is = is ∙ sym (client_segments-other place number history segments n differ)
IsPlacedFor-other session history place number segments n (Some o) client differ apart is = record {
  stretches = is.stretches;
  ended_are = is.ended_are ∙ ap (λ (own : List Segment). own ++ is.stretches) (sym (client_segments-other place number history segments n differ));
  placed = subst (λ (others : List (ℕ × Segment)). IsPlacedBy session (laid_list o.seat) (others ++ map (with_number n) (is.stretches ++ stretch_of (stream_of o))))
      (sym (place_segments-other place number history segments (member_of o.seat) apart)) is.placed;
}

-- The seat of a client that was open came back.
module _ (session : Session) (fewer : List (Option MixSeat)) (seat : MixSeat) (more : List (Option MixSeat)) (with_it : IsLaidWith fewer seat more) (ds : List LabClient) (number : ℕ)
    (e : LabClient) (o : OpenClient) (k : ℕ) (xs : List (AtPort × Client)) (x y : AtPort × Client) (reported : IsReported session (laid_lists fewer) ds xs)
    (was : IsPlacedOpen session reported.history number o x.1) (own_is : x.1.own ≡ Some (with_member k (stream_of o))) (seat_is : seat ≡ o.seat) (closed : open_of e ≡ None)
    (ended_are : y.1.ended ≡ segments_of x.1) where
  -- the segments of its opening
  abbrev segments : List Segment
  segments = was.stretches ++ stretch_of (stream_of o)

  abbrev then_history : List SeatSegment
  then_history = reported.history ++ seat_segments (member_of seat) number segments

  IsPlacedBy-back : IsPlacedBy session (laid_list seat) (place_segments (member_of seat) then_history)
  IsPlacedBy-back = rw (place_segments-more (member_of seat) number reported.history segments, seat_is) was.placed

  ended-is : y.1.ended ≡ client_segments number then_history
  ended-is =
      ended_are
      ∙ (ap (λ (own : Option PlaybackStream). x.1.ended ++ present_of own) own_is
      ∙ (ap (λ (ended : List Segment). ended ++ stretch_of (stream_of o)) was.ended_are
      ∙ (append_assoc (client_segments number reported.history) was.stretches (stretch_of (stream_of o))
      ∙ sym (client_segments-more (member_of seat) number reported.history segments))))

  free-back : (place : ℕ) (laid : List Entry) → slice_index_or (laid_lists more) place None ≡ Some laid → IsPlacedBy session laid (place_segments place then_history)
  free-back place laid is = elim (cases_eq place (member_of seat)) [
    | inl same ↦
        let own : laid_list seat ≡ laid = same_Some (laid_list seat) laid
        (sym (laid_lists-own fewer seat more with_it) ∙ (ap (λ (n : ℕ). slice_index_or (laid_lists more) n None) (sym same) ∙ is)) in
        rw (same, sym own) IsPlacedBy-back
    | inr differ ↦
        subst (IsPlacedBy session laid) (sym (place_segments-other (member_of seat) number reported.history segments place (λ same. differ (sym same))))
        (reported.free place laid (sym (laid_lists-other fewer seat more with_it place differ) ∙ is))
  ]

  pub IsReported-closed : AreEach (λ n a b. IsApart number (member_of seat) n a) 0 ds xs → IsAsOften session more (slice_set ds number e) (slice_set xs number y)
      → IsReported session (laid_lists more) (slice_set ds number e) (slice_set xs number y)
  IsReported-closed apart as_often = record {
    history = then_history;
    free = free-back;
    clients = AreEach-set_rest (λ n a b. IsClientPlaced session reported.history n a b × IsApart number (member_of seat) n a) (IsClientPlaced session then_history) 0 number ds xs e y
        (λ n a b differ is. IsPlacedFor-other session reported.history (member_of seat) number segments n (open_of a) b.1 (λ same. differ (sym same ∙ omega arith))
        (is.1 (λ same. differ (same ∙ omega arith))) is.0)
        (subst (λ (n : ℕ). IsClientPlaced session then_history n e y) (omega arith)
        (subst (λ (own : Option OpenClient). IsPlacedFor session then_history number own y.1) (sym closed) ended-is))
        (AreEach-both (IsClientPlaced session reported.history) (λ n a b. IsApart number (member_of seat) n a) 0 ds xs reported.clients apart);
    as_often = as_often;
  }
