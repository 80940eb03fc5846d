-- The seats of all places are joined, one after the other.
use Rattle.lobby.specs.Prelude.{ap, append_assoc, arith, get_or, is_some, length, List, None, Option, refl, Some, subst, sym, true, [], ◌++◌, ◌∙◌, ◌∷◌, ◌≡◌}
use Rattle.lobby.specs.Prelude.{get_or-append_seam, append-nil, length-append, nil_from_length, MixSeat, View, HasJoined, OneRing, key_of, places_of_seat}
use Rattle.lobby.specs.Prelude.{ring_of, view_of, Lobby, base_of, free_seats, JoinsAll, JoinsEach, key_of_lobby, laid_by, laid_by_all, ring_of_lobby, AreFree}
use Rattle.lobby.specs.Prelude.{IsPlace, seat_at}
use Rattle.std.proofs.lemmas.Grind.{flat_map-append}

-- some of the seats were joined, and the others are left
pub record IsJoining (l : Lobby) (whole : MixSeat) (done left : List (Option MixSeat)) : Type 0 where
  pub parts : done ++ left ≡ free_seats l
  pub joins : JoinsEach (base_of l) done whole
  pub one_ring : OneRing (ring_of whole) (key_of whole) (ring_of_lobby l) (key_of_lobby l)
  pub places : places_of_seat whole ≡ length done
  pub laid : (view_of whole).laid ≡ laid_by_all done

-- one seat more is joined
JoinsEach-more : (a b c : MixSeat) (done : List (Option MixSeat)) (o : Option MixSeat) (s : MixSeat) → JoinsEach a done b → o ≡ Some s → HasJoined b c s
    → JoinsEach a (done ++ o ∷ []) c
JoinsEach-more a b c [] o s is same join =
    subst (λ (x : Option MixSeat). JoinsEach a (x ∷ []) c) (sym same) (c, subst (λ (w : MixSeat). HasJoined w c s) is join, refl)
JoinsEach-more a b c (None ∷ done) o s is same join = JoinsEach-more a b c done o s is same join
JoinsEach-more a b c (Some t ∷ done) o s is same join = (is.0, is.1, JoinsEach-more is.0 b c done o s is.2 same join)

laid_by_all-more : (done : List (Option MixSeat)) (s : MixSeat) → laid_by_all (done ++ Some s ∷ []) ≡ laid_by_all done ++ (view_of s).laid
laid_by_all-more done s = flat_map-append laid_by done (Some s ∷ []) ∙ ap (λ es. laid_by_all done ++ es) (append-nil (view_of s).laid)

-- the seat that is joined next is that of its place
pub next_place : (l : Lobby) (whole : MixSeat) (done left rest : List (Option MixSeat)) (o : Option MixSeat) (s : MixSeat)
    → IsJoining l whole done left → left ≡ o ∷ rest → o ≡ Some s → IsPlace (ring_of_lobby l) (key_of_lobby l) (length done) s
next_place l whole done left rest o s is next same =
    let items : done ++ o ∷ rest ≡ free_seats l = ap (λ xs. done ++ xs) (sym next) ∙ is.parts in
    let at : seat_at (free_seats l) (length done) ≡ Some s = ap (λ xs. get_or xs (length done) None) (sym items) ∙ (get_or-append_seam done o rest None ∙ same) in
    l.placed (length done) s at

-- the seat that is joined next is that of a free place
middle_free : (done rest : List (Option MixSeat)) (o : Option MixSeat) → AreFree (done ++ o ∷ rest) → is_some o ≡ true
middle_free done rest o free = sym (ap is_some (get_or-append_seam done o rest None)) ∙ free (length done) None (omega (arith, length-append done (o ∷ rest)))

pub next_free : (l : Lobby) (whole : MixSeat) (done left rest : List (Option MixSeat)) (o : Option MixSeat) → AreFree (free_seats l) → IsJoining l whole done left → left ≡ o ∷ rest
    → is_some o ≡ true
next_free l whole done left rest o free is next = middle_free done rest o (subst AreFree (sym is.parts ∙ ap (λ xs. done ++ xs) next) free)

pub IsJoining-more : (l : Lobby) (whole joined : MixSeat) (done left rest : List (Option MixSeat)) (o : Option MixSeat) (s : MixSeat)
    → IsJoining l whole done left → left ≡ o ∷ rest → o ≡ Some s → HasJoined whole joined s → IsJoining l joined (done ++ o ∷ []) rest
IsJoining-more l whole joined done left rest o s is next same join =
    let place = next_place l whole done left rest o s is next same in
    record {
      joins = JoinsEach-more (base_of l) whole joined done o s is.joins same join;
      parts = append_assoc done (o ∷ []) rest ∙ (ap (λ xs. done ++ xs) (sym next) ∙ is.parts);
      one_ring = (join.ring ∙ is.one_ring.0, join.key ∙ is.one_ring.1);
      places = join.places ∙ omega (arith, is.places, place.places, length-append done (o ∷ []));
      laid =
          ap (λ (v : View). v.laid) join.view
          ∙ (ap (λ es. es ++ (view_of s).laid) is.laid ∙ (sym (laid_by_all-more done s) ∙ ap (λ x. laid_by_all (done ++ x ∷ [])) (sym same)));
    }

pub all_joined : (l : Lobby) (whole : MixSeat) (done left : List (Option MixSeat)) → IsJoining l whole done left → length left ≡ 0 → JoinsAll l whole
all_joined l whole done left is none =
    let same : done ≡ free_seats l = sym (append-nil done) ∙ (ap (λ xs. done ++ xs) (sym (nil_from_length left none)) ∙ is.parts) in
    record { joins = subst (λ (xs : List (Option MixSeat)). JoinsEach (base_of l) xs whole) same is.joins; one_ring = is.one_ring; places = is.places ∙ ap length same; laid = is.laid ∙ ap laid_by_all same }
