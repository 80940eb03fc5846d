-- The clients at the beginning of a run, and at its end.
use Rattle.lab_clients.specs.Prelude.{ap, arith, inl, inr, length, List, map, refl, subst, sym, zero-add, ℕ, [], ◌++◌, ◌+◌, ◌∙◌, ◌∷◌, ◌≡◌, ◌≤◌, cases_lt}
use Rattle.lab_clients.specs.Prelude.{false≢true, nat_tests, ints, append-nil, get_or-map, length-map, length-set, none-some, same_Some, AllByRecursion}
use Rattle.lab_clients.specs.Prelude.{flat_map, false, is_none, is_some, None, Option, option_map, pos, replicate, slice_index_or, slice_set, Some, suc, true}
use Rattle.lab_clients.specs.Prelude.{zero, ℤ, ◌<◌, Geometry, Entry, total-append, standing, total, high_frame, MixSeat, key_of, places_of_seat, TableId}
use Rattle.lab_clients.specs.Prelude.{view_of, free_seats, laid_by, laid_by_all, AreFree, seat_at, PlaybackStream, Share, Client, present_of, segments_of, Held}
use Rattle.lab_clients.specs.Prelude.{held_of, held_without, AtPort, ended_client, first_stage, no_client, Session, Setup, AreAtPlaces, HoldsNone, IsHeldBy}
use Rattle.lab_clients.specs.Prelude.{key_of_places, lobby_of, new_held, ring_of_places, share_of, shares_of, AreHeld-new, Holding, Holdings, IsUnlaid}
use Rattle.lab_clients.specs.Prelude.{laid_list, laid_lists, AreEach, AreEach-at, AreEach-length, LabClient, LabClients, OpenClient, AreAt, clients_of}
use Rattle.lab_clients.specs.Prelude.{holding_by, IsClientAt, IsNewCardOf, places_of, AreNewClients, HasEnded, IsNewClient, IsPlacedAll, segments_by}
use Rattle.lab_clients.specs.Prelude.{all_segments-set, client_by, client_in, ended_of, number_of, open_of, AreOfRun, client_among, clients_but, held_but}
use Rattle.lab_clients.specs.Prelude.{IsClosedAt, open_at, client_segments, IsClientPlaced, IsPlacedBy, IsPlacedFor, IsReported, laid_for, open_lists}
use Rattle.lab_clients.specs.Prelude.{place_segments, SeatSegment, worth_all, worth_left, worth_of, worth_all-new, worth_at, worth_of-append, worth_of-worth_at}
use Rattle.std.proofs.lemmas.List.Elements.{All-from_recursion}
use Rattle.sum_table.specs.declared.view.Key.{Key}
use Rattle.lab_lines.specs.Script.{first_frame}
use Rattle.lab_run.specs.LabRun.{all_segments, entries_of, with_numbers}
use Rattle.lab_run.specs.Places.{Place, is_free, is_held_by, left_place}
use Rattle.lab_clients.proofs.OpenAt.{open_at-index, open_at-past}
use Rattle.snd_base.specs.Places as rings

-- ---- the beginning

-- one more client that was never open
pub AreNewClients-more : (number : ℕ) (ds : List LabClient) (d : LabClient) → AreNewClients number ds → IsNewClient (number + length ds) d → AreNewClients number (ds ++ d ∷ [])
AreNewClients-more number [] d are new = (subst (λ n. IsNewClient n d) (omega arith) new, tt)
AreNewClients-more number (first ∷ ds) d are new =
    (are.0, AreNewClients-more (number + 1) ds d are.1 (subst (λ n. IsNewClient n d) (omega arith) new))

-- a client without a stream isn't open
none-open : (d : LabClient) → (client_in d).own ≡ None → open_of d ≡ None
none-open d is = grind (arith, nat_tests)

-- what is so of each client that was never open, beside a client of a run that was never open
AreEach-new : (R : ℕ → LabClient → AtPort × Client → Type 0) (x : AtPort × Client) → ((number : ℕ) (d : LabClient) → IsNewClient number d → R number d x) → (number : ℕ) (ds : List LabClient)
    (setups : List (Option Setup)) → length setups ≡ length ds → AreNewClients number ds → AreEach R number ds (map (λ setup. x) setups)
AreEach-new R x each number [] [] len are = tt
AreEach-new R x each number [] (setup ∷ setups) len are = absurd (omega (arith, len))
AreEach-new R x each number (d ∷ ds) [] len are = absurd (omega (arith, len))
AreEach-new R x each number (d ∷ ds) (setup ∷ setups) len are = (each number d are.0, AreEach-new R x each (number + 1) ds setups (omega (arith, len)) are.1)

-- nobody holds anything
abbrev no_holdings : ℕ → Option Holding
no_holdings n = None

module _ (session : Session) (ring : TableId) (key : Key) (ring_is : key.geometry ≡ session.ring) where
  -- it is a client of a run that was never open
  IsClientAt-new : (number : ℕ) (d : LabClient) → IsNewClient number d → IsClientAt session ring key no_holdings number d (no_client session.ring)
  IsClientAt-new number d new = grind (arith, nat_tests)

-- nothing was placed for clients that were never open, and they have no segments
open_lists-new : (worth : Entry → ℤ) (number : ℕ) (ds : List LabClient) → AreNewClients number ds → worth_all worth (open_lists ds) ≡ pos 0
open_lists-new worth number [] are = refl
open_lists-new worth number (d ∷ ds) are =
    let closed : worth_left worth (laid_for (open_of d)) ≡ pos 0 =
    ap (λ (o : Option OpenClient). worth_left worth (laid_for o)) (none-open d (ap (λ (c : Client). c.own) are.0.client)) in
    let more = open_lists-new worth (number + 1) ds are.1 in
    omega (arith, ints, closed, more)

numbered-none : (ring : Geometry) (number : ℕ) (setups : List (Option Setup))
    → with_numbers (λ (client : AtPort × Client). segments_of client.1) number (map (λ setup. no_client ring) setups) ≡ []
numbered-none ring number [] = refl
numbered-none ring number (setup ∷ setups) = numbered-none ring (number + 1) setups

-- the lists of the seats of a new card's places
none-placed : (places place : ℕ) (laid : List Entry) → slice_index_or (replicate places (Some [])) place None ≡ Some laid → [] ≡ laid
none-placed zero place laid is = absurd (none-some laid is)
none-placed (suc places) zero laid is = same_Some [] laid is
none-placed (suc places) (suc place) laid is = none-placed places place laid is

IsReported-new : (session : Session) (seats : List (Option MixSeat)) (ds : List LabClient) → IsUnlaid seats → length session.clients ≡ length ds → AreNewClients 0 ds
    → IsReported session (laid_lists seats) ds (map (λ setup. no_client session.ring) session.clients)
IsReported-new session seats ds unlaid len new =
    rw unlaid (record {
      history = [];
      free = λ place laid is. subst (λ (es : List Entry). IsPlacedBy session es []) (none-placed (length seats) place laid is) (record { entries = refl; totals = λ f k. refl });
      clients = AreEach-new (IsClientPlaced session []) (no_client session.ring)
          (λ number d one. subst (λ (o : Option OpenClient). IsPlacedFor session [] number o (no_client session.ring).1) (sym (none-open d (ap (λ (c : Client). c.own) one.client))) refl)
          0 ds session.clients len new;
      as_often = λ worth.
          let free = worth_all-new worth (length seats) in
          let open_ones = open_lists-new worth 0 ds new in
          let none : worth_of worth (entries_of session (all_segments (map (λ setup. no_client session.ring) session.clients))) ≡ pos 0 =
          ap (λ segments. worth_of worth (entries_of session segments)) (numbered-none session.ring 0 session.clients) in
          omega (arith, ints, free, open_ones, none);
    })

-- The clients of a new card are those of a run before its first item.
pub AreAt-new : (session : Session) (seat : MixSeat) (sharing : Share) (count : ℕ) (cs : LabClients) → IsNewCardOf session seat sharing → length session.clients ≡ count
    → IsHeldBy (places_of cs) (new_held (places_of_seat seat) (rings.first_frame (key_of seat).geometry)) → key_of_places (places_of cs) ≡ key_of seat → share_of (places_of cs) ≡ sharing
    → (shares_of (places_of cs)).channels ≡ (key_of seat).geometry.channels → IsUnlaid (free_seats (lobby_of (places_of cs))) → AreNewClients 0 (clients_of cs) → length (clients_of cs) ≡ count
    → AreAt session (held_of (first_stage session)) (first_stage session).clients cs
AreAt-new session seat sharing count cs card setups held_by key_is share_is channels_is unlaid new len =
    let ring_is : (key_of_places (places_of cs)).geometry ≡ session.ring = ap (λ (key : Key). key.geometry) key_is ∙ card.ring in
    let held_is : new_held (places_of_seat seat) (rings.first_frame (key_of seat).geometry) ≡ held_of (first_stage session) =
    ap (λ n. new_held n (rings.first_frame (key_of seat).geometry)) card.places
    ∙ ap (new_held session.card.places) (ap rings.first_frame card.ring ∙ sym card.first) in
    record {
      card = record {
        setups = card.setups;
        ring = ring_is;
        share = share_is ∙ card.share_is;
        channels = channels_is ∙ ap (λ (g : Geometry). g.channels) card.ring;
      };
      holdings = no_holdings;
      held_by = subst (IsHeldBy (places_of cs)) held_is held_by;
      are_held = AreHeld-new (share_of (places_of cs)) session.card.places (first_frame session.card) no_holdings (λ n. refl);
      no_others = λ n past. refl;
      each = AreEach-new (IsClientAt session (ring_of_places (places_of cs)) (key_of_places (places_of cs)) no_holdings) (no_client session.ring)
          (IsClientAt-new session (ring_of_places (places_of cs)) (key_of_places (places_of cs)) ring_is) 0 (clients_of cs) session.clients (setups ∙ sym len) new;
      reported = IsReported-new session (free_seats (lobby_of (places_of cs))) (clients_of cs) unlaid (setups ∙ sym len) new;
    }

-- ---- the segments

-- how many they are
pub length-segments_by : (d : LabClient) → length (segments_by d) ≡ length (segments_of (client_in d))
length-segments_by d = length-map (segments_of (client_in d)) (λ segment. (number_of d, segment))

-- ---- clients are closed

-- before any is
pub HasEnded-none : (session : Session) (held : Held) (xs : List (AtPort × Client)) (cs : LabClients) → AreAt session held xs cs → HasEnded session held xs cs
HasEnded-none session held xs cs are =
    record { then_held = held; ys = xs; are = are; segments = refl; each = λ number x. refl; count = refl; places = refl }

-- each client has the segments that it had where one is exchanged that has those of the one before
segments_of-set : (xs : List (AtPort × Client)) (at : ℕ) (y d : AtPort × Client) (number : ℕ) (x : AtPort × Client) → segments_of y.1 ≡ segments_of (slice_index_or xs at d).1
    → segments_of (slice_index_or (slice_set xs at y) number x).1 ≡ segments_of (slice_index_or xs number x).1
segments_of-set [] at y d number x same = refl
segments_of-set (first ∷ xs) zero y d zero x same = same
segments_of-set (first ∷ xs) zero y d (suc number) x same = refl
segments_of-set (first ∷ xs) (suc at) y d zero x same = refl
segments_of-set (first ∷ xs) (suc at) y d (suc number) x same = segments_of-set xs at y d number x same

length-held_but : (session : Session) (held : Held) (xs : List (AtPort × Client)) (number : ℕ) → length (held_but session held xs number).lobby.places ≡ length held.lobby.places
length-held_but session held xs number = by_own (client_among session xs number).1.own
  where
    by_own : (own : Option PlaybackStream) → length (held_without session number (client_among session xs number).0 own held).lobby.places ≡ length held.lobby.places
    by_own None = refl
    by_own (Some c) = length-map held.lobby.places (left_place number (high_frame session.ring (client_among session xs number).0.marks))

-- and after one more is
pub HasEnded-more : (session : Session) (held : Held) (xs : List (AtPort × Client)) (number : ℕ) (cs ds : LabClients)
    → ((at : Held) (ys : List (AtPort × Client)) → AreAt session at ys cs → AreAt session (held_but session at ys number) (clients_but session ys number) ds)
    → HasEnded session held xs cs → HasEnded session held xs ds
HasEnded-more session held xs number cs ds closes has = record {
  then_held = held_but session has.then_held has.ys number;
  ys = clients_but session has.ys number;
  are = closes has.then_held has.ys has.are;
  segments = all_segments-set has.ys number (ended_client session.ring (client_among session has.ys number)) (no_client session.ring)
      (append-nil (segments_of (client_among session has.ys number).1))
      ∙ has.segments;
  each = λ n x.
      segments_of-set has.ys number (ended_client session.ring (client_among session has.ys number)) (no_client session.ring) n x
      (append-nil (segments_of (client_among session has.ys number).1))
      ∙ has.each n x;
  count = length-set has.ys number (ended_client session.ring (client_among session has.ys number)) ∙ has.count;
  places = length-held_but session has.then_held has.ys number ∙ has.places;
}

-- they are those of a run still
pub AreOfRun-ended : (cs ds : LabClients) (run : AreOfRun cs) → HasEnded run.session run.held run.xs ds → AreOfRun ds
AreOfRun-ended cs ds run has = record { session = run.session; held = has.then_held; xs = has.ys; are = has.are }

-- the clients below a number are closed, after one more is, or isn't open
pub AllClosed-more : (cs ds : LabClients) (number : ℕ) → IsClosedAt number (clients_of cs) (clients_of ds) → ((n : ℕ) → n < number → open_at (clients_of cs) n ≡ None)
    → (n : ℕ) → n < number + 1 → open_at (clients_of ds) n ≡ None
AllClosed-more cs ds number closed below n within = grind (arith, nat_tests)

pub AllClosed-still : (cs : LabClients) (number : ℕ) → open_at (clients_of cs) number ≡ None → ((n : ℕ) → n < number → open_at (clients_of cs) n ≡ None)
    → (n : ℕ) → n < number + 1 → open_at (clients_of cs) n ≡ None
AllClosed-still cs number here below n within = grind (arith, nat_tests)

pub AllClosed-past : (cs : LabClients) (number : ℕ) → length (clients_of cs) ≤ number → ((n : ℕ) → n < number → open_at (clients_of cs) n ≡ None) → (n : ℕ) → open_at (clients_of cs) n ≡ None
AllClosed-past cs number all below n = elim (cases_lt n number) [
  | inl within ↦ below n within
  | inr past ↦ open_at-past (clients_of cs) n (omega (arith, all, past))
]

-- ---- the end

-- where nobody is open, nobody holds anything
none-held : (session : Session) (held : Held) (xs : List (AtPort × Client)) (cs : LabClients) (are : AreAt session held xs cs) → ((n : ℕ) → open_at (clients_of cs) n ≡ None)
    → (n : ℕ) → are.holdings n ≡ None
none-held session held xs cs are closed n = elim (cases_lt n (length (clients_of cs))) [
  | inl inside ↦ by_list (clients_of cs) are.each closed inside
  | inr past ↦ are.no_others n (omega (arith, past))
]
  where
    by_list : (ds : List LabClient) → AreEach (IsClientAt session (ring_of_places (places_of cs)) (key_of_places (places_of cs)) are.holdings) 0 ds xs → ((i : ℕ) → open_at ds i ≡ None) → n < length ds
        → are.holdings n ≡ None
    by_list [] each closed inside = absurd (omega (arith, inside))
    by_list (d ∷ ds) each closed inside =
        let one = AreEach-at (IsClientAt session (ring_of_places (places_of cs)) (key_of_places (places_of cs)) are.holdings) 0 (d ∷ ds) xs each n d (no_client session.ring) inside in
        ap are.holdings (sym (zero-add n)) ∙ one.is.holds ∙ ap (holding_by one.is.last) (sym (open_at-index (d ∷ ds) n d inside) ∙ closed n)

-- each place is free where nobody holds one
free-place : (place : Place) → ((n : ℕ) → is_held_by n place.holder ≡ false) → is_free place ≡ true
free-place place nobody = by_holder place.holder nobody
  where
    by_holder : (holder : Option ℕ) → ((n : ℕ) → is_held_by n holder ≡ false) → is_none holder ≡ true
    by_holder None nobody = refl
    by_holder (Some n) nobody = let own : is_held_by n (Some n) ≡ true = grind (arith, nat_tests) in absurd (false≢true (sym (nobody n) ∙ own))

are-free : (seats : List (Option MixSeat)) (places : List Place) → AreAtPlaces seats places → ((n : ℕ) → HoldsNone n places) → AllByRecursion (λ seat. is_some seat ≡ true) seats
are-free [] places at nobody = tt
are-free (seat ∷ seats) [] at nobody = absurd at
are-free (None ∷ seats) (place ∷ places) at nobody = absurd (false≢true (sym at.0 ∙ free-place place (λ n. (nobody n).0)))
are-free (Some s ∷ seats) (place ∷ places) at nobody = (refl, are-free seats places at.1 (λ n. (nobody n).1))

length-at : (seats : List (Option MixSeat)) (places : List Place) → AreAtPlaces seats places → length seats ≡ length places
length-at [] [] at = refl
length-at [] (place ∷ places) at = absurd at
length-at (seat ∷ seats) [] at = absurd at
length-at (seat ∷ seats) (place ∷ places) at = ap suc (length-at seats places at.1)

-- so the lobby can be closed
pub AreFree-closed : (session : Session) (held : Held) (xs : List (AtPort × Client)) (cs : LabClients) → AreAt session held xs cs → ((n : ℕ) → open_at (clients_of cs) n ≡ None)
    → AreFree (free_seats (lobby_of (places_of cs)))
AreFree-closed session held xs cs are closed =
    All-from_recursion (λ seat. is_some seat ≡ true) (free_seats (lobby_of (places_of cs)))
    (are-free (free_seats (lobby_of (places_of cs))) held.lobby.places are.held_by.lobby.places (λ n. are.are_held.none n (none-held session held xs cs are closed n)))

-- ---- what was placed through all places

-- the sum of all lists, and what is left of them
total-laid_by_all : (seats : List (Option MixSeat)) (f k : ℕ)
    → ((place : ℕ) (laid : List Entry) → slice_index_or (laid_lists seats) place None ≡ Some laid → total laid f k ≡ total (standing laid) f k)
    → total (laid_by_all seats) f k ≡ worth_all (worth_at f k) (laid_lists seats)
total-laid_by_all [] f k each = refl
total-laid_by_all (None ∷ seats) f k each =
    let more = total-laid_by_all seats f k (λ place laid is. each (suc place) laid is) in omega (arith, ints, more)
total-laid_by_all (Some s ∷ seats) f k each =
    let sum = total-append (laid_list s) (laid_by_all seats) f k in
    let own = each 0 (laid_list s) refl ∙ sym (worth_of-worth_at f k (standing (laid_list s))) in
    let more = total-laid_by_all seats f k (λ place laid is. each (suc place) laid is) in
    omega (arith, ints, sum, own, more)

worth_of-lists : (worth : Entry → ℤ) (seats : List (Option MixSeat)) → worth_of worth (flat_map standing (map laid_by seats)) ≡ worth_all worth (laid_lists seats)
worth_of-lists worth [] = refl
worth_of-lists worth (None ∷ seats) = let more = worth_of-lists worth seats in omega (arith, ints, more)
worth_of-lists worth (Some s ∷ seats) =
    let more = worth_of-lists worth seats in
    let sum = worth_of-append worth (standing (laid_list s)) (flat_map standing (map laid_by seats)) in
    omega (arith, ints, more, sum)

flat_map-lists : (seats : List (Option MixSeat)) → laid_by_all seats ≡ flat_map (λ es. es) (map laid_by seats)
flat_map-lists [] = refl
flat_map-lists (seat ∷ seats) = ap (λ (more : List Entry). laid_by seat ++ more) (flat_map-lists seats)

open_lists-closed : (worth : Entry → ℤ) (ds : List LabClient) → ((n : ℕ) → open_at ds n ≡ None) → worth_all worth (open_lists ds) ≡ pos 0
open_lists-closed worth [] closed = refl
open_lists-closed worth (d ∷ ds) closed =
    let here : worth_left worth (laid_for (open_of d)) ≡ pos 0 = ap (λ (o : Option OpenClient). worth_left worth (laid_for o)) (closed 0) in
    let more = open_lists-closed worth ds (λ n. closed (suc n)) in
    omega (arith, ints, here, more)

-- the segments of a client that isn't open
client_segments-closed : (session : Session) (ring : TableId) (key : Key) (holdings : Holdings) (history : List SeatSegment) (ds : List LabClient) (ys : List (AtPort × Client)) (i : ℕ)
    (y : AtPort × Client) → AreEach (IsClientAt session ring key holdings) 0 ds ys → AreEach (IsClientPlaced session history) 0 ds ys → ((n : ℕ) → open_at ds n ≡ None) → i < length ds
    → segments_of (slice_index_or ys i y).1 ≡ client_segments i history
client_segments-closed session ring key holdings history [] ys i y are placed closed inside = absurd (omega (arith, inside))
client_segments-closed session ring key holdings history (d ∷ ds) ys i y are placed closed inside =
    let x = slice_index_or ys i y in
    let e = slice_index_or (d ∷ ds) i d in
    let none : open_of e ≡ None = sym (open_at-index (d ∷ ds) i d inside) ∙ closed i in
    let one = AreEach-at (IsClientAt session ring key holdings) 0 (d ∷ ds) ys are i d y inside in
    let own : x.1.own ≡ None = ap (λ (c : Client). c.own) (sym one.is.client) ∙ ap (λ (o : Option OpenClient). (client_by (ended_of e) o).own) none in
    let ended : x.1.ended ≡ client_segments (0 + i) history =
    subst (λ (o : Option OpenClient). IsPlacedFor session history (0 + i) o x.1) none (AreEach-at (IsClientPlaced session history) 0 (d ∷ ds) ys placed i d y inside) in
    ap (λ (stream : Option PlaybackStream). x.1.ended ++ present_of stream) own ∙ append-nil x.1.ended ∙ ended ∙ ap (λ n. client_segments n history) (zero-add i)

-- the clients are closed, and the seats of all places were joined
module _ (session : Session) (held : Held) (xs : List (AtPort × Client)) (cs : LabClients) (seat : MixSeat) (has : HasEnded session held xs cs)
    (closed : (n : ℕ) → open_at (clients_of cs) n ≡ None) (laid : (view_of seat).laid ≡ laid_by_all (free_seats (lobby_of (places_of cs)))) where
  abbrev seats : List (Option MixSeat)
  seats = free_seats (lobby_of (places_of cs))

  abbrev reported : IsReported session (laid_lists seats) (clients_of cs) has.ys
  reported = has.are.reported

  -- all that is left in the lists
  left-ended : (worth : Entry → ℤ) → worth_all worth (laid_lists seats) ≡ worth_of worth (entries_of session (all_segments xs))
  left-ended worth =
      let none = open_lists-closed worth (clients_of cs) closed in
      let said = reported.as_often worth in
      let sums : worth_all worth (laid_lists seats) ≡ worth_of worth (entries_of session (all_segments has.ys)) = omega (arith, ints, none, said) in
      sums ∙ ap (λ segments. worth_of worth (entries_of session segments)) has.segments

  -- a place's list
  placed-at : (place : ℕ) → place < length seats → (o : Option MixSeat) → seat_at seats place ≡ o → is_some o ≡ true
      → IsPlacedBy session (slice_index_or (map laid_by seats) place []) (place_segments place reported.history)
  placed-at place inside None is some = absurd (cc)
  placed-at place inside (Some s) is some =
      subst (λ (es : List Entry). IsPlacedBy session es (place_segments place reported.history)) (sym (get_or-map laid_by seats place None [] inside ∙ ap laid_by is))
      (reported.free place (laid_list s) (get_or-map (option_map laid_list) seats place None None inside ∙ ap (option_map laid_list) is))

  pub IsPlacedAll-ended : IsPlacedAll session xs (view_of seat).laid
  IsPlacedAll-ended = record {
    lists = map laid_by seats;
    joined = laid ∙ flat_map-lists seats;
    history = reported.history;
    places = λ place inside.
        let within : place < length seats = let len = length-map seats laid_by in omega (arith, inside, len) in
        placed-at place within (seat_at seats place) refl (AreFree-closed session has.then_held has.ys cs has.are closed place None within);
    clients = λ number x inside.
        sym (has.each number x)
        ∙ client_segments-closed session (ring_of_places (places_of cs)) (key_of_places (places_of cs)) has.are.holdings reported.history (clients_of cs) has.ys number x has.are.each
        reported.clients closed
        (let count = has.count in
        let len = AreEach-length (IsClientPlaced session reported.history) 0 (clients_of cs) has.ys reported.clients in omega (arith, inside, count, len));
    as_often = λ worth. worth_of-lists worth seats ∙ left-ended worth;
    totals = λ f k.
        ap (λ (es : List Entry). total es f k) laid
        ∙ (total-laid_by_all seats f k (λ place es is. (reported.free place es is).totals f k)
        ∙ (left-ended (worth_at f k) ∙ worth_of-worth_at f k (entries_of session (all_segments xs))));
  }

pub places-ended : (session : Session) (held : Held) (xs : List (AtPort × Client)) (cs : LabClients) → HasEnded session held xs cs
    → length (free_seats (lobby_of (places_of cs))) ≡ length held.lobby.places
places-ended session held xs cs has = length-at (free_seats (lobby_of (places_of cs))) has.then_held.lobby.places has.are.held_by.lobby.places ∙ has.places
