-- Lists of clients in which one is exchanged: what all others are and hold stays, and so does what was placed for them, and their segments.
use Rattle.std.specs.Prelude.{◌≡◌, ◌≢◌, ℕ, zero, suc, ◌+◌, ◌≤◌, ◌<◌, ◌+ℤ◌, ℤ, pos, List, [], ◌∷◌, ◌++◌, map, length, nat_eq, if◌then◌else◌, Bool, true, false, Option, None, Some, option_map, slice_index_or, slice_set}
use Rattle.std.proofs.Common.{refl, sym, ◌∙◌, ap, subst, arith}
use Rattle.std.proofs.lemmas.Bool.Decides.{nat_tests}
use Rattle.std.proofs.lemmas.Int.{ints}
use Rattle.std.proofs.lemmas.List.{length-map, length-set}
use Rattle.mix_core.specs.declared.port.Entry.{Entry}
use Rattle.mix_core.specs.Laid.{standing}
use Rattle.sum_table.specs.declared.seats.mix.MixSeat.{MixSeat}
use Rattle.sum_table.specs.declared.view.Key.{Key}
use Rattle.sum_table.specs.Seats.{TableId, member_of}
use Rattle.lobby.specs.Lobbies.{free_seats}
use Rattle.lab_run.specs.Client.{Client, segments_of}
use Rattle.lab_run.specs.Items.{Held}
use Rattle.lab_run.specs.LabRun.{all_segments, entries_of, with_numbers}
use Rattle.lab_run.specs.Rules.{AtPort}
use Rattle.lab_run.specs.Stage.{Session}
use Rattle.lab_places.specs.declared.places.Places.{Places}
use Rattle.lab_places.specs.Held.{IsHeldBy, IsSameCard, key_of_places, lobby_of, ring_of_places, share_of}
pub use Rattle.lab_places.specs.Laid.{IsLaidAlike, IsLaidWith}
use Rattle.lab_places.specs.Laid.{laid_list, laid_lists}
use Rattle.lab_places.specs.Holdings.{AreHeld, ChangesAt, Holding, Holdings}
use Rattle.lab_actors.specs.Walks.{AreEach}
use Rattle.lab_actors.specs.EachLaws.{AreEach-set_rest}
use Rattle.lab_clients.specs.declared.client.LabClient.{LabClient}
use Rattle.lab_clients.specs.OneClient.{open_of}
use Rattle.lab_clients.specs.declared.clients.LabClients.{LabClients}
use Rattle.lab_clients.specs.AtStage.{AreIn, IsCardOf, IsClientAt, IsClientIn, clients_of, places_of}
use Rattle.lab_clients.specs.Placed.{IsReported, laid_for, open_lists, worth_all, worth_left, worth_of}
use Rattle.lab_clients.specs.PlacedLaws.{worth_all-set}

-- ---- what was placed, and the segments

-- one seat with others
pub worth_all-with : (worth : Entry → ℤ) (fewer : List (Option MixSeat)) (s : MixSeat) (more : List (Option MixSeat)) → IsLaidWith fewer s more
    → worth_all worth (laid_lists more) ≡ worth_all worth (laid_lists fewer) +ℤ worth_of worth (standing (laid_list s))
worth_all-with worth fewer s more is =
    let number = is.number in
    let len = length-map fewer (option_map laid_list) in
    let exchanged = worth_all-set worth (laid_lists fewer) (member_of s) (Some (laid_list s)) (omega (arith, number, len)) in
    let none : worth_left worth (slice_index_or (laid_lists fewer) (member_of s) None) ≡ pos 0 = ap (worth_left worth) is.out in
    let whole = ap (worth_all worth) is.with_it in
    omega (arith, ints, exchanged, none, whole)

-- a client is exchanged
pub open_lists-set : (worth : Entry → ℤ) (ds : List LabClient) (at : ℕ) (d e : LabClient) → at < length ds
    → worth_all worth (open_lists (slice_set ds at e)) +ℤ worth_left worth (laid_for (open_of (slice_index_or ds at d)))
    ≡ worth_all worth (open_lists ds) +ℤ worth_left worth (laid_for (open_of e))
open_lists-set worth [] at d e inside = absurd (omega (arith, inside))
open_lists-set worth (first ∷ ds) zero d e inside = omega (arith, ints)
open_lists-set worth (first ∷ ds) (suc at) d e inside =
    let more = open_lists-set worth ds at d e (omega (arith, inside)) in omega (arith, ints, more)

-- one that has as much as the one before
pub numbered-set : {X Y : Type 0} (of : X → List Y) (number at : ℕ) (xs : List X) (x d : X) → of x ≡ of (slice_index_or xs at d)
    → with_numbers of number (slice_set xs at x) ≡ with_numbers of number xs
numbered-set of number at [] x d same = refl
numbered-set of number zero (first ∷ xs) x d same = ap (λ more. map (λ y. (number, y)) more ++ with_numbers of (number + 1) xs) same
numbered-set of number (suc at) (first ∷ xs) x d same =
    ap (λ more. map (λ y. (number, y)) (of first) ++ more) (numbered-set of (number + 1) at xs x d same)

-- the segments of all clients stay where the one has those that it had
pub all_segments-set : (xs : List (AtPort × Client)) (at : ℕ) (x d : AtPort × Client) → segments_of x.1 ≡ segments_of (slice_index_or xs at d).1
    → all_segments (slice_set xs at x) ≡ all_segments xs
all_segments-set xs at x d same = numbered-set (λ (client : AtPort × Client). segments_of client.1) 0 at xs x d same

-- what the seats of free places gained by an exchange, the one client's lost, and the other way round
abbrev pub MovesLaid : List (Option MixSeat) → LabClient → List (Option MixSeat)
    → LabClient → Type 0
MovesLaid seats d after e =
    (worth : Entry → ℤ)
    → worth_all worth (laid_lists after) +ℤ worth_left worth (laid_for (open_of e))
    ≡ worth_all worth (laid_lists seats) +ℤ worth_left worth (laid_for (open_of d))

-- all seats together are still worth what the segments are
abbrev pub IsAsOften : Session → List (Option MixSeat) → List LabClient
    → List (AtPort × Client) → Type 0
IsAsOften session seats ds xs =
    (worth : Entry → ℤ) → worth_all worth (laid_lists seats) +ℤ worth_all worth (open_lists ds)
    ≡ worth_of worth (entries_of session (all_segments xs))

pub IsAsOften-exchanged : (session : Session) (seats after : List (Option MixSeat)) (ds : List LabClient) (at : ℕ) (d e : LabClient) (xs : List (AtPort × Client)) (x y : AtPort × Client)
    → at < length ds → segments_of y.1 ≡ segments_of (slice_index_or xs at x).1 → MovesLaid seats (slice_index_or ds at d) after e → IsAsOften session seats ds xs
    → IsAsOften session after (slice_set ds at e) (slice_set xs at y)
IsAsOften-exchanged session seats after ds at d e xs x y inside same moves as_often worth =
    let clients = open_lists-set worth ds at d e inside in
    let places = moves worth in
    let sums : worth_all worth (laid_lists after) +ℤ worth_all worth (open_lists (slice_set ds at e)) ≡ worth_all worth (laid_lists seats) +ℤ worth_all worth (open_lists ds) =
    omega (arith, ints, clients, places) in
    sums ∙ (as_often worth ∙ ap (λ segments. worth_of worth (entries_of session segments)) (sym (all_segments-set xs at y x same)))

-- ---- what clients hold

-- one client holds something else
abbrev pub with_holding : ℕ → Option Holding → Holdings → ℕ → Option Holding
with_holding client now holdings n = if nat_eq client n then now else holdings n

pub ChangesAt-with_holding : (client : ℕ) (now : Option Holding) (holdings : Holdings) → ChangesAt client holdings (with_holding client now holdings) now
ChangesAt-with_holding client now holdings = record {
  own = ap (λ (b : Bool). if b then now else holdings client) (own-test client);
  others = λ n differ. ap (λ (b : Bool). if b then now else holdings n) (other-test n differ);
}
  where
    own-test : (n : ℕ) → nat_eq n n ≡ true
    own-test n = grind (arith, nat_tests)

    other-test : (n : ℕ) → client ≢ n → nat_eq client n ≡ false
    other-test n differ = grind (arith, nat_tests)

-- a client is what it was where it holds what it held
pub IsClientIn-holding : (session : Session) (ring : TableId) (key : Key) (holdings after : Holdings) (n : ℕ) (d : LabClient) (x : AtPort × Client) → after n ≡ holdings n
    → IsClientIn session ring key holdings n d x → IsClientIn session ring key after n d x
IsClientIn-holding session ring key holdings after n d x same is = record {
  numbered = is.numbered;
  client = is.client;
  last = is.last;
  at = is.at;
  holds = same ∙ is.holds;
  setup = is.setup;
}

pub IsClientAt-holding : (session : Session) (ring : TableId) (key : Key) (holdings after : Holdings) (n : ℕ) (d : LabClient) (x : AtPort × Client) → after n ≡ holdings n
    → IsClientAt session ring key holdings n d x → IsClientAt session ring key after n d x
IsClientAt-holding session ring key holdings after n d x same at =
    record { is = IsClientIn-holding session ring key holdings after n d x same at.is; goes = at.goes; rows = at.rows }

-- ---- all clients of the lab

-- what a client is in a run, by what all hold
abbrev pub Relation : Type 0 → Type 1
Relation X = Session → TableId → Key → Holdings → ℕ → LabClient → X → Type 0

-- it is so of a client as long as that holds what it held
abbrev pub KeepsHolding : Relation (AtPort × Client) → Type 0
KeepsHolding Is =
    (session : Session) (ring : TableId) (key : Key) (holdings after : Holdings)
    (n : ℕ) (d : LabClient) (x : AtPort × Client) → after n ≡ holdings n
    → Is session ring key holdings n d x → Is session ring key after n d x

-- and it tells that it is that client in a run
abbrev pub IsInRun : Relation (AtPort × Client) → Type 0
IsInRun Is =
    (session : Session) (ring : TableId) (key : Key) (holdings : Holdings) (n : ℕ)
    (d : LabClient) (x : AtPort × Client) → Is session ring key holdings n d x
    → IsClientIn session ring key holdings n d x

pub IsClientAt-in_run : IsInRun IsClientAt
IsClientAt-in_run session ring key holdings n d x at = at.is

-- the card of a session at the places later
pub IsCardOf-same : (session : Session) (p q : Places) → IsSameCard p q → IsCardOf session p → IsCardOf session q
IsCardOf-same session p q same card = record {
  setups = card.setups;
  ring = ap (λ (key : Key). key.geometry) same.key ∙ card.ring;
  share = same.share ∙ card.share;
  channels = same.channels ∙ card.channels;
}

-- One client is exchanged at the same card, and what it holds changes with it: all are clients of a run again.
module _ (Is : Relation (AtPort × Client)) (keeps : KeepsHolding Is) (session : Session) (held after : Held) (xs : List (AtPort × Client)) (cs ds : LabClients) (number : ℕ)
    (e : LabClient) (y : AtPort × Client) (now : Option Holding) (are : AreIn Is session held xs cs) (same : IsSameCard (places_of cs) (places_of ds)) where
  abbrev then_holdings : Holdings
  then_holdings = with_holding number now are.holdings

  no-others : number < length (clients_of cs) → length (clients_of ds) ≡ length (clients_of cs) → (n : ℕ) → length (clients_of ds) ≤ n → then_holdings n ≡ None
  no-others inside len n past =
      (ChangesAt-with_holding number now are.holdings).others n (λ same. absurd (omega (arith, inside, len, past, same)))
      ∙ are.no_others n (omega (arith, len, past))

  pub AreIn-exchanged : number < length (clients_of cs) → clients_of ds ≡ slice_set (clients_of cs) number e → IsHeldBy (places_of ds) after
      → AreHeld (share_of (places_of cs)) after then_holdings
      → Is session (ring_of_places (places_of cs)) (key_of_places (places_of cs)) then_holdings number e y
      → IsReported session (laid_lists (free_seats (lobby_of (places_of ds)))) (slice_set (clients_of cs) number e) (slice_set xs number y)
      → AreIn Is session after (slice_set xs number y) ds
  AreIn-exchanged inside clients held_by are_held own reported = record {
    card = IsCardOf-same session (places_of cs) (places_of ds) same are.card;
    holdings = then_holdings;
    held_by = held_by;
    are_held = subst (λ share. AreHeld share after then_holdings) (sym same.share) are_held;
    no_others = no-others inside (ap length clients ∙ length-set (clients_of cs) number e);
    each = subst (λ items. AreEach (Is session (ring_of_places (places_of ds)) (key_of_places (places_of ds)) then_holdings) 0 items (slice_set xs number y)) (sym clients)
        (subst (λ key. AreEach (Is session (ring_of_places (places_of ds)) key then_holdings) 0 (slice_set (clients_of cs) number e) (slice_set xs number y)) (sym same.key)
        (subst (λ ring. AreEach (Is session ring (key_of_places (places_of cs)) then_holdings) 0 (slice_set (clients_of cs) number e) (slice_set xs number y)) (sym same.ring)
        (AreEach-set_rest (Is session (ring_of_places (places_of cs)) (key_of_places (places_of cs)) are.holdings) (Is session (ring_of_places (places_of cs)) (key_of_places (places_of cs)) then_holdings)
        0 number (clients_of cs) xs e y
        (λ n d x differ is. keeps session (ring_of_places (places_of cs)) (key_of_places (places_of cs)) are.holdings then_holdings n d x
        ((ChangesAt-with_holding number now are.holdings).others n (λ client. differ (sym client ∙ omega arith))) is)
        (subst (λ n. Is session (ring_of_places (places_of cs)) (key_of_places (places_of cs)) then_holdings n e y) (omega arith) own)
        are.each)));
    reported = subst (λ items. IsReported session (laid_lists (free_seats (lobby_of (places_of ds)))) items (slice_set xs number y)) (sym clients) reported;
  }

-- The clients stay, and their places are others: what is held is still what they hold, and nothing was placed in between.
pub AreIn-places : (Is : Relation (AtPort × Client)) (session : Session) (held after : Held) (xs : List (AtPort × Client)) (cs ds : LabClients) (are : AreIn Is session held xs cs)
    → IsSameCard (places_of cs) (places_of ds) → clients_of ds ≡ clients_of cs → IsHeldBy (places_of ds) after → AreHeld (share_of (places_of cs)) after are.holdings
    → IsLaidAlike (free_seats (lobby_of (places_of cs))) (free_seats (lobby_of (places_of ds))) → AreIn Is session after xs ds
AreIn-places Is session held after xs cs ds are same clients held_by are_held laid = record {
  card = IsCardOf-same session (places_of cs) (places_of ds) same are.card;
  holdings = are.holdings;
  held_by = held_by;
  are_held = subst (λ share. AreHeld share after are.holdings) (sym same.share) are_held;
  no_others = λ n past. are.no_others n (subst (λ items. length items ≤ n) clients past);
  each = subst (λ items. AreEach (Is session (ring_of_places (places_of ds)) (key_of_places (places_of ds)) are.holdings) 0 items xs) (sym clients)
      (subst (λ key. AreEach (Is session (ring_of_places (places_of ds)) key are.holdings) 0 (clients_of cs) xs) (sym same.key)
      (subst (λ ring. AreEach (Is session ring (key_of_places (places_of cs)) are.holdings) 0 (clients_of cs) xs) (sym same.ring) are.each));
  reported = subst (λ items. IsReported session (laid_lists (free_seats (lobby_of (places_of ds)))) items xs) (sym clients)
      (subst (λ lists. IsReported session lists (clients_of cs) xs) (sym laid) are.reported);
}

-- the same card, and once more the same card
pub IsSameCard-same : (p : Places) → IsSameCard p p
IsSameCard-same p = record { ring = refl; key = refl; share = refl; channels = refl }

pub IsSameCard-joined : (p q r : Places) → IsSameCard p q → IsSameCard q r → IsSameCard p r
IsSameCard-joined p q r first second = record {
  ring = second.ring ∙ first.ring;
  key = second.key ∙ first.key;
  share = second.share ∙ first.share;
  channels = second.channels ∙ first.channels;
}
