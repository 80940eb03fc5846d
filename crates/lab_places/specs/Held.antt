-- The places and channels that clients hold, as a run has them: what an opening and a closing make of them.
use Rattle.std.specs.Prelude.{◌≡◌, ℕ, zero, suc, ◌≤◌, true, false, List, [], ◌∷◌, Option, Some, None, Result, Ok, Err, IfOk, MatchResult, ⊤}
use Rattle.snd_base.specs.declared.errors.PcmError.{PcmError}
use Rattle.snd_base.specs.Places.{IsFrom, first_frame}
use Rattle.mix_core.specs.Marks.{high_frame, start_marks}
use Rattle.sum_table.specs.declared.seats.mix.MixSeat.{MixSeat}
use Rattle.sum_table.specs.declared.view.Key.{Key}
use Rattle.sum_table.specs.declared.seats.player.PlayerSeat.{PlayerSeat}
use Rattle.sum_table.specs.Known.{free_from}
use Rattle.sum_table.specs.Players.{position_of_player}
use Rattle.sum_table.specs.Seats.{TableId, key_of, marks_of_seat, member_of, seen_of, view_of}
use Rattle.lobby.specs.declared.lobby.Lobby.{Lobby as Free}
use Rattle.lobby.specs.Loads.{PlayerStays}
use Rattle.lobby.specs.Lobbies.{CanTakeBack, free_seats, key_of_lobby, ring_of_lobby, seen_of_lobby}
use Rattle.lobby.specs.Seats as seats
use Rattle.dshare.specs.Owners.{ClaimRow}
use Rattle.dshare.specs.Shared as shared
use Rattle.lab_lines.specs.declared.script.Share.{Share}
use Rattle.lab_lines.specs.declared.script.Share.TheVariants.{Dmix, Dshare}
use Rattle.lab_run.specs.Claims.{claim_refusal, with_claim, with_release}
use Rattle.lab_run.specs.Items.{Held}
use Rattle.lab_run.specs.Places.{Lobby, Place, after_attach, is_free, is_held_by, last_of, left_by, new_lobby}
use Rattle.lab_run.specs.PortSteps.{MarksAlike, last_from}
use Rattle.lab_places.specs.declared.places.Places.{Places}

-- ---- in a run

-- what is held of a new card: nothing
abbrev pub new_held : ℕ → ℕ → Held
new_held places first = record { lobby = new_lobby places first; claims = [] }

-- a client attaches: where it is given a place, its claim counts
abbrev pub attached_held : Share → List ℕ → Held → Lobby × Result (Unit {0}) PcmError
    → Held × Result (Unit {0}) PcmError
attached_held sharing channels held (lobby, Ok done) =
    (record { lobby = lobby; claims = with_claim sharing channels held.claims }, Ok done)
attached_held sharing channels held (lobby, Err e) = (record held { lobby = lobby }, Err e)

abbrev pub opened_if : Share → ℕ → List ℕ → ℕ → Held → Option PcmError
    → Held × Result (Unit {0}) PcmError
opened_if sharing number channels position held (Some e) = (held, Err e)
opened_if sharing number channels position held None =
    attached_held sharing channels held (after_attach number position held.lobby)

-- a client is opened at a position of the card: it claims its channels, and then attaches
abbrev pub opened_held : Share → ℕ → List ℕ → ℕ → Held → Held × Result (Unit {0}) PcmError
opened_held sharing number channels position held =
    opened_if sharing number channels position held
    (claim_refusal sharing held.claims channels position)

-- a client that placed its last sample so gives its place and its channels back
abbrev pub closed_held : Share → ℕ → List ℕ → Option ℕ → Held → Held
closed_held sharing number channels last held =
    record {
      lobby = left_by number last held.lobby;
      claims = with_release sharing channels last held.claims;
    }

-- no place is held by a client
abbrev pub HoldsNone : ℕ → List Place → Type 0
HoldsNone client [] = ⊤
HoldsNone client (first ∷ places) =
    (is_held_by client first.holder ≡ false) × HoldsNone client places

-- a client holds the place of a number, and no other; this is the last frame that was placed by it before
abbrev pub HoldsPlace : ℕ → ℕ → Option ℕ → List Place → Type 0
HoldsPlace client place last [] = ⊥
HoldsPlace client zero last (first ∷ places) =
    (first ≡ record { holder = Some client; last = last }) × HoldsNone client places
HoldsPlace client (suc place) last (first ∷ places) =
    (is_held_by client first.holder ≡ false) × HoldsPlace client place last places

-- ---- at the lobby and the shares

-- the seat of a place, while that is free, is a place of a run: with the last frame that was placed by it
abbrev pub IsAtPlace : Option MixSeat → Place → Type 0
IsAtPlace None place = is_free place ≡ false
IsAtPlace (Some s) place = (is_free place ≡ true) × (place.last ≡ seats.last_of s)

abbrev pub AreAtPlaces : List (Option MixSeat) → List Place → Type 0
AreAtPlaces [] [] = ⊤
AreAtPlaces (seat ∷ more) (place ∷ places) = IsAtPlace seat place × AreAtPlaces more places
AreAtPlaces more places = ⊥

abbrev pub lobby_of : Places → Free
lobby_of p = p.lobby

abbrev pub share_of : Places → Share
share_of p = p.share

-- which channels of the card are owned
abbrev pub shares_of : Places → shared.Ownership
shares_of p = p.shares

abbrev pub ring_of_places : Places → TableId
ring_of_places p = ring_of_lobby p.lobby

abbrev pub key_of_places : Places → Key
key_of_places p = key_of_lobby p.lobby

-- the places of a run are those of the lobby
pub record IsLobby (p : Places) (lobby : Lobby) : Type 0 where
  pub places : AreAtPlaces (free_seats p.lobby) lobby.places
  pub seen : lobby.seen ≡ seen_of_lobby p.lobby

-- what is held in a run is what the lobby and the shares have
pub record IsHeldBy (p : Places) (held : Held) : Type 0 where
  pub lobby : IsLobby p held.lobby
  pub claims : shared.StandsFor p.shares held.claims

-- the same card, shared in the same way
pub record IsSameCard (p q : Places) : Type 0 where
  pub ring : ring_of_places q ≡ ring_of_places p
  pub key : key_of_places q ≡ key_of_places p
  pub share : q.share ≡ p.share
  pub channels : (shares_of q).channels ≡ (shares_of p).channels

-- the same lobby, and the same card
pub record IsSameLobby (p q : Places) : Type 0 where
  pub lobby : q.lobby ≡ p.lobby
  pub share : q.share ≡ p.share
  pub channels : (shares_of q).channels ≡ (shares_of p).channels

-- the seat that a client is given at a position: it has seen this position, and nothing was placed by it at the position or past it
pub record IsGiven (p : Places) (position : ℕ) (s : MixSeat) : Type 0 where
  pub place : seats.IsPlace (ring_of_places p) (key_of_places p) (member_of s) s
  pub seen : position ≤ seen_of s
  pub marks : MarksAlike (key_of_places p).geometry position (marks_of_seat s).high
      (start_marks (key_of_places p).geometry) (marks_of_seat s)

-- the place of a ring that a client is given at a position, if it is given one: the lowest that is free and silent
abbrev pub next_place : ℕ → Places → Option ℕ
next_place position p = seats.lowest_silent position (free_seats p.lobby)

-- a seat is that of this place
abbrev pub IsNextPlace : Places → ℕ → MixSeat → Type 0
IsNextPlace p position s = next_place position p ≡ Some (member_of s)

-- an answer to a client is that of a run
abbrev pub IsAnswerOfRun : Result MixSeat PcmError → Result (Unit {0}) PcmError → Type 0
IsAnswerOfRun r answer = MatchResult r (λ s. answer ≡ Ok tt) (λ e. answer ≡ Err e)

-- a client that held no place holds that of the seat that it is given
abbrev pub HoldsGiven : ℕ → List Place → Result MixSeat PcmError → List Place → Type 0
HoldsGiven number places r after =
    HoldsNone number places → IfOk r (λ s. HoldsPlace number (member_of s) (seats.last_of s) after)

-- the claim of a client, at the claims before it
abbrev pub IsClaimed : Share → List ClaimRow → List ℕ → ℕ → Result (Unit {0}) PcmError
    → shared.Ownership → Type 0
IsClaimed sharing claims channels position r after =
    MatchResult r
    (λ done. (claim_refusal sharing claims channels position ≡ None)
    × shared.StandsFor after (with_claim sharing channels claims))
    (λ e. claim_refusal sharing claims channels position ≡ Some e)

-- the attach of a client, at the places before it
pub record AttachesAt (number position : ℕ) (lobby : Lobby) (r : Result MixSeat PcmError)
    (q : Places) : Type 0 where
  pub lobby_then : IsLobby q (after_attach number position lobby).0
  pub answer : IsAnswerOfRun r (after_attach number position lobby).1
  pub place : HoldsGiven number lobby.places r (after_attach number position lobby).0.places

-- a client's opening, at what was held: the answer is that of a run, and what is held then
pub record Opens (sharing : Share) (number : ℕ) (channels : List ℕ) (position : ℕ)
    (held : Held) (r : Result MixSeat PcmError) (q : Places) : Type 0 where
  pub held_then : IsHeldBy q (opened_held sharing number channels position held).0
  pub answer : IsAnswerOfRun r (opened_held sharing number channels position held).1
  pub place : HoldsGiven number held.lobby.places r
      (opened_held sharing number channels position held).0.lobby.places

-- a free seat met the player: it has seen the position, and nothing else changed; its marks are in order
pub record HasMetPlayer (p q : PlayerSeat) (s t : MixSeat) : Type 0 where
  pub player : PlayerStays p q
  pub place : (ring : TableId) (key : Key) (place : ℕ) → seats.IsPlace ring key place s
      → seats.IsPlace ring key place t
  pub member : member_of t ≡ member_of s
  pub laid : (view_of t).laid ≡ (view_of s).laid
  pub seen : position_of_player p ≤ seen_of t
  pub first : first_frame (key_of t).geometry ≤ position_of_player p
  pub high : seats.last_of t ≡ high_frame (key_of t).geometry (marks_of_seat t)
  pub cursor : IsFrom (marks_of_seat t).cursor (free_from (key_of t).geometry (seats.last_of t)) 0
  pub floor : IsFrom (marks_of_seat t).floor (free_from (key_of t).geometry (seats.last_of t)) 0

-- the last frame of a seat is the client's own, or the one before; the own one is the seat's, where that isn't below the position of the opening
pub record IsOwnLast (position : ℕ) (before own last : Option ℕ) : Type 0 where
  pub last_is : last ≡ last_of own before
  pub own_is : own ≡ last_from position last

-- the channels of the card are owned, where clients share it by channels
abbrev pub AreReleasable : Share → shared.Ownership → List ℕ → Type 0
AreReleasable Dmix v channels = ⊤
AreReleasable Dshare v channels = shared.AreOfCard v channels × shared.AreOwned v channels

abbrev pub CanRelease : Places → List ℕ → Type 0
CanRelease p channels = AreReleasable p.share p.shares channels

-- a client's seat can be taken back with its bindings
pub record CanClose (p : Places) (s : MixSeat) (channels : List ℕ) : Type 0 where
  pub seat : CanTakeBack p.lobby s
  pub channels_are : CanRelease p channels

-- a client's closing, at what was held
abbrev pub Closes : Share → ℕ → List ℕ → ℕ → MixSeat → Held → Places → Type 0
Closes sharing number channels position s held q =
    (before own : Option ℕ) → HoldsPlace number (member_of s) before held.lobby.places
    → IsOwnLast position before own (seats.last_of s)
    → IsHeldBy q (closed_held sharing number channels own held)
