-- A ring that was just opened, and a client at the seat of one of its places.
use Rattle.dmix_c.specs.Prelude.{ap, arith, List, subst, suc, sym, zero, ℕ, [], ◌∙◌, ◌∷◌, ◌≡◌, false≢true, All, nat_lt, Geometry, MixSeat, last_frame}
use Rattle.dmix_c.specs.Prelude.{member_of, places_of_seat, seat_view, Lobby, IsNewLobby, IsSilentSeat, key_of_lobby, seen_of_lobby, CardPlayer, period_of}
use Rattle.dmix_c.specs.Prelude.{seat_of, new_client, CanUse, ClientView, OpenRing, RingParams, IsBackedSeat, IsNewPlayback, IsGeometryOf, GivesPlace}
use Rattle.dmix_c.specs.Prelude.{IsAtStart, IsHandedOut, IsNewOpenRing, AreOfPlace, IsSamePlace}
use Rattle.sum_table.specs.declared.seats.player.PlayerSeat.{PlayerSeat}
use Rattle.sum_table.specs.declared.view.Key.{Key}
use Rattle.sum_table.specs.declared.view.View.{View}
use Rattle.sum_table.specs.Players.{next_of_player, player_geometry, player_key, player_ring, position_of_player}
use Rattle.sum_table.specs.Rings.{HasSeats}
use Rattle.sum_table.specs.Seats.{geometry_of}
use Rattle.dmix_c.specs.declared.playback.Playback.{Playback}
use Rattle.dmix_c.proofs.Seated.{IsSamePlace-same}

-- a client in OPEN
abbrev pub opened : Geometry → ℕ → ℕ → ClientView
opened g member lead = record { stream = new_client g member lead; ring = [] }

-- the player of a new ring is at its start
pub IsAtStart-made : (key : Key) (player : PlayerSeat) (seat : MixSeat) (p : CardPlayer) → HasSeats key player seat → seat_of p ≡ player → IsAtStart key.geometry p
IsAtStart-made key player seat p has is = record {
  geometry = ap player_geometry is ∙ ap (λ (k : Key). k.geometry) has.player_key;
  next = ap next_of_player is ∙ has.next;
  position = ap position_of_player is ∙ has.position;
}

pub IsNewOpenRing-made : (params : RingParams) (key : Key) (player : PlayerSeat) (seat : MixSeat) (r : OpenRing) (p : CardPlayer)
    → IsGeometryOf params key.geometry → key.places ≡ params.clients
    → HasSeats key player seat → IsNewLobby seat r.lobby
    → seat_of p ≡ player → period_of p ≡ params.period_size → r.rate ≡ params.rate → r.period ≡ params.period_size
    → IsNewOpenRing params r p
IsNewOpenRing-made params key player seat r p geometry clients has new is_player card_period rate lead =
    let places = has.places ∙ clients in
    let same : key_of_lobby r.lobby ≡ key = new.key ∙ has.mix_key in
    record {
      geometry = subst (λ (k : Key). IsGeometryOf params k.geometry) (sym same) geometry;
      places = new.places ∙ places;
      fresh = λ place below.
          let one = new.each place (omega (arith, below, places)) in
          (one.0, one.1, ap (λ (v : View). last_frame v.laid) one.2.view);
      rate = rate;
      lead = lead;
      start = subst (λ (k : Key). IsAtStart k.geometry p) (sym same) (IsAtStart-made key player seat p has is_player);
      card_period = card_period;
      one_ring = (
        ap player_ring is_player ∙ (has.one_ring ∙ sym new.ring),
        ap player_key is_player ∙ (has.player_key ∙ sym same),
      );
    }

-- a client at a seat that was sent once on its way, and was silent then
pub GivesPlace-made : (t : OpenRing) (p : Playback) (l : Lobby) (seat sent : MixSeat) → t.lobby ≡ l → IsNewPlayback sent t.rate t.period p → sent ≡ seat
    → IsSilentSeat l (seen_of_lobby l) seat → IsHandedOut l seat → GivesPlace t p
GivesPlace-made t p l seat sent lobby new same silent lowest = record {
  silent = subst (λ (m : Lobby). IsSilentSeat m (seen_of_lobby m) p.seat) (sym lobby) (subst (IsSilentSeat l (seen_of_lobby l)) (sym (new.seat ∙ same)) silent);
  lowest = subst (λ (m : Lobby). IsHandedOut m p.seat) (sym lobby) (subst (IsHandedOut l) (sym (new.seat ∙ same)) lowest);
  client = subst (λ (s : MixSeat). IsNewPlayback s t.rate t.period p) (sym new.seat) new;
}

-- a seat is of the place of itself alone
pub AreOfPlace-alone : (before : List MixSeat) (s : MixSeat) → before ≡ s ∷ [] → AreOfPlace before s
AreOfPlace-alone before s is = subst (λ (ss : List MixSeat). AreOfPlace ss s) (sym is) only
  where
    only : All (λ (earlier : MixSeat). IsSamePlace earlier s) (s ∷ [])
    only zero d inside = IsSamePlace-same s
    only (suc k) d inside = absurd (omega arith)

-- a client that was just opened can use its seat, and has no segment yet
pub CanUse-opened : (s : MixSeat) (d : ClientView) (g : Geometry) (member lead : ℕ) → d ≡ opened g member lead → g ≡ geometry_of s → member ≡ member_of s
    → places_of_seat s ≡ 1 → CanUse d.stream (seat_view s)
CanUse-opened s d g member lead is of_ring of_member one = subst (λ (x : ClientView). CanUse x.stream (seat_view s)) (sym is) (record {
  same_geometry = sym of_ring;
  same_member = sym of_member;
  can = ap (nat_lt 0) one;
  behind = λ moves going. absurd (false≢true moves);
  newer = λ moves going. absurd (false≢true moves);
})

pub backed-opened : (s : MixSeat) (d : ClientView) (g : Geometry) (member lead : ℕ) → d ≡ opened g member lead → IsBackedSeat s d
backed-opened s d g member lead is = subst (IsBackedSeat s) (sym is) (λ has. absurd (false≢true has))
