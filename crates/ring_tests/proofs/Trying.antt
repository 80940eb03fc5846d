-- What the tests conclude of a seat, and of the seats that a lobby handed out.
use Rattle.std.proofs.Common.{◌≡◌, ℕ, ◌++◌, ◌∷◌, [], All, Bool, true, false, List, arith, cond, get_or, length, subst, sym, ◌∙◌}
use Rattle.std.proofs.Math.Seq.{get_or-append_seam}
use Rattle.std.proofs.lemmas.List.{get_or_append_left, length-append}
use Rattle.std.proofs.lemmas.List.Elements.{All-push}
use Rattle.sum_table.specs.declared.seats.mix.MixSeat.{MixSeat}
use Rattle.sum_table.specs.Joins.{OneRing}
use Rattle.sum_table.specs.Seats.{IsLaterSeat, key_of, ring_of}
use Rattle.lobby.specs.declared.lobby.Lobby.{Lobby}
use Rattle.lobby.specs.Lobbies.{IsLaterLobby, IsSilentSeat, key_of_lobby, ring_of_lobby}

-- a seat is of a lobby's ring
abbrev pub IsOfLobby : Lobby → MixSeat → Type 0
IsOfLobby l s = OneRing (ring_of s) (key_of s) (ring_of_lobby l) (key_of_lobby l)

goes_on : (l m : Lobby) (s : MixSeat) → IsLaterLobby l m → IsOfLobby l s → IsOfLobby m s
goes_on l m s goes is = (is.0 ∙ sym goes.ring, is.1 ∙ sym goes.key)

-- the seats that are out are of the lobby's ring after an attach, whether or not there was room for the new one
pub seats_out : (l m : Lobby) (p : ℕ) (xs ys : List MixSeat) (s : MixSeat) (b : Bool) → IsLaterLobby l m → All (IsOfLobby l) xs → IsSilentSeat l p s
    → ys ≡ cond b (xs ++ s ∷ []) xs → All (IsOfLobby m) ys
seats_out l m p xs ys s b goes were silent is = subst (All (IsOfLobby m)) (sym is) (by_room b) where
  before : All (IsOfLobby m) xs
  before k d inside = goes_on l m (get_or xs k d) goes (were k d inside)

  by_room : (c : Bool) → All (IsOfLobby m) (cond c (xs ++ s ∷ []) xs)
  by_room true = All-push (IsOfLobby m) xs s before (goes_on l m s goes (silent.0.of_ring, silent.0.of_key))
  by_room false = before

-- a seat that is out was used, and put back after the others, whether or not there was room
pub seat_put_back : (l : Lobby) (xs ys zs : List MixSeat) (s t : MixSeat) (b : Bool) → All (IsOfLobby l) xs → xs ≡ ys ++ s ∷ [] → IsLaterSeat s t
    → zs ≡ cond b (ys ++ t ∷ []) ys → All (IsOfLobby l) zs
seat_put_back l xs ys zs s t b were parts goes is = subst (All (IsOfLobby l)) (sym is) (by_room b) where
  all : All (IsOfLobby l) (ys ++ s ∷ [])
  all = subst (All (IsOfLobby l)) parts were

  front : All (IsOfLobby l) ys
  front k d inside = subst (IsOfLobby l) (get_or_append_left ys (s ∷ []) d k inside) (all k d (omega (arith, length-append ys (s ∷ []))))

  last : IsOfLobby l s
  last = subst (IsOfLobby l) (get_or-append_seam ys s [] s) (all (length ys) s (omega (arith, length-append ys (s ∷ []))))

  by_room : (c : Bool) → All (IsOfLobby l) (cond c (ys ++ t ∷ []) ys)
  by_room true = All-push (IsOfLobby l) ys t front (goes.ring ∙ last.0, goes.key ∙ last.1)
  by_room false = front
