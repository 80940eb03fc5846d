-- What splits, joins, notes, meetings and the close of a ring do.
use Rattle.std.specs.Prelude.{◌≡◌, ℕ, ◌+◌, ◌≤◌, ◌||◌, true, None, Some, List, [], max}
use Rattle.std.specs.List.{slice_index_or}
use mathlib.Core.Option.{some}
use lib.ListN.{get_elem?}
use Rattle.atomic_table.specs.Seated.{TableId}
use Rattle.snd_base.specs.Places.{lap}
use Rattle.lap_word.specs.Word.{lap_of}
use Rattle.mix_core.specs.History.{AreExact, AreInOrder, IsLegal, Row, laid_of, taken_words}
use Rattle.mix_core.specs.Sound.{IsNow}
use Rattle.sum_table.specs.declared.seats.join.Closed.{Closed}
use Rattle.sum_table.specs.declared.seats.mix.MixSeat.{MixSeat}
use Rattle.sum_table.specs.declared.seats.note.SeatNote.{SeatNote}
use Rattle.sum_table.specs.declared.seats.player.PlayerSeat.{PlayerSeat}
use Rattle.sum_table.specs.declared.view.Key.{Key}
use Rattle.sum_table.specs.declared.view.View.{View}
use Rattle.sum_table.specs.Cuts.{both_of, joined_marks, part_of, without_places}
use Rattle.sum_table.specs.Exact.{BeginsWith, IsPublishedPosition, next_at, position_at, start_marks}
use Rattle.sum_table.specs.Known.{greater}
use Rattle.sum_table.specs.Laid.{SameSums}
use Rattle.sum_table.specs.Players.{PlayerGoes, player_key, player_ring, player_view, track_of}
use Rattle.sum_table.specs.Seats.{key_of, ring_of, view_of}
use Rattle.sum_table.specs.Steps.{Makes, with_history}
use Rattle.ring_rule.specs.Words.{index_of}

-- two seats are of one ring. That one ring has one key isn't said by its identity, so both are asked
abbrev pub OneRing : TableId → Key → TableId → Key → Type 0
OneRing a k b l = (a ≡ b) × (k ≡ l)

-- what a note has seen, its ring, and the greatest position that it has seen
abbrev pub note_view : SeatNote → View
note_view n = n.seat.seat.me.0

abbrev pub note_ring : SeatNote → TableId
note_ring n = ring_of n.seat

abbrev pub note_key : SeatNote → Key
note_key n = n.seat.key

abbrev pub note_seen : SeatNote → ℕ
note_seen n = n.seat.seen

-- a seat with the same fields but for its view and its places
pub record KeepsSeat (s t : MixSeat) : Type 0 where
  pub ring : ring_of t ≡ ring_of s
  pub key : t.key ≡ s.key
  pub member : t.member ≡ s.member
  pub marks : t.reach.marks ≡ s.reach.marks
  pub seen : t.seen ≡ s.seen
  pub last : t.reach.last ≡ s.reach.last

-- some places moved to a new seat, which has seen as much and placed nothing
pub record HasSplit (s t new : MixSeat) (n m : ℕ) : Type 0 where
  pub stays : KeepsSeat s t
  pub view : view_of t ≡ without_places (view_of s) n
  pub places : t.places + n ≡ s.places
  pub new_ring : ring_of new ≡ ring_of s
  pub new_key : new.key ≡ s.key
  pub new_view : view_of new ≡ part_of (view_of s) n
  pub new_member : new.member ≡ m
  pub new_places : new.places ≡ n
  pub new_marks : new.reach.marks ≡ start_marks s.key.geometry
  pub new_seen : new.seen ≡ s.seen
  pub new_last : new.reach.last ≡ None

-- a seat took over what another one is and has: places and lists of placed entries add up, the later cursor and notes stay, and what
-- either has seen both have seen
pub record HasJoined (s t other : MixSeat) : Type 0 where
  pub ring : ring_of t ≡ ring_of s
  pub key : t.key ≡ s.key
  pub member : t.member ≡ s.member
  pub view : view_of t ≡ with_history (both_of (view_of s) (view_of other)) (view_of t).history
  pub places : t.places ≡ s.places + other.places
  pub marks : t.reach.marks ≡ joined_marks s.reach.marks other.reach.marks other.places
  pub seen : t.seen ≡ max s.seen other.seen
  pub last : t.reach.last ≡ greater s.reach.last other.reach.last
  pub history : BeginsWith (view_of t).history (view_of s).history
  pub other_history : BeginsWith (view_of t).history (view_of other).history
  pub event : Makes (both_of (view_of s) (view_of other)) (view_of t) (λ _. [])

-- a mix seat gave a note of all that it has seen; nothing else changed
pub record HasNote (s t : MixSeat) (n : SeatNote) : Type 0 where
  pub stays : KeepsSeat s t
  pub same_view : view_of t ≡ view_of s
  pub same_places : t.places ≡ s.places
  pub ring : note_ring n ≡ ring_of s
  pub key : note_key n ≡ s.key
  pub view : note_view n ≡ part_of (view_of s) 0
  pub seen : note_seen n ≡ s.seen
  pub gone : (note_view n).seen_gone ≡ (view_of s).seen_gone

-- a mix seat met a note: it has seen what the note has seen, and has the same places, list of placed entries and cursor as before
pub record HasMet (s t : MixSeat) (n : SeatNote) : Type 0 where
  pub ring : ring_of t ≡ ring_of s
  pub key : t.key ≡ s.key
  pub member : t.member ≡ s.member
  pub view : view_of t ≡ with_history (both_of (view_of s) (note_view n)) (view_of t).history
  pub places : t.places ≡ s.places
  pub laid : (view_of t).laid ≡ (view_of s).laid
  pub marks : t.reach.marks ≡ s.reach.marks
  pub last : t.reach.last ≡ s.reach.last
  pub seen : t.seen ≡ max s.seen (note_seen n)
  pub gone : (view_of t).seen_gone ≡ ((view_of s).seen_gone || (note_view n).seen_gone)
  pub history : BeginsWith (view_of t).history (view_of s).history
  pub note_history : BeginsWith (view_of t).history (note_view n).history
  pub event : Makes (both_of (view_of s) (note_view n)) (view_of t) (λ _. [])

-- the player gave a note: it has seen each position that the player published, and the card gone exactly where the player
-- is gone; nothing else changed
pub record HasPlayerNote (p q : PlayerSeat) (n : SeatNote) : Type 0 where
  pub same_ring : player_ring q ≡ player_ring p
  pub same_key : player_key q ≡ player_key p
  pub same_view : player_view q ≡ player_view p
  pub next : q.next ≡ p.next
  pub position : q.position ≡ p.position
  pub same_gone : q.gone ≡ p.gone
  pub ring : note_ring n ≡ player_ring p
  pub key : note_key n ≡ player_key p
  pub view : note_view n ≡ part_of (player_view p) 0
  pub seen : note_seen n ≡ position_at (player_key p).geometry (track_of p)
  pub published : (i x : ℕ) → get_elem? (track_of p).published i ≡ some x → (j : ℕ) × (get_elem? (note_view n).positions j ≡ some x)
  pub gone : (note_view n).seen_gone ≡ (track_of p).gone

-- the player met a note: the greatest position that it has seen is not past the one that this player published last, each
-- position of it is the first frame or one that this player published, each of its noted words
-- has at most the lap of the first frame of its slot and channel that this player has not taken, and it has seen the card
-- gone only where this player is gone
pub record HasHeard (p q : PlayerSeat) (n : SeatNote) : Type 0 where
  pub goes : PlayerGoes p q
  pub view : player_view q ≡ with_history (both_of (player_view p) (note_view n)) (player_view q).history
  pub track : track_of q ≡ track_of p
  pub next : q.next ≡ p.next
  pub position : q.position ≡ p.position
  pub same_gone : q.gone ≡ p.gone
  pub seen : note_seen n ≤ p.position
  pub positions : (i x : ℕ) → get_elem? (note_view n).positions i ≡ some x → IsPublishedPosition (player_key p).geometry (track_of p) x
  pub noted : (f c x : ℕ) → IsNow (player_key p).geometry (next_at (player_key p).geometry (track_of p)) f c
      → slice_index_or (note_view n).noted (index_of (player_key p).geometry f c) None ≡ Some x → lap_of x ≤ lap (player_key p).geometry f
  pub gone : (note_view n).seen_gone ≡ true → (track_of p).gone ≡ true
  pub note_history : BeginsWith (player_view q).history (note_view n).history
  pub event : Makes (both_of (player_view p) (note_view n)) (player_view q) (λ _. [])

-- the ring was closed: everything that the player took is in order, and each value is the sum of exactly the samples
-- that the mix seat placed there, saturated once. The ring's whole history is legal, took what the player took, and placed as many
-- samples, of the same sum, as the seat's list of placed entries
pub record HasClosed (s : MixSeat) (p : PlayerSeat) (c : Closed) : Type 0 where
  pub position : c.position ≡ position_at (key_of s).geometry (track_of p)
  pub next : c.next ≡ next_at (key_of s).geometry (track_of p)
  pub in_order : AreInOrder (key_of s).geometry (track_of p).taken
  pub values : AreExact (view_of s).laid (track_of p).taken
  pub history : (members : ℕ) × (h : List Row)
      × IsLegal (key_of s).geometry members h
      × BeginsWith h (view_of s).history
      × BeginsWith h (player_view p).history
      × (taken_words h ≡ (track_of p).taken)
      × SameSums (laid_of h) (view_of s).laid
