-- A client's note, heard by the card's player.
use Rattle.lab_card.specs.Prelude.{ap, None, Some, subst, sym, ℕ, ◌∙◌, ◌≡◌, ◌≤◌, slice_index_or, Cursor, lap, PlayerSeat, Track, View, next_of_player}
use Rattle.lab_card.specs.Prelude.{player_geometry, player_key, track_of}
use lib.ListN.{get_elem?}
use mathlib.Core.Option.{some}
use Rattle.lap_word.specs.Word.{lap_of}
use Rattle.mix_core.specs.Sound.{IsNow}
use Rattle.ring_rule.specs.Words.{index_of}
use Rattle.sum_table.specs.declared.seats.mix.MixSeat.{MixSeat}
use Rattle.sum_table.specs.declared.seats.note.SeatNote.{SeatNote}
use Rattle.sum_table.specs.declared.view.Key.{Key}
use Rattle.sum_table.specs.Cuts.{part_of}
use Rattle.sum_table.specs.Exact.{IsPublishedPosition, next_at}
use Rattle.sum_table.specs.Joins.{HasHeard, HasNote, note_view}
use Rattle.sum_table.specs.Seats.{key_of, noted_word, view_of}

-- a note has seen what its seat has
note_is : (s t : MixSeat) (n : SeatNote) → HasNote s t n → note_view n ≡ part_of (view_of t) 0
note_is s t n note = note.view ∙ sym (ap (λ (v : View). part_of v 0) note.same_view)

-- each position that the seat has seen is one that the player published
pub published-heard : (p q : PlayerSeat) (s t : MixSeat) (n : SeatNote) → HasNote s t n → HasHeard p q n → (i x : ℕ) → get_elem? (view_of t).positions i ≡ some x
    → IsPublishedPosition (player_geometry q) (track_of q) x
published-heard p q s t n note heard i x is =
    subst (λ (k : Key). IsPublishedPosition k.geometry (track_of q) x) (sym heard.goes.key)
    (subst (λ (u : Track). IsPublishedPosition (player_geometry p) u x) (sym heard.track)
    (heard.positions i x (ap (λ (v : View). get_elem? v.positions i) (note_is s t n note) ∙ is)))

-- each of its noted words has at most the lap of the first frame there that the player didn't take
pub noted-heard : (p q : PlayerSeat) (s t : MixSeat) (n : SeatNote) → key_of s ≡ player_key p → HasNote s t n → HasHeard p q n → (f c x : ℕ)
    → IsNow (player_geometry q) (next_of_player q) f c → noted_word t f c ≡ Some x → lap_of x ≤ lap (player_geometry q) f
noted-heard p q s t n same note heard f c x now is =
    let here : key_of t ≡ player_key p = note.stays.key ∙ same in
    let next : next_of_player q ≡ next_at (player_geometry p) (track_of p) = heard.next ∙ p.known.next_is in
    subst (λ (k : Key). lap_of x ≤ lap k.geometry f) (sym heard.goes.key)
    (heard.noted f c x
    (subst (λ (y : Cursor). IsNow (player_geometry p) y f c) next (subst (λ (k : Key). IsNow k.geometry (next_of_player q) f c) heard.goes.key now))
    (ap (λ (v : View). slice_index_or v.noted (index_of (player_geometry p) f c) None) (note_is s t n note)
    ∙ (sym (ap (λ (k : Key). slice_index_or (view_of t).noted (index_of k.geometry f c) None) here) ∙ is)))
