-- What the player takes of a word in which two seats placed a sample each.
use Rattle.examples.specs.Prelude.{ap, arith, List, Ok, Result, subst, ℕ, [], ◌++◌, ◌∙◌, ◌∷◌, ◌≡◌, OnOk, ℤ, ◌+ℤ◌, first_frame, clamp_of, Taken, Entry, AreExact}
use Rattle.examples.specs.Prelude.{an_add, total, member_of, SeatLaid, view_of}
use Rattle.std.proofs.lemmas.Int.{ints}
use Rattle.snd_base.specs.declared.errors.PcmError.{PcmError}
use Rattle.snd_base.specs.declared.places.Cursor.{Cursor}
use Rattle.mix_core.specs.declared.port.Placed.{Placed}
use Rattle.mix_core.specs.declared.port.Placed.TheVariants.{In}
use Rattle.mix_core.specs.Port.{ended_of, entry_if}
use Rattle.sum_table.specs.declared.seats.join.Closed.{Closed}
use Rattle.sum_table.specs.declared.seats.mix.MixSeat.{MixSeat}
use Rattle.sum_table.specs.declared.seats.player.PlayerSeat.{PlayerSeat}
use Rattle.sum_table.specs.declared.view.Key.{Key}
use Rattle.sum_table.specs.declared.view.Track.{Track}
use Rattle.sum_table.specs.declared.view.View.{View}
use Rattle.sum_table.specs.Exact.{the_track}
use Rattle.sum_table.specs.Joins.{HasClosed, HasJoined, HasSplit}
use Rattle.sum_table.specs.Players.{HasTaken, track_of}
use Rattle.sum_table.specs.Rings.{HasSeats}

-- the total of two adds is their sum
total-two : (m n : ℕ) (a b : ℤ) → total (an_add m 0 0 a ∷ an_add n 0 0 b ∷ []) 0 0 ≡ a +ℤ b
total-two m n a b = omega (arith, ints)

-- all seats of a ring, from the first two on
pub record IsRun (k : Key) (p q : PlayerSeat) (s left right left' right' whole : MixSeat) (x : Taken) (closed : Closed) (a b : ℤ) : Type 0 where
  pub seats : HasSeats k p s
  pub split : HasSplit s left right 1 1
  pub one : SeatLaid left left' (an_add (member_of left) 0 0 a ∷ [])
  pub two : SeatLaid right right' (an_add (member_of right) 0 0 b ∷ [])
  pub took : HasTaken p q x
  pub joined : HasJoined left' whole right'
  pub closed_is : HasClosed whole q closed

-- the first word that is taken has both samples
pub IsRun-sum : (k : Key) (p q : PlayerSeat) (s left right left' right' whole : MixSeat) (x : Taken) (closed : Closed) (a b : ℤ)
    → first_frame k.geometry ≡ 0 → IsRun k p q s left right left' right' whole x closed a b → x.value ≡ clamp_of (a +ℤ b)
IsRun-sum k p q s left right left' right' whole x closed a b first run =
    let none : (view_of s).laid ≡ [] = ap (λ (v : View). v.laid) run.seats.mix in
    let none_left : (view_of left).laid ≡ [] = ap (λ (v : View). v.laid) run.split.view ∙ none in
    let none_right : (view_of right).laid ≡ [] = ap (λ (v : View). v.laid) run.split.new_view in
    let one : (view_of left').laid ≡ an_add (member_of left) 0 0 a ∷ [] = run.one.laid ∙ ap (λ (es : List Entry). es ++ an_add (member_of left) 0 0 a ∷ []) none_left in
    let two : (view_of right').laid ≡ an_add (member_of right) 0 0 b ∷ [] = run.two.laid ∙ ap (λ (es : List Entry). es ++ an_add (member_of right) 0 0 b ∷ []) none_right in
    let both : (view_of whole).laid ≡ an_add (member_of left) 0 0 a ∷ an_add (member_of right) 0 0 b ∷ [] =
    ap (λ (v : View). v.laid) run.joined.view
    ∙ ap (λ (es : List Entry). es ++ (view_of right').laid) one
    ∙ ap (λ (es : List Entry). an_add (member_of left) 0 0 a ∷ es) two in
    let nothing : (track_of p).taken ≡ [] = ap (λ (v : View). (the_track v.track).taken) run.seats.player in
    let took : (track_of q).taken ≡ x ∷ [] = ap (λ (t : Track). t.taken) run.took.track ∙ ap (λ (ts : List Taken). ts ++ x ∷ []) nothing in
    let exact : AreExact (an_add (member_of left) 0 0 a ∷ an_add (member_of right) 0 0 b ∷ []) (x ∷ []) =
    subst (λ (ts : List Taken). AreExact (an_add (member_of left) 0 0 a ∷ an_add (member_of right) 0 0 b ∷ []) ts) took
    (subst (λ (es : List Entry). AreExact es (track_of q).taken) both run.closed_is.values) in
    let value : x.value ≡ clamp_of (total (an_add (member_of left) 0 0 a ∷ an_add (member_of right) 0 0 b ∷ []) x.frame x.channel) = exact 0 x (omega arith) in
    let frame : x.frame ≡ 0 = run.took.frame ∙ ap (λ (at : Cursor). at.frame) run.seats.next ∙ first in
    let channel : x.channel ≡ 0 = run.took.channel ∙ ap (λ (at : Cursor). at.channel) run.seats.next in
    value
    ∙ ap (λ (f : ℕ). clamp_of (total (an_add (member_of left) 0 0 a ∷ an_add (member_of right) 0 0 b ∷ []) f x.channel)) frame
    ∙ ap (λ (c : ℕ). clamp_of (total (an_add (member_of left) 0 0 a ∷ an_add (member_of right) 0 0 b ∷ []) 0 c)) channel
    ∙ ap clamp_of (total-two (member_of left) (member_of right) a b)

-- a placement that was in time placed its entry
pub SeatLaid-in_time : (s t : MixSeat) (e : Entry) (r : Result Placed PcmError) → r ≡ Ok In → SeatLaid s t (entry_if (ended_of r) e) → SeatLaid s t (e ∷ [])
SeatLaid-in_time s t e r is laid = subst (λ (x : Result Placed PcmError). SeatLaid s t (entry_if (ended_of x) e)) is laid

-- what holds where a placement went well, of one that did
pub of_ok : {X E : Type 0} (r : Result X E) (x : X) (P : Type 0) → r ≡ Ok x → OnOk r P → P
of_ok {X = X} {E = E} r x P is holds = subst (λ (q : Result X E). OnOk q P) is holds
