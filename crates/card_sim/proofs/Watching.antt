-- What a watch sees of the steps of a run.
use Rattle.card_sim.specs.Prelude.{ap, append-nil, arith, Bool, false, if◌then◌else◌, List, refl, subst, suc, sym, true, ℕ, ℤ, [], ◌++◌, ◌+◌, ◌∙◌, ◌∷◌, ◌≡◌}
use Rattle.card_sim.specs.Prelude.{Geometry, Cursor, first_frame, last_number, last_position, next_of_player, position_of_player, WriterSeat, next_frame}
use Rattle.card_sim.specs.Prelude.{writer_geometry, writer_track, CardPlayer, last_number-append, at_frame, ends_period, seat_of, frame_moments, last_period}
use Rattle.card_sim.specs.Prelude.{Moment, moment_at, moment_of, moments_of, moments_to, period_moments, position_of_writer, publish_moments, SightsCompose}
use Rattle.card_sim.specs.Prelude.{HasCaptured}
use Rattle.std.proofs.Math.Numerals.{suc-eq-add-one}

-- the writer's last position after it published some more
pub position_of_writer-captured : (w v : WriterSeat) (samples : List ℤ) (positions : List ℕ) → HasCaptured w v samples positions
    → position_of_writer v ≡ last_number (position_of_writer w) positions
position_of_writer-captured w v samples positions did =
    ap (λ (g : Geometry). last_position g (writer_track v).published) did.geometry
    ∙ (ap (λ (ps : List ℕ). last_position (writer_geometry w) ps) did.published
    ∙ last_number-append (first_frame (writer_geometry w)) (writer_track w).published positions)

-- what two seats are at, by the frames and positions that they have
pub moment_of-at : (p : CardPlayer) (w : WriterSeat) (stores takes played captured : ℕ)
    → next_frame w ≡ stores → next_of_player (seat_of p) ≡ at_frame takes → position_of_player (seat_of p) ≡ played → position_of_writer w ≡ captured
    → moment_of p w ≡ moment_at stores takes played captured
moment_of-at p w stores takes played captured stores_is takes_is played_is captured_is =
    subst (λ (s : ℕ). moment_of p w ≡ record { stores = s; takes = at_frame takes; played = played; captured = captured }) stores_is
    (subst (λ (t : Cursor). moment_of p w ≡ record { stores = next_frame w; takes = t; played = played; captured = captured }) takes_is
    (subst (λ (a : ℕ). moment_of p w ≡ record { stores = next_frame w; takes = next_of_player (seat_of p); played = a; captured = captured }) played_is
    (subst (λ (b : ℕ). moment_of p w ≡ record { stores = next_frame w; takes = next_of_player (seat_of p); played = position_of_player (seat_of p); captured = b }) captured_is
    refl)))

-- two moments, one after the other
pub saw-both : {T : Type 0} (saw : T → T → List Moment → Type 0) → SightsCompose saw → (a b c : T) (x y m n : Moment)
    → saw a b (x ∷ []) → saw b c (y ∷ []) → x ≡ m → y ≡ n → saw a c (m ∷ n ∷ [])
saw-both saw composes a b c x y m n first second is_first is_second = rw (← is_first, ← is_second) (composes.joined a b c (x ∷ []) (y ∷ []) first second)

-- one frame more, and the period that it may end
pub saw-more : {T : Type 0} (saw : T → T → List Moment → Type 0) → SightsCompose saw → (a b c d : T) (period first captured n frame played before next last : ℕ)
    → saw a b (moments_to period first captured n)
    → saw b c (frame_moments frame played before) → frame ≡ first + n → played ≡ last_period period first first n → before ≡ last_period period first captured n
    → saw c d (period_moments period next last) → next ≡ first + n + 1 → last ≡ before
    → saw a d (moments_to period first captured (n + 1))
saw-more saw composes a b c d period first captured n frame played before next last were frame_seen frame_is played_is before_is period_seen next_is last_is =
    let P : ℕ = last_period period first first n in
    let C : ℕ = last_period period first captured n in
    let of_frame : saw b c (frame_moments (first + n) P C) = rw (frame_is, played_is, before_is) at frame_seen in
    let suc_next : next ≡ first + suc n = omega (arith, next_is) in
    let of_period : saw c d (period_moments period (first + suc n) C) = rw (suc_next, last_is, before_is) at period_seen in
    subst (λ (k : ℕ). saw a d (moments_to period first captured k)) (suc-eq-add-one n)
    (composes.joined a b d (moments_to period first captured n)
    (frame_moments (first + n) P C ++ period_moments period (first + suc n) C)
    were (composes.joined b c d (frame_moments (first + n) P C) (period_moments period (first + suc n) C) of_frame of_period))

-- all frames are run: the end is published where it isn't a multiple of the period
pub saw-published : {T : Type 0} (saw : T → T → List Moment → Type 0) → SightsCompose saw → (a b c : T) (period first captured n frame before : ℕ)
    → saw a b (moments_to period first captured n) → ends_period period first n ≡ false
    → saw b c (publish_moments frame before) → frame ≡ first + n → before ≡ last_period period first captured n
    → saw a c (moments_of period first captured n)
saw-published saw composes a b c period first captured n frame before were not_ended seen frame_is before_is =
    let C : ℕ = last_period period first captured n in
    subst (λ (e : Bool). saw a c (moments_to period first captured n ++ (if e then [] else publish_moments (first + n) C))) (sym not_ended)
    (composes.joined a b c (moments_to period first captured n) (publish_moments (first + n) C) were (rw (frame_is, before_is) at seen))

-- the end is a multiple of the period: it is published already
pub saw-ended : {T : Type 0} (saw : T → T → List Moment → Type 0) (a b : T) (period first captured n : ℕ)
    → saw a b (moments_to period first captured n) → ends_period period first n ≡ true
    → saw a b (moments_of period first captured n)
saw-ended saw a b period first captured n were ended =
    let C : ℕ = last_period period first captured n in
    subst (λ (e : Bool). saw a b (moments_to period first captured n ++ (if e then [] else publish_moments (first + n) C))) (sym ended)
    (rw append-nil were)
