-- A stretch that ended by an xrun stays as it is until the client is prepared or closed: the report lists its segment.
use Rattle.run_laws.specs.Prelude.{ap, arith, inl, inr, List, None, Option, refl, Some, subst, sym, ℕ, [], ◌++◌, ◌∙◌, ◌∷◌, ◌≡◌, ◌⊎◌, nat_tests, append-nil}
use Rattle.run_laws.specs.Prelude.{append_assoc, Bool, Err, false, if◌then◌else◌, nat_eq, Ok, Result, true, ◌&&◌, PcmError, Segment, Call, State, Xrun, next_of}
use Rattle.run_laws.specs.Prelude.{Playback, is_moving, nothing_found, refusal_in, refusal_of, Marks, Course, ends, ◌>>=◌, Gives, Gives-any, Gives-map}
use Rattle.run_laws.specs.Prelude.{PlaybackStream, Stretch, after_drop, after_prepare, Answered, is_paused, is_prepared, admitted_by, if_admitted, Sound, Op}
use Rattle.run_laws.specs.Prelude.{Answer, Done, Row, after_call, call_answer, call_of, Client, client_kind, count_answer, done_answer, ended_by, present_of}
use Rattle.run_laws.specs.Prelude.{segments_of, stretch_of, LineMay, LinesMay, AtPort, Rules, client-line}
use Rattle.pcm_states.specs.declared.states.State.TheVariants.{Setup}
use Rattle.run_laws.proofs.OnwardLines.{InOpen, unpaused-ends}
use Rattle.run_laws.proofs.Stages.{lines-last}
use Rattle.snd_base.specs.declared.errors.PcmError.TheVariants as error
use Rattle.pcm_states.specs.declared.calls.Call.TheVariants as call
use Rattle.lab_lines.specs.declared.line.Op.TheVariants as op

-- a stream in these states places nothing and takes nothing back until it is prepared
abbrev pub is_sealed : State → Bool
is_sealed Xrun = true
is_sealed Setup = true
is_sealed other = false

abbrev IsRefused : Call → Bool
IsRefused call.Start = true
IsRefused call.Transfer = true
IsRefused call.Sync = true
IsRefused call.Pause = true
IsRefused call.Resume = true
IsRefused other = false

refused-by : (stopped : Bool) (s : State) (asked : Call) → is_sealed s ≡ true → IsRefused asked ≡ true
    → (if stopped then Some error.Stopped else refusal_in (next_of s asked (nothing_found Playback)).answer) ≡ None → ⊥
refused-by stopped other asked sealed is none = grind (arith, nat_tests)

sealed-still : (s : State) → is_sealed s ≡ true → (is_moving s ≡ false) × (is_prepared s ≡ false) × (is_paused s ≡ false)
sealed-still other sealed = grind (arith, nat_tests)

-- the segment of a stretch
abbrev segment_in : Stretch → List Segment
segment_in s = if nat_eq s.committed 0 && nat_eq s.part 0 then [] else (record { source = s.source; card = s.card; whole = s.committed; part = s.part }) ∷ []

-- ---- a call of a sealed stream

-- a call left the stretch as it was, or it ended it
abbrev Leaves : PlaybackStream → Op → PlaybackStream × Answer → Type 0
Leaves c asked (d, answer) =
    ((ended_by asked answer c d ≡ []) × (d.stretch ≡ c.stretch) × (is_sealed d.status.state ≡ true))
    ⊎ (ended_by asked answer c d ≡ stretch_of c)

module _ (c : PlaybackStream) (sealed : is_sealed c.status.state ≡ true) where
  -- a refused call
  refused : {X : Type 0} (answer : Result X PcmError → Answer) (asked : Op) (called : Call) (m : Course (Answered X)) → IsRefused called ≡ true
      → ((d : PlaybackStream) (given : Answer) → ended_by asked given c d ≡ []) → Gives (Leaves c asked) (call_answer answer (if_admitted c called m))
  unfolding ◌>>=◌
  refused answer asked called m is_refused none = grind (arith, nat_tests)

  -- a call that is done at once
  at-once : (asked : Op) (refusal : Option PcmError) (d : PlaybackStream) → ((e : PcmError) → ended_by asked (done_answer (Err e)) c c ≡ []) → Leaves c asked (d, Done)
      → Gives (Leaves c asked) (call_answer done_answer (admitted_by refusal c (ends (d, Ok tt))))
  unfolding ◌>>=◌
  at-once asked None d none leaves = leaves
  at-once asked (Some e) d none leaves = inl (none e, refl, sealed)

  call-leaves : (wav : Sound) (marks : Marks) (asked : Op) → Gives (Leaves c asked) (call_of wav marks c asked)
  call-leaves wav marks (op.Write n) = refused count_answer (op.Write n) call.Transfer _ refl (λ d given. refl)
  call-leaves wav marks op.Start = refused done_answer op.Start call.Start _ refl (λ d given. refl)
  call-leaves wav marks op.Sync = refused done_answer op.Sync call.Sync _ refl (λ d given. refl)
  call-leaves wav marks op.Avail = refused count_answer op.Avail call.Sync _ refl (λ d given. refl)
  call-leaves wav marks op.Delay = refused count_answer op.Delay call.Sync _ refl (λ d given. refl)
  call-leaves wav marks op.Drain = let still = sealed-still c.status.state sealed in
      rw still.0 (rw still.1 (at-once op.Drain (refusal_of Playback c.status call.Drain) (after_drop c) (λ e. refl) (inl (refl, refl, refl))))
  call-leaves wav marks op.Drop = at-once op.Drop (refusal_of Playback c.status call.Drop) (after_drop c) (λ e. refl) (inl (refl, refl, refl))
  call-leaves wav marks op.Prepare = at-once op.Prepare (refusal_of Playback c.status call.Prepare) (after_prepare c) (λ e. refl) (inr refl)
  call-leaves wav marks op.Pause = refused done_answer op.Pause call.Pause _ refl (λ d given. refl)
  call-leaves wav marks op.Resume = refused done_answer op.Resume call.Resume _ refl
      (λ d given. unpaused-ends given c d (sealed-still c.status.state sealed).2)
  call-leaves wav marks (op.Rewind n) = refused count_answer (op.Rewind n) call.Transfer _ refl (λ d given. refl)
  call-leaves wav marks op.Rewindable = refused count_answer op.Rewindable call.Transfer _ refl (λ d given. refl)
  call-leaves wav marks other = inl (refl, refl, sealed)

-- ---- a client

-- some segments are the first ones of others
abbrev pub IsStart : List Segment → List Segment → Type 0
IsStart list all = (more : List Segment) × (all ≡ list ++ more)

-- these are the segments of a client so far, and its stretch is sealed, or they are the first ones that it ended
abbrev pub Over : List Segment → Client → Type 0
Over list client = IsStart list client.ended ⊎ ((segments_of client ≡ list) × InOpen client.own (λ d. is_sealed d.status.state ≡ true))

pub over-start : (list : List Segment) (client : Client) → Over list client → IsStart list (segments_of client)
over-start list client (inl (more, is)) =
    (more ++ present_of client.own, ap (λ l. l ++ present_of client.own) is ∙ append_assoc list more (present_of client.own))
over-start list client (inr (is, sealed)) = ([], is ∙ sym (append-nil list))

after-leaves : (client : Client) (c d : PlaybackStream) (asked : Op) (answer : Answer) → client.own ≡ Some c → Leaves c asked (d, answer)
    → Over (segments_of client) (after_call client c asked (d, answer)).0
after-leaves client c d asked answer own (inl (none, same, sealed)) = rw own (rw none (inr (
  ap (λ l. l ++ stretch_of d) (append-nil client.ended) ∙ ap (λ (s : Stretch). client.ended ++ segment_in s) same,
  sealed,
)))
after-leaves client c d asked answer own (inr is) = rw own (rw is (inl ([], sym (append-nil (client.ended ++ stretch_of c)))))

-- ---- a line

module _ (rules : Rules) (phase : ℕ) (wav : Sound) (number : ℕ) (a b : AtPort) (client after : Client) (asked : Op) (answer : Answer)
    (may : LineMay (client_kind phase wav number) rules (a, client) asked (b, after) answer) where
  -- of a client whose stretch is sealed
  sealed-line : InOpen client.own (λ d. is_sealed d.status.state ≡ true) → Over (segments_of client) after
  sealed-line sealed = client-line (λ (x : Client × Answer). Over (segments_of client) x.0) rules phase wav number a b client after asked answer
      (λ none. inr (refl, sealed)) (λ c own. inr (refl, sealed)) (λ c own. inr (refl, sealed))
      (λ c own marks. Gives-map (Leaves c asked) (λ (x : PlaybackStream × Answer). Over (segments_of client) (after_call client c asked x).0) (call_of wav marks c asked)
      (call-leaves c (subst (λ (o : Option PlaybackStream). InOpen o (λ d. is_sealed d.status.state ≡ true)) own sealed) wav marks asked)
      (λ done leaves. after-leaves client c done.0 asked done.1 own leaves)) may

  -- none takes back what ended
  ended-line : IsStart client.ended after.ended
  ended-line = client-line (λ (x : Client × Answer). IsStart client.ended x.0.ended) rules phase wav number a b client after asked answer (λ none. same) (λ c own. same) (λ c own. same)
      (λ c own marks. Gives-any (λ (x : PlaybackStream × Answer). IsStart client.ended (after_call client c asked x).0.ended) (call_of wav marks c asked)
      (λ x. (ended_by asked x.1 c x.0, refl))) may
    where
      same : IsStart client.ended client.ended
      same = ([], sym (append-nil client.ended))

  pub over-line : (list : List Segment) → Over list client → Over list after
  over-line list (inl (more, is)) = let grows = ended-line in inl (more ++ grows.0, grows.1 ∙ ap (λ l. l ++ grows.0) is ∙ append_assoc list more grows.0)
  over-line list (inr (is, sealed)) = subst (λ l. Over l after) is (sealed-line sealed)

pub over-lines : (list : List Segment) (rules : Rules) (phase : ℕ) (wav : Sound) (number : ℕ) (x y : AtPort × Client) (ops : List Op) (rows : List Row)
    → Over list x.1 → LinesMay (client_kind phase wav number) rules x ops y rows → Over list y.1
over-lines list rules phase wav number x y ops rows over may = lines-last (client_kind phase wav number) rules (λ z. Over list z.1)
    (λ z between asked answer one so. over-line rules phase wav number z.0 between.0 z.1 between.1 asked answer one list so) x y ops rows may over

-- ---- what an opening and a closing make of it

pub over-opens : (list : List Segment) (client : Client) (own : Option PlaybackStream) → client.own ≡ None → Over list client → Over list (record client { own = own })
over-opens list client own none (inl is) = inl is
over-opens list client own none (inr (is, sealed)) = absurd (subst (λ o. InOpen o (λ d. is_sealed d.status.state ≡ true)) none sealed)

pub over-ends : (list : List Segment) (client : Client) → Over list client → Over list (record { own = None; ended = segments_of client })
over-ends list client over = inl (over-start list client over)
