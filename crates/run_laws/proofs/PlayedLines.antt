-- What each line of a client leaves: it is of its file, and below a position p, which each load is at or past, its segments place the same.
use Rattle.run_laws.specs.Prelude.{ap, arith, inl, inr, List, None, Option, refl, Some, subst, sym, ℕ, [], ◌++◌, ◌+◌, ◌-◌, ◌<◌, ◌∙◌, ◌≡◌, ◌≤◌, ◌⊎◌, nat_tests}
use Rattle.run_laws.specs.Prelude.{append-nil, Bool, Contains, false, IfSome, if◌then◌else◌, not, Ok, true, ◌&&◌, PcmError, Segment, Playback, Status}
use Rattle.run_laws.specs.Prelude.{refusal_of, Marks, ends, ◌>>=◌, PlaybackStream, after_prepare, Answered, is_paused, segment_of, admitted_by, pause_course}
use Rattle.run_laws.specs.Prelude.{Sound, Op, Answer, after_call, call_answer, call_of, Client, client_kind, done_answer, ended_by, frames_of, present_of}
use Rattle.run_laws.specs.Prelude.{segments_of, stretch_of, LineMay, AtPort, Rules, Session, is_new_stretch}
use Rattle.run_laws.proofs.FileCalls.{IsOfFile, Kept, Resumed, call-kept, prepared-anew, resume-from}
use Rattle.run_laws.proofs.Going.{in-open, open-map, still-client}
use Rattle.run_laws.proofs.OnwardLines.{InOpen, append-none}
use Rattle.run_laws.proofs.PlayedCourses.{From, From-then, line-from}
use Rattle.run_laws.proofs.PlayedSegments.{IsAlike, IsPast, alike-same, heard, heard-append, past-none, stretch-alike, stretch-past}
use Rattle.pcm_states.specs.declared.calls.Call.TheVariants as call
use Rattle.lab_lines.specs.declared.line.Op.TheVariants as op

-- ---- a line of an open client

-- a client of its file, with segments that ended: the stretch is alike below p, or it ended too and nothing of a new one is below p
abbrev pub LeavesBy : ℕ → ℕ → ℕ → List Segment → PlaybackStream → List Segment → PlaybackStream → Type 0
LeavesBy f p limit ended c others d = IsOfFile f limit d
    × (((others ≡ ended) × IsAlike p (segment_of c) (segment_of d)) ⊎ ((others ≡ ended ++ stretch_of c) × IsPast p (segment_of d)))

abbrev pub Leaves : ℕ → ℕ → ℕ → Client → PlaybackStream → Client → Type 0
Leaves f p limit client c after = InOpen after.own (LeavesBy f p limit client.ended c after.ended)

-- a call resumes a paused stream only
resumed-paused : (status : Status) → refusal_of Playback status call.Resume ≡ None → is_paused status.state ≡ true
resumed-paused status = grind (arith, nat_tests)

module _ (f p : ℕ) (low : f ≤ p) (wav : Sound) (client : Client) (c : PlaybackStream) (own_is : client.own ≡ Some c) (is : IsOfFile f (frames_of wav) c) where
  abbrev LeavesAfter : ℕ → Client × Answer → Type 0
  LeavesAfter t done = Leaves f p (frames_of wav) client c done.0

  -- the client is as it was
  stays : Leaves f p (frames_of wav) client c client
  stays = subst (λ own. InOpen own (LeavesBy f p (frames_of wav) client.ended c client.ended)) (sym own_is) (is, inl (refl, alike-same p (segment_of c)))

  -- a line whose call ends no stretch
  call-leaves : (m : Marks) (asked : Op) → is_new_stretch asked ≡ false → ((answer : Answer) (d : PlaybackStream) → ended_by asked answer c d ≡ [])
      → From p LeavesAfter 0 (call_of wav m c asked >>= λ done. ends (after_call client c asked done))
  call-leaves m asked not none =
      From-then p (λ t done. Kept f p (frames_of wav) low c done) LeavesAfter 0 (call_of wav m c asked) (λ done. ends (after_call client c asked done))
      (call-kept f p (frames_of wav) low c is wav m (λ n. let most = is.0.most in omega (arith, most)) asked not)
      (λ t done kept. (kept.0, inl (append-none client.ended (ended_by asked done.1 c done.0) (none done.1 done.0), kept.1)))

  prepare-leaves : (m : Marks) → From p LeavesAfter 0 (call_of wav m c op.Prepare >>= λ done. ends (after_call client c op.Prepare done))
  unfolding ◌>>=◌
  prepare-leaves m = by_refusal (refusal_of Playback c.status call.Prepare)
    where
      by_refusal : (refusal : Option PcmError) → From p LeavesAfter 0
          (call_answer done_answer (admitted_by refusal c (ends (after_prepare c, Ok tt))) >>= λ done. ends (after_call client c op.Prepare done))
      by_refusal None = (prepared-anew f p (frames_of wav) low c is, inr (refl, past-none p (segment_of (after_prepare c)) refl refl))
      by_refusal (Some e) = (is, inl (append-nil client.ended, alike-same p (segment_of c)))

  resume-leaves : (m : Marks) → From p LeavesAfter 0 (call_of wav m c op.Resume >>= λ done. ends (after_call client c op.Resume done))
  unfolding ◌>>=◌
  resume-leaves m = by_refusal (refusal_of Playback c.status call.Resume) refl
    where
      none-ended : (paused : Bool) → (if paused && not paused then stretch_of c else []) ≡ []
      none-ended true = refl
      none-ended false = refl

      on : is_paused c.status.state ≡ true → (t : ℕ) (done : PlaybackStream × Answer) → Resumed f p (frames_of wav) low c is done
          → From p LeavesAfter t (ends (after_call client c op.Resume done))
      on was t (d, answer) (there, inl (still, alike)) = (there, inl (append-none client.ended _ (rw was (rw still refl)), alike))
      on was t (d, answer) (there, inr (other, past)) = (there, inr (ap (λ l. client.ended ++ l) (rw was (rw other refl)), past))

      by_refusal : (refusal : Option PcmError) → refusal_of Playback c.status call.Resume ≡ refusal → From p LeavesAfter 0
          (call_answer done_answer (admitted_by refusal c (pause_course false c [] m.cursor)) >>= λ done. ends (after_call client c op.Resume done))
      by_refusal None admits = let was = resumed-paused c.status admits in
          From-then p (λ t (done : PlaybackStream × Answer). Resumed f p (frames_of wav) low c is done) LeavesAfter 0
          (call_answer done_answer (pause_course false c [] m.cursor)) (λ done. ends (after_call client c op.Resume done))
          (From-then p (λ t (done : Answered (Unit {0})). Resumed f p (frames_of wav) low c is done) (λ t (done : PlaybackStream × Answer). Resumed f p (frames_of wav) low c is done) 0
          (pause_course false c [] m.cursor) (λ done. ends (done.0, done_answer done.1)) (resume-from f p (frames_of wav) low c is m.cursor was) (λ t done resumed. resumed)) (on was)
      by_refusal (Some e) refused =
          (is, inl (append-none client.ended (if is_paused c.status.state && not (is_paused c.status.state) then stretch_of c else []) (none-ended (is_paused c.status.state)), alike-same p (segment_of c)))

  -- ---- each line

  op-leaves : (m : Marks) (asked : Op) → From p LeavesAfter 0 (call_of wav m c asked >>= λ done. ends (after_call client c asked done))
  op-leaves m op.Prepare = prepare-leaves m
  op-leaves m op.Resume = resume-leaves m
  op-leaves m asked = call-leaves m asked refl (λ answer d. refl)

-- a line that is done
pub done-leaves : (f p : ℕ) → f ≤ p → (rules : Rules) → ((q : ℕ) → Contains rules.published q → p ≤ q) → (phase : ℕ) (wav : Sound) (number : ℕ) (a b : AtPort) (client after : Client)
    (asked : Op) (answer : Answer) (c : PlaybackStream) → client.own ≡ Some c → IsOfFile f (frames_of wav) c
    → LineMay (client_kind phase wav number) rules (a, client) asked (b, after) answer → Leaves f p (frames_of wav) client c after
done-leaves f p low rules least phase wav number a b client after asked answer c own_is is may =
    line-from rules p least phase wav number a b client after asked answer c own_is (Leaves f p (frames_of wav) client c)
    (stays f p low wav client c own_is is) (op-leaves f p low wav client c own_is is) may

-- the client is of its file
pub leaves-file : (f p limit : ℕ) (client : Client) (c : PlaybackStream) (after : Client) → Leaves f p limit client c after → IfSome after.own (IsOfFile f limit)
leaves-file f p limit client c after leaves = in-open (IsOfFile f limit) after.own
    (open-map (LeavesBy f p limit client.ended c after.ended) (IsOfFile f limit) after.own (λ d left. left.0) leaves)

-- ---- what a client's segments place

module _ (session : Session) (n frame channel p : ℕ) (before : frame < p) where
  leaves-heard : (f limit : ℕ) (client : Client) (c : PlaybackStream) (after : Client) → client.own ≡ Some c → Leaves f p limit client c after
      → heard session n frame channel (segments_of after) ≡ heard session n frame channel (segments_of client)
  leaves-heard f limit client c after is leaves = by_own after.own refl leaves ∙ ap (λ own. heard session n frame channel (client.ended ++ present_of own)) (sym is)
    where
      by_own : (own : Option PlaybackStream) → after.own ≡ own → InOpen own (LeavesBy f p limit client.ended c after.ended)
          → heard session n frame channel (after.ended ++ present_of after.own) ≡ heard session n frame channel (client.ended ++ stretch_of c)
      by_own None there leaves = absurd leaves
      by_own (Some d) there (of, inl (ended, alike)) =
          (λ i. heard session n frame channel (ended i ++ present_of (there i)))
          ∙ heard-append session n frame channel client.ended (stretch_of d)
          ∙ ap (λ l. heard session n frame channel client.ended ++ l) (sym (stretch-alike session n frame channel p c d before alike))
          ∙ sym (heard-append session n frame channel client.ended (stretch_of c))
      by_own (Some d) there (of, inr (ended, past)) =
          (λ i. heard session n frame channel (ended i ++ present_of (there i)))
          ∙ heard-append session n frame channel (client.ended ++ stretch_of c) (stretch_of d)
          ∙ ap (λ l. heard session n frame channel (client.ended ++ stretch_of c) ++ l) (stretch-past session n frame channel p d before past)
          ∙ append-nil (heard session n frame channel (client.ended ++ stretch_of c))

  -- what a line leaves of them
  pub line-heard : (rules : Rules) → ((q : ℕ) → Contains rules.published q → p ≤ q) → (phase : ℕ) (wav : Sound) (number : ℕ) (a b : AtPort) (client after : Client) (asked : Op)
      (answer : Answer) → IfSome client.own (IsOfFile 0 (frames_of wav)) → LineMay (client_kind phase wav number) rules (a, client) asked (b, after) answer
      → heard session n frame channel (segments_of after) ≡ heard session n frame channel (segments_of client)
  line-heard rules least phase wav number a b client after asked answer is may = by_own client.own refl
    where
      by_own : (own : Option PlaybackStream) → client.own ≡ own → heard session n frame channel (segments_of after) ≡ heard session n frame channel (segments_of client)
      by_own None none = ap (λ (k : Client). heard session n frame channel (segments_of k)) (still-client rules phase wav number a b client after asked answer none may)
      by_own (Some c) own_is = leaves-heard 0 (frames_of wav) client c after own_is
          (done-leaves 0 p (omega arith) rules least phase wav number a b client after asked answer c own_is (subst (λ o. IfSome o (IsOfFile 0 (frames_of wav))) own_is is) may)
