-- A client's line, as the client did it at its port, is a part of that client.
use Rattle.lab_run.specs.Prelude.{ap, Option, refl, Some, subst, sym, ℕ, ◌∙◌, ◌≡◌, false, List, Result, true, ℤ, ◌++◌, PcmError, Geometry, Cursor, Segment}
use Rattle.lab_run.specs.Prelude.{Composes, Marks, Entry, ShowsFrom, LaysAt, LoadsAt, NoGet, TakesAt, Course, ends, Takes, ◌>>=◌, Takes-map, PlaybackStream}
use Rattle.lab_run.specs.Prelude.{Answered, if_admitted, Sound, Op, Answer, DoesGet, DoesLay, DoesLoad, Doing, Alike, CallsAreAlike, SameButMember, SameFrom}
use Rattle.lab_run.specs.Prelude.{after_call, begins, call_answer, call_of, Client, count_answer, done_answer, line_by, write_course, after_seat_call}
use Rattle.lab_run.specs.Prelude.{ClientLinesAreParts, IsOffered, made_call, MakesCall, with_member, CountsDown, MarksAlike, AtPort}
use Rattle.lab_run.proofs.AlikeLaws.{Alike-then}
use Rattle.lab_run.proofs.CallsAlike.{calls-alike}
use Rattle.lab_run.proofs.MarksLaws.{cursor-same, floor-same}
use Rattle.lab_run.proofs.MemberLaws.{ended-member}
use Rattle.lab_run.proofs.PortLaws.{course-part}
use Rattle.mix_core.specs.declared.gate.Gate as gates
use Rattle.mix_core.specs.declared.port.MixPort as mixport
use Rattle.pcm_states.specs.declared.calls.Call.TheVariants as call
use Rattle.dmix_client.specs.Course as client_calls
use Rattle.lab_lines.specs.declared.line.Op.TheVariants as op

-- a client and an answer, and those of the client with another member
abbrev IsRenumbered : ℕ → PlaybackStream × Answer → PlaybackStream × Answer → Type 0
IsRenumbered member x y = y ≡ (with_member member x.0, x.1)

-- a call with its answer, and then a function of both
answered-alike : {X : Type 0} (from member : ℕ) (answer : Result X PcmError → Answer) (m n : Course (Answered X)) → Alike from (SameButMember member answer) m n
    → Alike from (IsRenumbered member) (call_answer answer m) (call_answer answer n)
answered-alike from member answer m n alike =
    Alike-then from (SameButMember member answer) (IsRenumbered member) m n (λ done. ends (done.0, answer done.1)) (λ done. ends (done.0, answer done.1)) alike
    (λ x y is. λ i. (sym is.client i, sym is.answer_is i))

other-way : (from : ℕ) (one other : Cursor) → SameFrom from one other → SameFrom from other one
other-way from one other same position after = sym (same position after)

-- the call as a client makes it, and as it is in a run
call-alike : (ring : Geometry) (from member : ℕ) (before : Cursor) (wav : Sound) (held samples : List ℤ) (own port : Marks) (c : PlaybackStream) (asked : Op)
    → MarksAlike ring from before own port → IsOffered wav c samples asked
    → Alike from (IsRenumbered member) (made_call held samples port c asked) (call_of wav own (with_member member c) asked)
call-alike ring from member before wav held samples own port c asked marks = by_op asked
  where
    calls : CallsAreAlike from member c held port.cursor own.cursor port.floor own.floor
    calls = calls-alike from member c held port.cursor own.cursor port.floor own.floor
        (other-way from own.cursor port.cursor (cursor-same ring from before own port marks)) (other-way from own.floor port.floor (floor-same ring from before own port marks))

    by_op : (asked : Op) → IsOffered wav c samples asked → Alike from (IsRenumbered member) (made_call held samples port c asked) (call_of wav own (with_member member c) asked)
    by_op (op.Write n) offered = answered-alike from member count_answer _ _
        (subst (λ k. Alike from (SameButMember member count_answer) (if_admitted c call.Transfer (client_calls.write_course c held samples port.cursor)) (if_admitted (with_member member c) call.Transfer (write_course (with_member member c) own.cursor k))) offered (calls.write samples))
    by_op op.Start offered = answered-alike from member done_answer _ _ calls.start
    by_op op.Sync offered = answered-alike from member done_answer _ _ calls.sync
    by_op op.Avail offered = answered-alike from member count_answer _ _ calls.avail
    by_op op.Delay offered = answered-alike from member count_answer _ _ calls.delay
    by_op op.Drain offered = answered-alike from member done_answer _ _ calls.drain
    by_op op.Drop offered = answered-alike from member done_answer _ _ calls.drop
    by_op op.Prepare offered = answered-alike from member done_answer _ _ calls.prepare
    by_op op.Pause offered = answered-alike from member done_answer _ _ (calls.pause true)
    by_op op.Resume offered = answered-alike from member done_answer _ _ (calls.pause false)
    by_op (op.Rewind n) offered = answered-alike from member count_answer _ _ (calls.rewind n)
    by_op op.Rewindable offered = answered-alike from member count_answer _ _ calls.rewindable
    by_op other offered = refl

-- the course of a line that makes a call
line-is_call : (wav : Sound) (marks : Marks) (client : Client) (c : PlaybackStream) (asked : Op) → MakesCall client c asked
    → line_by wav marks client client.own asked ≡ (call_of wav marks c asked >>= λ done. ends (after_call client c asked done))
unfolding ◌>>=◌
line-is_call wav marks client c (op.Die k) makes = absurd (let asks = makes.asks in cc)
line-is_call wav marks client c other makes = rw (makes.is_open, makes.goes) refl

begins-same : (client : Client) (c : PlaybackStream) (asked : Op) (a : AtPort) → MakesCall client c asked → begins client.own asked a ≡ a
begins-same client c (op.Die k) a makes = absurd (let asks = makes.asks in cc)
begins-same client c other a makes = rw (makes.is_open, makes.goes) refl

-- a course was taken in an actor's part
module _ (ring : Geometry) where
  abbrev Done : Doing → Course (Client × Answer) → Doing → Client × Answer → Type 0
  Done before m after end = Takes DoesLoad (DoesLay ring) (DoesGet ring) before m after end

module _ {S T : Type 0} (P : mixport.Ghosts S) (G : gates.Ghosts T) (shown_laid : (p q : S) (es : List Entry) (f c word : ℕ) → P.laid p q es → P.shows p f c ≡ Some word → ShowsFrom P.shows q f c word)
    (composes : Composes P.loaded) (left : T → Option ℕ) (by_gate at_gate : T → ℕ) (counts : CountsDown G.asked left by_gate at_gate) (first : S) (ring : Geometry) (from : ℕ) where
  pub client-lines : ClientLinesAreParts P G left by_gate at_gate first ring from
  client-lines s t phase wav number (a, found) client c held samples asked after answer makes offered at takes =
      let own : PlaybackStream = with_member number c in
      let taken : PlaybackStream × Answer → Client × Answer = λ done. after_call client own asked (with_member number done.0, done.1) in
      let made : Course (Client × Answer) = made_call held samples (P.view s.0).marks c asked >>= λ done. ends (taken done) in
      let line : Course (Client × Answer) = call_of wav a.marks own asked >>= λ done. ends (after_call client own asked done) in
      let alike : Alike from (λ (x y : Client × Answer). x ≡ y) made line =
      Alike-then from (IsRenumbered number) (λ x y. x ≡ y) (made_call held samples (P.view s.0).marks c asked) (call_of wav a.marks own asked)
      (λ done. ends (taken done)) (λ done. ends (after_call client own asked done))
      (call-alike ring from number (P.view first).marks.high wav held samples a.marks (P.view s.0).marks c asked at.marks offered)
      (λ x y is. ap (after_call client own asked) (sym is)) in
      let took : TakesAt P G s made t (taken (after, answer)) =
      Takes-map (LoadsAt P G) (LaysAt P G) NoGet s t (made_call held samples (P.view s.0).marks c asked) taken (after, answer) (taken (after, answer)) takes refl in
      let part = course-part P G shown_laid composes left by_gate at_gate counts first ring from (λ (x y : Client × Answer). x ≡ y) s t (a, found) made line
      (taken (after, answer)) alike at took in
      let left : Client = after_seat_call number client c asked after answer in
      let same : part.result ≡ (left, answer) =
      sym part.alike ∙ ap (λ (segments : List Segment). let end : Client = record { own = Some (with_member number after); ended = client.ended ++ segments } in (end, answer)) (ended-member number asked answer c after) in
      record {
        doing = part.after;
        done = subst (λ (b : AtPort). Done ring (b, found) (line_by wav b.marks client client.own asked) part.after (left, answer)) (sym (begins-same client own asked a makes))
            (subst (λ m. Done ring (a, found) m part.after (left, answer)) (sym (line-is_call wav a.marks client own asked makes))
            (subst (λ y. Done ring (a, found) line part.after y) same part.does));
        at = part.at;
      }
