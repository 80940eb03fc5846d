-- The call that a line names, from what the client's call says.
use Rattle.lab_clients.specs.Prelude.{ap, arith, length, List, refl, subst, sym, ℕ, [], ◌++◌, ◌∙◌, ◌≡◌, ◌≤◌, nat_tests, append-nil, Bool, Err, false}
use Rattle.lab_clients.specs.Prelude.{if◌then◌else◌, None, not, Ok, Option, Result, Some, true, ℤ, ◌&&◌, ◌⊎◌, PcmError, BadState, Segment, Composes, State}
use Rattle.lab_clients.specs.Prelude.{Paused, Playback, is_moving, refusal_of, Entry, AreAdds, Course, ends, ◌>>=◌, Gives, Gives-taken, PlaybackStream}
use Rattle.lab_clients.specs.Prelude.{after_pause, after_prepare, Answered, base_of, in_state, is_paused, with_new_base, if_admitted, AnySamples, IsBacked}
use Rattle.lab_clients.specs.Prelude.{Keeps, KeepsBack, segment_entries, IsBacked-back, IsBacked-grows, IsBacked-new, IsBacked-rebased, ClientView}
use Rattle.lab_clients.specs.Prelude.{IsSoundClient, Sound, Op, Answer, Done, Failed, call_answer, done_answer, ended_by, frames_of, reported_error, stretch_of}
use Rattle.lab_clients.specs.Prelude.{IsOffered, made_call, ExtendsStretches, HasClientCalled, IsReady}
use Rattle.pcm_states.specs.declared.calls.Call.{Call}
use Rattle.course.specs.AtPort.{LaysAt, LoadsAt, NoGet, TakesAt}
use Rattle.course.specs.CourseLaws.{Takes-map}
use Rattle.dmix_client.specs.CallRelations.{Calls}
use Rattle.dmix_client.specs.Port.{CanUse}
use Rattle.lab_clients.proofs.Answered.{no_end}
use Rattle.lab_clients.proofs.Fed.{IsFed}
use Rattle.lab_clients.proofs.StretchLaws.{ExtendsStretches-back, ExtendsStretches-ended, ExtendsStretches-grows, ExtendsStretches-joined, ExtendsStretches-still}
use Rattle.mix_core.specs.declared.gate.Gate as gates
use Rattle.mix_core.specs.declared.port.MixPort as mixport
use Rattle.pcm_states.specs.declared.calls.Call.TheVariants as call
use Rattle.lab_lines.specs.declared.line.Op.TheVariants as op

-- a pause ends no stretch
pub none-paused : (c d : ClientView) → ((e : PcmError) → refusal_of Playback c.stream.status call.Pause ≡ Some e → d ≡ c)
    → (refusal_of Playback c.stream.status call.Pause ≡ None → d ≡ record { stream = after_pause c.stream; ring = c.ring })
    → (is_paused c.stream.status.state && not (is_paused d.stream.status.state)) ≡ false
none-paused c d refused pauses = grind (arith, nat_tests)

-- a client in which nothing but its state changed, so that it moves no frames
pub IsReady-resting : {S : Type 0} (P : mixport.Ghosts S) (wav : Sound) (p : S) (c : ClientView) (state : State) → is_moving state ≡ false → IsReady P wav p c
    → IsReady P wav p (record { stream = in_state c.stream state; ring = c.ring })
IsReady-resting P wav p c state rests ready = grind (arith, nat_tests)

-- the call that a line names, by the answer of the line
module _ {S T : Type 0} (P : mixport.Ghosts S) (G : gates.Ghosts T) where
  -- a client that is prepared anew
  pub IsReady-prepared : ((p : S) (xs ys : List Entry) → P.ends_in p (xs ++ ys) → P.ends_in p ys) → (wav : Sound) (p : S) (c : ClientView) → IsReady P wav p c
      → IsReady P wav p (record { stream = after_prepare c.stream; ring = c.ring })
  IsReady-prepared ends_in_part wav p c ready = record {
    usable = record {
      same_geometry = ready.usable.same_geometry;
      same_member = ready.usable.same_member;
      can = ready.usable.can;
      behind = λ moves going. absurd (cc);
      newer = λ moves going. absurd (cc);
    };
    backed = IsBacked-new P G p (record { stream = after_prepare c.stream; ring = c.ring }) wav.samples refl refl refl
        (ends_in_part p (segment_entries c.stream wav.samples) [] (subst (P.ends_in p) (sym (append-nil (segment_entries c.stream wav.samples))) ready.backed.segment));
    channels = ready.channels;
    fed = ready.fed;
  }

  -- a call was taken, and its answer is the line's
  pub answer-taken : {X : Type 0} (answer : Result X PcmError → Answer) (s t : S × T) (c d : ClientView) (line : Op) (samples : List ℤ) (m : Course (Answered X)) (result : Result X PcmError) (is : Answer)
      → TakesAt P G s m t (d.stream, result) → made_call c.ring samples (P.view s.0).marks c.stream line ≡ call_answer answer m → is ≡ answer result
      → TakesAt P G s (made_call c.ring samples (P.view s.0).marks c.stream line) t (d.stream, is)
  answer-taken {X = X} answer s t c d line samples m result is takes course_is same =
      subst (λ (call : Course (PlaybackStream × Answer)). TakesAt P G s call t (d.stream, is)) (sym course_is)
      (Takes-map (LoadsAt P G) (LaysAt P G) NoGet s t m (λ (done : Answered X). (done.0, answer done.1)) (d.stream, result) (d.stream, is) takes (ap (λ (a : Answer). (d.stream, a)) (sym same)))

  -- it leaves no more frames accepted than the file has
  pub fed-within : {X : Type 0} (limit : ℕ) (s t : S × T) (wav : Sound) (d : PlaybackStream) (m : Course (Answered X)) (result : Result X PcmError) → TakesAt P G s m t (d, result)
      → Gives (IsFed limit) m → limit ≤ frames_of wav → d.fed ≤ frames_of wav
  fed-within limit s t wav d m result takes gives few =
      let most = (Gives-taken (LoadsAt P G) (LaysAt P G) NoGet (IsFed limit) s t m (d, result) gives takes).most in omega (arith, most, few)

  module _ (composes : Composes P.laid) where
    -- a call without steps: it is refused, or the client is another one after it
    pub called-state : (s : S × T) (wav : Sound) (c d : ClientView) (asked line : Op) (what : Call) (after : PlaybackStream) (result : Result (Unit {0}) PcmError) (is : Answer)
        → IsReady P wav s.0 c → asked ≡ line → made_call c.ring [] (P.view s.0).marks c.stream line ≡ call_answer done_answer (if_admitted c.stream what (ends (after, Ok tt)))
        → IsOffered wav c.stream [] line → ((e : PcmError) → refusal_of Playback c.stream.status what ≡ Some e → (result ≡ Err e) × (d ≡ c))
        → (refusal_of Playback c.stream.status what ≡ None → (result ≡ Ok tt) × (d ≡ record { stream = after; ring = c.ring })) → is ≡ done_answer result
        → IsReady P wav s.0 (record { stream = after; ring = c.ring }) → ExtendsStretches P wav.samples s.0 s.0 c.stream after (ended_by line Done c.stream after)
        → HasClientCalled P G s s wav c d asked is
    unfolding ◌>>=◌
    called-state s wav c d asked line what after result is ready named course_is offered refused admits same ready_after extends = by_refusal (refusal_of Playback c.stream.status what) refl
      where
        called : (v : ClientView) (x : Result (Unit {0}) PcmError) → (result ≡ x) × (d ≡ v)
            → TakesAt P G s (call_answer done_answer (if_admitted c.stream what (ends (after, Ok tt)))) s (v.stream, done_answer x) → IsReady P wav s.0 v
            → ExtendsStretches P wav.samples s.0 s.0 c.stream v.stream (ended_by line (done_answer x) c.stream v.stream) → HasClientCalled P G s s wav c d asked is
        called v x now takes ready extends = rw (named, now.1, same ∙ ap done_answer now.0) (record {
          samples = [];
          offered = offered;
          takes = subst (λ (m : Course (PlaybackStream × Answer)). TakesAt P G s m s (v.stream, done_answer x)) (sym course_is) takes;
          ready = ready;
          extends = extends;
        })

        by_refusal : (refusal : Option PcmError) → refusal_of Playback c.stream.status what ≡ refusal → HasClientCalled P G s s wav c d asked is
        by_refusal None found = called (record { stream = after; ring = c.ring }) (Ok tt) (admits found) (rw found (record { there = refl; result = refl })) ready_after extends
        by_refusal (Some e) found =
            let now = refused e found in
            called c (Err e) now (rw found (record { there = refl; result = refl })) ready
            (subst (ExtendsStretches P wav.samples s.0 s.0 c.stream c.stream) (sym (no_end line (reported_error e) c.stream))
            (ExtendsStretches-still P composes s.0 c.stream c.stream wav.samples [] refl refl refl))

    -- a rewind
    pub called-back : {X : Type 0} {result : Result X PcmError} {what : Call} {course : Course (Answered X)} {Cause : Type 0} (answer : Result X PcmError → Answer) (s t : S × T) (wav : Sound) (c d : ClientView)
        (asked : Op) (frames : ℕ) (is : Answer) → IsReady P wav s.0 c → asked ≡ op.Rewind frames → Calls P G s t c d result what course (KeepsBack P G s t c d result) Cause
        → made_call c.ring [] (P.view s.0).marks c.stream (op.Rewind frames) ≡ call_answer answer (if_admitted c.stream what course) → is ≡ answer result
        → Gives (IsFed c.stream.fed) (if_admitted c.stream what course) → HasClientCalled P G s t wav c d asked is
    called-back {result = result} {what = what} {course = course} answer s t wav c d asked frames is ready named calls course_is same gives =
        let loses = calls.keeps.loses wav.samples ready.backed.stands in
        rw named (record {
          samples = [];
          offered = tt;
          takes = answer-taken answer s t c d (op.Rewind frames) [] (if_admitted c.stream what course) result is calls.takes course_is same;
          ready = record {
            usable = calls.keeps.port;
            backed = IsBacked-back P G s t c d result wav.samples calls.keeps ready.backed;
            channels = ap length loses.same_bindings ∙ ready.channels;
            fed = fed-within c.stream.fed s t wav d.stream (if_admitted c.stream what course) result calls.takes gives ready.fed;
          };
          extends = ExtendsStretches-back P composes s.0 t.0 c.stream d.stream wav.samples loses;
        })

    module _ (held_laid : (p q : S) (xs es : List Entry) → AreAdds es → P.laid p q es → P.ends_in p xs → P.ends_in q (xs ++ es)) where
      -- A call that places entries, or none. It begins with the client as it was, or, where the stretch of this one ended, with another.
      pub called-from : {X : Type 0} {result : Result X PcmError} {For : List ℤ → Type 0} (s t : S × T) (wav : Sound) (c b d : ClientView) (asked : Op) (is : Answer) (samples : List ℤ)
          (ended : List Segment) → IsOffered wav c.stream samples asked → TakesAt P G s (made_call c.ring samples (P.view s.0).marks c.stream asked) t (d.stream, is)
          → Keeps P G s t b d result For → For wav.samples → IsReady P wav s.0 c → IsBacked P.ends_in s.0 b wav.samples → d.stream.fed ≤ frames_of wav
          → ExtendsStretches P wav.samples s.0 s.0 c.stream b.stream ended → ended_by asked is c.stream d.stream ≡ ended → HasClientCalled P G s t wav c d asked is
      called-from {result = result} {For = For} s t wav c b d asked is samples ended offered takes keeps for ready backed fed begins ends_is =
          let grows = keeps.grows wav.samples backed.stands for in
          record {
            samples = samples;
            offered = offered;
            takes = takes;
            ready = record {
              usable = keeps.port;
              backed = IsBacked-grows P G s t b d result For wav.samples held_laid keeps for backed;
              channels = ap length (grows.same_bindings ∙ begins.same_bindings) ∙ ready.channels;
              fed = fed;
            };
            extends = subst (ExtendsStretches P wav.samples s.0 t.0 c.stream d.stream) (append-nil ended ∙ sym ends_is)
                (ExtendsStretches-joined P composes s.0 s.0 t.0 c.stream b.stream d.stream wav.samples ended [] begins
                (ExtendsStretches-grows P composes s.0 t.0 b.stream d.stream wav.samples held_laid grows));
          }

      -- a call that accepts no frames and ends no stretch
      pub called-same : {X : Type 0} {result : Result X PcmError} {what : Call} {course : Course (Answered X)} {Cause : Type 0} (answer : Result X PcmError → Answer) (s t : S × T) (wav : Sound)
          (c d : ClientView) (asked line : Op) (is : Answer) → IsReady P wav s.0 c → asked ≡ line → Calls P G s t c d result what course (Keeps P G s t c d result AnySamples) Cause
          → made_call c.ring [] (P.view s.0).marks c.stream line ≡ call_answer answer (if_admitted c.stream what course) → is ≡ answer result → IsOffered wav c.stream [] line
          → ended_by line is c.stream d.stream ≡ [] → Gives (IsFed c.stream.fed) (if_admitted c.stream what course) → HasClientCalled P G s t wav c d asked is
      called-same {result = result} {what = what} {course = course} answer s t wav c d asked line is ready named calls course_is same offered none gives =
          rw named (called-from s t wav c c d line is [] [] offered (answer-taken answer s t c d line [] (if_admitted c.stream what course) result is calls.takes course_is same) calls.keeps tt ready ready.backed
          (fed-within c.stream.fed s t wav d.stream (if_admitted c.stream what course) result calls.takes gives ready.fed) (ExtendsStretches-still P composes s.0 c.stream c.stream wav.samples [] refl refl refl) none)

      -- A pause or a resume. Where the client was paused and isn't any more its stretch ended, and its counts were based anew.
      pub called-paused : {X : Type 0} {result : Result X PcmError} {what : Call} {course : Course (Answered X)} {Cause : Type 0} (answer : Result X PcmError → Answer)
          → ((p : S) (xs ys : List Entry) → P.ends_in p (xs ++ ys) → P.ends_in p ys) → (s t : S × T) (wav : Sound) (c d : ClientView) (asked line : Op) (is : Answer) → IsReady P wav s.0 c
          → IsSoundClient c.stream c.ring → asked ≡ line
          → Calls P G s t c d result what course (CanUse c.stream (P.view s.0) → Keeps P G s t (record { stream = base_of c.stream d.stream; ring = c.ring }) d result AnySamples) Cause
          → made_call c.ring [] (P.view s.0).marks c.stream line ≡ call_answer answer (if_admitted c.stream what course) → is ≡ answer result → IsOffered wav c.stream [] line
          → ended_by line is c.stream d.stream ≡ (if is_paused c.stream.status.state && not (is_paused d.stream.status.state) then stretch_of c.stream else [])
          → Gives (IsFed c.stream.fed) (if_admitted c.stream what course) → HasClientCalled P G s t wav c d asked is
      called-paused {result = result} {what = what} {course = course} answer ends_in_part s t wav c d asked line is ready sound named calls course_is same offered ends_is gives =
          rw named (by_test (is_paused c.stream.status.state && not (is_paused d.stream.status.state)) refl)
        where
          in_pause : (state : State) (other : Bool) → (is_paused state && other) ≡ true → state ≡ Paused
          in_pause Paused other is = refl
          in_pause state other is = absurd (cc)

          from : (b : PlaybackStream) (ended : List Segment) → Keeps P G s t (record { stream = b; ring = c.ring }) d result AnySamples
              → IsBacked P.ends_in s.0 (record { stream = b; ring = c.ring }) wav.samples → ExtendsStretches P wav.samples s.0 s.0 c.stream b ended → ended_by line is c.stream d.stream ≡ ended
              → HasClientCalled P G s t wav c d line is
          from b ended keeps backed begins = called-from s t wav c (record { stream = b; ring = c.ring }) d line is [] ended offered (answer-taken answer s t c d line [] (if_admitted c.stream what course) result is calls.takes course_is same) keeps tt ready
              backed (fed-within c.stream.fed s t wav d.stream (if_admitted c.stream what course) result calls.takes gives ready.fed) begins

          by_test : (test : Bool) → (is_paused c.stream.status.state && not (is_paused d.stream.status.state)) ≡ test → HasClientCalled P G s t wav c d line is
          by_test true is = from (with_new_base c.stream) (stretch_of c.stream) (rw is at (calls.keeps ready.usable))
              (IsBacked-rebased P G s.0 c.stream c.ring wav.samples ends_in_part sound (in_pause c.stream.status.state _ is) ready.backed)
              (ExtendsStretches-ended P composes s.0 c.stream (with_new_base c.stream) wav.samples refl refl refl) (rw is at ends_is)
          by_test false is = from c.stream [] (rw is at (calls.keeps ready.usable)) ready.backed
              (ExtendsStretches-still P composes s.0 c.stream c.stream wav.samples [] refl refl refl) (rw is at ends_is)

    -- a line that isn't a client's, and a `die`, which makes no call
    pub called-refused : (s : S × T) (wav : Sound) (c : ClientView) (asked : Op) → IsReady P wav s.0 c
        → ((k : ℕ) × (asked ≡ op.Play k)) ⊎ ((asked ≡ op.Unplug) ⊎ (((k : ℕ) × (asked ≡ op.Read k)) ⊎ (((k : ℕ) × (asked ≡ op.Die k)) ⊎ ((asked ≡ op.Opens) ⊎ (asked ≡ op.Closes)))))
        → HasClientCalled P G s s wav c c asked (Failed BadState)
    called-refused s wav c asked ready is = grind (arith, nat_tests)
