-- A reader's line, as the reader did it at its port, is a part of that reader.
use Rattle.lab_run.specs.Prelude.{ap, Option, refl, Some, subst, sym, ℕ, ◌≡◌, List, Ok, Result, PcmError, Geometry, Composes, Prepared, Setup, Frame}
use Rattle.lab_run.specs.Prelude.{GetsAtSnoop, LoadsAtSnoop, NoLay, TakesAtSnoop, Course, ends, Takes, ◌>>=◌, Takes-map, CaptureStream, in_state, Op, Answer}
use Rattle.lab_run.specs.Prelude.{DoesGet, DoesLay, DoesLoad, Doing, Alike, SameAnswer, count_answer, done_answer, CountsDown, Reader, ReaderLinesAreParts}
use Rattle.lab_run.specs.Prelude.{ReadsBy, AtPort}
use Rattle.snoop_core.specs.Port.{ShowsFrom}
use Rattle.dsnoop_client.specs.Calls.{Answered}
use Rattle.lab_run.specs.Reader.{after_call, call_answer, begins, call_of, line_by}
use Rattle.lab_run.proofs.AlikeLaws.{Alike-then}
use Rattle.lab_run.proofs.ReadsAlike.{admitted-alike, at-once, reads-alike}
use Rattle.lab_run.proofs.SnoopLaws.{course-part_snoop}
use Rattle.mix_core.specs.declared.gate.Gate as gates
use Rattle.snoop_core.specs.declared.port.SnoopPort as snoopport
use Rattle.pcm_states.specs.declared.calls.Call.TheVariants as call
use Rattle.lab_lines.specs.declared.line.Op.TheVariants as op

answered-alike : {X : Type 0} (answer : Result X PcmError → Answer) (m n : Course (Answered X)) → Alike 0 (SameAnswer answer) m n
    → Alike 0 (λ x y. x ≡ y) (call_answer answer m) (call_answer answer n)
answered-alike answer m n alike =
    Alike-then 0 (SameAnswer answer) (λ x y. x ≡ y) m n (λ done. ends (done.0, answer done.1)) (λ done. ends (done.0, answer done.1)) alike
    (λ x y is. λ i. (is.client i, is.answer_is i))

-- the call is alike to itself without its words
call-alike : (r : CaptureStream) (asked : Op) → Alike 0 (λ x y. x ≡ y) (call_of r asked) (call_of r asked)
call-alike r (op.Read n) = answered-alike count_answer _ _ ((reads-alike r).read n)
call-alike r op.Start = answered-alike done_answer _ _ (reads-alike r).start
call-alike r op.Sync = answered-alike done_answer _ _ (reads-alike r).sync
call-alike r op.Avail = answered-alike count_answer _ _ (reads-alike r).avail
call-alike r op.Drop = answered-alike done_answer _ _
    (admitted-alike done_answer r call.Drop (ends (in_state r Setup, Ok tt)) (ends (in_state r Setup, Ok tt)) (at-once done_answer (in_state r Setup, Ok tt)))
call-alike r op.Prepare = answered-alike done_answer _ _
    (admitted-alike done_answer r call.Prepare (ends (in_state r Prepared, Ok tt)) (ends (in_state r Prepared, Ok tt)) (at-once done_answer (in_state r Prepared, Ok tt)))
call-alike r op.Pause = refl
call-alike r other = refl

-- the course of a line that makes a call
line-is_call : (reader : Reader) (r : CaptureStream) (asked : Op) → ReadsBy reader r asked
    → line_by reader reader.own asked ≡ (call_of r asked >>= λ done. ends (after_call reader asked done))
unfolding ◌>>=◌
line-is_call reader r (op.Die k) reads = absurd (let asks = reads.asks in cc)
line-is_call reader r other reads = rw (reads.is_open, reads.goes) refl

begins-same : (reader : Reader) (r : CaptureStream) (asked : Op) (a : AtPort) → ReadsBy reader r asked → begins reader.own asked a ≡ a
begins-same reader r (op.Die k) a reads = absurd (let asks = reads.asks in cc)
begins-same reader r other a reads = rw (reads.is_open, reads.goes) refl

-- a course was taken in an actor's part
module _ (ring : Geometry) where
  abbrev Done : Doing → Course (Reader × Answer) → Doing → Reader × Answer → Type 0
  Done before m after end = Takes DoesLoad (DoesLay ring) (DoesGet ring) before m after end

module _ {S T : Type 0} (P : snoopport.Ghosts S) (G : gates.Ghosts T) (shown_got : (p q : S) (fs : List Frame) (f c word : ℕ) → P.got p q fs → P.shows p f c ≡ Some word → ShowsFrom P.shows q f c word)
    (composes : Composes P.loaded) (left : T → Option ℕ) (by_gate at_gate : T → ℕ) (counts : CountsDown G.asked left by_gate at_gate) (first : S) (ring : Geometry) where
  pub reader-lines : ReaderLinesAreParts P G left by_gate at_gate first ring
  reader-lines s t phase number (a, found) reader r asked after answer reads at takes =
      let finish : CaptureStream × Answer → Course (Reader × Answer) = λ done. ends (after_call reader asked done) in
      let line : Course (Reader × Answer) = call_of r asked >>= finish in
      let end : Reader × Answer = after_call reader asked (after, answer) in
      let alike : Alike 0 (λ (x y : Reader × Answer). x ≡ y) line line =
      Alike-then 0 (λ x y. x ≡ y) (λ x y. x ≡ y) (call_of r asked) (call_of r asked) finish finish (call-alike r asked) (λ x y is. ap (after_call reader asked) is) in
      let took : TakesAtSnoop P G s line t end =
      Takes-map (LoadsAtSnoop P G) NoLay (GetsAtSnoop P G) s t (call_of r asked) (after_call reader asked) (after, answer) end takes refl in
      let part = course-part_snoop P G shown_got composes left by_gate at_gate counts first ring (λ (x y : Reader × Answer). x ≡ y) s t (a, found) line line end alike at took in
      record {
        doing = part.0;
        done = subst (λ (b : AtPort). Done ring (b, found) (line_by reader reader.own asked) part.0 end) (sym (begins-same reader r asked a reads))
            (subst (λ m. Done ring (a, found) m part.0 end) (sym (line-is_call reader r asked reads))
            (subst (λ y. Done ring (a, found) line part.0 y) (sym part.4) part.2));
        at = part.3;
      }
