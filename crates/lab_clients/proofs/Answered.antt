-- What a line of an open client is answered, as a run has it.
use Rattle.lab_clients.specs.Prelude.{ap, arith, List, refl, subst, sym, ℕ, [], ◌++◌, ◌∙◌, ◌≡◌, nat_tests, append-nil, false, if◌then◌else◌, Option, Some, true}
use Rattle.lab_clients.specs.Prelude.{PcmError, Stopped, Geometry, Segment, Composes, PlaybackStream, is_paused, ClientView, Sound, Op, Answer, Done, Failed}
use Rattle.lab_clients.specs.Prelude.{Doing, ended_by, stretch_of, ClientLinesAreParts, ClientLinesWithoutCall, is_die, IsClientLine, with_member, IsAtPort}
use Rattle.lab_clients.specs.Prelude.{ends_stretch, ExtendsStretches, HasClientAnswered, HasClientCalled, IsReady}
use Rattle.lab_clients.proofs.StretchLaws.{ExtendsStretches-still}
use Rattle.mix_core.specs.declared.gate.Gate as gates
use Rattle.mix_core.specs.declared.port.MixPort as mixport
use Rattle.lab_lines.specs.declared.line.Op.TheVariants as op

-- a line that is refused and changes nothing ends no stretch
pub no_end : (asked : Op) (e : PcmError) (c : PlaybackStream) → ended_by asked (Failed e) c c ≡ []
no_end other e c = grind (arith, nat_tests)

-- whether a line ended the stretch
pub ended_by-test : (asked : Op) (answer : Answer) (c d : PlaybackStream)
    → ended_by asked answer c d ≡ (if ends_stretch asked answer (is_paused c.status.state) (is_paused d.status.state) then stretch_of c else [])
ended_by-test other answer c d = grind (arith, nat_tests)

module _ {S T : Type 0} (P : mixport.Ghosts S) (composes : Composes P.laid) (left : T → Option ℕ) (by_gate at_gate : T → ℕ) where
  pub answered-call : (G : gates.Ghosts T) → ((first : S) (ring : Geometry) (from : ℕ) → ClientLinesAreParts P G left by_gate at_gate first ring from)
      → (s t : S × T) (wav : Sound) (c d : ClientView) (asked : Op) (answer : Answer) → c.stream.status.stopped ≡ false → is_die asked ≡ false
      → HasClientCalled P G s t wav c d asked answer
      → HasClientAnswered P left by_gate at_gate s t wav c d asked answer
  answered-call G parts s t wav c d asked answer goes asks called = record {
    line = λ phase number ended first ring from before at.
        parts first ring from s t phase wav number before (record { own = Some (with_member number c.stream); ended = ended }) c.stream c.ring called.samples asked d.stream answer
        (record { is_open = refl; goes = goes; asks = asks }) called.offered at called.takes;
    ready = called.ready;
    extends = called.extends;
  }

  still : (p : S) (g h : T) (wav : Sound) (c : ClientView) (asked : Op) (answer : Answer) → IsReady P wav p c → ended_by asked answer c.stream c.stream ≡ []
      → ((phase number : ℕ) (ended : List Segment) (first : S) (ring : Geometry) (from : ℕ) (before : Doing) → IsAtPort P left by_gate at_gate first ring from (p, g) before
      → IsClientLine P left by_gate at_gate first ring from (p, h) phase wav number before (record { own = Some (with_member number c.stream); ended = ended }) asked (record { own = Some (with_member number c.stream); ended = ended }) answer)
      → HasClientAnswered P left by_gate at_gate (p, g) (p, h) wav c c asked answer
  still p g h wav c asked answer ready none line = record {
    line = λ phase number ended first ring from before at.
        subst (λ (segments : List Segment). IsClientLine P left by_gate at_gate first ring from (p, h) phase wav number before (record { own = Some (with_member number c.stream); ended = ended }) asked (record { own = Some (with_member number c.stream); ended = segments }) answer)
        (sym (ap (λ (more : List Segment). ended ++ more) none ∙ append-nil ended)) (line phase number ended first ring from before at);
    ready = ready;
    extends = subst (ExtendsStretches P wav.samples p p c.stream c.stream) (sym none) (ExtendsStretches-still P composes p c.stream c.stream wav.samples [] refl refl refl);
  }

  -- a line of a client that was stopped
  pub answered-stopped : ((ring : Geometry) (phase : ℕ) (wav : Sound) (number : ℕ) → ClientLinesWithoutCall ring phase wav number)
      → (s : S × T) (wav : Sound) (c : ClientView) (asked : Op) → c.stream.status.stopped ≡ true → IsReady P wav s.0 c
      → HasClientAnswered P left by_gate at_gate s s wav c c asked (Failed Stopped)
  answered-stopped laws s wav c asked stopped ready = still s.0 s.1 s.1 wav c asked (Failed Stopped) ready (no_end asked Stopped c.stream)
      (λ phase number ended first ring from before at. record {
        doing = before;
        done = (laws ring phase wav number).stopped before.0 before.1 (record { own = Some (with_member number c.stream); ended = ended }) (with_member number c.stream) asked refl stopped;
        at = at;
      })

  -- a `die`
  pub answered-die : ((ring : Geometry) (phase : ℕ) (wav : Sound) (number : ℕ) → ClientLinesWithoutCall ring phase wav number)
      → (p : S) (g h : T) (wav : Sound) (c : ClientView) (asks : ℕ) → c.stream.status.stopped ≡ false → left h ≡ Some asks → by_gate h ≡ by_gate g → at_gate h ≡ at_gate g → IsReady P wav p c
      → HasClientAnswered P left by_gate at_gate (p, g) (p, h) wav c c (op.Die asks) Done
  answered-die laws p g h wav c asks going left_is gate_is asks_are ready = still p g h wav c (op.Die asks) Done ready refl
      (λ phase number ended first ring from before at. record {
        doing = (record before.0 { left = Some asks }, before.1);
        done = (laws ring phase wav number).dies before.0 before.1 (record { own = Some (with_member number c.stream); ended = ended }) (with_member number c.stream) asks refl going;
        at = (let passing = sym left_is in let same_gate = at.by_gate_is ∙ sym gate_is in let same_asks = at.at_gate_is ∙ sym asks_are in assumption);
      })
