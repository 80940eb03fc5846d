use Rattle.dmix_c.specs.Prelude.{List, refl, subst, sym, ℕ, ℤ, ◌∙◌, ◌≡◌, false≢true, Option, Result, PcmError, Capture, passed-on, refusal-of_err}
use Rattle.dmix_c.specs.Prelude.{refusal-of_ok, refusal_of, NeverStops, ReaderSeat, CaptureStream, Recording, ReadsAt, reader_port, TakesAtSnoop-goes, no_gate}
use Rattle.dsnoop_client.specs.CallRelations.{ReadsFrames}
use Rattle.dmix_c.proofs.Sourced.{KeepsSource-later, KeepsSource-same}
use Rattle.dmix_c.proofs.Transferring.{Transfers-done, Transfers-invalid, Transfers-refused}
use Rattle.dmix_c.proofs.Unstopped.{reader-unstopped}
use Rattle.pcm_states.specs.declared.calls.Call.TheVariants as call
use Rattle.dmix_c.proofs.recording.Recording.readi.Goals as goal

-- what the reader's own call says
reads-of : {s t : ReaderSeat} {g h : NeverStops} {c d : CaptureStream} {before after : List ℤ} {answer : Result ℕ PcmError} (told : Result ℕ PcmError)
    → told ≡ answer → ReadsFrames reader_port no_gate (s, g) (t, h) before after c d answer → ReadsAt s c t d before after told
reads-of {s} {t} {g} {h} {c} {d} {before} {after} told is made =
    subst (λ (r : Result ℕ PcmError). ReadsAt s c t d before after r) (sym is) (record {
      before = g;
      after = h;
      takes = made.takes;
      gives = made.reads;
      unstopped = reader-unstopped _ _ _ _ _ made.keeps;
      usable = made.keeps.port;
      goes = TakesAtSnoop-goes _ _ _ _ made.takes;
    })

-- why a reader's state refuses a read
abbrev refusal : Recording → Option PcmError
refusal p = refusal_of Capture p.reader.status call.Transfer

pub returns-in_err-admit : goal.returns-in_err-admit
returns-in_err-admit c =
    let p = c.args.self.now in
    let e = c.in_err-admit.field-0.0 in
    record {
      moved = Transfers-refused _ _ _ _ _ e (refusal-of_err (refusal p) c.admit.result e c.admit.ensures c.in_err-admit.was)
          (passed-on c.from_residual.result e c.from_residual.ensures.1) (refl, refl);
      same = KeepsSource-same p;
    }

pub returns-then-not-can_read : goal.returns-then-not-can_read
returns-then-not-can_read c =
    let p = c.args.self.now in
    record {
      moved = Transfers-invalid _ _ _ _ _ (refusal-of_ok (refusal p) c.admit.result c.admit.ensures c.in_ok-admit.was)
          (λ room. false≢true (sym c.if-not-can_read.true ∙ c.can_read.ensures.1 room)) refl (refl, refl);
      same = KeepsSource-same p;
    }

pub returns : goal.returns
returns c =
    let p = c.args.self.now in
    let reads = reads-of c.frames_of.result c.frames_of.ensures c.readi.ensures in
    record {
      moved = Transfers-done _ _ _ _ _ (refusal-of_ok (refusal p) c.admit.result c.admit.ensures c.in_ok-admit.was) (c.can_read.ensures.0 c.if-not-can_read.false) reads;
      same = KeepsSource-later p _ reads.goes refl;
    }

pub invariant_of-self : goal.invariant_of-self
invariant_of-self c =
    let p = c.args.self.now in
    let reads = reads-of c.readi.result refl c.readi.ensures in
    record {
      unstopped = reads.unstopped p.unstopped;
      usable = reads.usable;
    }
