use Rattle.dmix_c.specs.Prelude.{List, refl, subst, sym, ℕ, ℤ, ◌∙◌, ◌≡◌, ∥∥₁_map, false≢true, Option, Result, PcmError, Playback as playback, passed-on}
use Rattle.dmix_c.specs.Prelude.{refusal-of_err, refusal-of_ok, refusal_of, NeverStops, MixSeat, WritesFrames, write-counted, ClientView, Writes}
use Rattle.dmix_c.specs.Prelude.{AreOfPlace-goes, no_gate, seat_port, TakesAt-goes}
use Rattle.dmix_client.specs.Writes.{frames_in}
use Rattle.dmix_c.specs.declared.playback.Playback.{Playback}
use Rattle.dmix_c.proofs.Backing.{backed-written, still-set_up}
use Rattle.dmix_c.proofs.Seated.{KeepsPlace-later, KeepsPlace-same}
use Rattle.dmix_c.proofs.Settled.{settled}
use Rattle.dmix_c.proofs.Transferring.{Transfers-done, Transfers-invalid, Transfers-refused}
use Rattle.dmix_c.proofs.Unstopped.{unstopped, unstopped-by, unstopped-write}
use Rattle.pcm_states.specs.declared.calls.Call.TheVariants as call
use Rattle.dmix_c.proofs.playback.Playback.writei.Goals as goal

-- what the client's own call says
writes-of : {s t : MixSeat} {g h : NeverStops} {c d : ClientView} {samples : List ℤ} {answer : Result ℕ PcmError} (told : Result ℕ PcmError) → told ≡ answer
    → WritesFrames seat_port no_gate (s, g) (t, h) samples c d answer → Writes s c t d samples told
writes-of {s} {t} {g} {h} {c} {d} {samples} {answer} told is made =
    subst (λ (r : Result ℕ PcmError). Writes s c t d samples r) (sym is) (record {
      before = g;
      after = h;
      takes = made.takes;
      keeps = made.keeps;
      unstopped = λ still.
          unstopped-by _ _ _ d.stream answer (write-counted unstopped (unstopped-write (frames_in c.stream samples)) c.stream c.ring samples _ still)
          made.takes (made.keeps.told still);
      goes = TakesAt-goes _ _ _ _ made.takes;
    })

-- why a client's state refuses a write
abbrev refusal : Playback → Option PcmError
refusal p = refusal_of playback p.client.stream.status call.Transfer

pub returns-in_err-admit : goal.returns-in_err-admit
returns-in_err-admit c =
    let p = c.args.self.now in
    let e = c.in_err-admit.field-0.0 in
    record {
      moved = Transfers-refused _ _ _ _ _ e (refusal-of_err (refusal p) c.admit.result e c.admit.ensures c.in_err-admit.was)
          (passed-on c.from_residual.result e c.from_residual.ensures.1) refl;
      same = KeepsPlace-same p;
    }

pub returns-then-not-can_offer : goal.returns-then-not-can_offer
returns-then-not-can_offer c =
    let p = c.args.self.now in
    record {
      moved = Transfers-invalid _ _ _ _ _ (refusal-of_ok (refusal p) c.admit.result c.admit.ensures c.in_ok-admit.was)
          (λ offer. false≢true (sym c.if-not-can_offer.true ∙ c.can_offer.ensures.1 offer)) refl refl;
      same = KeepsPlace-same p;
    }

pub returns : goal.returns
returns c =
    let p = c.args.self.now in
    let writes = writes-of c.frames_of.result c.frames_of.ensures c.writei.ensures in
    record {
      moved = Transfers-done _ _ _ _ _ (refusal-of_ok (refusal p) c.admit.result c.admit.ensures c.in_ok-admit.was) (c.can_offer.ensures.0 c.if-not-can_offer.false) writes;
      same = KeepsPlace-later p _ writes.goes refl;
    }

pub invariant_of-self : goal.invariant_of-self
invariant_of-self c =
    let p = c.args.self.now in
    let v = p.client in
    let writes = writes-of c.writei.result refl c.writei.ensures in
    let admitted = refusal-of_ok (refusal p) c.admit.result c.admit.ensures c.in_ok-admit.was in
    let sound = c.counts_are_sound.ensures in
    let configured = still-set_up call.Transfer v (λ same. absurd (cc)) sound admitted in
    let counts = settled v.stream v.ring sound admitted in
    record {
      unstopped = writes.unstopped p.unstopped;
      usable = writes.keeps.port;
      backed = λ has. ∥∥₁_map (p.backed configured)
          (backed-written _ _ v c.writei.new.self c.writei.result c.args.samples.now (frames_in v.stream c.args.samples.now) (sound.configured configured).bound
          counts.0 counts.1 c.writei.ensures.keeps);
      own_way = AreOfPlace-goes _ p.seat c.writei.new.port writes.goes p.own_way;
      has_room = p.has_room;
    }
