use Rattle.dsnoop_client.specs.Prelude.{ap, inl, inr, length, refl, subst, sym, ℕ, ◌*◌, ◌/◌, ◌<◌, ◌∙◌, ◌≡◌, ◌≤◌, false, IfOk, true, TakesAtSnoop, waits}
use Rattle.dsnoop_client.specs.Prelude.{ExplainsRead, read_course, reads_on, Asks, frames_in, is_running}
use Rattle.pcm_states.specs.declared.states.State.TheVariants.{Prepared, Running}
use Rattle.dsnoop_client.proofs.CallLaws.{admitted-takes, both, never-refused}
use Rattle.dsnoop_client.proofs.Refusing.{admitted-prepared, admitted-unstopped, running-by}
use Rattle.dsnoop_client.proofs.Stepping.{reads-waits, reads_first-explained, reads_on-explained}
use Rattle.dsnoop_client.proofs.Waiting.{Keeps-waits, never-loads, read-first, read-waits, waits-few}
use Rattle.pcm_states.specs.declared.calls.Call.TheVariants as call
use Rattle.dsnoop_client.proofs.read.read_admitted.Goals as goal

pub read_running-requires : goal.read_running-requires
read_running-requires g c = record {
  sound = c.requires.sound;
  running = running-by c.args.stream.now.status.state (sym c.is_running.ensures ∙ c.if-is_running.true);
  unstopped = admitted-unstopped c.args.stream.now call.Transfer c.requires.admitted;
  port = c.requires.port;
  room = c.requires.room;
  fits = subst (λ (n : ℕ). c.whole_frames-frames.result * n ≤ length c.args.out.now) c.len.ensures.value c.whole_frames-frames.ensures.fits;
}

pub read_starting-requires : goal.read_starting-requires
read_starting-requires g c = record {
  sound = c.requires.sound;
  prepared = admitted-prepared c.args.stream.now c.requires.admitted (sym c.is_running.ensures ∙ c.if-is_running.false);
  unstopped = admitted-unstopped c.args.stream.now call.Transfer c.requires.admitted;
  port = c.requires.port;
  room = c.requires.room;
  fits = subst (λ (n : ℕ). c.whole_frames-frames.result * n ≤ length c.args.out.now) c.len.ensures.value c.whole_frames-frames.ensures.fits;
}

pub returns-then-is_running : goal.returns-then-is_running
returns-then-is_running g c =
    let P = g.P.SnoopPort in
    let G = g.G.Gate in
    let stream = c.args.stream.now in
    let after = c.read_running.new.stream in
    let answer = c.read_running.result in
    let s = both c.args.port.now c.args.gate.now in
    let t = both c.read_running.new.port c.read_running.new.gate in
    let moves : is_running stream.status.state ≡ true = sym c.is_running.ensures ∙ c.if-is_running.true in
    let runs : stream.status.state ≡ Running = running-by stream.status.state moves in
    let unstopped : stream.status.stopped ≡ false = admitted-unstopped stream call.Transfer c.requires.admitted in
    let frames : c.whole_frames-frames.result ≡ frames_in stream c.args.out.now = c.whole_frames-frames.ensures.value
    ∙ ap (λ (n : ℕ). length c.args.out.now / n) c.len.ensures.value in
    let told = reads_on-explained P G g.met.P.SnoopPort.loaded_composes g.met.G.Gate.asked_composes s t stream c.whole_frames-frames.result (after, answer)
    c.requires.sound runs unstopped c.requires.port c.read_running.ensures.takes in
    record {
      reads = record {
        takes = admitted-takes P G s _ t stream call.Transfer (after, answer) c.requires.admitted
            (rw moves (subst (λ (n : ℕ). TakesAtSnoop P G s (reads_on stream n) t (after, answer)) frames c.read_running.ensures.takes));
        refused = λ e found. absurd (never-refused stream call.Transfer e c.requires.admitted found);
        reads = c.read_running.ensures.reads;
        keeps = told.told.keeps;
        waits = λ found never. absurd (never (inl moves));
        causes = λ found loads. subst (λ (n : ℕ). ExplainsRead P s.0 t.0 stream after n answer) frames (record { why = told.told.why; again = told.again });
        asks = λ found loads. subst (λ (n : ℕ). Asks G s.1 t.1 after n answer) frames told.asks;
      };
      stays = λ never. absurd (never (inl moves));
      few = subst (λ (k : ℕ). IfOk answer (λ n. n ≤ k)) frames c.read_running.ensures.few;
    }

pub returns-then-frames-stream : goal.returns-then-frames-stream
returns-then-frames-stream g c =
    let P = g.P.SnoopPort in
    let G = g.G.Gate in
    let stream = c.args.stream.now in
    let count = c.whole_frames-frames.result in
    let s = both c.args.port.now c.args.gate.now in
    let rests : is_running stream.status.state ≡ false = sym c.is_running.ensures ∙ c.if-is_running.false in
    let unstopped : stream.status.stopped ≡ false = admitted-unstopped stream call.Transfer c.requires.admitted in
    let frames : count ≡ frames_in stream c.args.out.now = c.whole_frames-frames.ensures.value
    ∙ ap (λ (n : ℕ). length c.args.out.now / n) c.len.ensures.value in
    let below : frames_in stream c.args.out.now < stream.setup.params.start_threshold = subst (λ (n : ℕ). n < stream.setup.params.start_threshold) frames
    c.if-frames-stream.true in
    record {
      reads = record {
        takes = admitted-takes P G s _ s stream call.Transfer (stream, c.waits.result) c.requires.admitted
            (subst (λ (n : ℕ). TakesAtSnoop P G s (read_course stream n) s (stream, c.waits.result)) frames
            (read-waits P G s stream count c.waits.result rests c.if-frames-stream.true c.waits.ensures));
        refused = λ e found. absurd (never-refused stream call.Transfer e c.requires.admitted found);
        reads = reads-waits P g.met.P.SnoopPort.got_composes c.args.port.now stream c.args.out.now count c.waits.result c.waits.ensures;
        keeps = Keeps-waits P G s stream count c.waits.result c.requires.sound c.requires.port unstopped c.waits.ensures;
        waits = λ found never. (c.waits.ensures ∙ ap waits frames, refl, refl, refl, refl);
        causes = λ found loads. absurd (never-loads stream (frames_in stream c.args.out.now) rests below loads);
        asks = λ found loads. absurd (never-loads stream (frames_in stream c.args.out.now) rests below loads);
      };
      stays = λ never. refl;
      few = subst (λ (k : ℕ). IfOk c.waits.result (λ n. n ≤ k)) frames (waits-few count c.waits.result c.waits.ensures);
    }

pub returns : goal.returns
returns g c =
    let P = g.P.SnoopPort in
    let G = g.G.Gate in
    let stream = c.args.stream.now in
    let after = c.read_starting.new.stream in
    let answer = c.read_starting.result in
    let s = both c.args.port.now c.args.gate.now in
    let t = both c.read_starting.new.port c.read_starting.new.gate in
    let rests : is_running stream.status.state ≡ false = sym c.is_running.ensures ∙ c.if-is_running.false in
    let waiting : stream.status.state ≡ Prepared = admitted-prepared stream c.requires.admitted rests in
    let unstopped : stream.status.stopped ≡ false = admitted-unstopped stream call.Transfer c.requires.admitted in
    let frames : c.whole_frames-frames.result ≡ frames_in stream c.args.out.now = c.whole_frames-frames.ensures.value
    ∙ ap (λ (n : ℕ). length c.args.out.now / n) c.len.ensures.value in
    let enough : stream.setup.params.start_threshold ≤ frames_in stream c.args.out.now = subst (λ (n : ℕ). stream.setup.params.start_threshold ≤ n) frames
    c.if-frames-stream.false in
    let told = reads_first-explained P G g.met.P.SnoopPort.loaded_composes g.met.G.Gate.asked_composes s t stream c.whole_frames-frames.result (after, answer)
    c.requires.sound waiting unstopped c.requires.port c.read_starting.ensures.takes in
    record {
      reads = record {
        takes = admitted-takes P G s _ t stream call.Transfer (after, answer) c.requires.admitted
            (subst (λ (n : ℕ). TakesAtSnoop P G s (read_course stream n) t (after, answer)) frames
            (read-first P G s t stream c.whole_frames-frames.result (after, answer) rests c.if-frames-stream.false c.read_starting.ensures.takes));
        refused = λ e found. absurd (never-refused stream call.Transfer e c.requires.admitted found);
        reads = c.read_starting.ensures.reads;
        keeps = told.told.keeps;
        waits = λ found never. absurd (never (inr enough));
        causes = λ found loads. subst (λ (n : ℕ). ExplainsRead P s.0 t.0 stream after n answer) frames (record { why = told.told.why; again = told.again });
        asks = λ found loads. subst (λ (n : ℕ). Asks G s.1 t.1 after n answer) frames told.asks;
      };
      stays = λ never. absurd (never (inr enough));
      few = subst (λ (k : ℕ). IfOk answer (λ n. n ≤ k)) frames c.read_starting.ensures.few;
    }
