use Rattle.lab_clients.specs.Prelude.{arith, length, subst, sym, ◌∙◌, get_or_default, ◌<◌, Sound, no_sound, AreEach-ended, HasWalked-still, LabClient}
use Rattle.lab_clients.specs.Prelude.{clients_of, CanRun, IsReadyAt, RunsAt}
use Rattle.lab_clients.proofs.RunLemmas.{HaveRun-next}
use Rattle.lab_clients.proofs.clients.LabClients.run_lines.Goals as goal

pub run_lines-requires : goal.run_lines-requires
run_lines-requires g c =
    let l = c.loop-index in
    let files = c.requires.files in
    let clients = clients_of c.args.self.now in
    let wavs = c.args.wavs.now in
    let within : l.index < length clients = omega arith in
    let d = c.index_mut.result.now in
    let wav = c.index-wavs-index.result in
    let was = HasWalked-still (RunsAt g.G.Gate c.args.gates.now l.gates wavs c.args.phase c.args.lines.now) clients (clients_of l.self) l.index d l.invariant.run.walked c.index_mut.ensures.value in
    let ready : IsReadyAt wavs c.args.lines.now l.index d = subst (λ (x : LabClient). IsReadyAt wavs c.args.lines.now l.index x) (sym was) (c.requires.ready l.index d within) in
    record {
      few = c.requires.few;
      ready = subst (λ (s : Sound). CanRun s d) (sym (c.index-wavs-index.is ∙ get_or_default wavs l.index wav no_sound (omega (arith, within, files)))) ready.ready;
      room = ready.room;
    }

pub loop-index-preserved : goal.loop-index-preserved
loop-index-preserved g c =
    let l = c.loop-index in
    let gates = c.requires.gates in
    let files = c.requires.files in
    let within : l.index < length (clients_of c.args.self.now) = omega arith in
    record {
      places = l.invariant.places;
      run = HaveRun-next g.G.Gate c.args.gates.now l.gates c.args.wavs.now c.args.phase c.args.lines.now (clients_of c.args.self.now) (clients_of l.self) l.index
          _ c.run_lines.new.gate c.index_mut.result.now c.run_lines.new.self c.index-wavs-index.result
          l.invariant.run within (omega (arith, within, gates)) (omega (arith, within, files)) c.index-wavs-index.is c.index_mut.ensures.value c.run_lines.ensures;
    }

pub returns-clause-run : goal.returns-clause-run
returns-clause-run g c =
    AreEach-ended c.args.self.now.clients c.loop-index.self.clients c.len-index-end.ensures c.loop-index-test.false c.loop-index.invariant.run.walked

pub returns-clause-others : goal.returns-clause-others
returns-clause-others g c =
    λ i gate from. c.loop-index.invariant.run.others i gate (omega arith)
