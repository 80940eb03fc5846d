use Rattle.lab_clients.specs.Prelude.{arith, IsSome, length, refl, subst, sym, ◌∙◌, ◌<◌, clients_of, places_of, IsSameCard-same, held_to, reaped_to}
use Rattle.lab_clients.specs.Exchanged.{IsSameCard-joined}
use Rattle.lab_clients.proofs.OpenAt.{open_at-read}
use Rattle.lab_clients.proofs.ReapLaws.{AreAt-end, AreDone-going, AreDone-next, AreDone-stopped, IsSome-stopped, length-done}
use Rattle.lab_clients.proofs.clients.LabClients.reap.Goals.{then-is_stopped, else-is_stopped}
use Rattle.lab_clients.proofs.clients.LabClients.reap.Goals as goal

pub loop-number-init : goal.loop-number-init
loop-number-init c = record { reaped = λ session held xs done. done; len = refl; card = IsSameCard-same (places_of c.args.self.now) }

pub reap_open-requires : goal.reap_open-requires
reap_open-requires c =
    let run = c.requires in
    let number = c.loop-number.number in
    let ok = c.args.self.now.clients.ok.0 in
    let len = c.loop-number.invariant.len in
    let inside : number < length (clients_of c.loop-number.self) = omega (arith, ok, len) in
    record {
      run = record {
        session = run.session;
        held = held_to run.session 0 number run.xs run.held;
        xs = reaped_to run.session.ring number run.xs;
        are = c.loop-number.invariant.reaped run.session run.held run.xs run.are;
      };
      inside = inside;
      «open» = subst IsSome (sym (open_at-read (clients_of c.loop-number.self) number c.index.result.now inside c.index.ensures))
          (IsSome-stopped c.index.result.now (sym c.is_stopped.ensures ∙ c.if-is_stopped.true));
    }

pub loop-number-preserved : goal.loop-number-preserved
loop-number-preserved c =
    let cs = c.loop-number.self in
    let number = c.loop-number.number in
    let d = c.index.result.now in
    let was = c.loop-number.invariant in
    let ok = c.args.self.now.clients.ok.0 in
    let count = was.len in
    let inside : number < length (clients_of cs) = omega (arith, ok, count) in
    elim c.if-is_stopped.branch [
      | then-is_stopped w ↦ rw w.self-is (record {
        reaped = λ session held xs done.
            let len = length-done session held xs c.args.self.now done in
            let now = was.reaped session held xs done in
            AreDone-next session held xs w.reap_open.new.self number (omega (arith, len, ok))
            (AreDone-stopped session (held_to session 0 number xs held) (reaped_to session.ring number xs) cs number d now inside c.index.ensures w.reap_open.new.self
            (sym c.is_stopped.ensures ∙ w.if-is_stopped.true) (w.reap_open.ensures.closed session (held_to session 0 number xs held) (reaped_to session.ring number xs) now));
        len = w.reap_open.ensures.len ∙ count;
        card = IsSameCard-joined (places_of c.args.self.now) (places_of cs) (places_of w.reap_open.new.self) was.card w.reap_open.ensures.card;
      })
      | else-is_stopped w ↦ rw w.self-is (record {
        reaped = λ session held xs done.
            let len = length-done session held xs c.args.self.now done in
            AreDone-next session held xs cs number (omega (arith, len, ok))
            (AreDone-going session (held_to session 0 number xs held) (reaped_to session.ring number xs) cs number d (was.reaped session held xs done) inside c.index.ensures
            (sym c.is_stopped.ensures ∙ w.if-is_stopped.false));
        len = count;
        card = was.card;
      })
    ]

pub returns-clause-reaped : goal.returns-clause-reaped
returns-clause-reaped c session held xs done =
    let len = length-done session held xs c.args.self.now done in
    let ok = c.args.self.now.clients.ok.0 in
    AreAt-end session held xs c.loop-number.self c.loop-number.number (omega (arith, len, ok)) (c.loop-number.invariant.reaped session held xs done)
