use Rattle.lab_clients.specs.Prelude.{arith, length, refl, ◌∙◌, ◌≡◌, ◌≤◌, nat_tests, false, true, ◌<◌, clients_of, places_of, IsSameCard-same, is_open}
use Rattle.lab_clients.specs.Exchanged.{IsSameCard-joined}
use Rattle.lab_clients.proofs.EndLaws.{AllClosed-more, AllClosed-past, AllClosed-still, AreOfRun-ended, HasEnded-more, HasEnded-none}
use Rattle.lab_clients.proofs.OpenAt.{open_at-none, open_at-some}
use Rattle.lab_clients.proofs.clients.LabClients.close_all.Goals.{then-is_open, else-is_open}
use Rattle.lab_clients.proofs.clients.LabClients.close_all.Goals as goal

pub loop-number-init : goal.loop-number-init
loop-number-init c = record {
  ended = λ session held xs are. HasEnded-none session held xs c.args.self.now are;
  card = IsSameCard-same (places_of c.args.self.now);
  len = refl;
  closed = λ n below. absurd (omega (arith, below));
}

pub give_back-requires-clause-run : goal.give_back-requires-clause-run
give_back-requires-clause-run c =
    let run = c.requires in
    AreOfRun-ended c.args.self.now c.loop-number.self run (c.loop-number.invariant.ended run.session run.held run.xs run.are)

pub give_back-requires-clause-open : goal.give_back-requires-clause-open
give_back-requires-clause-open c =
    let opened : is_open c.index.result.now ≡ true = grind (arith, nat_tests) in
    let below = c.loop-number-test.true in
    let end = c.len-number-end.ensures in
    let len = c.loop-number.invariant.len in
    let now = c.args.self.now.clients.ok.0 in
    let inside : c.loop-number.number < length (clients_of c.loop-number.self) = omega (arith, below, end, len, now) in
    open_at-some (clients_of c.loop-number.self) c.loop-number.number c.index.result.now inside c.index.ensures opened

pub loop-number-preserved : goal.loop-number-preserved
loop-number-preserved c =
    let was = c.loop-number.invariant in
    let below = c.loop-number-test.true in
    let end = c.len-number-end.ensures in
    let len = c.loop-number.invariant.len in
    let now = c.args.self.now.clients.ok.0 in
    let inside : c.loop-number.number < length (clients_of c.loop-number.self) = omega (arith, below, end, len, now) in
    elim c.if-is_open.branch [
      | then-is_open w ↦ rw w.self-is (record {
        ended = λ session held xs are.
            HasEnded-more session held xs c.loop-number.number c.loop-number.self w.give_back.new.self (λ at ys. w.give_back.ensures.closed session at ys) (was.ended session held xs are);
        card = IsSameCard-joined (places_of c.args.self.now) (places_of c.loop-number.self) (places_of w.give_back.new.self) was.card w.give_back.ensures.card;
        len = w.give_back.ensures.clients.len ∙ was.len;
        closed = AllClosed-more c.loop-number.self w.give_back.new.self c.loop-number.number w.give_back.ensures.clients was.closed;
      })
      | else-is_open w ↦
          let shut : is_open c.index.result.now ≡ false = grind (arith, nat_tests) in
          rw w.self-is (record {
            ended = was.ended;
            card = was.card;
            len = was.len;
            closed = AllClosed-still c.loop-number.self c.loop-number.number
                (open_at-none (clients_of c.loop-number.self) c.loop-number.number c.index.result.now inside c.index.ensures shut) was.closed;
          })
    ]

pub returns-clause-closed : goal.returns-clause-closed
returns-clause-closed c =
    let over = c.loop-number-test.false in
    let end = c.len-number-end.ensures in
    let len = c.loop-number.invariant.len in
    let now = c.args.self.now.clients.ok.0 in
    let all : length (clients_of c.loop-number.self) ≤ c.loop-number.number = omega (arith, over, end, len, now) in
    AllClosed-past c.loop-number.self c.loop-number.number all c.loop-number.invariant.closed
