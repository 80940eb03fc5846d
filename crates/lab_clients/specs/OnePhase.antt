-- A client's phase: what its meets with the card and its lines make of it is what the phase allows to the client of a run.
use Rattle.std.specs.Prelude.{◌≡◌, ℕ, ◌+◌, ◌++◌, ℤ, List, [], fold, Option, None, Some}
use Rattle.std.specs.Global.{Vec}
use Rattle.std.proofs.Common.{refl, sym, ◌∙◌, ap, subst, arith}
use Rattle.std.proofs.lemmas.Int.{ints}
use Rattle.std.proofs.lemmas.List.{append-nil}
use Rattle.std.proofs.lemmas.List.Sums.{fold-append}
use Rattle.snd_base.specs.declared.geometry.Geometry.{Geometry}
use Rattle.snd_base.specs.declared.places.Segment.{Segment}
use Rattle.mix_core.specs.declared.marks.Marks.{Marks}
use Rattle.mix_core.specs.declared.port.Entry.{Entry}
use Rattle.mix_core.specs.HistoryLaws.{total-append}
use Rattle.mix_core.specs.Laid.{stand_after, standing, total}
use Rattle.mix_core.specs.Marks.{high_frame}
use Rattle.sum_table.specs.declared.seats.mix.MixSeat.{MixSeat}
use Rattle.sum_table.specs.declared.view.Key.{Key}
use Rattle.sum_table.specs.declared.view.View.{View}
use Rattle.sum_table.specs.Seats.{SeatLoaded-composes, TableId, marks_of_seat, view_of}
use Rattle.wav_io.specs.Sound.{Sound}
use Rattle.dmix_client.specs.declared.stream.PlaybackStream.{PlaybackStream}
use Rattle.card_sim.specs.declared.card.Card.{Card}
use Rattle.lab_lines.specs.declared.line.Actor.TheVariants as actor
use Rattle.lab_lines.specs.declared.line.Line.{Line}
use Rattle.lab_lines.specs.declared.line.Op.{Op}
use Rattle.lab_lines.specs.declared.row.Row.{Row}
use Rattle.lab_run.specs.ActorPart.{ActorPart, AreOf, Doing, PartsAreRuns, nothing_found}
use Rattle.lab_run.specs.Client.{Client, client_kind}
use Rattle.lab_run.specs.Lines.{LinesMay}
use Rattle.lab_run.specs.Phases.{is_client, ops_by}
use Rattle.lab_run.specs.PortSteps.{HasOwnLast, IsAtPort, IsLastSince, MarksAlike}
use Rattle.lab_run.specs.Rules.{AtPort, Rules}
use Rattle.lab_run.specs.Stage.{new_port}
use Rattle.lab_clients.specs.declared.lines.ClientActor.{ClientActor}
use Rattle.lab_clients.specs.Lines.{ExtendsStretches, IsReady}
use Rattle.lab_clients.specs.Parts.{HasClientDone, client_of}
use Rattle.lab_actors.specs.Shares.{at_gate_in, left_in, stops_in}
use Rattle.lab_actors.specs.Refused.{refused_rows}
use Rattle.lab_actors.specs.Raised.{ActorPart-lowered, IsRaised, with_counts}
use Rattle.lab_clients.specs.Blind.{client_is_blind}
use Rattle.lab_card.specs.declared.card.CardActor.{CardActor}
use Rattle.lab_card.specs.Findings.{CardPhase, client-found, rules_between}
use Rattle.lab_clients.specs.declared.open_client.OpenClient.{OpenClient}
use Rattle.lab_clients.specs.declared.client.LabClient.{LabClient}
use Rattle.lab_clients.specs.OneClient.{AllRefused, HasLaidBy, IsAt, IsAtBy, IsCardOfRing, IsClientHeard, IsClientInformed, RunsLines, GoesOrRests, client_by, client_in, ended_of, number_of, open_of, rows_by, rows_of}
use Rattle.lab_clients.specs.OpenClient.{HasLaidPhase, HasRun, IsHeard, IsInformed, IsOpenAt, IsSameOpening, stream_of}
use Rattle.lab_clients.specs.SeatLaws.{IsPlace-same, IsReady-same, IsSameSeat, IsSameSeat-informed, IsSameSeat-same}
use Rattle.lab_clients.specs.SeatPort.{seat_port}

-- the last frames of an actor and of its port, while others used it before alone (lab_run: `last_frames_are_own`)
abbrev pub LastsAreOwn : Type 0
LastsAreOwn =
    (ring : Geometry) (from : ℕ) (before own port : Marks)
    → MarksAlike ring from before.high own port → HasOwnLast ring from before own port

-- an open client that goes on at a seat which is as its own was
IsOpenAt-same : (ring : TableId) (key : Key) (wav : Sound) (last : Option ℕ) (number : ℕ) (o p : OpenClient) (a : AtPort) → IsSameSeat o.seat p.seat → p.actor ≡ o.actor → IsSameOpening o p
    → IsOpenAt ring key wav last number o a → IsOpenAt ring key wav last number p a
IsOpenAt-same ring key wav last number o p a seat own same is = record {
  numbered = ap (λ (x : ClientActor). x.number) own ∙ is.numbered;
  bindings = same.bindings ∙ (is.bindings ∙ ap (λ (x : ClientActor). x.client.stream.setup.bindings) (sym own));
  place = IsPlace-same ring key o.seat p.seat seat is.place;
  ready = subst (λ (x : ClientActor). IsReady seat_port wav p.seat x.client) (sym own) (IsReady-same wav o.actor.client o.seat p.seat seat is.ready);
  after = let low = is.after in let up = seat.seen in let at = same.opened_at in omega (arith, low, up, at);
  seen = let low = is.seen in let up = seat.seen in omega (arith, low, up);
  left = is.left ∙ ap (λ (x : ClientActor). x.left) (sym own);
  alike = subst (λ (n : ℕ). MarksAlike key.geometry n (marks_of_seat p.seat).high a.marks (marks_of_seat p.seat)) (sym same.opened_at)
      (subst (λ (m : Marks). MarksAlike key.geometry o.opened_at m.high a.marks m) (sym seat.marks) is.alike);
  since = subst (λ (n : ℕ). IsLastSince n last (high_frame key.geometry (marks_of_seat p.seat))) (sym same.opened_at)
      (subst (λ (m : Marks). IsLastSince o.opened_at last (high_frame key.geometry m)) (sym seat.marks) is.since);
}

-- before a phase it meets a note, and after it it gives one
pub IsOpenAt-informed : (c : Card) (ring : TableId) (key : Key) (wav : Sound) (last : Option ℕ) (number : ℕ) (o p : OpenClient) (a : AtPort) → IsInformed c o p
    → IsOpenAt ring key wav last number o a → IsOpenAt ring key wav last number p a
IsOpenAt-informed c ring key wav last number o p a informed is =
    IsOpenAt-same ring key wav last number o p a (IsSameSeat-informed c o.seat p.seat informed.seat) informed.actor informed.same is

pub IsOpenAt-heard : (c : Card) (ring : TableId) (key : Key) (wav : Sound) (last : Option ℕ) (number : ℕ) (o p : OpenClient) (a : AtPort) → IsHeard c o p
    → IsOpenAt ring key wav last number o a → IsOpenAt ring key wav last number p a
IsOpenAt-heard c ring key wav last number o p a heard is =
    IsOpenAt-same ring key wav last number o p a (IsSameSeat-same o.seat p.seat heard.seat) heard.actor heard.same is

-- ---- the lines of an open client

module _ (ring : TableId) (key : Key) (wav : Sound) (last : Option ℕ) (number base before after asks phase : ℕ) (lines : List Line) (p q : OpenClient) (a : AtPort) where
  -- before its lines it has found nothing yet, with a gate that stopped it so often
  at-first : IsOpenAt ring key wav last number p a → a.by_gate + base ≡ before
      → IsAtPort seat_port left_in stops_in at_gate_in p.seat key.geometry p.opened_at (p.seat, (p.actor.left, before, 0)) (with_counts base 0 a, nothing_found)
  at-first is counts = record {
    geometry = ap (λ (k : Key). k.geometry) is.place.of_key;
    after = is.after;
    seen = is.seen;
    marks = is.alike;
    left_is = is.left;
    by_gate_is = counts;
    at_gate_is = refl;
    loads = SeatLoaded-composes.none p.seat;
    late = tt;
    overtaken = refl;
  }

  -- what it did, and found
  did : IsOpenAt ring key wav last number p a → a.by_gate + base ≡ before → (run : HasRun before after asks phase wav lines p q)
      → HasClientDone seat_port left_in stops_in at_gate_in p.seat key.geometry p.opened_at (q.seat, (q.actor.left, after, asks)) phase wav p.actor.number (with_counts base 0 a, nothing_found)
      (client_of p.actor) (ops_by (is_client p.actor.number) lines) (client_of q.actor) run.part.rows
  did is counts run = run.part.part p.seat key.geometry p.opened_at (with_counts base 0 a, nothing_found) (at-first is counts)

  -- so it is afterwards at its port
  at-last : LastsAreOwn → IsOpenAt ring key wav last number p a → (run : HasRun before after asks phase wav lines p q) → (doing : Doing) (b : AtPort)
      → IsAtPort seat_port left_in stops_in at_gate_in p.seat key.geometry p.opened_at (q.seat, (q.actor.left, after, asks)) doing → IsRaised base a.at_gate doing.0 b
      → IsOpenAt ring key wav last number q b
  at-last lasts is run doing b at low =
      let goes = run.part.extends.away.laid_them.goes in
      let seat_is = run.same.opened_at in
      let alike : MarksAlike key.geometry p.opened_at (marks_of_seat p.seat).high b.marks (marks_of_seat q.seat) =
      subst (λ (x : AtPort). MarksAlike key.geometry p.opened_at (marks_of_seat p.seat).high x.marks (marks_of_seat q.seat)) low.is at.marks in
      let own = lasts key.geometry p.opened_at (marks_of_seat p.seat) b.marks (marks_of_seat q.seat) alike in
      let seen : doing.0.seen ≡ b.seen = ap (λ (x : AtPort). x.seen) low.is in
      record {
        numbered = run.part.same ∙ is.numbered;
        bindings = run.same.bindings ∙ (is.bindings ∙ sym run.part.extends.same_bindings);
        place = record { of_ring = goes.ring ∙ is.place.of_ring; of_key = goes.key ∙ is.place.of_key; member = refl; places = goes.places ∙ is.place.places };
        ready = run.ready;
        after = let low_is = at.after in omega (arith, low_is, seat_is);
        seen = let low_is = at.seen in omega (arith, low_is, seen);
        left = ap (λ (x : AtPort). x.left) (sym low.is) ∙ at.left_is;
        alike = subst (λ (n : ℕ). MarksAlike key.geometry n (marks_of_seat q.seat).high b.marks (marks_of_seat q.seat)) (sym seat_is) own.again;
        since = subst (λ (n : ℕ). IsLastSince n last (high_frame key.geometry (marks_of_seat q.seat))) (sym seat_is) (own.since last is.since);
      }

-- ---- what was placed

HasLaidPhase-same : (samples : List ℤ) (x y v w : List Entry) (c d e f : PlaybackStream) (ended : List Segment) → v ≡ x → w ≡ y → e ≡ c → f ≡ d → HasLaidPhase samples x y c d ended
    → HasLaidPhase samples v w e f ended
HasLaidPhase-same samples x y v w c d e f ended one two first second laid =
    subst (λ (s : List Entry). HasLaidPhase samples s w e f ended) (sym one)
    (subst (λ (t : List Entry). HasLaidPhase samples x t e f ended) (sym two)
    (subst (λ (m : PlaybackStream). HasLaidPhase samples x y m f ended) (sym first)
    (subst (λ (n : PlaybackStream). HasLaidPhase samples x y c n ended) (sym second) laid)))

HasLaidPhase-extends : (samples : List ℤ) (s t : MixSeat) (c d : PlaybackStream) (ended : List Segment) → ExtendsStretches seat_port samples s t c d ended
    → HasLaidPhase samples (view_of s).laid (view_of t).laid c d ended
HasLaidPhase-extends samples s t c d ended extends =
    let away = extends.away in
    let laid = away.laid_them.laid in
    record {
      totals = λ f k.
          let all = ap (λ (es : List Entry). total es f k) laid in
          let sum = total-append (view_of s).laid away.entries f k in
          let grows = away.totals f k in
          omega (arith, ints, all, sum, grows);
      standing_adds = λ early is.
          ap standing laid ∙ (fold-append stand_after [] (view_of s).laid away.entries ∙ (ap (λ (es : List Entry). fold stand_after es away.entries) is ∙ away.lost early));
      same_member = extends.same_member;
      same_bindings = extends.same_bindings;
    }

-- ---- a phase

-- In a phase a client of a run did its lines, with these rows, as the phase allows it, with a gate that had stopped it so often before the first
-- phase and so often after this one, and that it asked so often in this one; and its segments grew by these.
pub record PhaseRun (phase : ℕ) (wav : Sound) (number : ℕ) (rules : Rules)
    (lines : List Line) (base after asks : ℕ) (IsAfter : AtPort → Type 0) (Laid : List Segment → Type 0)
    (first : AtPort) (client next : Client) (rows_before rows_after : List Row) : Type 0 where
  pub at : AtPort
  pub rows : List Row
  pub may : LinesMay (client_kind phase wav number) rules (first, client)
      (ops_by (is_client number) lines) (at, next) rows
  pub is : IsAfter at
  pub gate : at.by_gate + base ≡ after
  pub gate_asks : at.at_gate ≡ first.at_gate + asks
  pub rows_are : rows_after ≡ rows_before ++ rows
  pub ended : List Segment
  pub ended_are : next.ended ≡ client.ended ++ ended
  pub laid : Laid ended

-- that of a client of the lab, as it was before the phase and as it is after it
abbrev pub ClientRun : ℕ → Sound → Rules → List Line → TableId → Key → Option ℕ
    → ℕ → ℕ → ℕ → AtPort → LabClient → LabClient → Type 0
ClientRun phase wav rules lines ring key last base after asks first d e =
    PhaseRun phase wav (number_of d) rules lines base after asks (IsAt ring key wav last e)
    (λ ended. GoesOrRests (HasLaidBy wav ended) (ended ≡ []) (open_of d) (open_of e)) first
    (client_in d) (client_in e) (rows_of d) (rows_of e)

-- an actor's part in a phase is what the phase allows to it (lab_run: `parts_are_runs`)
abbrev pub ClientPartsAreRuns : ℕ → Sound → Rules → Type 0
ClientPartsAreRuns phase wav rules =
    (number : ℕ) → PartsAreRuns (client_kind phase wav number) rules

-- a client that isn't open has the rows that it had
GoesOrRests-rows : (Goes : OpenClient → OpenClient → Type 0) (w x : LabClient) (o p : Option OpenClient) → GoesOrRests Goes (x.rows ≡ w.rows) o p → GoesOrRests Goes (x.rows.items ≡ w.rows.items) o p
GoesOrRests-rows Goes w x None None same = ap (λ (v : Vec Row). v.items) same
GoesOrRests-rows Goes w x (Some o) (Some p) goes = goes
GoesOrRests-rows Goes w x None (Some p) never = absurd never
GoesOrRests-rows Goes w x (Some o) None never = absurd never

module _ {capture : Option Sound} {phase : ℕ} (c : Card) (a b : CardActor) (d : Card) (lines : List Line) (is : CardPhase capture phase c a b d lines) (ring : TableId) (key : Key)
    (of : IsCardOfRing ring key c) (wav : Sound) (last : Option ℕ) (base before after asks : ℕ) (lasts : LastsAreOwn)
    (runs : ClientPartsAreRuns phase wav (rules_between c b.card lines)) where
  -- an open client found what the phase allows
  open-found : (o p q r : OpenClient) (number : ℕ) (first : AtPort) → IsOpenAt ring key wav last number o first → IsInformed c o p → HasRun before after asks phase wav lines p q → IsHeard d q r
      → (doing : Doing) → IsAtPort seat_port left_in stops_in at_gate_in p.seat key.geometry p.opened_at (q.seat, (q.actor.left, after, asks)) doing → AreOf (rules_between c b.card lines) doing.1
  open-found o p q r number first at informed run heard doing done =
      client-found c a b d lines is o.seat p.seat q.seat r.seat doing.1 (record {
        of_ring = (at.place.of_ring ∙ sym of.of_ring, at.place.of_key ∙ sym of.of_key);
        informed = informed.seat;
        key = run.part.extends.away.laid_them.goes.key;
        loads = done.loads;
        late = done.late;
        overtaken = done.overtaken;
        same = heard.seat;
        knows = heard.knows;
      })

  open-phase : (o p q r : OpenClient) (number : ℕ) (first : AtPort) → IsOpenAt ring key wav last number o first → first.by_gate + base ≡ before → IsInformed c o p
      → HasRun before after asks phase wav lines p q → IsHeard d q r
      → PhaseRun phase wav number (rules_between c b.card lines) lines base after asks (IsOpenAt ring key wav last number r) (λ ended. HasLaidBy wav ended o r) first
      (client_of o.actor) (client_of r.actor) o.actor.rows.items r.actor.rows.items
  open-phase o p q r number first at counts informed run heard =
      let at_p = IsOpenAt-informed c ring key wav last number o p first informed at in
      let done = did ring key wav last number base before after asks phase lines p q first at_p counts run in
      let rows : List Row = run.part.rows in
      let n : ℕ = p.actor.number in
      let low = ActorPart-lowered (client_kind phase wav n) key.geometry (client_is_blind phase wav n) base first.at_gate (ops_by (is_client n) lines) 0 first (omega arith) (client_of p.actor) nothing_found
      done.doing.0 (client_of q.actor) done.doing.1 rows done.done in
      let rules : Rules = rules_between c b.card lines in
      let ops : List Op = ops_by (is_client number) lines in
      let part : ActorPart (client_kind phase wav number) key.geometry ((first, client_of p.actor), nothing_found) ops ((low.0, client_of q.actor), done.doing.1) rows =
      subst (λ (m : ℕ). ActorPart (client_kind phase wav m) key.geometry ((first, client_of p.actor), nothing_found) (ops_by (is_client m) lines)
      ((low.0, client_of q.actor), done.doing.1) rows) at_p.numbered low.2 in
      let on_ring : ActorPart (client_kind phase wav number) rules.at.ring ((first, client_of p.actor), nothing_found) ops ((low.0, client_of q.actor), done.doing.1) rows =
      subst (λ (g : Geometry). ActorPart (client_kind phase wav number) g ((first, client_of p.actor), nothing_found) ops ((low.0, client_of q.actor), done.doing.1) rows)
      (ap (λ (k : Key). k.geometry) (sym of.of_key)) part in
      let may : LinesMay (client_kind phase wav number) rules (first, client_of p.actor) ops (low.0, client_of q.actor) rows =
      runs number (first, client_of p.actor) (low.0, client_of q.actor) done.doing.1 ops rows on_ring
      (open-found o p q r number first at informed run heard done.doing done.at) in
      record {
        at = low.0;
        rows = rows;
        may = subst (λ (x : ClientActor). LinesMay (client_kind phase wav number) rules (first, client_of x) ops (low.0, client_of r.actor) rows) informed.actor
            (subst (λ (x : ClientActor). LinesMay (client_kind phase wav number) rules (first, client_of p.actor) ops (low.0, client_of x) rows) (sym heard.actor) may);
        is = IsOpenAt-heard d ring key wav last number q r low.0 heard
            (at-last ring key wav last number base before after asks phase lines p q first lasts at_p run done.doing low.0 done.at low.1);
        gate = ap (λ (x : AtPort). x.by_gate) (sym low.1.is) ∙ done.at.by_gate_is;
        gate_asks = let more = low.1.asks in let own = done.at.at_gate_is in omega (arith, more, own);
        rows_are = ap (λ (x : ClientActor). x.rows.items) heard.actor ∙ (run.part.rows_are ∙ ap (λ (x : ClientActor). x.rows.items ++ rows) informed.actor);
        ended = run.part.ended;
        ended_are = ap (λ (x : ClientActor). x.ended.items) heard.actor ∙ (run.part.ended_are ∙ ap (λ (x : ClientActor). x.ended.items ++ run.part.ended) informed.actor);
        laid = HasLaidPhase-same wav.samples (view_of p.seat).laid (view_of q.seat).laid (view_of o.seat).laid (view_of r.seat).laid (stream_of p) (stream_of q) (stream_of o) (stream_of r)
            run.part.ended (sym informed.seat.laid) (ap (λ (v : View). v.laid) heard.seat.view) (ap (λ (x : ClientActor). x.client.stream) (sym informed.actor))
            (ap (λ (x : ClientActor). x.client.stream) heard.actor)
            (HasLaidPhase-extends wav.samples p.seat q.seat (stream_of p) (stream_of q) run.part.ended run.part.extends);
      }

  -- a client that isn't open had its lines refused
  closed-phase : (number : ℕ) (first : AtPort) (segments : List Segment) (rows next : List Row) → first.by_gate + base ≡ before → AllRefused before after asks phase number lines rows next
      → first ≡ new_port key.geometry first.by_gate first.at_gate
      → PhaseRun phase wav number (rules_between c b.card lines) lines base after asks (λ at. at ≡ new_port key.geometry at.by_gate at.at_gate) (λ ended. ended ≡ []) first
      (record { own = None; ended = segments }) (record { own = None; ended = segments }) rows next
  closed-phase number first segments rows next counts refused new =
      let client : Client = record { own = None; ended = segments } in
      let rules : Rules = rules_between c b.card lines in
      let ops : List Op = ops_by (is_client number) lines in
      let own_rows : List Row = refused_rows phase (actor.Client number) ops in
      record {
        at = first;
        rows = own_rows;
        may = runs number (first, client) (first, client) nothing_found ops own_rows (refused.part.clients wav rules.at.ring first nothing_found client refl)
            (record { loads = tt; late = tt; overtaken = tt });
        is = new;
        gate = counts ∙ sym refused.gate;
        gate_asks = let none = refused.none in omega (arith, none);
        rows_are = refused.rows;
        ended = [];
        ended_are = sym (append-nil segments);
        laid = refl;
      }

  -- by whether the client is open
  phase-by : (number : ℕ) (segments : List Segment) (rows informed_rows run_rows heard_rows : List Row) (o p q r : Option OpenClient) (first : AtPort)
      → IsAtBy ring key wav last number o first → first.by_gate + base ≡ before → GoesOrRests (IsInformed c) (informed_rows ≡ rows) o p
      → GoesOrRests (HasRun before after asks phase wav lines) (AllRefused before after asks phase number lines informed_rows run_rows) p q → GoesOrRests (IsHeard d) (heard_rows ≡ run_rows) q r
      → PhaseRun phase wav number (rules_between c b.card lines) lines base after asks (IsAtBy ring key wav last number r) (λ ended. GoesOrRests (HasLaidBy wav ended) (ended ≡ []) o r) first
      (client_by segments o) (client_by segments r) (rows_by rows o) (rows_by heard_rows r)
  phase-by number segments rows informed_rows run_rows heard_rows None None None None first at counts informed run heard =
      closed-phase number first segments rows heard_rows counts
      (subst (λ (xs : List Row). AllRefused before after asks phase number lines xs heard_rows) informed
      (subst (λ (xs : List Row). AllRefused before after asks phase number lines informed_rows xs) (sym heard) run)) at
  phase-by number segments rows informed_rows run_rows heard_rows (Some o) (Some p) (Some q) (Some r) first at counts informed run heard =
      open-phase o p q r number first at counts informed run heard
  phase-by number segments rows informed_rows run_rows heard_rows None (Some p) q r first at counts informed run heard = absurd informed
  phase-by number segments rows informed_rows run_rows heard_rows (Some o) None q r first at counts informed run heard = absurd informed
  phase-by number segments rows informed_rows run_rows heard_rows None None (Some q) r first at counts informed run heard = absurd run
  phase-by number segments rows informed_rows run_rows heard_rows (Some o) (Some p) None r first at counts informed run heard = absurd run
  phase-by number segments rows informed_rows run_rows heard_rows None None None (Some r) first at counts informed run heard = absurd heard
  phase-by number segments rows informed_rows run_rows heard_rows (Some o) (Some p) (Some q) None first at counts informed run heard = absurd heard

  -- What a client's meet with the card, its lines and its other meet make of it is what the phase allows to the client of a run.
  pub client-phase : (w x y z : LabClient) (first : AtPort) → IsAt ring key wav last w first → first.by_gate + base ≡ before → IsClientInformed c w x
      → RunsLines before after asks phase wav lines x y → IsClientHeard d y z → ClientRun phase wav (rules_between c b.card lines) lines ring key last base after asks first w z
  client-phase w x y z first at counts informed run heard =
      let number : number_of z ≡ number_of w = heard.rest.number ∙ (run.rest.number ∙ informed.rest.number) in
      let segments : ended_of z ≡ ended_of w = heard.rest.ended ∙ (run.rest.ended ∙ informed.rest.ended) in
      let lines_run = subst (λ (n : ℕ). GoesOrRests (HasRun before after asks phase wav lines) (AllRefused before after asks phase n lines x.rows.items y.rows.items) (open_of x) (open_of y))
      informed.rest.number run.own in
      let whole = phase-by (number_of w) (ended_of w) w.rows.items x.rows.items y.rows.items z.rows.items (open_of w) (open_of x) (open_of y) (open_of z) first at counts
      (GoesOrRests-rows (IsInformed c) w x (open_of w) (open_of x) informed.own) lines_run (GoesOrRests-rows (IsHeard d) y z (open_of y) (open_of z) heard.own) in
      let rules : Rules = rules_between c b.card lines in
      subst (λ (n : ℕ). PhaseRun phase wav (number_of w) rules lines base after asks (IsAtBy ring key wav last n (open_of z))
      (λ ended. GoesOrRests (HasLaidBy wav ended) (ended ≡ []) (open_of w) (open_of z)) first (client_in w) (client_in z) (rows_of w) (rows_of z)) (sym number)
      (subst (λ (es : List Segment). PhaseRun phase wav (number_of w) rules lines base after asks (IsAtBy ring key wav last (number_of w) (open_of z))
      (λ ended. GoesOrRests (HasLaidBy wav ended) (ended ≡ []) (open_of w) (open_of z)) first (client_in w) (client_by es (open_of z)) (rows_of w) (rows_of z)) (sym segments) whole)
