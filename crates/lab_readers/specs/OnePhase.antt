-- A reader in a phase: what its steps were is what a run of the script may have of it.
use Rattle.std.specs.Prelude.{◌≡◌, ℕ, ◌+◌, ◌≤◌, true, List, ◌++◌, Option, Some, None}
use Rattle.std.proofs.Common.{refl, sym, ap, subst, ◌∙◌, arith}
use Rattle.atomic_table.specs.Seated.{TableId}
use Rattle.snd_base.specs.declared.geometry.Geometry.{Geometry}
use Rattle.snoop_table.specs.declared.seats.reader.ReaderSeat.{ReaderSeat}
use Rattle.snoop_table.specs.Readers.{SeatLoaded-composes, geometry_of, seat_view, seen_of}
use Rattle.dsnoop_client.specs.declared.stream.CaptureStream.{CaptureStream}
use Rattle.dsnoop_client.specs.View.{CanUse}
use Rattle.wav_io.specs.Sound.{Sound}
use Rattle.card_sim.specs.declared.card.Card.{Card}
use Rattle.card_sim.specs.Runs.{records_of}
use Rattle.lab_lines.specs.declared.line.Actor.TheVariants as actor
use Rattle.lab_lines.specs.declared.line.Line.{Line}
use Rattle.lab_lines.specs.declared.line.Op.{Op}
use Rattle.lab_lines.specs.declared.row.Row.{Row}
use Rattle.lab_run.specs.ActorPart.{ActorPart, AreOf, Findings, PartsAreRuns, nothing_found}
use Rattle.lab_run.specs.Lines.{LinesMay}
use Rattle.lab_run.specs.Phases.{is_reader, ops_by, played_in}
use Rattle.lab_run.specs.Reader.{Reader, reader_kind}
use Rattle.lab_run.specs.ReaderAtPort.{IsAtSnoop}
use Rattle.lab_run.specs.Rules.{AtPort, Rules}
use Rattle.lab_run.specs.Stage.{new_port}
use Rattle.lab_readers.specs.declared.lines.ReaderActor.{ReaderActor}
use Rattle.lab_actors.specs.Shares.{at_gate_in, left_in, stops_in}
use Rattle.lab_readers.specs.FrameRuns.{frames_of_runs}
use Rattle.lab_actors.specs.Raised.{ActorPart-lowered, with_counts}
use Rattle.lab_readers.specs.Blind.{reader_is_blind}
use Rattle.lab_readers.specs.Parts.{reader_of}
use Rattle.lab_actors.specs.Refused.{refused_rows}
use Rattle.lab_card.specs.declared.card.CardActor.{CardActor}
use Rattle.lab_card.specs.Findings.{CardPhase, reader-found, rules_between}
use Rattle.lab_card.specs.Findings as cards
use Rattle.lab_card.specs.Meets.{IsInformedReader, IsSameReader, KnowsReader}
use Rattle.lab_card.specs.Moves.{geometry_of_card}
use Rattle.lab_readers.specs.declared.reader.LabReader.{LabReader}
use Rattle.lab_readers.specs.OneReaderLaws.{IsOver}
use Rattle.lab_readers.specs.OneReader.{CanRun, IsAt, IsOpenAt, IsSeatedAt, OnSeat, OnSeats, ops_of, reader_in_run, reader_in, rows_of}
use Rattle.lab_readers.specs.SeatPort.{seat_port}
use Rattle.lab_readers.specs.OpenReader.{AllRefused, RunsLines, HasRunAt, HasRun, IsReaderHeard, IsReaderInformed}
use Rattle.lab_readers.specs.Seen.{SeesPlayed, sees-played}

-- the steps of a reader in a phase, which its card begins at c and ends at d: it met a note, its lines were done with a gate that stopped so often
-- before them and after them, and that it asked so often, and the card met its note
pub record Steps (c d : Card) (phase stops after asks : ℕ) (lines : List Line)
    (r s t u : LabReader) : Type 0 where
  pub informed : IsReaderInformed c r s
  pub ran : RunsLines phase stops after asks lines s t
  pub heard : IsReaderHeard d t u

-- A reader did its part of a run in a phase, and is at its port so after it; its own gate had stopped so many other times before the run began. Where
-- the card, which stores what it captures, did its lines in between, what the reader found is what the phase allows.
pub record SeatPart (ring : TableId) (geometry : Geometry) (c d : Card) (phase base after asks : ℕ)
    (ops : List Op) (before : AtPort) (x : ReaderActor) (p : Option ReaderSeat)
    (y : ReaderActor) (q : Option ReaderSeat) : Type 0 where
  pub end : AtPort
  pub rows : List Row
  pub found : Findings
  pub part : ActorPart (reader_kind phase x.number) geometry
      ((before, reader_in_run p x), nothing_found) ops ((end, reader_in_run q y), found) rows
  pub allowed : (capture : Option Sound) (number : ℕ) (a b : CardActor) (lines : List Line)
      → CardPhase capture number c a b d lines → records_of c ≡ true
      → AreOf (rules_between c b.card lines) found
  pub is : IsSeatedAt ring geometry y q end
  pub gate : end.by_gate + base ≡ after
  pub gate_asks : end.at_gate ≡ before.at_gate + asks
  pub rows_are : y.rows.items ≡ x.rows.items ++ rows
  pub number : y.number ≡ x.number

-- it did its lines of a phase as a run of the script may have it
pub record ReaderMay (ring : TableId) (geometry : Geometry) (rules : Rules)
    (phase base after asks : ℕ) (lines : List Line) (before : AtPort) (r u : LabReader) : Type 0 where
  pub end : AtPort
  pub rows : List Row
  pub may : LinesMay (reader_kind phase r.actor.number) rules (before, reader_in r)
      (ops_of r lines) (end, reader_in u) rows
  pub is : IsAt ring geometry u end
  pub gate : end.by_gate + base ≡ after
  pub gate_asks : end.at_gate ≡ before.at_gate + asks
  pub rows_are : rows_of u ≡ rows_of r ++ rows
  pub number : u.actor.number ≡ r.actor.number

-- ---- before the lines

-- a reader that is at its port can use its seat once it met the card's note
CanUse-later : (r : CaptureStream) (s t : ReaderSeat) → geometry_of t ≡ geometry_of s → seen_of s ≤ seen_of t → CanUse r (seat_view s) → CanUse r (seat_view t)
CanUse-later r s t same later can = let newer = can.newer in record { same_geometry = same ∙ can.same_geometry; newer = omega (arith, newer, later) }

pub CanRun-informed : (ring : TableId) (geometry : Geometry) (c : Card) (r s : LabReader) (before : AtPort) → IsAt ring geometry r before → IsReaderInformed c r s → CanRun s
CanRun-informed ring geometry c r s before at informed =
    subst (λ (x : ReaderActor). OnSeat s.seat (λ seat. CanUse x.reader (seat_view seat))) (sym informed.actor) (by_seats r.seat s.seat at informed.seats)
  where
    by_seats : (p q : Option ReaderSeat) → IsSeatedAt ring geometry r.actor p before → OnSeats p q (IsInformedReader c) → OnSeat q (λ seat. CanUse r.actor.reader (seat_view seat))
    by_seats None None is on = tt
    by_seats None (Some t) is on = absurd on
    by_seats (Some s) None is on = absurd on
    by_seats (Some s) (Some t) is on = let seen = on.seen in CanUse-later r.actor.reader s t on.geometry (omega (arith, seen)) is.usable

-- ---- its part

module _ (ring : TableId) (geometry : Geometry) (c d : Card) (over : IsOver ring geometry c) (phase base stops after asks : ℕ) (before : AtPort) (gate : before.by_gate + base ≡ stops) where
  -- of one that isn't open
  part-closed : (ops : List Op) (x y : ReaderActor) → before ≡ new_port geometry before.by_gate before.at_gate → AllRefused phase stops after asks ops x y
      → SeatPart ring geometry c d phase base after asks ops before x None y None
  part-closed ops x y at ran =
      let reader : Reader = reader_in_run None x in
      let rows : List Row = refused_rows phase (actor.Reader x.number) ops in
      let same : reader ≡ reader_in_run None y = ap (λ (runs : List (ℕ × ℕ)). record { own = None; frames = frames_of_runs runs }) (sym ran.file.frames) in
      record {
        end = before;
        rows = rows;
        found = nothing_found;
        part = subst (λ (z : Reader). ActorPart (reader_kind phase x.number) geometry ((before, reader), nothing_found) ops ((before, z), nothing_found) rows) same
            (ran.part.readers geometry before nothing_found reader refl);
        allowed = λ capture number a b lines is records. record { loads = tt; late = tt; overtaken = tt };
        is = at;
        gate = gate ∙ sym ran.same_stops;
        gate_asks = let none = ran.no_asks in omega (arith, none);
        rows_are = ran.rows;
        number = ran.file.number;
      }

  -- of an open one
  part-open : (played : ℕ) (ops : List Op) (x y : ReaderActor) (s t u v : ReaderSeat) → IsOpenAt ring geometry x s before → SeesPlayed c d played → IsInformedReader c s t
      → HasRun phase stops after asks played ops x y t u → IsSameReader u v → KnowsReader d v → SeatPart ring geometry c d phase base after asks ops before x (Some s) y (Some v)
  part-open played ops x y s t u v at sees informed ran same knows =
      let seen = at.seen in
      let informed_seen = informed.seen in
      let start : IsAtSnoop seat_port left_in stops_in at_gate_in t geometry (t, (x.left, stops, 0)) (with_counts base 0 before, nothing_found) =
      record {
        geometry = informed.geometry ∙ at.of_geometry;
        seen = omega (arith, seen, informed_seen);
        left_is = at.left;
        by_gate_is = gate;
        at_gate_is = refl;
        loads = SeatLoaded-composes.none t;
        late = refl;
        overtaken = tt;
      } in
      let most = sees s t u v ran.part.loaded.loads informed ran.part.loaded.loaded_them same knows in
      let done = ran.part.part most t geometry (with_counts base 0 before, nothing_found) start in
      let found : Findings = done.doing.1 in
      let low =
      ActorPart-lowered (reader_kind phase x.number) geometry (reader_is_blind phase x.number) base before.at_gate ops 0 before (omega arith) (reader_of x) nothing_found done.doing.0 (reader_of y) found ran.part.rows
      done.done in
      let end : AtPort = low.0 in
      let seen_is : done.doing.0.seen ≡ end.seen = ap (λ (z : AtPort). z.seen) low.1.is in
      let seen_after = done.at.seen in
      let same_seen = same.seen in
      let meets : cards.ReaderPhase c d s t u v found =
      record {
        of_ring = (at.of_ring ∙ sym over.of_ring, at.of_geometry ∙ sym over.of_geometry);
        informed = informed;
        geometry = ran.same_ring.1;
        loads = done.at.loads;
        late = done.at.late;
        overtaken = done.at.overtaken;
        same = same;
        knows = knows;
      } in
      record {
        end = end;
        rows = ran.part.rows;
        found = found;
        part = low.2;
        allowed = λ capture number a b lines is records. reader-found c a b d lines is records s t u v found meets;
        is = record {
          of_ring = same.ring ∙ (ran.same_ring.0 ∙ (informed.ring ∙ at.of_ring));
          of_geometry = same.geometry ∙ (ran.same_ring.1 ∙ (informed.geometry ∙ at.of_geometry));
          usable = CanUse-later y.reader u v same.geometry (omega (arith, same_seen)) ran.usable;
          seen = omega (arith, seen_is, seen_after, same_seen);
          left = sym (ap (λ (z : AtPort). z.left) low.1.is) ∙ done.at.left_is;
        };
        gate = sym (ap (λ (z : AtPort). z.by_gate) low.1.is) ∙ done.at.by_gate_is;
        gate_asks = let more = low.1.asks in let own = done.at.at_gate_is in omega (arith, more, own);
        rows_are = ran.part.rows_are;
        number = ran.part.same.number;
      }

  part-seats : (played : ℕ) (ops : List Op) (x y : ReaderActor) (p q l m : Option ReaderSeat) → IsSeatedAt ring geometry x p before → SeesPlayed c d played → OnSeats p q (IsInformedReader c)
      → HasRunAt phase stops after asks played ops x y q l → OnSeats l m IsSameReader → OnSeats l m (λ seat later. KnowsReader d later)
      → SeatPart ring geometry c d phase base after asks ops before x p y m
  part-seats played ops x y None None None None at sees informed ran same knows = part-closed ops x y at ran
  part-seats played ops x y (Some s) (Some t) (Some u) (Some v) at sees informed ran same knows = part-open played ops x y s t u v at sees informed ran same knows
  part-seats played ops x y None (Some t) l m at sees informed ran same knows = absurd informed
  part-seats played ops x y (Some s) None l m at sees informed ran same knows = absurd informed
  part-seats played ops x y None None (Some u) m at sees informed ran same knows = absurd ran
  part-seats played ops x y (Some s) (Some t) None m at sees informed ran same knows = absurd ran
  part-seats played ops x y None None None (Some v) at sees informed ran same knows = absurd same
  part-seats played ops x y (Some s) (Some t) (Some u) None at sees informed ran same knows = absurd same

  -- A reader that is at its port does a part of a run, and is at its port after it, whatever its card does in between, of which seats see no more
  -- frames than it plays.
  pub reader-part : (lines : List Line) (r s t u : LabReader) → IsAt ring geometry r before → SeesPlayed c d (played_in lines) → Steps c d phase stops after asks lines r s t u
      → SeatPart ring geometry c d phase base after asks (ops_of r lines) before r.actor r.seat u.actor u.seat
  reader-part lines r s t u at sees steps =
      let ran : HasRunAt phase stops after asks (played_in lines) (ops_of r lines) r.actor t.actor s.seat t.seat =
      subst (λ (x : ReaderActor). HasRunAt phase stops after asks (played_in lines) (ops_by (is_reader x.number) lines) x t.actor s.seat t.seat) steps.informed.actor steps.ran.ran in
      subst (λ (y : ReaderActor). SeatPart ring geometry c d phase base after asks (ops_of r lines) before r.actor r.seat y u.seat) (sym steps.heard.actor)
      (part-seats (played_in lines) (ops_of r lines) r.actor t.actor r.seat s.seat t.seat u.seat at sees steps.informed.seats ran steps.heard.seats steps.heard.knows)

  -- It does its lines of a phase as a run may have it, where its card, which stores what it captures, did its own.
  pub reader-may : {capture : Option Sound} (a b : CardActor) (lines : List Line) → CardPhase capture phase c a b d lines → records_of c ≡ true → (r s t u : LabReader)
      → PartsAreRuns (reader_kind phase r.actor.number) (rules_between c b.card lines) → IsAt ring geometry r before → Steps c d phase stops after asks lines r s t u
      → ReaderMay ring geometry (rules_between c b.card lines) phase base after asks lines before r u
  reader-may {capture = capture} a b lines is records r s t u runs at steps =
      let did = reader-part lines r s t u at (sees-played c a b d lines is records) steps in
      let same : geometry ≡ geometry_of_card c = sym over.of_geometry ∙ sym c.in_step.geometry in
      let part =
      subst
      (λ (g : Geometry). ActorPart (reader_kind phase r.actor.number) g ((before, reader_in r), nothing_found) (ops_of r lines) ((did.end, reader_in u), did.found) did.rows)
      same did.part in
      record {
        end = did.end;
        rows = did.rows;
        may = runs (before, reader_in r) (did.end, reader_in u) did.found (ops_of r lines) did.rows part (did.allowed capture phase a b lines is records);
        is = did.is;
        gate = did.gate;
        gate_asks = did.gate_asks;
        rows_are = did.rows_are;
        number = did.number;
      }
