-- The rows of openings and closings have a text, and their actors stay such that they have one.
use Rattle.run_laws.specs.Prelude.{arith, length, List, None, Option, refl, subst, ℕ, [], ◌++◌, ◌+◌, ◌∙◌, ◌∷◌, ◌≡◌, nat_tests, length-set, map-append, All-push}
use Rattle.run_laws.specs.Prelude.{All-set, All, map, slice_set, PcmError, State, Actor, Op, Request, Done, Failed, Row, Script, IsActor, IsBorder}
use Rattle.run_laws.specs.Prelude.{request_of_row, HasErrorText, HasStateText, IsRowOf, Client, Lobby, Reader, AtPort, after_close, after_open, client_at}
use Rattle.run_laws.specs.Prelude.{ended_client, ended_reader, reader_at, Session, Stage, stage_row, with_row, AtBorder, closes-to, IsRefusal, IsStateOf}
use Rattle.run_laws.specs.Prelude.{opens-to}
use Rattle.run_laws.proofs.ClientCalls.{IsReportable}
use Rattle.run_laws.proofs.Requests.{asks}
use Rattle.dshare.specs.Owners as owners
use Rattle.pcm_states.specs.declared.states.State.TheVariants as state
use Rattle.lab_lines.specs.declared.line.Op.TheVariants as op
use Rattle.run_laws.proofs.ReaderCalls as reader_calls

-- a client, and a reader, at its port has a state with a text where it is open
abbrev pub IsClientReportable : AtPort × Client → Type 0
IsClientReportable (a, client) = IsReportable client.own

abbrev pub IsReaderReportable : AtPort × Reader → Type 0
IsReaderReportable (a, reader) = reader_calls.IsReportable reader.own

-- a stage has the script's clients and readers, whose states have texts, and rows of the script
pub record CanBeReported (script : Script) (stage : Stage) : Type 0 where
  pub all_clients : length stage.clients ≡ length script.clients
  pub all_readers : length stage.readers ≡ length script.readers
  pub clients : All IsClientReportable stage.clients
  pub readers : All IsReaderReportable stage.readers
  pub rows : All (IsRowOf script) stage.rows

-- such a stage is left, with so many phases more, and with the rows of requests
pub record AddsRows (script : Script) (stage : Stage) (phases : ℕ) (requests : List Request) (after : Stage) : Type 0 where
  pub reportable : CanBeReported script after
  pub phases_are : after.phases ≡ stage.phases + phases
  pub asked : map request_of_row after.rows ≡ map request_of_row stage.rows ++ requests

-- by an opening or closing, with the row of its request
abbrev pub AddsRow : Script → Stage → Request → Stage → Type 0
AddsRow script stage request after = AddsRows script stage 0 (request ∷ []) after

-- ---- a row

-- with one row more, where the clients and readers are as many as before
adds : (script : Script) (stage between : Stage) (row : Row) → CanBeReported script between → between.phases ≡ stage.phases → between.rows ≡ stage.rows
    → IsRowOf script row → AddsRow script stage (request_of_row row) (with_row row between)
adds script stage between row reportable phases rows is = record {
  reportable = record {
    all_clients = reportable.all_clients;
    all_readers = reportable.all_readers;
    clients = reportable.clients;
    readers = reportable.readers;
    rows = All-push (IsRowOf script) between.rows row reportable.rows is;
  };
  phases_are = omega (arith, phases);
  asked = map-append request_of_row between.rows (row ∷ []) ∙ (λ i. map request_of_row (rows i) ++ request_of_row row ∷ []);
}

refused-text : (e : PcmError) → IsRefusal e → HasErrorText e
refused-text other is = grind (arith, nat_tests)

-- ---- openings and closings

module _ (script : Script) (session : Session) (stage : Stage) (reportable : CanBeReported script stage) where
  actor-of : (who : Actor) → IsBorder (length script.clients) (length script.readers) who → IsActor (length script.clients) (length script.readers) who
  actor-of who within = grind (arith, nat_tests)

  state-of : (who : Actor) (s : State) → IsBorder (length script.clients) (length script.readers) who → IsStateOf session stage who s → HasStateText s
  state-of who s within is = grind (arith, nat_tests)

  -- another client, and another reader, in the place of one
  with-client : (n : ℕ) (x : AtPort × Client) (lobby : Lobby) (claims : List owners.ClaimRow) → IsClientReportable x
      → CanBeReported script (record stage { lobby = lobby; claims = claims; clients = slice_set stage.clients n x })
  with-client n x lobby claims is = record {
    all_clients = length-set stage.clients n x ∙ reportable.all_clients;
    all_readers = reportable.all_readers;
    clients = All-set IsClientReportable stage.clients n x is reportable.clients;
    readers = reportable.readers;
    rows = reportable.rows;
  }

  with-reader : (n : ℕ) (x : AtPort × Reader) → IsReaderReportable x → CanBeReported script (record stage { readers = slice_set stage.readers n x })
  with-reader n x is = record {
    all_clients = reportable.all_clients;
    all_readers = length-set stage.readers n x ∙ reportable.all_readers;
    clients = reportable.clients;
    readers = All-set IsReaderReportable stage.readers n x is reportable.readers;
    rows = reportable.rows;
  }

  border-adds : (who : Actor) (asked : Op) → IsBorder (length script.clients) (length script.readers) who
      → AtBorder session stage who asked (AddsRow script stage (asks stage.phases who asked))
  border-adds who asked within = record {
    none = λ card. absurd (subst (IsBorder (length script.clients) (length script.readers)) card within);
    refused = λ lobby e s seen refusal own. adds script stage (record stage { lobby = lobby }) (stage_row stage who asked (Failed e) s seen) (record {
      all_clients = reportable.all_clients;
      all_readers = reportable.all_readers;
      clients = reportable.clients;
      readers = reportable.readers;
      rows = reportable.rows;
    }) refl refl (record { actor = actor-of who within; answer = refused-text e refusal; state = state-of who s within own });
    opens = λ n setup lobby who_is there closed granted. adds script stage _ (stage_row stage who asked Done state.Prepared None) (with-client n _ lobby _ tt) refl refl (done tt);
    ends = λ n c who_is is. adds script stage _ (stage_row stage who asked Done state.Open c.seen)
        (with-client n (ended_client session.ring (client_at session stage n)) _ _ tt) refl refl (done tt);
    reader_opens = λ n setup who_is there. adds script stage _ (stage_row stage who asked Done state.Prepared None) (with-reader n _ tt) refl refl (done tt);
    reader_ends = λ n seen who_is. adds script stage _ (stage_row stage who asked Done state.Open seen) (with-reader n (ended_reader session.ring (reader_at session stage n)) tt) refl refl (done tt);
  }
    where
      done : {s : State} {seen : Option ℕ} → HasStateText s → IsRowOf script (stage_row stage who asked Done s seen)
      done text = record { actor = actor-of who within; answer = tt; state = text }

  pub open-adds : (who : Actor) → IsBorder (length script.clients) (length script.readers) who → AddsRow script stage (asks stage.phases who op.Opens) (after_open session stage who)
  open-adds who within = opens-to session stage (AddsRow script stage (asks stage.phases who op.Opens)) who (border-adds who op.Opens within)

  pub close-adds : (who : Actor) → IsBorder (length script.clients) (length script.readers) who → AddsRow script stage (asks stage.phases who op.Closes) (after_close session stage who)
  close-adds who within = closes-to session stage (AddsRow script stage (asks stage.phases who op.Closes)) who (border-adds who op.Closes within)
