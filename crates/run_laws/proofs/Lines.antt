-- The lines of actors in a phase: each has a row, whose answer and state have a text, and actors stay such that they have one.
use Rattle.run_laws.specs.Prelude.{ap, arith, length, List, None, Option, refl, Some, subst, sym, ℕ, [], ◌++◌, ◌+◌, ◌<◌, ◌∙◌, ◌∷◌, ◌≡◌, map-append, All-append}
use Rattle.run_laws.specs.Prelude.{All-cons, All-head, All-nil, All-tail, All, map, suc, Gives, Gives-taken, PlaybackStream, Sound, Actor, Line, Op, Answer}
use Rattle.run_laws.specs.Prelude.{Row, Script, request_of_row, of_place, request_of, HasText, IsRowOf, Client, client_kind, EachMay, Kind, LinesMay, Reader}
use Rattle.run_laws.specs.Prelude.{reader_kind, AtPort, MayGet, MayLay, MayLoad, Rules}
use Rattle.run_laws.proofs.ClientCalls.{IsReportable, client_line-reports}
use Rattle.run_laws.proofs.ReaderCalls.{reader_line-reports}
use Rattle.run_laws.proofs.Requests.{asks, from_place}
use Rattle.dsnoop_client.specs.declared.stream.CaptureStream as reading
use Rattle.lab_lines.specs.declared.line.Actor.TheVariants as actor
use Rattle.lab_run.specs.Client as clients
use Rattle.lab_run.specs.Reader as readers
use Rattle.run_laws.proofs.ReaderCalls as reader_calls

-- what the laws need of a kind of actor: each line keeps a property, and has a row of the script
pub record IsReporting {S : Type 0} (script : Script) (phase : ℕ) (who : Actor) (P : S → Type 0) (kind : Kind S) : Type 0 where
  pub line : (a : AtPort) (s : S) (asked : Op) → P s → Gives (λ (x : S × Answer). P x.0 × HasText x.1) (kind.course a s asked)
  pub row : (asked : Op) (s : S) (answer : Answer) → P s → HasText answer → IsRowOf script (kind.row asked s answer)
  pub request : (asked : Op) (s : S) (answer : Answer) → request_of_row (kind.row asked s answer) ≡ asks phase who asked

-- ---- the lines of one actor

pub record HaveRows {S : Type 0} (script : Script) (phase : ℕ) (who : Actor) (P : S → Type 0) (after : AtPort × S) (ops : List Op) (rows : List Row) : Type 0 where
  pub keeps : P after.1
  pub rows_are : All (IsRowOf script) rows
  pub asked : map request_of_row rows ≡ map (asks phase who) ops

lines-rows : {S : Type 0} (script : Script) (phase : ℕ) (who : Actor) (P : S → Type 0) (kind : Kind S) → IsReporting script phase who P kind
    → (rules : Rules) (before after : AtPort × S) (ops : List Op) (rows : List Row) → LinesMay kind rules before ops after rows → P before.1
    → HaveRows script phase who P after ops rows
lines-rows script phase who P kind is rules before after [] rows may p = record {
  keeps = subst (λ x. P x.1) (sym may.0) p;
  rows_are = subst (All (IsRowOf script)) (sym may.1) (All-nil (IsRowOf script));
  asked = ap (map request_of_row) may.1;
}
lines-rows {S = S} script phase who P kind is rules (a, s) after (asked ∷ more) rows ((b, t), answer, others, one, rest, rows_is) p =
    let done : P t × HasText answer = Gives-taken (MayLoad rules) (MayLay rules) (MayGet rules) (λ (x : S × Answer). P x.0 × HasText x.1)
    (kind.begins s asked a) b (kind.course (kind.begins s asked a) s asked) (t, answer) (is.line (kind.begins s asked a) s asked p) one in
    let next = lines-rows script phase who P kind is rules (b, t) after more others rest done.0 in
    record {
      keeps = next.keeps;
      rows_are = subst (All (IsRowOf script)) (sym rows_is)
          (All-cons (IsRowOf script) (kind.row asked t answer) others (is.row asked t answer done.0 done.1) next.rows_are);
      asked = ap (map request_of_row) rows_is ∙ (λ i. is.request asked t answer i ∷ next.asked i);
    }

-- ---- the lines of all actors of a kind, whose places follow each other

pub record AreReported {S : Type 0} (script : Script) (phase : ℕ) (P : S → Type 0) (lines : List Line) (place : ℕ) (before after : List (AtPort × S)) (rows : List Row) : Type 0 where
  pub count : length after ≡ length before
  pub keep : All (λ (x : AtPort × S). P x.1) after
  pub rows_are : All (IsRowOf script) rows
  pub asked : map request_of_row rows ≡ map (request_of phase) (from_place lines place (length before))

pub each-rows : {S : Type 0} (script : Script) (phase : ℕ) (who : ℕ → Actor) (P : S → Type 0) (kind : ℕ → Kind S) (ops : ℕ → List Op) (lines : List Line) (end base : ℕ)
    → ((n : ℕ) → n < end → IsReporting script phase (who n) P (kind n))
    → ((n place : ℕ) → n < end → place ≡ base + n → map (asks phase (who n)) (ops n) ≡ map (request_of phase) (of_place lines place))
    → (rules : Rules) (number place : ℕ) (before after : List (AtPort × S)) (rows : List Row) → place ≡ base + number → number + length before ≡ end
    → EachMay kind rules ops number before after rows → All (λ (x : AtPort × S). P x.1) before
    → AreReported script phase P lines place before after rows
unfolding from_place
each-rows {S = S} script phase who P kind ops lines end base is own rules number place [] after rows at ends may all = record {
  count = ap length may.0;
  keep = subst (All (λ (x : AtPort × S). P x.1)) (sym may.0) (All-nil (λ (x : AtPort × S). P x.1));
  rows_are = subst (All (IsRowOf script)) (sym may.1) (All-nil (IsRowOf script));
  asked = ap (map request_of_row) may.1;
}
each-rows {S = S} script phase who P kind ops lines end base is own rules number place (x ∷ before) after rows at ends (y, others, own_rows, other_rows, one, more, after_is, rows_is) all =
    let within : number < end = omega (arith, ends) in
    let mine = lines-rows script phase (who number) P (kind number) (is number within) rules x y (ops number) own_rows one (All-head (λ (z : AtPort × S). P z.1) x before all) in
    let theirs = each-rows script phase who P kind ops lines end base is own rules (number + 1) (suc place) before others other_rows (omega (arith, at)) (omega (arith, ends))
    more (All-tail (λ (z : AtPort × S). P z.1) x before all) in
    record {
      count = ap length after_is ∙ ap suc theirs.count;
      keep = subst (All (λ (z : AtPort × S). P z.1)) (sym after_is) (All-cons (λ (z : AtPort × S). P z.1) y others mine.keeps theirs.keep);
      rows_are = subst (All (IsRowOf script)) (sym rows_is) (All-append (IsRowOf script) own_rows other_rows mine.rows_are theirs.rows_are);
      asked = ap (map request_of_row) rows_is ∙ map-append request_of_row own_rows other_rows
          ∙ (λ i. (mine.asked ∙ own number place within at) i ++ theirs.asked i)
          ∙ sym (map-append (request_of phase) (of_place lines place) (from_place lines (suc place) (length before)));
    }

-- ---- clients and readers

pub client_row-of : (script : Script) (phase number : ℕ) (asked : Op) (own : Option PlaybackStream) (answer : Answer) → number < length script.clients
    → IsReportable own → HasText answer → IsRowOf script (clients.row_by phase number asked own answer)
client_row-of script phase number asked None answer within is text = record { actor = within; answer = text; state = tt }
client_row-of script phase number asked (Some c) answer within is text = record { actor = within; answer = text; state = is }

pub client_row-asks : (phase number : ℕ) (asked : Op) (own : Option PlaybackStream) (answer : Answer)
    → request_of_row (clients.row_by phase number asked own answer) ≡ asks phase (actor.Client number) asked
client_row-asks phase number asked None answer = refl
client_row-asks phase number asked (Some c) answer = refl

pub client-reports : (script : Script) (phase : ℕ) (wav : Sound) (number : ℕ) → number < length script.clients
    → IsReporting script phase (actor.Client number) (λ (client : Client). IsReportable client.own) (client_kind phase wav number)
client-reports script phase wav number within = record {
  line = λ a client asked is. client_line-reports wav a.marks client client.own asked is is;
  row = λ asked client answer is text. client_row-of script phase number asked client.own answer within is text;
  request = λ asked client answer. client_row-asks phase number asked client.own answer;
}

pub reader_row-of : (script : Script) (phase number : ℕ) (asked : Op) (own : Option reading.CaptureStream) (answer : Answer) → number < length script.readers
    → reader_calls.IsReportable own → HasText answer → IsRowOf script (readers.row_by phase number asked own answer)
reader_row-of script phase number asked None answer within is text = record { actor = within; answer = text; state = tt }
reader_row-of script phase number asked (Some r) answer within is text = record { actor = within; answer = text; state = is }

pub reader_row-asks : (phase number : ℕ) (asked : Op) (own : Option reading.CaptureStream) (answer : Answer)
    → request_of_row (readers.row_by phase number asked own answer) ≡ asks phase (actor.Reader number) asked
reader_row-asks phase number asked None answer = refl
reader_row-asks phase number asked (Some r) answer = refl

pub reader-reports : (script : Script) (phase number : ℕ) → number < length script.readers
    → IsReporting script phase (actor.Reader number) (λ (reader : Reader). reader_calls.IsReportable reader.own) (reader_kind phase number)
reader-reports script phase number within = record {
  line = λ a reader asked is. reader_line-reports reader reader.own asked is is;
  row = λ asked reader answer is text. reader_row-of script phase number asked reader.own answer within is text;
  request = λ asked reader answer. reader_row-asks phase number asked reader.own answer;
}
