-- Clients and readers are kinds of actors whose lines load a position before they place or get anything, and begin where they were.
use Rattle.lab_run.specs.Prelude.{None, Option, refl, Some, ℕ, ◌≡◌, Bool, false, true, [], ⊤, Call, Marks, Course, ends, PlaybackStream, Answered, in_draining}
use Rattle.lab_run.specs.Prelude.{if_admitted, Sound, Op, after_call, begins, call_answer, call_of, Client, client_kind, dies_if, done_answer, line_by, line_if}
use Rattle.lab_run.specs.Prelude.{Kind, Reader, reader_kind, AtPort}
use Rattle.lab_run.proofs.CallParts.{IsSaying, Parts, call_of-says, done_answer-says, if_admitted-says, is_new_stretch}
use Rattle.lab_run.proofs.Leads.{Anything, Led, Led-less, Led-then, LoadsFirst, OkLed, first-of, first-then}
use Rattle.pcm_states.specs.declared.calls.Call.TheVariants as call
use Rattle.dsnoop_client.specs.declared.stream.CaptureStream as reading
use Rattle.lab_lines.specs.declared.line.Op.TheVariants as op
use Rattle.lab_run.specs.Reader as readers
use Rattle.lab_run.proofs.ClientLeads as client_leads
use Rattle.lab_run.proofs.ReadParts as read_parts
use Rattle.lab_run.proofs.ReaderLeads as reader_leads
use Rattle.lab_run.proofs.RewindLeads as rewind_leads

-- what the laws need of a kind of actor
pub record IsKind {S : Type 0} (kind : Kind S) : Type 0 where
  pub first : (a : AtPort) (s : S) (asked : Op) → LoadsFirst false (kind.course a s asked)
  pub seen : (s : S) (asked : Op) (a : AtPort) → (kind.begins s asked a).seen ≡ a.seen
  pub by_gate : (s : S) (asked : Op) (a : AtPort) → (kind.begins s asked a).by_gate ≡ a.by_gate

-- ---- clients

-- how a fact of whether a position was loaded is said of a course
abbrev LedSo : (X : Type 0) → (Bool → X → Type 0) → Bool → Course X → Type 0
LedSo X Q loaded course = Led Q loaded course

led-so : IsSaying LedSo
led-so = record {
  at_end = λ X Q loaded x is. is;
  after = λ X Y R Q loaded course f led next. Led-then R Q loaded course f led next;
  implied = λ X R Q loaded course led less. Led-less R Q less loaded course led;
}

parts-first : (marks : Marks) (c : PlaybackStream) → Parts LedSo (λ n. ⊤) marks c false OkLed (λ state more. OkLed) Anything Anything
parts-first marks c = record {
  same = tt;
  counted = λ n. tt;
  refused = λ e. tt;
  not_counted = λ e. tt;
  looks = λ asked going step. client_leads.syncs-led c asked [] false;
  looked = λ loaded done led. tt;
  numbered = λ number loaded done led. tt;
  drained = λ going moves. first-of OkLed false _ (client_leads.syncs-led (in_draining c) call.Drain [] false);
  starts_to = λ state upto more ring start prepared most few. client_leads.starts-led c state marks.cursor upto ring false;
  started = λ loaded done led. tt;
  drains_on = λ loaded done led. client_leads.drain_on-first [] loaded done;
  empty = λ prepared. tt;
  few_none = tt;
  few_taken = λ n few. tt;
  writes_more = λ n loaded done few led. client_leads.write_on-first [] [] n loaded done led;
  accepted = λ n loaded done few led. tt;
  stored = λ n few prepared. tt;
  checked = λ going runs. rewind_leads.checks-led c false;
  rewinds_on = λ n loaded done led. rewind_leads.rewind_on-first marks.floor [] n loaded done led;
  fewer = λ n prepared most. tt;
  dropped = tt;
  paused = tt;
}

-- a call that begins a new stretch
anew-first : (c : PlaybackStream) (asked : Call) (course : Course (Answered (Unit {0}))) → LoadsFirst false course → LoadsFirst false (call_answer done_answer (if_admitted c asked course))
anew-first c asked course led = done_answer-says LedSo led-so c false Anything Anything (if_admitted c asked course) (λ loaded x is. tt)
    (if_admitted-says LedSo led-so c false Anything asked course (λ e. tt) (λ admits. led))

same-first : (wav : Sound) (marks : Marks) (c : PlaybackStream) (asked : Op) → is_new_stretch asked ≡ false → LoadsFirst false (call_of wav marks c asked)
same-first wav marks c asked not =
    call_of-says LedSo led-so c false (parts-first marks c) Anything (λ loaded x is. tt) (λ loaded x is. tt) tt wav (λ n. tt) asked not

call-first : (wav : Sound) (marks : Marks) (c : PlaybackStream) (asked : Op) → LoadsFirst false (call_of wav marks c asked)
call-first wav marks c op.Prepare = anew-first c call.Prepare (ends _) tt
call-first wav marks c op.Resume = anew-first c call.Resume _ (client_leads.pause-first false c [] marks.cursor)
call-first wav marks c asked = same-first wav marks c asked refl

line_if-first : (stopped : Bool) (wav : Sound) (marks : Marks) (client : Client) (c : PlaybackStream) (asked : Op) → LoadsFirst false (line_if stopped wav marks client c asked)
line_if-first true wav marks client c asked = tt
line_if-first false wav marks client c (op.Die k) = tt
line_if-first false wav marks client c asked =
    first-then false (call_of wav marks c asked) (λ done. ends (after_call client c asked done)) (call-first wav marks c asked) (λ l x. tt)

line_by-first : (wav : Sound) (marks : Marks) (client : Client) (own : Option PlaybackStream) (asked : Op) → LoadsFirst false (line_by wav marks client own asked)
line_by-first wav marks client None asked = tt
line_by-first wav marks client (Some c) asked = line_if-first c.status.stopped wav marks client c asked

-- a `die` changes nothing but what it lets pass
record IsSame (a b : AtPort) : Type 0 where
  pub seen : b.seen ≡ a.seen
  pub by_gate : b.by_gate ≡ a.by_gate

dies_if-same : (stopped : Bool) (asked : Op) (a : AtPort) → IsSame a (dies_if stopped asked a)
dies_if-same false (op.Die k) a = record { seen = refl; by_gate = refl }
dies_if-same stopped asked a = record { seen = refl; by_gate = refl }

begins-same : (own : Option PlaybackStream) (asked : Op) (a : AtPort) → IsSame a (begins own asked a)
begins-same None asked a = record { seen = refl; by_gate = refl }
begins-same (Some c) asked a = dies_if-same c.status.stopped asked a

pub client-IsKind : (phase : ℕ) (wav : Sound) (number : ℕ) → IsKind (client_kind phase wav number)
client-IsKind phase wav number = record {
  first = λ a client asked. line_by-first wav a.marks client client.own asked;
  seen = λ client asked a. (begins-same client.own asked a).seen;
  by_gate = λ client asked a. (begins-same client.own asked a).by_gate;
}

-- ---- readers

reads-first : (r : reading.CaptureStream) → read_parts.Parts LedSo r false OkLed Anything Anything Anything
reads-first r = record {
  same = tt;
  none = tt;
  refused = λ asked e is. tt;
  not_counted = λ asked e is. tt;
  not_read = λ asked e is. tt;
  starts_so = first-of OkLed false _ (reader_leads.starts-led r call.Start false);
  syncs_so = λ runs. first-of OkLed false _ (reader_leads.syncs-led r call.Sync false);
  available = λ loaded done led. tt;
  goes_on = λ runs. reader_leads.syncs-led r call.Transfer false;
  begins = λ still. reader_leads.starts-led r call.Transfer false;
  gets_on = λ n loaded done led. reader_leads.transfer_on-first n loaded done led;
  waiting = λ n. tt;
  dropped = tt;
  prepared = tt;
}

reader_call-first : (r : reading.CaptureStream) (asked : Op) → LoadsFirst false (readers.call_of r asked)
reader_call-first r asked = read_parts.call_of-says LedSo led-so (reads-first r) (λ o. Anything) (λ o loaded x is. tt) (λ loaded x is. tt) (λ n loaded x is. tt)
    (λ o. tt) (λ o. tt) asked

reader_line-first : (stopped : Bool) (reader : Reader) (r : reading.CaptureStream) (asked : Op) → LoadsFirst false (readers.line_if stopped reader r asked)
reader_line-first true reader r asked = tt
reader_line-first false reader r (op.Die k) = tt
reader_line-first false reader r asked =
    first-then false (readers.call_of r asked) (λ done. ends (readers.after_call reader asked done)) (reader_call-first r asked) (λ l x. tt)

reader_by-first : (reader : Reader) (own : Option reading.CaptureStream) (asked : Op) → LoadsFirst false (readers.line_by reader own asked)
reader_by-first reader None asked = tt
reader_by-first reader (Some r) asked = reader_line-first r.status.stopped reader r asked

reader_begins-same : (own : Option reading.CaptureStream) (asked : Op) (a : AtPort) → IsSame a (readers.begins own asked a)
reader_begins-same None asked a = record { seen = refl; by_gate = refl }
reader_begins-same (Some r) asked a = dies_if-same r.status.stopped asked a

pub reader-IsKind : (phase number : ℕ) → IsKind (reader_kind phase number)
reader-IsKind phase number = record {
  first = λ a reader asked. reader_by-first reader reader.own asked;
  seen = λ reader asked a. (reader_begins-same reader.own asked a).seen;
  by_gate = λ reader asked a. (reader_begins-same reader.own asked a).by_gate;
}
