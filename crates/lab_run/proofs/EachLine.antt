-- What each line of a client or a reader leaves: what its call leaves, or what is so of an actor that is left as it is.
use Rattle.lab_run.specs.Prelude.{None, Option, refl, Some, subst, sym, ℕ, ◌≡◌, Bool, false, true, Marks, ends, ◌>>=◌, Gives, Gives-taken, Gives-then}
use Rattle.lab_run.specs.Prelude.{PlaybackStream, CaptureStream, Sound, Op, Answer, Done, Failed, after_call, begins, call_of, Client, client_kind, line_by}
use Rattle.lab_run.specs.Prelude.{line_if, LineMay, Reader, reader_kind, AtPort, MayGet, MayLay, MayLoad, Rules}
use Rattle.snd_base.specs.declared.errors.PcmError.TheVariants as error
use Rattle.lab_lines.specs.declared.line.Op.TheVariants as op
use Rattle.lab_run.specs.Reader as readers

-- ---- clients

-- a call of an open client leaves a fact
abbrev pub CallGives : (Client × Answer → Type 0) → Sound → Client → PlaybackStream → Op → Type 0
CallGives Q wav client c asked = (marks : Marks) → Gives (λ (done : PlaybackStream × Answer). Q (after_call client c asked done)) (call_of wav marks c asked)

-- so does its line, which does nothing where a stop came before, or where it is a die
pub client_line_if-gives : (Q : Client × Answer → Type 0) (wav : Sound) (marks : Marks) (client : Client) (c : PlaybackStream) (stopped : Bool) (asked : Op)
    → Q (client, Failed error.Stopped) → Q (client, Done) → (stopped ≡ false → CallGives Q wav client c asked) → Gives Q (line_if stopped wav marks client c asked)
client_line_if-gives Q wav marks client c stopped asked stops dies calls = by_stop stopped refl
  where
    by_call : (o : Op) → CallGives Q wav client c o → Gives Q (call_of wav marks c o >>= λ done. ends (after_call client c o done))
    by_call o gives =
        Gives-then (λ (done : PlaybackStream × Answer). Q (after_call client c o done)) Q (call_of wav marks c o) (λ done. ends (after_call client c o done)) (gives marks) (λ done is. is)

    by_op : (o : Op) → CallGives Q wav client c o → Gives Q (line_if false wav marks client c o)
    by_op (op.Die k) gives = dies
    by_op other gives = by_call other gives

    by_stop : (b : Bool) → stopped ≡ b → Gives Q (line_if b wav marks client c asked)
    by_stop true is = stops
    by_stop false is = by_op asked (calls is)

-- a line of any client
pub client_line-gives : (Q : Client × Answer → Type 0) (wav : Sound) (marks : Marks) (client : Client) (own : Option PlaybackStream) (asked : Op)
    → (own ≡ None → Q (client, Failed error.BadState))
    → ((c : PlaybackStream) → own ≡ Some c → Q (client, Failed error.Stopped))
    → ((c : PlaybackStream) → own ≡ Some c → Q (client, Done))
    → ((c : PlaybackStream) → own ≡ Some c → CallGives Q wav client c asked)
    → Gives Q (line_by wav marks client own asked)
client_line-gives Q wav marks client own asked closed stops dies calls = by_own own refl
  where
    by_own : (o : Option PlaybackStream) → own ≡ o → Gives Q (line_by wav marks client o asked)
    by_own None is = closed is
    by_own (Some c) is = client_line_if-gives Q wav marks client c c.status.stopped asked (stops c is) (dies c is) (λ going. calls c is)

-- a line that a phase allows to a client that is open, and to any
pub open_client-line : (Q : Client × Answer → Type 0) (rules : Rules) (phase : ℕ) (wav : Sound) (number : ℕ) (a b : AtPort) (client after : Client) (c : PlaybackStream)
    (asked : Op) (answer : Answer) → client.own ≡ Some c → Q (client, Failed error.Stopped) → Q (client, Done)
    → (c.status.stopped ≡ false → CallGives Q wav client c asked)
    → LineMay (client_kind phase wav number) rules (a, client) asked (b, after) answer → Q (after, answer)
open_client-line Q rules phase wav number a b client after c asked answer is stops dies calls may =
    Gives-taken (MayLoad rules) (MayLay rules) (MayGet rules) Q (begins client.own asked a) b
    (line_by wav marks client client.own asked) (after, answer)
    (subst (λ own. Gives Q (line_by wav marks client own asked)) (sym is)
    (client_line_if-gives Q wav marks client c c.status.stopped asked stops dies calls)) may
  where
    marks : Marks
    marks = (begins client.own asked a).marks

pub client-line : (Q : Client × Answer → Type 0) (rules : Rules) (phase : ℕ) (wav : Sound) (number : ℕ) (a b : AtPort) (client after : Client) (asked : Op) (answer : Answer)
    → (client.own ≡ None → Q (client, Failed error.BadState))
    → ((c : PlaybackStream) → client.own ≡ Some c → Q (client, Failed error.Stopped))
    → ((c : PlaybackStream) → client.own ≡ Some c → Q (client, Done))
    → ((c : PlaybackStream) → client.own ≡ Some c → CallGives Q wav client c asked)
    → LineMay (client_kind phase wav number) rules (a, client) asked (b, after) answer → Q (after, answer)
client-line Q rules phase wav number a b client after asked answer closed stops dies calls may =
    Gives-taken (MayLoad rules) (MayLay rules) (MayGet rules) Q (begins client.own asked a) b
    (line_by wav (begins client.own asked a).marks client client.own asked) (after, answer)
    (client_line-gives Q wav (begins client.own asked a).marks client client.own asked closed stops dies calls) may

-- ---- readers

-- a call of an open reader leaves a fact
abbrev pub ReadGives : (Reader × Answer → Type 0) → Reader → CaptureStream → Op → Type 0
ReadGives Q reader r asked = Gives (λ (done : CaptureStream × Answer). Q (readers.after_call reader asked done)) (readers.call_of r asked)

-- so does its line, which does nothing where a stop came before, or where it is a die
pub reader_line_if-gives : (Q : Reader × Answer → Type 0) (reader : Reader) (r : CaptureStream) (stopped : Bool) (asked : Op)
    → Q (reader, Failed error.Stopped) → Q (reader, Done) → (stopped ≡ false → ReadGives Q reader r asked) → Gives Q (readers.line_if stopped reader r asked)
reader_line_if-gives Q reader r stopped asked stops dies calls = by_stop stopped refl
  where
    by_call : (o : Op) → ReadGives Q reader r o → Gives Q (readers.call_of r o >>= λ done. ends (readers.after_call reader o done))
    by_call o gives =
        Gives-then (λ (done : CaptureStream × Answer). Q (readers.after_call reader o done)) Q (readers.call_of r o) (λ done. ends (readers.after_call reader o done)) gives (λ done is. is)

    by_op : (o : Op) → ReadGives Q reader r o → Gives Q (readers.line_if false reader r o)
    by_op (op.Die k) gives = dies
    by_op other gives = by_call other gives

    by_stop : (b : Bool) → stopped ≡ b → Gives Q (readers.line_if b reader r asked)
    by_stop true is = stops
    by_stop false is = by_op asked (calls is)

-- a line of any reader
pub reader_line-gives : (Q : Reader × Answer → Type 0) (reader : Reader) (own : Option CaptureStream) (asked : Op)
    → (own ≡ None → Q (reader, Failed error.BadState))
    → ((r : CaptureStream) → own ≡ Some r → Q (reader, Failed error.Stopped))
    → ((r : CaptureStream) → own ≡ Some r → Q (reader, Done))
    → ((r : CaptureStream) → own ≡ Some r → ReadGives Q reader r asked)
    → Gives Q (readers.line_by reader own asked)
reader_line-gives Q reader own asked closed stops dies calls = by_own own refl
  where
    by_own : (o : Option CaptureStream) → own ≡ o → Gives Q (readers.line_by reader o asked)
    by_own None is = closed is
    by_own (Some r) is = reader_line_if-gives Q reader r r.status.stopped asked (stops r is) (dies r is) (λ going. calls r is)

-- a line that a phase allows to a reader that is open, and to any
pub open_reader-line : (Q : Reader × Answer → Type 0) (rules : Rules) (phase number : ℕ) (a b : AtPort) (reader after : Reader) (r : CaptureStream) (asked : Op) (answer : Answer)
    → reader.own ≡ Some r → Q (reader, Failed error.Stopped) → Q (reader, Done) → (r.status.stopped ≡ false → ReadGives Q reader r asked)
    → LineMay (reader_kind phase number) rules (a, reader) asked (b, after) answer → Q (after, answer)
open_reader-line Q rules phase number a b reader after r asked answer is stops dies calls may =
    Gives-taken (MayLoad rules) (MayLay rules) (MayGet rules) Q (readers.begins reader.own asked a) b
    (readers.line_by reader reader.own asked) (after, answer)
    (subst (λ own. Gives Q (readers.line_by reader own asked)) (sym is)
    (reader_line_if-gives Q reader r r.status.stopped asked stops dies calls)) may

pub reader-line : (Q : Reader × Answer → Type 0) (rules : Rules) (phase number : ℕ) (a b : AtPort) (reader after : Reader) (asked : Op) (answer : Answer)
    → (reader.own ≡ None → Q (reader, Failed error.BadState))
    → ((r : CaptureStream) → reader.own ≡ Some r → Q (reader, Failed error.Stopped))
    → ((r : CaptureStream) → reader.own ≡ Some r → Q (reader, Done))
    → ((r : CaptureStream) → reader.own ≡ Some r → ReadGives Q reader r asked)
    → LineMay (reader_kind phase number) rules (a, reader) asked (b, after) answer → Q (after, answer)
reader-line Q rules phase number a b reader after asked answer closed stops dies calls may =
    Gives-taken (MayLoad rules) (MayLay rules) (MayGet rules) Q (readers.begins reader.own asked a) b
    (readers.line_by reader reader.own asked) (after, answer)
    (reader_line-gives Q reader reader.own asked closed stops dies calls) may
