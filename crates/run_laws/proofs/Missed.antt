-- A line that is answered late names a frame and channel at which its client's stretch has placed no sample.
use Rattle.run_laws.specs.Prelude.{arith, length, List, None, Option, refl, Some, subst, ℕ, [], ◌+◌, ◌<◌, ◌∙◌, ◌≡◌, nat_tests, false, IfSome, slice_index}
use Rattle.run_laws.specs.Prelude.{slice_index_or, rising, Xrun, at, PlaybackStream, segment_of, Sound, Item, Op, Answer, Client, client_kind, no_sound}
use Rattle.run_laws.specs.Prelude.{rules_of, entries_by, LineMay, AtPort, Rules, client_at, Session, Setup, IsLate, LateLinesMiss, placed_now, is_rewind}
use Rattle.run_laws.specs.Prelude.{IsNextSample, LateRewindsNameLast, LateRowsNameNext, NamesLast, NamesNext}
use Rattle.run_laws.proofs.Bound.{HasBindings, IsBound, IsNumberBound, clients-bound, lines-bound}
use Rattle.run_laws.proofs.Expanded.{entries-so, next-free}
use Rattle.run_laws.proofs.Going.{closed-line}
use Rattle.run_laws.proofs.LateLaws.{LateAnswer}
use Rattle.run_laws.proofs.LateParts.{IsMissed, NamedBy, Place, line-late, missed-of}
use Rattle.run_laws.proofs.OnwardLines.{InOpen}
use Rattle.run_laws.proofs.PlayedSegments.{stretch-at}
use Rattle.run_laws.proofs.Stages.{lines-last, reached-each}
use Rattle.lab_lines.specs.declared.line.Op.TheVariants as op

-- the samples of a stretch's segment
of-segment : (session : Session) (number : ℕ) (c : PlaybackStream) (frame channel : ℕ) → IsNextSample c frame channel
    → IfSome (slice_index_or session.clients number None) (λ (s : Setup). (c.setup.bindings ≡ s.bindings) × (c.stretch.part < length (rising s.bindings)))
    → at (entries_by session (number, segment_of c)) frame channel ≡ []
of-segment session number c frame channel next bound = entries-so session number (segment_of c) (λ es. at es frame channel ≡ []) refl (λ wav s wav_is setup_is.
    let has : (c.setup.bindings ≡ s.bindings) × (c.stretch.part < length (rising s.bindings)) =
    subst (λ (o : Option Setup). IfSome o (λ (t : Setup). (c.setup.bindings ≡ t.bindings) × (c.stretch.part < length (rising t.bindings)))) setup_is bound in
    next-free number (segment_of c) wav.samples s.bindings frame channel has.1 next.0
    (subst (λ (b : List ℕ). channel ≡ slice_index b (slice_index (rising b) c.stretch.part)) has.0 next.1))

-- a line of a client that was late
module _ (session : Session) (number : ℕ) (rules : Rules) (phase : ℕ) (wav : Sound) (a b : AtPort) (client after : Client) (asked : Op) (answer : Answer) (frame channel : ℕ)
    (late : IsLate answer frame channel) (may : LineMay (client_kind phase wav number) rules (a, client) asked (b, after) answer) where
  -- the client was open, since a closed one's answer isn't late
  open-before : (own : Option PlaybackStream) → client.own ≡ own → (c : PlaybackStream) × (client.own ≡ Some c)
  open-before (Some c) was = (c, was)
  open-before None was = let is = (closed-line rules phase wav number a b client after asked answer was may).1 in absurd (cc)

  -- its setup's part is short
  short-of : (setup : Option Setup) (before c : PlaybackStream) → client.own ≡ Some before → after.own ≡ Some c → IsBound setup client.own → is_rewind asked ≡ false
      → IfSome setup (λ (s : Setup). (c.setup.bindings ≡ s.bindings) × (c.stretch.part < length (rising s.bindings)))
  short-of None before c was own bound not = tt
  short-of (Some s) before c was own bound not =
      let named : NamedBy (IsMissed s.bindings) s.bindings (c, answer) = missed-of s.bindings asked (c, answer) not
      (subst (λ (o : Option PlaybackStream). InOpen o (λ d. NamedBy (Place s.bindings asked) s.bindings (d, answer))) own
      (line-late rules phase wav number s.bindings a b client after before asked answer was (subst (HasBindings s.bindings) was bound) may)) in
      (named.0, (subst (LateAnswer (λ f k. IsMissed s.bindings c f k × (c.status.state ≡ Xrun))) late named.1).0.1)

  next-of : (c : PlaybackStream) → after.own ≡ Some c → NamesNext after answer → IsNextSample c frame channel
  next-of c own named = grind (arith, nat_tests)

  missed-at : LateRowsNameNext rules phase wav number → IsBound (slice_index_or session.clients number None) client.own → is_rewind asked ≡ false
      → (own : Option PlaybackStream) → after.own ≡ own → at (placed_now session number after) frame channel ≡ []
  missed-at names bound not None is = rw is refl
  missed-at names bound not (Some c) is = let before = open-before client.own refl in rw is
      (stretch-at session number frame channel c ∙ of-segment session number c frame channel
      (next-of c is (names a b client after before.0 asked answer before.1 not may))
      (short-of (slice_index_or session.clients number None) before.0 c before.1 is bound not))

-- a line of an open client
pub late-missed : (session : Session) (body : List Item) → ((rules : Rules) (phase : ℕ) (wav : Sound) (number : ℕ) → LateRowsNameNext rules phase wav number)
    → ((rules : Rules) (phase : ℕ) (wav : Sound) (number : ℕ) → LateRewindsNameLast rules phase wav number)
    → LateLinesMiss session body
late-missed session body names names_last = record {
  rewinds = λ number before after n answer frame channel line late.
      let rules : Rules = rules_of session line.stage line.lines in
      let phase : ℕ = line.stage.phases + 1 in
      let wav : Sound = slice_index_or session.sounds number no_sound in
      let was = open-before session number rules phase wav before.0 after.0 before.1 after.1 (op.Rewind n) answer frame channel late line.line before.1.own refl in
      let named : NamesLast after.1 answer = names_last rules phase wav number before.0 after.0 before.1 after.1 was.0 n answer was.1 line.line in
      record { own = named.own; is_own = named.is_own; last = named.late frame channel late };
  missed = λ number before after asked answer frame channel line not late.
      let rules : Rules = rules_of session line.stage line.lines in
      let phase : ℕ = line.stage.phases + 1 in
      let wav : Sound = slice_index_or session.sounds number no_sound in
      let bound : IsBound (slice_index_or session.clients number None) before.1.own =
      lines-last (client_kind phase wav number) rules (λ z. IsBound (slice_index_or session.clients number None) z.1.own)
      (λ z between given now one so. lines-bound rules phase wav number (slice_index_or session.clients number None) z.0 between.0 z.1 between.1 given now so one)
      (client_at session line.stage number) before line.early line.rows line.lines_so_far
      ((reached-each session 0 (IsNumberBound session) (clients-bound session 0) line.done line.stage (omega arith) line.reached).1 number) in
      missed-at session number rules phase wav before.0 after.0 before.1 after.1 asked answer frame channel late line.line (names rules phase wav number) bound not after.1.own refl;
}
