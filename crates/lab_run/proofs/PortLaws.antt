-- A course that was taken at a port and its gate is a part of an actor.
use Rattle.lab_run.specs.Prelude.{ap, arith, inl, inr, None, Option, refl, Some, subst, sym, ℕ, ◌+◌, ◌/◌, ◌<◌, ◌∙◌, ◌≡◌, ◌≤◌, ◌⊎◌, nat_tests, List, replicate}
use Rattle.lab_run.specs.Prelude.{suc, true, zero, [], ◌++◌, ◌∷◌, Geometry, Composes, Composes-none_after, Pass, Go, Stop, StepKind, Again, Marks, Ended, Late}
use Rattle.lab_run.specs.Prelude.{Stopped, Whole, Entry, marks_after, marks_with, without_last, entry_if, IsPast, PortView, ShowsFrom, LaysAt, LoadsAt, NoGet}
use Rattle.lab_run.specs.Prelude.{TakesAt, Course, DoesGet, DoesLay, DoesLoad, Doing, Each, Findings, with_late, with_position, Alike, IsFromOn, IsSamePlace}
use Rattle.lab_run.specs.Prelude.{ask_count, CountsDown, IsActorPart, IsAnswered, IsAtPort, last_kind, with_gate, AtPort, lets_pass, with_asks, with_stop}
use Rattle.lap_word.specs.Word.{lap_of}
use Rattle.mix_core.specs.declared.gate.StepKind.TheVariants.{Position}
use Rattle.mix_core.specs.Gate.{placement_asks}
use Rattle.lab_run.proofs.AlikeLaws.{Takes-alike, without_word}
use Rattle.lab_run.proofs.MarksLaws.{entry-alike}
use Rattle.mix_core.specs.declared.gate.Gate as gates
use Rattle.mix_core.specs.declared.port.MixPort as mixport
use Rattle.mix_core.specs.declared.port.Position as positions

-- ---- asks

ask_count-again : (n : ℕ) → ask_count (replicate n Again) ≡ 0
ask_count-again zero = refl
ask_count-again (suc n) = omega (arith, ask_count-again n)

-- a placement that was done, or late, counts two asks at most
ask_count-placing : (n : ℕ) → 2 ≤ n → ask_count (placement_asks n) ≡ 2
ask_count-placing zero some = absurd (omega (arith, some))
ask_count-placing (suc zero) some = absurd (omega (arith, some))
ask_count-placing (suc (suc n)) some = omega (arith, ask_count-again n)

pub no-asks : (a : AtPort) → with_asks 0 a ≡ a
no-asks a = grind (arith, nat_tests)

-- some asks of one kind: all but the last, and the last
pub without_last-replicate : (n : ℕ) (kind : StepKind) → without_last (replicate (suc n) kind) ≡ replicate n kind
without_last-replicate zero kind = refl
without_last-replicate (suc n) kind = ap (λ kinds. kind ∷ kinds) (without_last-replicate n kind)

pub last_kind-replicate : (n : ℕ) (kind : StepKind) → last_kind (replicate (suc n) kind) ≡ kind
last_kind-replicate zero kind = refl
last_kind-replicate (suc n) kind = last_kind-replicate n kind

-- what asks that were answered make of an actor, by its own fields
pub told : {T : Type 0} {asked : T → T → List StepKind → Pass → Type 0} (left : T → Option ℕ) (by_gate at_gate : T → ℕ) → CountsDown asked left by_gate at_gate
    → (g h : T) (kinds : List StepKind) (pass : Pass) (a : AtPort) → a.left ≡ left g → a.by_gate ≡ by_gate g → a.at_gate ≡ at_gate g → asked g h kinds pass
    → IsAnswered kinds pass a (with_gate left by_gate at_gate h a)
told left by_gate at_gate counts g h kinds pass a left_is by_gate_is at_gate_is asked =
    subst (λ x. IsAnswered kinds pass x (with_gate left by_gate at_gate h a)) same (counts.tells g h kinds pass a asked)
  where
    same : with_gate left by_gate at_gate g a ≡ a
    same = λ i. record { seen = a.seen; marks = a.marks; left = sym left_is i; by_gate = sym by_gate_is i; at_gate = sym at_gate_is i }

-- a frame that isn't below the position seen, unless it was asked for once
pub not-before : (seen port_seen frame : ℕ) (once : Type 0) → (frame < port_seen → once) → seen ≤ port_seen → once ⊎ (seen ≤ frame)
not-before seen port_seen frame once at_once low = grind (arith, nat_tests)

-- ---- what is shown

lap-rises : (word now : ℕ) → word / 16777216 ≤ now / 16777216 → lap_of word ≤ lap_of now
lap-rises word now rises = omega arith

pub Each-more : {X : Type 0} (R : X → Type 0) (xs : List X) (x : X) → Each R xs → R x → Each R (xs ++ x ∷ [])
Each-more R [] x each one = (one, tt)
Each-more R (y ∷ ys) x each one = (each.0, Each-more R ys x each.1 one)

-- the asks of a step that was late or stopped, where its frame isn't below the position seen if it made more than one
asked-on : (n seen port_seen frame : ℕ) → (frame < port_seen → suc (suc n) ≡ 1) → seen ≤ port_seen → seen ≤ frame
asked-on n seen port_seen frame once low = grind (arith, nat_tests)

module _ {S T : Type 0} (P : mixport.Ghosts S) (G : gates.Ghosts T) (shown_laid : (p q : S) (es : List Entry) (f c word : ℕ) → P.laid p q es → P.shows p f c ≡ Some word → ShowsFrom P.shows q f c word)
    (composes : Composes P.loaded) (left : T → Option ℕ) (by_gate at_gate : T → ℕ) (counts : CountsDown G.asked left by_gate at_gate) (first : S) (ring : Geometry) (from : ℕ) where
  abbrev ArePast : S → List (ℕ × ℕ) → Type 0
  ArePast q places = Each (λ (place : ℕ × ℕ). (word : ℕ) × IsPast P.view P.shows q place.0 place.1 word) places

  past-stays : (p q : S) (es : List Entry) (places : List (ℕ × ℕ)) → P.laid p q es → (P.view q).geometry ≡ (P.view p).geometry → ArePast p places → ArePast q places
  past-stays p q es [] laid same each = tt
  past-stays p q es ((frame, channel) ∷ places) laid same ((word, past), others) =
      let shown = shown_laid p q es frame channel word laid past.shown in (
        (
          shown.now,
          record {
            channel = rw same (past.channel);
            shown = shown.shown;
            past = rw same (omega (arith, past.past, lap-rises word shown.now shown.not_before));
          },
        ),
        past-stays p q es places laid same others,
      )

  answered : (s t : S × T) (w : Doing) (kinds : List StepKind) (pass : Pass) → IsAtPort P left by_gate at_gate first ring from s w → G.asked s.1 t.1 kinds pass
      → IsAnswered kinds pass w.0 (with_gate left by_gate at_gate t.1 w.0)
  answered s t w kinds pass at asked = told left by_gate at_gate counts s.1 t.1 kinds pass w.0 at.left_is at.by_gate_is at.at_gate_is asked

  -- a step that leaves the view as it is, and the late frames and channels after it
  idle-at : (s t : S × T) (a : AtPort) (found : Findings) (es : List Entry) (places : List (ℕ × ℕ)) → IsAtPort P left by_gate at_gate first ring from s (a, found)
      → P.view t.0 ≡ P.view s.0 → P.loaded s.0 t.0 [] → P.laid s.0 t.0 es → (ArePast t.0 found.late → ArePast t.0 places)
      → IsAtPort P left by_gate at_gate first ring from t (with_gate left by_gate at_gate t.1 a, record found { late = places })
  idle-at s t a found es places at view loaded laid late = record {
    geometry = rw view at.geometry;
    after = rw view at.after;
    seen = rw view at.seen;
    marks = rw view at.marks;
    left_is = refl;
    by_gate_is = refl;
    at_gate_is = refl;
    loads = Composes-none_after P.loaded first s.0 t.0 found.loads composes at.loads loaded;
    late = late (past-stays s.0 t.0 es found.late laid (ap (λ (v : PortView). v.geometry) view) at.late);
    overtaken = at.overtaken;
  }

  load-part : (s t : S × T) (w : Doing) (load : Option positions.Position) → IsAtPort P left by_gate at_gate first ring from s w → LoadsAt P G s load t
      → (v : Doing) × DoesLoad w load v × IsAtPort P left by_gate at_gate first ring from t v
  load-part s t (a, found) None at step =
      let asks = answered s t (a, found) (Position ∷ []) Stop at step.asked_it in (
        (with_gate left by_gate at_gate t.1 a, found),
        (asks.1 ∙ ap with_stop (no-asks a), refl),
        idle-at s t a found [] found.late at step.view_is step.loaded_it step.laid_nothing (λ late. late),
      )
  load-part s t (a, found) (Some position) at step =
      let asks = answered s t (a, found) (Position ∷ []) Go at step.asked_it in
      let same : (P.view t.0).geometry ≡ (P.view s.0).geometry = ap (λ (v : PortView). v.geometry) step.view_is in
      let b : AtPort = record (with_gate left by_gate at_gate t.1 a) { seen = position.frame } in (
        (b, with_position position found),
        (asks.0, omega (arith, at.seen, step.newer), ap (λ (x : AtPort). let y : AtPort = record x { seen = position.frame } in y) asks.1, refl),
        record {
          geometry = same ∙ at.geometry;
          after = rw (ap (λ (v : PortView). v.seen) step.view_is) (omega (arith, at.after, step.newer));
          seen = rw (ap (λ (v : PortView). v.seen) step.view_is) (omega arith);
          marks = rw (ap (λ (v : PortView). v.marks) step.view_is) (at.marks);
          left_is = refl;
          by_gate_is = refl;
          at_gate_is = refl;
          loads = composes.joined first s.0 t.0 found.loads (position ∷ []) at.loads step.loaded_it;
          late = past-stays s.0 t.0 [] found.late step.laid_nothing same at.late;
          overtaken = at.overtaken;
        },
      )

  -- the marks after an entry at the same place
  marks-same : (marks : Marks) (g : Geometry) (e d : Entry) → IsSamePlace e d → g ≡ ring → marks_after g marks e ≡ marks_after ring marks d
  marks-same marks g e d place same = λ i. marks_with (place.kind i) (same i) marks (place.frame i) (place.channel i)

  lay-part : (s t : S × T) (w : Doing) (e d : Entry) (ended : Ended) → IsSamePlace e d → IsAtPort P left by_gate at_gate first ring from s w → LaysAt P G s e ended t
      → (v : Doing) × DoesLay ring w d (without_word ended) v × IsAtPort P left by_gate at_gate first ring from t v
  lay-part s t (a, found) e d Whole place at step =
      let asks = answered s t (a, found) (placement_asks step.asks) Go at step.asked_them in
      let two : ask_count (placement_asks step.asks) ≡ 2 = ask_count-placing step.asks step.asks_number in
      let same : (P.view t.0).geometry ≡ (P.view s.0).geometry = ap (λ (v : PortView). v.geometry) step.view_is in
      let b : AtPort = record (with_gate left by_gate at_gate t.1 a) { marks = marks_after ring a.marks d } in
      let passes : lets_pass 2 a.left ≡ true = rw two at asks.0 in
      let after : with_gate left by_gate at_gate t.1 a ≡ with_asks 2 a = rw two at asks.1 in (
        (b, found),
        (omega (arith, at.seen, step.not_before_seen, place.frame), passes, ap (λ (x : AtPort). let y : AtPort = record x { marks = marks_after ring a.marks d } in y) after, refl),
        record {
          geometry = same ∙ at.geometry;
          after = rw (ap (λ (v : PortView). v.seen) step.view_is) (at.after);
          seen = rw (ap (λ (v : PortView). v.seen) step.view_is) (at.seen);
          marks = rw (ap (λ (v : PortView). v.marks) step.view_is, marks-same (P.view s.0).marks (P.view s.0).geometry e d place at.geometry)
              (entry-alike ring from (P.view first).marks.high d a.marks (P.view s.0).marks (omega (arith, at.after, step.not_before_seen, place.frame)) at.marks);
          left_is = refl;
          by_gate_is = refl;
          at_gate_is = refl;
          loads = Composes-none_after P.loaded first s.0 t.0 found.loads composes at.loads step.loaded_nothing;
          late = past-stays s.0 t.0 (entry_if Whole e) found.late step.laid_it same at.late;
          overtaken = at.overtaken;
        },
      )
  lay-part s t (a, found) e d (Late word) place at step =
      let past : IsPast P.view P.shows t.0 d.frame d.channel word = rw (sym place.frame, sym place.channel) step.shown in (
        (with_gate left by_gate at_gate t.1 a, with_late d.frame d.channel found),
        by_asks step.asks step.asks_number (answered s t (a, found) (placement_asks step.asks) Go at step.asked_them),
        idle-at s t a found (entry_if (Late word) e) (found.late ++ (d.frame, d.channel) ∷ []) at step.view_is step.loaded_nothing step.laid_it
            (λ late. Each-more _ found.late (d.frame, d.channel) late (word, past)),
      )
    where
      by_asks : (n : ℕ) → (1 ≤ n) × (e.frame < (P.view s.0).seen → n ≡ 1) → IsAnswered (placement_asks n) Go a (with_gate left by_gate at_gate t.1 a)
          → DoesLay ring (a, found) d (Late 0) (with_gate left by_gate at_gate t.1 a, with_late d.frame d.channel found)
      by_asks zero number answered = absurd (omega (arith, number.0))
      by_asks (suc zero) number answered = (0, refl, inl refl, answered.0, answered.1, refl)
      by_asks (suc (suc n)) number answered =
          let two : ask_count (placement_asks (suc (suc n))) ≡ 2 = ask_count-placing (suc (suc n)) (omega arith) in
          let low : a.seen ≤ d.frame = asked-on n a.seen (P.view s.0).seen d.frame (λ below. number.1 (rw place.frame below)) at.seen in
          (1, refl, inr (refl, low), rw two at answered.0, rw two at answered.1, refl)
  lay-part s t (a, found) e d Stopped place at step = (
    (with_gate left by_gate at_gate t.1 a, found),
    by_asks step.asks step.asks_number (answered s t (a, found) (placement_asks step.asks) Stop at step.asked_them),
    idle-at s t a found (entry_if Stopped e) found.late at step.view_is step.loaded_nothing step.laid_it (λ late. late),
  )
    where
      by_asks : (n : ℕ) → (1 ≤ n) × (e.frame < (P.view s.0).seen → n ≡ 1) → IsAnswered (placement_asks n) Stop a (with_gate left by_gate at_gate t.1 a)
          → DoesLay ring (a, found) d Stopped (with_gate left by_gate at_gate t.1 a, found)
      by_asks zero number answered = absurd (omega (arith, number.0))
      by_asks (suc zero) number answered = (inl (0, inl refl, answered.0, answered.1), refl)
      by_asks (suc (suc zero)) number answered =
          let low : a.seen ≤ d.frame = asked-on 0 a.seen (P.view s.0).seen d.frame (λ below. number.1 (rw place.frame below)) at.seen in
          (inl (1, inr (refl, low), answered.0, answered.1), refl)
      by_asks (suc (suc (suc n))) number answered =
          let low : a.seen ≤ d.frame = asked-on (suc n) a.seen (P.view s.0).seen d.frame (λ below. number.1 (rw place.frame below)) at.seen in
          let two : ask_count (without_last (placement_asks (suc (suc (suc n))))) ≡ 2 = omega (arith, ap ask_count (without_last-replicate n Again), ask_count-again n) in
          let again : last_kind (placement_asks (suc (suc (suc n)))) ≡ Again = last_kind-replicate n Again in
          (inr (low, rw two at answered.0, rw (two, again) at answered.1), refl)

  -- a course that was taken, and one that is like it
  pub course-part : {X Y : Type 0} (R : X → Y → Type 0) (s t : S × T) (w : Doing) (m : Course X) (n : Course Y) (x : X) → Alike from R m n
      → IsAtPort P left by_gate at_gate first ring from s w → TakesAt P G s m t x → IsActorPart P left by_gate at_gate first ring from R t w n x
  course-part R s t w m n x alike at takes =
      let part = Takes-alike (LoadsAt P G) (LaysAt P G) NoGet DoesLoad (DoesLay ring) (DoesGet ring) (IsAtPort P left by_gate at_gate first ring from) from R
      load-at lay-part (λ s t w frame g at step. absurd step) s t w m n x alike at takes in
      record { after = part.0; result = part.1; does = part.2; at = part.3; alike = part.4 }
    where
      after-seen : (s t : S × T) (w : Doing) (load : Option positions.Position) → IsAtPort P left by_gate at_gate first ring from s w → LoadsAt P G s load t → IsFromOn from load
      after-seen s t w None at step = tt
      after-seen s t w (Some position) at step = omega (arith, at.after, step.newer)

      load-at : (s t : S × T) (w : Doing) (load : Option positions.Position) → IsAtPort P left by_gate at_gate first ring from s w → LoadsAt P G s load t
          → (v : Doing) × DoesLoad w load v × IsAtPort P left by_gate at_gate first ring from t v × IsFromOn from load
      load-at s t w load at step = let part = load-part s t w load at step in (part.0, part.1, part.2, after-seen s t w load at step)
