-- A course that was taken at a port to captured frames and its gate is a part of an actor.
use Rattle.lab_run.specs.Prelude.{ap, arith, inl, inr, None, Option, refl, Some, sym, ℕ, ◌+◌, ◌<◌, ◌∙◌, ◌≡◌, ◌≤◌, ◌⊎◌, List, replicate, suc, zero, [], ◌++◌}
use Rattle.lab_run.specs.Prelude.{◌∷◌, Geometry, Composes, Composes-none_after, Pass, Go, Stop, StepKind, Look, without_last, Frame, Got, GetsAtSnoop}
use Rattle.lab_run.specs.Prelude.{LoadsAtSnoop, NoLay, TakesAtSnoop, Course, Takes, DoesGet, DoesLay, DoesLoad, Doing, Each, Findings, with_overtaken}
use Rattle.lab_run.specs.Prelude.{with_position, Alike, IsFromOn, ask_count, CountsDown, IsAnswered, last_kind, with_gate, IsAtSnoop, AtPort, with_stop}
use Rattle.mix_core.specs.declared.gate.StepKind.TheVariants.{Position}
use Rattle.snoop_core.specs.Port.{IsPast, ShowsFrom, SnoopView, frame_if, numbered_frame}
use Rattle.lab_run.proofs.AlikeLaws.{Takes-alike, got_without_word}
use Rattle.lab_run.proofs.PortLaws.{Each-more, last_kind-replicate, no-asks, not-before, told, without_last-replicate}
use Rattle.mix_core.specs.declared.gate.Gate as gates
use Rattle.mix_core.specs.declared.port.Position as positions
use Rattle.snoop_core.specs.declared.port.Got.TheVariants as got
use Rattle.snoop_core.specs.declared.port.SnoopPort as snoopport

-- each look is counted
ask_count-looks : (n : ℕ) → ask_count (replicate n Look) ≡ n
ask_count-looks zero = refl
ask_count-looks (suc n) = omega (arith, ask_count-looks n)

module _ {S T : Type 0} (P : snoopport.Ghosts S) (G : gates.Ghosts T) (shown_got : (p q : S) (fs : List Frame) (f c word : ℕ) → P.got p q fs → P.shows p f c ≡ Some word → ShowsFrom P.shows q f c word)
    (composes : Composes P.loaded) (left : T → Option ℕ) (by_gate at_gate : T → ℕ) (counts : CountsDown G.asked left by_gate at_gate) (first : S) (ring : Geometry) where
  abbrev ArePast : S → List (ℕ × ℕ) → Type 0
  ArePast q places = Each (λ (place : ℕ × ℕ). (word : ℕ) × IsPast P.view P.shows q place.0 place.1 word) places

  past-stays : (p q : S) (fs : List Frame) (places : List (ℕ × ℕ)) → P.got p q fs → (P.view q).geometry ≡ (P.view p).geometry → ArePast p places → ArePast q places
  past-stays p q fs [] got same each = tt
  past-stays p q fs ((frame, channel) ∷ places) got same ((word, past), others) =
      let shown = shown_got p q fs frame channel word got past.shown in (
        (
          shown.now,
          record {
            channel = rw same (past.channel);
            shown = shown.shown;
            past = rw same (omega (arith, past.past, shown.not_before));
          },
        ),
        past-stays p q fs places got same others,
      )

  answered : (s t : S × T) (w : Doing) (kinds : List StepKind) (pass : Pass) → IsAtSnoop P left by_gate at_gate first ring s w → G.asked s.1 t.1 kinds pass
      → IsAnswered kinds pass w.0 (with_gate left by_gate at_gate t.1 w.0)
  answered s t w kinds pass at asked = told left by_gate at_gate counts s.1 t.1 kinds pass w.0 at.left_is at.by_gate_is at.at_gate_is asked

  -- a step that leaves the view as it is, and the overtaken frames and channels after it
  idle-at : (s t : S × T) (a : AtPort) (found : Findings) (fs : List Frame) (places : List (ℕ × ℕ)) → IsAtSnoop P left by_gate at_gate first ring s (a, found)
      → P.view t.0 ≡ P.view s.0 → P.loaded s.0 t.0 [] → P.got s.0 t.0 fs → (ArePast t.0 found.overtaken → ArePast t.0 places)
      → IsAtSnoop P left by_gate at_gate first ring t (with_gate left by_gate at_gate t.1 a, record found { overtaken = places })
  idle-at s t a found fs places at view loaded got overtaken = record {
    geometry = rw view at.geometry;
    seen = rw view at.seen;
    left_is = refl;
    by_gate_is = refl;
    at_gate_is = refl;
    loads = Composes-none_after P.loaded first s.0 t.0 found.loads composes at.loads loaded;
    late = at.late;
    overtaken = overtaken (past-stays s.0 t.0 fs found.overtaken got (ap (λ (v : SnoopView). v.geometry) view) at.overtaken);
  }

  load-part : (s t : S × T) (w : Doing) (load : Option positions.Position) → IsAtSnoop P left by_gate at_gate first ring s w → LoadsAtSnoop P G s load t
      → (v : Doing) × DoesLoad w load v × IsAtSnoop P left by_gate at_gate first ring t v
  load-part s t (a, found) None at step =
      let asks = answered s t (a, found) (Position ∷ []) Stop at step.asked_it in (
        (with_gate left by_gate at_gate t.1 a, found),
        (asks.1 ∙ ap with_stop (no-asks a), refl),
        idle-at s t a found [] found.overtaken at step.view_is step.loaded_it step.got_nothing (λ overtaken. overtaken),
      )
  load-part s t (a, found) (Some position) at step =
      let asks = answered s t (a, found) (Position ∷ []) Go at step.asked_it in
      let same : (P.view t.0).geometry ≡ (P.view s.0).geometry = ap (λ (v : SnoopView). v.geometry) step.view_is in
      let b : AtPort = record (with_gate left by_gate at_gate t.1 a) { seen = position.frame } in (
        (b, with_position position found),
        (asks.0, omega (arith, at.seen, step.newer), ap (λ (x : AtPort). let y : AtPort = record x { seen = position.frame } in y) asks.1, refl),
        record {
          geometry = same ∙ at.geometry;
          seen = rw (ap (λ (v : SnoopView). v.seen) step.view_is) (omega arith);
          left_is = refl;
          by_gate_is = refl;
          at_gate_is = refl;
          loads = composes.joined first s.0 t.0 found.loads (position ∷ []) at.loads step.loaded_it;
          late = at.late;
          overtaken = past-stays s.0 t.0 [] found.overtaken step.got_nothing same at.overtaken;
        },
      )

  -- a frame of which the ring's length isn't before the position seen, unless once
  side : {A : Type 0} (s : S × T) (w : Doing) (frame : ℕ) → IsAtSnoop P left by_gate at_gate first ring s w → (frame + (P.view s.0).geometry.frames < (P.view s.0).seen → A)
      → A ⊎ (w.0.seen ≤ frame + ring.frames)
  side {A} s w frame at once = rw (sym at.geometry) (not-before w.0.seen (P.view s.0).seen (frame + (P.view s.0).geometry.frames) A once at.seen)

  get-part : (s t : S × T) (w : Doing) (frame : ℕ) (g : Got) → IsAtSnoop P left by_gate at_gate first ring s w → GetsAtSnoop P G s frame g t
      → (v : Doing) × DoesGet ring w frame (got_without_word g) v × IsAtSnoop P left by_gate at_gate first ring t v
  get-part s t (a, found) frame got.Whole at (samples, step) =
      let asks = answered s t (a, found) (replicate step.asks Look) Go at step.asked_them in
      let all : ask_count (replicate step.asks Look) ≡ ring.channels = ask_count-looks step.asks ∙ step.asks_number ∙ ap (λ (g : Geometry). g.channels) at.geometry in
      let low : a.seen ≤ frame + ring.frames = elim (side s (a, found) frame at step.at_once) [ inl wrong ↦ absurd wrong | inr on ↦ on ] in (
        (with_gate left by_gate at_gate t.1 a, found),
        (low, rw all at asks.0, rw all at asks.1, refl),
        idle-at s t a found (frame_if got.Whole (numbered_frame frame samples)) found.overtaken at step.view_is step.loaded_nothing step.got_it (λ overtaken. overtaken),
      )
  get-part s t (a, found) frame (got.Overtaken channel word) at (samples, step) =
      let asks = answered s t (a, found) (replicate step.asks Look) Go at step.asked_them in
      let all : ask_count (replicate step.asks Look) ≡ channel + 1 = ask_count-looks step.asks ∙ step.asks_number in
      let inside : channel < ring.channels = rw (sym (ap (λ (v : SnoopView). v.geometry) step.view_is ∙ at.geometry)) step.overtaken.channel in
      let low : (channel ≡ 0) ⊎ (a.seen ≤ frame + ring.frames) = side s (a, found) frame at (λ past. (step.at_once past).0) in (
        (with_gate left by_gate at_gate t.1 a, with_overtaken frame channel found),
        (refl, inside, low, rw all at asks.0, rw all at asks.1, refl),
        idle-at s t a found (frame_if (got.Overtaken channel word) (numbered_frame frame samples)) (found.overtaken ++ (frame, channel) ∷ []) at step.view_is step.loaded_nothing step.got_it
            (λ overtaken. Each-more _ found.overtaken (frame, channel) overtaken (word, step.overtaken)),
      )
  get-part s t (a, found) frame got.Stopped at (samples, step) =
      let room : step.asks ≤ ring.channels = rw (sym at.geometry) step.asks_number.1 in (
        (with_gate left by_gate at_gate t.1 a, found),
        by_asks step.asks step.asks_number.0 room (side s (a, found) frame at step.at_once)
            (answered s t (a, found) (replicate step.asks Look) Stop at step.asked_them),
        idle-at s t a found (frame_if got.Stopped (numbered_frame frame samples)) found.overtaken at step.view_is step.loaded_nothing step.got_it (λ overtaken. overtaken),
      )
    where
      by_asks : (n : ℕ) → 1 ≤ n → n ≤ ring.channels → (n ≡ 1) ⊎ (a.seen ≤ frame + ring.frames) → IsAnswered (replicate n Look) Stop a (with_gate left by_gate at_gate t.1 a)
          → DoesGet ring (a, found) frame got.Stopped (with_gate left by_gate at_gate t.1 a, found)
      by_asks zero some room which answered = absurd (omega (arith, some))
      by_asks (suc n) some room which answered =
          let before : ask_count (without_last (replicate (suc n) Look)) ≡ n = ap ask_count (without_last-replicate n Look) ∙ ask_count-looks n in
          let last : last_kind (replicate (suc n) Look) ≡ Look = last_kind-replicate n Look in
          (n, omega (arith, room), first-or which, rw before at answered.0, rw (before, last) at answered.1, refl)
        where
          first-or : (suc n ≡ 1) ⊎ (a.seen ≤ frame + ring.frames) → (n ≡ 0) ⊎ (a.seen ≤ frame + ring.frames)
          first-or (inl once) = inl (omega (arith, once))
          first-or (inr low) = inr low

  -- a course that was taken, and one that is like it
  pub course-part_snoop : {X Y : Type 0} (R : X → Y → Type 0) (s t : S × T) (w : Doing) (m : Course X) (n : Course Y) (x : X) → Alike 0 R m n
      → IsAtSnoop P left by_gate at_gate first ring s w → TakesAtSnoop P G s m t x
      → (v : Doing) × (y : Y) × Takes DoesLoad (DoesLay ring) (DoesGet ring) w n v y × IsAtSnoop P left by_gate at_gate first ring t v × R x y
  course-part_snoop R s t w m n x alike at takes =
      Takes-alike (LoadsAtSnoop P G) NoLay (GetsAtSnoop P G) DoesLoad (DoesLay ring) (DoesGet ring) (IsAtSnoop P left by_gate at_gate first ring) 0 R
      load-at (λ s t w e d ended place at step. absurd step) get-part s t w m n x alike at takes
    where
      from-zero : (load : Option positions.Position) → IsFromOn 0 load
      from-zero None = tt
      from-zero (Some position) = omega arith

      load-at : (s t : S × T) (w : Doing) (load : Option positions.Position) → IsAtSnoop P left by_gate at_gate first ring s w → LoadsAtSnoop P G s load t
          → (v : Doing) × DoesLoad w load v × IsAtSnoop P left by_gate at_gate first ring t v × IsFromOn 0 load
      load-at s t w load at step = let part = load-part s t w load at step in (part.0, part.1, part.2, from-zero load)
