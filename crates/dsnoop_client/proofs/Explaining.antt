-- What a load of the position makes of a reader, and why its call answers so.
use Rattle.dsnoop_client.specs.Prelude.{ap, arith, refl, subst, sym, ℕ, [], ◌-◌, ◌∙◌, ◌∷◌, ◌≡◌, ◌≤◌, nat_tests, Bool, Err, false, IfErr, IfNone, if◌then◌else◌}
use Rattle.dsnoop_client.specs.Prelude.{nat_le, None, Ok, OnOk, Option, Result, Some, true, unwrap_or, ⊤, ◌↔◌, PcmError, Again, NoDevice, Xrun, Geometry}
use Rattle.dsnoop_client.specs.Prelude.{end_frame, first_frame, IsWithin, Call, State, done_in, next_of, refused_in, stopped_by, is_set_up, Pass, Go, Position}
use Rattle.dsnoop_client.specs.Prelude.{stops_after, SnoopView, LoadsAtSnoop, pass_by, CaptureStream, after_start, after_sync, Answered, facts_with, in_state}
use Rattle.dsnoop_client.specs.Prelude.{over_of, seen_at, with_avail, with_outcome, Explains, FindsNone, IsMissed, IsOfSteps, Reaches, Keeps, avail_of, CanUse}
use Rattle.dsnoop_client.specs.Prelude.{is_of_capture, IsSoundReader, IsStart, IsSync}
use Rattle.snd_base.specs.declared.errors.PcmError.TheVariants.{Stopped}
use Rattle.snd_base.specs.declared.errors.XrunWhy.TheVariants.{Avail, Overtaken}
use Rattle.pcm_states.specs.declared.calls.Outcome.{Outcome}
use Rattle.mix_core.specs.declared.gate.Gate as gates
use Rattle.mix_core.specs.declared.gate.StepKind.TheVariants as kind
use Rattle.pcm_states.specs.declared.states.State.TheVariants as state
use Rattle.pcm_states.specs.declared.calls.Call.TheVariants as call
use Rattle.snoop_core.specs.declared.port.SnoopPort as snoopport

-- ---- the state table

pub starts-outcome : (s : State) (k : Call) (gone : Bool) → s ≡ state.Prepared → IsStart k
    → next_of s k (facts_with gone None None) ≡ (if gone then refused_in state.Disconnected NoDevice else done_in state.Running)
starts-outcome s other gone is start = grind (arith, nat_tests)

abbrev going_outcome : Bool → Option (ℕ × ℕ) → Outcome
going_outcome true over = refused_in state.Disconnected NoDevice
going_outcome false (Some (avail, seen)) = stopped_by (Avail avail seen)
going_outcome false None = done_in state.Running

syncs-outcome : (s : State) (k : Call) (gone : Bool) (over : Option (ℕ × ℕ)) → s ≡ state.Running → IsSync k
    → next_of s k (facts_with gone over None) ≡ going_outcome gone over
syncs-outcome s other gone over is sync = grind (arith, nat_tests)

abbrev at_start : CaptureStream → Position → CaptureStream
at_start c position = record c { seen = Some position.frame; next = position.frame }

-- an error that no frame caused
abbrev pub NeverOvertaken : PcmError → Type 0
NeverOvertaken (Xrun (Overtaken frame channel word)) = ⊥
NeverOvertaken other = ⊤

-- ---- what is kept, and why

pub record IsExplained {S T X : Type 0} (P : snoopport.Ghosts S) (G : gates.Ghosts T) (s t : S × T) (c d : CaptureStream)
    (answer : Result X PcmError) : Type 0 where
  pub keeps : Keeps P G s t c d answer
  pub why : Explains P s.0 t.0 c d answer

-- a reader goes on from a position that it loaded: the card is there, and its stop threshold isn't reached
pub record Went {S T : Type 0} (P : snoopport.Ghosts S) (G : gates.Ghosts T) (s t : S × T) (c u : CaptureStream) (position : Position)
    (pass : Pass) : Type 0 where
  pub here : position.gone ≡ false
  pub below : (avail frame : ℕ) → Reaches c (Some position) avail frame → ⊥
  pub can_use : CanUse c (P.view s.0)
  pub same_ring : u.geometry ≡ c.geometry
  pub same_setup : u.setup ≡ c.setup
  pub saw : u.seen ≡ Some position.frame
  pub running : u.status.state ≡ state.Running
  pub unstopped : u.status.stopped ≡ false
  pub sound : IsSoundReader u
  pub view_is : P.view t.0 ≡ record (P.view s.0) { seen = position.frame }
  pub loaded_it : P.loaded s.0 t.0 (position ∷ [])
  pub stops : G.stops t.1 ≡ stops_after pass (G.stops s.1)
  pub goes_on : c.status.state ≡ state.Running → u.next ≡ c.next
  pub begins : (c.status.state ≡ state.Running → ⊥) → u.next ≡ position.frame

-- a reader is sound in another state, with another position seen and another next frame
pub sound-at : (c : CaptureStream) (f n : ℕ) (st : State) → IsSoundReader c → f ≤ end_frame c.geometry → is_of_capture st ≡ true
    → (is_set_up st ≡ true → c.setup.configured ≡ true)
    → (st ≡ state.Running → (first_frame c.geometry ≤ n) × (n ≤ f)) → IsSoundReader (in_state (record c { seen = Some f; next = n }) st)
sound-at c f n st sound most captures set_up reading = grind (arith, nat_tests)

pub use-newer : (c d : CaptureStream) (v w : SnoopView) (f : ℕ) → CanUse c v → w ≡ record v { seen = f } → d.geometry ≡ c.geometry
    → d.seen ≡ Some f → CanUse d w
use-newer c d v w f can is same saw = grind (arith, nat_tests)

xrun-same : {X : Type 0} (a f b g : ℕ) → a ≡ b → f ≡ g → (let r : Result X PcmError = Err (Xrun (Avail a f)) in r) ≡ Err (Xrun (Avail b g))
xrun-same a f b g first last = cc

-- the number of frames that a position leaves reaches a threshold, or doesn't
not-over : (threshold a avail : ℕ) → nat_le threshold a ≡ false → threshold ≤ avail → avail ≡ a → ⊥
not-over threshold a avail low high is = grind (arith, nat_tests)

at-least : (threshold a : ℕ) → nat_le threshold a ≡ true → 1 ≤ threshold → a ≡ 0 → ⊥
at-least threshold a reached least none = grind (arith, nat_tests)

module _ {S T : Type 0} (P : snoopport.Ghosts S) (G : gates.Ghosts T) where
  -- a call that loaded a position
  unfoldable pub explained-some : {X : Type 0} {s t : S × T} {c d : CaptureStream} (position : Position) {answer : Result X PcmError} → CanUse c (P.view s.0)
      → P.view t.0 ≡ record (P.view s.0) { seen = position.frame } → P.loaded s.0 t.0 (position ∷ []) → G.stops t.1 ≡ stops_after (pass_by answer) (G.stops s.1)
      → d.geometry ≡ c.geometry → d.setup ≡ c.setup → d.seen ≡ Some position.frame → IsSoundReader d
      → ((answer ≡ Err Stopped) ↔ (d.status.stopped ≡ true)) → IfErr answer IsOfSteps → ((answer ≡ Err NoDevice) ↔ (position.gone ≡ true))
      → ((avail frame : ℕ) → (answer ≡ Err (Xrun (Avail avail frame))) ↔ Reaches c (Some position) avail frame)
      → ((frame channel word : ℕ) → answer ≡ Err (Xrun (Overtaken frame channel word)) → IsMissed P t.0 d frame channel word)
      → IsExplained P G s t c d answer
  explained-some {s = s} {t = t} {c = c} {d = d} position can view_is loaded_it stops same_ring same_setup saw sound stopped of_steps no_device reached overtaken = record {
    keeps = assumption (use-newer c d (P.view s.0) (P.view t.0) position.frame can view_is same_ring saw);
    why = record {
      load = Some position;
      loaded_it = loaded_it;
      unless_stopped = tt;
      saw = saw;
      of_steps = of_steps;
      no_device = no_device;
      reached = reached;
      overtaken = overtaken;
    };
  }

  -- the gate stopped the load
  pub explained-none : {X : Type 0} (s t : S × T) (c : CaptureStream) → IsSoundReader c → CanUse c (P.view s.0) → LoadsAtSnoop P G s None t
      → IsExplained {X = X} P G s t c (record c { status = record c.status { stopped = true } }) (Err Stopped)
  explained-none s t c sound can step = grind (arith, nat_tests)

  -- the card was gone at the position
  pub explained-gone : {X : Type 0} (s t : S × T) (c : CaptureStream) (position : Position) → IsSoundReader c → c.status.stopped ≡ false → CanUse c (P.view s.0)
      → LoadsAtSnoop P G s (Some position) t
      → position.gone ≡ true → IsExplained {X = X} P G s t c (in_state (seen_at c position) state.Disconnected) (Err NoDevice)
  explained-gone s t c position sound unstopped can step gone =
      explained-some position can step.view_is step.loaded_it step.stopped refl refl refl
      (sound-at c position.frame c.next state.Disconnected sound (subst (λ (g : Geometry). position.frame ≤ end_frame g) can.same_geometry step.within.most)
      refl (λ h. cc) (λ h. cc))
      (λ h. cc, λ h. cc) tt (λ h. gone, λ h. refl)
      (λ avail frame. (λ h. cc, λ h. let here = h.0 in cc)) (λ frame channel word h. cc)

  -- the stop threshold was reached at the position
  pub explained-over : {X : Type 0} (s t : S × T) (c : CaptureStream) (position : Position) → IsSoundReader c → c.status.stopped ≡ false
      → c.status.state ≡ state.Running → CanUse c (P.view s.0)
      → LoadsAtSnoop P G s (Some position) t → position.gone ≡ false → c.setup.params.stop_threshold ≤ position.frame - c.next
      → IsExplained {X = X} P G s t c (in_state (seen_at c position) state.Xrun) (Err (Xrun (Avail (position.frame - c.next) position.frame)))
  explained-over s t c position sound unstopped running can step here over =
      explained-some position can step.view_is step.loaded_it step.stopped refl refl refl
      (sound-at c position.frame c.next state.Xrun sound (subst (λ (g : Geometry). position.frame ≤ end_frame g) can.same_geometry step.within.most) refl
      (λ h. sound.set_up (rw running refl)) (λ h. cc))
      (λ h. cc, λ h. cc) tt (λ h. cc, λ h. cc)
      (λ avail frame. (
        λ h.
            let same_avail : position.frame - c.next ≡ avail = cc in
            let same_frame : position.frame ≡ frame = cc in
            (here, running, omega (arith, over, same_avail), sym same_avail, sym same_frame),
        λ h. xrun-same (position.frame - c.next) position.frame avail frame (sym h.3) (sym h.4),
      )) (λ frame channel word h. cc)

  -- what a load made of a reader: it goes on, or it ended, not for want of a frame
  pub record After (s t : S × T) (c : CaptureStream) (done : Answered (Unit {0})) : Type 0 where
    pub told : IsExplained P G s t c done.0 done.1
    pub went : OnOk done.1 ((position : Position) × Went P G s t c done.0 position Go)
    pub ended : IfErr done.1 (λ e. (FindsNone c told.why.load → ⊥) × (e ≡ Again → ⊥) × NeverOvertaken e)
    pub asked : G.asked s.1 t.1 (kind.Position ∷ []) (pass_by done.1)

  -- a call that went well from a position
  unfoldable pub explained-went : {X : Type 0} {s t : S × T} {c u d : CaptureStream} {position : Position} {pass : Pass} {answer : Result X PcmError}
      → Went P G s t c u position pass → pass_by answer ≡ pass
      → d.geometry ≡ u.geometry → d.setup ≡ u.setup → d.seen ≡ u.seen → IsSoundReader d → ((answer ≡ Err Stopped) ↔ (d.status.stopped ≡ true))
      → IfErr answer IsOfSteps
      → (answer ≡ Err NoDevice → ⊥) → ((avail frame : ℕ) → answer ≡ Err (Xrun (Avail avail frame)) → ⊥)
      → ((frame channel word : ℕ) → answer ≡ Err (Xrun (Overtaken frame channel word)) → IsMissed P t.0 d frame channel word)
      → IsExplained P G s t c d answer
  explained-went {s = s} {position = position} went is_pass same_ring same_setup saw sound stopped of_steps never_gone never_over overtaken =
      explained-some position went.can_use went.view_is went.loaded_it (went.stops ∙ ap (λ (p : Pass). stops_after p (G.stops s.1))
      (sym is_pass)) (same_ring ∙ went.same_ring) (same_setup ∙ went.same_setup) (saw ∙ went.saw) sound
      stopped of_steps (λ h. absurd (never_gone h), λ h. let here = went.here in cc)
      (λ avail frame. (λ h. absurd (never_over avail frame h), λ h. absurd (went.below avail frame h))) overtaken

  -- a reader that is to go on
  went-on : (s t : S × T) (c u : CaptureStream) (position : Position) → Went P G s t c u position Go → G.asked s.1 t.1 (kind.Position ∷ []) Go
      → After s t c (u, Ok tt)
  went-on s t c u position went asked = record {
    told = explained-went went refl refl refl refl went.sound (λ h. cc, λ h. let runs = went.unstopped in cc) tt (λ h. cc)
        (λ avail frame h. cc) (λ frame channel word h. cc);
    went = (position, went);
    ended = tt;
    asked = asked;
  }

  -- one that the gate stopped, and one whose card was gone
  ended-none : (s t : S × T) (c : CaptureStream) → IsSoundReader c → CanUse c (P.view s.0) → LoadsAtSnoop P G s None t
      → After s t c (record c { status = record c.status { stopped = true } }, Err Stopped)
  unfolding explained-none
  ended-none s t c sound can step = record {
    told = explained-none s t c sound can step;
    went = tt;
    ended = (λ h. h, λ h. cc, tt);
    asked = step.asked_it;
  }

  ended-gone : (s t : S × T) (c : CaptureStream) (position : Position) → IsSoundReader c → c.status.stopped ≡ false → CanUse c (P.view s.0)
      → LoadsAtSnoop P G s (Some position) t
      → position.gone ≡ true → After s t c (in_state (seen_at c position) state.Disconnected, Err NoDevice)
  unfolding explained-gone explained-some
  ended-gone s t c position sound unstopped can step gone = record {
    told = explained-gone s t c position sound unstopped can step gone;
    went = tt;
    ended = (λ h. let here = h.0 in cc, λ h. cc, tt);
    asked = step.asked_it;
  }

  -- a start, by what its load gave
  pub start-after : (s t : S × T) (c : CaptureStream) (k : Call) (load : Option Position) (done : Answered (Unit {0})) → IsSoundReader c
      → c.status.state ≡ state.Prepared → c.status.stopped ≡ false → IsStart k
      → CanUse c (P.view s.0) → LoadsAtSnoop P G s load t → done ≡ after_start c k load → After s t c done
  start-after s t c k None done sound waits unstopped start can step is =
      subst (λ (x : Answered (Unit {0})). After s t c x) (sym is) (ended-none s t c sound can step)
  start-after s t c k (Some position) done sound waits unstopped start can step is = by position.gone refl
    where
      comes : (gone : Bool) → position.gone ≡ gone
          → done ≡ with_outcome (if gone then seen_at c position else at_start c position)
          (if gone then refused_in state.Disconnected NoDevice else done_in state.Running)
      comes gone same =
          is ∙ ap (λ (g : Bool). with_outcome (if g then seen_at c position else at_start c position) (next_of c.status.state k (facts_with g None None))) same
          ∙ ap (with_outcome (if gone then seen_at c position else at_start c position)) (starts-outcome c.status.state k gone waits start)

      by : (gone : Bool) → position.gone ≡ gone → After s t c done
      by true gone =
          subst (λ (x : Answered (Unit {0})). After s t c x) (sym (comes true gone)) (ended-gone s t c position sound unstopped can step gone)
      by false here =
          let within : IsWithin c.geometry position.frame = subst (λ (g : Geometry). IsWithin g position.frame) can.same_geometry step.within in
          subst (λ (x : Answered (Unit {0})). After s t c x) (sym (comes false here)) (went-on s t c
          (in_state (at_start c position) state.Running) position (record {
            here = here;
            below = λ avail frame h. let runs = h.1 in cc;
            can_use = can;
            same_ring = refl;
            same_setup = refl;
            saw = refl;
            running = refl;
            unstopped = unstopped;
            sound = sound-at c position.frame position.frame state.Running sound within.most refl (λ h. sound.set_up (rw waits refl))
                (λ h. (within.least, omega arith));
            view_is = step.view_is;
            loaded_it = step.loaded_it;
            stops = step.stopped;
            goes_on = λ runs. absurd (cc);
            begins = λ waiting. refl;
          }) step.asked_it)

  -- a sync, by what its load gave
  pub sync-after : (s t : S × T) (c : CaptureStream) (k : Call) (load : Option Position) (done : Answered (Unit {0})) → IsSoundReader c
      → c.status.state ≡ state.Running → c.status.stopped ≡ false → IsSync k
      → CanUse c (P.view s.0) → LoadsAtSnoop P G s load t → done ≡ after_sync c k load → After s t c done
  unfolding explained-over explained-some
  sync-after s t c k None done sound runs unstopped sync can step is =
      subst (λ (x : Answered (Unit {0})). After s t c x) (sym is) (ended-none s t c sound can step)
  sync-after s t c k (Some position) done sound runs unstopped sync can step is =
      by position.gone (nat_le c.setup.params.stop_threshold (position.frame - c.next)) refl refl
    where
      comes : (gone over : Bool) → position.gone ≡ gone → nat_le c.setup.params.stop_threshold (position.frame - c.next) ≡ over
          → done ≡ with_outcome (seen_at c position) (going_outcome gone (if over then Some (position.frame - c.next, position.frame) else None))
      comes gone over same reached =
          is ∙ ap (λ (g : Bool). with_outcome (seen_at c position) (next_of c.status.state k (facts_with g (over_of (seen_at c position)) None))) same
          ∙ ap (λ (b : Bool). with_outcome (seen_at c position) (next_of c.status.state k (facts_with gone
          (if b then Some (position.frame - c.next, position.frame) else None) None))) reached
          ∙ ap (with_outcome (seen_at c position)) (syncs-outcome c.status.state k gone (if over then Some
          (position.frame - c.next, position.frame) else None) runs sync)

      by : (gone over : Bool) → position.gone ≡ gone → nat_le c.setup.params.stop_threshold (position.frame - c.next) ≡ over → After s t c done
      by true over gone reached =
          subst (λ (x : Answered (Unit {0})). After s t c x) (sym (comes true over gone reached)) (ended-gone s t c position sound unstopped can step gone)
      by false true here reached =
          subst (λ (x : Answered (Unit {0})). After s t c x) (sym (comes false true here reached))
          (record {
            told = explained-over s t c position sound unstopped runs can step here (grind (arith, nat_tests));
            went = tt;
            ended = (
              λ h. at-least c.setup.params.stop_threshold (position.frame - c.next) reached (sound.configured (sound.set_up (rw runs refl))).stops
                  (let none : position.frame ≡ c.next = h.1 runs in omega arith),
              λ h. cc,
              tt,
            );
            asked = step.asked_it;
          })
      by false false here reached =
          let most : position.frame ≤ end_frame c.geometry = subst (λ (g : Geometry). position.frame ≤ end_frame g) can.same_geometry step.within.most in
          subst (λ (x : Answered (Unit {0})). After s t c x) (sym (comes false false here reached))
          (went-on s t c (in_state (seen_at c position) state.Running) position (record {
            here = here;
            below = λ avail frame h. not-over c.setup.params.stop_threshold (position.frame - c.next) avail reached h.2 h.3;
            can_use = can;
            same_ring = refl;
            same_setup = refl;
            saw = refl;
            running = refl;
            unstopped = unstopped;
            sound = sound-at c position.frame c.next state.Running sound most refl (λ h. sound.set_up (rw runs refl))
                (λ h. ((sound.reading runs).least, omega (arith, (sound.reading runs).most, can.newer, step.newer)));
            view_is = step.view_is;
            loaded_it = step.loaded_it;
            stops = step.stopped;
            goes_on = λ is. refl;
            begins = λ stands. absurd (stands runs);
          }) step.asked_it)

-- an error is reported alike whatever the call would have answered
pub same_error : {T : Type 0} (e f : PcmError) → (let r : Result T PcmError = Err e in r) ≡ Err f → e ≡ f
same_error e f h = cc

pub same-answer : {X Y : Type 0} (e f : PcmError) → (let r : Result X PcmError = Err e in r) ≡ Err f → (let r : Result Y PcmError = Err e in r) ≡ Err f
same-answer {X = X} {Y = Y} e f h = let is : e ≡ f = same_error {T = X} e f h in ap (λ (x : PcmError). let r : Result Y PcmError = Err x in r) is

pub if-none : {X : Type 0} (o : Option X) {A B : Type 0} → (A → B) → IfNone o A → IfNone o B
if-none None follows told = follows told
if-none (Some x) follows told = tt

unfoldable pub why-error : {S X Y : Type 0} (P : snoopport.Ghosts S) (p q : S) (c d : CaptureStream) (e : PcmError) → Explains {X = X} P p q c d (Err e)
    → Explains {X = Y} P p q c d (Err e)
why-error {X = X} {Y = Y} P p q c d e why = record {
  load = why.load;
  loaded_it = why.loaded_it;
  unless_stopped = if-none why.load (same-answer {X = X} {Y = Y} e Stopped) why.unless_stopped;
  saw = why.saw;
  of_steps = why.of_steps;
  no_device = (λ h. why.no_device.0 (same-answer {X = Y} e NoDevice h), λ h. same-answer {X = X} {Y = Y} e NoDevice (why.no_device.1 h));
  reached = λ a f. (
    λ h. (why.reached a f).0 (same-answer {X = Y} e (Xrun (Avail a f)) h),
    λ h. same-answer {X = X} {Y = Y} e (Xrun (Avail a f)) ((why.reached a f).1 h),
  );
  overtaken = λ f ch w h. why.overtaken f ch w (same-answer {X = Y} e (Xrun (Overtaken f ch w)) h);
}

-- a good answer with a number
why-ok : {S : Type 0} (P : snoopport.Ghosts S) (p q : S) (c d : CaptureStream) (n : ℕ) → Explains {X = Unit {0}} P p q c d (Ok tt)
    → Explains {X = ℕ} P p q c d (Ok n)
why-ok P p q c d n why = grind (arith, nat_tests)

pub why-avail : {S : Type 0} (P : snoopport.Ghosts S) (p q : S) (c d : CaptureStream) (answer : Result (Unit {0}) PcmError) (x : Result ℕ PcmError)
    → with_avail (d, answer) ≡ (d, x) → Explains P p q c d answer → Explains P p q c d x
why-avail P p q c d (Ok done) x is why = subst (λ (a : Answered ℕ). Explains P p q c d a.1) is (why-ok P p q c d (avail_of d) why)
why-avail P p q c d (Err e) x is why = subst (λ (a : Answered ℕ). Explains P p q c d a.1) is (why-error P p q c d e why)

unfoldable pub explained-error : {S T X Y : Type 0} (P : snoopport.Ghosts S) (G : gates.Ghosts T) (s t : S × T) (c d : CaptureStream) (e : PcmError)
    → IsExplained {X = X} P G s t c d (Err e) → IsExplained {X = Y} P G s t c d (Err e)
explained-error {X = X} {Y = Y} P G s t c d e told = record {
  keeps = record {
    sound = told.keeps.sound;
    port = told.keeps.port;
    same_ring = told.keeps.same_ring;
    same_setup = told.keeps.same_setup;
    stopped = (λ h. told.keeps.stopped.0 (same-answer {X = Y} e Stopped h), λ h. same-answer {X = X} {Y = Y} e Stopped (told.keeps.stopped.1 h));
    told = told.keeps.told;
  };
  why = why-error P s.0 t.0 c d e told.why;
}
