-- What a read makes of a reader, by its load and by what its frames ended in.
use Rattle.dsnoop_client.specs.Prelude.{ap, arith, List, refl, subst, sym, ℕ, [], ◌*◌, ◌+◌, ◌-◌, ◌<◌, ◌∙◌, ◌∷◌, ◌≡◌, ◌≤◌, mul-le-mul_right, nat_tests, Bool}
use Rattle.dsnoop_client.specs.Prelude.{Err, false, if◌then◌else◌, nat_eq, nat_lt, Ok, replicate, Result, Some, true, ℤ, ◌&&◌, ◌↔◌, PcmError, Again, Xrun}
use Rattle.dsnoop_client.specs.Prelude.{Geometry, Composes, Composes-none_after, Pass, Go, Stop, Position, AsksCompose, stops_after, Got, Overtaken, Stopped}
use Rattle.dsnoop_client.specs.Prelude.{Whole, pass_of_got, SnoopView, pass_by, CaptureStream, in_state, read_after, read_to, taken_of, FindsNone, IsMissed}
use Rattle.dsnoop_client.specs.Prelude.{Asks, IsLookNumber, Fills, GivesFrames, avail_of, IsSoundReader}
use Rattle.dsnoop_client.proofs.CameTo.{CameTo, IsUpTo}
use Rattle.dsnoop_client.proofs.Explaining.{IsExplained, Went, explained-some, explained-went}
use Rattle.snd_base.specs.declared.errors.PcmError.TheVariants as error
use Rattle.snd_base.specs.declared.errors.XrunWhy.TheVariants as why
use Rattle.mix_core.specs.declared.gate.Gate as gates
use Rattle.mix_core.specs.declared.gate.StepKind.TheVariants as kind
use Rattle.pcm_states.specs.declared.states.State.TheVariants as state
use Rattle.snoop_core.specs.declared.port.SnoopPort as snoopport

-- ---- what it gives

module _ {S : Type 0} (P : snoopport.Ghosts S) (p q : S) (c : CaptureStream) (before after : List ℤ) (same : (P.view p).geometry ≡ c.geometry) where
  reads-if : (test : Bool) (done : ℕ) (ended : Got) → Fills P p q c.setup.bindings c.next done ended before after
      → GivesFrames P p q c (if test then (c, Err Again) else read_to c done ended).0 before after (if test then (c, Err Again) else read_to c done ended).1
  reads-if test done ended fills = grind (arith, nat_tests)

  pub reads-of : (n done : ℕ) (ended : Got) → Fills P p q c.setup.bindings c.next done ended before after
      → GivesFrames P p q c (read_after c n done ended).0 before after (read_after c n done ended).1
  reads-of n done ended fills = reads-if (nat_lt 0 n && nat_eq (avail_of c) 0) done ended fills

-- ---- why it answers so

-- what a read ended in that loaded the position
pub record IsReadExplained {S T : Type 0} (P : snoopport.Ghosts S) (G : gates.Ghosts T) (s t : S × T) (c d : CaptureStream) (n : ℕ)
    (answer : Result ℕ PcmError) : Type 0 where
  pub told : IsExplained P G s t c d answer
  pub again : (answer ≡ Err Again) ↔ ((0 < n) × FindsNone c told.why.load)
  pub asks : Asks G s.1 t.1 d n answer

-- a read of n frames of so many that are available finds none
no-avail : (n avail : ℕ) → (nat_lt 0 n && nat_eq avail 0) ≡ true → avail ≡ 0
no-avail n avail finds = grind (arith, nat_tests)

some-wanted : (n avail : ℕ) → (nat_lt 0 n && nat_eq avail 0) ≡ true → 0 < n
some-wanted n avail finds = grind (arith, nat_tests)

avail-found : (n avail : ℕ) → (nat_lt 0 n && nat_eq avail 0) ≡ false → avail ≡ 0 → 0 < n → ⊥
avail-found n avail goes none some = grind (arith, nat_tests)

module _ {S T : Type 0} (P : snoopport.Ghosts S) (G : gates.Ghosts T) (composes : Composes P.loaded) (asks : AsksCompose G.asked) (s m t : S × T)
    (c u : CaptureStream) (position : Position)
    (went : Went P G s m c u position Go) (asked : G.asked s.1 m.1 (kind.Position ∷ []) Go) where
  went-frames : (count first done : ℕ) (ended : Got) → CameTo P G m t count first done ended → Went P G s t c u position (pass_of_got ended)
  went-frames count first done ended came = record {
    here = went.here;
    below = went.below;
    can_use = went.can_use;
    same_ring = went.same_ring;
    same_setup = went.same_setup;
    saw = went.saw;
    running = went.running;
    unstopped = went.unstopped;
    sound = went.sound;
    view_is = came.view_is ∙ went.view_is;
    loaded_it = Composes-none_after P.loaded s.0 m.0 t.0 (position ∷ []) composes went.loaded_it came.loaded_nothing;
    stops = came.stops ∙ ap (stops_after (pass_of_got ended)) went.stops;
    goes_on = went.goes_on;
    begins = went.begins;
  }

  -- no frame is available exactly where the reader finds none at the position
  finds-none : avail_of u ≡ 0 → FindsNone c (Some position)
  finds-none none = grind (arith, nat_tests)

  none-found : FindsNone c (Some position) → avail_of u ≡ 0
  none-found finds = grind (arith, nat_tests)

  asks-frames : (d : CaptureStream) (n looks : ℕ) (pass : Pass) (answer : Result ℕ PcmError)
      → IsLookNumber answer d.next d.geometry.channels n looks → pass_by answer ≡ pass
      → G.asked m.1 t.1 (replicate looks kind.Look) pass → Asks G s.1 t.1 d n answer
  asks-frames d n looks pass answer number is_pass later = record {
    looks = looks;
    looks_number = number;
    asked_them = asks.joined s.1 m.1 t.1 (kind.Position ∷ []) (replicate looks kind.Look) (pass_by answer) asked
        (subst (λ (p : Pass). G.asked m.1 t.1 (replicate looks kind.Look) p) (sym is_pass) later);
  }

  same-channels : (P.view m.0).geometry.channels ≡ u.geometry.channels
  same-channels = ap (λ (v : SnoopView). v.geometry.channels) went.view_is ∙ ap (λ (g : Geometry). g.channels) (went.can_use.same_geometry ∙ sym went.same_ring)

  -- a test that holds leaves nothing to load
  no-frames : (n count done : ℕ) (ended : Got) → avail_of u ≡ 0 → count ≡ taken_of u n → IsUpTo ended done count → (ended ≡ Whole) × (done ≡ 0)
  no-frames n count done Whole none is_count up_to = (refl, omega (arith, none, is_count, up_to))
  no-frames n count done other none is_count up_to = absurd (omega (arith, none, is_count, up_to))

  -- a reader that has read frames, one that missed one, and one that was stopped
  sound-next : (done : ℕ) → done ≤ avail_of u → IsSoundReader (record u { next = u.next + done })
  sound-next done few = grind (arith, nat_tests)

  sound-missed : IsSoundReader (in_state u state.Xrun)
  sound-missed = grind (arith, nat_tests)

  sound-stopped : IsSoundReader (record u { status = record u.status { stopped = true } })
  sound-stopped = grind (arith, nat_tests)

  missed-at : (count done channel word frame at seen : ℕ) → count ≤ avail_of u → CameTo P G m t count u.next done (Overtaken channel word)
      → frame ≡ u.next + done → at ≡ channel → seen ≡ word
      → IsMissed P t.0 (in_state u state.Xrun) frame at seen
  missed-at count done channel word frame at seen few came is_frame is_channel is_word = grind (arith, nat_tests)

  read-explained-if : (test : Bool) (n count done : ℕ) (ended : Got) → (nat_lt 0 n && nat_eq (avail_of u) 0) ≡ test → count ≡ taken_of u n
      → CameTo P G m t count u.next done ended
      → IsReadExplained P G s t c (if test then (u, Err Again) else read_to u done ended).0 n (if test then (u, Err Again) else read_to u done ended).1
  unfolding explained-went explained-some
  read-explained-if true n count done Whole test is_count came =
      let none : avail_of u ≡ 0 = no-avail n (avail_of u) test in
      let nothing = no-frames n count done Whole none is_count came.up_to in
      record {
        told = explained-went P G (went-frames count u.next done Whole came) refl refl refl refl went.sound
            (λ h. cc, λ h. let goes = went.unstopped in cc) tt (λ h. cc) (λ avail frame h. cc) (λ frame channel word h. cc);
        again = (λ h. (some-wanted n (avail_of u) test, finds-none none), λ h. refl);
        asks = asks-frames u n came.looks Go (Err Again) (came.looks_number ∙ ap (λ (k : ℕ). k * (P.view m.0).geometry.channels) nothing.1
            ∙ (let zero : 0 * (P.view m.0).geometry.channels ≡ 0 = omega arith in zero)) refl came.asked_them;
      }
  read-explained-if true n count done other test is_count came =
      absurd (let nothing = no-frames n count done other (no-avail n (avail_of u) test) is_count came.up_to in let is = nothing.0 in cc)
  read-explained-if false n count done Whole test is_count came = record {
    told = explained-went P G (went-frames count u.next done Whole came) refl refl refl refl
        (sound-next done (omega (arith, is_count, came.up_to)))
        (λ h. cc, λ h. let goes = went.unstopped in cc) tt (λ h. cc) (λ avail frame h. cc) (λ frame channel word h. cc);
    again = (λ h. cc, λ h. absurd (avail-found n (avail_of u) test (none-found h.1) h.0));
    asks = asks-frames (record u { next = u.next + done }) n came.looks Go (Ok done) (came.looks_number ∙ ap (λ (k : ℕ). done * k)
        same-channels) refl came.asked_them;
  }
  read-explained-if false n count done (Overtaken channel word) test is_count came = record {
    told = explained-went P G (went-frames count u.next done (Overtaken channel word) came) refl refl refl refl sound-missed
        (λ h. cc, λ h. let goes = went.unstopped in cc) tt (λ h. cc) (λ avail frame h. cc)
        (λ frame at seen h. missed-at count done channel word frame at seen (omega (arith, is_count)) came (cc) (cc) (cc));
    again = (λ h. cc, λ h. absurd (avail-found n (avail_of u) test (none-found h.1) h.0));
    asks = asks-frames (in_state u state.Xrun) n came.looks Go (Err (Xrun (why.Overtaken (u.next + done) channel word)))
        (came.looks_number ∙ ap (λ (k : ℕ). done * k + (channel + 1)) same-channels ∙ ap (λ (k : ℕ). k * u.geometry.channels + (channel + 1))
        (let gone : done ≡ u.next + done - u.next = omega arith in gone)) refl came.asked_them;
  }
  read-explained-if false n count done Stopped test is_count came = record {
    told = explained-went P G (went-frames count u.next done Stopped came) refl refl refl refl sound-stopped
        (λ h. refl, λ h. refl) tt (λ h. cc) (λ avail frame h. cc) (λ frame channel word h. cc);
    again = (λ h. cc, λ h. absurd (avail-found n (avail_of u) test (none-found h.1) h.0));
    asks = asks-frames (record u { status = record u.status { stopped = true } }) n came.looks Stop (Err error.Stopped)
        (let fewer : (done + 1) * (P.view m.0).geometry.channels ≤ n * (P.view m.0).geometry.channels = mul-le-mul_right (P.view m.0).geometry.channels
        (omega (arith, is_count, came.up_to)) in
        subst (λ (k : ℕ). came.looks ≤ n * k) same-channels (omega (arith, came.looks_number, fewer))) refl came.asked_them;
  }

  pub read-explained : (n count done : ℕ) (ended : Got) → count ≡ taken_of u n → CameTo P G m t count u.next done ended
      → IsReadExplained P G s t c (read_after u n done ended).0 n (read_after u n done ended).1
  read-explained n count done ended is_count came = read-explained-if (nat_lt 0 n && nat_eq (avail_of u) 0) n count done ended refl is_count came
