-- The loops that place a frame, and frames, take their courses.
use Rattle.dmix_client.specs.Prelude.{ap, arith, drop, length, List, refl, subst, suc, sym, zero, ℕ, ◌%◌, ◌*◌, ◌+◌, ◌-◌, ◌<◌, ◌∙◌, ◌≡◌, ◌≤◌, drop_all}
use Rattle.dmix_client.specs.Prelude.{drop_more, slice_index, ℤ, Ended, Whole, Entry, LaysAt, LoadsAt, NoGet, TakesAt, ends, ◌>>=◌, Takes-map, Takes-parts}
use Rattle.dmix_client.specs.Prelude.{Takes-then, Commit, PlaybackStream, go_on, lay_each, lay_frame, lay_frames, lay_on, nothing, one_frame_more, one_more}
use Rattle.dmix_client.specs.Prelude.{channel_entry, ring_sample, slot_sample}
use Rattle.dmix_client.proofs.Frames.{not-whole}
use Rattle.mix_core.specs.declared.gate.Gate as gates
use Rattle.mix_core.specs.declared.port.MixPort as mixport

-- what the channels from here on end in is what all end in
pub record Rest {S T : Type 0} (P : mixport.Ghosts S) (G : gates.Ghosts T) (member frame : ℕ) (bindings : List ℕ) (sample_of : ℕ → ℤ) (qs : List ℕ)
    (start now : S × T) (i : ℕ) : Type 0 where
  pub rest : (t : S × T) (done : ℕ) (ended : Ended) → TakesAt P G now (lay_each member frame bindings sample_of (drop i qs)) t (done, ended)
      → TakesAt P G start (lay_each member frame bindings sample_of qs) t (i + done, ended)

-- what the frames from here on end in is what all end in
abbrev pub more_frames : ℕ → Commit → Commit
more_frames n x = record { frames = n + x.frames; part = x.part; ended = x.ended }

pub record RestFrames {S T : Type 0} (P : mixport.Ghosts S) (G : gates.Ghosts T) (member card : ℕ) (bindings : List ℕ) (samples : ℕ → ℕ → ℤ)
    (count first : ℕ) (start now : S × T) (i : ℕ) : Type 0 where
  pub rest : (t : S × T) (x : Commit) → TakesAt P G now (lay_frames member card bindings samples (count - i) (first + i)) t x
      → TakesAt P G start (lay_frames member card bindings samples count first) t (more_frames i x)

module _ {S T : Type 0} {P : mixport.Ghosts S} {G : gates.Ghosts T} {member frame : ℕ} {bindings : List ℕ} {sample_of : ℕ → ℤ} {qs : List ℕ} where
  pub Rest-none : {s : S × T} → Rest P G member frame bindings sample_of qs s s 0
  Rest-none {s} = record {
    rest = λ t done ended takes.
        subst (λ n. TakesAt P G s (lay_each member frame bindings sample_of qs) t (n, ended)) (let same : done ≡ 0 + done = omega arith in same) takes;
  }

  pub Rest-next : {start now next : S × T} {i : ℕ} (e : Entry) → i < length qs → e ≡ channel_entry member frame bindings sample_of (slice_index qs i)
      → Rest P G member frame bindings sample_of qs start now i → LaysAt P G now e Whole next → Rest P G member frame bindings sample_of qs start next (i + 1)
  unfolding lay_each
  Rest-next {start} {now} {next} {i} e low is so_far step = record {
    rest = λ t done ended takes.
        subst (λ n. TakesAt P G start (lay_each member frame bindings sample_of qs) t (n, ended))
        (let counted : i + (done + 1) ≡ i + 1 + done = omega arith in counted)
        (so_far.rest t (done + 1) ended (rw (drop_more qs i 0 low) (
          Whole,
          next,
          subst (λ (x : Entry). LaysAt P G now x Whole next) is step,
          Takes-map (LoadsAt P G) (LaysAt P G) NoGet next t (lay_each member frame bindings sample_of (drop (i + 1) qs)) one_more (done, ended)
              (done + 1, ended) takes refl,
        )));
  }

  pub Rest-ended : {start now : S × T} {i : ℕ} (next : S × T) (e : Entry) (end : Ended) → i < length qs
      → e ≡ channel_entry member frame bindings sample_of (slice_index qs i) → (end ≡ Whole → ⊥)
      → Rest P G member frame bindings sample_of qs start now i → LaysAt P G now e end next
      → TakesAt P G start (lay_each member frame bindings sample_of qs) next (i, end)
  unfolding lay_each
  Rest-ended {start} {now} {i} next e end low is not_whole so_far step =
      subst (λ n. TakesAt P G start (lay_each member frame bindings sample_of qs) next (n, end)) (let counted : i + 0 ≡ i = omega arith in counted)
      (so_far.rest next 0 end (rw (drop_more qs i 0 low) (
        end,
        next,
        subst (λ (x : Entry). LaysAt P G now x end next) is step,
        not-whole (λ (x : Ended). TakesAt P G next (lay_on x (lay_each member frame bindings sample_of (drop (i + 1) qs))) next (0, x)) end not_whole
            (λ word. record { there = refl; result = refl }) (record { there = refl; result = refl }),
      )))

  pub Rest-all : {start now : S × T} {i : ℕ} → length qs ≤ i → Rest P G member frame bindings sample_of qs start now i
      → TakesAt P G start (lay_each member frame bindings sample_of qs) now (i, Whole)
  unfolding lay_each
  Rest-all {start} {now} {i} is so_far =
      subst (λ n. TakesAt P G start (lay_each member frame bindings sample_of qs) now (n, Whole)) (let counted : i + 0 ≡ i = omega arith in counted)
      (so_far.rest now 0 Whole (rw (drop_all i qs is) (record { there = refl; result = refl })))

module _ {S T : Type 0} (P : mixport.Ghosts S) (G : gates.Ghosts T) where
  -- a frame that was placed from a slot, as a frame of the client
  pub TakesAt-ring_sample : (stream : PlaybackStream) (ring : List ℤ) (member frame slot number : ℕ) (s t : S × T) (done : ℕ × Ended)
      → member ≡ stream.identity.member → frame ≡ stream.stretch.card + number
      → slot ≡ (stream.stretch.source + number) % stream.setup.config.buffer_size * length stream.setup.bindings
      → TakesAt P G s (lay_frame member frame stream.setup.bindings (slot_sample ring slot)) t done
      → TakesAt P G s (lay_frame stream.identity.member (stream.stretch.card + number) stream.setup.bindings (ring_sample stream ring number)) t done
  TakesAt-ring_sample stream ring member frame slot number s t done is_member is_frame is_slot takes =
      subst (λ (m : ℕ). TakesAt P G s (lay_frame m (stream.stretch.card + number) stream.setup.bindings (ring_sample stream ring number)) t done) is_member
      (subst (λ (f : ℕ). TakesAt P G s (lay_frame member f stream.setup.bindings (ring_sample stream ring number)) t done) is_frame
      (subst (λ (n : ℕ). TakesAt P G s (lay_frame member frame stream.setup.bindings (slot_sample ring n)) t done) is_slot takes))

  -- a run of frames, and those after it, by the first frame of the run
  frames-joined-by : (member card : ℕ) (bindings : List ℕ) (samples : ℕ → ℕ → ℤ) (all first : ℕ) (s m n t : S × T) (k done : ℕ) (end : Ended)
      (x y : Commit) → x.ended ≡ Whole
      → TakesAt P G s (lay_frame member (card + first) bindings (samples first)) m (done, end)
      → TakesAt P G m (go_on (done, end) (lay_frames member card bindings samples k (first + 1))) n x
      → ((x' : Commit) → x'.ended ≡ Whole → TakesAt P G m (lay_frames member card bindings samples k (first + 1)) n x' → TakesAt P G m
      (lay_frames member card bindings samples all (first + 1)) t (more_frames k y))
      → TakesAt P G s (lay_frames member card bindings samples (suc all) first) t (more_frames (suc k) y)
  unfolding lay_frames
  frames-joined-by member card bindings samples all first s m n t k done Whole x y whole frame run behind =
      let parts = Takes-parts (LoadsAt P G) (LaysAt P G) NoGet m n (lay_frames member card bindings samples k (first + 1))
      (λ commit. ends (one_frame_more commit)) x run in
      let ran = subst (λ (u : S × T). TakesAt P G m (lay_frames member card bindings samples k (first + 1)) u parts.1) (sym parts.3.there) parts.2 in
      let rest = behind parts.1 (sym (ap (λ (c : Commit). c.ended) parts.3.result) ∙ whole) ran in
      subst (λ j. TakesAt P G s (lay_frames member card bindings samples (suc all) first) t (record { frames = j; part = y.part; ended = y.ended }))
      (let counted : k + y.frames + 1 ≡ suc k + y.frames = omega arith in counted)
      (Takes-then (LoadsAt P G) (LaysAt P G) NoGet s m t (lay_frame member (card + first) bindings (samples first))
      (λ end. go_on end (lay_frames member card bindings samples all (first + 1))) (done, Whole) (one_frame_more (more_frames k y)) frame
      (Takes-map (LoadsAt P G) (LaysAt P G) NoGet m t (lay_frames member card bindings samples all (first + 1)) one_frame_more (more_frames k y)
      (one_frame_more (more_frames k y)) rest refl))
  frames-joined-by member card bindings samples all first s m n t k done other x y whole frame run behind =
      absurd (let same : other ≡ Whole = sym (ap (λ (c : Commit). c.ended) run.result) ∙ whole in cc)

  frames-joined : (member card : ℕ) (bindings : List ℕ) (samples : ℕ → ℕ → ℤ) (k all first : ℕ) (s m t : S × T) (x y : Commit) → k ≤ all → x.ended ≡ Whole
      → TakesAt P G s (lay_frames member card bindings samples k first) m x → TakesAt P G m (lay_frames member card bindings samples (all - k) (first + k)) t y
      → TakesAt P G s (lay_frames member card bindings samples all first) t (more_frames k y)
  unfolding lay_frames
  frames-joined member card bindings samples zero all first s m t x y few whole run behind =
      subst (λ n. TakesAt P G s (lay_frames member card bindings samples all first) t (record { frames = n; part = y.part; ended = y.ended }))
      (let same : y.frames ≡ 0 + y.frames = omega arith in same)
      (subst (λ n. TakesAt P G s (lay_frames member card bindings samples all n) t y) (let here : first + 0 ≡ first = omega arith in here)
      (subst (λ n. TakesAt P G s (lay_frames member card bindings samples n (first + 0)) t y) (let counted : all - 0 ≡ all = omega arith in counted)
      (subst (λ (u : S × T). TakesAt P G u (lay_frames member card bindings samples (all - 0) (first + 0)) t y) run.there behind)))
  frames-joined member card bindings samples (suc k) zero first s m t x y few whole run behind = absurd (omega (arith, few))
  frames-joined member card bindings samples (suc k) (suc all) first s m t x y few whole run behind =
      let parts = Takes-parts (LoadsAt P G) (LaysAt P G) NoGet s m (lay_frame member (card + first) bindings (samples first))
      (λ end. go_on end (lay_frames member card bindings samples k (first + 1))) x run in
      let later = subst (λ n. TakesAt P G m (lay_frames member card bindings samples n (first + 1 + k)) t y)
      (let left : suc all - suc k ≡ all - k = omega arith in left)
      (subst (λ n. TakesAt P G m (lay_frames member card bindings samples (suc all - suc k) n) t y)
      (let at : first + suc k ≡ first + 1 + k = omega arith in at) behind) in
      frames-joined-by member card bindings samples all first s parts.0 m t k parts.1.0 parts.1.1 x y whole parts.2 parts.3
      (λ x' whole' ran. frames-joined member card bindings samples k all (first + 1) parts.0 m t x' y (omega (arith, few)) whole' ran later)

  -- a run of frames up to one that is late or stopped, by the first frame of the run
  frames-ended-by : (member card : ℕ) (bindings : List ℕ) (samples : ℕ → ℕ → ℤ) (all first : ℕ) (s m t : S × T) (k done : ℕ) (end : Ended)
      (x : Commit) → (x.ended ≡ Whole → ⊥)
      → TakesAt P G s (lay_frame member (card + first) bindings (samples first)) m (done, end)
      → TakesAt P G m (go_on (done, end) (lay_frames member card bindings samples k (first + 1))) t x
      → ((x' : Commit) → (x'.ended ≡ Whole → ⊥) → TakesAt P G m (lay_frames member card bindings samples k (first + 1)) t x' → TakesAt P G m
      (lay_frames member card bindings samples all (first + 1)) t x')
      → TakesAt P G s (lay_frames member card bindings samples (suc all) first) t x
  unfolding lay_frames
  frames-ended-by member card bindings samples all first s m t k done Whole x not_whole frame run more =
      let parts = Takes-parts (LoadsAt P G) (LaysAt P G) NoGet m t (lay_frames member card bindings samples k (first + 1))
      (λ commit. ends (one_frame_more commit)) x run in
      let ran = subst (λ (u : S × T). TakesAt P G m (lay_frames member card bindings samples k (first + 1)) u parts.1) (sym parts.3.there) parts.2 in
      let rest = more parts.1 (λ is. not_whole (ap (λ (c : Commit). c.ended) parts.3.result ∙ is)) ran in
      Takes-then (LoadsAt P G) (LaysAt P G) NoGet s m t (lay_frame member (card + first) bindings (samples first))
      (λ end. go_on end (lay_frames member card bindings samples all (first + 1))) (done, Whole) x frame
      (Takes-map (LoadsAt P G) (LaysAt P G) NoGet m t (lay_frames member card bindings samples all (first + 1)) one_frame_more parts.1 x
      rest (sym parts.3.result))
  frames-ended-by member card bindings samples all first s m t k done other x not_whole frame run more =
      Takes-then (LoadsAt P G) (LaysAt P G) NoGet s m t (lay_frame member (card + first) bindings (samples first))
      (λ end. go_on end (lay_frames member card bindings samples all (first + 1))) (done, other) x frame run

  frames-ended : (member card : ℕ) (bindings : List ℕ) (samples : ℕ → ℕ → ℤ) (k all first : ℕ) (s t : S × T) (x : Commit) → k ≤ all → (x.ended ≡ Whole → ⊥)
      → TakesAt P G s (lay_frames member card bindings samples k first) t x → TakesAt P G s (lay_frames member card bindings samples all first) t x
  unfolding lay_frames
  frames-ended member card bindings samples zero all first s t x few not_whole run = absurd (not_whole (ap (λ (c : Commit). c.ended) run.result))
  frames-ended member card bindings samples (suc k) zero first s t x few not_whole run = absurd (omega (arith, few))
  frames-ended member card bindings samples (suc k) (suc all) first s t x few not_whole run =
      let parts = Takes-parts (LoadsAt P G) (LaysAt P G) NoGet s t (lay_frame member (card + first) bindings (samples first))
      (λ end. go_on end (lay_frames member card bindings samples k (first + 1))) x run in
      frames-ended-by member card bindings samples all first s parts.0 t k parts.1.0 parts.1.1 x not_whole parts.2 parts.3
      (λ x' not_whole' ran. frames-ended member card bindings samples k all (first + 1) parts.0 t x' (omega (arith, few)) not_whole' ran)

module _ {S T : Type 0} {P : mixport.Ghosts S} {G : gates.Ghosts T} {member card : ℕ} {bindings : List ℕ} {samples : ℕ → ℕ → ℤ} {count first : ℕ} where
  pub RestFrames-none : {s : S × T} → RestFrames P G member card bindings samples count first s s 0
  RestFrames-none {s} = record {
    rest = λ t x takes.
        subst (λ n. TakesAt P G s (lay_frames member card bindings samples count first) t (record { frames = n; part = x.part; ended = x.ended }))
        (let same : x.frames ≡ 0 + x.frames = omega arith in same)
        (subst (λ n. TakesAt P G s (lay_frames member card bindings samples count n) t x) (let here : first + 0 ≡ first = omega arith in here)
        (subst (λ n. TakesAt P G s (lay_frames member card bindings samples n (first + 0)) t x) (let counted : count - 0 ≡ count = omega arith in counted) takes));
  }

  pub RestFrames-next : {start now next : S × T} {i : ℕ} (placed : ℕ) → i < count → RestFrames P G member card bindings samples count first start now i
      → TakesAt P G now (lay_frame member (card + (first + i)) bindings (samples (first + i))) next (placed, Whole)
      → RestFrames P G member card bindings samples count first start next (i + 1)
  unfolding lay_frames ◌>>=◌
  RestFrames-next {start} {now} {next} {i} placed low so_far step = record {
    rest = λ t x takes.
        let one_less : count - i ≡ suc (count - (i + 1)) = omega (arith, low) in
        subst (λ n. TakesAt P G start (lay_frames member card bindings samples count first) t (record { frames = n; part = x.part; ended = x.ended }))
        (let counted : i + (x.frames + 1) ≡ i + 1 + x.frames = omega arith in counted)
        (so_far.rest t (one_frame_more x) (subst (λ n. TakesAt P G now (lay_frames member card bindings samples n (first + i)) t (one_frame_more x))
        (sym one_less)
        (Takes-then (LoadsAt P G) (LaysAt P G) NoGet now next t (lay_frame member (card + (first + i)) bindings (samples (first + i)))
        (λ end. go_on end (lay_frames member card bindings samples (count - (i + 1)) (first + i + 1))) (placed, Whole) (one_frame_more x) step
        (Takes-map (LoadsAt P G) (LaysAt P G) NoGet next t (lay_frames member card bindings samples (count - (i + 1)) (first + i + 1))
        one_frame_more x (one_frame_more x)
        (subst (λ n. TakesAt P G next (lay_frames member card bindings samples (count - (i + 1)) n) t x)
        (let at : first + (i + 1) ≡ first + i + 1 = omega arith in at) takes) refl))));
  }

  pub RestFrames-ended : {start now : S × T} {i : ℕ} (next : S × T) (placed : ℕ) (end : Ended) → i < count → (end ≡ Whole → ⊥)
      → RestFrames P G member card bindings samples count first start now i
      → TakesAt P G now (lay_frame member (card + (first + i)) bindings (samples (first + i))) next (placed, end)
      → TakesAt P G start (lay_frames member card bindings samples count first) next (record { frames = i; part = placed; ended = end })
  unfolding lay_frames ◌>>=◌
  RestFrames-ended {start} {now} {i} next placed end low not_whole so_far step =
      let one_less : count - i ≡ suc (count - (i + 1)) = omega (arith, low) in
      let rest = lay_frames member card bindings samples (count - (i + 1)) (first + i + 1) in
      let none : Ended → Commit = λ e. record { frames = 0; part = placed; ended = e } in
      subst (λ n. TakesAt P G start (lay_frames member card bindings samples count first) next (record { frames = n; part = placed; ended = end }))
      (let counted : i + 0 ≡ i = omega arith in counted)
      (so_far.rest next (none end) (subst (λ n. TakesAt P G now (lay_frames member card bindings samples n (first + i)) next (none end)) (sym one_less)
      (Takes-then (LoadsAt P G) (LaysAt P G) NoGet now next next (lay_frame member (card + (first + i)) bindings (samples (first + i))) (λ e. go_on e rest)
      (placed, end) (none end) step (not-whole (λ (x : Ended). TakesAt P G next (go_on (placed, x) rest) next (none x)) end not_whole
      (λ word. record { there = refl; result = refl }) (record { there = refl; result = refl })))))

  pub RestFrames-all : {start now : S × T} {i : ℕ} → count ≡ i → RestFrames P G member card bindings samples count first start now i
      → TakesAt P G start (lay_frames member card bindings samples count first) now (record { frames = count; part = 0; ended = Whole })
  unfolding lay_frames
  RestFrames-all {start} {now} {i} is so_far =
      subst (λ n. TakesAt P G start (lay_frames member card bindings samples count first) now (record { frames = n; part = 0; ended = Whole }))
      (let counted : i + 0 ≡ count = omega (arith, is) in counted)
      (so_far.rest now nothing (subst (λ n. TakesAt P G now (lay_frames member card bindings samples n (first + i)) now nothing)
      (sym (let none : count - i ≡ 0 = omega (arith, is) in none)) (record { there = refl; result = refl })))

  pub RestFrames-run : {start now next : S × T} {i : ℕ} (run : ℕ) (x : Commit) → i + run ≤ count → x.ended ≡ Whole
      → RestFrames P G member card bindings samples count first start now i → TakesAt P G now (lay_frames member card bindings samples run (first + i)) next x
      → RestFrames P G member card bindings samples count first start next (i + run)
  RestFrames-run {start} {now} {next} {i} run x few whole so_far ran = record {
    rest = λ t y takes.
        let later = subst (λ n. TakesAt P G next (lay_frames member card bindings samples n (first + i + run)) t y)
        (let left : count - (i + run) ≡ count - i - run = omega arith in left)
        (subst (λ n. TakesAt P G next (lay_frames member card bindings samples (count - (i + run)) n) t y)
        (let at : first + (i + run) ≡ first + i + run = omega arith in at) takes) in
        subst (λ n. TakesAt P G start (lay_frames member card bindings samples count first) t (record { frames = n; part = y.part; ended = y.ended }))
        (let counted : i + (run + y.frames) ≡ i + run + y.frames = omega arith in counted)
        (so_far.rest t (more_frames run y) (frames-joined P G member card bindings samples run (count - i) (first + i) now next t x y
        (omega (arith, few)) whole ran later));
  }

  pub RestFrames-run_ended : {start now : S × T} {i : ℕ} (next : S × T) (run : ℕ) (x : Commit) → i + run ≤ count → (x.ended ≡ Whole → ⊥)
      → RestFrames P G member card bindings samples count first start now i → TakesAt P G now (lay_frames member card bindings samples run (first + i)) next x
      → TakesAt P G start (lay_frames member card bindings samples count first) next (more_frames i x)
  RestFrames-run_ended {start} {now} {i} next run x few not_whole so_far ran =
      so_far.rest next x (frames-ended P G member card bindings samples run (count - i) (first + i) now next x (omega (arith, few)) not_whole ran)
