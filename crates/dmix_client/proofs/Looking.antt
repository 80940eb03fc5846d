-- The calls take their courses, by what their parts took.
use Rattle.dmix_client.specs.Prelude.{ap, arith, List, refl, subst, ℕ, ◌<◌, ◌≡◌, nat_tests, false, nat_eq, None, Ok, Option, Some, true, ℤ, Cursor, Call, State}
use Rattle.dmix_client.specs.Prelude.{Draining, Running, is_moving, Position, LaysAt, LoadsAt, NoGet, TakesAt, ◌>>=◌, Takes-map, Takes-then, Commit}
use Rattle.dmix_client.specs.Prelude.{PlaybackStream, after_resume, after_start, after_sync, Answered, is_running, pending_of, start_count, started_in}
use Rattle.dmix_client.specs.Prelude.{sync_count, taken_of, with_new_base, with_number, written_after, commits, course_with_number, drain_on, drains, fills}
use Rattle.dmix_client.specs.Prelude.{looks, nothing, number_course, pause_course, resumes, starts, syncs, takes_more, write_course, write_on, writes_on}
use Rattle.dmix_client.specs.Prelude.{count_with, frames_in, ring_with}
use Rattle.mix_core.specs.declared.gate.Gate as gates
use Rattle.mix_core.specs.declared.port.MixPort as mixport
use Rattle.pcm_states.specs.declared.calls.Call.TheVariants as call

nonzero : (n : ℕ) → 0 < n → nat_eq n 0 ≡ false
nonzero n some = grind (arith, nat_tests)

module _ {S T : Type 0} (P : mixport.Ghosts S) (G : gates.Ghosts T) where
  -- no position was loaded
  pub looks-none : (s t : S × T) (at : Position → PlaybackStream) (count : Position → ℕ) (ring : List ℤ) → LoadsAt P G s None t
      → TakesAt P G s (looks at count ring) t (None, nothing)
  unfolding looks ◌>>=◌
  looks-none s t at count ring step = (None, t, step, record { there = refl; result = refl })

  -- a position was loaded, and so many frames committed
  pub looks-some : (s m t : S × T) (at : Position → PlaybackStream) (count : Position → ℕ) (ring : List ℤ) (position : Position)
      (c : PlaybackStream) (n : ℕ) (x : Commit)
      → c ≡ at position → n ≡ count position → LoadsAt P G s (Some position) m → TakesAt P G m (commits c ring n) t x
      → TakesAt P G s (looks at count ring) t (Some position, x)
  unfolding looks
  looks-some s m t at count ring position c n x is_client is_count step then = (
    Some position,
    m,
    step,
    Takes-map (LoadsAt P G) (LaysAt P G) NoGet m t (commits (at position) ring (count position))
        (λ commit. let found : Option Position × Commit = (Some position, commit) in found) x (Some position, x)
        (subst (λ k. TakesAt P G m (commits (at position) ring k) t x) is_count (subst (λ d. TakesAt P G m (commits d ring n) t x) is_client then)) refl,
  )

  -- the sync of a client, and its start, by a load and the commit after it
  pub syncs-by : (s t : S × T) (c : PlaybackStream) (call : Call) (ring : List ℤ) (load : Option Position) (commit : Commit) (done : Answered (Unit {0}))
      → TakesAt P G s (looks (λ position. c) (sync_count c) ring) t (load, commit) → after_sync c call load commit ≡ done
      → TakesAt P G s (syncs c call ring) t done
  unfolding syncs
  syncs-by s t c call ring load commit done takes is =
      Takes-map (LoadsAt P G) (LaysAt P G) NoGet s t (looks (λ position. c) (sync_count c) ring) (λ found. after_sync c call found.0 found.1)
      (load, commit) done takes is

  pub starts-by : (s t : S × T) (c : PlaybackStream) (state : State) (cursor : Cursor) (upto : ℕ) (ring : List ℤ) (load : Option Position) (commit : Commit)
      (done : Answered (Unit {0}))
      → TakesAt P G s (looks (λ position. started_in c Running position cursor) (λ position. start_count c cursor position upto) ring) t (load, commit)
      → after_start c state cursor load commit ≡ done → TakesAt P G s (starts c state cursor upto ring) t done
  unfolding starts
  starts-by s t c state cursor upto ring load commit done takes is =
      Takes-map (LoadsAt P G) (LaysAt P G) NoGet s t (looks (λ position. started_in c Running position cursor) (λ position. start_count c cursor position upto)
      ring) (λ found. after_start c state cursor found.0 found.1) (load, commit) done takes is

  pub resumes-by : (s t : S × T) (c : PlaybackStream) (cursor : Cursor) (ring : List ℤ) (load : Option Position) (commit : Commit) (done : Answered (Unit {0}))
      → TakesAt P G s (looks (λ position. started_in (with_new_base c) Running position cursor)
      (λ position. start_count (with_new_base c) cursor position (pending_of c)) ring) t (load, commit)
      → after_resume c cursor load commit ≡ done → TakesAt P G s (resumes c cursor ring) t done
  unfolding resumes
  resumes-by s t c cursor ring load commit done takes is =
      Takes-map (LoadsAt P G) (LaysAt P G) NoGet s t (looks (λ position. started_in (with_new_base c) Running position cursor)
      (λ position. start_count (with_new_base c) cursor position (pending_of c)) ring) (λ found. after_resume c cursor found.0 found.1)
      (load, commit) done takes is

  -- the drain of a client that is prepared, by its start and what follows
  pub drains-by : (s t u : S × T) (c : PlaybackStream) (ring : List ℤ) (cursor : Cursor) (begun done : Answered (Unit {0}))
      → TakesAt P G s (starts c Draining cursor c.stretch.written ring) t begun → TakesAt P G t (drain_on ring begun) u done
      → TakesAt P G s (drains c ring cursor) u done
  unfolding drains
  drains-by s t u c ring cursor begun done one two =
      Takes-then (LoadsAt P G) (LaysAt P G) NoGet s t u (starts c Draining cursor c.stretch.written ring) (drain_on ring) begun done one two

  -- the number of a client that moves frames
  pub number-moving : (s t : S × T) (number : PlaybackStream → ℕ) (c : PlaybackStream) (ring : List ℤ) (done : Answered (Unit {0})) (x : Answered ℕ)
      → is_moving c.status.state ≡ true
      → TakesAt P G s (syncs c call.Sync ring) t done → with_number number done ≡ x → TakesAt P G s (number_course number c ring) t x
  unfolding course_with_number
  number-moving s t number c ring done x moves takes is =
      rw moves (Takes-map (LoadsAt P G) (LaysAt P G) NoGet s t (syncs c call.Sync ring) (λ z. with_number number z) done x takes is)

  -- and of one that rests
  pub number-resting : (s : S × T) (number : PlaybackStream → ℕ) (c : PlaybackStream) (ring : List ℤ) (n : ℕ) → is_moving c.status.state ≡ false → n ≡ number c
      → TakesAt P G s (number_course number c ring) s (let x : Answered ℕ = (c, Ok n) in x)
  number-resting s number c ring n rests is = rw rests (record { there = refl; result = ap (λ (k : ℕ). let x : Answered ℕ = (c, Ok k) in x) is })

  -- a resume without pending frames and with some
  pub rebases-takes : (s : S × T) (c d : PlaybackStream) (ring : List ℤ) (cursor : Cursor) → pending_of c ≡ 0 → d ≡ with_new_base c
      → TakesAt P G s (pause_course false c ring cursor) s (let x : Answered (Unit {0}) = (d, Ok tt) in x)
  rebases-takes s c d ring cursor none is = grind (arith, nat_tests)

  pub resumes-takes : (s t : S × T) (c : PlaybackStream) (ring : List ℤ) (cursor : Cursor) (done : Answered (Unit {0})) → 0 < pending_of c
      → TakesAt P G s (resumes c cursor ring) t done → TakesAt P G s (pause_course false c ring cursor) t done
  resumes-takes s t c ring cursor done some takes = rw (nonzero (pending_of c) some) takes

  -- the parts of a write
  pub takes_more-by : (s t : S × T) (c : PlaybackStream) (ring samples stored : List ℤ) (n taken : ℕ) (last : Commit) (done : Answered ℕ) → taken ≡ taken_of c n
      → stored ≡ ring_with c ring samples taken
      → TakesAt P G s (commits c stored (count_with c taken)) t last → written_after c n last ≡ done → TakesAt P G s (takes_more c ring samples n) t done
  unfolding takes_more
  takes_more-by s t c ring samples stored n taken last done is_taken is_stored takes is =
      Takes-map (LoadsAt P G) (LaysAt P G) NoGet s t (commits c (ring_with c ring samples (taken_of c n)) (count_with c (taken_of c n)))
      (λ last. written_after c n last) last done
      (subst (λ k. TakesAt P G s (commits c (ring_with c ring samples k) (count_with c k)) t last) is_taken
      (subst (λ r. TakesAt P G s (commits c r (count_with c taken)) t last) is_stored takes)) is

  pub writes_on-by : (s t u : S × T) (c : PlaybackStream) (ring samples : List ℤ) (n : ℕ) (after_sync : Answered (Unit {0})) (done : Answered ℕ)
      → TakesAt P G s (syncs c call.Transfer ring) t after_sync → TakesAt P G t (write_on ring samples n after_sync) u done
      → TakesAt P G s (writes_on c ring samples n) u done
  unfolding writes_on
  writes_on-by s t u c ring samples n after_sync done one two =
      Takes-then (LoadsAt P G) (LaysAt P G) NoGet s t u (syncs c call.Transfer ring) (write_on ring samples n) after_sync done one two

  -- the write of a client that runs
  pub write-running : (s t : S × T) (c : PlaybackStream) (ring samples : List ℤ) (cursor : Cursor) (n : ℕ) (done : Answered ℕ)
      → is_running c.status.state ≡ true → n ≡ frames_in c samples
      → TakesAt P G s (writes_on c ring samples n) t done → TakesAt P G s (write_course c ring samples cursor) t done
  write-running s t c ring samples cursor n done runs is takes = rw runs (subst (λ k. TakesAt P G s (writes_on c ring samples k) t done) is takes)

  -- the write of a client that is prepared
  pub write-prepared : (s t : S × T) (c : PlaybackStream) (ring samples : List ℤ) (cursor : Cursor) (n : ℕ) (done : Answered ℕ)
      → is_running c.status.state ≡ false → n ≡ frames_in c samples
      → TakesAt P G s (fills c ring samples cursor n) t done → TakesAt P G s (write_course c ring samples cursor) t done
  write-prepared s t c ring samples cursor n done waits is takes = rw waits (subst (λ k. TakesAt P G s (fills c ring samples cursor k) t done) is takes)
