-- What courses of a client did at a port: what was placed and loaded, how it ended, and what the gate counted.
use Rattle.std.specs.Prelude.{◌≡◌, ℕ, zero, suc, ◌+◌, ◌<◌, ◌≤◌, ℤ, List, [], ◌∷◌, ◌++◌, length, map, take, slice_index, Option, None, Some}
use Rattle.std.specs.List.{flat_map, range_with_len}
use Rattle.std.proofs.Common.{refl, sym, ◌∙◌, ap, subst, arith, add-zero}
use Rattle.std.proofs.Math.Numerals.{add-one}
use Rattle.std.proofs.lemmas.Bool.Decides.{nat_tests}
use Rattle.std.proofs.lemmas.List.{append_assoc}
use Rattle.snd_base.specs.declared.geometry.Geometry.{Geometry}
use Rattle.snd_base.specs.Places.{cursor_after, first_free}
use Rattle.snd_base.specs.Relations.{Composes}
use Rattle.mix_core.specs.declared.gate.Gate as gates
use Rattle.mix_core.specs.declared.port.Ended.{Ended}
use Rattle.mix_core.specs.declared.port.Ended.TheVariants.{Whole, Late, Stopped}
use Rattle.mix_core.specs.declared.port.Entry.{Entry}
use Rattle.mix_core.specs.declared.port.MixPort as mixport
use Rattle.mix_core.specs.declared.port.Position.{Position}
use Rattle.mix_core.specs.Gate.{stops_after}
use Rattle.mix_core.specs.Laid.{an_add}
use Rattle.mix_core.specs.Port.{IsPast, OnLate, OnWhole, PortView, pass_of_end}
use Rattle.course.specs.AtPort.{LaysAt, LoadsAt, NoGet, TakesAt}
use Rattle.course.specs.Course.{◌>>=◌, ends}
use Rattle.course.specs.CourseLaws.{Takes-parts}
use Rattle.bindings.specs.Bound.{AreBindings, rising}
use Rattle.bindings.specs.RisingLaws.{length-rising}
use Rattle.dmix_client.specs.declared.commit.Commit.{Commit}
use Rattle.dmix_client.specs.declared.stream.PlaybackStream.{PlaybackStream}
use Rattle.dmix_client.specs.Calls.{Answered, commit_entries}
use Rattle.dmix_client.specs.Course.{commits, go_on, lay_each, lay_frame, lay_frames, looks, one_frame_more, one_more}
use Rattle.dmix_client.specs.Expansion.{frame_entries, run_entries}
use Rattle.dmix_client.specs.Port.{IsCommit, IsUpTo, LoadsAndCommits, TakesStep, least_channel}
use Rattle.dmix_client.specs.View.{ring_sample}

-- the entry of a client channel in a frame
abbrev pub channel_entry : ℕ → ℕ → List ℕ → (ℕ → ℤ) → ℕ → Entry
channel_entry member frame bindings sample_of q = an_add member frame (slice_index bindings q) (sample_of q)

-- what some channels of a frame ended in
pub record LaysFrame {S T : Type 0} (P : mixport.Ghosts S) (G : gates.Ghosts T) (s t : S × T)
    (member frame : ℕ) (bindings : List ℕ) (sample_of : ℕ → ℤ) (qs : List ℕ) (done : ℕ)
    (ended : Ended) : Type 0 where
  pub view_is : P.view t.0 ≡ record (P.view s.0) { marks = (P.view t.0).marks }
  pub up_to : IsUpTo ended done (length qs)
  pub laid_them : P.laid s.0 t.0 (map (channel_entry member frame bindings sample_of) (take done qs))
  pub loaded_nothing : P.loaded s.0 t.0 []
  pub not_before_seen : 0 < done → (P.view s.0).seen ≤ frame
  pub late : OnLate ended (λ word. IsPast P.view P.shows t.0 frame
      (slice_index bindings (slice_index qs done)) word)
  pub stopped : G.stops t.1 ≡ stops_after (pass_of_end ended) (G.stops s.1)
  pub free : (c : ℕ) → first_free (P.view s.0).marks.cursor c ≤ frame + 1
      → first_free (P.view t.0).marks.cursor c ≤ frame + 1

-- what some frames ended in
pub record LaysFrames {S T : Type 0} (P : mixport.Ghosts S) (G : gates.Ghosts T) (s t : S × T)
    (member card : ℕ) (bindings : List ℕ) (samples : ℕ → ℕ → ℤ) (count first : ℕ)
    (x : Commit) : Type 0 where
  pub view_is : P.view t.0 ≡ record (P.view s.0) { marks = (P.view t.0).marks }
  pub commit_is : IsCommit x.ended x.frames x.part count (length bindings)
  pub laid_them : P.laid s.0 t.0 (run_entries member bindings samples card first x.frames x.part)
  pub loaded_nothing : P.loaded s.0 t.0 []
  pub not_before_seen : 0 < x.frames + x.part → (P.view s.0).seen ≤ card + first
  pub late : OnLate x.ended
      (λ word. IsPast P.view P.shows t.0 (card + (first + x.frames))
      (slice_index bindings (slice_index (rising bindings) x.part)) word)
  pub stopped : G.stops t.1 ≡ stops_after (pass_of_end x.ended) (G.stops s.1)
  pub free : (c : ℕ) → first_free (P.view s.0).marks.cursor c ≤ card + first
      → OnWhole x.ended (first_free (P.view t.0).marks.cursor c ≤ card + (first + x.frames))

behind-next : (g : Geometry) (f c d : ℕ) → first_free (cursor_after g f c) d ≤ f + 1
behind-next g f c d = grind (arith, nat_tests)

up_to-more : (e : Ended) (done all : ℕ) → IsUpTo e done all → IsUpTo e (suc done) (suc all)
up_to-more Whole done all is = ap suc is
up_to-more (Late word) done all is = omega (arith, is)
up_to-more Stopped done all is = omega (arith, is)

commit-none : (e : Ended) (done count channels : ℕ) → (e ≡ Whole → ⊥) → IsUpTo e done channels
    → IsCommit e 0 done (suc count) channels
commit-none Whole done count channels not_whole is = absurd (not_whole refl)
commit-none (Late word) done count channels not_whole is = (omega arith, is)
commit-none Stopped done count channels not_whole is = (omega arith, is)

commit-more : (e : Ended) (frames part count channels : ℕ) → IsCommit e frames part count channels
    → IsCommit e (suc frames) part (suc count) channels
commit-more Whole frames part count channels is = (ap suc is.0, is.1)
commit-more (Late word) frames part count channels is = (omega (arith, is.0), is.1)
commit-more Stopped frames part count channels is = (omega (arith, is.0), is.1)

OnWhole-not : (e : Ended) (X : Type 0) → (e ≡ Whole → ⊥) → OnWhole e X
OnWhole-not Whole X not_whole = absurd (not_whole refl)
OnWhole-not (Late word) X not_whole = tt
OnWhole-not Stopped X not_whole = tt

pub OnWhole-map : (e : Ended) (X Y : Type 0) → (X → Y) → OnWhole e X → OnWhole e Y
OnWhole-map Whole X Y f is = f is
OnWhole-map (Late word) X Y f is = tt
OnWhole-map Stopped X Y f is = tt

module _ {S T : Type 0} (P : mixport.Ghosts S) (G : gates.Ghosts T) (laid_composes : Composes P.laid) (loaded_composes : Composes P.loaded) where
  pub TakesAt-frame : (member frame : ℕ) (bindings : List ℕ) (sample_of : ℕ → ℤ) (qs : List ℕ)
      (s t : S × T) (done : ℕ) (ended : Ended)
      → TakesAt P G s (lay_each member frame bindings sample_of qs) t (done, ended)
      → LaysFrame P G s t member frame bindings sample_of qs done ended
  unfolding lay_each
  TakesAt-frame member frame bindings sample_of [] s t done ended takes =
      subst (λ (u : S × T). LaysFrame P G s u member frame bindings sample_of [] done ended) (sym takes.there)
      (subst (λ (r : ℕ × Ended). LaysFrame P G s s member frame bindings sample_of [] r.0 r.1) (sym takes.result) (record {
        view_is = refl;
        up_to = refl;
        laid_them = laid_composes.none s.0;
        loaded_nothing = loaded_composes.none s.0;
        not_before_seen = λ some. absurd (omega (arith, some));
        late = tt;
        stopped = refl;
        free = λ c is. is;
      }))
  TakesAt-frame member frame bindings sample_of (q ∷ qs) s t done ended (Late word, m, step, rest) =
      subst (λ (u : S × T). LaysFrame P G s u member frame bindings sample_of (q ∷ qs) done ended) (sym rest.there)
      (subst (λ (r : ℕ × Ended). LaysFrame P G s m member frame bindings sample_of (q ∷ qs) r.0 r.1) (sym rest.result) (record {
        view_is = step.view_is ∙ ap (λ (v : PortView). record (P.view s.0) { marks = v.marks }) (sym step.view_is);
        up_to = omega arith;
        laid_them = step.laid_it;
        loaded_nothing = step.loaded_nothing;
        not_before_seen = λ some. absurd (omega (arith, some));
        late = step.shown;
        stopped = step.stopped;
        free = λ c is. subst (λ (v : PortView). first_free v.marks.cursor c ≤ frame + 1) (sym step.view_is) is;
      }))
  TakesAt-frame member frame bindings sample_of (q ∷ qs) s t done ended (Stopped, m, step, rest) =
      subst (λ (u : S × T). LaysFrame P G s u member frame bindings sample_of (q ∷ qs) done ended) (sym rest.there)
      (subst (λ (r : ℕ × Ended). LaysFrame P G s m member frame bindings sample_of (q ∷ qs) r.0 r.1) (sym rest.result) (record {
        view_is = step.view_is ∙ ap (λ (v : PortView). record (P.view s.0) { marks = v.marks }) (sym step.view_is);
        up_to = omega arith;
        laid_them = step.laid_it;
        loaded_nothing = step.loaded_nothing;
        not_before_seen = λ some. absurd (omega (arith, some));
        late = tt;
        stopped = step.stopped;
        free = λ c is. subst (λ (v : PortView). first_free v.marks.cursor c ≤ frame + 1) (sym step.view_is) is;
      }))
  TakesAt-frame member frame bindings sample_of (q ∷ qs) s t done ended (Whole, m, step, rest) =
      let parts = Takes-parts (LoadsAt P G) (LaysAt P G) NoGet m t (lay_each member frame bindings sample_of qs)
      (λ end. ends (one_more end)) (done, ended) rest in
      let later = TakesAt-frame member frame bindings sample_of qs m parts.0 parts.1.0 parts.1.1 parts.2 in
      let result : (let r : ℕ × Ended = (done, ended) in r) ≡ (suc parts.1.0, parts.1.1) = parts.3.result
      ∙ ap (λ (n : ℕ). let r : ℕ × Ended = (n, parts.1.1) in r) (add-one parts.1.0) in
      subst (λ (u : S × T). LaysFrame P G s u member frame bindings sample_of (q ∷ qs) done ended) (sym parts.3.there)
      (subst (λ (r : ℕ × Ended). LaysFrame P G s parts.0 member frame bindings sample_of (q ∷ qs) r.0 r.1) (sym result) (record {
        view_is = later.view_is ∙ ap (λ (v : PortView). record v { marks = (P.view parts.0.0).marks }) step.view_is;
        up_to = up_to-more parts.1.1 parts.1.0 (length qs) later.up_to;
        laid_them = laid_composes.joined s.0 m.0 parts.0.0 (channel_entry member frame bindings sample_of q ∷ [])
            (map (channel_entry member frame bindings sample_of) (take parts.1.0 qs)) step.laid_it later.laid_them;
        loaded_nothing = loaded_composes.joined s.0 m.0 parts.0.0 [] [] step.loaded_nothing later.loaded_nothing;
        not_before_seen = λ some. step.not_before_seen;
        late = later.late;
        stopped = later.stopped ∙ ap (stops_after (pass_of_end parts.1.1)) step.stopped;
        free = λ c is. later.free c (subst (λ (v : PortView). first_free v.marks.cursor c ≤ frame + 1) (sym step.view_is)
            (behind-next (P.view s.0).geometry frame (slice_index bindings q) c));
      }))

  frames-ended : (member card : ℕ) (bindings : List ℕ) (samples : ℕ → ℕ → ℤ) (count first : ℕ)
      (s t : S × T) (done : ℕ) (ended : Ended) → AreBindings bindings → (ended ≡ Whole → ⊥)
      → LaysFrame P G s t member (card + first) bindings (samples first) (rising bindings) done
      ended
      → LaysFrames P G s t member card bindings samples (suc count) first
      (record { frames = 0; part = done; ended = ended })
  frames-ended member card bindings samples count first s t done ended are not_whole frame = record {
    view_is = frame.view_is;
    commit_is = commit-none ended done count (length bindings) not_whole (subst (IsUpTo ended done) (length-rising bindings are) frame.up_to);
    laid_them = subst (λ (n : ℕ). P.laid s.0 t.0 (frame_entries member bindings (samples n) done (card + n))) (sym (add-zero first)) frame.laid_them;
    loaded_nothing = frame.loaded_nothing;
    not_before_seen = λ some. frame.not_before_seen (omega (arith, some));
    late = subst (λ (n : ℕ). OnLate ended (λ word. IsPast P.view P.shows t.0 (card + n) (slice_index bindings (slice_index (rising bindings) done)) word))
        (sym (add-zero first)) frame.late;
    stopped = frame.stopped;
    free = λ c is. OnWhole-not ended _ not_whole;
  }

  frames-more : (member card : ℕ) (bindings : List ℕ) (samples : ℕ → ℕ → ℤ) (count first : ℕ)
      (s m t : S × T) (done : ℕ) (x : Commit) → AreBindings bindings
      → LaysFrame P G s m member (card + first) bindings (samples first) (rising bindings) done
      Whole
      → LaysFrames P G m t member card bindings samples count (first + 1) x
      → LaysFrames P G s t member card bindings samples (suc count) first
      (record { frames = suc x.frames; part = x.part; ended = x.ended })
  frames-more member card bindings samples count first s m t done x are frame later =
      let at : first + 1 + x.frames ≡ first + suc x.frames = omega arith in
      let all : done ≡ length bindings = frame.up_to ∙ length-rising bindings are in
      let whole : ℕ → List Entry = λ j. frame_entries member bindings (samples j) (length bindings) (card + j) in
      let rest : List Entry = flat_map whole (range_with_len (first + 1) x.frames) in
      let one : P.laid s.0 m.0 (whole first) = subst (λ (n : ℕ). P.laid s.0 m.0 (frame_entries member bindings (samples first) n
      (card + first))) all frame.laid_them in
      record {
        view_is = later.view_is ∙ ap (λ (v : PortView). record v { marks = (P.view t.0).marks }) frame.view_is;
        commit_is = commit-more x.ended x.frames x.part count (length bindings) later.commit_is;
        laid_them = subst (P.laid s.0 t.0)
            (sym (append_assoc (whole first) rest (frame_entries member bindings (samples (first + 1 + x.frames)) x.part (card + (first + 1 + x.frames))))
            ∙ ap (λ (n : ℕ). (whole first ++ rest) ++ frame_entries member bindings (samples n) x.part (card + n)) at)
            (laid_composes.joined s.0 m.0 t.0 (whole first) (run_entries member bindings samples card (first + 1) x.frames x.part) one later.laid_them);
        loaded_nothing = loaded_composes.joined s.0 m.0 t.0 [] [] frame.loaded_nothing later.loaded_nothing;
        not_before_seen = λ some. frame.not_before_seen (omega (arith, all, are.some));
        late = subst (λ (n : ℕ). OnLate x.ended (λ word. IsPast P.view P.shows t.0 (card + n)
            (slice_index bindings (slice_index (rising bindings) x.part)) word)) at later.late;
        stopped = later.stopped ∙ ap (stops_after (pass_of_end x.ended)) frame.stopped;
        free = λ c is. OnWhole-map x.ended _ _ (λ low. omega (arith, low, at)) (later.free c (omega (arith, frame.free c (omega (arith, is)))));
      }

  -- what some frames ended in, by the first, and by what those after it end in
  frames-by : (member card : ℕ) (bindings : List ℕ) (samples : ℕ → ℕ → ℤ) (count first : ℕ)
      (s m t : S × T) (done : ℕ) (ended : Ended) (x : Commit) → AreBindings bindings
      → LaysFrame P G s m member (card + first) bindings (samples first) (rising bindings) done
      ended
      → ((u : S × T) (y : Commit)
      → TakesAt P G m (lay_frames member card bindings samples count (first + 1)) u y
      → LaysFrames P G m u member card bindings samples count (first + 1) y)
      → TakesAt P G m (go_on (done, ended)
      (lay_frames member card bindings samples count (first + 1))) t x
      → LaysFrames P G s t member card bindings samples (suc count) first x
  frames-by member card bindings samples count first s m t done (Late word) x are frame behind takes =
      subst (λ (u : S × T). LaysFrames P G s u member card bindings samples (suc count) first x) (sym takes.there)
      (subst (λ (y : Commit). LaysFrames P G s m member card bindings samples (suc count) first y) (sym takes.result)
      (frames-ended member card bindings samples count first s m done (Late word) are (λ is. cc) frame))
  frames-by member card bindings samples count first s m t done Stopped x are frame behind takes =
      subst (λ (u : S × T). LaysFrames P G s u member card bindings samples (suc count) first x) (sym takes.there)
      (subst (λ (y : Commit). LaysFrames P G s m member card bindings samples (suc count) first y) (sym takes.result)
      (frames-ended member card bindings samples count first s m done Stopped are (λ is. cc) frame))
  frames-by member card bindings samples count first s m t done Whole x are frame behind takes =
      let parts = Takes-parts (LoadsAt P G) (LaysAt P G) NoGet m t (lay_frames member card bindings samples count (first + 1))
      (λ commit. ends (one_frame_more commit)) x takes in
      let result : x ≡ record { frames = suc parts.1.frames; part = parts.1.part; ended = parts.1.ended } =
      parts.3.result ∙ ap (λ (n : ℕ). let y : Commit = record { frames = n; part = parts.1.part; ended = parts.1.ended } in y) (add-one parts.1.frames) in
      subst (λ (u : S × T). LaysFrames P G s u member card bindings samples (suc count) first x) (sym parts.3.there)
      (subst (λ (y : Commit). LaysFrames P G s parts.0 member card bindings samples (suc count) first y) (sym result)
      (frames-more member card bindings samples count first s m parts.0 done parts.1 are frame (behind parts.0 parts.1 parts.2)))

  pub TakesAt-frames : (member card : ℕ) (bindings : List ℕ) (samples : ℕ → ℕ → ℤ) (count first : ℕ)
      (s t : S × T) (x : Commit) → AreBindings bindings
      → TakesAt P G s (lay_frames member card bindings samples count first) t x
      → LaysFrames P G s t member card bindings samples count first x
  unfolding lay_frames
  TakesAt-frames member card bindings samples zero first s t x are takes =
      subst (λ (u : S × T). LaysFrames P G s u member card bindings samples 0 first x) (sym takes.there)
      (subst (λ (y : Commit). LaysFrames P G s s member card bindings samples 0 first y) (sym takes.result) (record {
        view_is = refl;
        commit_is = (refl, refl);
        laid_them = laid_composes.none s.0;
        loaded_nothing = loaded_composes.none s.0;
        not_before_seen = λ some. absurd (omega (arith, some));
        late = tt;
        stopped = refl;
        free = λ c is. omega (arith, is);
      }))
  TakesAt-frames member card bindings samples (suc count) first s t x are takes =
      let parts = Takes-parts (LoadsAt P G) (LaysAt P G) NoGet s t (lay_frame member (card + first) bindings (samples first))
      (λ end. go_on end (lay_frames member card bindings samples count (first + 1))) x takes in
      frames-by member card bindings samples count first s parts.0 t parts.1.0 parts.1.1 x are
      (TakesAt-frame member (card + first) bindings (samples first) (rising bindings) s parts.0 parts.1.0 parts.1.1 parts.2)
      (λ u y more. TakesAt-frames member card bindings samples count (first + 1) parts.0 u y are more) parts.3

  -- a load, and the commit after it
  pub TakesAt-looks : (at : Position → PlaybackStream) (count : Position → ℕ) (ring : List ℤ)
      (bindings : List ℕ) (s t : S × T) (load : Option Position) (commit : Commit)
      → AreBindings bindings → ((position : Position) → (at position).setup.bindings ≡ bindings)
      → TakesAt P G s (looks at count ring) t (load, commit)
      → LoadsAndCommits P G s t ring at count (length bindings) load commit
  unfolding looks ◌>>=◌
  TakesAt-looks at count ring bindings s t load commit are same (None, m, step, rest) =
      subst (λ (u : S × T). LoadsAndCommits P G s u ring at count (length bindings) load commit) (sym rest.there)
      (subst (λ (r : Option Position × Commit). LoadsAndCommits P G s m ring at count (length bindings) r.0 r.1) (sym rest.result) (record {
        found = record { nothing = refl; commit_is = tt; in_time = tt };
        loaded_them = step.loaded_it;
        laid_them = step.laid_nothing;
        shown = tt;
        stopped = step.stopped;
        near = tt;
        stayed = tt;
      }))
  TakesAt-looks at count ring bindings s t load commit are same (Some position, m, step, rest) =
      let parts = Takes-parts (LoadsAt P G) (LaysAt P G) NoGet m t (commits (at position) ring (count position))
      (λ x. ends (let found : Option Position × Commit = (Some position, x) in found)) (load, commit) rest in
      let c = at position in
      let x = parts.1 in
      let laid = TakesAt-frames c.identity.member c.stretch.card c.setup.bindings (ring_sample c ring) (count position) c.stretch.committed m parts.0 x
      (subst AreBindings (sym (same position)) are) parts.2 in
      subst (λ (u : S × T). LoadsAndCommits P G s u ring at count (length bindings) load commit) (sym parts.3.there)
      (subst (λ (r : Option Position × Commit). LoadsAndCommits P G s parts.0 ring at count (length bindings) r.0 r.1) (sym parts.3.result) (record {
        found = record {
          nothing = tt;
          commit_is = subst (λ (b : List ℕ). IsCommit x.ended x.frames x.part (count position) (length b)) (same position) laid.commit_is;
          in_time = λ some. subst (λ (v : PortView). v.seen ≤ c.stretch.card + c.stretch.committed) step.view_is (laid.not_before_seen some);
        };
        loaded_them = loaded_composes.joined s.0 m.0 parts.0.0 (position ∷ []) [] step.loaded_it laid.loaded_nothing;
        laid_them = laid_composes.joined s.0 m.0 parts.0.0 [] (commit_entries c ring x) step.laid_nothing laid.laid_them;
        shown = laid.late;
        stopped = laid.stopped ∙ ap (stops_after (pass_of_end x.ended)) step.stopped;
        near = (step.newer, step.within, ap (λ (v : PortView). v.seen) laid.view_is ∙ ap (λ (v : PortView). v.seen) step.view_is);
        stayed = λ from. laid.free (least_channel c.setup.bindings) (subst (λ (v : PortView). first_free v.marks.cursor
            (least_channel c.setup.bindings) ≤ c.stretch.card + c.stretch.committed) (sym step.view_is) from);
      }))

  -- and the call by what they found
  pub TakesAt-step : {X : Type 0} (at : Position → PlaybackStream) (count : Position → ℕ) (ring : List ℤ)
      (bindings : List ℕ) (call : Option Position → Commit → Answered X) (s t : S × T)
      (done : Answered X)
      → AreBindings bindings → ((position : Position) → (at position).setup.bindings ≡ bindings)
      → TakesAt P G s (looks at count ring >>= λ found. ends (call found.0 found.1)) t done
      → TakesStep P G s t ring at count (length bindings) call done
  TakesAt-step at count ring bindings call s t done are same takes =
      let parts = Takes-parts (LoadsAt P G) (LaysAt P G) NoGet s t (looks at count ring) (λ found. ends (call found.0 found.1)) done takes in
      record {
        load = parts.1.0;
        commit = parts.1.1;
        looked = subst (λ (u : S × T). LoadsAndCommits P G s u ring at count (length bindings) parts.1.0 parts.1.1) (sym parts.3.there)
            (TakesAt-looks at count ring bindings s parts.0 parts.1.0 parts.1.1 are same parts.2);
        outcome = sym parts.3.result;
      }
