-- The withdrawals of a rewind take their courses, and which adds a port lost by them at the end of the standing ones.
use Rattle.dmix_client.specs.Prelude.{ap, append_assoc, arith, get_or, length, List, map, refl, subst, suc, sym, take, zero, ℕ, [], ◌++◌, ◌+◌, ◌-◌, ◌<◌, ◌∙◌}
use Rattle.dmix_client.specs.Prelude.{◌∷◌, ◌≡◌, ◌≤◌, take-suc, nat_tests, append-nil, map-append, Bool, false, fold, if◌then◌else◌, nat_eq, pos, slice_index}
use Rattle.dmix_client.specs.Prelude.{true, ℤ, ◌+ℤ◌, Cursor, IsFrom, Composes, AreBindings, rising, length-rising, Ended, Whole, Entry, stops_after}
use Rattle.dmix_client.specs.Prelude.{a_withdrawal, an_add, stand_after, total, without_last, IsPast, OnLate, OnWhole, pass_of_end, PortView, LaysAt, LoadsAt}
use Rattle.dmix_client.specs.Prelude.{NoGet, TakesAt, Takes-parts, Takes-then, Commit, nothing, frame_entries, run_entries, frames_used, run_entries-append}
use Rattle.dmix_client.specs.Prelude.{TakesAway, least_channel, back_on, rewind_left, take_each, take_frames, take_on}
use Rattle.std.proofs.lemmas.Int.{ints}
use Rattle.std.proofs.lemmas.List.Sums.{fold-append}
use Rattle.mix_core.specs.HistoryLaws.{total-append}
use Rattle.mix_core.specs.MarkLaws.{without_last-more}
use Rattle.dmix_client.proofs.Frames.{IsFrom-later, marks-joined, not-whole, rising-least}
use Rattle.mix_core.specs.declared.gate.Gate as gates
use Rattle.mix_core.specs.declared.port.MixPort as mixport

-- what the first n channels end in is what all end in
pub record Back {S T : Type 0} (P : mixport.Ghosts S) (G : gates.Ghosts T) (member frame : ℕ) (bindings : List ℕ) (sample_of : ℕ → ℤ) (all : ℕ)
    (start now : S × T) (n : ℕ) : Type 0 where
  pub back : (t : S × T) (left : ℕ) (ended : Ended) → TakesAt P G now (take_each member frame bindings sample_of n) t (left, ended)
      → TakesAt P G start (take_each member frame bindings sample_of all) t (left, ended)

-- what the first n frames end in is what all end in
pub record BackFrames {S T : Type 0} (P : mixport.Ghosts S) (G : gates.Ghosts T) (member card : ℕ) (bindings : List ℕ) (samples : ℕ → ℕ → ℤ)
    (first all : ℕ) (start now : S × T) (n : ℕ) : Type 0 where
  pub back : (t : S × T) (x : Commit) → TakesAt P G now (take_frames member card bindings samples first n) t x
      → TakesAt P G start (take_frames member card bindings samples first all) t x

-- the withdrawal of a place of a frame
abbrev pub withdrawal_of : ℕ → ℕ → List ℕ → (ℕ → ℤ) → ℕ → Entry
withdrawal_of member frame bindings sample_of n =
    a_withdrawal member frame (slice_index bindings (slice_index (rising bindings) n)) (sample_of (slice_index (rising bindings) n))

module _ {S T : Type 0} {P : mixport.Ghosts S} {G : gates.Ghosts T} {member frame : ℕ} {bindings : List ℕ} {sample_of : ℕ → ℤ} {all : ℕ} where
  -- the channel after n was withdrawn, or it wasn't
  pub Back-next : {start now next : S × T} {n m : ℕ} (e : Entry) → m ≡ n + 1 → e ≡ withdrawal_of member frame bindings sample_of n
      → Back P G member frame bindings sample_of all start now m → LaysAt P G now e Whole next → Back P G member frame bindings sample_of all start next n
  unfolding take_each
  Back-next {start} {now} {next} {n} {m} e is is_entry so_far step = record {
    back = λ t left ended takes. so_far.back t left ended (subst (λ (k : ℕ). TakesAt P G now (take_each member frame bindings sample_of k) t (left, ended))
        (sym (let one : m ≡ suc n = omega (arith, is) in one))
        (Whole, next, subst (λ (x : Entry). LaysAt P G now x Whole next) is_entry step, takes));
  }

  pub Back-ended : {start now : S × T} {m : ℕ} (next : S × T) (n : ℕ) (e : Entry) (end : Ended) → m ≡ n + 1
      → e ≡ withdrawal_of member frame bindings sample_of n → (end ≡ Whole → ⊥)
      → Back P G member frame bindings sample_of all start now m → LaysAt P G now e end next
      → TakesAt P G start (take_each member frame bindings sample_of all) next (m, end)
  unfolding take_each
  Back-ended {start} {now} {m} next n e end is is_entry not_so so_far step =
      so_far.back next m end (subst (λ (k : ℕ). TakesAt P G now (take_each member frame bindings sample_of k) next (k, end))
      (sym (let one : m ≡ suc n = omega (arith, is) in one)) (
        end,
        next,
        subst (λ (x : Entry). LaysAt P G now x end next) is_entry step,
        not-whole (λ (x : Ended). TakesAt P G next (take_on x (suc n) (take_each member frame bindings sample_of n)) next (suc n, x)) end not_so
            (λ word. record { there = refl; result = refl }) (record { there = refl; result = refl }),
      ))

  pub Back-all : {start now : S × T} {n : ℕ} → n ≡ 0 → Back P G member frame bindings sample_of all start now n
      → TakesAt P G start (take_each member frame bindings sample_of all) now (0, Whole)
  unfolding take_each
  Back-all {now = now} none so_far = so_far.back now 0 Whole (rw none (record { there = refl; result = refl }))

module _ {S T : Type 0} {P : mixport.Ghosts S} {G : gates.Ghosts T} {member card : ℕ} {bindings : List ℕ} {samples : ℕ → ℕ → ℤ} {first all : ℕ} where
  pub BackFrames-next : {start now next : S × T} {n m : ℕ} (left : ℕ) → m ≡ n + 1 → BackFrames P G member card bindings samples first all start now m
      → TakesAt P G now (take_each member (card + (first + n)) bindings (samples (first + n)) (length bindings)) next (left, Whole)
      → BackFrames P G member card bindings samples first all start next n
  unfolding take_frames
  BackFrames-next {start} {now} {next} {n} {m} left is so_far step = record {
    back = λ t x takes. so_far.back t x (subst (λ (k : ℕ). TakesAt P G now (take_frames member card bindings samples first k) t x)
        (sym (let e : m ≡ suc n = omega (arith, is) in e))
        (Takes-then (LoadsAt P G) (LaysAt P G) NoGet now next t (take_each member (card + (first + n)) bindings (samples (first + n)) (length bindings))
        (λ end. back_on end n (length bindings) (take_frames member card bindings samples first n)) (left, Whole) x step takes));
  }

  pub BackFrames-ended : {start now : S × T} {m : ℕ} (next : S × T) (n left : ℕ) (end : Ended) → m ≡ n + 1 → (end ≡ Whole → ⊥)
      → BackFrames P G member card bindings samples first all start now m
      → TakesAt P G now (take_each member (card + (first + n)) bindings (samples (first + n)) (length bindings)) next (left, end)
      → TakesAt P G start (take_frames member card bindings samples first all) next (rewind_left n left (length bindings) end)
  unfolding take_frames
  BackFrames-ended {start} {now} {m} next n left end is not_so so_far step =
      let rest = take_frames member card bindings samples first n in
      so_far.back next (rewind_left n left (length bindings) end) (subst (λ (k : ℕ). TakesAt P G now (take_frames member card bindings samples first k) next
      (rewind_left n left (length bindings) end)) (sym (let e : m ≡ suc n = omega (arith, is) in e))
      (Takes-then (LoadsAt P G) (LaysAt P G) NoGet now next next (take_each member (card + (first + n)) bindings (samples (first + n)) (length bindings))
      (λ e. back_on e n (length bindings) rest) (left, end) (rewind_left n left (length bindings) end) step
      (not-whole (λ (x : Ended). TakesAt P G next (back_on (left, x) n (length bindings) rest) next (rewind_left n left (length bindings) x)) end not_so
      (λ word. record { there = refl; result = refl }) (record { there = refl; result = refl }))))

  pub BackFrames-all : {start now : S × T} {n : ℕ} → n ≡ 0 → BackFrames P G member card bindings samples first all start now n
      → TakesAt P G start (take_frames member card bindings samples first all) now nothing
  unfolding take_frames
  BackFrames-all {now = now} none so_far = so_far.back now nothing (rw none (record { there = refl; result = refl }))

-- ---- what the withdrawals of a rewind did at a port: which adds it lost at the end of the standing ones, and where its cursor is

-- the laws by which a port's standing adds follow from what it placed
pub record HoldsBy {S : Type 0} (P : mixport.Ghosts S) : Type 0 where
  pub laid_composes : Composes P.laid
  pub loaded_composes : Composes P.loaded
  pub part : (p : S) (xs ys : List Entry) → P.ends_in p (xs ++ ys) → P.ends_in p ys
  pub nothing : (p q : S) (xs : List Entry) → P.laid p q [] → P.ends_in p xs → P.ends_in q xs
  pub back : (p q : S) (xs : List Entry) (f c : ℕ) (s : ℤ) → IsFrom (P.view p).marks.floor f c
      → P.laid p q (a_withdrawal (P.view p).member f c s ∷ []) → P.ends_in p (xs ++ an_add (P.view p).member f c s ∷ []) → P.ends_in q xs

-- a frame's first n + 1 entries, and a run's first n + 1 frames
pub frame_entries-last : (member : ℕ) (bindings : List ℕ) (s : ℕ → ℤ) (n frame : ℕ) → AreBindings bindings → n < length bindings
    → frame_entries member bindings s (suc n) frame ≡ frame_entries member bindings s n frame ++ an_add member frame
    (slice_index bindings (slice_index (rising bindings) n)) (s (slice_index (rising bindings) n)) ∷ []
frame_entries-last member bindings s n frame are low =
    let entry : ℕ → Entry = λ q. an_add member frame (slice_index bindings q) (s q) in
    ap (map entry) (take-suc (rising bindings) n 0 (omega (arith, length-rising bindings are, low)))
    ∙ map-append entry (take n (rising bindings)) (get_or (rising bindings) n 0 ∷ [])

-- standing adds that end in a frame's first n + 1 entries end in n of them and the last one
pub stands-last : {S : Type 0} (ends_in : S → List Entry → Type 0) (p : S) (member frame : ℕ) (bindings : List ℕ) (s : ℕ → ℤ) (n m : ℕ) (e : Entry)
    → AreBindings bindings → m ≡ n + 1 → m ≤ length bindings
    → e ≡ an_add member frame (slice_index bindings (slice_index (rising bindings) n)) (s (slice_index (rising bindings) n))
    → ends_in p (frame_entries member bindings s m frame) → ends_in p (frame_entries member bindings s n frame ++ e ∷ [])
stands-last ends_in p member frame bindings s n m e are is few is_entry ends =
    subst (ends_in p) (ap (λ (k : ℕ). frame_entries member bindings s k frame) (let one : m ≡ suc n = omega (arith, is) in one) ∙ frame_entries-last member
    bindings s n frame are (omega (arith, is, few)) ∙ ap (λ (x : Entry). frame_entries member bindings s n frame ++ x ∷ []) (sym is_entry)) ends

pub run_entries-last : (member : ℕ) (bindings : List ℕ) (s : ℕ → ℕ → ℤ) (card first n : ℕ)
    → run_entries member bindings s card first (n + 1) 0 ≡ run_entries member bindings s card first n 0 ++ frame_entries member bindings (s (first + n))
    (length bindings) (card + (first + n))
run_entries-last member bindings s card first n =
    run_entries-append member bindings s card first n 1 0
    ∙ ap (λ (es : List Entry). run_entries member bindings s card first n 0 ++ es)
    (append-nil (frame_entries member bindings (s (first + n)) (length bindings) (card + (first + n)) ++ []) ∙ append-nil
    (frame_entries member bindings (s (first + n)) (length bindings) (card + (first + n))))

-- standing adds that end in n + 1 frames of a run end in n of them and the last one
pub stands-run : {S : Type 0} (ends_in : S → List Entry → Type 0) (p : S) (member : ℕ) (bindings : List ℕ) (s : ℕ → ℕ → ℤ) (card first n m : ℕ) → m ≡ n + 1
    → ends_in p (run_entries member bindings s card first m 0)
    → ends_in p (run_entries member bindings s card first n 0 ++ frame_entries member bindings (s (first + n)) (length bindings) (card + (first + n)))
stands-run ends_in p member bindings s card first n m is ends =
    subst (ends_in p) (ap (λ (k : ℕ). run_entries member bindings s card first k 0) is ∙ run_entries-last member bindings s card first n) ends

-- how many channels of n are left, by how it ended, and what is left of some frames
abbrev pub IsLeft : Ended → ℕ → ℕ → Type 0
IsLeft Whole left n = left ≡ 0
IsLeft other left n = (0 < left) × (left ≤ n)

abbrev pub AreLeft : Ended → ℕ → ℕ → ℕ → ℕ → Type 0
AreLeft Whole frames part count channels = (frames ≡ 0) × (part ≡ 0)
AreLeft other frames part count channels = (0 < frames + part) × (frames_used frames part ≤ count) × (part < channels)

left-more : (e : Ended) (left n : ℕ) → IsLeft e left n → IsLeft e left (suc n)
left-more Whole left n is = is
left-more other left n is = (is.0, omega (arith, is.1))

more-left : (e : Ended) (frames part count channels : ℕ) → AreLeft e frames part count channels → AreLeft e frames part (suc count) channels
more-left Whole frames part count channels are = are
more-left other frames part count channels are = (are.0, omega (arith, are.1), are.2)

used-some : (n part : ℕ) → frames_used n part ≤ suc n
used-some n part = grind (arith, nat_tests)

-- the frame and the place of the last sample that is left
abbrev pub last_frame : ℕ → ℕ → ℕ
last_frame frames part = if nat_eq part 0 then frames - 1 else frames

abbrev pub last_place : ℕ → ℕ → ℕ
last_place part channels = (if nat_eq part 0 then channels else part) - 1

-- an add and its withdrawal give nothing to a sum
total-back : (member f c : ℕ) (s : ℤ) (g k : ℕ) → total (an_add member f c s ∷ []) g k +ℤ total (a_withdrawal member f c s ∷ []) g k ≡ pos 0
total-back member f c s g k = grind (arith, nat_tests)

module _ {S T : Type 0} (P : mixport.Ghosts S) (G : gates.Ghosts T) (holds : HoldsBy P) where
  pub TakesAway-none : (p q : S) (es : List Entry) → P.laid p q [] → TakesAway P.laid P.ends_in p q es es
  TakesAway-none p q es laid = grind (arith, nat_tests)

  pub TakesAway-joined : (p q r : S) (a b c : List Entry) → TakesAway P.laid P.ends_in p q a b → TakesAway P.laid P.ends_in q r b c
      → TakesAway P.laid P.ends_in p r a c
  TakesAway-joined p q r a b c one two = record {
    entries = one.entries ++ two.entries;
    laid_them = holds.laid_composes.joined p q r one.entries two.entries one.laid_them two.laid_them;
    lost = λ xs. fold-append stand_after (xs ++ a) one.entries two.entries ∙ ap (λ (es : List Entry). fold stand_after es two.entries)
        (one.lost xs) ∙ two.lost xs;
    held = λ xs ends. two.held xs (one.held xs ends);
    totals = λ f k. omega (arith, ints, total-append one.entries two.entries f k, one.totals f k, two.totals f k);
  }

  pub TakesAway-behind : (p q : S) (ys a b : List Entry) → TakesAway P.laid P.ends_in p q a b → TakesAway P.laid P.ends_in p q (ys ++ a) (ys ++ b)
  TakesAway-behind p q ys a b one = record {
    entries = one.entries;
    laid_them = one.laid_them;
    lost = λ xs. ap (λ (es : List Entry). fold stand_after es one.entries) (sym (append_assoc xs ys a)) ∙ one.lost (xs ++ ys) ∙ append_assoc xs ys b;
    held = λ xs ends. subst (P.ends_in q) (append_assoc xs ys b) (one.held (xs ++ ys) (subst (P.ends_in p) (sym (append_assoc xs ys a)) ends));
    totals = λ f k. omega (arith, ints, total-append ys a f k, total-append ys b f k, one.totals f k);
  }

  TakesAway-last : (p q : S) (member : ℕ) (es : List Entry) (f c : ℕ) (s : ℤ) → (P.view p).member ≡ member → IsFrom (P.view p).marks.floor f c
      → P.laid p q (a_withdrawal member f c s ∷ [])
      → TakesAway P.laid P.ends_in p q (es ++ an_add member f c s ∷ []) es
  TakesAway-last p q member es f c s own floor laid = record {
    entries = a_withdrawal member f c s ∷ [];
    laid_them = laid;
    lost = λ xs. ap without_last (sym (append_assoc xs es (an_add member f c s ∷ []))) ∙ without_last-more (xs ++ es) (an_add member f c s);
    held = λ xs ends. holds.back p q (xs ++ es) f c s floor (subst (λ (m : ℕ). P.laid p q (a_withdrawal m f c s ∷ [])) (sym own) laid)
        (subst (λ (m : ℕ). P.ends_in p (xs ++ es ++ an_add m f c s ∷ [])) (sym own) (subst (P.ends_in p)
        (sym (append_assoc xs es (an_add member f c s ∷ []))) ends));
    totals = λ g k. omega (arith, ints, total-append es (an_add member f c s ∷ []) g k, total-back member f c s g k);
  }

  -- what the withdrawals of some channels of a frame ended in
  pub record TookFrame (s t : S × T) (member frame : ℕ) (bindings : List ℕ) (sample_of : ℕ → ℤ) (n left : ℕ) (ended : Ended) : Type 0 where
    pub view_is : P.view t.0 ≡ record (P.view s.0) { marks = (P.view t.0).marks }
    pub same_floor : (P.view t.0).marks.floor ≡ (P.view s.0).marks.floor
    pub is_left : IsLeft ended left n
    pub away : TakesAway P.laid P.ends_in s.0 t.0 (frame_entries member bindings sample_of n frame) (frame_entries member bindings sample_of left frame)
    pub loaded_nothing : P.loaded s.0 t.0 []
    pub cursor : OnWhole ended (0 < n → (P.view t.0).marks.cursor ≡ record { frame = frame; channel = least_channel bindings })
    pub late : OnLate ended (λ word. IsPast P.view P.shows t.0 frame (slice_index bindings (slice_index (rising bindings) (left - 1))) word)
    pub stopped : G.stops t.1 ≡ stops_after (pass_of_end ended) (G.stops s.1)

  -- a withdrawal leaves the cursor where it was made, so the last one leaves it at the least channel
  cursor-by : (member frame : ℕ) (bindings : List ℕ) (sample_of : ℕ → ℤ) (n : ℕ) (m t : S × T) (left : ℕ) (ended : Ended)
      → (P.view m.0).marks.cursor ≡ record { frame = frame; channel = slice_index bindings (slice_index (rising bindings) n) }
      → TakesAt P G m (take_each member frame bindings sample_of n) t (left, ended)
      → OnWhole ended (0 < n → (P.view t.0).marks.cursor ≡ record { frame = frame; channel = least_channel bindings })
      → OnWhole ended (0 < suc n → (P.view t.0).marks.cursor ≡ record { frame = frame; channel = least_channel bindings })
  unfolding take_each
  cursor-by member frame bindings sample_of n m t left ended here takes later = grind (arith, nat_tests)

  pub TakesAt-took : (member frame : ℕ) (bindings : List ℕ) (sample_of : ℕ → ℤ) (n : ℕ) (s t : S × T) (left : ℕ) (ended : Ended)
      → AreBindings bindings → n ≤ length bindings
      → (P.view s.0).member ≡ member → IsFrom (P.view s.0).marks.floor frame (least_channel bindings)
      → TakesAt P G s (take_each member frame bindings sample_of n) t (left, ended) → TookFrame s t member frame bindings sample_of n left ended
  unfolding take_each
  TakesAt-took member frame bindings sample_of zero s t left ended are few own floor takes =
      subst (λ (u : S × T). TookFrame s u member frame bindings sample_of 0 left ended) (sym takes.there)
      (subst (λ (r : ℕ × Ended). TookFrame s s member frame bindings sample_of 0 r.0 r.1) (sym takes.result) (record {
        view_is = refl;
        same_floor = refl;
        is_left = refl;
        away = TakesAway-none s.0 s.0 (frame_entries member bindings sample_of 0 frame) (holds.laid_composes.none s.0);
        loaded_nothing = holds.loaded_composes.none s.0;
        cursor = λ some. absurd (omega (arith, some));
        late = tt;
        stopped = refl;
      }))
  TakesAt-took member frame bindings sample_of (suc n) s t left ended are few own floor (Whole, m, step, rest) =
      let q : ℕ = slice_index (rising bindings) n in
      let same_floor : (P.view m.0).marks.floor ≡ (P.view s.0).marks.floor = ap (λ (v : PortView). v.marks.floor) step.view_is in
      let later = TakesAt-took member frame bindings sample_of n m t left ended are (omega (arith, few)) (ap (λ (v : PortView). v.member) step.view_is ∙ own)
      (subst (λ (c : Cursor). IsFrom c frame (least_channel bindings)) (sym same_floor) floor) rest in
      let here : IsFrom (P.view s.0).marks.floor frame (slice_index bindings q) = IsFrom-later (P.view s.0).marks.floor frame _ _
      (rising-least bindings n are (omega (arith, few))) floor in
      record {
        view_is = marks-joined (P.view s.0) (P.view m.0) (P.view t.0) _ (step.view_is ∙ ap (λ (v : PortView). record (P.view s.0) { marks = v.marks })
            (sym step.view_is)) later.view_is;
        same_floor = later.same_floor ∙ same_floor;
        is_left = left-more ended left n later.is_left;
        away = subst (λ (es : List Entry). TakesAway P.laid P.ends_in s.0 t.0 es (frame_entries member bindings sample_of left frame))
            (sym (frame_entries-last member bindings sample_of n frame are (omega (arith, few))))
            (TakesAway-joined s.0 m.0 t.0 _ _ _ (TakesAway-last s.0 m.0 member (frame_entries member bindings sample_of n frame) frame (slice_index bindings q)
            (sample_of q) own here step.laid_it) later.away);
        loaded_nothing = holds.loaded_composes.joined s.0 m.0 t.0 [] [] step.loaded_nothing later.loaded_nothing;
        cursor = cursor-by member frame bindings sample_of n m t left ended (ap (λ (v : PortView). v.marks.cursor) step.view_is) rest later.cursor;
        late = later.late;
        stopped = later.stopped ∙ ap (stops_after (pass_of_end ended)) step.stopped;
      }
  TakesAt-took member frame bindings sample_of (suc n) s t left ended are few own floor (other, m, step, rest) =
      subst (λ (u : S × T). TookFrame s u member frame bindings sample_of (suc n) left ended) (sym rest.there)
      (subst (λ (r : ℕ × Ended). TookFrame s m member frame bindings sample_of (suc n) r.0 r.1) (sym rest.result) (record {
        view_is = step.view_is ∙ ap (λ (v : PortView). record (P.view s.0) { marks = v.marks }) (sym step.view_is);
        same_floor = ap (λ (v : PortView). v.marks.floor) step.view_is;
        is_left = (omega arith, omega arith);
        away = TakesAway-none s.0 m.0 (frame_entries member bindings sample_of (suc n) frame) step.laid_it;
        loaded_nothing = step.loaded_nothing;
        cursor = tt;
        late = subst (λ (k : ℕ). OnLate other (λ word. IsPast P.view P.shows m.0 frame (slice_index bindings (slice_index (rising bindings) k)) word))
            (let e : n ≡ suc n - 1 = omega arith in e) step.shown;
        stopped = step.stopped;
      }))

  -- what the withdrawals of some frames ended in
  pub record TookFrames (s t : S × T) (member card : ℕ) (bindings : List ℕ) (samples : ℕ → ℕ → ℤ) (first count : ℕ) (x : Commit) : Type 0 where
    pub view_is : P.view t.0 ≡ record (P.view s.0) { marks = (P.view t.0).marks }
    pub same_floor : (P.view t.0).marks.floor ≡ (P.view s.0).marks.floor
    pub are_left : AreLeft x.ended x.frames x.part count (length bindings)
    pub still : count ≡ 0 → P.view t.0 ≡ P.view s.0
    pub away : TakesAway P.laid P.ends_in s.0 t.0 (run_entries member bindings samples card first count 0)
        (run_entries member bindings samples card first x.frames x.part)
    pub loaded_nothing : P.loaded s.0 t.0 []
    pub cursor : OnWhole x.ended (0 < count → (P.view t.0).marks.cursor ≡ record { frame = card + first; channel = least_channel bindings })
    pub late : OnLate x.ended (λ word. IsPast P.view P.shows t.0 (card + (first + last_frame x.frames x.part))
        (slice_index bindings (slice_index (rising bindings) (last_place x.part (length bindings)))) word)
    pub stopped : G.stops t.1 ≡ stops_after (pass_of_end x.ended) (G.stops s.1)

  module _ (member card : ℕ) (bindings : List ℕ) (samples : ℕ → ℕ → ℤ) (first : ℕ) where
    -- the first k entries of frame n, and those of the n frames before it and k more
    abbrev frame_of : ℕ → ℕ → List Entry
    frame_of n k = frame_entries member bindings (samples (first + n)) k (card + (first + n))

    abbrev run_of : ℕ → ℕ → List Entry
    run_of n k = run_entries member bindings samples card first n k

    abbrev Away : S × T → S × T → List Entry → List Entry → Type 0
    Away s t es left = TakesAway P.laid P.ends_in s.0 t.0 es left

    -- one frame more is withdrawn, but for what is left of it
    away-more : (s t : S × T) (n : ℕ) (left : List Entry) → Away s t (frame_of n (length bindings)) left → Away s t (run_of (suc n) 0) (run_of n 0 ++ left)
    away-more s t n left away =
        subst (λ (es : List Entry). Away s t es (run_of n 0 ++ left))
        (sym (ap (λ (k : ℕ). run_of k 0) (let e : suc n ≡ n + 1 = omega arith in e) ∙ run_entries-last member bindings samples card first n))
        (TakesAway-behind s.0 t.0 (run_of n 0) _ _ away)

    -- the first of the frames is withdrawn last
    cursor-back : (n : ℕ) (m t : S × T) (x : Commit)
        → (P.view m.0).marks.cursor ≡ record { frame = card + (first + n); channel = least_channel bindings }
        → TakesAt P G m (take_frames member card bindings samples first n) t x
        → OnWhole x.ended (0 < n → (P.view t.0).marks.cursor ≡ record { frame = card + first; channel = least_channel bindings })
        → OnWhole x.ended (0 < suc n → (P.view t.0).marks.cursor ≡ record { frame = card + first; channel = least_channel bindings })
    unfolding take_frames
    cursor-back n m t x here takes later = grind (arith, nat_tests)

    -- one frame more, of which something is left
    frames-by : {left : ℕ} (n : ℕ) (s t : S × T) (x : Commit) → (x.ended ≡ Whole → ⊥)
        → TookFrame s t member (card + (first + n)) bindings (samples (first + n)) (length bindings) left x.ended
        → (0 < x.frames + x.part) × (frames_used x.frames x.part ≤ suc n) × (x.part < length bindings)
        → Away s t (run_of (suc n) 0) (run_of x.frames x.part)
        → OnLate x.ended (λ word. IsPast P.view P.shows t.0 (card + (first + last_frame x.frames x.part))
        (slice_index bindings (slice_index (rising bindings) (last_place x.part (length bindings)))) word)
        → TookFrames s t member card bindings samples first (suc n) x
    frames-by n s t x not_so one are away late = grind (arith, nat_tests)

    -- it is the whole frame, or a part of it
    frames-left : (n left : ℕ) (ended : Ended) (s t : S × T) (all : Bool) → nat_eq left (length bindings) ≡ all → 0 < left → left ≤ length bindings
        → (ended ≡ Whole → ⊥) → TookFrame s t member (card + (first + n)) bindings (samples (first + n)) (length bindings) left ended
        → TookFrames s t member card bindings samples first (suc n)
        (if all then record { frames = n + 1; part = 0; ended = ended } else record { frames = n; part = left; ended = ended })
    frames-left n left ended s t true is some few not_so one =
        let whole : left ≡ length bindings = grind (arith, nat_tests) in
        let are : (0 < n + 1 + 0) × (frames_used (n + 1) 0 ≤ suc n) × (0 < length bindings) = (omega arith, omega arith, omega (arith, some, few)) in
        frames-by n s t (record { frames = n + 1; part = 0; ended = ended }) not_so one are
        (subst (λ (es : List Entry). Away s t (run_of (suc n) 0) es) (sym (run_entries-last member bindings samples card first n))
        (away-more s t n _ (subst (λ (k : ℕ). Away s t (frame_of n (length bindings)) (frame_of n k)) whole one.away)))
        (subst (λ (k : ℕ). OnLate ended (λ word. IsPast P.view P.shows t.0 (card + k)
        (slice_index bindings (slice_index (rising bindings) (length bindings - 1))) word)) (let e : first + n ≡ first + (n + 1 - 1) = omega arith in e)
        (subst (λ (k : ℕ). OnLate ended (λ word. IsPast P.view P.shows t.0 (card + (first + n))
        (slice_index bindings (slice_index (rising bindings) (k - 1))) word)) whole one.late))
    frames-left n left ended s t false is some few not_so one =
        let part : left < length bindings = grind (arith, nat_tests) in
        let not_none : nat_eq left 0 ≡ false = grind (arith, nat_tests) in
        let are : (0 < n + left) × (frames_used n left ≤ suc n) × (left < length bindings) = (omega (arith, some), used-some n left, part) in
        frames-by n s t (record { frames = n; part = left; ended = ended }) not_so one are
        (subst (λ (es : List Entry). Away s t (run_of (suc n) 0) es) (ap (λ (es : List Entry). es ++ frame_of n left) (append-nil _))
        (away-more s t n _ one.away))
        (subst (λ (b : Bool). OnLate ended (λ word. IsPast P.view P.shows t.0 (card + (first + (if b then n - 1 else n)))
        (slice_index bindings (slice_index (rising bindings) ((if b then length bindings else left) - 1))) word)) (sym not_none) one.late)

    -- the last frame, and what those before it ended in
    back-by : (n left : ℕ) (ended : Ended) (s m t : S × T) (x : Commit) → AreBindings bindings
        → TookFrame s m member (card + (first + n)) bindings (samples (first + n)) (length bindings) left ended
        → ((u : S × T) (y : Commit) → TakesAt P G m (take_frames member card bindings samples first n) u y
        → TookFrames m u member card bindings samples first n y)
        → TakesAt P G m (back_on (left, ended) n (length bindings) (take_frames member card bindings samples first n)) t x
        → TookFrames s t member card bindings samples first (suc n) x
    back-by n left Whole s m t x are one behind takes =
        let later = behind t x takes in
        let gone : Away s m (run_of (suc n) 0) (run_of n 0) =
        subst (λ (es : List Entry). Away s m (run_of (suc n) 0) es) (append-nil (run_of n 0))
        (away-more s m n _ (subst (λ (k : ℕ). Away s m (frame_of n (length bindings)) (frame_of n k)) one.is_left one.away)) in
        record {
          view_is = later.view_is ∙ ap (λ (v : PortView). record v { marks = (P.view t.0).marks }) one.view_is;
          same_floor = later.same_floor ∙ one.same_floor;
          still = λ none. absurd (omega (arith, none));
          are_left = more-left x.ended x.frames x.part n (length bindings) later.are_left;
          away = TakesAway-joined s.0 m.0 t.0 _ _ _ gone later.away;
          loaded_nothing = holds.loaded_composes.joined s.0 m.0 t.0 [] [] one.loaded_nothing later.loaded_nothing;
          cursor = cursor-back n m t x (one.cursor are.some) takes later.cursor;
          late = later.late;
          stopped = later.stopped ∙ ap (stops_after (pass_of_end x.ended)) one.stopped;
        }
    back-by n left other s m t x are one behind takes =
        rw (takes.there, takes.result) (frames-left n left other s m (nat_eq left (length bindings)) refl one.is_left.0 one.is_left.1 (λ is. cc) one)

    pub TakesAt-back : (count : ℕ) (s t : S × T) (x : Commit) → AreBindings bindings
        → (P.view s.0).member ≡ member → (0 < count → IsFrom (P.view s.0).marks.floor (card + first) (least_channel bindings))
        → TakesAt P G s (take_frames member card bindings samples first count) t x → TookFrames s t member card bindings samples first count x
    unfolding take_frames
    TakesAt-back zero s t x are own floor takes =
        subst (λ (u : S × T). TookFrames s u member card bindings samples first 0 x) (sym takes.there)
        (subst (λ (y : Commit). TookFrames s s member card bindings samples first 0 y) (sym takes.result) (record {
          view_is = refl;
          same_floor = refl;
          are_left = (refl, refl);
          still = λ none. refl;
          away = TakesAway-none s.0 s.0 (run_of 0 0) (holds.laid_composes.none s.0);
          loaded_nothing = holds.loaded_composes.none s.0;
          cursor = λ some. absurd (omega (arith, some));
          late = tt;
          stopped = refl;
        }))
    TakesAt-back (suc n) s t x are own floor takes =
        let parts = Takes-parts (LoadsAt P G) (LaysAt P G) NoGet s t (take_each member (card + (first + n)) bindings (samples (first + n)) (length bindings))
        (λ end. back_on end n (length bindings) (take_frames member card bindings samples first n)) x takes in
        let here : IsFrom (P.view s.0).marks.floor (card + (first + n)) (least_channel bindings) = omega (arith, floor (omega arith)) in
        let one = TakesAt-took member (card + (first + n)) bindings (samples (first + n)) (length bindings) s parts.0 parts.1.0 parts.1.1 are
        (omega arith) own here parts.2 in
        back-by n parts.1.0 parts.1.1 s parts.0 t x are one
        (λ u y rest. TakesAt-back n parts.0 u y are (ap (λ (v : PortView). v.member) one.view_is ∙ own)
        (λ some. subst (λ (c : Cursor). IsFrom c (card + first) (least_channel bindings)) (sym one.same_floor) (floor (omega arith))) rest) parts.3
