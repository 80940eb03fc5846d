-- What the steps of a course may change: no sample below a position p, where each position that it loads is at p or past it.
--     From, Keeps      a course's results have a fact, as far as its steps keep to p; of Keeps it loads nothing
--     CommitEnd, RewindEnd      what a commit placed, and a rewind left, of so many frames by clients of so many channels: nothing is changed below p
use Rattle.run_laws.specs.Prelude.{ap, arith, inl, inr, length, List, None, Option, refl, Some, subst, sym, ℕ, [], ◌+◌, ◌<◌, ◌∙◌, ◌∷◌, ◌≡◌, ◌≤◌, ◌⊎◌, nat_tests}
use Rattle.run_laws.specs.Prelude.{Bool, Contains, false, suc, true, zero, ℤ, ⊤, rising, Marks, Ended, Position, Got, Course, ends, gets, lays, loads, ◌>>=◌}
use Rattle.run_laws.specs.Prelude.{Gives, Commit, PlaybackStream, Answered, commits, go_on, lay_each, lay_frame, lay_frames, looks, nothing, one_frame_more}
use Rattle.run_laws.specs.Prelude.{one_more, back_on, rewind_left, take_each, take_frames, ring_sample, Sound, Op, Answer, after_call, begins, call_of, Client}
use Rattle.run_laws.specs.Prelude.{client_kind, line_by, line_if, LineMay, AtPort, May, MayLay, Rules, IsSaying}
use Rattle.run_laws.proofs.Onward.{Channels, begun, begun-most, channels-rise}
use Rattle.run_laws.proofs.RunGoesOn.{get-seen, lay-seen, stop-seen}
use Rattle.run_laws.proofs.Withdrawn.{ByEnd}
use Rattle.mix_core.specs.declared.port.Ended.TheVariants as ended
use Rattle.snoop_core.specs.declared.port.Got.TheVariants as got
use Rattle.lab_lines.specs.declared.line.Op.TheVariants as op

-- ---- courses

-- Whatever the steps of a course give, its results have a fact: where each load gives a position at p or past it, and nothing is placed or taken back
-- below s, which is p from the first load on. The fact may speak of the s at the end.
abbrev pub From : {X : Type 0} → ℕ → (ℕ → X → Type 0) → ℕ → Course X → Type 0
From p Q s (ends x) = Q s x
From p Q s (loads next) = From p Q s (next None) × ((position : Position) → p ≤ position.frame → From p Q p (next (Some position)))
From p Q s (lays e next) = (s ≤ e.frame → From p Q s (next ended.Whole)) × ((word : ℕ) → From p Q s (next (ended.Late word))) × From p Q s (next ended.Stopped)
From p Q s (gets frame next) = (got : Got) → From p Q s (next got)

pub From-then : {X Y : Type 0} (p : ℕ) (R : ℕ → X → Type 0) (Q : ℕ → Y → Type 0) (s : ℕ) (c : Course X) (f : X → Course Y)
    → From p R s c → ((t : ℕ) (x : X) → R t x → From p Q t (f x)) → From p Q s (c >>= f)
unfolding ◌>>=◌
From-then p R Q s (ends x) f from each = each s x from
From-then p R Q s (loads next) f from each =
    (From-then p R Q s (next None) f from.0 each, λ position least. From-then p R Q p (next (Some position)) f (from.1 position least) each)
From-then p R Q s (lays e next) f from each = (
  λ past. From-then p R Q s (next ended.Whole) f (from.0 past) each,
  λ word. From-then p R Q s (next (ended.Late word)) f (from.1 word) each,
  From-then p R Q s (next ended.Stopped) f from.2 each,
)
From-then p R Q s (gets frame next) f from each = λ got. From-then p R Q s (next got) f (from got) each

pub From-map : {X : Type 0} (p : ℕ) (R Q : ℕ → X → Type 0) (s : ℕ) (c : Course X) → From p R s c → ((t : ℕ) (x : X) → R t x → Q t x) → From p Q s c
From-map p R Q s (ends x) from each = each s x from
From-map p R Q s (loads next) from each =
    (From-map p R Q s (next None) from.0 each, λ position least. From-map p R Q p (next (Some position)) (from.1 position least) each)
From-map p R Q s (lays e next) from each = (
  λ past. From-map p R Q s (next ended.Whole) (from.0 past) each,
  λ word. From-map p R Q s (next (ended.Late word)) (from.1 word) each,
  From-map p R Q s (next ended.Stopped) from.2 each,
)
From-map p R Q s (gets frame next) from each = λ got. From-map p R Q s (next got) (from got) each

-- how such a fact is said of a course
abbrev pub FromSo : ℕ → (X : Type 0) → (ℕ → X → Type 0) → ℕ → Course X → Type 0
FromSo p X Q s course = From p Q s course

pub from-so : (p : ℕ) → IsSaying (FromSo p)
from-so p = record {
  at_end = λ X Q s x is. is;
  after = λ X Y R Q s course f from next. From-then p R Q s course f from next;
  implied = λ X R Q s course from less. From-map p R Q s course from less;
}

-- of a course without a load, which so ends as it began
abbrev pub Keeps : {X : Type 0} → ℕ → ℕ → (X → Type 0) → Course X → Type 0
Keeps p s Q course = From p (λ t x. (t ≡ s) × Q x) s course

pub Keeps-then : {X Y : Type 0} (p s : ℕ) (R : X → Type 0) (Q : Y → Type 0) (c : Course X) (f : X → Course Y) → Keeps p s R c → ((x : X) → R x → Keeps p s Q (f x))
    → Keeps p s Q (c >>= f)
Keeps-then p s R Q c f keeps each = From-then p (λ t x. (t ≡ s) × R x) (λ t y. (t ≡ s) × Q y) s c f keeps
    (λ t x is. subst (λ n. From p (λ t y. (t ≡ s) × Q y) n (f x)) (sym is.0) (each x is.1))

pub Keeps-map : {X : Type 0} (p s : ℕ) (R Q : X → Type 0) (c : Course X) → Keeps p s R c → ((x : X) → R x → Q x) → Keeps p s Q c
Keeps-map p s R Q c keeps each = From-map p (λ t x. (t ≡ s) × R x) (λ t x. (t ≡ s) × Q x) s c keeps (λ t x is. (is.0, each x is.1))

-- a fact of each result, where no position is too early
pub From-gives : {X : Type 0} (R : ℕ → X → Type 0) (Q : X → Type 0) (c : Course X) → From 0 R 0 c → ((t : ℕ) (x : X) → R t x → Q x) → Gives Q c
From-gives R Q (ends x) from each = each 0 x from
From-gives R Q (loads next) from each =
    λ load. elim load as (λ k. Gives Q (next k)) [ None ↦ From-gives R Q (next None) from.0 each | Some position ↦ From-gives R Q (next (Some position)) (from.1 position (omega arith)) each ]
From-gives R Q (lays e next) from each = λ how. elim how as (λ k. Gives Q (next k)) [
  | ended.Whole ↦ From-gives R Q (next ended.Whole) (from.0 (omega arith)) each
  | ended.Late word ↦ From-gives R Q (next (ended.Late word)) (from.1 word) each
  | ended.Stopped ↦ From-gives R Q (next ended.Stopped) from.2 each
]
From-gives R Q (gets frame next) from each = λ got. From-gives R Q (next got) (from got) each

-- ---- a course that is taken

module _ (rules : Rules) (p : ℕ) (least : (q : ℕ) → Contains rules.published q → p ≤ q) where
  pub Takes-from : {X : Type 0} (Q : X → Type 0) (s : ℕ) (a b : AtPort) (course : Course X) (x : X) → From p (λ t y. Q y) s course → s ≤ a.seen
      → May rules a course b x → Q x
  Takes-from Q s a b (ends z) x from seen takes = rw takes.result from
  Takes-from Q s a b (loads next) x from seen (None, m, step, rest) =
      Takes-from Q s m b (next None) x from.0 (subst (λ n. s ≤ n) (sym (ap (λ (k : AtPort). k.seen) step ∙ stop-seen a)) seen) rest
  Takes-from Q s a b (loads next) x from seen (Some position, m, step, rest) =
      Takes-from Q p m b (next (Some position)) x (from.1 position (least position.frame step.1))
      (subst (λ n. p ≤ n) (sym (ap (λ (k : AtPort). k.seen) step.4)) (least position.frame step.1)) rest
  Takes-from Q s a b (lays e next) x from seen (how, m, step, rest) =
      Takes-from Q s m b (next how) x (by_how how from step) (rw (lay-seen rules a m e how step) seen) rest
    where
      by_how : (how : Ended) → From p (λ t y. Q y) s (lays e next) → MayLay rules a e how m → From p (λ t y. Q y) s (next how)
      by_how how from step = grind (arith, nat_tests)
  Takes-from Q s a b (gets frame next) x from seen (how, m, step, rest) = Takes-from Q s m b (next how) x (from how) (rw (get-seen rules a m frame how step) seen) rest

-- ---- a commit

-- what a commit placed, or a rewind left, of so many frames: no more of them, where a frame that is begun counts as one; and of that frame none where all
-- was done, and else less than all channels
pub record IsCommitOf (count channels : ℕ) (commit : Commit) : Type 0 where
  pub few : commit.frames + begun commit.part ≤ count
  pub ends : ByEnd commit.ended (commit.part ≡ 0) (commit.part < channels)

-- of no frames
pub nothing-of : (count channels : ℕ) → IsCommitOf count channels (record { frames = 0; part = 0; ended = ended.Whole })
nothing-of count channels = record { few = omega arith; ends = refl }

pub part-below : (channels : ℕ) (x : Commit) → 0 < channels → ByEnd x.ended (x.part ≡ 0) (x.part < channels) → x.part < channels
part-below channels x some = grind (arith, nat_tests)

-- a commit that begins at a frame placed nothing, or that frame is not below s
abbrev pub CommitEnd : ℕ → ℕ → ℕ → ℕ → Commit → Type 0
CommitEnd count channels frame s commit = IsCommitOf count channels commit × (((commit.frames ≡ 0) × (commit.part ≡ 0)) ⊎ (s ≤ frame))

-- where a rewind that begins at a frame took something back, what is left ends at no frame below s; and where it ended before, something is left
abbrev pub RewindEnd : ℕ → ℕ → ℕ → ℕ → Commit → Type 0
RewindEnd count channels frame s left = IsCommitOf count channels left × (((left.frames ≡ count) × (left.part ≡ 0)) ⊎ (s ≤ frame + left.frames))
    × ByEnd left.ended ⊤ (0 < left.frames + left.part)

module _ (p s : ℕ) where
  -- how many of n samples of a frame were placed, where the frame is not below s if one was
  abbrev FrameEnd : ℕ → ℕ → ℕ × Ended → Type 0
  FrameEnd frame n (done, ended.Whole) = s ≤ frame
  FrameEnd frame n (done, ended.Late word) = (done < n) × ((done ≡ 0) ⊎ (s ≤ frame))
  FrameEnd frame n (done, ended.Stopped) = (done < n) × ((done ≡ 0) ⊎ (s ≤ frame))

  each-keeps : (member frame : ℕ) (bindings : List ℕ) (sample_of : ℕ → ℤ) (qs : List ℕ) → (length qs ≡ 0 → s ≤ frame)
      → Keeps p s (FrameEnd frame (length qs)) (lay_each member frame bindings sample_of qs)
  unfolding lay_each
  each-keeps member frame bindings sample_of [] past = (refl, past refl)
  each-keeps member frame bindings sample_of (q ∷ qs) past = (
    λ here. Keeps-then p s (FrameEnd frame (length qs)) (FrameEnd frame (suc (length qs))) (lay_each member frame bindings sample_of qs) (λ end. ends (one_more end))
        (each-keeps member frame bindings sample_of qs (λ none. here)) (λ end is. (refl, one here end is)),
    λ word. (refl, (omega arith, inl refl)),
    (refl, (omega arith, inl refl)),
  )
    where
      one : s ≤ frame → (end : ℕ × Ended) → FrameEnd frame (length qs) end → FrameEnd frame (suc (length qs)) (one_more end)
      one here end is = grind (arith, nat_tests)

  pub frames-keep : (member card : ℕ) (bindings : List ℕ) (samples : ℕ → ℕ → ℤ) (count first : ℕ) → (length (rising bindings) ≡ 0 → s ≤ card)
      → Keeps p s (CommitEnd count (length (rising bindings)) (card + first) s) (lay_frames member card bindings samples count first)
  unfolding lay_frames
  frames-keep member card bindings samples zero first low = (refl, (nothing-of 0 (length (rising bindings)), inl (refl, refl)))
  frames-keep member card bindings samples (suc count) first low =
      Keeps-then p s (FrameEnd (card + first) (length (rising bindings))) (CommitEnd (suc count) (length (rising bindings)) (card + first) s)
      (lay_frame member (card + first) bindings (samples first)) (λ end. go_on end (lay_frames member card bindings samples count (first + 1)))
      (each-keeps member (card + first) bindings (samples first) (rising bindings) (λ none. let past = low none in omega (arith, past)))
      (on (frames-keep member card bindings samples count (first + 1) low))
    where
      -- the frame that wasn't placed whole
      last : (done : ℕ) (end : Ended) → ByEnd end (done ≡ 0) (done < length (rising bindings)) → (done ≡ 0) ⊎ (s ≤ card + first)
          → CommitEnd (suc count) (length (rising bindings)) (card + first) s (record { frames = 0; part = done; ended = end })
      last done end few (inl none) = (record { few = omega (arith, begun-most done); ends = few }, inl (refl, none))
      last done end few (inr past) = (record { few = omega (arith, begun-most done); ends = few }, inr past)

      more : (commit : Commit) → IsCommitOf count (length (rising bindings)) commit → IsCommitOf (suc count) (length (rising bindings)) (one_frame_more commit)
      more commit is = let few = is.few in record { few = omega (arith, few); ends = is.ends }

      on : Keeps p s (CommitEnd count (length (rising bindings)) (card + (first + 1)) s) (lay_frames member card bindings samples count (first + 1))
          → (end : ℕ × Ended) → FrameEnd (card + first) (length (rising bindings)) end
          → Keeps p s (CommitEnd (suc count) (length (rising bindings)) (card + first) s) (go_on end (lay_frames member card bindings samples count (first + 1)))
      on rest (done, ended.Whole) here = Keeps-then p s (CommitEnd count (length (rising bindings)) (card + (first + 1)) s)
          (CommitEnd (suc count) (length (rising bindings)) (card + first) s) (lay_frames member card bindings samples count (first + 1))
          (λ commit. ends (one_frame_more commit)) rest (λ commit is. (refl, (more commit is.0, inr here)))
      on rest (done, ended.Late word) (few, any) = (refl, last done (ended.Late word) few any)
      on rest (done, ended.Stopped) (few, any) = (refl, last done ended.Stopped few any)

  -- the commit of a client
  pub commits-keep : (c : PlaybackStream) (ring : List ℤ) (count : ℕ) → Channels c.setup.bindings
      → Keeps p s (CommitEnd count (length c.setup.bindings) (c.stretch.card + c.stretch.committed) s) (commits c ring count)
  commits-keep c ring count bound = subst (λ (n : ℕ). Keeps p s (CommitEnd count n (c.stretch.card + c.stretch.committed) s) (commits c ring count)) bound.whole
      (frames-keep c.identity.member c.stretch.card c.setup.bindings (ring_sample c ring) count c.stretch.committed
      (λ none. absurd (omega (arith, none, channels-rise c.setup.bindings bound))))

  -- ---- a rewind

  -- how many samples of a frame are left of n: all, or the frame is not below s; and some where it ended before
  abbrev FrameLeft : ℕ → ℕ → ℕ × Ended → Type 0
  FrameLeft frame n (left, end) = (left ≤ n) × ByEnd end (left ≡ 0) (0 < left) × ((left ≡ n) ⊎ (s ≤ frame))

  each-back : (member frame : ℕ) (bindings : List ℕ) (sample_of : ℕ → ℤ) (n : ℕ) → Keeps p s (FrameLeft frame n) (take_each member frame bindings sample_of n)
  unfolding take_each
  each-back member frame bindings sample_of zero = (refl, (omega arith, refl, inl refl))
  each-back member frame bindings sample_of (suc n) = (
    λ past. Keeps-map p s (FrameLeft frame n) (FrameLeft frame (suc n)) (take_each member frame bindings sample_of n) (each-back member frame bindings sample_of n)
        (λ end is. let few = is.0 in (omega (arith, few), is.1, inr past)),
    λ word. (refl, (omega arith, omega arith, inl refl)),
    (refl, (omega arith, omega arith, inl refl)),
  )

  module _ (member card : ℕ) (bindings : List ℕ) (low : length bindings ≡ 0 → s ≤ card) where
    -- a rewind that ended before, within a frame of which some channels are left
    left-end : (first n left : ℕ) (end : Ended) → ((P Q : Type 0) → Q → ByEnd end P Q) → left ≤ length bindings → 0 < left
        → (left ≡ length bindings) ⊎ (s ≤ card + (first + n)) → RewindEnd (suc n) (length bindings) (card + first) s (rewind_left n left (length bindings) end)
    left-end first n left end before few some any = grind (arith, nat_tests)

    pub frames-back : (samples : ℕ → ℕ → ℤ) (first n : ℕ) → Keeps p s (RewindEnd n (length bindings) (card + first) s) (take_frames member card bindings samples first n)
    unfolding take_frames
    frames-back samples first zero = (refl, (nothing-of 0 (length bindings), inl (refl, refl), tt))
    frames-back samples first (suc n) =
        Keeps-then p s (FrameLeft (card + (first + n)) (length bindings)) (RewindEnd (suc n) (length bindings) (card + first) s)
        (take_each member (card + (first + n)) bindings (samples (first + n)) (length bindings))
        (λ end. back_on end n (length bindings) (take_frames member card bindings samples first n))
        (each-back member (card + (first + n)) bindings (samples (first + n)) (length bindings)) (on (frames-back samples first n))
      where
        past : (left : ℕ) → (left ≡ length bindings) ⊎ (s ≤ card + (first + n)) → left ≡ 0 → s ≤ card + (first + n)
        past left (inl all) none = let here = low (sym all ∙ none) in omega (arith, here)
        past left (inr is) none = is

        more : (left : Commit) → IsCommitOf n (length bindings) left → IsCommitOf (suc n) (length bindings) left
        more left is = let few = is.few in record { few = omega (arith, few); ends = is.ends }

        fewer : s ≤ card + (first + n) → (left : Commit) → RewindEnd n (length bindings) (card + first) s left → RewindEnd (suc n) (length bindings) (card + first) s left
        fewer below left (is, inl all, some) = let frames = all.0 in (more left is, inr (omega (arith, frames, below)), some)
        fewer below left (is, inr ends_there, some) = (more left is, inr ends_there, some)

        on : Keeps p s (RewindEnd n (length bindings) (card + first) s) (take_frames member card bindings samples first n) → (end : ℕ × Ended)
            → FrameLeft (card + (first + n)) (length bindings) end
            → Keeps p s (RewindEnd (suc n) (length bindings) (card + first) s) (back_on end n (length bindings) (take_frames member card bindings samples first n))
        on rest (left, ended.Whole) (few, none, any) = Keeps-map p s (RewindEnd n (length bindings) (card + first) s) (RewindEnd (suc n) (length bindings) (card + first) s)
            (take_frames member card bindings samples first n) rest (fewer (past left any none))
        on rest (left, ended.Late word) (few, some, any) = (refl, left-end first n left (ended.Late word) (λ P Q is. is) few some any)
        on rest (left, ended.Stopped) (few, some, any) = (refl, left-end first n left ended.Stopped (λ P Q is. is) few some any)

-- ---- a load, and the commit after it

pub found-from : {T : Type 0} (p s : ℕ) (Q : ℕ → Answered T → Type 0) (at : Position → PlaybackStream) (count : Position → ℕ) (ring : List ℤ)
    (done : Option Position → Commit → Answered T) → Q s (done None nothing)
    → ((position : Position) → p ≤ position.frame → From p (λ t commit. Q t (done (Some position) commit)) p (commits (at position) ring (count position)))
    → From p Q s (looks at count ring >>= λ found. ends (done found.0 found.1))
unfolding looks ◌>>=◌
found-from p s Q at count ring done none some = (
  none,
  λ position least. From-then p found-so Q p (commits (at position) ring (count position) >>= λ commit. ends (Some position, commit)) (λ found. ends (done found.0 found.1))
      (From-then p (λ t commit. found-so t (Some position, commit)) found-so p (commits (at position) ring (count position)) (λ commit. ends (Some position, commit))
      (some position least) (λ t commit is. is)) (λ t found is. is),
)
  where
    found-so : ℕ → Option Position × Commit → Type 0
    found-so t found = Q t (done found.0 found.1)

-- ---- a line of an open client

-- what holds of a client as it is, and of what each of its calls leaves, holds of what a line leaves
pub line-from : (rules : Rules) (p : ℕ) → ((q : ℕ) → Contains rules.published q → p ≤ q) → (phase : ℕ) (wav : Sound) (number : ℕ) (a b : AtPort) (client after : Client) (asked : Op)
    (answer : Answer) (c : PlaybackStream) → client.own ≡ Some c → (Q : Client → Type 0) → Q client
    → ((m : Marks) (o : Op) → From p (λ t (done : Client × Answer). Q done.0) 0 (call_of wav m c o >>= λ done. ends (after_call client c o done)))
    → LineMay (client_kind phase wav number) rules (a, client) asked (b, after) answer → Q after
line-from rules p least phase wav number a b client after asked answer c is Q same each may =
    Takes-from rules p least (λ (done : Client × Answer). Q done.0) 0 (begins client.own asked a) b (line_by wav m client client.own asked) (after, answer)
    (subst (λ own. From p (λ t (done : Client × Answer). Q done.0) 0 (line_by wav m client own asked)) (sym is) (by_stop c.status.stopped asked)) (omega arith) may
  where
    m : Marks
    m = (begins client.own asked a).marks

    by_stop : (stopped : Bool) (o : Op) → From p (λ t (done : Client × Answer). Q done.0) 0 (line_if stopped wav m client c o)
    by_stop true o = same
    by_stop false (op.Die k) = same
    by_stop false o = each m o
