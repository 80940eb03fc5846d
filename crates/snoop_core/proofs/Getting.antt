-- The load of a frame by a turn, channel by channel.
use Rattle.snoop_core.specs.Prelude.{All, ap, arith, get_or, inl, inr, length, List, pos, refl, replicate, set, Some, subst, suc, sym, zero, ℕ, ℤ, [], ◌+◌, ◌<◌}
use Rattle.snoop_core.specs.Prelude.{◌∙◌, ◌∷◌, ◌≡◌, ◌≢◌, ◌≤◌, get_or-set_other, get_or-set_same, length-set, Cursor, first_frame, lap, Go, Stop, Look}
use Rattle.snoop_core.specs.Prelude.{IsCaptured, sample_at, core_of, IsSame, TurnFinds, TurnGot, TurnLoaded, view_of_turn, word_of_turn, geometry_of}
use Rattle.snoop_core.specs.Prelude.{IsFoundWord, next_frame, Represents, SnoopCoreView, word_at, laps_of, sample_of}
use Rattle.std.proofs.lemmas.Bool.{cases_eq}
use Rattle.mix_core.specs.declared.gate.Pass.{Pass}
use Rattle.mix_core.specs.declared.gate.StepKind.{StepKind}
use Rattle.snoop_core.specs.declared.port.Frame.{Frame}
use Rattle.snoop_core.specs.declared.port.Got.TheVariants.{Whole, Overtaken, Stopped}
use Rattle.snoop_core.specs.declared.turn.SnoopTurn.{SnoopTurn}
use Rattle.snoop_core.specs.Port.{Gets, numbered_frame}

-- a published frame is not stored over
pub record IsKept (v : SnoopCoreView) (f : ℕ) : Type 0 where
  pub published : v.position ≤ next_frame v
  pub not_over : next_frame v ≤ f + (geometry_of v).frames

-- the channels of a frame before one were loaded, each with the frame's own lap
pub record IsLoading (t u : SnoopTurn) (f c : ℕ) (out : List ℤ) : Type 0 where
  pub same : IsSame t u
  pub size : length out ≡ (geometry_of (core_of t)).channels
  pub kept : 0 < c → IsKept (core_of t) f
  pub samples : (d : ℕ) → d < c → (xs : List ℤ) → Represents (core_of t) xs → get_or out d (pos 0) ≡ sample_at (geometry_of (core_of t)) xs f d

pub loading-more : (t u : SnoopTurn) (f c word : ℕ) (out : List ℤ) (x : ℤ) → c < (geometry_of (core_of t)).channels → IsLoading t u f c out
    → IsFoundWord (core_of t) f c word → laps_of word ≡ lap (geometry_of (core_of t)) f + 1 → x ≡ sample_of word
    → IsLoading t u f (c + 1) (set out c x)
loading-more t u f c word out x in_range l found own is = record {
  same = l.same;
  size = length-set out c x ∙ l.size;
  kept = λ some. kept_by (core_of t) f c word found own;
  samples = λ d before xs r. elim (cases_eq d c) [
    | inl same ↦
        subst (λ e. get_or (set out c x) e (pos 0) ≡ sample_at (geometry_of (core_of t)) xs f e) (sym same)
        (get_or-set_same out c x (pos 0) (omega (arith, l.size, in_range)) ∙ (is ∙ found.sample own xs r))
    | inr other ↦ get_or-set_other out c d x (pos 0) other ∙ l.samples d (omega (arith, other, before)) xs r
  ];
} where
  kept_by : (v : SnoopCoreView) (f c word : ℕ) → IsFoundWord v f c word → laps_of word ≡ lap (geometry_of v) f + 1 → IsKept v f
  kept_by v f c word found own = elim (Rattle.std.proofs.lemmas.Bool.cases_lt (f + (geometry_of v).frames) (next_frame v)) [
    | inl far ↦
        absurd (omega (arith, own, found.by_laps.past (Rattle.snoop_core.proofs.Finding.stored-first_free v.ring.next (f + (geometry_of v).frames) c far)))
    | inr near ↦ record { published = found.published; not_over = omega (arith, near) }
  ]

-- nothing was got
got-none : (t u : SnoopTurn) → IsSame t u → TurnGot t u []
got-none t u same = record { same = same; each = λ k d within. absurd (omega arith) }

loaded-none : (t u : SnoopTurn) → IsSame t u → TurnLoaded t u []
loaded-none t u same = record { same = same; each = λ k d within. absurd (omega arith) }

all-one : (P : Frame → Type 0) (f : Frame) → P f → All P (f ∷ [])
all-one P f p zero d within = p
all-one P f p (suc k) d within = absurd (omega arith)

view-same : (t u : SnoopTurn) → IsSame t u → view_of_turn u ≡ view_of_turn t
view-same t u same = ap (λ (v : SnoopCoreView). record { geometry = v.ring.geometry; seen = v.position }) same.core

-- all channels were loaded
pub gets-whole : {T : Type 0} (stops : T → ℕ) (asked : T → T → List StepKind → Pass → Type 0) (t u : SnoopTurn) (g h : T) (f : ℕ) (out : List ℤ)
    → IsLoading t u f (geometry_of (core_of t)).channels out
    → first_frame (geometry_of (core_of t)) ≤ f → f < (core_of t).position
    → asked g h (replicate (geometry_of (core_of t)).channels Look) Go → stops h ≡ stops g
    → Gets view_of_turn word_of_turn TurnLoaded TurnGot TurnFinds stops asked t g (numbered_frame f out) Whole u h
gets-whole stops asked t u g h f out l least before asks told =
    let v : SnoopCoreView = core_of t in
    let kept : IsKept v f = l.kept (omega (arith, (geometry_of v).channels_least)) in
    record {
      view_is = view-same t u l.same;
      got_it = record {
        same = l.same;
        each = all-one (λ (x : Frame). (xs : List ℤ) → Represents v xs → IsCaptured (geometry_of v) xs x) (numbered_frame f out) (λ xs r. record {
          least = least;
          whole = subst (λ (y : Cursor). f < y.frame) r.next (omega (arith, before, kept.published));
          size = l.size;
          samples = λ c in_range. l.samples c in_range xs r;
        });
      };
      loaded_nothing = loaded-none t u l.same;
      size = l.size;
      overtaken = tt;
      found = record { in_time = kept.not_over; late = tt; first = tt };
      asks = (geometry_of v).channels;
      asks_number = refl;
      at_once = λ early. absurd (omega (arith, early, kept.not_over, kept.published));
      asked_them = asks;
      stopped = told;
    }

-- the word of a later lap was found at a channel
pub gets-overtaken : {T : Type 0} (stops : T → ℕ) (asked : T → T → List StepKind → Pass → Type 0) (t u : SnoopTurn) (g h : T) (f c word : ℕ) (out : List ℤ)
    → IsLoading t u f c out → c < (geometry_of (core_of t)).channels
    → IsFoundWord (core_of t) f c word → laps_of word ≢ lap (geometry_of (core_of t)) f + 1
    → asked g h (replicate (c + 1) Look) Go → stops h ≡ stops g
    → Gets view_of_turn word_of_turn TurnLoaded TurnGot TurnFinds stops asked t g (numbered_frame f out) (Overtaken c word) u h
gets-overtaken stops asked t u g h f c word out l in_range found other asks told =
    let v : SnoopCoreView = core_of t in
    let past : lap (geometry_of v) f + 1 < laps_of word = omega (arith, found.by_laps.not_before, other) in
    let far : f + (geometry_of v).frames < next_frame v = whole_frame v.ring.next (f + (geometry_of v).frames) c found.whole (found.by_laps.overtaken past) in
    let first : c ≡ 0 = at_first c (λ some. omega (arith, far, (l.kept some).not_over)) in
    record {
      view_is = view-same t u l.same;
      got_it = got-none t u l.same;
      loaded_nothing = loaded-none t u l.same;
      size = l.size;
      overtaken = record {
        channel = subst (λ (w : SnoopCoreView). c < (geometry_of w).channels) (sym l.same.core) in_range;
        shown = ap (λ (w : SnoopCoreView). Some (word_at w f c)) l.same.core ∙ ap Some found.shown;
        past = subst (λ (w : SnoopCoreView). lap (geometry_of w) f + 1 < laps_of word) (sym l.same.core) past;
      };
      found = record { in_time = tt; late = far; first = first };
      asks = c + 1;
      asks_number = refl;
      at_once = λ early. (first, omega (arith, first));
      asked_them = asks;
      stopped = told;
    } where
      whole_frame : (next : Cursor) (f c : ℕ) → next.channel ≡ 0 → f < Rattle.snd_base.specs.Places.first_free next c → f < next.frame
      whole_frame next f c whole before = grind (arith, Rattle.std.proofs.lemmas.Bool.Decides.nat_tests, before, whole)

      at_first : (c : ℕ) → ¬ (0 < c) → c ≡ 0
      at_first c none = omega (arith, none)

-- the gate stopped a look
pub gets-stopped : {T : Type 0} (stops : T → ℕ) (asked : T → T → List StepKind → Pass → Type 0) (t u : SnoopTurn) (g h : T) (f c : ℕ) (out : List ℤ)
    → IsLoading t u f c out → c < (geometry_of (core_of t)).channels
    → asked g h (replicate (c + 1) Look) Stop → stops h ≡ stops g + 1
    → Gets view_of_turn word_of_turn TurnLoaded TurnGot TurnFinds stops asked t g (numbered_frame f out) Stopped u h
gets-stopped stops asked t u g h f c out l in_range asks told =
    let v : SnoopCoreView = core_of t in
    let first : f + (geometry_of v).frames < v.position → c ≡ 0 = λ early. at_first c (λ some. omega (arith, early, (l.kept some).published, (l.kept some).not_over)) in
    record {
      view_is = view-same t u l.same;
      got_it = got-none t u l.same;
      loaded_nothing = loaded-none t u l.same;
      size = l.size;
      overtaken = tt;
      found = record { in_time = tt; late = tt; first = tt };
      asks = c + 1;
      asks_number = (omega arith, omega (arith, in_range));
      at_once = λ early. omega (arith, first early);
      asked_them = asks;
      stopped = told;
    } where
      at_first : (c : ℕ) → ¬ (0 < c) → c ≡ 0
      at_first c none = omega (arith, none)
