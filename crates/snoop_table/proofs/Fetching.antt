-- The load of a frame by a reader's seat, channel by channel.
use Rattle.snoop_table.specs.Prelude.{ap, arith, cond, false, length, List, refl, set, subst, suc, sym, take, true, zero, ℕ, ℤ, [], ◌++◌, ◌+◌, ◌<◌, ◌==◌, ◌∙◌}
use Rattle.snoop_table.specs.Prelude.{◌∷◌, ◌≡◌, ◌≢◌, nat_tests, append-nil, length-set, Geometry, lap, Go, Stop, Look, Frame, Gets, numbered_frame, SnoopView}
use Rattle.snoop_table.specs.Prelude.{laps_of, sample_of, index_of, ReaderSeat, View, HasLooked, IsLaterSeat, IsLaterSeat-joined, noted_word, or_false}
use Rattle.snoop_table.specs.Prelude.{seat_view, SeatFinds, SeatGot, SeatLoaded, view_of, samples_before, with_note, with_sample}
use Rattle.std.proofs.Common.{replicate}
use Rattle.std.proofs.Math.Seq.{take-length, take-suc-set}
use Rattle.mix_core.specs.declared.gate.Pass.{Pass}
use Rattle.mix_core.specs.declared.gate.StepKind.{StepKind}
use Rattle.snoop_core.specs.declared.port.Got.TheVariants.{Overtaken, Stopped}

-- the channels of a frame before one were loaded, each with the frame's own lap
pub record IsFetching (s t : ReaderSeat) (f c : ℕ) (out : List ℤ) : Type 0 where
  pub goes : IsLaterSeat s t
  pub seen : t.seen ≡ s.seen
  pub positions : (view_of t).positions ≡ (view_of s).positions
  pub seen_gone : (view_of t).seen_gone ≡ (view_of s).seen_gone
  pub size : length out ≡ s.geometry.channels
  pub got : c < s.geometry.channels → (view_of t).got ≡ (view_of s).got
  pub whole : c ≡ s.geometry.channels → (view_of t).got ≡ (view_of s).got ++ numbered_frame f out ∷ []
  pub loading : 0 < c → (view_of t).loading ≡ numbered_frame f (take c out)
  pub in_time : 0 < c → ¬ (f + s.geometry.frames < s.seen)

-- the samples before a channel are those that were put out
before-is : (v : View) (f c : ℕ) (out : List ℤ) → (0 < c → v.loading ≡ numbered_frame f (take c out)) → samples_before v c ≡ take c out
before-is v f zero out loading = refl
before-is v f (suc c) out loading = ap (λ (x : Frame). x.samples) (loading (omega arith))

take-more : (out : List ℤ) (c : ℕ) (x : ℤ) → c < length out → take (c + 1) (set out c x) ≡ take c out ++ x ∷ []
take-more out c x inside =
    let one : c + 1 ≡ suc c = omega arith in
    ap (λ n. take n (set out c x)) one ∙ take-suc-set out c x inside

-- the view after a look that found the frame's own lap
pub fetching-more : (s t u : ReaderSeat) (f c n : ℕ) (out : List ℤ) (x : ℤ) → IsFetching s t f c out → c < s.geometry.channels → HasLooked t u f c n
    → laps_of n ≡ lap s.geometry f + 1 → x ≡ sample_of n → IsFetching s u f (c + 1) (set out c x)
fetching-more s t u f c n out x l in_range looked own is =
    let i : ℕ = index_of t.geometry f c in
    let v : View = view_of t in
    let lap_is : lap t.geometry f ≡ lap s.geometry f = ap (λ (g : Geometry). lap g f) l.goes.geometry in
    let view : view_of u ≡ with_sample (with_note v i n) f c (sample_of n) = looked.own (own ∙ ap (λ k. k + 1) (sym lap_is)) in
    let inside : c < length out = omega (arith, in_range, l.size) in
    let outs : List ℤ = set out c x in
    let size : length outs ≡ s.geometry.channels = length-set out c x ∙ l.size in
    let samples : samples_before (with_note v i n) c ++ sample_of n ∷ [] ≡ take (c + 1) outs =
    ap (λ xs. xs ++ sample_of n ∷ []) (before-is (with_note v i n) f c out l.loading) ∙ (ap (λ y. take c out ++ y ∷ []) (sym is) ∙ sym (take-more out c x inside)) in
    let channels : v.geometry.channels ≡ s.geometry.channels = ap (λ (g : Geometry). g.channels) (t.known.same_geometry ∙ l.goes.geometry) in
    let got : (view_of u).got ≡ cond (c + 1 == v.geometry.channels) (v.got ++ numbered_frame f (take (c + 1) outs) ∷ []) v.got =
    ap (λ (y : View). y.got) view ∙ ap (λ xs. cond (c + 1 == v.geometry.channels) (v.got ++ numbered_frame f xs ∷ []) v.got) samples in
    record {
      goes = IsLaterSeat-joined s t u l.goes looked.goes;
      seen = looked.seen ∙ l.seen;
      positions = ap (λ (y : View). y.positions) view ∙ l.positions;
      seen_gone = ap (λ (y : View). y.seen_gone) view ∙ l.seen_gone;
      size = size;
      got = λ few.
          let test : (c + 1 == v.geometry.channels) ≡ false = grind (arith, nat_tests, few, channels) in
          got ∙ (ap (λ b. cond b (v.got ++ numbered_frame f (take (c + 1) outs) ∷ []) v.got) test ∙ l.got in_range);
      whole = λ all.
          let test : (c + 1 == v.geometry.channels) ≡ true = grind (arith, nat_tests, all, channels) in
          let full : take (c + 1) outs ≡ outs = ap (λ k. take k outs) (all ∙ sym size) ∙ take-length outs in
          got ∙ (ap (λ b. cond b (v.got ++ numbered_frame f (take (c + 1) outs) ∷ []) v.got) test
          ∙ (ap (λ xs. v.got ++ numbered_frame f xs ∷ []) full ∙ ap (λ fs. fs ++ numbered_frame f outs ∷ []) (l.got in_range)));
      loading = λ some. ap (λ (y : View). y.loading) view ∙ ap (numbered_frame f) samples;
      in_time = λ some far.
          let view_seen : v.seen ≡ s.seen = t.known.same_seen ∙ l.seen in
          let geometry : v.geometry ≡ s.geometry = t.known.same_geometry ∙ l.goes.geometry in
          let past : lap v.geometry f + 1 < laps_of n = looked.found.past (omega (arith, far, view_seen, ap (λ (g : Geometry). g.frames) geometry)) in
          omega (arith, past, own, ap (λ (g : Geometry). lap g f) geometry);
    }

loaded-nothing : (s t : ReaderSeat) → t.seen ≡ s.seen → (view_of t).positions ≡ (view_of s).positions → (view_of t).seen_gone ≡ (view_of s).seen_gone → SeatLoaded s t []
loaded-nothing s t seen positions gone = record {
  positions = positions ∙ sym (append-nil (view_of s).positions);
  rising = tt;
  last = seen;
  gone = gone ∙ or_false (view_of s).seen_gone;
  after_gone = λ is k d inside. absurd (omega arith);
}

view-same : (s t : ReaderSeat) → t.geometry ≡ s.geometry → t.seen ≡ s.seen → seat_view t ≡ seat_view s
view-same s t geometry seen =
    ap (λ (g : Geometry). let v : SnoopView = record { geometry = g; seen = t.seen } in v) geometry ∙ ap (λ n. let v : SnoopView = record { geometry = s.geometry; seen = n } in v) seen

at_first : (c : ℕ) → ¬ (0 < c) → c ≡ 0
at_first c none = omega (arith, none)

-- the word of a later lap was found at a channel
pub gets-overtaken : {T : Type 0} (stops : T → ℕ) (asked : T → T → List StepKind → Pass → Type 0) (s t u : ReaderSeat) (g h : T) (f c n : ℕ) (out : List ℤ)
    → IsFetching s t f c out → c < s.geometry.channels → HasLooked t u f c n → laps_of n ≢ lap s.geometry f + 1
    → asked g h (replicate (c + 1) Look) Go → stops h ≡ stops g
    → Gets seat_view noted_word SeatLoaded SeatGot SeatFinds stops asked s g (numbered_frame f out) (Overtaken c n) u h
gets-overtaken stops asked s t u g h f c n out l in_range looked other asks told =
    let lap_is : lap t.geometry f ≡ lap s.geometry f = ap (λ (k : Geometry). lap k f) l.goes.geometry in
    let view = looked.other (λ e. other (e ∙ ap (λ k. k + 1) lap_is)) in
    let goes : IsLaterSeat s u = IsLaterSeat-joined s t u l.goes looked.goes in
    let seen : u.seen ≡ s.seen = looked.seen ∙ l.seen in
    let geometry : (view_of t).geometry ≡ s.geometry = t.known.same_geometry ∙ l.goes.geometry in
    let past : lap s.geometry f + 1 < laps_of n = omega (arith, looked.found.not_before, ap (λ (k : Geometry). lap k f) geometry, other) in
    let first : f + s.geometry.frames < s.seen → c ≡ 0 = λ early. at_first c (λ some. l.in_time some early) in
    record {
      view_is = view-same s u goes.geometry seen;
      got_it = record { goes = goes; got = ap (λ (y : View). y.got) view ∙ (l.got in_range ∙ sym (append-nil (view_of s).got)) };
      loaded_nothing = loaded-nothing s u seen (ap (λ (y : View). y.positions) view ∙ l.positions) (ap (λ (y : View). y.seen_gone) view ∙ l.seen_gone);
      size = l.size;
      overtaken = record {
        channel = subst (λ (k : Geometry). c < k.channels) (sym goes.geometry) in_range;
        shown = looked.shows;
        past = subst (λ (k : Geometry). lap k f + 1 < laps_of n) (sym goes.geometry) past;
      };
      found = tt;
      asks = c + 1;
      asks_number = refl;
      at_once = λ early. (first early, omega (arith, first early));
      asked_them = asks;
      stopped = told;
    }

-- the gate stopped a look
pub gets-stopped : {T : Type 0} (stops : T → ℕ) (asked : T → T → List StepKind → Pass → Type 0) (s t : ReaderSeat) (g h : T) (f c : ℕ) (out : List ℤ)
    → IsFetching s t f c out → c < s.geometry.channels
    → asked g h (replicate (c + 1) Look) Stop → stops h ≡ stops g + 1
    → Gets seat_view noted_word SeatLoaded SeatGot SeatFinds stops asked s g (numbered_frame f out) Stopped t h
gets-stopped stops asked s t g h f c out l in_range asks told = record {
  view_is = view-same s t l.goes.geometry l.seen;
  got_it = record { goes = l.goes; got = l.got in_range ∙ sym (append-nil (view_of s).got) };
  loaded_nothing = loaded-nothing s t l.seen l.positions l.seen_gone;
  size = l.size;
  overtaken = tt;
  found = tt;
  asks = c + 1;
  asks_number = (omega arith, omega (arith, in_range));
  at_once = λ early. omega (arith, at_first c (λ some. l.in_time some early));
  asked_them = asks;
  stopped = told;
}
