-- Frames that were got fill the room of a read, one after the other.
use Rattle.dsnoop_client.specs.Prelude.{add-one, ap, arith, drop, length, List, pos, refl, subst, suc, sym, take, zero, ℕ, [], ◌*◌, ◌++◌, ◌+◌, ◌∙◌, ◌∷◌, ◌≡◌}
use Rattle.dsnoop_client.specs.Prelude.{◌≤◌, append-nil, length-append, length-map, map-append, take-append-drop, All, slice_index_or, ℤ, Composes}
use Rattle.dsnoop_client.specs.Prelude.{Composes-none_after, Got, Whole, frame_if, OnGot, SnoopView, AreFrames, bound_samples, Fills, through_all}
use Rattle.std.proofs.Math.Seq.{take-append_seam}
use Rattle.std.proofs.lemmas.Grind.{flat_map-append}
use Rattle.std.proofs.lemmas.List.Elements.{All-append}
use Rattle.std.proofs.lemmas.Slice.{drop-append-drop, drop-put_mid, take-put_mid}
use Rattle.std.specs.List.{range_with_len}
use borrow.Rule.Slice.PartMut.{put_mid}
use Rattle.snoop_core.specs.declared.port.Frame.{Frame}
use Rattle.snoop_core.specs.declared.port.SnoopPort as snoopport

OnGot-not : (end : Got) (X : Type 0) → (end ≡ Whole → ⊥) → OnGot end X
OnGot-not Whole X not_whole = absurd (not_whole refl)
OnGot-not other X not_whole = tt

-- one number more at the end of a row
range_with_len-more : (a n : ℕ) → range_with_len a (suc n) ≡ range_with_len a n ++ (a + n) ∷ []
range_with_len-more a zero = ap (λ (x : ℕ). x ∷ []) (let same : a ≡ a + 0 = omega arith in same)
range_with_len-more a (suc n) =
    ap (λ xs. a ∷ xs) (range_with_len-more (a + 1) n ∙ ap (λ (x : ℕ). range_with_len (a + 1) n ++ x ∷ [])
    (let same : a + 1 + n ≡ a + suc n = omega arith in same))

length-more : (frames : List Frame) (frame : Frame) → length (frames ++ frame ∷ []) ≡ suc (length frames)
length-more frames frame = length-append frames (frame ∷ []) ∙ add-one (length frames)

length-through : (bindings : List ℕ) (samples : List ℤ) → length (bound_samples bindings samples) ≡ length bindings
length-through bindings samples = length-map bindings (λ channel. slice_index_or samples channel (pos 0))

-- each frame through bindings has one sample for each
length-through_all : (bindings : List ℕ) (frames : List Frame) → length (through_all bindings frames) ≡ length frames * length bindings
length-through_all bindings [] = omega arith
length-through_all bindings (f ∷ fs) =
    omega (arith, length-append (bound_samples bindings f.samples) (through_all bindings fs), length-through bindings f.samples, length-through_all bindings fs)

all_one : (frame : Frame) (channels : ℕ) → length frame.samples ≡ channels → All (λ (f : Frame). length f.samples ≡ channels) (frame ∷ [])
all_one frame channels size zero d within = size
all_one frame channels size (suc k) d within = absurd (omega (arith, within))

-- one frame more after others
AreFrames-more : (frames : List Frame) (frame : Frame) (first channels : ℕ) → AreFrames frames first channels → frame.number ≡ first + length frames
    → length frame.samples ≡ channels → AreFrames (frames ++ frame ∷ []) first channels
AreFrames-more frames frame first channels are is size = record {
  numbers =
      map-append (λ (f : Frame). f.number) frames (frame ∷ [])
      ∙ ap (λ (xs : List ℕ). xs ++ frame.number ∷ []) are.numbers
      ∙ ap (λ (x : ℕ). range_with_len first (length frames) ++ x ∷ []) is
      ∙ sym (range_with_len-more first (length frames))
      ∙ sym (ap (range_with_len first) (length-more frames frame));
  whole = All-append (λ (f : Frame). length f.samples ≡ channels) frames (frame ∷ []) are.whole (all_one frame channels size);
}

-- a part of a room written over, after what was written before
put_mid-next : (head before part : List ℤ) (at k n : ℕ) → at ≡ length head → length part ≡ k → at + k ≤ length before → n ≡ at + k
    → put_mid at k (head ++ drop at before) part ≡ (head ++ part) ++ drop n before
put_mid-next head before part at k n at_end size room is =
    let now = head ++ drop at before in
    let room_now : at ≤ length now = omega (arith, length-append head (drop at before), at_end) in
    sym (take-append-drop n (put_mid at k now part))
    ∙ ap (λ xs. xs ++ drop n (put_mid at k now part)) (take-put_mid at k now part n (omega (arith, is, size)) room_now ∙ ap (λ xs. xs ++ part)
    (subst (λ m. take m now ≡ head) (sym at_end) (take-append_seam head (drop at before))))
    ∙ ap (λ xs. (head ++ part) ++ xs) (drop-put_mid at k now part n (omega (arith, is)) room_now size ∙ drop-append-drop at before head n
    (omega (arith, is)) (sym at_end))

module _ {S : Type 0} (P : snoopport.Ghosts S) (composes : Composes P.got) where
  pub Fills-none : {p : S} {bindings : List ℕ} {first : ℕ} {before : List ℤ} → Fills P p p bindings first 0 Whole before before
  Fills-none {p} {bindings} {first} {before} = record {
    frames = [];
    got_them = composes.none p;
    are = record { numbers = refl; whole = λ k d within. absurd (omega (arith, within)) };
    count = refl;
    samples = ap (λ n. drop n before) (let none : 0 ≡ 0 * length bindings = omega arith in none);
  }

  -- one frame more
  pub Fills-next : {p q r : S} {bindings : List ℕ} {first done : ℕ} {before now : List ℤ} (k m : ℕ) (part : List ℤ) (frame : Frame) → P.view q ≡ P.view p
      → k ≡ length bindings → m ≡ k
      → frame.number ≡ first + done → length frame.samples ≡ (P.view q).geometry.channels → part ≡ bound_samples bindings frame.samples
      → (done + 1) * length bindings ≤ length before
      → Fills P p q bindings first done Whole before now → P.got q r (frame ∷ [])
      → Fills P p r bindings first (done + 1) Whole before (put_mid (done * k) m now part)
  Fills-next {p} {q} {r} {bindings} {first} {done} {before} {now} k m part frame same_view is_k is_m is_number size is_part room so_far got_it = record {
    frames = so_far.frames ++ frame ∷ [];
    got_them = composes.joined p q r so_far.frames (frame ∷ []) so_far.got_them got_it;
    are = AreFrames-more so_far.frames frame first (P.view p).geometry.channels so_far.are (is_number ∙ ap (λ n. first + n) (sym so_far.count))
        (size ∙ ap (λ (v : SnoopView). v.geometry.channels) same_view);
    count = length-more so_far.frames frame ∙ ap suc so_far.count ∙ sym (add-one done);
    samples =
        ap (λ (n : ℕ). put_mid (done * k) n now part) is_m
        ∙ subst (λ (n : ℕ). put_mid (done * n) n now part ≡ through_all bindings (so_far.frames ++ frame ∷ []) ++ drop
        ((done + 1) * length bindings) before) (sym is_k)
        (ap (λ xs. put_mid (done * length bindings) (length bindings) xs part) so_far.samples
        ∙ put_mid-next (through_all bindings so_far.frames) before part (done * length bindings) (length bindings) ((done + 1) * length bindings)
        (sym (length-through_all bindings so_far.frames ∙ ap (λ (m : ℕ). m * length bindings) so_far.count))
        (ap length is_part ∙ length-through bindings frame.samples) (omega (arith, room)) (omega arith)
        ∙ ap (λ xs. xs ++ drop ((done + 1) * length bindings) before)
        (ap (λ xs. through_all bindings so_far.frames ++ xs) (is_part ∙ sym (append-nil (bound_samples bindings frame.samples)))
        ∙ sym (flat_map-append (λ (f : Frame). bound_samples bindings f.samples) so_far.frames (frame ∷ []))));
  }

  -- a load that didn't get its frame
  got_nothing : (q r : S) (ended : Got) (frame : Frame) → (ended ≡ Whole → ⊥) → P.got q r (frame_if ended frame) → P.got q r []
  got_nothing q r Whole frame not_whole got = absurd (not_whole refl)
  got_nothing q r other frame not_whole got = got

  pub Fills-ended : {p q r : S} {bindings : List ℕ} {first done : ℕ} {ended : Got} {before now after : List ℤ} (frame : Frame) → (ended ≡ Whole → ⊥)
      → Fills P p q bindings first done Whole before now → P.got q r (frame_if ended frame) → Fills P p r bindings first done ended before after
  Fills-ended {p} {q} {r} {ended = ended} frame not_whole so_far step = record {
    frames = so_far.frames;
    got_them = Composes-none_after P.got p q r so_far.frames composes so_far.got_them (got_nothing q r ended frame not_whole step);
    are = so_far.are;
    count = so_far.count;
    samples = OnGot-not ended _ not_whole;
  }
