-- How output frames are appended.
use Rattle.plug_chain.specs.Prelude.{ap, append_assoc, arith, get_or, length, length-append, List, pos, refl, suc, sym, take, ℕ, ℤ, [], ◌*◌, ◌++◌, ◌+◌, ◌-◌}
use Rattle.plug_chain.specs.Prelude.{◌<◌, ◌∙◌, ◌∷◌, ◌≡◌, ◌≤◌, get_or-append_seam, append-nil, take_at, take_more, slice_index_or, Course, IsAdvance, Appends}
use Rattle.plug_chain.specs.Prelude.{Extends, samples_of, AreRates, IsRateAt, IsUnderway, known_count, known_samples, output_count, output_frame, output_frames}
use Rattle.plug_chain.specs.Prelude.{RatePair, resampled_samples, silence}
use Rattle.plug_chain.proofs.Places.{known_count-is, output_count-is, output_frame-known}
use Rattle.plug_chain.proofs.Ranges.{flat_map-range_add, flat_map-range_one, flat_map-range_same}

-- ---- growth

pub Extends-refl : (xs : List ℤ) → Extends xs xs
Extends-refl xs = record { more = []; new_is = sym (append-nil xs) }

pub Extends-more : (old mid new xs : List ℤ) → Extends old mid → new ≡ mid ++ xs → Extends old new
Extends-more old mid new xs grows is = record { more = grows.more ++ xs; new_is = is ∙ (ap (λ ys. ys ++ xs) grows.new_is ∙ append_assoc old grows.more xs) }

pub Extends-trans : (old mid new : List ℤ) → Extends old mid → Extends mid new → Extends old new
Extends-trans old mid new first second = Extends-more old mid new second.more first second.new_is

pub Appends-trans : (a b c old mid new : List ℤ) → Appends a b old mid → Appends b c mid new → Appends a c old new
Appends-trans a b c old mid new first second = record {
  more = first.more ++ second.more;
  longer_is = second.longer_is ∙ (ap (λ ys. ys ++ second.more) first.longer_is ∙ append_assoc a first.more second.more);
  new_is = second.new_is ∙ (ap (λ ys. ys ++ second.more) first.new_is ∙ append_assoc old first.more second.more);
}

-- ---- output frames

output_frames-add : (r : RatePair) (frames : List (List ℤ)) (m k : ℕ) → output_frames r frames 0 (m + k) ≡ output_frames r frames 0 m ++ output_frames r frames m k
unfolding output_frames
output_frames-add r frames m k = flat_map-range_add (output_frame r frames) 0 m k (m + k) m refl (omega arith)

output_frames-more : (r : RatePair) (frames : List (List ℤ)) (m k : ℕ) → output_frames r frames m (k + 1) ≡ output_frames r frames m k ++ output_frame r frames (m + k)
unfolding output_frames
output_frames-more r frames m k =
    flat_map-range_add (output_frame r frames) m k 1 (k + 1) (m + k) refl refl
    ∙ ap (λ ys. output_frames r frames m k ++ ys) (flat_map-range_one (output_frame r frames) (m + k))

output_frames-known : (r : RatePair) (frames : List (List ℤ)) (x : List ℤ) → AreRates r
    → output_frames r (frames ++ x ∷ []) 0 (known_count r (length frames)) ≡ known_samples r frames
unfolding output_frames
output_frames-known r frames x rates =
    flat_map-range_same (output_frame r (frames ++ x ∷ [])) (output_frame r frames) 0 (known_count r (length frames))
    (λ j low high. output_frame-known r frames x j rates (omega (arith, high)))

-- ---- a course underway

pub IsUnderway-start : (r : RatePair) (channels : ℕ) (frames all : List (List ℤ)) (last : List ℤ) (place : ℕ) (old : List ℤ) → IsRateAt r channels frames last place
    → IsUnderway r all (length frames) place old old
unfolding output_frames
IsUnderway-start r channels frames all last place old at = record {
  count = 0;
  new_is = sym (append-nil old);
  place_is = omega (arith, at.place_is);
}

-- one more output frame is appended
pub IsUnderway-more : (r : RatePair) (all : List (List ℤ)) (before place next : ℕ) (old mid new frame : List ℤ) → IsUnderway r all before place old mid
    → ((j : ℕ) → j * r.input + r.output ≡ before * r.output + place → output_frame r all j ≡ frame) → new ≡ mid ++ frame → next ≡ place + r.input
    → IsUnderway r all before next old new
IsUnderway-more r all before place next old mid new frame underway is grown moved = record {
  count = underway.count + 1;
  new_is = rw (grown, underway.new_is, output_frames-more r all (known_count r before) underway.count, is (known_count r before + underway.count) underway.place_is)
      (append_assoc old (output_frames r all (known_count r before) underway.count) frame);
  place_is = omega (arith, underway.place_is, moved);
}

-- all that one more frame makes known is appended
pub IsAdvance-one : (r : RatePair) (channels : ℕ) (frames : List (List ℤ)) (x : List ℤ) (course : Course) (place : ℕ) (old new : List ℤ) → AreRates r
    → IsUnderway r (frames ++ x ∷ []) (length frames) place old new → r.output < place → place ≤ r.input + r.output
    → samples_of course.last ≡ x → course.place + r.output ≡ place → IsAdvance r channels frames (frames ++ x ∷ []) course old new
IsAdvance-one r channels frames x course place old new rates underway past near last_is place_is =
    let many : length (frames ++ x ∷ []) ≡ suc (length frames) = omega (arith, length-append frames (x ∷ [])) in
    let behind : length (frames ++ x ∷ []) - 1 ≡ length frames = omega (arith, many) in
    let count : known_count r (length (frames ++ x ∷ [])) ≡ known_count r (length frames) + underway.count =
    ap (known_count r) many ∙ known_count-is r (length frames) (known_count r (length frames) + underway.count) (omega (arith, underway.place_is)) (omega (arith, underway.place_is))
    in
    record {
      at = record {
        last_is = last_is ∙ sym (ap (λ (k : ℕ). slice_index_or (frames ++ x ∷ []) k (silence channels)) behind ∙ get_or-append_seam frames x [] (silence channels));
        place_is = omega (arith, underway.place_is, many, ap (λ (k : ℕ). k * r.input) count, ap (λ (k : ℕ). k * r.output) many);
      };
      appends = record {
        more = output_frames r (frames ++ x ∷ []) (known_count r (length frames)) underway.count;
        longer_is = ap (λ (k : ℕ). output_frames r (frames ++ x ∷ []) 0 k) count
            ∙ (output_frames-add r (frames ++ x ∷ []) (known_count r (length frames)) underway.count
            ∙ ap (λ xs. xs ++ output_frames r (frames ++ x ∷ []) (known_count r (length frames)) underway.count) (output_frames-known r frames x rates));
        new_is = underway.new_is;
      };
    }

-- all that lies after the last frame is appended
pub Appends-end : (r : RatePair) (frames : List (List ℤ)) (place : ℕ) (old new : List ℤ) → AreRates r → IsUnderway r frames (length frames) place old new
    → r.output ≤ place → place < r.input + r.output → Appends (known_samples r frames) (resampled_samples r frames) old new
Appends-end r frames place old new rates underway past near =
    let count : output_count r (length frames) ≡ known_count r (length frames) + underway.count =
    output_count-is r (length frames) (known_count r (length frames) + underway.count) rates.some_input (omega (arith, underway.place_is)) (omega (arith, underway.place_is))
    in
    record {
      more = output_frames r frames (known_count r (length frames)) underway.count;
      longer_is = ap (λ (k : ℕ). output_frames r frames 0 k) count ∙ output_frames-add r frames (known_count r (length frames)) underway.count;
      new_is = underway.new_is;
    }

-- some frames more after others
pub IsAdvance-trans : (r : RatePair) (channels : ℕ) (a b c : List (List ℤ)) (start course : Course) (old mid new : List ℤ) → IsAdvance r channels a b start old mid → IsAdvance r channels b c course mid new
    → IsAdvance r channels a c course old new
IsAdvance-trans r channels a b c start course old mid new first second = record {
  at = second.at;
  appends = Appends-trans (known_samples r a) (known_samples r b) (known_samples r c) old mid new first.appends second.appends;
}

-- what is taken of a list that grew, as much as it had, is the list
pub Extends-cut : (old mid new : List ℤ) (n : ℕ) → Extends old mid → n ≡ length old → new ≡ take n mid → new ≡ old
Extends-cut old mid new n grows is cut =
    cut ∙ (ap (λ (k : ℕ). take k mid) is ∙ (ap (λ (xs : List ℤ). take (length old) xs) grows.new_is ∙ take_at old grows.more (length old) refl))

-- one sample more is taken
pub taken-next : (old mid new xs : List ℤ) (i : ℕ) (z : ℤ) → i < length xs → mid ≡ old ++ take i xs → new ≡ mid ++ z ∷ [] → z ≡ get_or xs i (pos 0) → new ≡ old ++ take (i + 1) xs
taken-next old mid new xs i z within so_far grown is =
    rw (grown, so_far, is, take_more xs i (pos 0) within, append_assoc old (take i xs) (get_or xs i (pos 0) ∷ [])) refl
