-- How far a run over the frames of some bytes has come.
use Rattle.plug_chain.specs.Prelude.{ap, append_assoc, drop, length, List, subst, suc, sym, take, ℕ, ℤ, [], ◌++◌, ◌<◌, ◌∙◌, ◌∷◌, ◌≡◌, ◌≤◌, append-nil, Course}
use Rattle.plug_chain.specs.Prelude.{Wide, Advances, IsAdvance, Conversion, frame_bytes, frame_from_bytes, frames_of_bytes, samples_in, bytes_of, wide_sample}
use Rattle.plug_chain.proofs.Courses.{IsAdvance-trans}
use Rattle.plug_chain.proofs.Cuts.{frames_of_bytes-more, frames_of_bytes-short}

-- from some frames to others, which with those of the rest are all
pub record HasReached (c : Conversion) (frames : List (List ℤ)) (bytes rest : List ℕ) (course : Course) (old new : List ℤ) : Type 0 where
  pub reached : List (List ℤ)
  pub goes : IsAdvance c.rates c.table.outputs frames reached course old new
  pub left : reached ++ frames_of_bytes c rest ≡ frames ++ frames_of_bytes c bytes

pub HasReached-more : (c : Conversion) (frames : List (List ℤ)) (bytes rest : List ℕ) (start course : Course) (old mid new : List ℤ) → 1 ≤ frame_bytes c → frame_bytes c ≤ length rest
    → HasReached c frames bytes rest start old mid → Advances c.rates c.table.outputs (frame_from_bytes c (take (frame_bytes c) rest) ∷ []) start course mid new
    → HasReached c frames bytes (drop (frame_bytes c) rest) course old new
HasReached-more c frames bytes rest start course old mid new some enough so_far advances =
    let one : List (List ℤ) = frame_from_bytes c (take (frame_bytes c) rest) ∷ [] in
    record {
      reached = so_far.reached ++ one;
      goes = IsAdvance-trans c.rates c.table.outputs frames so_far.reached (so_far.reached ++ one) start course old mid new so_far.goes
          (advances so_far.reached so_far.goes.at);
      left = rw (append_assoc so_far.reached one (frames_of_bytes c (drop (frame_bytes c) rest)), ← frames_of_bytes-more c rest some enough) so_far.left;
    }

pub HasReached-end : (c : Conversion) (frames : List (List ℤ)) (bytes rest : List ℕ) (course : Course) (old new : List ℤ) → length rest < frame_bytes c
    → HasReached c frames bytes rest course old new → IsAdvance c.rates c.table.outputs frames (frames ++ frames_of_bytes c bytes) course old new
HasReached-end c frames bytes rest course old new short so_far =
    let all : so_far.reached ≡ frames ++ frames_of_bytes c bytes = sym (ap (λ xs. so_far.reached ++ xs) (frames_of_bytes-short c rest short) ∙ append-nil so_far.reached) ∙ so_far.left in
    subst (λ xs. IsAdvance c.rates c.table.outputs frames xs course old new) all so_far.goes

-- one sample more of a frame
pub samples_in-step : (from : Wide) (m k : ℕ) (rest : List ℕ) (xs all : List ℤ) (x : ℤ) → m ≡ suc k → x ≡ wide_sample from (take (bytes_of from) rest) → xs ++ samples_in from m rest ≡ all
    → (xs ++ x ∷ []) ++ samples_in from k (drop (bytes_of from) rest) ≡ all
samples_in-step from m k rest xs all x more is so_far =
    rw (append_assoc xs (x ∷ []) (samples_in from k (drop (bytes_of from) rest)), is) (rw more at so_far)
