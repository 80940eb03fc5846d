-- How a conversion goes on with more bytes.
use Rattle.plug_chain.specs.Prelude.{ap, append_assoc, arith, drop, Err, length, length-append, List, Ok, refl, Result, subst, suc, sym, zero, ℕ, ℤ, [], ◌*◌}
use Rattle.plug_chain.specs.Prelude.{◌++◌, ◌<◌, ◌∙◌, ◌∷◌, ◌≡◌, ◌≤◌, mul-le-mul, nat_tests, append-nil, drop_at, take_at, length-map-range_with_len, IsErrAnd}
use Rattle.plug_chain.specs.Prelude.{OnOk, Course, Wide, Advances, Ends, IsAdvance, Conversion, frame_bytes, frame_from_bytes, frames_of_bytes, rest_of}
use Rattle.plug_chain.specs.Prelude.{samples_in, Appends, part_bytes, samples_of, Completes, Continues, HasTakenBytes, IsStage, IsCourse, IsRateAt}
use Rattle.plug_chain.specs.Prelude.{known_samples, RatePair, bytes_of, ChannelTable, IsTable, output_channel, output_samples, conversion_of, stage_of}
use Rattle.plug_chain.specs.declared.converter.Converter.{Converter}
use Rattle.plug_chain.specs.declared.converter.Progress.{Progress}
use Rattle.plug_chain.proofs.Courses.{IsAdvance-trans}
use Rattle.plug_chain.proofs.Cuts.{frames_of_bytes-more, frames_of_bytes-short, joined, rest_of-more, rest_of-short}

-- two facts of what was returned
pub on_ok_both : {T E P Q R : Type 0} (r : Result T E) → (P → Q → R) → OnOk r P → OnOk r Q → OnOk r R
on_ok_both (Ok x) f p q = f p q
on_ok_both (Err e) f p q = p

-- what was refused
pub OnOk-err : {T E : Type 0} (P : Type 0) (Q : E → Type 0) (r : Result T E) → IsErrAnd r Q → OnOk r P
OnOk-err P Q (Ok x) is = absurd is
OnOk-err P Q (Err e) is = tt

-- ---- sizes

record IsWidth (n : ℕ) : Type 0 where
  some : 1 ≤ n
  few : n ≤ 4

width_of : (from : Wide) → IsWidth (bytes_of from)
width_of from = grind (arith, nat_tests)

pub frame_bytes-some : (c : Conversion) → IsTable c.table → 1 ≤ frame_bytes c
frame_bytes-some c table = let h : 1 * 1 ≤ c.table.inputs * bytes_of c.from = mul-le-mul table.some_input (width_of c.from).some in omega (arith, h)

pub frame_bytes-few : (c : Conversion) → IsTable c.table → frame_bytes c ≤ 32
frame_bytes-few c table = let h : c.table.inputs * bytes_of c.from ≤ 8 * 4 = mul-le-mul table.few_inputs (width_of c.from).few in omega (arith, h)

pub length-samples_in : (from : Wide) (n : ℕ) (bytes : List ℕ) → length (samples_in from n bytes) ≡ n
length-samples_in from zero bytes = refl
length-samples_in from (suc n) bytes = ap suc (length-samples_in from n (drop (bytes_of from) bytes))

pub length-output_samples : (t : ChannelTable) (samples : List ℤ) → length (output_samples t samples) ≡ t.outputs
unfolding output_samples
length-output_samples t samples = length-map-range_with_len (output_channel t samples) 0 t.outputs

-- ---- more frames

pub Advances-none : (r : RatePair) (channels : ℕ) (course : Course) (old : List ℤ) → Advances r channels [] course course old old
Advances-none r channels course old = λ frames at.
    subst (λ (xs : List (List ℤ)). IsAdvance r channels frames xs course old old) (sym (append-nil frames))
    (record { at = at; appends = record { more = []; longer_is = sym (append-nil _); new_is = sym (append-nil old) } })

pub Advances-trans : (r : RatePair) (channels : ℕ) (first : List ℤ) (more : List (List ℤ)) (start middle course : Course) (old mid new : List ℤ)
    → Advances r channels (first ∷ []) start middle old mid → Advances r channels more middle course mid new → Advances r channels (first ∷ more) start course old new
Advances-trans r channels first more start middle course old mid new one rest = λ frames at.
    let first_goes = one frames at in
    let rest_goes = rest (frames ++ first ∷ []) first_goes.at in
    subst (λ (xs : List (List ℤ)). IsAdvance r channels frames xs course old new) (append_assoc frames (first ∷ []) more)
    (IsAdvance-trans r channels frames (frames ++ first ∷ []) ((frames ++ first ∷ []) ++ more) middle course old mid new first_goes rest_goes)

-- ---- more bytes

-- what the begun frame and the bytes after it give, whatever came before
pub Continues-by : (v : Converter) (p q : Progress) (bytes : List ℕ) (old new : List ℤ) → IsTable v.table
    → Advances v.rates v.table.outputs (frames_of_bytes (conversion_of v) (part_bytes p.part ++ bytes)) p.course q.course old new
    → part_bytes q.part ≡ rest_of (conversion_of v) (part_bytes p.part ++ bytes)
    → Continues (stage_of v p) (stage_of v q) bytes old new
Continues-by v p q bytes old new table advances part =
    let c : Conversion = conversion_of v in
    let some : 1 ≤ frame_bytes (conversion_of v) = frame_bytes-some (conversion_of v) table in
    let all : (fed : List ℕ) → HasTakenBytes (stage_of v p) fed → frames_of_bytes (conversion_of v) (fed ++ bytes) ≡ frames_of_bytes (conversion_of v) fed ++ frames_of_bytes (conversion_of v) (part_bytes p.part ++ bytes) =
    λ fed taken. (joined (conversion_of v) fed bytes some).frames
    ∙ ap (λ (xs : List ℕ). frames_of_bytes (conversion_of v) fed ++ frames_of_bytes (conversion_of v) (xs ++ bytes)) (sym taken.part)
    in
    record {
      conversion = refl;
      stage = λ fed taken. record {
        part = part ∙ (ap (λ (xs : List ℕ). rest_of (conversion_of v) (xs ++ bytes)) taken.part ∙ sym (joined (conversion_of v) fed bytes some).rest);
        course = subst (λ (xs : List (List ℤ)). IsRateAt v.rates v.table.outputs xs (samples_of q.course.last) q.course.place) (sym (all fed taken)) (advances (frames_of_bytes (conversion_of v) fed) taken.course).at;
      };
      appends = λ fed taken.
          subst (λ (xs : List (List ℤ)). Appends (known_samples v.rates (frames_of_bytes (conversion_of v) fed)) (known_samples v.rates xs) old new) (sym (all fed taken)) (advances (frames_of_bytes (conversion_of v) fed) taken.course).appends;
    }

-- bytes from the beginning of a frame on
pub Continues-whole : (v : Converter) (p q : Progress) (bytes : List ℕ) (old new : List ℤ) → IsTable v.table → part_bytes p.part ≡ []
    → Advances v.rates v.table.outputs (frames_of_bytes (conversion_of v) bytes) p.course q.course old new → part_bytes q.part ≡ rest_of (conversion_of v) bytes
    → Continues (stage_of v p) (stage_of v q) bytes old new
Continues-whole v p q bytes old new table none advances part =
    let all : bytes ≡ part_bytes p.part ++ bytes = ap (λ (xs : List ℕ). xs ++ bytes) (sym none) in
    Continues-by v p q bytes old new table
    (subst (λ (xs : List ℕ). Advances v.rates v.table.outputs (frames_of_bytes (conversion_of v) xs) p.course q.course old new) all advances)
    (part ∙ ap (rest_of (conversion_of v)) all)

-- bytes that end within the begun frame
pub Continues-short : (v : Converter) (p q : Progress) (bytes : List ℕ) (old : List ℤ) → IsTable v.table → part_bytes q.part ≡ part_bytes p.part ++ bytes
    → length (part_bytes q.part) < frame_bytes (conversion_of v) → q.course ≡ p.course → Continues (stage_of v p) (stage_of v q) bytes old old
Continues-short v p q bytes old table part short same =
    let short_all : length (part_bytes p.part ++ bytes) < frame_bytes (conversion_of v) = subst (λ (xs : List ℕ). length xs < frame_bytes (conversion_of v)) part short in
    Continues-by v p q bytes old old table
    (subst (λ (xs : List (List ℤ)). Advances v.rates v.table.outputs xs p.course q.course old old) (sym (frames_of_bytes-short (conversion_of v) (part_bytes p.part ++ bytes) short_all))
    (subst (λ (x : Course). Advances v.rates v.table.outputs [] p.course x old old) (sym same) (Advances-none v.rates v.table.outputs p.course old)))
    (part ∙ sym (rest_of-short (conversion_of v) (part_bytes p.part ++ bytes) short_all))

-- bytes that fill the begun frame, and bytes after them
pub Continues-full : (v : Converter) (p q : Progress) (filled behind bytes : List ℕ) (middle : Course) (old mid new : List ℤ) → IsTable v.table
    → filled ++ behind ≡ part_bytes p.part ++ bytes → length filled ≡ frame_bytes (conversion_of v)
    → Advances v.rates v.table.outputs (frame_from_bytes (conversion_of v) filled ∷ []) p.course middle old mid
    → Advances v.rates v.table.outputs (frames_of_bytes (conversion_of v) behind) middle q.course mid new
    → part_bytes q.part ≡ rest_of (conversion_of v) behind
    → Continues (stage_of v p) (stage_of v q) bytes old new
Continues-full v p q filled behind bytes middle old mid new table all whole first more part =
    let some : 1 ≤ frame_bytes (conversion_of v) = frame_bytes-some (conversion_of v) table in
    let enough : frame_bytes (conversion_of v) ≤ length (filled ++ behind) = omega (arith, whole, length-append filled behind) in
    let front = take_at filled behind (frame_bytes (conversion_of v)) whole in
    let back = drop_at filled behind (frame_bytes (conversion_of v)) whole in
    let frames : frames_of_bytes (conversion_of v) (filled ++ behind) ≡ frame_from_bytes (conversion_of v) filled ∷ frames_of_bytes (conversion_of v) behind =
    rw (frames_of_bytes-more (conversion_of v) (filled ++ behind) some enough, front, back) refl in
    let rest : rest_of (conversion_of v) (filled ++ behind) ≡ rest_of (conversion_of v) behind = rw (rest_of-more (conversion_of v) (filled ++ behind) some enough, back) refl in
    Continues-by v p q bytes old new table
    (subst (λ (xs : List (List ℤ)). Advances v.rates v.table.outputs xs p.course q.course old new) (sym frames ∙ ap (frames_of_bytes (conversion_of v)) all)
    (Advances-trans v.rates v.table.outputs (frame_from_bytes (conversion_of v) filled) (frames_of_bytes (conversion_of v) behind) p.course middle q.course old mid new first more))
    (part ∙ (sym rest ∙ ap (rest_of (conversion_of v)) all))

-- no bytes
pub HasTakenBytes-none : (v : Converter) (p : Progress) → IsTable v.table → part_bytes p.part ≡ [] → IsRateAt v.rates v.table.outputs [] (samples_of p.course.last) p.course.place
    → HasTakenBytes (stage_of v p) []
HasTakenBytes-none v p table none at =
    let short : length {A = ℕ} [] < frame_bytes (conversion_of v) = frame_bytes-some (conversion_of v) table in
    record {
      part = none ∙ sym (rest_of-short (conversion_of v) [] short);
      course = subst (λ (xs : List (List ℤ)). IsRateAt v.rates v.table.outputs xs (samples_of p.course.last) p.course.place) (sym (frames_of_bytes-short (conversion_of v) [] short)) at;
    }

-- ---- the end

-- what is left of a course is what is left of the conversion
pub Completes-ends : (v : Converter) (p : Progress) (old new : List ℤ) → IsStage (stage_of v p) → Ends v.rates (length (samples_of p.course.last)) p.course old new → Completes (stage_of v p) old new
Completes-ends v p old new stage ends fed taken = grind (arith, nat_tests)

-- a stage at the beginning of a frame, on a course that goes on
pub IsStage-empty : (v : Converter) (p q : Progress) → IsStage (stage_of v p) → part_bytes q.part ≡ [] → IsCourse v.rates v.table.outputs (samples_of q.course.last) q.course.place → IsStage (stage_of v q)
IsStage-empty v p q stage none course = grind (arith, nat_tests)

-- a stage with more of a frame begun, and the same course
pub IsStage-part : (v : Converter) (p q : Progress) → IsStage (stage_of v p) → length (part_bytes q.part) < frame_bytes (conversion_of v) → q.course ≡ p.course → IsStage (stage_of v q)
IsStage-part v p q stage short same = grind (arith, nat_tests)
