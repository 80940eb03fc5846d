-- What a course of frames adds to the samples that go out.
use Rattle.std.specs.Prelude.{◌++◌, List, ℕ, ℤ}
use Rattle.plug_chain.specs.declared.interpolation.Course.{Course}
use Rattle.plug_chain.specs.Growth.{Appends}
use Rattle.plug_chain.specs.Held.{samples_of}
use Rattle.plug_chain.specs.Rates.{RatePair, IsRateAt, IsCourse, known_samples, resampled_samples}

-- whichever frames came before, after these frames more the course is that of them all, and what is known grew by what was appended
pub record IsAdvance (r : RatePair) (channels : ℕ) (before after : List (List ℤ))
    (course : Course) (old new : List ℤ) : Type 0 where
  pub at : IsRateAt r channels after (samples_of course.last) course.place
  pub appends : Appends (known_samples r before) (known_samples r after) old new

-- a course lies where one can lie at these rates and with so many channels
abbrev pub IsOn : RatePair → ℕ → Course → Type 0
IsOn r channels course = IsCourse r channels (samples_of course.last) course.place

-- a course that comes from these frames
abbrev pub IsCourseAfter : RatePair → ℕ → List (List ℤ) → Course → Type 0
IsCourseAfter r channels frames course = IsRateAt r channels frames (samples_of course.last) course.place

-- frames more led from a course to another, and to what was appended, whichever frames came before
abbrev pub Advances : RatePair → ℕ → List (List ℤ) → Course → Course → List ℤ → List ℤ → Type 0
Advances r channels more start course old new =
    (frames : List (List ℤ)) → IsCourseAfter r channels frames start
    → IsAdvance r channels frames (frames ++ more) course old new

-- what is left of a conversion was appended, whichever frames led to its course
abbrev pub Ends : RatePair → ℕ → Course → List ℤ → List ℤ → Type 0
Ends r channels course old new =
    (frames : List (List ℤ)) → IsCourseAfter r channels frames course
    → Appends (known_samples r frames) (resampled_samples r frames) old new
