-- An actor's part, with one line more; and the lines that make no call.
use Rattle.lab_run.specs.Prelude.{ap, arith, refl, ℕ, nat_tests, List, [], ◌++◌, ◌∷◌, Geometry, Sound, Row, PartsGrow, ClientLinesWithoutCall, Kind}
use Rattle.lab_run.specs.Prelude.{ReaderLinesWithoutCall}

pub parts-grow : {S : Type 0} (kind : Kind S) (ring : Geometry) → PartsGrow kind ring
parts-grow {S = S} kind ring before between after [] rows asked answer part done =
    (after, answer, [], rw part.0 at done, (refl, refl), rw part.1 refl)
parts-grow {S = S} kind ring before between after (first ∷ more) rows asked answer (middle, given, others, one, part, is) done = (
  middle,
  given,
  others ++ kind.row asked after.0.1 answer ∷ [],
  one,
  parts-grow kind ring middle between after more others asked answer part done,
  ap (λ (list : List Row). list ++ kind.row asked after.0.1 answer ∷ []) is,
)

-- the lines that make no call, of a client and of a reader
pub client-lines_without : (ring : Geometry) (phase : ℕ) (wav : Sound) (number : ℕ) → ClientLinesWithoutCall ring phase wav number
client-lines_without ring phase wav number = grind (arith, nat_tests)

pub reader-lines_without : (ring : Geometry) (phase number : ℕ) → ReaderLinesWithoutCall ring phase number
reader-lines_without ring phase number = grind (arith, nat_tests)
