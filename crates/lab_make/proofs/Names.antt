-- The names of clients and files, and the words of their lines.
use Rattle.lab_make.specs.Prelude.{ap, arith, bytes_eq, List, refl, true, ℕ, [], ◌<◌, ◌==◌, ◌∷◌, ◌≡◌, Decides-eqb, same_from_decides, decimal_injective, digits}
use Rattle.lab_make.specs.Prelude.{is_plain_word-decimal, is_plain_line, is_plain_word, is_file, is_name, file_name, client_name, client_words, frames_written}
use Rattle.lab_make.specs.Prelude.{open_words, write_words}
use Rattle.std.proofs.lemmas.Slice.Eq.{bytes_eq-Decides}
use Rattle.lab_make.proofs.NumberTests.{below_test}

-- the name of a client is a name
pub client_name-is_name : (k : ℕ) → k < 64 → is_name (client_name k) ≡ true
unfolding digits
client_name-is_name k h = below_test (λ j. is_name (client_name j)) 64 k refl h

-- the name of its file is a file's
pub file_name-is_file : (k : ℕ) → k < 64 → is_file (file_name k) ≡ true
unfolding digits
file_name-is_file k h = below_test (λ j. is_file (file_name j)) 64 k refl h

-- both are words
name-plain : (k : ℕ) → k < 64 → is_plain_word (client_name k) ≡ true
unfolding digits
name-plain k h = below_test (λ j. is_plain_word (client_name j)) 64 k refl h

file-plain : (k : ℕ) → k < 64 → is_plain_word (file_name k) ≡ true
unfolding digits
file-plain k h = below_test (λ j. is_plain_word (file_name j)) 64 k refl h

-- the lines of clients
pub client_words-plain : (k : ℕ) → k < 64 → is_plain_line (client_words k) ≡ true
client_words-plain k h = rw (name-plain k h, file-plain k h) refl

pub open_words-plain : (k : ℕ) → k < 64 → is_plain_line (open_words k) ≡ true
open_words-plain k h = rw (name-plain k h) refl

-- how many frames are written
pub frames_written-lt : (turn k : ℕ) → frames_written turn k < 97
frames_written-lt turn k = omega arith

pub write_words-plain : (turn k : ℕ) → k < 64 → is_plain_line (write_words turn k) ≡ true
write_words-plain turn k h = rw (name-plain k h, is_plain_word-decimal (frames_written turn k) (omega (arith, frames_written-lt turn k))) refl

-- a list without its first element
abbrev rest_of : List ℕ → List ℕ
rest_of [] = []
rest_of (x ∷ xs) = xs

-- clients have different names
pub client_name-same : (j k : ℕ) → j < 64 → k < 64 → bytes_eq (client_name j) (client_name k) ≡ (j == k)
client_name-same j k hj hk = same_from_decides (bytes_eq (client_name j) (client_name k)) (j == k) (bytes_eq-Decides (client_name j) (client_name k)) (is, has)
  where
    is : (j == k) ≡ true → client_name j ≡ client_name k
    is e = ap client_name ((Decides-eqb j k).0 e)

    has : client_name j ≡ client_name k → (j == k) ≡ true
    has e = (Decides-eqb j k).1 (decimal_injective j k (omega arith) (omega arith) (ap rest_of e))
