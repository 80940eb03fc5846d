-- A report that is printed is read back.
use Rattle.lab_report.specs.Prelude.{ap, arith, bytes_eq, get_or, length, List, Ok, refl, Some, subst, suc, sym, true, zero, ℕ, [], ◌++◌, ◌<◌, ◌∙◌, ◌∷◌, ◌≡◌}
use Rattle.lab_report.specs.Prelude.{◌≢◌, and_parts, lt-ltb, nat_tests, get_or_from_slice_get, bytes_eq-Decides, decimal, AllPairs, list_all, position}
use Rattle.lab_report.specs.Prelude.{position_or_len, slice_get, option_map_or, Segment, weaker, ClientLine, ReaderLine, Script, IsScript, some_or, ◌>>=◌}
use Rattle.lab_report.specs.Prelude.{IsSegmentInRange, IsWide, client_and_rest, played_run, reader_and_rest, run_at, segment_at, segment_end, client_name}
use Rattle.lab_report.specs.Prelude.{reader_name, most_frames}
use Rattle.std.proofs.lemmas.List.Sums.{position_or_len_is}
use Rattle.std.specs.Prelude.{All}
use Rattle.lab_lines.specs.Names.{is_name, is_name_byte}
use Rattle.lab_script.specs.Draft.{is_client, is_reader}
use Rattle.lab_report.proofs.Printed.{in_word, front_word-printed, next_number-printed, bytes_differ, wide}
use Rattle.lab_report.specs.declared.error.ReportWhy.TheVariants as why

name_byte_in_word : (b : ℕ) → is_name_byte b ≡ true → in_word b ≡ true
name_byte_in_word b e = grind (arith, nat_tests)

-- a name is a word
name_in_word : (w : List ℕ) → is_name w ≡ true → list_all in_word w ≡ true
name_in_word w e = weaker is_name_byte in_word name_byte_in_word w (and_parts _ (list_all is_name_byte w) (and_parts _ _ e).0).1

-- the element at a place
element : {X : Type 0} (xs : List X) (n : ℕ) → n < length xs → (x : X) × (slice_get xs n ≡ Some x)
element [] n h = absurd (omega (arith, h))
element (x ∷ xs) zero h = (x, refl)
element (x ∷ xs) (suc n) h = element xs n (omega (arith, h))

-- who is at a place is found there by its name, where those before it have other names, and this name is a word
named : {X : Type 0} (name : X → List ℕ) (xs : List X) (n : ℕ) → n < length xs → All (λ x. is_name (name x) ≡ true) xs → AllPairs (λ a b. name a ≢ name b) xs
    → (position (λ x. bytes_eq (name x) (option_map_or name (slice_get xs n) [])) xs ≡ Some n) × (list_all in_word (option_map_or name (slice_get xs n) []) ≡ true)
named name xs n h form differ =
    let c = element xs n h in
    let at : get_or xs n c.0 ≡ c.0 = get_or_from_slice_get xs n c.0 c.0 c.1 in
    let place : position_or_len (λ x. bytes_eq (name x) (name c.0)) xs ≡ n =
    position_or_len_is (λ x. bytes_eq (name x) (name c.0)) xs n c.0 (omega (arith, h))
    (λ k l. bytes_differ (name (get_or xs k c.0)) (name c.0) (λ e. differ k n c.0 l h (e ∙ ap name (sym at))))
    (λ l. (bytes_eq-Decides (name (get_or xs n c.0)) (name c.0)).1 (ap name at)) in
    rw c.1 (rw (place, lt-ltb n (length xs) h) refl, name_in_word (name c.0) (subst (λ x. is_name (name x) ≡ true) at (form n c.0 h)))

-- a client is found by its name
pub client-found : (script : Script) (n : ℕ) → IsScript script → n < length script.clients
    → (position (is_client (client_name script n)) script.clients ≡ Some n) × (list_all in_word (client_name script n) ≡ true)
client-found script n valid h =
    named (λ (client : ClientLine). client.name) script.clients n h (λ k d l. (valid.each_client k d l).name) valid.clients_differ

-- a reader is found by its name
pub reader-found : (script : Script) (n : ℕ) → IsScript script → n < length script.readers
    → (position (is_reader (reader_name script n)) script.readers ≡ Some n) × (list_all in_word (reader_name script n) ≡ true)
reader-found script n valid h =
    named (λ (reader : ReaderLine). reader.name) script.readers n h (λ k d l. (valid.each_reader k d l).name) valid.readers_differ

-- a client's name is read
client_and_rest-printed : (script : Script) (n : ℕ) (r : List ℕ) → IsScript script → n < length script.clients
    → client_and_rest script (32 ∷ (client_name script n ++ 32 ∷ r)) ≡ Ok (n, 32 ∷ r)
client_and_rest-printed script n r valid h =
    let found = client-found script n valid h in
    ap (λ x. x >>= (λ word. (some_or why.Word (position (is_client word.0) script.clients)) >>= (λ k. Ok (k, word.1)))) (front_word-printed (client_name script n) 32 r found.1 refl)
    ∙ ap (λ o. (some_or why.Word o) >>= (λ k. Ok (k, 32 ∷ r))) found.0

-- a reader's name is read
reader_and_rest-printed : (script : Script) (n : ℕ) (r : List ℕ) → IsScript script → n < length script.readers
    → reader_and_rest script (32 ∷ (reader_name script n ++ 32 ∷ r)) ≡ Ok (n, 32 ∷ r)
reader_and_rest-printed script n r valid h =
    let found = reader-found script n valid h in
    ap (λ x. x >>= (λ word. (some_or why.Word (position (is_reader word.0) script.readers)) >>= (λ k. Ok (k, word.1)))) (front_word-printed (reader_name script n) 32 r found.1 refl)
    ∙ ap (λ o. (some_or why.Word o) >>= (λ k. Ok (k, 32 ∷ r))) found.0

-- a segment's line, after its first word
abbrev pub segment_rest : Script → ℕ → Segment → List ℕ
segment_rest script client s =
    32 ∷ (client_name script client ++ 32 ∷ (decimal s.source ++ 32 ∷ (decimal s.card ++ 32 ∷ (decimal s.whole ++ 32 ∷ (decimal s.part ++ 10 ∷ [])))))

pub segment_at-printed : (script : Script) (client : ℕ) (s : Segment) → IsScript script → client < length script.clients → IsSegmentInRange s
    → segment_at script (segment_rest script client s) ≡ Ok (client, s)
unfolding segment_at segment_end
segment_at-printed script client s valid h n =
    let small : IsWide s.part = omega (arith, n.part) in
    rw (
      client_and_rest-printed script client (decimal s.source ++ 32 ∷ (decimal s.card ++ 32 ∷ (decimal s.whole ++ 32 ∷ (decimal s.part ++ 10 ∷ [])))) valid h,
      next_number-printed most_frames s.source 32 (decimal s.card ++ 32 ∷ (decimal s.whole ++ 32 ∷ (decimal s.part ++ 10 ∷ []))) (wide s.source n.source) n.source refl,
      next_number-printed most_frames s.card 32 (decimal s.whole ++ 32 ∷ (decimal s.part ++ 10 ∷ [])) (wide s.card n.card) n.card refl,
      next_number-printed most_frames s.whole 32 (decimal s.part ++ 10 ∷ []) (wide s.whole n.whole) n.whole refl,
      next_number-printed 255 s.part 10 [] n.part small refl,
    ) refl

-- a run's line, after its first word
abbrev pub run_rest : Script → ℕ → ℕ → ℕ → List ℕ
run_rest script reader first count = 32 ∷ (reader_name script reader ++ 32 ∷ (decimal first ++ 32 ∷ (decimal count ++ 10 ∷ [])))

pub played_run-printed : (first count : ℕ) → IsWide first → IsWide count → played_run (32 ∷ (decimal first ++ 32 ∷ (decimal count ++ 10 ∷ []))) ≡ Ok (first, count)
unfolding played_run
played_run-printed first count f c =
    rw (
      next_number-printed most_frames first 32 (decimal count ++ 10 ∷ []) (wide first f) f refl,
      next_number-printed most_frames count 10 [] (wide count c) c refl,
    ) refl

pub run_at-printed : (script : Script) (reader first count : ℕ) → IsScript script → reader < length script.readers → IsWide first → IsWide count
    → run_at script (run_rest script reader first count) ≡ Ok (reader, first, count)
unfolding run_at
run_at-printed script reader first count valid h f c =
    rw (
      reader_and_rest-printed script reader (decimal first ++ 32 ∷ (decimal count ++ 10 ∷ [])) valid h,
      played_run-printed first count f c,
    ) refl
