-- How the entries of a segment grow by what a commit places.
use Rattle.mix_core.specs.declared.port.Kind.TheVariants.{Added}
use Rattle.std.specs.Prelude.{◌≡◌, ℕ, ◌+◌, ◌<◌, ◌≤◌, nat_lt, if◌then◌else◌, ℤ, List, [], ◌∷◌, ◌++◌, length, map, slice_index, take}
use Rattle.std.specs.List.{flat_map, range_with_len}
use Rattle.std.proofs.Common.{suc, zero, ◌∙◌, ap, sym, refl, subst, arith, get_or, zero-add, append_assoc}
use Rattle.std.proofs.lemmas.Bool.Decides.{nat_tests}
use Rattle.std.proofs.lemmas.List.{append-nil, get_or-take, length-take}
use Rattle.std.proofs.lemmas.List.Concat.{flat_map-append}
use Rattle.mix_core.specs.declared.port.Entry.{Entry}
use Rattle.bindings.specs.Bound.{AreBindings, rising}
use Rattle.bindings.specs.RisingLaws.{length-rising, rising-within}
use Rattle.dmix_client.specs.Expansion.{frame_entries, run_entries}

-- n numbers and then k more
pub range_with_len-append : (a n k : ℕ) → range_with_len a (n + k) ≡ range_with_len a n
    ++ range_with_len (a + n) k
range_with_len-append a zero k = ap (range_with_len a) (zero-add k) ∙ ap (λ (b : ℕ). range_with_len b k) (let same : a ≡ a + 0 = omega arith in same)
range_with_len-append a (suc n) k =
    ap (range_with_len a) (let same : suc n + k ≡ suc (n + k) = omega arith in same)
    ∙ ap (λ (ks : List ℕ). a ∷ ks) (range_with_len-append (a + 1) n k ∙ ap (λ (b : ℕ). range_with_len (a + 1) n ++ range_with_len b k) (omega arith))

-- a run of whole frames, and the run after it
pub run_entries-append : (member : ℕ) (bindings : List ℕ) (sample_of : ℕ → ℕ → ℤ)
    (card first n k part : ℕ)
    → run_entries member bindings sample_of card first (n + k) part
    ≡ run_entries member bindings sample_of card first n 0
    ++ run_entries member bindings sample_of card (first + n) k part
run_entries-append member bindings sample_of card first n k part =
    let frame : ℕ → List Entry = λ j. frame_entries member bindings (sample_of j) (length bindings) (card + j) in
    let rest : ℕ → List Entry = λ j. frame_entries member bindings (sample_of j) part (card + j) in
    let whole : flat_map frame (range_with_len first (n + k)) ≡ flat_map frame (range_with_len first n) ++ flat_map frame (range_with_len (first + n) k) =
    ap (flat_map frame) (range_with_len-append first n k) ∙ flat_map-append frame (range_with_len first n) (range_with_len (first + n) k) in
    let at : first + (n + k) ≡ first + n + k = omega arith in
    ap (λ (es : List Entry). es ++ rest (first + (n + k))) whole
    ∙ append_assoc (flat_map frame (range_with_len first n)) (flat_map frame (range_with_len (first + n) k)) (rest (first + (n + k)))
    ∙ ap (λ (j : ℕ). flat_map frame (range_with_len first n) ++ (flat_map frame (range_with_len (first + n) k) ++ rest j)) at
    ∙ ap (λ (es : List Entry). es ++ (flat_map frame (range_with_len (first + n) k) ++ rest (first + n + k)))
    (sym (append-nil (flat_map frame (range_with_len first n))))

-- two functions that agree on a list's elements give one list
pub map-same : {X : Type 0} (f g : ℕ → X) (xs : List ℕ)
    → ((k : ℕ) → k < length xs → f (get_or xs k 0) ≡ g (get_or xs k 0)) → map f xs ≡ map g xs
map-same f g [] same = refl
map-same f g (x ∷ xs) same = cc (same 0 (omega arith), map-same f g xs (λ k h. same (suc k) (omega arith)))

-- a frame's entries are given by the samples of the client's channels
pub frame_entries-same : (member : ℕ) (bindings : List ℕ) (s t : ℕ → ℤ) (channels card : ℕ)
    → AreBindings bindings
    → ((q : ℕ) → q < length bindings → s q ≡ t q)
    → frame_entries member bindings s channels card ≡ frame_entries member bindings t channels card
frame_entries-same member bindings s t channels card are same =
    let entry : (ℕ → ℤ) → ℕ → Entry = λ u q. record { member = member; frame = card; channel = slice_index bindings q; sample = u q; kind = Added } in
    map-same (entry s) (entry t) (take channels (rising bindings)) (λ k within.
    let low : k < channels = omega (arith, length-take channels (rising bindings)) in
    let in_range : k < length bindings = omega (arith, length-take channels (rising bindings), length-rising bindings are) in
    let is : get_or (take channels (rising bindings)) k 0 ≡ get_or (rising bindings) k 0 = get_or-take channels (rising bindings) k 0 low in
    let here : s (get_or (rising bindings) k 0) ≡ t (get_or (rising bindings) k 0) = same (get_or (rising bindings) k 0)
    (rising-within bindings k are in_range) in
    let one : entry s (get_or (rising bindings) k 0) ≡ entry t (get_or (rising bindings) k 0) = ap (λ (x : ℤ). let e :
    Entry = record { member = member; frame = card; channel = slice_index bindings (get_or (rising bindings) k 0); sample = x; kind = Added } in e) here in
    subst (λ q. entry s q ≡ entry t q) (sym is) one)

flat_map-same : (f g : ℕ → List Entry) (a n : ℕ) → ((j : ℕ) → a ≤ j → j < a + n → f j ≡ g j)
    → flat_map f (range_with_len a n) ≡ flat_map g (range_with_len a n)
flat_map-same f g a zero same = refl
flat_map-same f g a (suc n) same =
    ap (λ (es : List Entry). es ++ flat_map f (range_with_len (a + 1) n)) (same a (omega arith) (omega arith))
    ∙ ap (λ (es : List Entry). g a ++ es) (flat_map-same f g (a + 1) n (λ j least most. same j (omega arith) (omega arith)))

-- the frames up to the end of a run: one more where a channel of it was placed
abbrev pub frames_used : ℕ → ℕ → ℕ
frames_used whole part = if nat_lt 0 part then whole + 1 else whole

part-same : (member : ℕ) (bindings : List ℕ) (s t : ℕ → ℤ) (part card : ℕ) → AreBindings bindings
    → (0 < part → (q : ℕ) → q < length bindings → s q ≡ t q)
    → frame_entries member bindings s part card ≡ frame_entries member bindings t part card
part-same member bindings s t zero card are same = refl
part-same member bindings s t (suc part) card are same = frame_entries-same member bindings s t (suc part) card are (same (omega arith))

-- a run has the same entries by two lists of samples that agree on its frames
pub run_entries-same : (member : ℕ) (bindings : List ℕ) (s t : ℕ → ℕ → ℤ)
    (card first whole part : ℕ) → AreBindings bindings
    → ((j q : ℕ) → first ≤ j → j < first + frames_used whole part → q < length bindings
    → s j q ≡ t j q)
    → run_entries member bindings s card first whole part
    ≡ run_entries member bindings t card first whole part
run_entries-same member bindings s t card first whole part are same =
    let frames : flat_map (λ j. frame_entries member bindings (s j) (length bindings) (card + j)) (range_with_len first whole)
    ≡ flat_map (λ j. frame_entries member bindings (t j) (length bindings) (card + j)) (range_with_len first whole) =
    flat_map-same (λ j. frame_entries member bindings (s j) (length bindings) (card + j)) (λ j. frame_entries member bindings (t j)
    (length bindings) (card + j)) first whole
    (λ j least most. frame_entries-same member bindings (s j) (t j) (length bindings) (card + j) are (λ q h. same j q least (grind (arith, nat_tests)) h)) in
    let last : frame_entries member bindings (s (first + whole)) part (card + (first + whole)) ≡ frame_entries member bindings (t (first + whole)) part
    (card + (first + whole)) =
    part-same member bindings (s (first + whole)) (t (first + whole)) part (card + (first + whole)) are
    (λ some q h. same (first + whole) q (omega arith) (grind (arith, nat_tests)) h) in
    ap (λ (es : List Entry). es ++ frame_entries member bindings (s (first + whole)) part (card + (first + whole))) frames
    ∙ ap (λ (es : List Entry). flat_map (λ j. frame_entries member bindings (t j) (length bindings) (card + j)) (range_with_len first whole) ++ es) last
