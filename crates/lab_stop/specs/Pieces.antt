-- A file that is fetched piece by piece: what is known of it after some pieces.
--     IsFetched      the bytes so far are the first of a file, and all of it after the last piece
--     IsBegun      the same, or nothing is fetched yet
--     IsFetched-next      one piece more is fetched
--     IsFetched-most      the first bytes of a file, once enough of them are fetched
--     IsFetched-rest      the bytes of a file, of which some are fetched
--     refused_alike      a file isn't there, whatever is fetched of it
--     whole_refused      the same of the whole file
use Rattle.std.proofs.Common.{◌≡◌, ℕ, ◌<◌, ◌≤◌, ◌⊎◌, true, false, List, [], ◌++◌, length, take, drop, sym, ap, refl, inl, inr, ◌∙◌, arith}
use Rattle.std.proofs.lemmas.Bool.{cases_lt}
use Rattle.std.proofs.lemmas.List.{length-take, length-append, take-append-drop, take_all, take_min, take-take}
use Rattle.std.proofs.Math.Seq.{take-add}
use Rattle.std.specs.Prelude.{Bool, Option, Some, None, Ok, Err}
use Rattle.std.specs.Option.{option_map}
use Rattle.lab_shelf.specs.Files.{Files, bytes_under}
use Rattle.lab_stop.specs.Causes.{Cause, bytes_or_cause, first_bytes, fetched_from, content_in, piece_bytes}

-- the bytes so far are the first of a file, and all of it after the last piece
pub record IsFetched (files : Files) (name bytes : List ℕ) (last : Bool) : Type 0 where
  pub first : first_bytes files name (length bytes) ≡ Ok bytes
  pub whole : last ≡ true → content_in files name ≡ Ok bytes

-- nothing is fetched yet, or the bytes so far are the first of a file
abbrev pub IsBegun : Files → List ℕ → List ℕ → Bool → Type 0
IsBegun files name bytes last = ((bytes ≡ []) × (last ≡ false)) ⊎ IsFetched files name bytes last

-- ---- lists

-- the first part of a list, by its length
take_taken : (n : ℕ) (xs : List ℕ) → take (length (take n xs)) xs ≡ take n xs
take_taken n xs = ap (λ (k : ℕ). take k xs) (length-take n xs) ∙ take_min n xs

-- a first part that is shorter than it may be is all
short_all : (n : ℕ) (xs : List ℕ) → length (take n xs) < n → take n xs ≡ xs
short_all n xs short =
    elim (cases_lt n (length xs)) [
      | inl long ↦ absurd (omega (arith, length-take n xs, short, long))
      | inr all ↦ take_all n xs all
    ]

-- the first bytes, and the next piece after them
first_more : (n : ℕ) (content bytes piece : List ℕ) → take (length bytes) content ≡ bytes
    → take n (drop (length bytes) content) ≡ piece → take (length (bytes ++ piece)) content ≡ bytes ++ piece
first_more n content bytes piece first next =
    ap (λ (k : ℕ). take k content) (length-append bytes piece)
    ∙ take-add (length bytes) (length piece) content
    ∙ ap (λ (b : List ℕ). b ++ take (length piece) (drop (length bytes) content)) first
    ∙ ap (λ (p : List ℕ). bytes ++ take (length p) (drop (length bytes) content)) (sym next)
    ∙ ap (λ (p : List ℕ). bytes ++ p) (take_taken n (drop (length bytes) content) ∙ next)

-- after a short piece there is nothing
first_all : (n : ℕ) (content bytes piece : List ℕ) → take (length bytes) content ≡ bytes
    → take n (drop (length bytes) content) ≡ piece → length piece < n → content ≡ bytes ++ piece
first_all n content bytes piece first next short =
    sym (take-append-drop (length bytes) content)
    ∙ ap (λ (b : List ℕ). b ++ drop (length bytes) content) first
    ∙ ap (λ (p : List ℕ). bytes ++ p) (sym (short_all n (drop (length bytes) content) (omega (arith, ap length next, short))) ∙ next)

-- the first bytes of the first bytes
first_most : (most : ℕ) (content bytes : List ℕ) → take (length bytes) content ≡ bytes → most ≤ length bytes → take most content ≡ take most bytes
first_most most content bytes first enough =
    sym (take-take most (length bytes) content enough) ∙ ap (λ (b : List ℕ). take most b) first

-- ---- files

-- the bytes so far are the first of what a file holds, if it is there
abbrev IsFirst : Option (List ℕ) → List ℕ → Type 0
IsFirst content bytes = (c : List ℕ) → content ≡ Some c → take (length bytes) c ≡ bytes

first_fetched : (content : Option (List ℕ)) (name bytes : List ℕ)
    → bytes_or_cause name (option_map (λ (c : List ℕ). take (length bytes) (drop 0 c)) content) ≡ Ok bytes → IsFirst content bytes
first_fetched None name bytes first c is = absurd (cc)
first_fetched (Some content) name bytes first c is =
    let same : c ≡ content = cc in
    let taken : take (length bytes) content ≡ bytes = cc in
    ap (λ (b : List ℕ). take (length bytes) b) same ∙ taken

first_begun : (files : Files) (name bytes : List ℕ) (last : Bool) → IsBegun files name bytes last → IsFirst (bytes_under files name) bytes
first_begun files name bytes last (inl none) c is =
    ap (λ (b : List ℕ). take (length b) c) none.0 ∙ sym none.0
first_begun files name bytes last (inr so_far) c is = first_fetched (bytes_under files name) name bytes so_far.first c is

next_first : (content : Option (List ℕ)) (name bytes piece : List ℕ) → IsFirst content bytes
    → bytes_or_cause name (option_map (λ (c : List ℕ). take piece_bytes (drop (length bytes) c)) content) ≡ Ok piece
    → bytes_or_cause name (option_map (λ (c : List ℕ). take (length (bytes ++ piece)) (drop 0 c)) content) ≡ Ok (bytes ++ piece)
next_first None name bytes piece first next = absurd (cc)
next_first (Some content) name bytes piece first next =
    let taken : take piece_bytes (drop (length bytes) content) ≡ piece = cc in
    ap Ok (first_more piece_bytes content bytes piece (first content refl) taken)

next_whole : (content : Option (List ℕ)) (name bytes piece : List ℕ) → IsFirst content bytes
    → bytes_or_cause name (option_map (λ (c : List ℕ). take piece_bytes (drop (length bytes) c)) content) ≡ Ok piece
    → length piece < piece_bytes → bytes_or_cause name content ≡ Ok (bytes ++ piece)
next_whole None name bytes piece first next short = absurd (cc)
next_whole (Some content) name bytes piece first next short =
    let taken : take piece_bytes (drop (length bytes) content) ≡ piece = cc in
    ap Ok (first_all piece_bytes content bytes piece (first content refl) taken short)

-- one piece more is fetched
pub IsFetched-next : (files : Files) (name bytes piece : List ℕ) (last then_last : Bool) → IsBegun files name bytes last
    → fetched_from files name (length bytes) piece_bytes ≡ Ok piece
    → (then_last ≡ true → length piece < piece_bytes) → IsFetched files name (bytes ++ piece) then_last
IsFetched-next files name bytes piece last then_last so_far next short = record {
  first = next_first (bytes_under files name) name bytes piece (first_begun files name bytes last so_far) next;
  whole = λ is. next_whole (bytes_under files name) name bytes piece (first_begun files name bytes last so_far) next (short is);
}

most_of : (content : Option (List ℕ)) (name bytes : List ℕ) (most : ℕ)
    → bytes_or_cause name (option_map (λ (c : List ℕ). take (length bytes) (drop 0 c)) content) ≡ Ok bytes → most ≤ length bytes
    → bytes_or_cause name (option_map (λ (c : List ℕ). take most (drop 0 c)) content) ≡ Ok (take most bytes)
most_of None name bytes most first enough = absurd (cc)
most_of (Some content) name bytes most first enough =
    let taken : take (length bytes) content ≡ bytes = cc in
    ap Ok (first_most most content bytes taken enough)

whole_of : (content : Option (List ℕ)) (name bytes : List ℕ) (most : ℕ) → bytes_or_cause name content ≡ Ok bytes
    → bytes_or_cause name (option_map (λ (c : List ℕ). take most (drop 0 c)) content) ≡ Ok (take most bytes)
whole_of None name bytes most whole = absurd (cc)
whole_of (Some content) name bytes most whole =
    let all : content ≡ bytes = cc in
    ap (λ (b : List ℕ). Ok (take most b)) all

-- the first bytes of a file, once all or enough of them are fetched
pub IsFetched-most : (files : Files) (name bytes : List ℕ) (last : Bool) (most : ℕ) → IsFetched files name bytes last
    → (last ≡ true) ⊎ (most ≤ length bytes) → first_bytes files name most ≡ Ok (take most bytes)
IsFetched-most files name bytes last most so_far (inl all) = whole_of (bytes_under files name) name bytes most (so_far.whole all)
IsFetched-most files name bytes last most so_far (inr enough) = most_of (bytes_under files name) name bytes most so_far.first enough

rest_of : (content : Option (List ℕ)) (name bytes : List ℕ)
    → bytes_or_cause name (option_map (λ (c : List ℕ). take (length bytes) (drop 0 c)) content) ≡ Ok bytes
    → (rest : List ℕ) × (bytes_or_cause name content ≡ Ok (bytes ++ rest))
rest_of None name bytes first = absurd (cc)
rest_of (Some content) name bytes first =
    let taken : take (length bytes) content ≡ bytes = cc in (
      drop (length bytes) content,
      ap Ok (sym (take-append-drop (length bytes) content) ∙ ap (λ (b : List ℕ). b ++ drop (length bytes) content) taken),
    )

-- the bytes of a file, of which some are fetched
pub IsFetched-rest : (files : Files) (name bytes : List ℕ) (last : Bool) → IsFetched files name bytes last
    → (rest : List ℕ) × (content_in files name ≡ Ok (bytes ++ rest))
IsFetched-rest files name bytes last so_far = rest_of (bytes_under files name) name bytes so_far.first

refused_of : (content : Option (List ℕ)) (name : List ℕ) (f g : List ℕ → List ℕ) (e : Cause)
    → bytes_or_cause name (option_map f content) ≡ Err e → bytes_or_cause name (option_map g content) ≡ Err e
refused_of None name f g e refused = refused
refused_of (Some content) name f g e refused = absurd (cc)

-- a file isn't there, whatever is fetched of it
pub refused_alike : (files : Files) (name : List ℕ) (from most other_from other_most : ℕ) (e : Cause)
    → fetched_from files name from most ≡ Err e → fetched_from files name other_from other_most ≡ Err e
refused_alike files name from most other_from other_most e refused =
    refused_of (bytes_under files name) name (λ (c : List ℕ). take most (drop from c)) (λ (c : List ℕ). take other_most (drop other_from c)) e refused

whole_refused_of : (content : Option (List ℕ)) (name : List ℕ) (f : List ℕ → List ℕ) (e : Cause)
    → bytes_or_cause name (option_map f content) ≡ Err e → bytes_or_cause name content ≡ Err e
whole_refused_of None name f e refused = refused
whole_refused_of (Some content) name f e refused = absurd (cc)

-- a file of which a piece isn't there isn't there
pub whole_refused : (files : Files) (name : List ℕ) (from most : ℕ) (e : Cause)
    → fetched_from files name from most ≡ Err e → content_in files name ≡ Err e
whole_refused files name from most e refused =
    whole_refused_of (bytes_under files name) name (λ (c : List ℕ). take most (drop from c)) e refused
