-- What the segments of a report placed sums up to what each client's segments placed.
use Rattle.lab_check.specs.Prelude.{ap, arith, length, List, Option, refl, subst, sym, ℕ, [], ◌++◌, ◌+◌, ◌<◌, ◌∙◌, ◌∷◌, ◌≡◌, ◌≤◌, eqb-false, eqb-true}
use Rattle.lab_check.specs.Prelude.{nat_tests, ints, AllByRecursion, flat_map, range_with_len, Bool, false, map, nat_eq, pos, slice_get, suc, true, zero, ℤ}
use Rattle.lab_check.specs.Prelude.{◌+ℤ◌, Segment, Entry, fold-from, total-append, sum_of_samples, total, Sound, ClientLine, Script, segments_by, file_samples}
use Rattle.lab_check.specs.Prelude.{entries_of_segment, is_right_segment, is_segment_of}

abbrev pub sum_over : (ℕ → ℤ) → ℕ → ℕ → ℤ
sum_over f first n = sum_of_samples (map f (range_with_len first n))

-- a sum of one more number
sum-more : (f : ℕ → ℤ) (first n : ℕ) → sum_over f first (suc n) ≡ f first +ℤ sum_over f (first + 1) n
sum-more f first n =
    let step : sum_over f first (suc n) ≡ (pos 0 +ℤ f first) +ℤ sum_over f (first + 1) n = fold-from (pos 0 +ℤ f first) (map f (range_with_len (first + 1) n)) in
    omega (arith, ints, step)

sum-same : (f g : ℕ → ℤ) (first n : ℕ) → ((k : ℕ) → first ≤ k → f k ≡ g k) → sum_over f first n ≡ sum_over g first n
sum-same f g first zero same = refl
sum-same f g first (suc n) same =
    let head : f first ≡ g first = same first (omega arith) in
    let tail : sum_over f (first + 1) n ≡ sum_over g (first + 1) n = sum-same f g (first + 1) n (λ k low. same k (omega (arith, low))) in
    let left = sum-more f first n in
    let right = sum-more g first n in
    omega (arith, ints, head, tail, left, right)

-- one of the numbers has more
sum-one : (f g : ℕ → ℤ) (x : ℤ) (number first n : ℕ) → first ≤ number → number < first + n → g number ≡ x +ℤ f number
    → ((k : ℕ) → nat_eq number k ≡ false → g k ≡ f k) → sum_over g first n ≡ x +ℤ sum_over f first n
sum-one f g x number first zero low high one others = absurd (omega (arith, low, high))
sum-one f g x number first (suc n) low high one others =
    by_first (λ past. sum-one f g x number (first + 1) n past (omega (arith, high)) one others) (nat_eq number first) refl
  where
    left : sum_over g first (suc n) ≡ g first +ℤ sum_over g (first + 1) n
    left = sum-more g first n

    right : sum_over f first (suc n) ≡ f first +ℤ sum_over f (first + 1) n
    right = sum-more f first n

    by_first : (first + 1 ≤ number → sum_over g (first + 1) n ≡ x +ℤ sum_over f (first + 1) n) → (b : Bool) → nat_eq number first ≡ b
        → sum_over g first (suc n) ≡ x +ℤ sum_over f first (suc n)
    by_first further true same =
        let is : number ≡ first = eqb-true number first same in
        let here : g first ≡ x +ℤ f first = subst (λ k. g k ≡ x +ℤ f k) is one in
        let after : sum_over g (first + 1) n ≡ sum_over f (first + 1) n =
        sum-same g f (first + 1) n (λ k above. others k (grind (arith, nat_tests, is, above))) in
        omega (arith, ints, here, after, left, right)
    by_first further false other =
        let not : number ≡ first → ⊥ = eqb-false number first other in
        let here : g first ≡ f first = others first other in
        let past : first + 1 ≤ number = omega (arith, low, not) in
        let after : sum_over g (first + 1) n ≡ x +ℤ sum_over f (first + 1) n = further past in
        omega (arith, ints, here, after, left, right)

module _ (script : Script) (wavs : List Sound) (frame channel : ℕ) where
  abbrev pub entries_of : ℕ → Segment → List Entry
  entries_of = entries_of_segment script wavs

  -- what a client's segments of a list have at the place
  abbrev pub of_client : List (ℕ × Segment) → ℕ → ℤ
  of_client segments number = total (flat_map (entries_of number) (segments_by number segments)) frame channel

  abbrev pub of_all : List (ℕ × Segment) → ℤ
  of_all segments = total (flat_map (λ (pair : ℕ × Segment). file_samples pair.0 pair.1 (slice_get script.clients pair.0) (slice_get wavs pair.0)) segments) frame channel

  with-own : (client : ℕ) (segment : Segment) (segments : List (ℕ × Segment)) (number : ℕ) → nat_eq client number ≡ true
      → of_client ((client, segment) ∷ segments) number ≡ total (entries_of number segment) frame channel +ℤ of_client segments number
  with-own client segment segments number is =
      rw is (total-append (entries_of number segment) (flat_map (entries_of number) (segments_by number segments)) frame channel)

  with-other : (client : ℕ) (segment : Segment) (segments : List (ℕ × Segment)) (number : ℕ) → nat_eq client number ≡ false
      → of_client ((client, segment) ∷ segments) number ≡ of_client segments number
  with-other client segment segments number is = rw is refl

  -- a segment that passes is of a client that there is
  pub in-range : (clients : List ClientLine) (segment : Segment) (client : ℕ) (wav : Option Sound)
      → is_segment_of script.card segment (slice_get clients client) wav ≡ true → client < length clients
  in-range [] segment client wav is = absurd cc
  in-range (line ∷ clients) segment zero wav is = omega arith
  in-range (line ∷ clients) segment (suc client) wav is =
      let rest : client < length clients = in-range clients segment client wav is in
      omega (arith, rest)

  nothing-sums : (first n : ℕ) → sum_over (of_client []) first n ≡ pos 0
  nothing-sums first zero = refl
  nothing-sums first (suc n) =
      let step : sum_over (of_client []) first (suc n) ≡ of_client [] first +ℤ sum_over (of_client []) (first + 1) n = sum-more (of_client []) first n in
      let rest : sum_over (of_client []) (first + 1) n ≡ pos 0 = nothing-sums (first + 1) n in
      let none : of_client [] first ≡ pos 0 = refl in
      omega (arith, ints, step, rest, none)

  pub sums-are : (segments : List (ℕ × Segment)) → AllByRecursion (λ segment. is_right_segment script wavs segment ≡ true) segments
      → of_all segments ≡ sum_over (of_client segments) 0 (length script.clients)
  sums-are [] are = sym (nothing-sums 0 (length script.clients))
  sums-are ((client, segment) ∷ segments) are =
      let low : client < length script.clients = in-range script.clients segment client (slice_get wavs client) are.0 in
      let rest : of_all segments ≡ sum_over (of_client segments) 0 (length script.clients) = sums-are segments are.1 in
      let own : total (entries_of client segment ++ flat_map (λ (pair : ℕ × Segment). file_samples pair.0 pair.1 (slice_get script.clients pair.0) (slice_get wavs pair.0)) segments) frame channel
      ≡ total (entries_of client segment) frame channel +ℤ of_all segments = total-append (entries_of client segment) _ frame channel in
      let one : of_client ((client, segment) ∷ segments) client ≡ total (entries_of client segment) frame channel +ℤ of_client segments client =
      with-own client segment segments client (grind (arith, nat_tests)) in
      let all : sum_over (of_client ((client, segment) ∷ segments)) 0 (length script.clients)
      ≡ total (entries_of client segment) frame channel +ℤ sum_over (of_client segments) 0 (length script.clients) =
      sum-one (of_client segments) (of_client ((client, segment) ∷ segments)) (total (entries_of client segment) frame channel) client 0 (length script.clients)
      (omega arith) (omega (arith, low)) one (with-other client segment segments) in
      own ∙ ap (λ x. total (entries_of client segment) frame channel +ℤ x) rest ∙ sym all
