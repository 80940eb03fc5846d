-- Laws of the client channels by rising card channel: each is there once, and their card channels rise.
use Rattle.std.specs.Prelude.{◌≡◌, ◌≢◌, ℕ, ◌+◌, ◌-◌, ◌<◌, ◌≤◌, ◌==◌, Bool, true, false, if◌then◌else◌, nat_lt, nat_le, ◌&&◌, List, [], ◌∷◌, length, slice_index, Option, Some, None}
use Rattle.std.specs.List.{cons_option, range_with_len, position_or_len}
use Rattle.std.proofs.Common.{refl, sym, ap, subst, ◌∙◌, arith, suc, zero, inl, inr}
use Rattle.std.proofs.lemmas.Bool.{cases_eq, cases_lt}
use Rattle.std.proofs.lemmas.Bool.Decides.{nat_tests}
use Rattle.std.proofs.lemmas.List.FromFn.{get_or-range_with_len, length-range_with_len}
use Rattle.std.proofs.lemmas.List.Quantifiers.{position-Some}
use Rattle.std.proofs.lemmas.List.Sums.{position_or_len_is, sum_by-cons}
use Rattle.bindings.specs.declared.channels.Bindings.TheInside.{Inside}
use Rattle.bindings.specs.Bound.{AreBindings, HoldsList, bound_to, count_below, identity, list_of, in_eight_places, rising, rising_from}

fields_are : (c d o p : List ℕ) (m n : ℕ) → c ≡ d → o ≡ p → m ≡ n → (let b : Inside = record { channels = c; order = o; len = m } in b) ≡ record { channels = d; order = p; len = n }
fields_are c d o p m n same_channels same_order same_length = cc

-- the fields are those that their list gives back
pub inverse_is : (b : Inside) → HoldsList b → record { channels = in_eight_places (list_of b); order = in_eight_places (rising (list_of b)); len = length (list_of b) } ≡ b
inverse_is b held = fields_are (in_eight_places (list_of b)) b.channels (in_eight_places (rising (list_of b))) b.order (length (list_of b)) b.len (sym held.channels_are) (sym held.order_is) held.length_is

-- a client channel that is bound to a card channel of some row
pub record IsBoundWithin (bindings : List ℕ) (first n client : ℕ) : Type 0 where
  pub client_in_range : client < length bindings
  pub least : first ≤ slice_index bindings client
  pub most : slice_index bindings client < first + n

-- what a card channel's client channel is
pub bound_to-Some : (bindings : List ℕ) (channel client : ℕ) → bound_to bindings channel ≡ Some client → (slice_index bindings client ≡ channel) × (client < length bindings)
bound_to-Some bindings channel client is =
    let at = position-Some (λ bound. bound == channel) bindings client 0 is in
    let same : slice_index bindings client ≡ channel = grind (arith, nat_tests, at.1) in
    (same, at.0)

-- a card channel is bound to by one client channel
bound_to-distinct : (bindings : List ℕ) (client : ℕ) → AreBindings bindings → client < length bindings → bound_to bindings (slice_index bindings client) ≡ Some client
bound_to-distinct bindings client are within =
    let channel = slice_index bindings client in
    let before : (k : ℕ) → k < client → (slice_index bindings k == channel) ≡ false = λ k h. grind (arith, nat_tests, are.distinct k client h within) in
    let at : position_or_len (λ bound. bound == channel) bindings ≡ client = position_or_len_is (λ bound. bound == channel) bindings client 0 (omega arith) before (λ h. grind (arith, nat_tests)) in
    grind (arith, nat_tests, at)

-- what a row's first card channel adds holds in the whole row
IsBoundWithin-later : (bindings : List ℕ) (first n client : ℕ) → IsBoundWithin bindings (first + 1) n client → IsBoundWithin bindings first (suc n) client
IsBoundWithin-later bindings first n client next = record { client_in_range = next.client_in_range; least = omega (arith, next.least); most = omega (arith, next.most) }

within_here : (bindings : List ℕ) (first n : ℕ) (o : Option ℕ) → bound_to bindings first ≡ o
    → ((j : ℕ) → j < length (rising_from bindings (first + 1) n) → IsBoundWithin bindings (first + 1) n (slice_index (rising_from bindings (first + 1) n) j))
    → (k : ℕ) → k < length (cons_option o (rising_from bindings (first + 1) n)) → IsBoundWithin bindings first (suc n) (slice_index (cons_option o (rising_from bindings (first + 1) n)) k)
within_here bindings first n None is later k within = IsBoundWithin-later bindings first n (slice_index (rising_from bindings (first + 1) n) k) (later k within)
within_here bindings first n (Some client) is later zero within =
    let at = bound_to-Some bindings first client is in
    record { client_in_range = at.1; least = omega (arith, at.0); most = omega (arith, at.0) }
within_here bindings first n (Some client) is later (suc k) within =
    IsBoundWithin-later bindings first n (slice_index (rising_from bindings (first + 1) n) k) (later k (omega (arith, within)))

-- each is bound within the row
pub rising_from-within : (bindings : List ℕ) (first n k : ℕ) → k < length (rising_from bindings first n) → IsBoundWithin bindings first n (slice_index (rising_from bindings first n) k)
rising_from-within bindings first zero k within = absurd (omega arith)
rising_from-within bindings first (suc n) k within = within_here bindings first n (bound_to bindings first) refl (rising_from-within bindings (first + 1) n) k within

rises_here : (bindings : List ℕ) (first n : ℕ) (o : Option ℕ) → bound_to bindings first ≡ o
    → ((i j : ℕ) → i < j → j < length (rising_from bindings (first + 1) n) → slice_index bindings (slice_index (rising_from bindings (first + 1) n) i) < slice_index bindings (slice_index (rising_from bindings (first + 1) n) j))
    → (i j : ℕ) → i < j → j < length (cons_option o (rising_from bindings (first + 1) n))
    → slice_index bindings (slice_index (cons_option o (rising_from bindings (first + 1) n)) i) < slice_index bindings (slice_index (cons_option o (rising_from bindings (first + 1) n)) j)
rises_here bindings first n None is later i j before within = later i j before within
rises_here bindings first n (Some client) is later i zero before within = absurd (omega arith)
rises_here bindings first n (Some client) is later zero (suc j) before within =
    omega (arith, (bound_to-Some bindings first client is).0, (rising_from-within bindings (first + 1) n j (omega (arith, within))).least)
rises_here bindings first n (Some client) is later (suc i) (suc j) before within = later i j (omega (arith, before)) (omega (arith, within))

-- their card channels rise
pub rising_from-rises : (bindings : List ℕ) (first n i j : ℕ) → i < j → j < length (rising_from bindings first n)
    → slice_index bindings (slice_index (rising_from bindings first n) i) < slice_index bindings (slice_index (rising_from bindings first n) j)
rising_from-rises bindings first zero i j before within = absurd (omega arith)
rising_from-rises bindings first (suc n) i j before within = rises_here bindings first n (bound_to bindings first) refl (rising_from-rises bindings (first + 1) n) i j before within

-- a place in a list at which a number is
pub record StandsIn (list : List ℕ) (number : ℕ) : Type 0 where
  pub place : ℕ
  pub within : place < length list
  pub is : slice_index list place ≡ number

StandsIn-cons : (o : Option ℕ) (list : List ℕ) (number : ℕ) → StandsIn list number → StandsIn (cons_option o list) number
StandsIn-cons None list number at = at
StandsIn-cons (Some x) list number at = record { place = suc at.place; within = omega (arith, at.within); is = at.is }

-- each client channel is there
pub rising_from-complete : (bindings : List ℕ) (first n client : ℕ) → AreBindings bindings → client < length bindings
    → first ≤ slice_index bindings client → slice_index bindings client < first + n → StandsIn (rising_from bindings first n) client
rising_from-complete bindings first zero client are within least most = absurd (omega arith)
rising_from-complete bindings first (suc n) client are within least most = elim (cases_eq (slice_index bindings client) first) [
  | inl same ↦
      let is : bound_to bindings first ≡ Some client = subst (λ c. bound_to bindings c ≡ Some client) same (bound_to-distinct bindings client are within) in
      subst (λ o. StandsIn (cons_option o (rising_from bindings (first + 1) n)) client) (sym is) (record { place = 0; within = omega arith; is = refl })
  | inr other ↦ StandsIn-cons (bound_to bindings first) (rising_from bindings (first + 1) n) client (rising_from-complete bindings (first + 1) n client are within (omega arith) (omega arith))
]

-- one binding more adds one client channel to the row that has its card channel
found-cons : (x : ℕ) (xs : List ℕ) (channel : ℕ) → x ≢ channel → (r : List ℕ) → length (cons_option (bound_to (x ∷ xs) channel) r) ≡ length (cons_option (bound_to xs channel) r)
found-cons x xs channel other r = elim (cases_lt (position_or_len (λ bound. bound == channel) xs) (length xs)) [
  | inl low ↦ grind (arith, nat_tests)
  | inr high ↦ grind (arith, nat_tests)
]

found-here : (x : ℕ) (xs : List ℕ) → ((k : ℕ) → k < length xs → slice_index xs k ≢ x) → bound_to xs x ≡ None
found-here x xs apart =
    let at : position_or_len (λ bound. bound == x) xs ≡ length xs = position_or_len_is (λ bound. bound == x) xs (length xs) 0 (omega arith) (λ k h. grind (arith, nat_tests, apart k h)) (λ h. absurd (omega arith)) in
    grind (arith, nat_tests, at)

length-cons_option : (o : Option ℕ) (r s : List ℕ) (extra : ℕ) → length r ≡ length s + extra → length (cons_option o r) ≡ length (cons_option o s) + extra
length-cons_option None r s extra same = same
length-cons_option (Some x) r s extra same = omega (arith, same)

-- 1 where a number is one of n from a first one on
abbrev count_in_range : ℕ → ℕ → ℕ → ℕ
count_in_range first n x = if nat_le first x && nat_lt x (first + n) then 1 else 0

length-here : (x : ℕ) (xs : List ℕ) (first n : ℕ) → x ≡ first → ((k : ℕ) → k < length xs → slice_index xs k ≢ x)
    → length (rising_from (x ∷ xs) (first + 1) n) ≡ length (rising_from xs (first + 1) n) + count_in_range (first + 1) n x
    → length (rising_from (x ∷ xs) first (suc n)) ≡ length (rising_from xs first (suc n)) + count_in_range first (suc n) x
length-here x xs first n same apart later =
    let none : bound_to xs first ≡ None = subst (λ c. bound_to xs c ≡ None) same (found-here x xs apart) in
    let some : bound_to (x ∷ xs) first ≡ Some 0 = grind (arith, nat_tests, same) in
    let left : length (rising_from (x ∷ xs) first (suc n)) ≡ length (rising_from (x ∷ xs) (first + 1) n) + 1 = ap (λ o. length (cons_option o (rising_from (x ∷ xs) (first + 1) n))) some ∙ omega arith in
    let right : length (rising_from xs first (suc n)) ≡ length (rising_from xs (first + 1) n) = ap (λ o. length (cons_option o (rising_from xs (first + 1) n))) none in
    let extra : count_in_range first (suc n) x ≡ 1 = grind (arith, nat_tests) in
    let less : count_in_range (first + 1) n x ≡ 0 = grind (arith, nat_tests) in
    omega (arith, left, right, extra, less, later)

length-rising_from-cons : (x : ℕ) (xs : List ℕ) (first n : ℕ) → ((k : ℕ) → k < length xs → slice_index xs k ≢ x)
    → length (rising_from (x ∷ xs) first n) ≡ length (rising_from xs first n) + count_in_range first n x
length-rising_from-cons x xs first zero apart = grind (arith, nat_tests)
length-rising_from-cons x xs first (suc n) apart =
    let later = length-rising_from-cons x xs (first + 1) n apart in
    elim (cases_eq x first) [
      | inl same ↦ length-here x xs first n same apart later
      | inr other ↦
          found-cons x xs first other (rising_from (x ∷ xs) (first + 1) n)
          ∙ length-cons_option (bound_to xs first) (rising_from (x ∷ xs) (first + 1) n) (rising_from xs (first + 1) n) (count_in_range first (suc n) x)
          (grind (arith, nat_tests, later))
    ]

-- 1 where a number is below a bound
abbrev below_once : ℕ → ℕ → ℕ
below_once bound x = if nat_lt x bound then 1 else 0

length-rising_from-nil : (first n : ℕ) → length (rising_from [] first n) ≡ 0
length-rising_from-nil first zero = refl
length-rising_from-nil first (suc n) = length-rising_from-nil (first + 1) n

-- there are as many below a card channel as there are bindings to a lower one
length-rising_from : (bindings : List ℕ) (n : ℕ) → ((i j : ℕ) → i < j → j < length bindings → slice_index bindings i ≢ slice_index bindings j)
    → length (rising_from bindings 0 n) ≡ count_below bindings n
length-rising_from [] n distinct = length-rising_from-nil 0 n
length-rising_from (x ∷ xs) n distinct =
    let rest = length-rising_from xs n (λ i j before within. distinct (suc i) (suc j) (omega arith) (omega arith)) in
    let one = length-rising_from-cons x xs 0 n (λ k h same. distinct 0 (suc k) (omega arith) (omega arith) (sym same)) in
    let extra : count_in_range 0 n x ≡ below_once n x = grind (arith, nat_tests) in
    omega (arith, rest, one, extra, sum_by-cons (below_once n) x xs)

count_below-all : (bindings : List ℕ) (n : ℕ) → ((k : ℕ) → k < length bindings → slice_index bindings k < n) → count_below bindings n ≡ length bindings
count_below-all [] n below = refl
count_below-all (x ∷ xs) n below =
    let rest = count_below-all xs n (λ k h. below (suc k) (omega arith)) in
    let low : x < n = below 0 (omega arith) in
    let one : below_once n x ≡ 1 = grind (arith, nat_tests) in
    omega (arith, rest, one, sum_by-cons (below_once n) x xs)

-- there are as many as there are bindings
pub length-rising : (bindings : List ℕ) → AreBindings bindings → length (rising bindings) ≡ length bindings
unfolding rising
length-rising bindings are = length-rising_from bindings 256 are.distinct ∙ count_below-all bindings 256 (λ k h. are.below k 0 h)

-- each is a client channel
pub rising-within : (bindings : List ℕ) (k : ℕ) → AreBindings bindings → k < length bindings → slice_index (rising bindings) k < length bindings
unfolding rising
rising-within bindings k are within = (rising_from-within bindings 0 256 k (omega (arith, length-rising bindings are))).client_in_range

-- the card channels rise
pub rising-rises : (bindings : List ℕ) (i j : ℕ) → AreBindings bindings → i < j → j < length bindings
    → slice_index bindings (slice_index (rising bindings) i) < slice_index bindings (slice_index (rising bindings) j)
unfolding rising
rising-rises bindings i j are before within = rising_from-rises bindings 0 256 i j before (omega (arith, length-rising bindings are))

-- each client channel is there
pub rising-complete : (bindings : List ℕ) (client : ℕ) → AreBindings bindings → client < length bindings → StandsIn (rising bindings) client
unfolding rising
rising-complete bindings client are within = rising_from-complete bindings 0 256 client are within (omega arith) (are.below client 0 within)

-- the client channel of the m-th card channel of a row is after those of the card channels before it
slice_index-rising_from : (bindings : List ℕ) (first m n client : ℕ) → m < n → bound_to bindings (first + m) ≡ Some client
    → (length (rising_from bindings first m) < length (rising_from bindings first n)) × (slice_index (rising_from bindings first n) (length (rising_from bindings first m)) ≡ client)
slice_index-rising_from bindings first m zero client within is = absurd (omega arith)
slice_index-rising_from bindings first zero (suc n) client within is =
    subst (λ o. (0 < length (cons_option o (rising_from bindings (first + 1) n))) × (slice_index (cons_option o (rising_from bindings (first + 1) n)) 0 ≡ client))
    (sym (subst (λ c. bound_to bindings c ≡ Some client) (omega arith) is)) (omega arith, refl)
slice_index-rising_from bindings first (suc m) (suc n) client within is =
    behind (bound_to bindings first) (rising_from bindings (first + 1) m) (rising_from bindings (first + 1) n) client
    (slice_index-rising_from bindings (first + 1) m n client (omega arith) (subst (λ c. bound_to bindings c ≡ Some client) (omega arith) is))
  where
    behind : (o : Option ℕ) (r s : List ℕ) (client : ℕ) → (length r < length s) × (slice_index s (length r) ≡ client)
        → (length (cons_option o r) < length (cons_option o s)) × (slice_index (cons_option o s) (length (cons_option o r)) ≡ client)
    behind None r s client at = at
    behind (Some x) r s client at = (omega (arith, at.0), at.1)

-- a client channel's place is the number of bindings to a lower card channel
pub rising-place : (bindings : List ℕ) (client : ℕ) → AreBindings bindings → client < length bindings
    → (count_below bindings (slice_index bindings client) < length bindings) × (slice_index (rising bindings) (count_below bindings (slice_index bindings client)) ≡ client)
unfolding rising
rising-place bindings client are within =
    let channel = slice_index bindings client in
    let at = slice_index-rising_from bindings 0 channel 256 client (are.below client 0 within)
    (subst (λ c. bound_to bindings c ≡ Some client) (let same : channel ≡ 0 + channel = omega arith in same) (bound_to-distinct bindings client are within)) in
    let place : length (rising_from bindings 0 channel) ≡ count_below bindings channel = length-rising_from bindings channel are.distinct in
    (omega (arith, at.0, place, length-rising bindings are), ap (slice_index (rising_from bindings 0 256)) (sym place) ∙ at.1)

-- the identity's client channels are in their own order
bound_to-range : (a n channel : ℕ) → a ≤ channel → channel < a + n → bound_to (range_with_len a n) channel ≡ Some (channel - a)
bound_to-range a n channel least most =
    let test : ℕ → Bool = λ bound. bound == channel in
    let before : (k : ℕ) → k < channel - a → test (slice_index (range_with_len a n) k) ≡ false = λ k h.
    let is : slice_index (range_with_len a n) k ≡ a + k = get_or-range_with_len a n k 0 (omega arith) in
    grind (arith, nat_tests, is) in
    let here : test (slice_index (range_with_len a n) (channel - a)) ≡ true =
    let is : slice_index (range_with_len a n) (channel - a) ≡ a + (channel - a) = get_or-range_with_len a n (channel - a) 0 (omega arith) in
    grind (arith, nat_tests, is) in
    let at : position_or_len test (range_with_len a n) ≡ channel - a = position_or_len_is test (range_with_len a n) (channel - a) 0 (omega (arith, length-range_with_len a n)) before (λ h. here) in
    grind (arith, nat_tests, at, length-range_with_len a n)

bound_to-above : (n channel : ℕ) → n ≤ channel → bound_to (range_with_len 0 n) channel ≡ None
bound_to-above n channel above =
    let test : ℕ → Bool = λ bound. bound == channel in
    let before : (k : ℕ) → k < length (range_with_len 0 n) → test (slice_index (range_with_len 0 n) k) ≡ false = λ k h.
    let is : slice_index (range_with_len 0 n) k ≡ 0 + k = get_or-range_with_len 0 n k 0 (omega (arith, length-range_with_len 0 n)) in
    grind (arith, nat_tests, is, length-range_with_len 0 n) in
    let at : position_or_len test (range_with_len 0 n) ≡ length (range_with_len 0 n) = position_or_len_is test (range_with_len 0 n) (length (range_with_len 0 n)) 0 (omega arith) before (λ h. absurd (omega arith)) in
    grind (arith, nat_tests, at)

rising_from-above : (n first k : ℕ) → n ≤ first → rising_from (range_with_len 0 n) first k ≡ []
rising_from-above n first zero above = refl
rising_from-above n first (suc k) above =
    ap (λ o. cons_option o (rising_from (range_with_len 0 n) (first + 1) k)) (bound_to-above n first above) ∙ rising_from-above n (first + 1) k (omega arith)

rising_from-identity : (n first k : ℕ) → n ≤ first + k → rising_from (range_with_len 0 n) first k ≡ range_with_len first (n - first)
rising_from-identity n first zero most = ap (range_with_len first) (let none : 0 ≡ n - first = omega arith in none)
rising_from-identity n first (suc k) most = elim (cases_lt first n) [
  | inl low ↦
      ap (λ o. cons_option o (rising_from (range_with_len 0 n) (first + 1) k)) (bound_to-range 0 n first (omega arith) (omega arith) ∙ ap Some (let same : first - 0 ≡ first = omega arith in same))
      ∙ ap (λ ks. first ∷ ks) (rising_from-identity n (first + 1) k (omega arith))
      ∙ ap (range_with_len first) (let one : suc (n - (first + 1)) ≡ n - first = omega arith in one)
  | inr high ↦
      rising_from-above n first (suc k) high ∙ ap (range_with_len first) (let none : 0 ≡ n - first = omega arith in none)
]

pub rising-identity : (n : ℕ) → n ≤ 8 → rising (identity n) ≡ identity n
unfolding rising
rising-identity n most = rising_from-identity n 0 256 (omega arith) ∙ ap (range_with_len 0) (let same : n - 0 ≡ n = omega arith in same)

-- the identity of 1 to 8 channels binds them
pub AreBindings-identity : (n : ℕ) → 1 ≤ n → n ≤ 8 → AreBindings (identity n)
AreBindings-identity n some most = record {
  some = omega (arith, length-range_with_len 0 n);
  most = omega (arith, length-range_with_len 0 n);
  below = λ k d within. omega (arith, get_or-range_with_len 0 n k d (omega (arith, length-range_with_len 0 n)), length-range_with_len 0 n);
  distinct = λ i j before within same.
      omega (arith, same, length-range_with_len 0 n, get_or-range_with_len 0 n i 0 (omega (arith, length-range_with_len 0 n)), get_or-range_with_len 0 n j 0 (omega (arith, length-range_with_len 0 n)));
}
