-- The open client of a number, in a list of clients.
use Rattle.lab_clients.specs.Prelude.{ap, arith, IsSome, length, List, refl, subst, sym, ℕ, [], ◌∙◌, ◌∷◌, ◌≡◌, ◌≤◌, nat_tests, length-set, false, None, Option}
use Rattle.lab_clients.specs.Prelude.{slice_index_or, slice_set, suc, true, zero, ◌<◌, ◌≢◌, LabClient, OpenClient, is_open, open_of, IsClosedAt, open_at}

-- the open client of a number is that in the list
pub open_at-index : (ds : List LabClient) (n : ℕ) (d : LabClient) → n < length ds → open_at ds n ≡ open_of (slice_index_or ds n d)
open_at-index [] n d inside = absurd (omega (arith, inside))
open_at-index (first ∷ ds) zero d inside = refl
open_at-index (first ∷ ds) (suc n) d inside = open_at-index ds n d (omega (arith, inside))

pub open_at-past : (ds : List LabClient) (n : ℕ) → length ds ≤ n → open_at ds n ≡ None
open_at-past [] n past = refl
open_at-past (first ∷ ds) zero past = absurd (omega (arith, past))
open_at-past (first ∷ ds) (suc n) past = open_at-past ds n (omega (arith, past))

pub open_at-set_same : (ds : List LabClient) (n : ℕ) (e : LabClient) → n < length ds → open_at (slice_set ds n e) n ≡ open_of e
open_at-set_same [] n e inside = absurd (omega (arith, inside))
open_at-set_same (first ∷ ds) zero e inside = refl
open_at-set_same (first ∷ ds) (suc n) e inside = open_at-set_same ds n e (omega (arith, inside))

pub open_at-set_other : (ds : List LabClient) (n other : ℕ) (e : LabClient) → other ≢ n → open_at (slice_set ds n e) other ≡ open_at ds other
open_at-set_other [] n other e differ = refl
open_at-set_other (first ∷ ds) zero zero e differ = absurd (differ refl)
open_at-set_other (first ∷ ds) zero (suc other) e differ = refl
open_at-set_other (first ∷ ds) (suc n) zero e differ = refl
open_at-set_other (first ∷ ds) (suc n) (suc other) e differ = open_at-set_other ds n other e (λ same. differ (ap suc same))

-- a client that was read in the list
pub open_at-read : (ds : List LabClient) (n : ℕ) (d : LabClient) → n < length ds → d ≡ slice_index_or ds n d → open_at ds n ≡ open_of d
open_at-read ds n d inside is = open_at-index ds n d inside ∙ ap open_of (sym is)

-- whether it is open
pub open_of-none : (d : LabClient) → is_open d ≡ false → open_of d ≡ None
open_of-none d is = grind (arith, nat_tests)

pub open_of-some : (d : LabClient) → is_open d ≡ true → IsSome (open_of d)
open_of-some d is = grind (arith, nat_tests)

-- a client exchanged for one that isn't open
pub IsClosedAt-set : (ds : List LabClient) (n : ℕ) (e : LabClient) → n < length ds → open_of e ≡ None → IsClosedAt n ds (slice_set ds n e)
IsClosedAt-set ds n e inside closed = record {
  len = length-set ds n e;
  own = open_at-set_same ds n e inside ∙ closed;
  others = λ other differ. open_at-set_other ds n other e differ;
}

-- by what a client that was read answers
pub open_at-none : (ds : List LabClient) (n : ℕ) (d : LabClient) → n < length ds → d ≡ slice_index_or ds n d → is_open d ≡ false → open_at ds n ≡ None
open_at-none ds n d inside is closed = open_at-read ds n d inside is ∙ open_of-none d closed

pub open_at-some : (ds : List LabClient) (n : ℕ) (d : LabClient) → n < length ds → d ≡ slice_index_or ds n d → is_open d ≡ true → IsSome (open_at ds n)
open_at-some ds n d inside is opened = subst (λ (o : Option OpenClient). IsSome o) (sym (open_at-read ds n d inside is)) (open_of-some d opened)

-- a client that is open is one of the list
pub open_at-inside : (ds : List LabClient) (n : ℕ) → IsSome (open_at ds n) → n < length ds
open_at-inside [] n opened = absurd (cc)
open_at-inside (d ∷ ds) zero opened = omega arith
open_at-inside (d ∷ ds) (suc n) opened = let more = open_at-inside ds n opened in omega (arith, more)
