-- A claim is granted exactly where its channels have no owner and are silent.
use Rattle.lab_run.specs.Prelude.{ap, None, Option, refl, Some, ℕ, ◌<◌, ◌≡◌, and_from, and_parts, false≢true, lt-ltb, ltb-true, AllByRecursion, list_all, Bool}
use Rattle.lab_run.specs.Prelude.{false, if◌then◌else◌, is_none, List, nat_lt, true, [], ◌∷◌, PcmError, ClaimIsOwners, is_free_channel}
use Rattle.dshare.specs.Owners.{AreFree, ClaimRow, busy, last_frames, owner_of}

silent : (position : ℕ) (frames : List ℕ) → list_all (λ frame. nat_lt frame position) frames ≡ true → AllByRecursion (λ frame. frame < position) frames
silent position [] is = tt
silent position (frame ∷ frames) is = (ltb-true frame position (and_parts _ _ is).0, silent position frames (and_parts _ _ is).1)

silent-test : (position : ℕ) (frames : List ℕ) → AllByRecursion (λ frame. frame < position) frames → list_all (λ frame. nat_lt frame position) frames ≡ true
silent-test position [] all = refl
silent-test position (frame ∷ frames) all = and_from _ _ (lt-ltb frame position all.0) (silent-test position frames all.1)

no-owner : (owner : Option ℕ) → is_none owner ≡ true → owner ≡ None
no-owner None is = refl
no-owner (Some n) is = absurd (false≢true is)

free : (claims : List ClaimRow) (position : ℕ) (channels : List ℕ) → list_all (is_free_channel claims position) channels ≡ true → AreFree claims position channels
free claims position [] is = tt
free claims position (c ∷ channels) is = (
  record {
    unowned = no-owner (owner_of claims c) (and_parts _ _ (and_parts _ _ is).0).0;
    silent = silent position (last_frames claims c) (and_parts _ _ (and_parts _ _ is).0).1;
  },
  free claims position channels (and_parts _ _ is).1,
)

free-test : (claims : List ClaimRow) (position : ℕ) (channels : List ℕ) → AreFree claims position channels → list_all (is_free_channel claims position) channels ≡ true
free-test claims position [] all = refl
free-test claims position (c ∷ channels) all = and_from _ _ (and_from _ _ (ap is_none all.0.unowned) (silent-test position (last_frames claims c) all.0.silent)) (free-test claims position channels all.1)

pub claim-owners : (claims : List ClaimRow) (channels : List ℕ) (position : ℕ) → ClaimIsOwners claims channels position
claim-owners claims channels position = record {
  granted = λ is. by_test (list_all (is_free_channel claims position) channels) refl is;
  free = λ all. rw (free-test claims position channels all) refl;
  refused = λ e is. by_refusal (list_all (is_free_channel claims position) channels) e is;
}
  where
    by_test : (test : Bool) → list_all (is_free_channel claims position) channels ≡ test
        → (if test then None else Some (busy claims channels position)) ≡ None → AreFree claims position channels
    by_test true is none = free claims position channels is
    by_test false is none = absurd (cc)

    by_refusal : (test : Bool) (e : PcmError) → (if test then None else Some (busy claims channels position)) ≡ Some e → e ≡ busy claims channels position
    by_refusal true e is = absurd (cc)
    by_refusal false e is = cc
