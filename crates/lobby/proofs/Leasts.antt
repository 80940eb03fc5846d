-- The least of the last frames, as more seats are looked at.
use Rattle.lobby.specs.Prelude.{add-one, All, ap, arith, get_or, IfSome, inl, inr, length, List, MatchOption, min, None, Option, refl, Some, subst, sym, take}
use Rattle.lobby.specs.Prelude.{ℕ, [], ◌++◌, ◌+◌, ◌<◌, ◌^◌, ◌∙◌, ◌∷◌, ◌≡◌, ◌≤◌, take-suc, cases_lt, append-nil, cons_option, option_and_then, option_to_list}
use Rattle.lobby.specs.Prelude.{MixSeat, earlier, IsLeast, last_frames, last_of}
use Rattle.std.proofs.lemmas.List.Elements.{All-push, Contains-append_left, Contains-push, filter_map-append}

-- an answer is the least of some numbers, or none where there are none
abbrev pub IsLeastOf : List ℕ → Option ℕ → Type 0
IsLeastOf xs o = MatchOption o (xs ≡ []) (IsLeast xs)

below_more : (xs : List ℕ) (a b : ℕ) → All (λ y. a ≤ y) xs → All (λ y. min a b ≤ y) xs
below_more xs a b each k d inside = let le = each k d inside in omega arith

one : (b : ℕ) → IsLeast (b ∷ []) b
one b = record { among = Contains-push [] b; least = λ k d inside. grind arith }

both : (xs : List ℕ) (a b : ℕ) → IsLeast xs a → IsLeast (xs ++ b ∷ []) (min a b)
both xs a b is = record {
  among = elim (cases_lt b a) [
    | inl lower ↦ let second : min a b ≡ b = omega arith in rw second (Contains-push xs b)
    | inr not_lower ↦ let first : min a b ≡ a = omega arith in rw first (Contains-append_left xs (b ∷ []) a is.among)
  ];
  least = All-push (λ y. min a b ≤ y) xs b (below_more xs a b is.least) (omega arith);
}

-- one more frame
least-more : (xs : List ℕ) (o new : Option ℕ) → IsLeastOf xs o → IsLeastOf (xs ++ option_to_list new) (earlier o new)
least-more xs None None none = append-nil xs ∙ none
least-more xs None (Some b) none = subst (λ ys. IsLeast (ys ++ b ∷ []) b) (sym none) (one b)
least-more xs (Some a) None is = subst (λ ys. IsLeast ys a) (sym (append-nil xs)) is
least-more xs (Some a) (Some b) is = both xs a b is

-- what holds of two frames holds of the earlier one
pub earlier-both : (a b : Option ℕ) → IfSome a (λ frame. frame + 1 < 2 ^ 64) → IfSome b (λ frame. frame + 1 < 2 ^ 64)
    → IfSome (earlier a b) (λ frame. frame + 1 < 2 ^ 64)
earlier-both None b first second = second
earlier-both (Some a) None first second = first
earlier-both (Some a) (Some b) first second = omega arith

one_frame : (o : Option ℕ) → cons_option o [] ≡ option_to_list o
one_frame None = refl
one_frame (Some x) = refl

-- the last frames of one seat more
last_frames-more : (seats : List (Option MixSeat)) (i : ℕ) (s : Option MixSeat) → i < length seats → s ≡ get_or seats i s
    → last_frames (take (i + 1) seats) ≡ last_frames (take i seats) ++ option_to_list (option_and_then last_of s)
last_frames-more seats i s inside is =
    let more : take (i + 1) seats ≡ take i seats ++ s ∷ [] = ap (λ k. take k seats) (add-one i) ∙ (take-suc seats i s inside ∙ ap (λ x. take i seats ++ x ∷ []) (sym is)) in
    ap last_frames more
    ∙ (filter_map-append (option_and_then last_of) (take i seats) (s ∷ []) ∙ ap (λ xs. last_frames (take i seats) ++ xs) (one_frame (option_and_then last_of s)))

pub least_next : (seats : List (Option MixSeat)) (i : ℕ) (s : Option MixSeat) (least o new : Option ℕ) → i < length seats → s ≡ get_or seats i s
    → o ≡ option_and_then last_of s → new ≡ earlier least o → IsLeastOf (last_frames (take i seats)) least → IsLeastOf (last_frames (take (i + 1) seats)) new
least_next seats i s least o new inside is of new_is before =
    let more : last_frames (take (i + 1) seats) ≡ last_frames (take i seats) ++ option_to_list o = last_frames-more seats i s inside is ∙ ap (λ x. last_frames (take i seats) ++ option_to_list x) (sym of) in
    subst (λ xs. IsLeastOf xs new) (sym more) (subst (IsLeastOf (last_frames (take i seats) ++ option_to_list o)) (sym new_is) (least-more (last_frames (take i seats)) least o before))
