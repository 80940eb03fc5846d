-- Laws of lists of entries, takes and rows, when one more is at the end.
use Rattle.std.specs.Prelude.{map, ◌≡◌, ℕ, ◌<◌, true, false, ◌==◌, ◌&&◌, ◌||◌, List, [], ◌∷◌, ◌++◌, ◌+ℤ◌, Option, None, Some, length}
use Rattle.std.proofs.Common.{refl, ap, arith, get_or, inl, inr, subst, sym, ◌∙◌}
use Rattle.std.specs.List.{filter, filter_map}
use Rattle.std.proofs.Math.Seq.{get_or-append_seam}
use Rattle.std.proofs.lemmas.Bool.{cases_eq}
use Rattle.std.proofs.lemmas.List.{append-nil, get_or_append_left, length-append, map-append}
use Rattle.std.proofs.lemmas.List.Elements.{filter-append, filter_map-append}
use Rattle.std.proofs.lemmas.List.Folds.{list_any-append, list_any_at}
use Rattle.std.proofs.lemmas.List.Sums.{fold_push}
use Rattle.std.proofs.lemmas.Bool.Decides.{nat_tests}
use Rattle.snd_base.specs.declared.geometry.Geometry.{Geometry}
use Rattle.snd_base.specs.Places.{next_word}
use Rattle.mix_core.specs.declared.port.Entry.{Entry}
use Rattle.mix_core.specs.declared.event.Taken.{Taken}
use Rattle.mix_core.specs.Laid.{at, is_at, total, value_of}
use Rattle.mix_core.specs.History.{AreInOrder, is_taken, taken_place}

-- one more item that gives something, and one that gives nothing
pub filter_map-some : {X Y : Type 0} (h : X → Option Y) (xs : List X) (x : X) (y : Y) → h x ≡ Some y → filter_map h (xs ++ x ∷ []) ≡ filter_map h xs ++ y ∷ []
filter_map-some h xs x y e = rw (filter_map-append h xs (x ∷ []), e) refl

pub filter_map-none : {X Y : Type 0} (h : X → Option Y) (xs : List X) (x : X) → h x ≡ None → filter_map h (xs ++ x ∷ []) ≡ filter_map h xs
filter_map-none h xs x e = rw (filter_map-append h xs (x ∷ []), e) (append-nil _)

-- one more entry at its own frame and channel, and at another one
pub at-more_here : (es : List Entry) (e : Entry) → at (es ++ e ∷ []) e.frame e.channel ≡ at es e.frame e.channel ++ value_of e ∷ []
at-more_here es e =
    let here : is_at e.frame e.channel e ≡ true = grind (arith, nat_tests) in
    rw (filter-append (is_at e.frame e.channel) es (e ∷ []), here) (map-append value_of (filter (is_at e.frame e.channel) es) (e ∷ []))

pub at-more_elsewhere : (es : List Entry) (e : Entry) (f c : ℕ) → ¬ ((e.frame ≡ f) × (e.channel ≡ c)) → at (es ++ e ∷ []) f c ≡ at es f c
at-more_elsewhere es e f c elsewhere =
    let test : is_at f c e ≡ false = grind (arith, nat_tests) in
    rw (filter-append (is_at f c) es (e ∷ []), test) (ap (map value_of) (append-nil (filter (is_at f c) es)))

pub total-more_here : (es : List Entry) (e : Entry) → total (es ++ e ∷ []) e.frame e.channel ≡ total es e.frame e.channel +ℤ value_of e
total-more_here es e = rw (at-more_here es e) (fold_push _ _ (at es e.frame e.channel) (value_of e))

pub total-more_elsewhere : (es : List Entry) (e : Entry) (f c : ℕ) → ¬ ((e.frame ≡ f) × (e.channel ≡ c)) → total (es ++ e ∷ []) f c ≡ total es f c
total-more_elsewhere es e f c elsewhere = rw (at-more_elsewhere es e f c elsewhere) refl

-- one more take
pub is_taken-more : (ts : List Taken) (t : Taken) (f c : ℕ) → is_taken (ts ++ t ∷ []) f c ≡ (is_taken ts f c || ((t.frame == f) && (t.channel == c)))
is_taken-more ts t f c = rw (list_any-append (λ (x : Taken). (x.frame == f) && (x.channel == c)) ts (t ∷ [])) (grind arith)

-- one more was taken, in order
pub AreInOrder-more : (g : Geometry) (ts : List Taken) (t : Taken) → AreInOrder g ts → taken_place t ≡ next_word g (length ts) → AreInOrder g (ts ++ t ∷ [])
AreInOrder-more g ts t in_order here i d within =
    elim (cases_eq i (length ts)) [
      | inl last ↦ subst (λ k. taken_place (get_or (ts ++ t ∷ []) k d) ≡ next_word g k) (sym last) (ap taken_place (get_or-append_seam ts t [] d) ∙ here)
      | inr before ↦
          let below : i < length ts = omega (arith, length-append ts (t ∷ [])) in
          ap taken_place (get_or_append_left ts (t ∷ []) d i below) ∙ in_order i d below
    ]

-- no take is at a frame and channel that is not taken
pub is_taken-none : (ts : List Taken) (f c k : ℕ) (d : Taken) → is_taken ts f c ≡ false → k < length ts → ¬ ((f ≡ (get_or ts k d).frame) × (c ≡ (get_or ts k d).channel))
is_taken-none ts f c k d none within same =
    let t : Taken = get_or ts k d in
    let here : ((t.frame == f) && (t.channel == c)) ≡ true = grind (arith, nat_tests) in
    let found : is_taken ts f c ≡ true = list_any_at (λ (x : Taken). (x.frame == f) && (x.channel == c)) ts k d within here in
    cc
