-- What the views of a ring's seats are after a seat was split, and after one was joined into another.
use Rattle.std.specs.Prelude.{◌≡◌, ◌≢◌, ◌⊎◌, ◌||◌, Bool, true, false, ℕ, Option, None, Some, List, [], ◌∷◌, ◌++◌, length}
use Rattle.std.proofs.Common.{set, inl, inr, subst, sym, refl, ap, ◌∙◌}
use Rattle.std.proofs.lemmas.List.{length-set}
use Rattle.std.proofs.lemmas.Option.{none-some}
use mathlib.Core.Option.{some}
use lib.ListN.{get_elem?}
use Rattle.atomic_table.proofs.Lists.{at_set}
use Rattle.ring_rule.specs.Lists.{at_more}

-- after a split a view is what its seat kept, another one, or the new seat's
pub split_views : {X : Type 0} (views : List X) (id : ℕ) (l p : X) (i : ℕ) (u : X) → get_elem? (set views id l ++ p ∷ []) i ≡ some u
    → ((i ≡ id) × (l ≡ u)) ⊎ (((i ≢ id) × (get_elem? views i ≡ some u)) ⊎ ((i ≡ length views) × (p ≡ u)))
split_views views id l p i u there = elim (at_more (set views id l) p u i there) [
  | inl old ↦ elim (at_set views id i l u old) [ inl this ↦ inl this | inr other ↦ inr (inl other) ]
  | inr new ↦ inr (inr (new.0 ∙ length-set views id l, new.1))
]

-- after a join it is the spent one, that of both, or another one
pub join_views : {X : Type 0} (views : List X) (id other : ℕ) (both spent : X) (i : ℕ) (u : X) → get_elem? (set (set views id both) other spent) i ≡ some u
    → ((i ≡ other) × (spent ≡ u)) ⊎ (((i ≡ id) × (both ≡ u)) ⊎ ((i ≢ id) × (i ≢ other) × (get_elem? views i ≡ some u)))
join_views views id other both spent i u there = elim (at_set (set views id both) other i spent u there) [
  | inl ended ↦ inl ended
  | inr rest ↦ elim (at_set views id i both u rest.1) [ inl this ↦ inr (inl this) | inr apart ↦ inr (inr (apart.0, rest.0, apart.1)) ]
]

-- what holds of each view, of what the seat kept and of the new seat's
pub each-split : {X : Type 0} (P : X → Type 0) (views : List X) (id : ℕ) (l p : X) → ((i : ℕ) (u : X) → get_elem? views i ≡ some u → P u) → P l → P p
    → (i : ℕ) (u : X) → get_elem? (set views id l ++ p ∷ []) i ≡ some u → P u
each-split P views id l p each left right i u there = elim (split_views views id l p i u there) [
  | inl this ↦ subst P this.1 left
  | inr rest ↦ elim rest [ inl other ↦ each i u other.1 | inr new ↦ subst P new.1 right ]
]

pub each-join : {X : Type 0} (P : X → Type 0) (views : List X) (id other : ℕ) (both spent : X) → ((i : ℕ) (u : X) → get_elem? views i ≡ some u → P u) → P both → P spent
    → (i : ℕ) (u : X) → get_elem? (set (set views id both) other spent) i ≡ some u → P u
each-join P views id other both spent each joined ended i u there = elim (join_views views id other both spent i u there) [
  | inl this ↦ subst P this.1 ended
  | inr rest ↦ elim rest [ inl this ↦ subst P this.1 joined | inr apart ↦ each i u apart.2 ]
]

-- one seat alone has the card's track: it is the seat of this number, and this is its track
abbrev pub HasTrack : {X Y : Type 0} → (X → Option Y) → List X → ℕ → Y → Type 0
HasTrack {X} {Y} track views at t = (i : ℕ) (u : X) (y : Y) → get_elem? views i ≡ some u → track u ≡ Some y → (i ≡ at) × (y ≡ t)

pub HasTrack-split : {X Y : Type 0} (track : X → Option Y) (views : List X) (at : ℕ) (t : Y) (id : ℕ) (v l p : X) → HasTrack track views at t → get_elem? views id ≡ some v
    → track l ≡ track v → track p ≡ None → HasTrack track (set views id l ++ p ∷ []) at t
HasTrack-split track views at t id v l p alone here same none i u y there tracks = elim (split_views views id l p i u there) [
  | inl this ↦
      let was = alone id v y here (sym same ∙ (ap track this.1 ∙ tracks)) in
      (this.0 ∙ was.0, was.1)
  | inr rest ↦ elim rest [
    | inl other ↦ alone i u y other.1 tracks
    | inr new ↦ absurd (none-some y (sym none ∙ (ap track new.1 ∙ tracks)))
  ]
]

-- which of two seats has seen the card gone
pub or_true : (a b : Bool) → (a || b) ≡ true → (a ≡ true) ⊎ (b ≡ true)
or_true true b is = inl refl
or_true false b is = inr is

option_cases : {Y : Type 0} (o : Option Y) → (o ≡ None) ⊎ ((y : Y) × (o ≡ Some y))
option_cases None = inl refl
option_cases (Some y) = inr (y, refl)

-- after a join the seat that has it may be the one that took the other over
pub HasTrack-join : {X Y : Type 0} (track : X → Option Y) (views : List X) (at : ℕ) (t : Y) (id : ℕ) (v : X) (other : ℕ) (w both spent : X)
    → HasTrack track views at t → get_elem? views id ≡ some v → get_elem? views other ≡ some w
    → track spent ≡ None → ((y : Y) → track both ≡ Some y → (track v ≡ Some y) ⊎ (track w ≡ Some y))
    → (now : ℕ) × HasTrack track (set (set views id both) other spent) now t
HasTrack-join track views at t id v other w both spent alone here there none either = elim (option_cases (track w)) [
  | inl untracked ↦ (
    at,
    λ i u y is tracks. elim (join_views views id other both spent i u is) [
      | inl ended ↦ absurd (none-some y (sym none ∙ (ap track ended.1 ∙ tracks)))
      | inr rest ↦ elim rest [
        | inl this ↦ elim (either y (ap track this.1 ∙ tracks)) [
          | inl first ↦
              let was = alone id v y here first in
              (this.0 ∙ was.0, was.1)
          | inr second ↦ absurd (none-some y (sym untracked ∙ second))
        ]
        | inr apart ↦ alone i u y apart.2 tracks
      ]
    ],
  )
  | inr one ↦ (
    id,
    λ i u y is tracks. elim (join_views views id other both spent i u is) [
      | inl ended ↦ absurd (none-some y (sym none ∙ (ap track ended.1 ∙ tracks)))
      | inr rest ↦ elim rest [
        | inl this ↦ elim (either y (ap track this.1 ∙ tracks)) [
          | inl first ↦ (this.0, (alone id v y here first).1)
          | inr second ↦ (this.0, (alone other w y there second).1)
        ]
        | inr apart ↦ absurd (apart.1 ((alone i u y apart.2 tracks).0 ∙ sym (alone other w one.0 there one.1).0))
      ]
    ],
  )
]
