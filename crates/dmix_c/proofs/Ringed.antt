-- A ring keeps its places, and the ways of its places lead to it.
use Rattle.dmix_c.specs.Prelude.{ap, arith, get_or, inl, inr, length, List, refl, set, subst, suc, sym, zero, ℕ, [], ◌++◌, ◌<◌, ◌∙◌, ◌∷◌, ◌≡◌, cases_eq}
use Rattle.dmix_c.specs.Prelude.{get_or-set_other, get_or-set_same, get_or_default, none-some, All, IfSome, IsSome, None, Option, Some, Global, received}
use Rattle.dmix_c.specs.Prelude.{Consumer, Geometry, MixSeat, TableId, ReaderSeat, Lobby, free_seats, IsSilentSeat, key_of_lobby, places_of_lobby}
use Rattle.dmix_c.specs.Prelude.{ring_of_lobby, IsPlace, OpenRing, OnePlace, IsFree, KeepsRing, source_of, AreOfPlace, IsSamePlace, AreNone, IsOfRing, LeadsTo}
use Rattle.dmix_c.specs.Prelude.{LeadTo}
use Rattle.sum_table.specs.declared.view.Key.{Key}

abbrev Arrivals : Type 0
Arrivals = Consumer MixSeat Global OnePlace

-- a ring with the same lobby, and the same capture ring
pub KeepsRing-lobby : (r t : OpenRing) → t.lobby ≡ r.lobby → source_of t.capture ≡ source_of r.capture → t.rate ≡ r.rate → t.period ≡ r.period → KeepsRing None r t
KeepsRing-lobby r t lobby capture rate period = record {
  ring = ap ring_of_lobby lobby;
  key = ap key_of_lobby lobby;
  places = ap places_of_lobby lobby;
  free = λ place last other free. subst (λ (l : Lobby). IsFree (free_seats l) place last) (sym lobby) free;
  capture = capture;
  rate = rate;
  period = period;
}

pub KeepsRing-same : (r : OpenRing) → KeepsRing None r r
KeepsRing-same r = KeepsRing-lobby r r refl refl refl refl

-- one after the other, of which one gives a place at most
pub KeepsRing-joined : (one two given : Option ℕ) (r t u : OpenRing) → ((place : ℕ) → (given ≡ Some place → ⊥) → (one ≡ Some place → ⊥) × (two ≡ Some place → ⊥))
    → KeepsRing one r t → KeepsRing two t u → KeepsRing given r u
KeepsRing-joined one two given r t u neither first then = record {
  ring = then.ring ∙ first.ring;
  key = then.key ∙ first.key;
  places = then.places ∙ first.places;
  free = λ place last other free.
      let both = neither place other in then.free place last both.1 (first.free place last both.0 free);
  capture = then.capture ∙ first.capture;
  rate = then.rate ∙ first.rate;
  period = then.period ∙ first.period;
}

pub KeepsRing-then : (given : Option ℕ) (r t u : OpenRing) → KeepsRing None r t → KeepsRing given t u → KeepsRing given r u
KeepsRing-then given r t u first then = KeepsRing-joined None given given r t u (λ place other. (none-some place, other)) first then

pub KeepsRing-since : (given : Option ℕ) (r t u : OpenRing) → KeepsRing given r t → KeepsRing None t u → KeepsRing given r u
KeepsRing-since given r t u first then = KeepsRing-joined given None given r t u (λ place other. (other, none-some place)) first then

-- where a capture ring is known, there is one
pub source_of-some : (o : Option ReaderSeat) (source : TableId × Geometry) → source_of o ≡ Some source → IsSome o
source_of-some None source is = absurd (none-some source is)
source_of-some (Some s) source is = refl

-- ways lead to the ring that it is
pub LeadTo-same : (ring to : TableId) (key at : Key) (ways : List (Option Arrivals)) → to ≡ ring → at ≡ key → LeadTo ring key ways → LeadTo to at ways
LeadTo-same ring to key at ways same_ring same_key lead =
    subst (λ (k : Key). LeadTo to k ways) (sym same_key) (subst (λ (r : TableId). LeadTo r key ways) (sym same_ring) lead)

-- another way at a place, or none
pub LeadTo-set : (ring : TableId) (key : Key) (ways : List (Option Arrivals)) (place : ℕ) (o : Option Arrivals) → place < length ways
    → LeadTo ring key ways → IfSome o (LeadsTo ring key) → LeadTo ring key (set ways place o)
LeadTo-set ring key ways place o inside lead leads k v is = elim (cases_eq k place) [
  | inl same ↦
      let at : get_or (set ways place o) k None ≡ o = ap (λ i. get_or (set ways place o) i None) same ∙ get_or-set_same ways place o None inside in
      subst (λ (p : Option Arrivals). IfSome p (LeadsTo ring key)) (sym at ∙ is) leads
  | inr other ↦ lead k v (sym (get_or-set_other ways place k o None other) ∙ is)
]

-- what is read at a place of some ways, where it is a way, leads to their ring
pub LeadsTo-found : (ring : TableId) (key : Key) (ways : List (Option Arrivals)) (place : ℕ) (taken read : Option Arrivals) → place < length ways
    → taken ≡ read → read ≡ get_or ways place read → LeadTo ring key ways → IfSome taken (LeadsTo ring key)
LeadsTo-found ring key ways place None read inside is at lead = tt
LeadsTo-found ring key ways place (Some w) read inside is at lead = lead place w (sym (is ∙ (at ∙ get_or_default ways place read None inside)))

-- where there are none, they lead anywhere
pub LeadTo-none : (ring : TableId) (key : Key) (ways : List (Option Arrivals)) → AreNone ways → LeadTo ring key ways
LeadTo-none ring key ways none k v is = absurd (none-some v (sym (none k) ∙ is))

-- a place more without a way
pub AreNone-more : (ways : List (Option Arrivals)) → AreNone ways → AreNone (ways ++ None ∷ [])
AreNone-more [] none zero = refl
AreNone-more [] none (suc k) = refl
AreNone-more (w ∷ ways) none zero = none 0
AreNone-more (w ∷ ways) none (suc k) = AreNone-more ways (λ i. none (suc i)) k

-- the seat that comes on a way that leads to a ring is one of the ring
pub IsOfRing-arrived : (ring : TableId) (key : Key) (w : Arrivals) (s : MixSeat) → LeadsTo ring key w → AreOfPlace (received w) s → IsOfRing ring key s
IsOfRing-arrived ring key w s leads all =
    let first : MixSeat = get_or (received w) 0 s in
    let is : IsOfRing ring key first = leads.each 0 s leads.some in
    let same : IsSamePlace first s = all 0 s leads.some in
    record {
      of_ring = same.ring ∙ is.of_ring;
      of_key = same.key ∙ is.of_key;
      one_place = same.places ∙ is.one_place;
    }

-- a way on which the seat of a place went leads to the place's ring
pub LeadsTo-sent : (ring : TableId) (key : Key) (w : Arrivals) (s : MixSeat) → received w ≡ s ∷ [] → IsOfRing ring key s → LeadsTo ring key w
LeadsTo-sent ring key w s is of = record {
  some = subst (λ (ss : List MixSeat). 0 < length ss) (sym is) (omega arith);
  each = subst (λ (ss : List MixSeat). All (λ (t : MixSeat). IsOfRing ring key t) ss) (sym is) (only s of);
}
  where
    only : (t : MixSeat) → IsOfRing ring key t → All (λ (u : MixSeat). IsOfRing ring key u) (t ∷ [])
    only t of zero d inside = of
    only t of (suc k) d inside = absurd (omega arith)

-- where a way stays as it was, and nothing more came on it
pub LeadsTo-same : (ring : TableId) (key : Key) (v w : Arrivals) → received w ≡ received v → LeadsTo ring key v → LeadsTo ring key w
LeadsTo-same ring key v w is leads = record {
  some = subst (λ (ss : List MixSeat). 0 < length ss) (sym is) leads.some;
  each = subst (λ (ss : List MixSeat). All (λ (t : MixSeat). IsOfRing ring key t) ss) (sym is) leads.each;
}

-- a silent seat of a lobby is one of the ring
pub IsOfRing-place : (ring : TableId) (key : Key) (place : ℕ) (s : MixSeat) → IsPlace ring key place s → IsOfRing ring key s
IsOfRing-place ring key place s is = record { of_ring = is.of_ring; of_key = is.of_key; one_place = is.places }

-- a seat that is silent for a lobby is so for a later one of the ring
pub IsSilentSeat-later : (l m : Lobby) (p : ℕ) (s : MixSeat) → ring_of_lobby m ≡ ring_of_lobby l → key_of_lobby m ≡ key_of_lobby l
    → IsSilentSeat l p s → IsSilentSeat m p s
IsSilentSeat-later l m p s ring key silent = (
  assumption (silent.0.of_ring ∙ sym ring, silent.0.of_key ∙ sym key),
  silent.1,
)
