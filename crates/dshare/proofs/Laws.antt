-- What is kept is what a history says.
use Rattle.std.proofs.Common.{◌≡◌, ℕ, ◌+◌, ◌^◌, ◌<◌, max, Bool, true, false, ◌||◌, if◌then◌else◌, List, [], ◌∷◌, length, get_or, Option, Some, None, refl, sym, ap, subst, ◌∙◌, arith}
use Rattle.std.proofs.lemmas.Bool.{or_parts}
use Rattle.std.proofs.lemmas.Bool.Decides.{nat_tests}
use Rattle.std.specs.Prelude.{IsTrue, is_some, SomeIff}
use Rattle.std.proofs.lemmas.List.Elements.{All-from_get_or, All-get_or}
use Rattle.std.specs.List.{AllByRecursion, flat_map, list_any}
use Rattle.dshare.specs.Owners.{AreFree, ClaimRow, any_owned, position_past, claimed, greatest, has_channel, last_frames, later, owner_of, released}
use Rattle.dshare.specs.Shared.{AreOfCard, AreOwned, Ownership, IsHeldShare, StandsFor, is_owned, last_owned_frame, latest_of, with_value_at, with_later_at}
use Rattle.dshare.proofs.Lists.{greatest-append, has_channel-at, marked-at, raised-at}

-- ---- claims and releases

claimed_by : (b owned : Bool) (o : Option ℕ) (n : ℕ) → owned ≡ is_some o → (if b then true else owned) ≡ is_some (if b then Some n else o)
claimed_by true owned o n same = refl
claimed_by false owned o n same = same

released_by : (b owned : Bool) (o : Option ℕ) → owned ≡ is_some o → (if b then false else owned) ≡ is_some (if b then None else o)
released_by true owned o same = refl
released_by false owned o same = same

raised_by : (b : Bool) (f : ℕ) (last : Option ℕ) (fs : List ℕ) → last ≡ greatest fs → (if b then later (Some f) last else last) ≡ greatest (if b then f ∷ fs else fs)
raised_by true f last fs same = ap (later (Some f)) same
raised_by false f last fs same = same

raised_none : (b : Bool) (last : Option ℕ) → (if b then later None last else last) ≡ last
raised_none true last = refl
raised_none false last = refl

pub StandsFor-claimed : (v w : Ownership) (h : List ClaimRow) (cs : List ℕ) → IsHeldShare v → w ≡ record v { owned = with_value_at true v.owned cs } → StandsFor v h → StandsFor w (claimed cs ∷ h)
StandsFor-claimed v w h cs held is stands = subst (λ u. StandsFor u (claimed cs ∷ h)) (sym is) (record {
  owned = λ c within. marked-at true false v.owned cs c (omega (arith, held.few, held.owned_size)) ∙ claimed_by (has_channel cs c) (is_owned v c) (owner_of h c) (length h) (stands.owned c within);
  last = λ c within. stands.last c within;
})

last_released : (v : Ownership) (h : List ClaimRow) (cs : List ℕ) (frame : Option ℕ) (c : ℕ) → c < length v.last → last_owned_frame v c ≡ greatest (last_frames h c)
    → get_or (with_later_at frame v.last cs) c None ≡ greatest (last_frames (released cs frame ∷ h) c)
last_released v h cs None c within same = raised-at None v.last cs c within ∙ (raised_none (has_channel cs c) (last_owned_frame v c) ∙ same)
last_released v h cs (Some f) c within same = raised-at (Some f) v.last cs c within ∙ raised_by (has_channel cs c) f (last_owned_frame v c) (last_frames h c) same

owned_after : (frame : Option ℕ) (v : Ownership) (h : List ClaimRow) (cs : List ℕ) (c : ℕ) → (if has_channel cs c then false else is_owned v c) ≡ is_some (if has_channel cs c then None else owner_of h c)
    → (if has_channel cs c then false else is_owned v c) ≡ is_some (owner_of (released cs frame ∷ h) c)
owned_after frame v h cs c same = same

pub StandsFor-released : (v w : Ownership) (h : List ClaimRow) (cs : List ℕ) (frame : Option ℕ) → IsHeldShare v → w ≡ record v { owned = with_value_at false v.owned cs; last = with_later_at frame v.last cs } → StandsFor v h
    → StandsFor w (released cs frame ∷ h)
StandsFor-released v w h cs frame held is stands = subst (λ u. StandsFor u (released cs frame ∷ h)) (sym is) (record {
  owned = λ c within. marked-at false false v.owned cs c (omega (arith, held.few, held.owned_size)) ∙ owned_after frame v h cs c (released_by (has_channel cs c) (is_owned v c) (owner_of h c) (stands.owned c within));
  last = λ c within. last_released v h cs frame c (omega (arith, held.few, held.last_size)) (stands.last c within);
})

-- what is claimed is owned
pub AreOwned-marked : (v w : Ownership) (cs : List ℕ) → IsHeldShare v → w ≡ record v { owned = with_value_at true v.owned cs } → AreOfCard v cs → AreOwned w cs
AreOwned-marked v w cs held is card = subst (λ (u : Ownership). AreOwned u cs) (sym is) (All-from_get_or (λ k. IsTrue (get_or (with_value_at true v.owned cs) k false)) cs 0
    (λ i within.
    let in_range : get_or cs i 0 < v.channels = All-get_or (λ k. k < v.channels) cs i 0 within card in
    let owned : get_or (with_value_at true v.owned cs) (get_or cs i 0) false ≡ true =
    marked-at true false v.owned cs (get_or cs i 0) (omega (arith, held.few, held.owned_size)) ∙ ap (λ (b : Bool). if b then true else get_or v.owned (get_or cs i 0) false) (has_channel-at cs i within)
    in
    owned))

-- ---- free channels

-- a frame is before a position, or there is none
abbrev pub IsBefore : Option ℕ → ℕ → Type 0
IsBefore None position = Unit {0}
IsBefore (Some frame) position = frame < position

IsBefore-later : (a b : Option ℕ) (p : ℕ) → IsBefore (later a b) p → IsBefore a p × IsBefore b p
IsBefore-later None b p before = (tt, before)
IsBefore-later (Some x) None p before = (before, tt)
IsBefore-later (Some x) (Some y) p before = (omega (arith, before), omega (arith, before))

later-IsBefore : (a b : Option ℕ) (p : ℕ) → IsBefore a p → IsBefore b p → IsBefore (later a b) p
later-IsBefore None b p first second = second
later-IsBefore (Some x) None p first second = first
later-IsBefore (Some x) (Some y) p first second = let e : max x y < p = omega (arith, first, second) in e

silent_from : (fs : List ℕ) (p : ℕ) → IsBefore (greatest fs) p → AllByRecursion (λ f. f < p) fs
silent_from [] p before = tt
silent_from (f ∷ fs) p before = let parts = IsBefore-later (Some f) (greatest fs) p before in (parts.0, silent_from fs p parts.1)

before_from : (fs : List ℕ) (p : ℕ) → AllByRecursion (λ f. f < p) fs → IsBefore (greatest fs) p
before_from [] p all = tt
before_from (f ∷ fs) p all = later-IsBefore (Some f) (greatest fs) p all.0 (before_from fs p all.1)

none_from : (o : Option ℕ) → is_some o ≡ false → o ≡ None
none_from None e = refl
none_from (Some x) e = cc

-- channels of which none is owned, and that are silent, are free
pub AreFree-from : (v : Ownership) (h : List ClaimRow) (p : ℕ) (cs : List ℕ) → StandsFor v h → AllByRecursion (λ c. c < v.channels) cs → list_any (is_owned v) cs ≡ false → IsBefore (latest_of v cs) p → AreFree h p cs
AreFree-from v h p [] stands card unowned before = tt
AreFree-from v h p (c ∷ cs) stands card unowned before =
    let tests = or_parts (is_owned v c) (list_any (is_owned v) cs) unowned in
    let parts = IsBefore-later (last_owned_frame v c) (latest_of v cs) p before in (
      record {
        unowned = none_from (owner_of h c) (sym (stands.owned c card.0) ∙ tests.0);
        silent = silent_from (last_frames h c) p (subst (λ o. IsBefore o p) (stands.last c card.0) parts.0);
      },
      AreFree-from v h p cs stands card.1 tests.1 parts.1,
    )

-- and free channels are not owned, and silent
pub AreFree-unowned : (v : Ownership) (h : List ClaimRow) (p : ℕ) (cs : List ℕ) → StandsFor v h → AllByRecursion (λ c. c < v.channels) cs → AreFree h p cs → list_any (is_owned v) cs ≡ false
AreFree-unowned v h p [] stands card free = refl
AreFree-unowned v h p (c ∷ cs) stands card free =
    ap (λ b. b || list_any (is_owned v) cs) (stands.owned c card.0 ∙ ap is_some free.0.unowned) ∙ AreFree-unowned v h p cs stands card.1 free.1

pub AreFree-before : (v : Ownership) (h : List ClaimRow) (p : ℕ) (cs : List ℕ) → StandsFor v h → AllByRecursion (λ c. c < v.channels) cs → AreFree h p cs → IsBefore (latest_of v cs) p
AreFree-before v h p [] stands card free = tt
AreFree-before v h p (c ∷ cs) stands card free =
    later-IsBefore (last_owned_frame v c) (latest_of v cs) p (subst (λ o. IsBefore o p) (sym (stands.last c card.0)) (before_from (last_frames h c) p free.0.silent)) (AreFree-before v h p cs stands card.1 free.1)

-- ---- refusals

pub any_owned-is : (v : Ownership) (h : List ClaimRow) (cs : List ℕ) → StandsFor v h → AllByRecursion (λ c. c < v.channels) cs → list_any (is_owned v) cs ≡ any_owned h cs
any_owned-is v h [] stands card = refl
any_owned-is v h (c ∷ cs) stands card =
    ap (λ b. b || list_any (is_owned v) cs) (stands.owned c card.0) ∙ ap (λ b. is_some (owner_of h c) || b) (any_owned-is v h cs stands card.1)

pub latest_of-is : (v : Ownership) (h : List ClaimRow) (cs : List ℕ) → StandsFor v h → AllByRecursion (λ c. c < v.channels) cs → latest_of v cs ≡ greatest (flat_map (last_frames h) cs)
latest_of-is v h [] stands card = refl
latest_of-is v h (c ∷ cs) stands card =
    ap (λ o. later o (latest_of v cs)) (stands.last c card.0) ∙ (ap (later (greatest (last_frames h c))) (latest_of-is v h cs stands card.1)
    ∙ sym (greatest-append (last_frames h c) (flat_map (last_frames h) cs)))

pub behind-is : (o : Option ℕ) (last : ℕ) → SomeIff o (last + 1 < 2 ^ 64) (last + 1) → o ≡ position_past (Some last)
behind-is None last none = grind (arith, nat_tests)
behind-is (Some x) last some = grind (arith, nat_tests)
