-- Laws of the channels that open clients own, where they share the card by channels: what is kept of each client from its opening on, so that it can
-- release its channels when it is closed. Each of its channels has an owner, and no channel is another open client's too.
use Rattle.std.specs.Prelude.{◌≡◌, ℕ, ◌<◌, ◌&&◌, ◌||◌, ◌==◌, Bool, true, false, is_none, is_some, nat_lt, if◌then◌else◌, List, [], ◌∷◌, length, Option, Some, None, Ok, ⊤}
use Rattle.std.specs.List.{AllByRecursion, list_all}
use Rattle.std.proofs.Common.{refl, sym, ap, subst, ◌∙◌, arith}
use Rattle.std.proofs.lemmas.Bool.{false≢true}
use Rattle.std.proofs.lemmas.Bool.Decides.{nat_tests}
use Rattle.std.proofs.lemmas.List.Elements.{All-from_recursion, recursion_from_All}
use Rattle.dshare.specs.Owners.{ClaimRow, busy, has_channel, last_frames, owner_of}
use Rattle.dshare.specs.Shared as shared
use Rattle.lab_lines.specs.declared.script.Share.{Share}
use Rattle.lab_lines.specs.declared.script.Share.TheVariants.{Dmix, Dshare}
use Rattle.lab_run.specs.Claims.{claim_refusal, is_free_channel, with_claim, with_release}
use Rattle.lab_run.specs.Items.{Held}
use Rattle.lab_places.specs.declared.places.Places.{Places}
use Rattle.lab_places.specs.Held.{AreReleasable, CanRelease, closed_held, opened_held, share_of, shares_of}
use Rattle.lab_places.specs.HeldLaws.{opened_held-cases, opened_held-done}

-- each of these channels has an owner, where clients share the card by channels
abbrev pub OwnsChannels : Share → List ClaimRow → List ℕ → Type 0
OwnsChannels Dmix claims channels = ⊤
OwnsChannels Dshare claims channels = AllByRecursion (λ c. is_some (owner_of claims c) ≡ true) channels

-- none of these channels is one of the others, where clients share the card by channels
abbrev pub AreDisjoint : Share → List ℕ → List ℕ → Type 0
AreDisjoint Dmix channels others = ⊤
AreDisjoint Dshare channels others = AllByRecursion (λ c. has_channel others c ≡ false) channels

-- ---- lists of channels

each-from : (P Q : ℕ → Type 0) (channels : List ℕ) → ((c : ℕ) → P c → Q c) → AllByRecursion P channels → AllByRecursion Q channels
each-from P Q [] from each = tt
each-from P Q (c ∷ channels) from each = (from c each.0, each-from P Q channels from each.1)

or-true : (a : Bool) → (a || true) ≡ true
or-true true = refl
or-true false = refl

-- a list has each of its channels
has_channel-own : (channels : List ℕ) → AllByRecursion (λ c. has_channel channels c ≡ true) channels
has_channel-own [] = tt
has_channel-own (c ∷ channels) =
    let same : (c == c) ≡ true = grind (arith, nat_tests) in (
      ap (λ (b : Bool). b || has_channel channels c) same,
      each-from (λ d. has_channel channels d ≡ true) (λ d. has_channel (c ∷ channels) d ≡ true) channels
          (λ d has. ap (λ (b : Bool). (c == d) || b) has ∙ or-true (c == d)) (has_channel-own channels),
    )

-- what holds of each channel of a list holds of one that the list has
has_channel-each : (P : ℕ → Type 0) (channels : List ℕ) (c : ℕ) → AllByRecursion P channels → has_channel channels c ≡ true → P c
has_channel-each P [] c each has = absurd (false≢true has)
has_channel-each P (d ∷ channels) c each has = by_test (d == c) refl has (has_channel-each P channels c each.1)
  where
    by_test : (same : Bool) → (d == c) ≡ same → (same || has_channel channels c) ≡ true → (has_channel channels c ≡ true → P c) → P c
    by_test true same more rest = subst P (let e : d ≡ c = grind (arith, nat_tests) in e) each.0
    by_test false same more rest = rest more

-- a list has no channel that another one has, of which each channel isn't in the list
has_channel-none : (channels others : List ℕ) (c : ℕ) → AllByRecursion (λ d. has_channel others d ≡ false) channels → has_channel others c ≡ true → has_channel channels c ≡ false
has_channel-none channels others c apart has = by_test (has_channel channels c) refl
  where
    by_test : (in_both : Bool) → has_channel channels c ≡ in_both → has_channel channels c ≡ false
    by_test true is = absurd (false≢true (sym (has_channel-each (λ d. has_channel others d ≡ false) channels c apart is) ∙ has))
    by_test false is = is

pub AreDisjoint-sym : (sharing : Share) (channels others : List ℕ) → AreDisjoint sharing channels others → AreDisjoint sharing others channels
AreDisjoint-sym Dmix channels others apart = tt
AreDisjoint-sym Dshare channels others apart =
    each-from (λ c. has_channel others c ≡ true) (λ c. has_channel channels c ≡ false) others (λ c has. has_channel-none channels others c apart has) (has_channel-own others)

-- ---- claims and releases

owned_if-claimed : (claimed : Bool) (n : ℕ) (owner : Option ℕ) → is_some owner ≡ true → is_some (if claimed then Some n else owner) ≡ true
owned_if-claimed true n owner owned = refl
owned_if-claimed false n owner owned = owned

-- another client's claim leaves them owned
pub OwnsChannels-with_claim : (sharing : Share) (claims : List ClaimRow) (channels others : List ℕ) → OwnsChannels sharing claims channels
    → OwnsChannels sharing (with_claim sharing others claims) channels
OwnsChannels-with_claim Dmix claims channels others owns = tt
OwnsChannels-with_claim Dshare claims channels others owns =
    each-from (λ c. is_some (owner_of claims c) ≡ true) (λ c. is_some (if has_channel others c then Some (length claims) else owner_of claims c) ≡ true) channels
    (λ c owned. owned_if-claimed (has_channel others c) (length claims) (owner_of claims c) owned) owns

-- and so does another client's release
pub OwnsChannels-with_release : (sharing : Share) (claims : List ClaimRow) (channels others : List ℕ) (last : Option ℕ) → AreDisjoint sharing channels others
    → OwnsChannels sharing claims channels → OwnsChannels sharing (with_release sharing others last claims) channels
OwnsChannels-with_release Dmix claims channels others last apart owns = tt
OwnsChannels-with_release Dshare claims [] others last apart owns = tt
OwnsChannels-with_release Dshare claims (c ∷ channels) others last apart owns = (
  ap (λ (b : Bool). is_some (if b then None else owner_of claims c)) apart.0 ∙ owns.0,
  OwnsChannels-with_release Dshare claims channels others last apart.1 owns.1,
)

-- a client owns what it claimed
pub OwnsChannels-own : (sharing : Share) (claims : List ClaimRow) (channels : List ℕ) → OwnsChannels sharing (with_claim sharing channels claims) channels
OwnsChannels-own Dmix claims channels = tt
OwnsChannels-own Dshare claims channels =
    each-from (λ c. has_channel channels c ≡ true) (λ c. is_some (if has_channel channels c then Some (length claims) else owner_of claims c) ≡ true) channels
    (λ c has. ap (λ (b : Bool). is_some (if b then Some (length claims) else owner_of claims c)) has) (has_channel-own channels)

-- ---- channels that are granted

and-left : (a b : Bool) → (a && b) ≡ true → a ≡ true
and-left true b both = refl
and-left false b both = both

and-right : (a b : Bool) → (a && b) ≡ true → b ≡ true
and-right true b both = both
and-right false b both = absurd (false≢true both)

none-some : (owner : Option ℕ) → is_none owner ≡ true → is_some owner ≡ false
none-some None none = refl
none-some (Some n) none = absurd (false≢true none)

free-unowned : (claims : List ClaimRow) (at : ℕ) (channels : List ℕ) → list_all (is_free_channel claims at) channels ≡ true
    → AllByRecursion (λ c. is_some (owner_of claims c) ≡ false) channels
free-unowned claims at [] free = tt
free-unowned claims at (c ∷ channels) free =
    let here : is_free_channel claims at c ≡ true = and-left (is_free_channel claims at c) (list_all (is_free_channel claims at) channels) free in (
      none-some (owner_of claims c) (and-left (is_none (owner_of claims c)) (list_all (λ frame. nat_lt frame at) (last_frames claims c)) here),
      free-unowned claims at channels (and-right (is_free_channel claims at c) (list_all (is_free_channel claims at) channels) free),
    )

granted-unowned : (claims : List ClaimRow) (at : ℕ) (channels : List ℕ) → claim_refusal Dshare claims channels at ≡ None → AllByRecursion (λ c. is_some (owner_of claims c) ≡ false) channels
granted-unowned claims at channels granted = by_test (list_all (is_free_channel claims at) channels) refl granted
  where
    by_test : (free : Bool) → list_all (is_free_channel claims at) channels ≡ free → (if free then None else Some (busy claims channels at)) ≡ None
        → AllByRecursion (λ c. is_some (owner_of claims c) ≡ false) channels
    by_test true free none = free-unowned claims at channels free
    by_test false free none = absurd (cc)

-- channels that are granted were nobody's
pub AreDisjoint-granted : (sharing : Share) (claims : List ClaimRow) (channels others : List ℕ) (at : ℕ) → OwnsChannels sharing claims channels
    → claim_refusal sharing claims others at ≡ None → AreDisjoint sharing channels others
AreDisjoint-granted Dmix claims channels others at owns granted = tt
AreDisjoint-granted Dshare claims channels others at owns granted =
    each-from (λ c. is_some (owner_of claims c) ≡ true) (λ c. has_channel others c ≡ false) channels (λ c owned. apart c owned (has_channel others c) refl) owns
  where
    apart : (c : ℕ) → is_some (owner_of claims c) ≡ true → (in_both : Bool) → has_channel others c ≡ in_both → has_channel others c ≡ false
    apart c owned true is =
        absurd (false≢true (sym (has_channel-each (λ d. is_some (owner_of claims d) ≡ false) others c (granted-unowned claims at others granted) is) ∙ owned))
    apart c owned false is = is

-- ---- openings and closings

-- an opened client owns its channels
pub OwnsChannels-opened : (sharing : Share) (client : ℕ) (channels : List ℕ) (at : ℕ) (held : Held) → (opened_held sharing client channels at held).1 ≡ Ok tt
    → OwnsChannels sharing (opened_held sharing client channels at held).0.claims channels
OwnsChannels-opened sharing client channels at held done =
    subst (λ (claims : List ClaimRow). OwnsChannels sharing claims channels) (sym (opened_held-done sharing client channels at held done).claims)
    (OwnsChannels-own sharing held.claims channels)

-- which are none of the other clients'
pub AreDisjoint-opened : (sharing : Share) (client : ℕ) (others : List ℕ) (at : ℕ) (held : Held) (channels : List ℕ) → OwnsChannels sharing held.claims channels
    → (opened_held sharing client others at held).1 ≡ Ok tt → AreDisjoint sharing channels others
AreDisjoint-opened sharing client others at held channels owns done =
    AreDisjoint-granted sharing held.claims channels others at owns (opened_held-done sharing client others at held done).granted

-- the others own theirs still, whatever the answer
pub OwnsChannels-opened_held : (sharing : Share) (client : ℕ) (others : List ℕ) (at : ℕ) (held : Held) (channels : List ℕ) → OwnsChannels sharing held.claims channels
    → OwnsChannels sharing (opened_held sharing client others at held).0.claims channels
OwnsChannels-opened_held sharing client others at held channels owns =
    opened_held-cases sharing client others at held (λ came. OwnsChannels sharing came.0.claims channels) (λ e. owns) (λ seen e. owns)
    (λ place granted free. OwnsChannels-with_claim sharing held.claims channels others owns)

pub OwnsChannels-closed_held : (sharing : Share) (client : ℕ) (others : List ℕ) (last : Option ℕ) (held : Held) (channels : List ℕ) → AreDisjoint sharing channels others
    → OwnsChannels sharing held.claims channels → OwnsChannels sharing (closed_held sharing client others last held).claims channels
OwnsChannels-closed_held sharing client others last held channels apart owns = OwnsChannels-with_release sharing held.claims channels others last apart owns

-- ---- at the shares

AreOwned-by_recursion : (v : shared.Ownership) (claims : List ClaimRow) (channels : List ℕ) → shared.StandsFor v claims → AllByRecursion (λ c. c < v.channels) channels
    → AllByRecursion (λ c. is_some (owner_of claims c) ≡ true) channels → AllByRecursion (λ c. shared.is_owned v c ≡ true) channels
AreOwned-by_recursion v claims [] stands card owns = tt
AreOwned-by_recursion v claims (c ∷ channels) stands card owns = (stands.owned c card.0 ∙ owns.0, AreOwned-by_recursion v claims channels stands card.1 owns.1)

releasable : (sharing : Share) (v : shared.Ownership) (claims : List ClaimRow) (channels : List ℕ) → shared.StandsFor v claims → shared.AreOfCard v channels
    → OwnsChannels sharing claims channels → AreReleasable sharing v channels
releasable Dmix v claims channels stands card owns = tt
releasable Dshare v claims channels stands card owns = (
  card,
  All-from_recursion (λ c. shared.is_owned v c ≡ true) channels (AreOwned-by_recursion v claims channels stands (recursion_from_All (λ c. c < v.channels) channels card) owns),
)

-- a client that owns its channels can release them
pub CanRelease-owned : (p : Places) (claims : List ClaimRow) (channels : List ℕ) → shared.StandsFor (shares_of p) claims → shared.AreOfCard (shares_of p) channels
    → OwnsChannels (share_of p) claims channels → CanRelease p channels
CanRelease-owned p claims channels stands card owns = releasable p.share p.shares claims channels stands card owns
