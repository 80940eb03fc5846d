-- What it comes to that a handle is opened or closed, by the steps of the call.
use Rattle.dmix_c.specs.Prelude.{ap, inl, inr, refl, subst, sym, ℕ, ℤ, ◌∙◌, ◌≡◌, false≢true, is_some, Bool, false, IsSome, IsTrue, None, Option, pos, Some}
use Rattle.dmix_c.specs.Prelude.{true, ◌||◌, ◌↔◌, ◌⊎◌, PcmError, Again, Memory, NotSupported, member_of, OpenRing, Opened, Client, Reader, Ring, RingParams}
use Rattle.dmix_c.specs.Prelude.{Recording, bad_handle, error_number, handle_in_use, Closes, Ends, is_kind, OpensAt, OpensBoth, OpensBy, OpensPair}
use Rattle.dmix_c.specs.Prelude.{OpensReaderAt, OpensStream, CanOpen, GivesNone, GivesPlace, GivesReader, IsNewPair, KeepsRing}
use Rattle.dmix_c.specs.declared.opened.Kind.{Kind}
use Rattle.dmix_c.specs.declared.playback.Playback.{Playback}
use Rattle.dmix_c.proofs.Ringed.{source_of-some}

-- what was taken from a handle, by what was seen of its kind
kind-seen : (asked : Kind) (taken seen : Opened) (test answer : Bool) → seen ≡ taken → test ≡ is_kind asked seen → test ≡ answer → is_kind asked taken ≡ answer
kind-seen asked taken seen test answer same is said = ap (is_kind asked) (sym same) ∙ (sym is ∙ said)

pub Closes-done : (asked : Kind) (before after : Option Opened) (taken seen : Opened) (test : Bool) (answer : ℤ) → before ≡ Some taken → seen ≡ taken
    → test ≡ is_kind asked seen → test ≡ true → after ≡ None → answer ≡ pos 0 → Closes asked before after answer
Closes-done asked before after taken seen test answer found same is said closed done =
    subst (λ (h : Option Opened). Closes asked h after answer) (sym found)
    (subst (λ (b : Bool). Ends b (Some taken) after answer) (sym (kind-seen asked taken seen test true same is said)) (closed, done))

pub Closes-other : (asked : Kind) (before after : Option Opened) (taken seen : Opened) (test : Bool) (answer : ℤ) → before ≡ Some taken → seen ≡ taken
    → test ≡ is_kind asked seen → test ≡ false → after ≡ Some taken → answer ≡ bad_handle → Closes asked before after answer
Closes-other asked before after taken seen test answer found same is said put bad =
    subst (λ (h : Option Opened). Closes asked h after answer) (sym found)
    (subst (λ (b : Bool). Ends b (Some taken) after answer) (sym (kind-seen asked taken seen test false same is said)) (put, bad, tt))

-- a client that can't be opened: by its ring, or for the memory of its handle
pub OpensAt-failed : (r t : OpenRing) (client : Option Opened) (e : PcmError) (answer : ℤ) → client ≡ None → KeepsRing None r t → ((e ≡ Again) × GivesNone t) ⊎ (e ≡ Memory)
    → answer ≡ error_number e → OpensAt r t client answer
OpensAt-failed r t client e answer none keeps (inl again) is = inr (none, inl (keeps, again.1, is ∙ ap error_number again.0))
OpensAt-failed r t client e answer none keeps (inr memory) is = inr (none, inr (None, keeps, is ∙ ap error_number memory))

pub OpensAt-memory : (given : Option ℕ) (r t : OpenRing) (client : Option Opened) (answer : ℤ) → client ≡ None → KeepsRing given r t → answer ≡ error_number Memory
    → OpensAt r t client answer
OpensAt-memory given r t client answer none keeps is = inr (none, inr (given, keeps, is))

-- and one that is
pub OpensAt-done : (r t : OpenRing) (client : Option Opened) (p : Playback) (made : Opened) (answer : ℤ) → KeepsRing (Some (member_of p.seat)) r t → GivesPlace t p
    → made ≡ Client p → client ≡ Some made → answer ≡ pos 0 → OpensAt r t client answer
OpensAt-done r t client p made answer keeps gives is found done = inl (p, found ∙ ap (λ (o : Opened). Some o) is, keeps, gives, done)

-- a reader that can't be opened, since the ring captures nothing, or there is no memory for the handle; and one that is
module _ (r t : OpenRing) (reader : Option Opened) (answer : ℤ) (keeps : KeepsRing None r t) where
  pub OpensReaderAt-failed : (e : PcmError) → reader ≡ None → (e ≡ NotSupported) × (t.capture ≡ None) → answer ≡ error_number e → OpensReaderAt r t reader answer
  OpensReaderAt-failed e none why is = (keeps, inr (none, inl (why.1, is ∙ ap error_number why.0)))

  pub OpensReaderAt-memory : (p : Recording) → reader ≡ None → GivesReader t p → answer ≡ error_number Memory → OpensReaderAt r t reader answer
  OpensReaderAt-memory p none gives is = (keeps, inr (none, inr (source_of-some t.capture _ gives.source, is)))

  pub OpensReaderAt-done : (p : Recording) (made : Opened) → GivesReader t p → made ≡ Reader p → reader ≡ Some made → answer ≡ pos 0 → OpensReaderAt r t reader answer
  OpensReaderAt-done p made gives is found done = (keeps, inl (p, found ∙ ap (λ (o : Opened). Some o) is, gives, done))

-- a handle that isn't open stands for nothing
pub closed-none : (handle : Option Opened) (test : Bool) → (IsTrue test ↔ IsSome handle) → test ≡ false → handle ≡ None
closed-none None test tells shut = refl
closed-none (Some opened) test tells shut = absurd (false≢true (sym shut ∙ tells.1 refl))

-- by the stream's own handle: it is open, or it is opened by its ring's
pub OpensStream-open : (At : OpenRing → OpenRing → Option Opened → ℤ → Type 0) (stream ring after ring_after : Option Opened) (test : Bool) (answer : ℤ)
    → (IsTrue test ↔ IsSome stream) → test ≡ true → after ≡ stream → ring_after ≡ ring → answer ≡ handle_in_use → OpensStream At stream ring after ring_after answer
OpensStream-open At None ring after ring_after test answer tells is same ring_same used = absurd (false≢true (tells.0 is))
OpensStream-open At (Some opened) ring after ring_after test answer tells is same ring_same used = (same, ring_same, used)

pub OpensStream-closed : (At : OpenRing → OpenRing → Option Opened → ℤ → Type 0) (stream ring after ring_after : Option Opened) (answer : ℤ) → stream ≡ None
    → OpensBy At ring after ring_after answer → OpensStream At stream ring after ring_after answer
OpensStream-closed At stream ring after ring_after answer none opens = subst (λ (c : Option Opened). OpensStream At c ring after ring_after answer) (sym none) opens

-- whether a handle stands for something, by its test
pub is_some-tested : (handle : Option Opened) (test : Bool) → (IsTrue test ↔ IsSome handle) → is_some handle ≡ test
is_some-tested None true tells = absurd (false≢true (tells.0 refl))
is_some-tested None false tells = refl
is_some-tested (Some opened) true tells = refl
is_some-tested (Some opened) false tells = absurd (false≢true (tells.1 refl))

-- and two that are closed
pub some_or-closed : (ring card : Option Opened) (first second : Bool) → (IsTrue first ↔ IsSome ring) → (IsTrue second ↔ IsSome card) → first ≡ false
    → second ≡ false → (is_some ring || is_some card) ≡ false
some_or-closed ring card first second tells also shut closed =
    ap (λ (b : Bool). b || is_some card) (is_some-tested ring first tells ∙ shut) ∙ (is_some-tested card second also ∙ closed)

-- a ring and its card are opened by two handles that are closed, of parameters that a ring can have
module _ (captures : Bool) (params : RingParams) where
  pub OpensPair-done : (ring card ring_after card_after : Option Opened) (answer : ℤ) → (is_some ring || is_some card) ≡ false → CanOpen params
      → OpensBoth captures params ring_after card_after answer → OpensPair captures params ring card ring_after card_after answer
  OpensPair-done ring card ring_after card_after answer shut can opens = record {
    in_use = λ used. absurd (false≢true (sym shut ∙ used));
    invalid = λ other refuses. absurd (refuses can);
    opened = λ other also. opens;
  }

  -- in boxes, by their handles
  pub OpensBoth-done : (ring card : Option Opened) (answer : ℤ) (r : OpenRing) (c made_ring made_card : Opened) → IsNewPair captures params r c
      → made_ring ≡ Ring r → made_card ≡ c → ring ≡ Some made_ring → card ≡ Some made_card → answer ≡ pos 0 → OpensBoth captures params ring card answer
  OpensBoth-done ring card answer r c made_ring made_card new is_ring is_card has_ring has_card done =
      inl (r, c, has_ring ∙ ap (λ (o : Opened). Some o) is_ring, has_card ∙ ap (λ (o : Opened). Some o) is_card, new, done)
