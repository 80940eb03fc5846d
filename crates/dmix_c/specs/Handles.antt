-- What a call by a handle does to what the handle stands for, and what it answers.
use Rattle.std.specs.Prelude.{◌≡◌, ◌⊎◌, ◌||◌, Bool, true, false, ⊤, ℕ, ℤ, pos, Option, None, Some, IsSome}
use Rattle.std.specs.Option.{is_some}
use Rattle.snd_base.specs.declared.errors.PcmError.TheVariants.{Again, Invalid, Memory, NotSupported}
use Rattle.snd_base.specs.declared.errors.Why.TheVariants as why
use Rattle.sum_table.specs.Seats.{member_of}
use Rattle.dmix_c.specs.declared.duplex_card.DuplexCard.{DuplexCard}
use Rattle.dmix_c.specs.declared.open_ring.OpenRing.{OpenRing}
use Rattle.dmix_c.specs.declared.opened.Kind.{Kind}
use Rattle.dmix_c.specs.declared.opened.Kind.TheVariants as kind
use Rattle.dmix_c.specs.declared.opened.Opened.{Opened}
use Rattle.dmix_c.specs.declared.opened.Opened.TheVariants.{Card, Client, Duplex, Reader, Ring}
use Rattle.dmix_c.specs.declared.params.RingParams.{RingParams}
use Rattle.dmix_c.specs.declared.playback.Playback.{Playback}
use Rattle.dmix_c.specs.declared.playing_card.PlayingCard.{PlayingCard}
use Rattle.dmix_c.specs.declared.recording.Recording.{Recording}
use Rattle.dmix_c.specs.Answers.{bad_handle, error_number, handle_in_use}
use Rattle.dmix_c.specs.Params.{CanOpen}
use Rattle.dmix_c.specs.RingPlaces.{GivesNone, GivesPlace, GivesReader, IsNewPair, KeepsRing}

-- what a handle stands for stays, the answer is -EBADF, and nothing else is done
abbrev pub Refuses : Type 0 → Option Opened → Option Opened → ℤ → Type 0
Refuses Idle before after answer = (after ≡ before) × (answer ≡ bad_handle) × Idle

-- a call by a handle of a client: a handle that is closed, or stands for something else, is refused
abbrev pub OnClient : Type 0 → (Playback → Playback → ℤ → Type 0) → Option Opened → Option Opened → ℤ → Type 0
OnClient Idle Does (Some (Client p)) after answer = (q : Playback) × (after ≡ Some (Client q)) × Does p q answer
OnClient Idle Does other after answer = Refuses Idle other after answer

-- the same of a reader
abbrev pub OnReader : Type 0 → (Recording → Recording → ℤ → Type 0) → Option Opened → Option Opened → ℤ → Type 0
OnReader Idle Does (Some (Reader p)) after answer = (q : Recording) × (after ≡ Some (Reader q)) × Does p q answer
OnReader Idle Does other after answer = Refuses Idle other after answer

-- the same of a card that plays alone
abbrev pub OnCard : Type 0 → (PlayingCard → PlayingCard → ℤ → Type 0) → Option Opened → Option Opened → ℤ → Type 0
OnCard Idle Does (Some (Card c)) after answer = (d : PlayingCard) × (after ≡ Some (Card d)) × Does c d answer
OnCard Idle Does other after answer = Refuses Idle other after answer

-- the same of a card that captures and plays
abbrev pub OnDuplex : Type 0 → (DuplexCard → DuplexCard → ℤ → Type 0) → Option Opened → Option Opened → ℤ → Type 0
OnDuplex Idle Does (Some (Duplex c)) after answer = (d : DuplexCard) × (after ≡ Some (Duplex d)) × Does c d answer
OnDuplex Idle Does other after answer = Refuses Idle other after answer

-- the same of a card of either kind
abbrev pub OnEitherCard : Type 0 → (PlayingCard → PlayingCard → ℤ → Type 0) → (DuplexCard → DuplexCard → ℤ → Type 0)
    → Option Opened → Option Opened → ℤ → Type 0
OnEitherCard Idle Does DoesDuplex (Some (Duplex c)) after answer = OnDuplex Idle DoesDuplex (Some (Duplex c)) after answer
OnEitherCard Idle Does DoesDuplex other after answer = OnCard Idle Does other after answer

-- of what kind it is that a handle stands for
abbrev pub is_kind : Kind → Opened → Bool
is_kind kind.Ring (Ring r) = true
is_kind kind.Client (Client p) = true
is_kind kind.Reader (Reader p) = true
is_kind kind.Card (Card c) = true
is_kind kind.Card (Duplex c) = true
is_kind other opened = false

-- a handle is closed, where it stands for something of a kind, and what it stood for ends
abbrev pub Ends : Bool → Option Opened → Option Opened → ℤ → Type 0
Ends true before after answer = (after ≡ None) × (answer ≡ pos 0)
Ends false before after answer = Refuses ⊤ before after answer

abbrev pub Closes : Kind → Option Opened → Option Opened → ℤ → Type 0
Closes asked None after answer = Refuses ⊤ None after answer
Closes asked (Some opened) after answer = Ends (is_kind asked opened) (Some opened) after answer

-- no client was opened: no place is free and silent, or there is no memory. Without memory for the handle a place may have been given, whose
-- seat comes back like a closed client's
abbrev pub OpensNone : OpenRing → OpenRing → ℤ → Type 0
OpensNone r t answer =
    (KeepsRing None r t × GivesNone t × (answer ≡ error_number Again))
    ⊎ ((given : Option ℕ) × KeepsRing given r t × (answer ≡ error_number Memory))

-- a client was opened at a place of a ring, or none was
abbrev pub OpensAt : OpenRing → OpenRing → Option Opened → ℤ → Type 0
OpensAt r t client answer =
    ((p : Playback) × (client ≡ Some (Client p)) × KeepsRing (Some (member_of p.seat)) r t × GivesPlace t p × (answer ≡ pos 0))
    ⊎ ((client ≡ None) × OpensNone r t answer)

-- a reader was opened at the capture ring of a ring, which keeps its places; or there is no capture ring, or no memory
abbrev pub OpensReaderAt : OpenRing → OpenRing → Option Opened → ℤ → Type 0
OpensReaderAt r t reader answer = KeepsRing None r t
    × (((p : Recording) × (reader ≡ Some (Reader p)) × GivesReader t p × (answer ≡ pos 0))
    ⊎ ((reader ≡ None) × (((t.capture ≡ None) × (answer ≡ error_number NotSupported)) ⊎ (IsSome t.capture × (answer ≡ error_number Memory)))))

-- a client or a reader is opened by the handle of a ring, in one of these two ways
abbrev pub OpensBy : (OpenRing → OpenRing → Option Opened → ℤ → Type 0) → Option Opened → Option Opened → Option Opened → ℤ → Type 0
OpensBy At (Some (Ring r)) stream ring answer = (t : OpenRing) × (ring ≡ Some (Ring t)) × At r t stream answer
OpensBy At other stream ring answer = (stream ≡ None) × Refuses ⊤ other ring answer

-- and by its own handle, which is closed before
abbrev pub OpensStream : (OpenRing → OpenRing → Option Opened → ℤ → Type 0) → Option Opened → Option Opened → Option Opened → Option Opened → ℤ → Type 0
OpensStream At (Some opened) ring after ring_after answer = (after ≡ Some opened) × (ring_after ≡ ring) × (answer ≡ handle_in_use)
OpensStream At None ring after ring_after answer = OpensBy At ring after ring_after answer

abbrev pub OpensClient : Option Opened → Option Opened → Option Opened → Option Opened → ℤ → Type 0
OpensClient = OpensStream OpensAt

abbrev pub OpensReader : Option Opened → Option Opened → Option Opened → Option Opened → ℤ → Type 0
OpensReader = OpensStream OpensReaderAt

-- a ring and its card were opened, or there is no memory
abbrev pub OpensBoth : Bool → RingParams → Option Opened → Option Opened → ℤ → Type 0
OpensBoth captures params ring card answer =
    ((r : OpenRing) × (c : Opened) × (ring ≡ Some (Ring r)) × (card ≡ Some c) × IsNewPair captures params r c × (answer ≡ pos 0))
    ⊎ ((ring ≡ None) × (card ≡ None) × (answer ≡ error_number Memory))

-- a ring and its card are opened by two handles that are closed, with parameters that a ring can have
pub record OpensPair (captures : Bool) (params : RingParams) (ring card ring_after card_after : Option Opened) (answer : ℤ) : Type 0 where
  pub in_use : (is_some ring || is_some card) ≡ true
      → (ring_after ≡ ring) × (card_after ≡ card) × (answer ≡ handle_in_use)
  pub invalid : (is_some ring || is_some card) ≡ false → (CanOpen params → ⊥)
      → (ring_after ≡ None) × (card_after ≡ None) × (answer ≡ error_number (Invalid why.Config))
  pub opened : (is_some ring || is_some card) ≡ false → CanOpen params → OpensBoth captures params ring_after card_after answer

abbrev pub OpensRing : RingParams → Option Opened → Option Opened → Option Opened → Option Opened → ℤ → Type 0
OpensRing = OpensPair false

abbrev pub OpensDuplex : RingParams → Option Opened → Option Opened → Option Opened → Option Opened → ℤ → Type 0
OpensDuplex = OpensPair true
