-- Clients that share a card by channels have no channel in common while they are open: each channel has one owner.
use Rattle.run_laws.specs.Prelude.{ap, arith, length, List, None, Option, refl, Some, subst, sym, ℕ, [], ◌<◌, ◌∙◌, ◌∷◌, ◌≡◌, eqb-true, false_from_ne_true}
use Rattle.run_laws.specs.Prelude.{false≢true, nat_tests, Bool, false, is_some, slice_index_or, slice_set, true, ◌==◌, ◌||◌, AreFree, claimed}
use Rattle.run_laws.specs.Prelude.{ClaimRow as Claim, has_channel, IsFree, owner_of, released, high_frame, PlaybackStream, Sound, Item, Op, Answer, Dshare}
use Rattle.run_laws.specs.Prelude.{claim_refusal, ClaimIsOwners, with_claim, with_release, Client, client_kind, no_sound, LineMay, AtPort, Rules, client_at}
use Rattle.run_laws.specs.Prelude.{ended_client, first_stage, Session, Setup, Stage, channels_of_client, HaveOwnChannels}
use Rattle.run_laws.proofs.Bound.{HasBindings, line-bound}
use Rattle.run_laws.proofs.Going.{still-client}
use Rattle.run_laws.proofs.Stages.{IsLasting, at, first-none, items-held, client_opened, set-so}

-- ---- channels

abbrev pub Has : List ℕ → ℕ → Type 0
Has channels k = has_channel channels k ≡ true

pub not-has : (channels : List ℕ) (k : ℕ) → (Has channels k → ⊥) → has_channel channels k ≡ false
not-has channels k not = false_from_ne_true (has_channel channels k) not

pub free-at : (claims : List Claim) (position : ℕ) (channels : List ℕ) (k : ℕ) → AreFree claims position channels → Has channels k → IsFree claims position k
free-at claims position [] k free has = absurd (false≢true has)
free-at claims position (c ∷ channels) k free has = by_test (free-at claims position channels k free.1) (c == k) refl
  where
    by_test : (Has channels k → IsFree claims position k) → (b : Bool) → (c == k) ≡ b → IsFree claims position k
    by_test rest true is = subst (IsFree claims position) (eqb-true c k is) free.0
    by_test rest false is = rest (subst (λ b. (b || has_channel channels k) ≡ true) is has)

-- a client is open, and has a channel
abbrev pub HoldsChannel : ℕ → AtPort × Client → Type 0
HoldsChannel k x = Has (channels_of_client x.1.own) k

-- a line leaves a client the channels that it has
pub line-part : (rules : Rules) (phase : ℕ) (wav : Sound) (number : ℕ) (a b : AtPort) (client after : Client) (asked : Op) (answer : Answer)
    → LineMay (client_kind phase wav number) rules (a, client) asked (b, after) answer → (k : ℕ) → HoldsChannel k (b, after) → HoldsChannel k (a, client)
line-part rules phase wav number a b client after asked answer may k = by_own client.own refl
  where
    bound-part : (channels : List ℕ) (own : Option PlaybackStream) → HasBindings channels own → Has (channels_of_client own) k → Has channels k
    bound-part channels None bound has = absurd (false≢true has)
    bound-part channels (Some c) bound has = subst (λ (l : List ℕ). Has l k) bound has

    by_own : (own : Option PlaybackStream) → client.own ≡ own → Has (channels_of_client after.own) k → Has (channels_of_client own) k
    by_own None is = rw (still-client rules phase wav number a b client after asked answer is may) (rw is (λ has. has))
    by_own (Some c) is = bound-part c.setup.bindings after.own
        (line-bound rules phase wav number c.setup.bindings a b client after asked answer (subst (HasBindings c.setup.bindings) (sym is) refl) may)

-- ---- the owner of a channel

-- a channel that an open client has is owned, and no other has it
pub record HasOneOwner (session : Session) (k : ℕ) (clients : List (AtPort × Client)) (claims : List Claim) : Type 0 where
  pub owned : (n : ℕ) → HoldsChannel k (at session clients n) → is_some (owner_of claims k) ≡ true
  pub only : (n m : ℕ) → HoldsChannel k (at session clients n) → HoldsChannel k (at session clients m) → n ≡ m

module _ (session : Session) (k : ℕ) where
  -- each of some clients has the channel only if it had it, and then the owner is still there
  fewer : (clients after : List (AtPort × Client)) (claims more : List Claim)
      → ((m : ℕ) → HoldsChannel k (at session after m) → HoldsChannel k (at session clients m) × (owner_of more k ≡ owner_of claims k))
      → HasOneOwner session k clients claims → HasOneOwner session k after more
  fewer clients after claims more less one = grind (arith, nat_tests)

  pub first-owner : HasOneOwner session k (first_stage session).clients (first_stage session).claims
  first-owner = record { owned = λ n has. absurd (none n has); only = λ n m has also. absurd (none n has) }
    where
      none : (n : ℕ) → HoldsChannel k (at session (first_stage session).clients n) → ⊥
      none n has = false≢true (subst (HoldsChannel k) (first-none session session.clients n) has)

  module _ (share : session.card.share ≡ Dshare) (owners : (claims : List Claim) (channels : List ℕ) (position : ℕ) → ClaimIsOwners claims channels position) where
    pub granted-free : (claims : List Claim) (channels : List ℕ) (position : ℕ) → claim_refusal session.card.share claims channels position ≡ None → AreFree claims position channels
    granted-free claims channels position granted = (owners claims channels position).granted (subst (λ s. claim_refusal s claims channels position ≡ None) share granted)

    opens-owner : (clients : List (AtPort × Client)) (claims : List Claim) (n : ℕ) (setup : Setup) (position : ℕ) → AreFree claims position setup.bindings
        → HasOneOwner session k clients claims → HasOneOwner session k (slice_set clients n (client_opened session clients n setup)) (claimed setup.bindings ∷ claims)
    opens-owner clients claims n setup position free one = by_claim (has_channel setup.bindings k) refl
      where
        after : List (AtPort × Client)
        after = slice_set clients n (client_opened session clients n setup)

        alone : Has setup.bindings k → (m : ℕ) → HoldsChannel k (at session after m) → n ≡ m
        alone claim = set-so session (λ m z. HoldsChannel k z → n ≡ m) clients n (client_opened session clients n setup) (λ has. refl)
            (λ m not has. absurd (false≢true (sym (ap is_some (free-at claims position setup.bindings k free claim).unowned) ∙ one.owned m has)))

        by_claim : (b : Bool) → has_channel setup.bindings k ≡ b → HasOneOwner session k after (claimed setup.bindings ∷ claims)
        by_claim true claim = record { owned = λ m has. rw claim refl; only = λ i j first second. sym (alone claim i first) ∙ alone claim j second }
        by_claim false claim = fewer clients after claims (claimed setup.bindings ∷ claims)
            (λ m has. (
              set-so session (λ j z. HoldsChannel k z → HoldsChannel k (at session clients j)) clients n (client_opened session clients n setup)
                  (λ own. absurd (false≢true (sym claim ∙ own))) (λ j not here. here) m has,
              rw claim refl,
            )) one

    ends-owner : (clients : List (AtPort × Client)) (claims : List Claim) (n : ℕ) (c : PlaybackStream) (last : Option ℕ) → n < length clients
        → (at session clients n).1.own ≡ Some c → HasOneOwner session k clients claims
        → HasOneOwner session k (slice_set clients n (ended_client session.ring (at session clients n))) (released c.setup.bindings last ∷ claims)
    ends-owner clients claims n c last within is one = fewer clients _ claims (released c.setup.bindings last ∷ claims)
        (set-so session (λ m z. HoldsChannel k z → HoldsChannel k (at session clients m) × (owner_of (released c.setup.bindings last ∷ claims) k ≡ owner_of claims k)) clients n _
        (λ has. absurd (false≢true has)) (λ m not has. (has, rw (not-has c.setup.bindings k (λ own. not (one.only n m (own_has own) has) within)) refl))) one
      where
        own_has : Has c.setup.bindings k → HoldsChannel k (at session clients n)
        own_has = subst (λ (o : Option PlaybackStream). Has c.setup.bindings k → Has (channels_of_client o) k) (sym is) (λ own. own)

    pub one-owner : IsLasting session (λ clients claims position. HasOneOwner session k clients claims)
    one-owner = record {
      line = λ rules phase clients claims position n y asked answer least within may one. fewer clients (slice_set clients n y) claims claims
          (λ m has. (
            set-so session (λ j z. HoldsChannel k z → HoldsChannel k (at session clients j)) clients n y
                (line-part rules phase (slice_index_or session.sounds n no_sound) n (at session clients n).0 y.0 (at session clients n).1 y.1 asked answer may k) (λ j not here. here) m has,
            refl,
          )) one;
      opens = λ clients claims position n setup there closed granted one.
          subst (λ s. HasOneOwner session k (slice_set clients n (client_opened session clients n setup)) (with_claim s setup.bindings claims)) (sym share)
          (opens-owner clients claims n setup position (granted-free claims setup.bindings position granted) one);
      ends = λ clients claims position n c within is one.
          subst (λ s. HasOneOwner session k (slice_set clients n (ended_client session.ring (at session clients n)))
          (with_release s c.setup.bindings (high_frame session.ring (at session clients n).0.marks) claims)) (sym share) (ends-owner clients claims n c _ within is one);
      later = λ clients claims position q after one. one;
    }

pub own-channels : (session : Session) (done : List Item) (stage : Stage) → ((claims : List Claim) (channels : List ℕ) (position : ℕ) → ClaimIsOwners claims channels position)
    → HaveOwnChannels session done stage
own-channels session done stage owners share may n m other k has = not-has (channels_of_client (client_at session stage m).1.own) k (λ also. other (one.only n m has also))
  where
    one : HasOneOwner session k stage.clients stage.claims
    one = items-held session (λ clients claims position. HasOneOwner session k clients claims) (one-owner session k share owners) (first_stage session) stage done may (first-owner session k)
