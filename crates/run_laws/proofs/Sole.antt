-- In a card that is shared by channels the clients' segments have but one sample at a frame and channel: who has the channel next goes on past it.
use Rattle.run_laws.specs.Prelude.{ap, arith, inl, inr, length, List, None, Option, refl, Some, subst, sym, ℕ, [], ◌++◌, ◌+◌, ◌-◌, ◌<◌, ◌∙◌, ◌∷◌, ◌≡◌, ◌≤◌, ◌⊎◌}
use Rattle.run_laws.specs.Prelude.{eq-eqb, eqb-true, false≢true, nat_tests, append-nil, IfSome_then, AllByRecursion, Bool, Contains, false, IfSome}
use Rattle.run_laws.specs.Prelude.{if◌then◌else◌, is_some, max, nat_eq, slice_index_or, slice_set, true, ℤ, Geometry, Segment, AreFree, claimed}
use Rattle.run_laws.specs.Prelude.{ClaimRow as Claim, has_channel, last_frames, owner_of, released, Marks, high_frame, last_before, start_marks, PlaybackStream}
use Rattle.run_laws.specs.Prelude.{segment_of, Op, Answer, Dshare, ClaimIsOwners, with_claim, with_release, Client, present_of, segments_of, no_sound}
use Rattle.run_laws.specs.Prelude.{all_segments, bindings_of, entries_by, entries_of, LineMay, AtPort, Rules, ended_client, first_stage, no_client, Session}
use Rattle.run_laws.specs.Prelude.{Setup, Stage, channels_of_client}
use Rattle.snd_base.specs.Places.{first_frame}
use Rattle.run_laws.proofs.Apart.{Has, HasOneOwner, HoldsChannel, first-owner, free-at, granted-free, line-part, one-owner}
use Rattle.run_laws.proofs.AtMostOne.{IsOne, Lands, all-once, bound_of, heard_by, count-more, count-one, count-unbound, heard_count, seg_end}
use Rattle.run_laws.proofs.Bound.{IsBound, IsNumberBound, clients-bound}
use Rattle.run_laws.proofs.Going.{onward-less, open-map, placed-past, still-client}
use Rattle.run_laws.proofs.Onward.{Channels, Onward, end_of, free_frame, high_end, reached}
use Rattle.run_laws.proofs.OnwardLines.{After, InOpen, has_none, line-after, past-reached}
use Rattle.run_laws.proofs.Stages.{IsLasting, at, each-from, first-each, first-none, kind_at, client_opened, set-so}
use Rattle.mix_core.specs.Laid as laid

-- ---- claims

-- a channel isn't silent before a frame
abbrev pub Heard : List Claim → ℕ → ℕ → Type 0
Heard claims channel e = (position : ℕ) → AllByRecursion (λ frame. frame < position) (last_frames claims channel) → e ≤ position

-- more claims silence no channel
released-heard : (channels : List ℕ) (last : Option ℕ) (claims : List Claim) (channel e : ℕ) → Heard claims channel e → Heard (released channels last ∷ claims) channel e
released-heard channels None claims channel e heard = heard
released-heard channels (Some frame) claims channel e heard = by_test (has_channel channels channel)
  where
    by_test : (b : Bool) → (position : ℕ) → AllByRecursion (λ f. f < position) (if b then frame ∷ last_frames claims channel else last_frames claims channel) → e ≤ position
    by_test true position all = heard position all.1
    by_test false position all = heard position all

-- the last frame in which a sample was placed is the one before the high
high-last : (m : Marks) (e : ℕ) → e ≤ high_end m → e ≤ last_before m.high + 1
high-last m e most = grind (arith, nat_tests, most)

high-heard : (g : Geometry) (m : Marks) (channels : List ℕ) (claims : List Claim) (channel e : ℕ) → has_channel channels channel ≡ true → first_frame g < e → e ≤ high_end m
    → Heard (released channels (high_frame g m) ∷ claims) channel e
high-heard g m channels claims channel e has after most = grind (arith, nat_tests)

-- ---- one client

-- an open client with the channel goes on past x, with an end y before the end of what its port placed
pub record GoesPast (channel p x : ℕ) (Ends : ℕ → Type 0) (z : AtPort × Client) : Type 0 where
  pub by : (c : PlaybackStream) → z.1.own ≡ Some c → Has c.setup.bindings channel → (y : ℕ) × Ends y × Onward p x y z.0.marks c

goes-map : {channel p q x : ℕ} {Ends More : ℕ → Type 0} {z : AtPort × Client} → p ≤ q → ((y : ℕ) → Ends y → More y) → GoesPast channel p x Ends z → GoesPast channel q x More z
goes-map {p = p} {q = q} {x = x} {z = z} later more goes = record {
  by = λ c is has. let was = goes.by c is has in
      (was.0, more was.0 was.1, onward-less p q x was.0 x was.0 z.0.marks c later (omega arith) (omega arith) was.2);
}

goes-open : {channel p x : ℕ} {Ends : ℕ → Type 0} {z : AtPort × Client} (y : ℕ) → Ends y → InOpen z.1.own (Onward p x y z.0.marks) → GoesPast channel p x Ends z
goes-open {p = p} {x = x} {z = z} y ends goes = record { by = λ c is has. (y, ends, subst (λ o. InOpen o (Onward p x y z.0.marks)) is goes) }

goes-not : {channel p x : ℕ} {Ends : ℕ → Type 0} {z : AtPort × Client} → (HoldsChannel channel z → ⊥) → GoesPast channel p x Ends z
goes-not {channel = channel} not = record { by = λ c is has. absurd (not (subst (λ (o : Option PlaybackStream). Has (channels_of_client o) channel) (sym is) has)) }

module _ (session : Session) (frame channel : ℕ) where
  abbrev Count : ℕ → List Segment → ℕ
  Count n segments = heard_count session frame channel n segments

  -- some segments have so many samples at the place; or there is one more, where x isn't after it, before an end
  abbrev Comes : ℕ → ℕ → ℕ → List Segment → ℕ → Type 0
  Comes n x b segments end = (Count n segments ≡ b) ⊎ ((x ≤ frame) × (Count n segments ≡ b + 1) × (frame + 1 ≤ end))

  -- a segment that begins past x, and ends before an end, comes to those of a client
  comes : (n x b end : ℕ) (segments : List Segment) (s : Segment) → x ≤ s.card → seg_end s ≤ end → Count n segments ≡ b → Comes n x b (segments ++ s ∷ []) end
  comes n x b end segments s past before is = by_one (count-one session frame channel n s)
    where
      more : Count n (segments ++ s ∷ []) ≡ Count n segments + length (laid.at (entries_by session (n, s)) frame channel)
      more = count-more session frame channel n segments s

      within : (e : ℕ) → frame < e → e ≤ end → frame + 1 ≤ end
      within e less high = omega (arith, less, high)

      by_one : IsOne (laid.at (entries_by session (n, s)) frame channel) (Lands session frame channel n s) → Comes n x b (segments ++ s ∷ []) end
      by_one (inl none) = inl (omega (arith, more, none, is))
      by_one (inr (one, lands)) = inr (omega (arith, past, lands.1), omega (arith, more, one, is), within (seg_end s) lands.2 before)

  -- what a line makes of a client that goes on past x
  abbrev LineEnd : ℕ → ℕ → ℕ → ℕ → ℕ → AtPort × Client → Type 0
  LineEnd p n x y b (k, after) = ((Count n after.ended ≡ b) × InOpen after.own (Onward p x y k.marks))
      ⊎ ((x ≤ frame) × (Count n after.ended ≡ b + 1) × InOpen after.own (Onward p (frame + 1) (frame + 1) k.marks))

  line-comes : (rules : Rules) (p : ℕ) → ((q : ℕ) → Contains rules.published q → p ≤ q) → (phase n x y b : ℕ) (before after : AtPort × Client) (asked : Op) (answer : Answer)
      (c : PlaybackStream) → before.1.own ≡ Some c → Onward p x y before.0.marks c → LineMay (kind_at session phase n) rules before asked after answer → Count n before.1.ended ≡ b
      → LineEnd p n x y b after
  line-comes rules p least phase n x y b (a, client) (k, after) asked answer c is onward may count =
      by_end (line-after rules p least x y phase (slice_index_or session.sounds n no_sound) n a k client after asked answer c is onward may)
    where
      by_end : After p x y client c k.marks after → LineEnd p n x y b (k, after)
      by_end (goes, inl same) = inl (ap (λ segments. Count n segments) same ∙ count, goes)
      by_end (goes, inr (same, placed, past)) =
          by_count (subst (λ segments. Comes n x b segments (end_of c)) (sym same) (comes n x b (end_of c) client.ended (segment_of c) (placed-past p x y a.marks c placed onward) (omega arith) count))
        where
          by_count : Comes n x b after.ended (end_of c) → LineEnd p n x y b (k, after)
          by_count (inl none) = inl (none, goes)
          by_count (inr (low, one, high)) = inr (
            low,
            one,
            open-map (Onward p (end_of c) (end_of c) k.marks) (Onward p (frame + 1) (frame + 1) k.marks) after.own
                (λ d. onward-less p p (end_of c) (end_of c) (frame + 1) (frame + 1) k.marks d (omega arith) high high) past,
          )

  -- the present stretch of such a client
  end-comes : (p n x y b : ℕ) (z : AtPort × Client) (c : PlaybackStream) → z.1.own ≡ Some c → Onward p x y z.0.marks c → Count n z.1.ended ≡ b
      → Comes n x b (segments_of z.1) (high_end z.0.marks)
  end-comes p n x y b (a, client) c is onward count = rw is (by_placed (has_none c) refl)
    where
      by_placed : (none : Bool) → has_none c ≡ none → Comes n x b (client.ended ++ (if none then [] else segment_of c ∷ [])) (high_end a.marks)
      by_placed true none = inl (ap (λ segments. Count n segments) (append-nil client.ended) ∙ count)
      by_placed false placed = comes n x b (high_end a.marks) client.ended (segment_of c) (placed-past p x y a.marks c placed onward)
          (past-reached p x y a.marks c onward placed).1.high count

-- ---- what is known of the clients of a stage

-- Those who have the channel go on past this frame: the card's first one, or the one after the sample's, where a client placed that.
abbrev pub frame_behind : Session → ℕ → Option ℕ → ℕ
frame_behind session frame None = first_frame session.ring
frame_behind session frame (Some t) = frame + 1

-- how many samples the ended segments of a client have at the place
abbrev pub samples_by : Option ℕ → ℕ → ℕ
samples_by None n = 0
samples_by (Some t) n = if nat_eq t n then 1 else 0

-- the claims know of the sample, or its frame is before an end
abbrev pub KnowsOf : ℕ → ℕ → List Claim → Option ℕ → ℕ → Type 0
KnowsOf frame channel claims by y = IfSome by (λ t. Heard claims channel (frame + 1) ⊎ (frame + 1 ≤ y))

-- one client, or none, has a sample at the place, and who has the channel goes on past it
pub record Landed (session : Session) (frame channel : ℕ) (clients : List (AtPort × Client)) (claims : List Claim) (p : ℕ) : Type 0 where
  pub by : Option ℕ
  pub counts : (n : ℕ) → heard_count session frame channel n (at session clients n).1.ended ≡ samples_by by n
  pub low : IfSome by (λ t. first_frame session.ring ≤ frame)
  pub known : IfSome by (λ t. owner_of claims channel ≡ None → Heard claims channel (frame + 1))
  pub goes : (n : ℕ) → GoesPast channel p (frame_behind session frame by) (KnowsOf frame channel claims by) (at session clients n)

pub record Sole (session : Session) (frame channel : ℕ) (clients : List (AtPort × Client)) (claims : List Claim) (position : ℕ) : Type 0 where
  pub owner : HasOneOwner session channel clients claims
  pub bound : (first_frame session.ring ≤ position) × ((n : ℕ) → IsBound (slice_index_or session.clients n None) (at session clients n).1.own)
  pub landed : Landed session frame channel clients claims position

module _ (session : Session) (frame channel : ℕ) where
  abbrev LandedIn : List (AtPort × Client) → List Claim → ℕ → Type 0
  LandedIn clients claims p = Landed session frame channel clients claims p

  abbrev GoesBehind : List Claim → ℕ → Option ℕ → AtPort × Client → Type 0
  GoesBehind claims p by z = GoesPast channel p (frame_behind session frame by) (KnowsOf frame channel claims by) z

  -- a client that doesn't hold the channel while it is open isn't bound to it: its segments have no sample there
  unbound-same : (n : ℕ) (x : AtPort × Client) (c : PlaybackStream) → x.1.own ≡ Some c → IsBound (slice_index_or session.clients n None) x.1.own
      → has_channel c.setup.bindings channel ≡ false → (segments others : List Segment) → Count session frame channel n segments ≡ Count session frame channel n others
  unbound-same n x c is bound not segments others = count-unbound session frame channel n segments none ∙ sym (count-unbound session frame channel n others none)
    where
      by_setup : (setup : Option Setup) → IsBound setup (Some c) → has_channel (bindings_of setup) channel ≡ false
      by_setup None same = refl
      by_setup (Some s) same = subst (λ (l : List ℕ). has_channel l channel ≡ false) same not

      none : has_channel (bound_of session n) channel ≡ false
      none = by_setup (slice_index_or session.clients n None) (subst (IsBound (slice_index_or session.clients n None)) is bound)

  -- ---- one client changes

  module _ (clients : List (AtPort × Client)) (claims : List Claim) (p n : ℕ) (sole : Sole session frame channel clients claims p) where
    abbrev x : AtPort × Client
    x = at session clients n

    abbrev landed : LandedIn clients claims p
    landed = sole.landed

    -- the samples of a client at the place, and what its ended segments have of them
    abbrev count : Client → ℕ
    count client = Count session frame channel n client.ended

    -- without a sample more, and with other claims, by which no less is known
    still : (more : List Claim) (y : AtPort × Client) → count y.1 ≡ samples_by landed.by n → (Heard claims channel (frame + 1) → Heard more channel (frame + 1))
        → IfSome landed.by (λ t. owner_of more channel ≡ None → Heard more channel (frame + 1)) → GoesBehind more p landed.by y → LandedIn (slice_set clients n y) more p
    still more y same grows known goes = record {
      by = landed.by;
      counts = set-so session (λ m z. Count session frame channel m z.1.ended ≡ samples_by landed.by m) clients n y same (λ m not. landed.counts m);
      low = landed.low;
      known = known;
      goes = set-so session (λ m z. GoesBehind more p landed.by z) clients n y goes
          (λ m not. goes-map (omega arith) (λ e is. IfSome_then landed.by is (λ t. further e)) (landed.goes m));
    }
      where
        further : (e : ℕ) → Heard claims channel (frame + 1) ⊎ (frame + 1 ≤ e) → Heard more channel (frame + 1) ⊎ (frame + 1 ≤ e)
        further e (inl heard) = inl (grows heard)
        further e (inr high) = inr high

    -- the client that has the channel placed the sample
    now : (more : List Claim) (y : AtPort × Client) → n < length clients → HoldsChannel channel x → frame_behind session frame landed.by ≤ frame
        → count y.1 ≡ samples_by landed.by n + 1 → (first_frame session.ring ≤ frame → owner_of more channel ≡ None → Heard more channel (frame + 1))
        → GoesBehind more p (Some n) y → LandedIn (slice_set clients n y) more p
    now more y within holds low one known goes = by_who landed.by landed.counts low one
      where
        other : (m : ℕ) → (n ≡ m → ⊥) → samples_by (Some n) m ≡ 0
        other m not = grind (arith, nat_tests, not)

        by_who : (by : Option ℕ) → ((m : ℕ) → Count session frame channel m (at session clients m).1.ended ≡ samples_by by m) → frame_behind session frame by ≤ frame
            → count y.1 ≡ samples_by by n + 1 → LandedIn (slice_set clients n y) more p
        by_who (Some t) counts low one = absurd (omega (arith, low))
        by_who None counts low one = record {
          by = Some n;
          counts = set-so session (λ m z. Count session frame channel m z.1.ended ≡ samples_by (Some n) m) clients n y (rw (eq-eqb n n refl) one)
              (λ m not. counts m ∙ sym (other m (λ same. not same within)));
          low = low;
          known = known low;
          goes = set-so session (λ m z. GoesBehind more p (Some n) z) clients n y goes (λ m not. goes-not (λ also. not (sole.owner.only n m holds also) within));
        }

    -- ---- a line

    line-landed : (rules : Rules) (phase : ℕ) (y : AtPort × Client) (asked : Op) (answer : Answer) → ((q : ℕ) → Contains rules.published q → p ≤ q) → n < length clients
        → LineMay (kind_at session phase n) rules x asked y answer → LandedIn (slice_set clients n y) claims p
    line-landed rules phase y asked answer least within may = by_own x.1.own refl
      where
        idle : count y.1 ≡ count x.1 → has_channel (channels_of_client x.1.own) channel ≡ false → LandedIn (slice_set clients n y) claims p
        idle same not = still claims y (same ∙ landed.counts n) (λ heard. heard) landed.known
            (goes-not (λ has. false≢true (sym not ∙ line-part rules phase (slice_index_or session.sounds n no_sound) n x.0 y.0 x.1 y.1 asked answer may channel has)))

        held : (c : PlaybackStream) → x.1.own ≡ Some c → Has c.setup.bindings channel → LandedIn (slice_set clients n y) claims p
        held c is has = let was = (landed.goes n).by c is has in by_end was.0 was.1
            (line-comes session frame channel rules p least phase n (frame_behind session frame landed.by) was.0 (samples_by landed.by n) x y asked answer c is was.2 may (landed.counts n))
          where
            holds : HoldsChannel channel x
            holds = subst (λ (o : Option PlaybackStream). Has (channels_of_client o) channel) (sym is) has

            by_end : (e : ℕ) → KnowsOf frame channel claims landed.by e → LineEnd session frame channel p n (frame_behind session frame landed.by) e (samples_by landed.by n) y
                → LandedIn (slice_set clients n y) claims p
            by_end e known (inl (same, goes)) = still claims y same (λ heard. heard) landed.known (goes-open e known goes)
            by_end e known (inr (low, one, goes)) = now claims y within holds low one
                (λ first none. absurd (false≢true (sym (ap is_some none) ∙ sole.owner.owned n holds))) (goes-open (frame + 1) (inr (omega arith)) goes)

        by_channel : (c : PlaybackStream) → x.1.own ≡ Some c → (b : Bool) → has_channel c.setup.bindings channel ≡ b → LandedIn (slice_set clients n y) claims p
        by_channel c is true has = held c is has
        by_channel c is false not = idle (unbound-same n x c is (sole.bound.1 n) not y.1.ended x.1.ended) (rw is not)

        by_own : (own : Option PlaybackStream) → x.1.own ≡ own → LandedIn (slice_set clients n y) claims p
        by_own None is = idle (ap count (still-client rules phase (slice_index_or session.sounds n no_sound) n x.0 y.0 x.1 y.1 asked answer is may)) (rw is refl)
        by_own (Some c) is = by_channel c is (has_channel c.setup.bindings channel) refl

    -- ---- a client ends

    -- the segments of a client with that of its present stretch: one sample more only where no other has one, and it holds the channel
    abbrev Present : Option ℕ → Type 0
    Present by = (Count session frame channel n (segments_of x.1) ≡ samples_by by n)
        ⊎ ((frame_behind session frame by ≤ frame) × (Count session frame channel n (segments_of x.1) ≡ samples_by by n + 1) × HoldsChannel channel x × (frame + 1 ≤ high_end x.0.marks))

    present : Present landed.by
    present = by_own x.1.own refl
      where
        held : (c : PlaybackStream) → x.1.own ≡ Some c → Has c.setup.bindings channel
            → Comes session frame channel n (frame_behind session frame landed.by) (samples_by landed.by n) (segments_of x.1) (high_end x.0.marks) → Present landed.by
        held c is has (inl none) = inl none
        held c is has (inr (low, one, high)) = inr (low, one, subst (λ (o : Option PlaybackStream). Has (channels_of_client o) channel) (sym is) has, high)

        by_channel : (c : PlaybackStream) → x.1.own ≡ Some c → (has : Bool) → has_channel c.setup.bindings channel ≡ has → Present landed.by
        by_channel c is true has = let was = (landed.goes n).by c is has in
            held c is has (end-comes session frame channel p n (frame_behind session frame landed.by) was.0 (samples_by landed.by n) x c is was.2 (landed.counts n))
        by_channel c is false not = inl (unbound-same n x c is (sole.bound.1 n) not (segments_of x.1) x.1.ended ∙ landed.counts n)

        by_own : (own : Option PlaybackStream) → x.1.own ≡ own → Present landed.by
        by_own None is = inl (ap (λ own. Count session frame channel n (x.1.ended ++ present_of own)) is
            ∙ ap (λ segments. Count session frame channel n segments) (append-nil x.1.ended) ∙ landed.counts n)
        by_own (Some c) is = by_channel c is (has_channel c.setup.bindings channel) refl

    end-landed : (c : PlaybackStream) → n < length clients → x.1.own ≡ Some c
        → LandedIn (slice_set clients n (ended_client session.ring x)) (released c.setup.bindings (high_frame session.ring x.0.marks) ∷ claims) p
    end-landed c within is = by_present present
      where
        more : List Claim
        more = released c.setup.bindings (high_frame session.ring x.0.marks) ∷ claims

        grows : Heard claims channel (frame + 1) → Heard more channel (frame + 1)
        grows = released-heard c.setup.bindings (high_frame session.ring x.0.marks) claims channel (frame + 1)

        by_high : Has c.setup.bindings channel → frame + 1 ≤ high_end x.0.marks → first_frame session.ring ≤ frame → Heard more channel (frame + 1)
        by_high has high low = high-heard session.ring x.0.marks c.setup.bindings claims channel (frame + 1) has (omega (arith, low)) high

        by_ends : Has c.setup.bindings channel → (by : Option ℕ) (e : ℕ) → KnowsOf frame channel claims by e → e ≤ high_end x.0.marks → IfSome by (λ t. first_frame session.ring ≤ frame)
            → IfSome by (λ t. owner_of more channel ≡ None → Heard more channel (frame + 1))
        by_ends has None e is high low = tt
        by_ends has (Some t) e (inl heard) high low = λ none. grows heard
        by_ends has (Some t) e (inr after) high low = λ none. by_high has (omega (arith, after, high)) low

        known : (b : Bool) → has_channel c.setup.bindings channel ≡ b → IfSome landed.by (λ t. owner_of more channel ≡ None → Heard more channel (frame + 1))
        known true has = let was = (landed.goes n).by c is has in
            by_ends has landed.by was.0 was.1 (reached p (frame_behind session frame landed.by) was.0 x.0.marks c was.2).1.high landed.low
        known false not = let owner : owner_of more channel ≡ owner_of claims channel = rw not refl in
            IfSome_then landed.by landed.known (λ t heard none. grows (heard (sym owner ∙ none)))

        by_present : Present landed.by → LandedIn (slice_set clients n (ended_client session.ring x)) more p
        by_present (inl same) = still more (ended_client session.ring x) same grows (known (has_channel c.setup.bindings channel) refl) (goes-not false≢true)
        by_present (inr (low, one, holds, high)) = now more (ended_client session.ring x) within holds low one
            (λ first none. by_high (subst (λ (o : Option PlaybackStream). Has (channels_of_client o) channel) is holds) high first) (goes-not false≢true)

  -- ---- an opening

  module _ (rises : (m : ℕ) (setup : Setup) → slice_index_or session.clients m None ≡ Some setup → Channels setup.bindings) where
    open-landed : (clients : List (AtPort × Client)) (claims : List Claim) (p n : ℕ) (setup : Setup) → slice_index_or session.clients n None ≡ Some setup
        → AreFree claims p setup.bindings → Sole session frame channel clients claims p
        → LandedIn (slice_set clients n (client_opened session clients n setup)) (claimed setup.bindings ∷ claims) p
    open-landed clients claims p n setup is free sole =
        still clients claims p n sole (claimed setup.bindings ∷ claims) y (sole.landed.counts n) (λ heard. heard) (IfSome_then sole.landed.by sole.landed.known (λ t was. known was)) (goes sole.landed.by sole.landed.known)
      where
        y : AtPort × Client
        y = client_opened session clients n setup

        least : (e before : ℕ) → e ≤ p → e ≤ max p before
        least e before past = omega (arith, past)

        waits : (e : ℕ) → e ≤ p → InOpen y.1.own (Onward p e 0 y.0.marks)
        waits e past = inr (record {
          bound = rises n setup is;
          still = refl;
          none = refl;
          no_part = refl;
          reached = record { low = least e (free_frame (start_marks session.ring)) past; top = omega arith; high = omega arith };
        })

        known : (owner_of claims channel ≡ None → Heard claims channel (frame + 1)) → owner_of (claimed setup.bindings ∷ claims) channel ≡ None → Heard claims channel (frame + 1)
        known was = by_claim (has_channel setup.bindings channel)
          where
            by_claim : (b : Bool) → (if b then Some (length claims) else owner_of claims channel) ≡ None → Heard claims channel (frame + 1)
            by_claim true none = absurd (cc)
            by_claim false none = was none

        goes : (by : Option ℕ) → IfSome by (λ t. owner_of claims channel ≡ None → Heard claims channel (frame + 1)) → GoesBehind claims p by y
        goes None was = goes-open 0 tt (waits (first_frame session.ring) sole.bound.0)
        goes (Some t) was = record {
          by = λ c own has.
              let at_channel = free-at claims p setup.bindings channel free (subst (λ (o : Option PlaybackStream). Has (channels_of_client o) channel) (sym own) has) in
              let heard = was at_channel.unowned in
              (0, inl heard, subst (λ o. InOpen o (Onward p (frame + 1) 0 y.0.marks)) own (waits (frame + 1) (heard p at_channel.silent)));
        }

    -- ---- each stage of a run

    module _ (share : session.card.share ≡ Dshare) (owners : (claims : List Claim) (channels : List ℕ) (position : ℕ) → ClaimIsOwners claims channels position) where
      bounds : IsLasting session (λ clients claims p. (first_frame session.ring ≤ p) × ((n : ℕ) → IsBound (slice_index_or session.clients n None) (at session clients n).1.own))
      bounds = each-from session (first_frame session.ring) (IsNumberBound session) (clients-bound session (first_frame session.ring))

      owns : IsLasting session (λ clients claims p. HasOneOwner session channel clients claims)
      owns = one-owner session channel share owners

      pub sole-held : IsLasting session (Sole session frame channel)
      sole-held = record {
        line = λ rules phase clients claims p n y asked answer least within may sole. record {
          owner = owns.line rules phase clients claims p n y asked answer least within may sole.owner;
          bound = bounds.line rules phase clients claims p n y asked answer least within may sole.bound;
          landed = line-landed clients claims p n sole rules phase y asked answer least within may;
        };
        opens = λ clients claims p n setup is closed granted sole. record {
          owner = owns.opens clients claims p n setup is closed granted sole.owner;
          bound = bounds.opens clients claims p n setup is closed granted sole.bound;
          landed = subst (λ s. LandedIn (slice_set clients n (client_opened session clients n setup)) (with_claim s setup.bindings claims) p) (sym share)
              (open-landed clients claims p n setup is (granted-free session channel share owners claims setup.bindings p granted) sole);
        };
        ends = λ clients claims p n c within is sole. record {
          owner = owns.ends clients claims p n c within is sole.owner;
          bound = bounds.ends clients claims p n c within is sole.bound;
          landed = subst (λ s. LandedIn (slice_set clients n (ended_client session.ring (at session clients n)))
              (with_release s c.setup.bindings (high_frame session.ring (at session clients n).0.marks) claims) p) (sym share) (end-landed clients claims p n sole c within is);
        };
        later = λ clients claims p q after sole. record {
          owner = sole.owner;
          bound = bounds.later clients claims p q after sole.bound;
          landed = record {
            by = sole.landed.by;
            counts = sole.landed.counts;
            low = sole.landed.low;
            known = sole.landed.known;
            goes = λ n. goes-map after (λ e is. is) (sole.landed.goes n);
          };
        };
      }

      pub first-sole : first_frame session.ring ≤ (first_stage session).position
          → (let stage : Stage = first_stage session in Sole session frame channel stage.clients stage.claims stage.position)
      first-sole from = record {
        owner = first-owner session channel;
        bound = first-each session (first_frame session.ring) (IsNumberBound session) (clients-bound session (first_frame session.ring)) from;
        landed = record {
          by = None;
          counts = λ n. subst (λ (z : AtPort × Client). Count session frame channel n z.1.ended ≡ 0) (sym (none n)) refl;
          low = tt;
          known = tt;
          goes = λ n. subst (λ (z : AtPort × Client). GoesBehind [] (first_stage session).position None z) (sym (none n)) (record { by = λ c is has. absurd (cc) });
        };
      }
        where
          none : (n : ℕ) → at session (first_stage session).clients n ≡ no_client session.ring
          none n = first-none session session.clients n

  -- ---- at the end of a run

  pub sole-once : (clients : List (AtPort × Client)) (claims : List Claim) (p : ℕ) → Sole session frame channel clients claims p
      → length (laid.at (entries_of session (all_segments clients)) frame channel) ≤ 1
  sole-once clients claims p sole = by_who sole.landed.by (λ n. present clients claims p n sole)
    where
      heard : ℕ → List ℤ
      heard n = heard_by session frame channel n (segments_of (at session clients n).1)

      by_who : (by : Option ℕ) → ((n : ℕ) → Present clients claims p n sole by) → length (laid.at (entries_of session (all_segments clients)) frame channel) ≤ 1
      by_who None each = all-once session frame channel clients (λ n. HoldsChannel channel (at session clients n)) sole.owner.only (λ n. by_free n (each n))
        where
          by_free : (n : ℕ) → Present clients claims p n sole None → IsOne (heard n) (HoldsChannel channel (at session clients n))
          by_free n (inl none) = inl none
          by_free n (inr (low, one, holds, high)) = inr (one, holds)
      by_who (Some t) each = all-once session frame channel clients (λ n. t ≡ n) (λ n m one two. sym one ∙ two) (λ n. by_taken n (each n))
        where
          by_test : (n : ℕ) (b : Bool) → nat_eq t n ≡ b → length (heard n) ≡ (if b then 1 else 0) → IsOne (heard n) (t ≡ n)
          by_test n true is one = inr (one, eqb-true t n is)
          by_test n false is none = inl none

          by_taken : (n : ℕ) → Present clients claims p n sole (Some t) → IsOne (heard n) (t ≡ n)
          by_taken n (inl same) = by_test n (nat_eq t n) refl same
          by_taken n (inr (low, one, holds, high)) = absurd (omega (arith, low))
