-- What all clients of a script hold of a card, from one opening or closing to the next.
use Rattle.std.specs.Prelude.{◌≡◌, ◌≢◌, ℕ, List, Option, Some, None, Ok, Err}
use Rattle.std.proofs.Common.{sym, subst, ◌∙◌, inl, inr}
use Rattle.std.proofs.lemmas.Bool.{cases_eq}
use Rattle.std.proofs.lemmas.Option.{none-some, same_Some}
use Rattle.snd_base.specs.declared.errors.PcmError.{PcmError}
use Rattle.sum_table.specs.declared.seats.mix.MixSeat.{MixSeat}
use Rattle.sum_table.specs.Seats.{member_of, places_of_seat}
use Rattle.dshare.specs.Owners.{ClaimRow}
use Rattle.dshare.specs.Shared.{AreOfCard}
use Rattle.lab_lines.specs.declared.script.Share.{Share}
use Rattle.lab_run.specs.Items.{Held}
use Rattle.lab_places.specs.declared.places.Places.{Places}
use Rattle.lab_places.specs.Held.{CanClose, HoldsNone, HoldsPlace, IsHeldBy, closed_held, new_held, opened_held, share_of, shares_of}
use Rattle.lab_places.specs.HeldLaws.{CanTakeBack-held, HoldsNone-closed, HoldsNone-closed_held, HoldsNone-new, HoldsNone-opened_held, HoldsPlace-closed_held, HoldsPlace-opened_held, opened_held-refused}
use Rattle.lab_places.specs.OwnedLaws.{AreDisjoint, AreDisjoint-opened, AreDisjoint-sym, CanRelease-owned, OwnsChannels, OwnsChannels-closed_held, OwnsChannels-opened, OwnsChannels-opened_held}

-- what an open client holds: the number of its place, the last frame that was placed there before it, and its channels of the card
pub record Holding : Type 0 where
  pub place : ℕ
  pub before : Option ℕ
  pub channels : List ℕ

-- what each client holds, by its number, while it is open
abbrev pub Holdings : Type 0
Holdings = ℕ → Option Holding

-- Each open client holds its place and owns its channels, no two have a channel in common, and a client that isn't open holds no place.
pub record AreHeld (sharing : Share) (held : Held) (holdings : Holdings) : Type 0 where
  pub none : (n : ℕ) → holdings n ≡ None → HoldsNone n held.lobby.places
  pub place : (n : ℕ) (h : Holding) → holdings n ≡ Some h
      → HoldsPlace n h.place h.before held.lobby.places
  pub channels : (n : ℕ) (h : Holding) → holdings n ≡ Some h
      → OwnsChannels sharing held.claims h.channels
  pub disjoint : (m n : ℕ) (g h : Holding) → m ≢ n → holdings m ≡ Some g
      → holdings n ≡ Some h → AreDisjoint sharing g.channels h.channels

-- one client holds something else, and the others what they held
pub record ChangesAt (client : ℕ) (holdings after : Holdings) (now : Option Holding) : Type 0 where
  pub own : after client ≡ now
  pub others : (n : ℕ) → client ≢ n → after n ≡ holdings n

by_client : {X : Type 0} (client n : ℕ) → (client ≡ n → X) → (client ≢ n → X) → X
by_client client n own other = elim (cases_eq client n) [ inl same ↦ own same | inr differ ↦ other differ ]

-- ---- openings

-- of a new card nobody holds anything
pub AreHeld-new : (sharing : Share) (places first : ℕ) (holdings : Holdings) → ((n : ℕ) → holdings n ≡ None) → AreHeld sharing (new_held places first) holdings
AreHeld-new sharing places first holdings nothing = record {
  none = λ n is. HoldsNone-new places first n;
  place = λ n h is. absurd (none-some h (sym (nothing n) ∙ is));
  channels = λ n h is. absurd (none-some h (sym (nothing n) ∙ is));
  disjoint = λ m n g h differ one two. absurd (none-some h (sym (nothing n) ∙ two));
}

-- an opening that is refused changes nothing
pub AreHeld-refused : (sharing : Share) (client : ℕ) (channels : List ℕ) (at : ℕ) (held : Held) (holdings : Holdings) (e : PcmError) → AreHeld sharing held holdings
    → (opened_held sharing client channels at held).1 ≡ Err e → AreHeld sharing (opened_held sharing client channels at held).0 holdings
AreHeld-refused sharing client channels at held holdings e are refused =
    let same = opened_held-refused sharing client channels at held e refused in
    record {
      none = λ n is. subst (HoldsNone n) (sym same.places) (are.none n is);
      place = λ n h is. subst (HoldsPlace n h.place h.before) (sym same.places) (are.place n h is);
      channels = λ n h is. subst (λ (claims : List ClaimRow). OwnsChannels sharing claims h.channels) (sym same.claims) (are.channels n h is);
      disjoint = are.disjoint;
    }

module _ (sharing : Share) (client : ℕ) (own : Holding) (at : ℕ) (held : Held) (holdings after : Holdings) (are : AreHeld sharing held holdings)
    (done : (opened_held sharing client own.channels at held).1 ≡ Ok tt) (changes : ChangesAt client holdings after (Some own)) where
  own-is : (n : ℕ) (h : Holding) → client ≡ n → after n ≡ Some h → own ≡ h
  own-is n h same is = same_Some own h (sym (subst (λ (k : ℕ). after k ≡ Some own) same changes.own) ∙ is)

  other-is : (n : ℕ) (o : Option Holding) → client ≢ n → after n ≡ o → holdings n ≡ o
  other-is n o differ is = sym (changes.others n differ) ∙ is

  opened-none : (n : ℕ) → after n ≡ None → HoldsNone n (opened_held sharing client own.channels at held).0.lobby.places
  opened-none n is = by_client client n
      (λ same. absurd (none-some own (sym is ∙ subst (λ (k : ℕ). after k ≡ Some own) same changes.own)))
      (λ differ. HoldsNone-opened_held sharing client own.channels at held n differ (are.none n (other-is n None differ is)))

  opened-place : HoldsPlace client own.place own.before (opened_held sharing client own.channels at held).0.lobby.places → (n : ℕ) (h : Holding) → after n ≡ Some h
      → HoldsPlace n h.place h.before (opened_held sharing client own.channels at held).0.lobby.places
  opened-place holds n h is = by_client client n
      (λ same. subst (λ (x : Holding). HoldsPlace n x.place x.before (opened_held sharing client own.channels at held).0.lobby.places) (own-is n h same is)
      (subst (λ (k : ℕ). HoldsPlace k own.place own.before (opened_held sharing client own.channels at held).0.lobby.places) same holds))
      (λ differ. HoldsPlace-opened_held sharing client own.channels at held n h.place h.before differ (are.place n h (other-is n (Some h) differ is)))

  opened-channels : (n : ℕ) (h : Holding) → after n ≡ Some h → OwnsChannels sharing (opened_held sharing client own.channels at held).0.claims h.channels
  opened-channels n h is = by_client client n
      (λ same. subst (λ (x : Holding). OwnsChannels sharing (opened_held sharing client own.channels at held).0.claims x.channels) (own-is n h same is)
      (OwnsChannels-opened sharing client own.channels at held done))
      (λ differ. OwnsChannels-opened_held sharing client own.channels at held h.channels (are.channels n h (other-is n (Some h) differ is)))

  disjoint-own : (n : ℕ) (h : Holding) → holdings n ≡ Some h → AreDisjoint sharing h.channels own.channels
  disjoint-own n h is = AreDisjoint-opened sharing client own.channels at held h.channels (are.channels n h is) done

  opened-disjoint : (m n : ℕ) (g h : Holding) → m ≢ n → after m ≡ Some g → after n ≡ Some h → AreDisjoint sharing g.channels h.channels
  opened-disjoint m n g h differ one two = by_client client m
      (λ first. by_client client n (λ second. absurd (differ (sym first ∙ second)))
      (λ other. subst (λ (x : Holding). AreDisjoint sharing x.channels h.channels) (own-is m g first one)
      (AreDisjoint-sym sharing h.channels own.channels (disjoint-own n h (other-is n (Some h) other two)))))
      (λ other. by_client client n
      (λ second. subst (λ (x : Holding). AreDisjoint sharing g.channels x.channels) (own-is n h second two) (disjoint-own m g (other-is m (Some g) other one)))
      (λ another. are.disjoint m n g h differ (other-is m (Some g) other one) (other-is n (Some h) another two)))

  -- a client that was opened holds its place and its channels
  pub AreHeld-opened : HoldsPlace client own.place own.before (opened_held sharing client own.channels at held).0.lobby.places
      → AreHeld sharing (opened_held sharing client own.channels at held).0 after
  AreHeld-opened holds = record { none = opened-none; place = opened-place holds; channels = opened-channels; disjoint = opened-disjoint }

-- ---- closings

module _ (sharing : Share) (client : ℕ) (own : Holding) (last : Option ℕ) (held : Held) (holdings after : Holdings) (are : AreHeld sharing held holdings)
    (is_open : holdings client ≡ Some own) (changes : ChangesAt client holdings after None) where
  closed-other : (n : ℕ) (h : Holding) → after n ≡ Some h → client ≢ n
  closed-other n h is same = none-some h (sym (subst (λ (k : ℕ). after k ≡ None) same changes.own) ∙ is)

  closed-was : (n : ℕ) (h : Holding) → after n ≡ Some h → holdings n ≡ Some h
  closed-was n h is = sym (changes.others n (closed-other n h is)) ∙ is

  closed-none : (n : ℕ) → after n ≡ None → HoldsNone n (closed_held sharing client own.channels last held).lobby.places
  closed-none n is = by_client client n
      (λ same. subst (λ (k : ℕ). HoldsNone k (closed_held sharing client own.channels last held).lobby.places) same (HoldsNone-closed sharing client own.channels last held))
      (λ differ. HoldsNone-closed_held sharing client own.channels last held n (are.none n (sym (changes.others n differ) ∙ is)))

  -- a client that was closed holds nothing
  pub AreHeld-closed : AreHeld sharing (closed_held sharing client own.channels last held) after
  AreHeld-closed = record {
    none = closed-none;
    place = λ n h is. HoldsPlace-closed_held sharing client own.channels last held n h.place h.before (closed-other n h is) (are.place n h (closed-was n h is));
    channels = λ n h is. OwnsChannels-closed_held sharing client own.channels last held h.channels
        (are.disjoint n client h own (λ same. closed-other n h is (sym same)) (closed-was n h is) is_open) (are.channels n h (closed-was n h is));
    disjoint = λ m n g h differ one two. are.disjoint m n g h differ (closed-was m g one) (closed-was n h two);
  }

-- an open client can be closed, with the seat of its place and with its channels
pub CanClose-held : (p : Places) (held : Held) (holdings : Holdings) (client : ℕ) (h : Holding) (s : MixSeat) → IsHeldBy p held → AreHeld (share_of p) held holdings
    → holdings client ≡ Some h → member_of s ≡ h.place → places_of_seat s ≡ 1 → AreOfCard (shares_of p) h.channels → CanClose p s h.channels
CanClose-held p held holdings client h s is are is_open member one card = record {
  seat = CanTakeBack-held p held.lobby client h.before s is.lobby
      (subst (λ (k : ℕ). HoldsPlace client k h.before held.lobby.places) (sym member) (are.place client h is_open)) one;
  channels_are = CanRelease-owned p held.claims h.channels is.claims card (are.channels client h is_open);
}
