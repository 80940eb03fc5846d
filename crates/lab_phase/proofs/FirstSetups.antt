-- With what the clients and readers of a session can be opened at its card.
use Rattle.lab_phase.specs.Prelude.{ap, arith, subst, sym, ◌<◌, ◌∙◌, ◌≡◌, none-some, same_Some, IfSome, length, List, None, Option, slice_index_or, Some, suc}
use Rattle.lab_phase.specs.Prelude.{zero, ℕ, [], ◌*◌, ◌∷◌, Geometry, Sound, CardLine, ClientLine, first_frame, no_sound, AreClientOpenings, IsRingOf, Session}
use Rattle.lab_phase.specs.Prelude.{Setup, AreUsable, IsUsable, AllFitCard}
use Rattle.snd_base.specs.Places as rings

-- a client that has an opening has as many bindings as its file has channels
AreClientOpenings-at : (card : CardLine) (lines : List ClientLine) (wavs : List Sound) (setups : List (Option Setup)) → AreClientOpenings card lines wavs setups → (i : ℕ) (own : Setup)
    → slice_index_or setups i None ≡ Some own → length own.bindings ≡ (slice_index_or wavs i no_sound).channels
AreClientOpenings-at card [] [] [] are i own is = absurd (none-some own is)
AreClientOpenings-at card (line ∷ lines) (wav ∷ wavs) (None ∷ setups) are zero own is = absurd (none-some own is)
AreClientOpenings-at card (line ∷ lines) (wav ∷ wavs) (Some setup ∷ setups) are zero own is =
    ap (λ (s : Setup). length s.bindings) (sym (same_Some setup own is)) ∙ are.0.channels
AreClientOpenings-at card (line ∷ lines) (wav ∷ wavs) (setup ∷ setups) are (suc i) own is = AreClientOpenings-at card lines wavs setups are.1 i own is
AreClientOpenings-at card lines wavs setups are i own is = absurd are

index-inside : (xs : List (Option Setup)) (i : ℕ) (own : Setup) → slice_index_or xs i None ≡ Some own → i < length xs
index-inside [] i own is = absurd (none-some own is)
index-inside (x ∷ xs) zero own is = omega arith
index-inside (x ∷ xs) (suc i) own is = let more = index-inside xs i own is in omega (arith, more)

-- those that fit a card fit its ring
pub AreUsable-ring : (card : CardLine) (ring : Geometry) (setups : List (Option Setup)) → IsRingOf card ring → AreUsable card.channels card.ring setups
    → AreUsable ring.channels ring.frames setups
AreUsable-ring card ring setups is usable =
    subst (λ (n : ℕ). AreUsable n ring.frames setups) (sym is.channels) (subst (λ (n : ℕ). AreUsable card.channels n setups) (sym is.frames) usable)

pub AllFitCard-session : (session : Session) (lines : List ClientLine) (wavs : List Sound) → session.sounds ≡ wavs → AreClientOpenings session.card lines wavs session.clients
    → AreUsable session.ring.channels session.ring.frames session.clients → AllFitCard session
AllFitCard-session session lines wavs sounds are usable number own is = record {
  usable = subst (λ (o : Option Setup). IfSome o (IsUsable session.ring.channels session.ring.frames)) is (usable number None (index-inside session.clients number own is));
  channels = AreClientOpenings-at session.card lines wavs session.clients are number own is
      ∙ ap (λ (all : List Sound). (slice_index_or all number no_sound).channels) (sym sounds);
}

-- the first frame of a card is that of its ring
pub first_frame-ring : (card : CardLine) (ring : Geometry) → IsRingOf card ring → first_frame card ≡ rings.first_frame ring
first_frame-ring card ring is = ap (λ (n : ℕ). n * card.ring) (sym is.first_lap) ∙ ap (λ (n : ℕ). ring.first_lap * n) (sym is.frames)
