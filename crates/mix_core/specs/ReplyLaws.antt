-- Each event has exactly one reply after a history.
use Rattle.std.specs.Prelude.{◌≡◌, ◌⊎◌, ℕ, ◌+◌, ℤ, pos, negsuc, Option, None, Some, List, [], ◌∷◌, ◌++◌, length}
use Rattle.std.specs.List.{zip}
use Rattle.std.proofs.Common.{refl, sym, subst, ap, ◌∙◌, inl, inr, arith}
use Rattle.std.proofs.lemmas.Bool.{cases_Bool, cases_eq, cases_lt}
use Rattle.std.proofs.lemmas.Int.{ints}
use Rattle.mix_core.specs.declared.port.Entry.{Entry}
use Rattle.snd_base.specs.declared.geometry.Geometry.{Geometry}
use Rattle.snd_base.specs.Places.{first_free, lap}
use Rattle.lap_word.specs.Clamp.{clamp_of}
use Rattle.mix_core.specs.declared.event.Event.{Event}
use Rattle.mix_core.specs.declared.event.Event.TheVariants.{Add, Withdraw, Take, Publish}
use Rattle.mix_core.specs.declared.event.Reply.{Reply}
use Rattle.mix_core.specs.declared.event.Reply.TheVariants.{In, Late, Outside, Took, Published, LapEnd}
use Rattle.mix_core.specs.History.{AreReplies, IsHeld, IsInside, IsReply, IsSample, Row, is_taken, laid_of, next_to_take, position_of, taken_words}
use Rattle.mix_core.specs.Laid.{cursor_of, last_entry, marks_of, standing_of, total}

-- a member may add at a frame and channel after a history, or not
IsInside-decided : (g : Geometry) (members : ℕ) (h : List Row) (m f c : ℕ) → IsInside g members h m f c ⊎ (¬ (IsInside g members h m f c))
IsInside-decided g members h m f c =
    elim (cases_lt m members) [
      | inr past ↦ inr (λ (i : IsInside g members h m f c). absurd (omega (arith, i.member_in_range)))
      | inl member ↦ elim (cases_lt c g.channels) [
        | inr past ↦ inr (λ (i : IsInside g members h m f c). absurd (omega (arith, i.channel_in_range)))
        | inl channel ↦ elim (cases_lt f (first_free (cursor_of g m (laid_of h)) c)) [
          | inl before ↦ inr (λ (i : IsInside g members h m f c). absurd (omega (arith, i.from_cursor)))
          | inr from ↦ elim (cases_lt (lap g f) 4294967295) [
            | inr past ↦ inr (λ (i : IsInside g members h m f c). absurd (omega (arith, i.lap_fits)))
            | inl fits ↦ elim (cases_lt f (position_of g h + g.frames)) [
              | inr past ↦ inr (λ (i : IsInside g members h m f c). absurd (omega (arith, i.ahead)))
              | inl ahead ↦ inl (record { member_in_range = member; channel_in_range = channel; from_cursor = from; lap_fits = fits; ahead = ahead })
            ]
          ]
        ]
      ]
    ]

cases_eq_int : (a b : ℤ) → (a ≡ b) ⊎ (¬ (a ≡ b))
cases_eq_int (pos a) (pos b) = elim (cases_eq a b) [ inl same ↦ inl (ap pos same) | inr other ↦ inr (λ is. other (omega (arith, ints, is))) ]
cases_eq_int (pos a) (negsuc b) = inr (λ is. absurd (omega (arith, ints, is)))
cases_eq_int (negsuc a) (pos b) = inr (λ is. absurd (omega (arith, ints, is)))
cases_eq_int (negsuc a) (negsuc b) = elim (cases_eq a b) [ inl same ↦ inl (ap negsuc same) | inr other ↦ inr (λ is. other (omega (arith, ints, is))) ]

-- a sample is that of some entry, or not
IsSample-decided : (o : Option Entry) (f c : ℕ) (s : ℤ) → IsSample o f c s ⊎ (¬ (IsSample o f c s))
IsSample-decided None f c s = inr (λ is. is)
IsSample-decided (Some e) f c s =
    elim (cases_eq e.frame f) [
      | inr other ↦ inr (λ is. other is.0)
      | inl frame ↦ elim (cases_eq e.channel c) [
        | inr other ↦ inr (λ is. other is.1)
        | inl channel ↦ elim (cases_eq_int e.sample s) [ inr other ↦ inr (λ is. other is.2) | inl sample ↦ inl (frame, channel, sample) ]
      ]
    ]

-- a member may withdraw a sample after a history, or not
IsHeld-decided : (g : Geometry) (members : ℕ) (h : List Row) (m f c : ℕ) (s : ℤ) → IsHeld g members h m f c s ⊎ (¬ (IsHeld g members h m f c s))
IsHeld-decided g members h m f c s =
    elim (cases_lt m members) [
      | inr past ↦ inr (λ (i : IsHeld g members h m f c s). absurd (omega (arith, i.member_in_range)))
      | inl member ↦ elim (cases_lt c g.channels) [
        | inr past ↦ inr (λ (i : IsHeld g members h m f c s). absurd (omega (arith, i.channel_in_range)))
        | inl channel ↦ elim (cases_lt f (first_free (marks_of g m (laid_of h)).floor c)) [
          | inl before ↦ inr (λ (i : IsHeld g members h m f c s). absurd (omega (arith, i.from_floor)))
          | inr from ↦ elim (IsSample-decided (last_entry (standing_of m (laid_of h))) f c s) [
            | inr other ↦ inr (λ (i : IsHeld g members h m f c s). other i.last)
            | inl last ↦ inl (record { member_in_range = member; channel_in_range = channel; last = last; from_floor = from })
          ]
        ]
      ]
    ]

-- some reply
pub IsReply-some : (g : Geometry) (members : ℕ) (h : List Row) (e : Event) → (r : Reply) × IsReply g members h (e, r)
IsReply-some g members h (Add m f c s) =
    elim (IsInside-decided g members h m f c) [
      | inr outside ↦ (Outside, outside)
      | inl inside ↦ elim (cases_Bool (is_taken (taken_words h) f c)) [ inl taken ↦ (Late, (inside, taken)) | inr untaken ↦ (In, (inside, untaken)) ]
    ]
IsReply-some g members h (Withdraw m f c s) =
    elim (IsHeld-decided g members h m f c s) [
      | inr outside ↦ (Outside, outside)
      | inl held ↦ elim (cases_Bool (is_taken (taken_words h) f c)) [ inl taken ↦ (Late, (held, taken)) | inr untaken ↦ (In, (held, untaken)) ]
    ]
IsReply-some g members h Take =
    elim (cases_eq (lap g (next_to_take g h).frame) 4294967295) [
      | inl last ↦ (LapEnd, last)
      | inr other ↦
          (Took (next_to_take g h).frame (next_to_take g h).channel (clamp_of (total (laid_of h) (next_to_take g h).frame (next_to_take g h).channel)), (other, refl, refl, refl))
    ]
IsReply-some g members h Publish = (Published (next_to_take g h).frame, refl)

-- and no other
pub IsReply-one : (g : Geometry) (members : ℕ) (h : List Row) (e : Event) (r q : Reply) → IsReply g members h (e, r) → IsReply g members h (e, q) → r ≡ q
IsReply-one g members h (Add m f c s) In In is also = refl
IsReply-one g members h (Add m f c s) In Late is also = let test = is.1 in let other = also.1 in cc
IsReply-one g members h (Add m f c s) In Outside is also = absurd (also is.0)
IsReply-one g members h (Add m f c s) Late In is also = let test = is.1 in let other = also.1 in cc
IsReply-one g members h (Add m f c s) Late Late is also = refl
IsReply-one g members h (Add m f c s) Late Outside is also = absurd (also is.0)
IsReply-one g members h (Add m f c s) Outside In is also = absurd (is also.0)
IsReply-one g members h (Add m f c s) Outside Late is also = absurd (is also.0)
IsReply-one g members h (Add m f c s) Outside Outside is also = refl
IsReply-one g members h (Add m f c s) (Took k d v) q is also = absurd is
IsReply-one g members h (Add m f c s) (Published k) q is also = absurd is
IsReply-one g members h (Add m f c s) LapEnd q is also = absurd is
IsReply-one g members h (Add m f c s) r q is also = absurd also
IsReply-one g members h (Withdraw m f c s) In In is also = refl
IsReply-one g members h (Withdraw m f c s) In Late is also = let test = is.1 in let other = also.1 in cc
IsReply-one g members h (Withdraw m f c s) In Outside is also = absurd (also is.0)
IsReply-one g members h (Withdraw m f c s) Late In is also = let test = is.1 in let other = also.1 in cc
IsReply-one g members h (Withdraw m f c s) Late Late is also = refl
IsReply-one g members h (Withdraw m f c s) Late Outside is also = absurd (also is.0)
IsReply-one g members h (Withdraw m f c s) Outside In is also = absurd (is also.0)
IsReply-one g members h (Withdraw m f c s) Outside Late is also = absurd (is also.0)
IsReply-one g members h (Withdraw m f c s) Outside Outside is also = refl
IsReply-one g members h (Withdraw m f c s) (Took k d v) q is also = absurd is
IsReply-one g members h (Withdraw m f c s) (Published k) q is also = absurd is
IsReply-one g members h (Withdraw m f c s) LapEnd q is also = absurd is
IsReply-one g members h (Withdraw m f c s) r q is also = absurd also
IsReply-one g members h Take (Took f c v) (Took k d w) is also =
    let frame : f ≡ k = is.1 ∙ sym also.1 in
    let channel : c ≡ d = is.2 ∙ sym also.2 in
    let value : v ≡ w = is.3 ∙ (ap clamp_of (ap (λ x. total (laid_of h) x c) frame ∙ ap (λ x. total (laid_of h) k x) channel) ∙ sym also.3) in
    cc
IsReply-one g members h Take (Took f c v) LapEnd is also = absurd (is.0 also)
IsReply-one g members h Take LapEnd (Took f c v) is also = absurd (also.0 is)
IsReply-one g members h Take LapEnd LapEnd is also = refl
IsReply-one g members h Take In q is also = absurd is
IsReply-one g members h Take Late q is also = absurd is
IsReply-one g members h Take Outside q is also = absurd is
IsReply-one g members h Take (Published k) q is also = absurd is
IsReply-one g members h Take r q is also = absurd also
IsReply-one g members h Publish (Published f) (Published k) is also = ap Published (is ∙ sym also)
IsReply-one g members h Publish In q is also = absurd is
IsReply-one g members h Publish Late q is also = absurd is
IsReply-one g members h Publish Outside q is also = absurd is
IsReply-one g members h Publish (Took f c v) q is also = absurd is
IsReply-one g members h Publish LapEnd q is also = absurd is
IsReply-one g members h Publish r q is also = absurd also

-- so events have one list of replies, of one reply each
pub AreReplies-one : (g : Geometry) (members : ℕ) (h : List Row) (es : List Event) (rs qs : List Reply)
    → length rs ≡ length es → length qs ≡ length es → AreReplies g members h (zip es rs) → AreReplies g members h (zip es qs) → rs ≡ qs
AreReplies-one g members h [] [] [] one_each also_each are also = refl
AreReplies-one g members h [] (r ∷ rs) qs one_each also_each are also = absurd (omega arith)
AreReplies-one g members h [] [] (q ∷ qs) one_each also_each are also = absurd (omega arith)
AreReplies-one g members h (e ∷ es) [] qs one_each also_each are also = absurd (omega arith)
AreReplies-one g members h (e ∷ es) (r ∷ rs) [] one_each also_each are also = absurd (omega arith)
AreReplies-one g members h (e ∷ es) (r ∷ rs) (q ∷ qs) one_each also_each are also =
    let same : r ≡ q = IsReply-one g members h e r q are.0 also.0 in
    let then : AreReplies g members (h ++ (e, r) ∷ []) (zip es qs) = subst (λ x. AreReplies g members (h ++ (e, x) ∷ []) (zip es qs)) (sym same) also.1 in
    let rest : rs ≡ qs = AreReplies-one g members (h ++ (e, r) ∷ []) es rs qs (omega arith) (omega arith) are.1 then in
    cc
