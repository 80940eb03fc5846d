-- The card channels of bindings, joined by commas, with one channel more.
use Rattle.asound_conf.specs.Prelude.{ap, append_assoc, arith, length, List, map, refl, suc, sym, take, zero, ℕ, [], ◌++◌, ◌+◌, ◌<◌, ◌∙◌, ◌∷◌, ◌≡◌, decimal}
use Rattle.asound_conf.specs.Prelude.{join_with_byte, slice_index}

-- the channels up to a place, and the next
joined_take : (bs : List ℕ) (i : ℕ) → 0 < i → i < length bs
    → join_with_byte 44 (map decimal (take (suc i) bs)) ≡ join_with_byte 44 (map decimal (take i bs)) ++ 44 ∷ decimal (slice_index bs i)
joined_take bs zero some h = absurd (omega arith)
joined_take [] (suc i) some h = absurd (omega arith)
joined_take (b ∷ []) (suc i) some h = absurd (omega arith)
joined_take (b ∷ c ∷ bs) (suc zero) some h = refl
joined_take (b ∷ c ∷ bs) (suc (suc i)) some h =
    ap (λ rest. decimal b ++ 44 ∷ rest) (joined_take (c ∷ bs) (suc i) (omega arith) (omega arith))
    ∙ sym (append_assoc (decimal b) (44 ∷ join_with_byte 44 (map decimal (take (suc i) (c ∷ bs)))) (44 ∷ decimal (slice_index (c ∷ bs) (suc i))))

-- a text to which one channel more was appended
pub channel_more : (before text later bs : List ℕ) (i channel : ℕ) → 0 < i → i < length bs
    → text ≡ before ++ join_with_byte 44 (map decimal (take i bs)) → channel ≡ slice_index bs i → later ≡ text ++ 44 ∷ decimal channel
    → later ≡ before ++ join_with_byte 44 (map decimal (take (i + 1) bs))
channel_more before text later bs i channel some h said is more =
    let next : i + 1 ≡ suc i = omega arith in
    rw (more, said, is, next, joined_take bs i some h) (append_assoc before (join_with_byte 44 (map decimal (take i bs))) (44 ∷ decimal (slice_index bs i)))
