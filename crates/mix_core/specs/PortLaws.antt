-- Words that never fall, positions that never rise and fall, and standing adds after further adds.
use Rattle.std.specs.Prelude.{◌≡◌, ℕ, List, [], ◌∷◌, ◌++◌, fold}
use Rattle.std.proofs.Common.{refl, sym, ap, ◌∙◌, append_assoc, arith}
use Rattle.std.proofs.lemmas.List.{append-nil}
use Rattle.std.proofs.lemmas.List.Sums.{fold-append}
use Rattle.mix_core.specs.declared.port.Entry.{Entry}
use Rattle.mix_core.specs.declared.port.Position.{Position}
use Rattle.mix_core.specs.Laid.{AreAdds, stand_after, standing, standing_with}
use Rattle.mix_core.specs.Port.{AreRisingFrom, IsNotBefore, last_frame}

pub IsNotBefore-refl : (w : ℕ) → IsNotBefore w w
IsNotBefore-refl w = omega arith

pub IsNotBefore-trans : (u v w : ℕ) → IsNotBefore u v → IsNotBefore v w → IsNotBefore u w
IsNotBefore-trans u v w first then = omega (arith, first, then)

pub AreRisingFrom-append : (d : ℕ) (xs ys : List Position) → AreRisingFrom d xs → AreRisingFrom (last_frame d xs) ys → AreRisingFrom d (xs ++ ys)
AreRisingFrom-append d [] ys first then = then
AreRisingFrom-append d (x ∷ xs) ys first then = (first.0, AreRisingFrom-append x.frame xs ys first.1 then)

pub last_frame-append : (d : ℕ) (xs ys : List Position) → last_frame d (xs ++ ys) ≡ last_frame (last_frame d xs) ys
last_frame-append d [] ys = refl
last_frame-append d (x ∷ xs) ys = last_frame-append x.frame xs ys

-- adds are put at the end of a standing list
pub standing-adds : (held es : List Entry) → AreAdds es → fold stand_after held es ≡ held ++ es
standing-adds held [] adds = sym (append-nil held)
standing-adds held (e ∷ es) adds =
    ap (λ k. fold stand_after (standing_with k held e) es) adds.0 ∙ (standing-adds (held ++ e ∷ []) es adds.1 ∙ append_assoc held (e ∷ []) es)

pub standing-append_adds : (es fs : List Entry) → AreAdds fs → standing (es ++ fs) ≡ standing es ++ fs
standing-append_adds es fs adds = fold-append stand_after [] es fs ∙ standing-adds (standing es) fs adds
