-- A phase whose lines are all the card's: no client and no reader does anything in it.
use Rattle.std.specs.Prelude.{◌≡◌, ◌≢◌, ℕ, ◌≤◌, Bool, true, false, if◌then◌else◌, List, [], ◌∷◌, ◌++◌, length}
use Rattle.std.proofs.Common.{refl, ap, subst, ◌∙◌, arith}
use Rattle.std.proofs.lemmas.Bool.{false≢true}
use Rattle.lab_lines.specs.declared.line.Actor.{Actor}
use Rattle.lab_lines.specs.declared.line.Actor.TheVariants.{Card, Client, Reader}
use Rattle.lab_lines.specs.declared.line.Line.{Line}
use Rattle.lab_lines.specs.Limits.{IsPhase}
use Rattle.lab_lines.specs.Script.{is_of_card, unplugs}
use Rattle.lab_run.specs.Phases.{is_client, is_reader, ops_by}
use Rattle.lab_card.specs.CardLines.{unplugs_by}
use Rattle.lab_card.specs.Unplugs.{unplugs_by-ops_by}

-- no line is another actor's where as many are the card's as there are
pub own-at-most : (lines : List Line) → length (ops_by is_of_card lines) ≤ length lines
own-at-most [] = omega arith
own-at-most (line ∷ lines) = by_test (is_of_card line.actor) (own-at-most lines)
  where
    by_test : (own : Bool) → length (ops_by is_of_card lines) ≤ length lines → length ((if own then line.op ∷ [] else []) ++ ops_by is_of_card lines) ≤ length (line ∷ lines)
    by_test true rest = omega (arith, rest)
    by_test false rest = omega (arith, rest)

ops_by-alone : (is_theirs : Actor → Bool) → ((who : Actor) → is_of_card who ≡ true → is_theirs who ≡ false) → (lines : List Line)
    → length (ops_by is_of_card lines) ≡ length lines → ops_by is_theirs lines ≡ []
ops_by-alone is_theirs apart [] all = refl
ops_by-alone is_theirs apart (line ∷ lines) all = by_test (is_of_card line.actor) refl (ops_by-alone is_theirs apart lines)
  where
    by_test : (own : Bool) → is_of_card line.actor ≡ own → (length (ops_by is_of_card lines) ≡ length lines → ops_by is_theirs lines ≡ []) → ops_by is_theirs (line ∷ lines) ≡ []
    by_test true is none =
        let rest : length (ops_by is_of_card lines) ≡ length lines =
        let more : length ((if true then line.op ∷ [] else []) ++ ops_by is_of_card lines) ≡ length (line ∷ lines) =
        subst (λ (own : Bool). length ((if own then line.op ∷ [] else []) ++ ops_by is_of_card lines) ≡ length (line ∷ lines)) is all in
        omega (arith, more) in
        ap (λ (theirs : Bool). (if theirs then line.op ∷ [] else []) ++ ops_by is_theirs lines) (apart line.actor is) ∙ none rest
    by_test false is none =
        let most = own-at-most lines in
        let more : length ((if false then line.op ∷ [] else []) ++ ops_by is_of_card lines) ≡ length (line ∷ lines) =
        subst (λ (own : Bool). length ((if own then line.op ∷ [] else []) ++ ops_by is_of_card lines) ≡ length (line ∷ lines)) is all in
        absurd (omega (arith, most, more))

is_client-card : (number : ℕ) (who : Actor) → is_of_card who ≡ true → is_client number who ≡ false
is_client-card number Card own = refl
is_client-card number (Client n) own = absurd (false≢true own)
is_client-card number (Reader n) own = refl

is_reader-card : (number : ℕ) (who : Actor) → is_of_card who ≡ true → is_reader number who ≡ false
is_reader-card number Card own = refl
is_reader-card number (Client n) own = refl
is_reader-card number (Reader n) own = absurd (false≢true own)

pub ops_by-alone_client : (lines : List Line) → length (ops_by is_of_card lines) ≡ length lines → (number : ℕ) → ops_by (is_client number) lines ≡ []
ops_by-alone_client lines all number = ops_by-alone (is_client number) (is_client-card number) lines all

pub ops_by-alone_reader : (lines : List Line) → length (ops_by is_of_card lines) ≡ length lines → (number : ℕ) → ops_by (is_reader number) lines ≡ []
ops_by-alone_reader lines all number = ops_by-alone (is_reader number) (is_reader-card number) lines all

-- a phase that unplugs the card is such a phase
pub unplugs-alone : (clients readers : ℕ) (lines : List Line) → IsPhase clients readers lines → unplugs lines ≡ true → length (ops_by is_of_card lines) ≡ length lines
unplugs-alone clients readers [] phase unplugged = refl
unplugs-alone clients readers (line ∷ second ∷ lines) phase unplugged =
    absurd (let one : length (line ∷ second ∷ lines) ≡ 1 = phase.alone unplugged in omega (arith, one))
unplugs-alone clients readers (line ∷ []) phase unplugged = by_test (is_of_card line.actor) refl
  where
    by_test : (own : Bool) → is_of_card line.actor ≡ own → length (ops_by is_of_card (line ∷ [])) ≡ length (line ∷ [])
    by_test true is = ap (λ (own : Bool). length ((if own then line.op ∷ [] else []) ++ [])) is
    by_test false is =
        let by_own : unplugs_by (ops_by is_of_card (line ∷ [])) ≡ true = unplugs_by-ops_by clients readers (line ∷ []) phase.each ∙ unplugged in
        absurd (false≢true (subst (λ (own : Bool). unplugs_by ((if own then line.op ∷ [] else []) ++ []) ≡ true) is by_own))

-- so a phase with another actor's line doesn't unplug it
pub unplugs_by-others : (clients readers : ℕ) (lines : List Line) → IsPhase clients readers lines → length (ops_by is_of_card lines) ≢ length lines → unplugs_by (ops_by is_of_card lines) ≡ false
unplugs_by-others clients readers lines phase others = unplugs_by-ops_by clients readers lines phase.each ∙ by_test (unplugs lines) refl
  where
    by_test : (unplugged : Bool) → unplugs lines ≡ unplugged → unplugged ≡ false
    by_test true is = absurd (others (unplugs-alone clients readers lines phase is))
    by_test false is = refl
