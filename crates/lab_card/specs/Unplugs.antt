-- The phase that unplugs the card: it has one line, which is the card's, so that no client and no reader does anything in it.
use Rattle.std.specs.Prelude.{◌≡◌, ℕ, suc, ◌+◌, ◌||◌, Bool, true, false, if◌then◌else◌, List, [], ◌∷◌, ◌++◌, length, All}
use Rattle.std.proofs.Common.{refl, sym, ap, subst, ◌∙◌, arith}
use Rattle.std.proofs.lemmas.Bool.{false≢true}
use Rattle.std.proofs.lemmas.List.Folds.{list_any-append}
use Rattle.lab_lines.specs.declared.line.Actor.{Actor}
use Rattle.lab_lines.specs.declared.line.Actor.TheVariants.{Card, Client, Reader}
use Rattle.lab_lines.specs.declared.line.Line.{Line}
use Rattle.lab_lines.specs.declared.line.Op.{Op}
use Rattle.lab_lines.specs.declared.line.Op.TheVariants as op
use Rattle.lab_lines.specs.Limits.{IsLine, IsOpOf, IsPhase}
use Rattle.lab_lines.specs.Script.{is_of_card, is_unplug, unplugs}
use Rattle.lab_run.specs.Lines.{EachMay, Kind, LinesMay}
use Rattle.lab_run.specs.Phases.{is_client, is_reader, ops_by}
use Rattle.lab_run.specs.Rules.{AtPort, Rules}
use Rattle.lab_card.specs.CardLines.{unplugs_by}
use Rattle.lab_card.specs.MovesLaws.{or-false}

-- a client and a reader can't be asked for it
is_unplug-others : (who : Actor) (asked : Op) → IsOpOf who asked → is_of_card who ≡ false → is_unplug asked ≡ false
is_unplug-others Card asked may other = absurd (false≢true (sym other))
is_unplug-others (Client n) op.Unplug may other = absurd may
is_unplug-others (Client n) asked may other = refl
is_unplug-others (Reader n) op.Unplug may other = absurd may
is_unplug-others (Reader n) asked may other = refl

unplugs_by-line : (line : Line) → IsOpOf line.actor line.op → unplugs_by (if is_of_card line.actor then line.op ∷ [] else []) ≡ is_unplug line.op
unplugs_by-line line may = by_test (is_of_card line.actor) refl
  where
    by_test : (own : Bool) → is_of_card line.actor ≡ own → unplugs_by (if own then line.op ∷ [] else []) ≡ is_unplug line.op
    by_test true is = sym (or-false (is_unplug line.op))
    by_test false is = sym (is_unplug-others line.actor line.op may is)

-- the card is unplugged by its own lines exactly where it is in the phase
pub unplugs_by-ops_by : (clients readers : ℕ) (lines : List Line) → All (IsLine clients readers) lines → unplugs_by (ops_by is_of_card lines) ≡ unplugs lines
unplugs_by-ops_by clients readers [] each = refl
unplugs_by-ops_by clients readers (line ∷ lines) each =
    let rest = unplugs_by-ops_by clients readers lines (λ k d within. each (suc k) d (omega (arith, within))) in
    list_any-append is_unplug (if is_of_card line.actor then line.op ∷ [] else []) (ops_by is_of_card lines)
    ∙ (ap (λ (b : Bool). b || unplugs_by (ops_by is_of_card lines)) (unplugs_by-line line (each 0 line (omega arith)).op)
    ∙ ap (λ (b : Bool). is_unplug line.op || b) rest)

-- a line that unplugs the card is the card's
is_of_card-unplug : (who : Actor) (asked : Op) → IsOpOf who asked → is_unplug asked ≡ true → is_of_card who ≡ true
is_of_card-unplug who asked may unplugged = by_test (is_of_card who) refl
  where
    by_test : (own : Bool) → is_of_card who ≡ own → is_of_card who ≡ true
    by_test true is = is
    by_test false is = absurd (false≢true (sym (is_unplug-others who asked may is) ∙ unplugged))

-- in such a phase those have no line whom the card isn't one of
ops_by-unplugged : (is_theirs : Actor → Bool) → ((who : Actor) → is_of_card who ≡ true → is_theirs who ≡ false)
    → (clients readers : ℕ) (lines : List Line) → IsPhase clients readers lines → unplugs lines ≡ true → ops_by is_theirs lines ≡ []
ops_by-unplugged is_theirs apart clients readers [] phase unplugged = refl
ops_by-unplugged is_theirs apart clients readers (line ∷ []) phase unplugged =
    let may : IsOpOf line.actor line.op = (phase.each 0 line (omega arith)).op in
    let own : is_of_card line.actor ≡ true = is_of_card-unplug line.actor line.op may (or-false (is_unplug line.op) ∙ unplugged) in
    ap (λ (theirs : Bool). (if theirs then line.op ∷ [] else []) ++ []) (apart line.actor own)
ops_by-unplugged is_theirs apart clients readers (line ∷ second ∷ lines) phase unplugged =
    absurd (let one : length (line ∷ second ∷ lines) ≡ 1 = phase.alone unplugged in omega (arith, one))

is_client-card : (number : ℕ) (who : Actor) → is_of_card who ≡ true → is_client number who ≡ false
is_client-card number Card own = refl
is_client-card number (Client n) own = absurd (false≢true own)
is_client-card number (Reader n) own = refl

is_reader-card : (number : ℕ) (who : Actor) → is_of_card who ≡ true → is_reader number who ≡ false
is_reader-card number Card own = refl
is_reader-card number (Client n) own = refl
is_reader-card number (Reader n) own = absurd (false≢true own)

pub ops_by-unplugged_client : (clients readers : ℕ) (lines : List Line) → IsPhase clients readers lines → unplugs lines ≡ true → (number : ℕ) → ops_by (is_client number) lines ≡ []
ops_by-unplugged_client clients readers lines phase unplugged number =
    ops_by-unplugged (is_client number) (is_client-card number) clients readers lines phase unplugged

pub ops_by-unplugged_reader : (clients readers : ℕ) (lines : List Line) → IsPhase clients readers lines → unplugs lines ≡ true → (number : ℕ) → ops_by (is_reader number) lines ≡ []
ops_by-unplugged_reader clients readers lines phase unplugged number =
    ops_by-unplugged (is_reader number) (is_reader-card number) clients readers lines phase unplugged

-- an actor without lines stays as it is, and has no rows
pub LinesMay-none : {S : Type 0} (kind : Kind S) (rules : Rules) (actor : AtPort × S) (ops : List Op) → ops ≡ [] → LinesMay kind rules actor ops actor []
LinesMay-none kind rules actor ops none = subst (λ (asked : List Op). LinesMay kind rules actor asked actor []) (sym none) (refl, refl)

-- the same of all actors of a kind
pub EachMay-none : {S : Type 0} (kind : ℕ → Kind S) (rules : Rules) (ops : ℕ → List Op) → ((n : ℕ) → ops n ≡ []) → (number : ℕ) (actors : List (AtPort × S))
    → EachMay kind rules ops number actors actors []
EachMay-none kind rules ops none number [] = (refl, refl)
EachMay-none kind rules ops none number (actor ∷ actors) =
    (actor, actors, [], [], LinesMay-none (kind number) rules actor (ops number) (none number), EachMay-none kind rules ops none (number + 1) actors, refl, refl)
