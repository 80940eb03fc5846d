-- An actor's lines among the first of a phase's, the room for what they leave, and the lines that are no `die`.
use Rattle.std.proofs.Common.{◌≡◌, ℕ, ◌+◌, ◌<◌, ◌≤◌, List, [], ◌∷◌, ◌++◌, refl, sym, ◌∙◌, ap, arith, append_assoc, length, get_or, take, drop, suc}
use Rattle.std.proofs.Math.Seq.{take-suc}
use Rattle.std.proofs.lemmas.List.{append-nil, length-append, take-append-drop}
use Rattle.std.specs.Prelude.{Bool, true, false, if◌then◌else◌, vec_capacity, vec_len}
use Rattle.std.specs.Global.{Vec}
use Rattle.lab_lines.specs.declared.line.Actor.{Actor}
use Rattle.lab_lines.specs.declared.line.Actor.TheVariants as actor
use Rattle.lab_lines.specs.declared.line.Line.{Line}
use Rattle.lab_lines.specs.declared.line.Op.{Op}
use Rattle.lab_lines.specs.declared.line.Op.TheVariants as op
use Rattle.lab_run.specs.ClientAtPort.{is_die}
use Rattle.lab_run.specs.Phases.{ops_by}
use Rattle.lab_actors.specs.Room.{GrowsBy, HasSpace}

-- the lines of an actor among the first of a phase's
pub ops_by-append : (mine : Actor → Bool) (xs ys : List Line) → ops_by mine (xs ++ ys) ≡ ops_by mine xs ++ ops_by mine ys
ops_by-append mine [] ys = refl
ops_by-append mine (x ∷ xs) ys =
    ap (λ (ops : List Op). (if mine x.actor then x.op ∷ [] else []) ++ ops) (ops_by-append mine xs ys)
    ∙ sym (append_assoc (if mine x.actor then x.op ∷ [] else []) (ops_by mine xs) (ops_by mine ys))

-- the line of a number
abbrev pub line_at : List Line → ℕ → Line
line_at lines k = get_or lines k (record { number = 0; actor = actor.Card; op = op.Play 0 })

next-line : (mine : Actor → Bool) (lines : List Line) (k : ℕ) → k < length lines
    → ops_by mine (take (k + 1) lines) ≡ ops_by mine (take k lines) ++ ((if mine (line_at lines k).actor then (line_at lines k).op ∷ [] else []) ++ [])
next-line mine lines k within =
    ap (λ (j : ℕ). ops_by mine (take j lines)) (let e : k + 1 ≡ suc k = omega arith in e) ∙ ap (ops_by mine) (take-suc lines k _ within)
    ∙ ops_by-append mine (take k lines) (line_at lines k ∷ [])

pub own-line : (mine : Actor → Bool) (lines : List Line) (k : ℕ) → k < length lines → mine (line_at lines k).actor ≡ true
    → ops_by mine (take (k + 1) lines) ≡ ops_by mine (take k lines) ++ (line_at lines k).op ∷ []
own-line mine lines k within own =
    next-line mine lines k within ∙ ap (λ (test : Bool). ops_by mine (take k lines) ++ ((if test then (line_at lines k).op ∷ [] else []) ++ [])) own

pub other-line : (mine : Actor → Bool) (lines : List Line) (k : ℕ) → k < length lines → mine (line_at lines k).actor ≡ false
    → ops_by mine (take (k + 1) lines) ≡ ops_by mine (take k lines)
other-line mine lines k within other =
    next-line mine lines k within ∙ ap (λ (test : Bool). ops_by mine (take k lines) ++ ((if test then (line_at lines k).op ∷ [] else []) ++ [])) other
    ∙ append-nil (ops_by mine (take k lines))

-- there is one line more of an actor's where the next one is its own
pub few-lines : (mine : Actor → Bool) (lines : List Line) (k : ℕ) → length (ops_by mine (take k lines)) ≤ length (ops_by mine lines)
few-lines mine lines k =
    let all : ops_by mine lines ≡ ops_by mine (take k lines) ++ ops_by mine (drop k lines) =
    ap (ops_by mine) (sym (take-append-drop k lines)) ∙ ops_by-append mine (take k lines) (drop k lines) in
    let size : length (ops_by mine lines) ≡ length (ops_by mine (take k lines)) + length (ops_by mine (drop k lines)) =
    ap length all ∙ length-append (ops_by mine (take k lines)) (ops_by mine (drop k lines)) in
    omega (arith, size)

pub own-size : (mine : Actor → Bool) (lines : List Line) (k : ℕ) → k < length lines → mine (line_at lines k).actor ≡ true
    → length (ops_by mine (take (k + 1) lines)) ≡ length (ops_by mine (take k lines)) + 1
own-size mine lines k within own = ap length (own-line mine lines k within own) ∙ length-append (ops_by mine (take k lines)) ((line_at lines k).op ∷ [])

-- the room that is left after an own line
pub room-next : {X : Type 0} (mine : Actor → Bool) (lines : List Line) (k : ℕ) (xs ys : Vec X) → k < length lines → mine (line_at lines k).actor ≡ true
    → vec_len xs + length (ops_by mine lines) ≤ vec_capacity xs + length (ops_by mine (take k lines)) → GrowsBy 1 xs ys
    → vec_len ys + length (ops_by mine lines) ≤ vec_capacity ys + length (ops_by mine (take (k + 1) lines))
room-next mine lines k xs ys within own before grows =
    let few = grows.few in
    let kept = grows.kept in
    omega (arith, before, few, kept, own-size mine lines k within own)

-- there is room for an own line
pub room-own : {X : Type 0} (mine : Actor → Bool) (lines : List Line) (k : ℕ) (xs : Vec X) → k < length lines
    → vec_len xs + length (ops_by mine lines) ≤ vec_capacity xs + length (ops_by mine (take k lines)) → mine (line_at lines k).actor ≡ true → HasSpace 1 xs
room-own mine lines k xs within before own = omega (arith, before, own-size mine lines k within own, few-lines mine lines (k + 1))

-- a line that names something else than a `die`
pub is_die-other : (asked : Op) → ((asks : ℕ) → asked ≡ op.Die asks → ⊥) → is_die asked ≡ false
is_die-other (op.Die asks) never = absurd (never asks refl)
is_die-other other never = refl
