-- The card's lines among those of a phase, one after the other.
use Rattle.lab_card.specs.Prelude.{ap, append_assoc, arith, drop, get_or, length, List, refl, sym, take, ℕ, [], ◌++◌, ◌+◌, ◌<◌, ◌∙◌, ◌≡◌, ◌≤◌, take-suc}
use Rattle.lab_card.specs.Prelude.{length-append, take-append-drop, Bool, false, if◌then◌else◌, suc, true, ◌∷◌, Line, Op, is_of_card, played_by, ops_by}
use Rattle.lab_card.specs.Prelude.{frames_by}
use Rattle.std.proofs.lemmas.List.Sums.{sum_by-append}
use mir.Val.{bool_byte}
use Rattle.lab_lines.specs.declared.line.Actor.TheVariants as actor
use Rattle.lab_lines.specs.declared.line.Op.TheVariants as op

-- what the card is asked for by some lines
abbrev pub ops : List Line → List Op
ops lines = ops_by is_of_card lines

pub ops-append : (xs ys : List Line) → ops (xs ++ ys) ≡ ops xs ++ ops ys
ops-append [] ys = refl
ops-append (x ∷ xs) ys =
    ap (λ (others : List Op). (if is_of_card x.actor then x.op ∷ [] else []) ++ others) (ops-append xs ys)
    ∙ sym (append_assoc (if is_of_card x.actor then x.op ∷ [] else []) (ops xs) (ops ys))

-- by the next line, and by those that are left
abbrev pub line_at : List Line → ℕ → Line
line_at lines k = get_or lines k (record { number = 0; actor = actor.Card; op = op.Play 0 })

pub ops-next : (lines : List Line) (k : ℕ) → k < length lines → ops (take (k + 1) lines) ≡ ops (take k lines) ++ ops (line_at lines k ∷ [])
ops-next lines k within =
    ap (λ (j : ℕ). ops (take j lines)) (let e : k + 1 ≡ suc k = omega arith in e) ∙ ap ops (take-suc lines k _ within) ∙ ops-append (take k lines) (line_at lines k ∷ [])

pub ops-split : (lines : List Line) (k : ℕ) → ops lines ≡ ops (take k lines) ++ ops (drop k lines)
ops-split lines k = ap ops (sym (take-append-drop k lines)) ∙ ops-append (take k lines) (drop k lines)

-- how many frames, and how many lines
pub frames-next : (lines : List Line) (k : ℕ) → k < length lines → frames_by (ops (take (k + 1) lines)) ≡ frames_by (ops (take k lines)) + frames_by (ops (line_at lines k ∷ []))
frames-next lines k within = ap frames_by (ops-next lines k within) ∙ sum_by-append played_by (ops (take k lines)) (ops (line_at lines k ∷ []))

pub frames-most : (lines : List Line) (k : ℕ) → frames_by (ops (take k lines)) ≤ frames_by (ops lines)
frames-most lines k =
    let all : frames_by (ops lines) ≡ frames_by (ops (take k lines)) + frames_by (ops (drop k lines)) =
    ap frames_by (ops-split lines k) ∙ sum_by-append played_by (ops (take k lines)) (ops (drop k lines)) in
    omega (arith, all)

pub count-next : (lines : List Line) (k : ℕ) → k < length lines → length (ops (take (k + 1) lines)) ≡ length (ops (take k lines)) + length (ops (line_at lines k ∷ []))
count-next lines k within = ap length (ops-next lines k within) ∙ length-append (ops (take k lines)) (ops (line_at lines k ∷ []))

pub count-most : (lines : List Line) (k : ℕ) → length (ops (take k lines)) ≤ length (ops lines)
count-most lines k =
    let all : length (ops lines) ≡ length (ops (take k lines)) + length (ops (drop k lines)) =
    ap length (ops-split lines k) ∙ length-append (ops (take k lines)) (ops (drop k lines)) in
    omega (arith, all)

-- a line is one of the card's, or none
pub own-count : (line : Line) (test : Bool) → test ≡ is_of_card line.actor → length (ops (line ∷ [])) ≡ bool_byte test
own-count line true is = ap (λ (b : Bool). length ((if b then line.op ∷ [] else []) ++ [])) (sym is)
own-count line false is = ap (λ (b : Bool). length ((if b then line.op ∷ [] else []) ++ [])) (sym is)

pub bool_byte-most : (test : Bool) → bool_byte test ≤ 1
bool_byte-most true = omega arith
bool_byte-most false = omega arith

-- another's line asks nothing of the card
pub ops-other : (line : Line) → is_of_card line.actor ≡ false → ops (line ∷ []) ≡ []
ops-other line other = ap (λ (b : Bool). (if b then line.op ∷ [] else []) ++ []) other
