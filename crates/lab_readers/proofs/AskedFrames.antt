-- How many frames an actor's lines ask to read.
use Rattle.lab_readers.specs.Prelude.{add-zero, ap, arith, drop, length, List, refl, sym, take, ℕ, [], ◌++◌, ◌+◌, ◌<◌, ◌∙◌, ◌≡◌, ◌≤◌, take-append-drop}
use Rattle.lab_readers.specs.Prelude.{sum_by-append, sum_by_push, Bool, false, if◌then◌else◌, sum_by, true, Line, ops_by, line_at, ops_by-append, other-line}
use Rattle.lab_readers.specs.Prelude.{own-line, asked_by}
use Rattle.lab_lines.specs.declared.line.Actor.{Actor}

-- how many frames they ask to read up to the next one
pub asked-next : (mine : Actor → Bool) (lines : List Line) (k : ℕ) → k < length lines
    → sum_by asked_by (ops_by mine (take k lines)) + (if mine (line_at lines k).actor then asked_by (line_at lines k).op else 0) ≡ sum_by asked_by (ops_by mine (take (k + 1) lines))
asked-next mine lines k within = by_test (mine (line_at lines k).actor) refl
  where
    by_test : (test : Bool) → mine (line_at lines k).actor ≡ test
        → sum_by asked_by (ops_by mine (take k lines)) + (if mine (line_at lines k).actor then asked_by (line_at lines k).op else 0) ≡ sum_by asked_by (ops_by mine (take (k + 1) lines))
    by_test true own = rw (own, own-line mine lines k within own) (sym (sum_by_push asked_by (ops_by mine (take k lines)) (line_at lines k).op))
    by_test false other = rw (other, other-line mine lines k within other) (add-zero (sum_by asked_by (ops_by mine (take k lines))))

pub asked-within : (mine : Actor → Bool) (lines : List Line) (k : ℕ) → k < length lines → mine (line_at lines k).actor ≡ true
    → sum_by asked_by (ops_by mine (take k lines)) + asked_by (line_at lines k).op ≤ sum_by asked_by (ops_by mine lines)
asked-within mine lines k within own =
    let next = ap (sum_by asked_by) (own-line mine lines k within own) ∙ sum_by_push asked_by (ops_by mine (take k lines)) (line_at lines k).op in
    let all : ops_by mine lines ≡ ops_by mine (take (k + 1) lines) ++ ops_by mine (drop (k + 1) lines) =
    ap (ops_by mine) (sym (take-append-drop (k + 1) lines)) ∙ ops_by-append mine (take (k + 1) lines) (drop (k + 1) lines) in
    let whole = ap (sum_by asked_by) all ∙ sum_by-append asked_by (ops_by mine (take (k + 1) lines)) (ops_by mine (drop (k + 1) lines)) in
    omega (arith, next, whole)
