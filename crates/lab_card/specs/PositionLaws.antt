-- The positions that a card publishes, put together, and that a run has them.
use Rattle.std.specs.Prelude.{◌≡◌, ℕ, zero, suc, ◌+◌, ◌%◌, ◌==◌, ◌<◌, ◌≤◌, ◌&&◌, Bool, true, false, if◌then◌else◌, List, [], ◌∷◌, ◌++◌, Contains, filter}
use Rattle.std.specs.List.{range_with_len}
use Rattle.std.proofs.Common.{refl, sym, ap, subst, ◌∙◌, arith, append_assoc, inl, inr}
use Rattle.std.proofs.lemmas.Bool.{lt-ltb}
use Rattle.std.proofs.lemmas.List.{append-nil}
use Rattle.std.proofs.lemmas.List.Sums.{sum_by-append, sum_by-cons}
use Rattle.std.proofs.lemmas.List.Elements.{Contains-append_cases, Contains-append_left, Contains-append_right, filter-append}
use Rattle.ring_rule.specs.Positions.{last_number}
use Rattle.card_player.specs.PlayLaws.{last_number-append, last_number-positions_of, periods_to-ended}
use Rattle.card_player.specs.Plays.{ends_period, is_multiple, period_at, periods_to, positions_of}
use Rattle.lab_lines.specs.declared.line.Line.{Line}
use Rattle.lab_lines.specs.declared.line.Op.{Op}
use Rattle.lab_lines.specs.declared.line.Op.TheVariants as op
use Rattle.lab_lines.specs.Script.{is_of_card, played_by}
use Rattle.lab_run.specs.ActorPart.{Each}
use Rattle.lab_run.specs.Phases.{on_the_way, ops_by, played_at, played_in, published_by}
use Rattle.lab_card.specs.CardLines.{frames_by, positions_at, positions_by}
use Rattle.lab_card.specs.Lists.{Each-append, range_with_len-append}

pub periods_to-append : (period first n m : ℕ) → periods_to period first (n + m) ≡ periods_to period first n ++ periods_to period (first + n) m
periods_to-append period first n zero = ap (periods_to period first) (let e : n + 0 ≡ n = omega arith in e) ∙ sym (append-nil (periods_to period first n))
periods_to-append period first n (suc m) =
    ap (periods_to period first) (let e : n + suc m ≡ suc (n + m) = omega arith in e)
    ∙ (ap (λ (ps : List ℕ). ps ++ period_at period (first + suc (n + m))) (periods_to-append period first n m)
    ∙ (append_assoc (periods_to period first n) (periods_to period (first + n) m) (period_at period (first + suc (n + m)))
    ∙ ap (λ (k : ℕ). periods_to period first n ++ (periods_to period (first + n) m ++ period_at period k)) (let e : first + suc (n + m) ≡ first + n + suc m = omega arith in e)))

-- the positions of so many frames, after some that ended a period
pub positions_of-append : (period first n m : ℕ) → 0 < m → periods_to period first n ++ positions_of period (first + n) m ≡ positions_of period first (n + m)
positions_of-append period first n m some =
    let end : first + (n + m) ≡ first + n + m = omega arith in
    let left : ends_period period (first + n) m ≡ is_multiple period (first + n + m) = ap (λ (b : Bool). b && is_multiple period (first + n + m)) (lt-ltb 0 m some) in
    let right : ends_period period first (n + m) ≡ is_multiple period (first + n + m) =
    ap (λ (b : Bool). b && is_multiple period (first + (n + m))) (lt-ltb 0 (n + m) (omega arith)) ∙ ap (is_multiple period) end in
    let tail : (if ends_period period (first + n) m then [] else (first + n + m) ∷ []) ≡ (if ends_period period first (n + m) then [] else (first + (n + m)) ∷ []) =
    ap (λ (b : Bool). if b then [] else (first + n + m) ∷ []) (left ∙ sym right)
    ∙ ap (λ (k : ℕ). if ends_period period first (n + m) then [] else k ∷ []) (sym end) in
    sym (append_assoc (periods_to period first n) (periods_to period (first + n) m) (if ends_period period (first + n) m then [] else (first + n + m) ∷ []))
    ∙ (ap (λ (ps : List ℕ). ps ++ (if ends_period period (first + n) m then [] else (first + n + m) ∷ [])) (sym (periods_to-append period first n m))
    ∙ ap (λ (ps : List ℕ). periods_to period first (n + m) ++ ps) tail)

-- frames that end a period
pub positions_of-period : (period first n : ℕ) → 0 < n → is_multiple period (first + n) ≡ true → positions_of period first n ≡ periods_to period first n
positions_of-period period first n some ends =
    sym (periods_to-ended period first n (ap (λ (b : Bool). b && is_multiple period (first + n)) (lt-ltb 0 n some) ∙ ends))

-- the multiples of the period on the way are those among the frames
filter-range_with_len : (period first n : ℕ) → filter (λ q. q % period == 0) (range_with_len (first + 1) n) ≡ periods_to period first n
filter-range_with_len period first zero = refl
filter-range_with_len period first (suc n) =
    let at : first + 1 + n ≡ first + suc n = omega arith in
    ap (λ (k : ℕ). filter (λ q. q % period == 0) (range_with_len (first + 1) k)) (let e : suc n ≡ n + 1 = omega arith in e)
    ∙ (ap (filter (λ q. q % period == 0)) (range_with_len-append (first + 1) n 1)
    ∙ (filter-append (λ q. q % period == 0) (range_with_len (first + 1) n) (range_with_len (first + 1 + n) 1)
    ∙ (ap (λ (ps : List ℕ). ps ++ filter (λ q. q % period == 0) ((first + 1 + n) ∷ [])) (filter-range_with_len period first n)
    ∙ ap (λ (k : ℕ). periods_to period first n ++ filter (λ q. q % period == 0) (k ∷ [])) at)))

contains-tail : (b : Bool) (end q : ℕ) → Contains (if b then [] else end ∷ []) q → Contains (end ∷ []) q
contains-tail true end q inside = absurd (omega (arith, inside.1))
contains-tail false end q inside = inside

pub positions_of-on_the_way : (period from n q : ℕ) → Contains (positions_of period from n) q → Contains (on_the_way period from n) q
positions_of-on_the_way period from n q inside = elim (Contains-append_cases (periods_to period from n) (if ends_period period from n then [] else (from + n) ∷ []) q inside) [
  | inl early ↦ Contains-append_left (filter (λ q. q % period == 0) (range_with_len (from + 1) n)) ((from + n) ∷ []) q
      (subst (λ (ps : List ℕ). Contains ps q) (sym (filter-range_with_len period from n)) early)
  | inr last ↦ Contains-append_right (filter (λ q. q % period == 0) (range_with_len (from + 1) n)) ((from + n) ∷ []) q
      (contains-tail (ends_period period from n) (from + n) q last)
]

positions_at-on_the_way : (period from : ℕ) (asked : Op) (q : ℕ) → Contains (positions_at period from asked) q → Contains (on_the_way period from (played_by asked)) q
positions_at-on_the_way period from (op.Play n) q inside = positions_of-on_the_way period from n q inside
positions_at-on_the_way period from other q inside = absurd (omega (arith, inside.1))

-- one line more in front
frames-line : (line : Line) → frames_by (if is_of_card line.actor then line.op ∷ [] else []) ≡ played_at line
frames-line line = choose (is_of_card line.actor)
  where
    choose : (b : Bool) → frames_by (if b then line.op ∷ [] else []) ≡ (if b then played_by line.op else 0)
    choose true = omega arith
    choose false = refl

-- the frames that a card plays by its lines are those of a run
pub frames_by-ops_by : (lines : List Line) → frames_by (ops_by is_of_card lines) ≡ played_in lines
frames_by-ops_by [] = refl
frames_by-ops_by (line ∷ lines) =
    sum_by-append played_by (if is_of_card line.actor then line.op ∷ [] else []) (ops_by is_of_card lines)
    ∙ (ap (λ (n : ℕ). n + frames_by (ops_by is_of_card lines)) (frames-line line)
    ∙ (ap (λ (n : ℕ). played_at line + n) (frames_by-ops_by lines) ∙ sym (sum_by-cons played_at line lines)))

-- by one line more in front, which may be the card's, and plays so many frames then
published-more : (period from : ℕ) (line : Line) (lines : List Line) (q : ℕ)
    → ((from : ℕ) → Contains (positions_by period from (ops_by is_of_card lines)) q → Contains (published_by period from lines) q)
    → (own : Bool) → Contains (positions_by period from ((if own then line.op ∷ [] else []) ++ ops_by is_of_card lines)) q
    → Contains (on_the_way period from (if own then played_by line.op else 0) ++ published_by period (from + (if own then played_by line.op else 0)) lines) q
published-more period from line lines q later true inside =
    let n : ℕ = played_by line.op in
    elim (Contains-append_cases (positions_at period from line.op) (positions_by period (from + n) (ops_by is_of_card lines)) q inside) [
      | inl own ↦ Contains-append_left (on_the_way period from n) (published_by period (from + n) lines) q (positions_at-on_the_way period from line.op q own)
      | inr behind ↦ Contains-append_right (on_the_way period from n) (published_by period (from + n) lines) q (later (from + n) behind)
    ]
published-more period from line lines q later false inside =
    Contains-append_right (on_the_way period from 0) (published_by period (from + 0) lines) q
    (later (from + 0) (subst (λ (n : ℕ). Contains (positions_by period n (ops_by is_of_card lines)) q) (let e : from ≡ from + 0 = omega arith in e) inside))

-- the positions that a card publishes by its lines are among those of a run
pub positions_by-published_by : (period from : ℕ) (lines : List Line) (q : ℕ) → Contains (positions_by period from (ops_by is_of_card lines)) q → Contains (published_by period from lines) q
positions_by-published_by period from [] q inside = inside
positions_by-published_by period from (line ∷ lines) q inside =
    published-more period from line lines q (λ n there. positions_by-published_by period n lines q there) (is_of_card line.actor) inside

periods_to-most : (period first n most : ℕ) → first + n ≤ most → Each (λ (q : ℕ). q ≤ most) (periods_to period first n)
periods_to-most period first zero most fits = tt
periods_to-most period first (suc n) most fits =
    Each-append (λ (q : ℕ). q ≤ most) (periods_to period first n) (period_at period (first + suc n)) (periods_to-most period first n most (omega arith)) (one (is_multiple period (first + suc n)))
  where
    one : (b : Bool) → Each (λ (q : ℕ). q ≤ most) (if b then (first + suc n) ∷ [] else [])
    one true = (fits, tt)
    one false = tt

pub positions_of-most : (period first n most : ℕ) → first + n ≤ most → Each (λ (q : ℕ). q ≤ most) (positions_of period first n)
positions_of-most period first n most fits =
    Each-append (λ (q : ℕ). q ≤ most) (periods_to period first n) (if ends_period period first n then [] else (first + n) ∷ []) (periods_to-most period first n most fits) (one (ends_period period first n))
  where
    one : (b : Bool) → Each (λ (q : ℕ). q ≤ most) (if b then [] else (first + n) ∷ [])
    one true = tt
    one false = (fits, tt)

positions_at-most : (period first : ℕ) (asked : Op) (most : ℕ) → first + played_by asked ≤ most → Each (λ (q : ℕ). q ≤ most) (positions_at period first asked)
positions_at-most period first (op.Play n) most fits = positions_of-most period first n most fits
positions_at-most period first other most fits = tt

positions_at-last : (period first : ℕ) (asked : Op) → last_number first (positions_at period first asked) ≡ first + played_by asked
positions_at-last period first (op.Play n) = last_number-positions_of first period first n
positions_at-last period first other = omega arith

-- no position is past the last frame that is played
pub positions_by-most : (period from : ℕ) (ops : List Op) (most : ℕ) → from + frames_by ops ≤ most → Each (λ (q : ℕ). q ≤ most) (positions_by period from ops)
positions_by-most period from [] most fits = tt
positions_by-most period from (asked ∷ ops) most fits =
    let sum : frames_by (asked ∷ ops) ≡ played_by asked + frames_by ops = sum_by-cons played_by asked ops in
    Each-append (λ (q : ℕ). q ≤ most) (positions_at period from asked) (positions_by period (from + played_by asked) ops)
    (positions_at-most period from asked most (omega (arith, sum, fits)))
    (positions_by-most period (from + played_by asked) ops most (omega (arith, sum, fits)))

-- the last position is that after the last frame that is played
pub last_number-positions_by : (period from : ℕ) (ops : List Op) → last_number from (positions_by period from ops) ≡ from + frames_by ops
last_number-positions_by period from [] = omega arith
last_number-positions_by period from (asked ∷ ops) =
    let sum : frames_by (asked ∷ ops) ≡ played_by asked + frames_by ops = sum_by-cons played_by asked ops in
    last_number-append from (positions_at period from asked) (positions_by period (from + played_by asked) ops)
    ∙ (ap (λ (n : ℕ). last_number n (positions_by period (from + played_by asked) ops)) (positions_at-last period from asked)
    ∙ (last_number-positions_by period (from + played_by asked) ops ∙ (let e : from + played_by asked + frames_by ops ≡ from + frames_by (asked ∷ ops) = omega (arith, sum) in e)))
