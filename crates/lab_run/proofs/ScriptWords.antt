-- A stage of a run is where its script has it, and what a phase allows is what the script has of that phase.
use Rattle.lab_run.specs.Prelude.{ap, arith, inl, inr, length, refl, subst, sym, take, ℕ, ◌*◌, ◌+◌, ◌-◌, ◌/◌, ◌<◌, ◌∙◌, ◌≡◌, ◌≤◌, ◌⊎◌, cases_eq, cases_lt}
use Rattle.lab_run.specs.Prelude.{eq-eqb, eqb-true, nat_tests, length-append, All-append, All-cons, All-contains, All-filter, All-head, All-nil, All-push}
use Rattle.lab_run.specs.Prelude.{All-tail, All-take, All-weaker, Contains-append_cases, Contains-append_left, Contains-append_right, filter_passes}
use Rattle.lab_run.specs.Prelude.{sum_by-append, sum_by-cons, list_any, range_with_len, All, Bool, Contains, filter, List, nat_eq, slice_index_or, suc, true}
use Rattle.lab_run.specs.Prelude.{zero, [], ◌%◌, ◌++◌, ◌==◌, ◌||◌, ◌∷◌, Sound, Actor, Item, Line, Script, IsItem, IsLine, first_frame, frames_played}
use Rattle.lab_run.specs.Prelude.{IsCardPosition, phase_at, phases_of, position_after_phases, unplugs, ItemsMay, on_the_way, phase_positions, played_at}
use Rattle.lab_run.specs.Prelude.{played_in, published_by, first_stage, Session, Stage}
use Rattle.std.proofs.Math.Bool.{or-false, or_assoc}
use Rattle.std.proofs.Math.Nat.{mul-mod_left}
use Rattle.std.proofs.Math.Seq.{get_or-append_seam, take-append-add, take-append_seam, take-length}
use Rattle.std.proofs.lemmas.Cmp.{nat_eq_equiv}
use Rattle.std.proofs.lemmas.List.FromFn.{get_or-range_with_len, length-range_with_len}
use Rattle.std.proofs.lemmas.Map.Views.{Contains-from_any, any-filter_same, list_any-from_Contains}
use Rattle.std.proofs.lemmas.Nat.{div-add-mod'}
use Rattle.lab_run.specs.ScriptWords.{IsReached, PhasesAreOfScripts, StagesAreOfScripts}
use Rattle.lab_run.proofs.BorderLaws.{Border, close-by, open-by}
use Rattle.lab_run.proofs.ScriptLines.{played_in-lines}
use Rattle.lab_lines.specs.declared.line.Item.TheVariants as item
use Rattle.lab_lines.specs.Script as script_words

-- a stage with the card of another, and as many phases
record HasCardOf (stage after : Stage) : Type 0 where
  pub phases : after.phases ≡ stage.phases
  pub position : after.position ≡ stage.position
  pub gone : after.gone ≡ stage.gone

card-border : (session : Session) (stage : Stage) (who : Actor) → Border session stage who (HasCardOf stage)
card-border session stage who = assumption

-- what the phases of items make of the card
record IsCardAfter (stage : Stage) (phases : List (List Line)) (after : Stage) : Type 0 where
  pub count : after.phases ≡ stage.phases + length phases
  pub position : after.position ≡ stage.position + frames_played phases
  pub gone : after.gone ≡ stage.gone || list_any unplugs phases

stays-card : (stage between after : Stage) (phases : List (List Line)) → HasCardOf stage between → IsCardAfter between phases after → IsCardAfter stage phases after
stays-card stage between after phases is rest = grind (arith, nat_tests)

items-card : (clients readers : ℕ) (session : Session) (stage after : Stage) (items : List Item) → All (IsItem clients readers) items
    → ItemsMay session stage items after → IsCardAfter stage (phases_of items) after
items-card clients readers session stage after [] all is =
    rw is (record { count = omega arith; position = omega arith; gone = sym (or-false stage.gone) })
items-card clients readers session stage after (item.Opens number who ∷ items) all (between, is, rest) =
    stays-card stage between after (phases_of items) (rw is (open-by session stage (HasCardOf stage) who (card-border session stage who)))
    (items-card clients readers session between after items (All-tail (IsItem clients readers) (item.Opens number who) items all) rest)
items-card clients readers session stage after (item.Closes number who ∷ items) all (between, is, rest) =
    stays-card stage between after (phases_of items) (rw is (close-by session stage (HasCardOf stage) who (card-border session stage who)))
    (items-card clients readers session between after items (All-tail (IsItem clients readers) (item.Closes number who) items all) rest)
items-card clients readers session stage after (item.Phase lines ∷ items) all (between, may, rest) =
    let others = items-card clients readers session between after items (All-tail (IsItem clients readers) (item.Phase lines) items all) rest in
    let phases : between.phases ≡ stage.phases + 1 = ap (λ (s : Stage). s.phases) may.is in
    let position : between.position ≡ stage.position + played_in lines = ap (λ (s : Stage). s.position) may.is in
    let gone : between.gone ≡ stage.gone || unplugs lines = ap (λ (s : Stage). s.gone) may.is in
    let alike = played_in-lines clients readers lines (All-head (IsItem clients readers) (item.Phase lines) items all).each in
    record {
      count = omega (arith, others.count, phases);
      position = omega (arith, others.position, position, alike, sum_by-cons script_words.played_in lines (phases_of items));
      gone = others.gone ∙ ap (λ (b : Bool). b || list_any unplugs (phases_of items)) gone ∙ or_assoc stage.gone (unplugs lines) (list_any unplugs (phases_of items));
    }

-- ---- the phases of the first items are the first phases

phases_of-append : (items others : List Item) → phases_of (items ++ others) ≡ phases_of items ++ phases_of others
phases_of-append [] others = refl
phases_of-append (item.Phase lines ∷ items) others = ap (λ (ps : List (List Line)). lines ∷ ps) (phases_of-append items others)
phases_of-append (item.Opens number who ∷ items) others = phases_of-append items others
phases_of-append (item.Closes number who ∷ items) others = phases_of-append items others

record IsCardOf (script : Script) (done others : List Item) (stage : Stage) : Type 0 where
  pub phases : stage.phases ≡ length (phases_of done)
  pub first : take stage.phases (phases_of script.body) ≡ phases_of done
  pub position : stage.position ≡ first_frame script.card + frames_played (phases_of done)
  pub gone : stage.gone ≡ list_any unplugs (phases_of done)
  pub body : phases_of script.body ≡ phases_of done ++ phases_of others

reached-card : (script : Script) (wavs : List Sound) (session : Session) (done others : List Item) (stage : Stage) → IsReached script wavs session done others stage
    → IsCardOf script done others stage
reached-card script wavs session done others stage is = record {
  phases = count;
  first = ap (λ (ps : List (List Line)). take stage.phases ps) split ∙ ap (λ (n : ℕ). take n (phases_of done ++ phases_of others)) count
      ∙ take-append_seam (phases_of done) (phases_of others);
  position = card.position ∙ ap (λ c. first_frame c + frames_played (phases_of done)) is.session_is.card;
  gone = card.gone;
  body = split;
}
  where
    card : IsCardAfter (first_stage session) (phases_of done) stage
    card = items-card (length script.clients) (length script.readers) session (first_stage session) stage done
        (subst (All (IsItem (length script.clients) (length script.readers))) (take-append_seam done others)
        (All-take (IsItem (length script.clients) (length script.readers)) (length done) (done ++ others)
        (subst (All (IsItem (length script.clients) (length script.readers))) is.body is.script_is.body))) is.may

    count : stage.phases ≡ length (phases_of done)
    count = omega (arith, card.count)

    split : phases_of script.body ≡ phases_of done ++ phases_of others
    split = ap phases_of is.body ∙ phases_of-append done others

-- each stage of a run of a script is where the script has it
pub stages-of_scripts : StagesAreOfScripts
stages-of_scripts script wavs session done others stage is = record {
  phases = card.phases;
  position = card.position ∙ ap (λ ps. first_frame script.card + frames_played ps) (sym card.first);
  gone = card.gone ∙ ap (λ ps. list_any unplugs ps) (sym card.first ∙ ap (λ n. take n (phases_of script.body)) (omega arith));
}
  where
    card : IsCardOf script done others stage
    card = reached-card script wavs session done others stage is

-- ---- what the card publishes

-- a member that passes a test is kept
filter-kept : (test : ℕ → Bool) (xs : List ℕ) (q : ℕ) → Contains xs q → test q ≡ true → Contains (filter test xs) q
filter-kept test xs q there kept =
    Contains-from_any (λ x y. eqb-true x y) q (filter test xs)
    (any-filter_same (nat_eq q) test true (λ p same. subst (λ (n : ℕ). test n ≡ true) (eqb-true q p same) kept) xs ∙ list_any-from_Contains nat_eq_equiv q xs there)

range-within : (from frames : ℕ) → All (λ q. (from ≤ q) × (q < from + frames)) (range_with_len from frames)
range-within from frames k d low =
    let inside : k < frames = omega (arith, low, length-range_with_len from frames) in
    let value : slice_index_or (range_with_len from frames) k d ≡ from + k = get_or-range_with_len from frames k d inside in
    (omega (arith, value), omega (arith, value, inside))

range-has : (from frames q : ℕ) → from ≤ q → q < from + frames → Contains (range_with_len from frames) q
range-has from frames q low high =
    let inside : q - from < frames = omega (arith, low, high) in
    let value : slice_index_or (range_with_len from frames) (q - from) q ≡ from + (q - from) = get_or-range_with_len from frames (q - from) q inside in
    (q - from, omega (arith, inside, length-range_with_len from frames), omega (arith, value, low))

-- a position on the way of lines that begin at a position: a multiple of the period, or the position after some of them
data IsOnTheWay (period from : ℕ) (lines : List Line) (q : ℕ) : Type 0 where
  multiple : (k : ℕ) → q ≡ k * period → from ≤ q → q < from + played_in lines → IsOnTheWay period from lines q
  behind : (n : ℕ) → n ≤ length lines → q ≡ from + played_in (take n lines) → IsOnTheWay period from lines q

-- after one line more
on-the_way-more : (period from : ℕ) (line : Line) (lines : List Line) (q : ℕ) → IsOnTheWay period (from + played_at line) lines q → IsOnTheWay period from (line ∷ lines) q
on-the_way-more period from line lines q (multiple k is low high) =
    multiple k is (omega (arith, low)) (omega (arith, high, sum_by-cons played_at line lines))
on-the_way-more period from line lines q (behind n few is) =
    behind (suc n) (omega (arith, few)) (omega (arith, is, sum_by-cons played_at line (take n lines)))

-- where a multiple of the period isn't past the lines, it is on their way
on-the_way-upto : (period from : ℕ) (lines : List Line) (q k : ℕ) → q ≡ k * period → from ≤ q → q ≤ from + played_in lines → IsOnTheWay period from lines q
on-the_way-upto period from lines q k is low high = elim (cases_eq q (from + played_in lines)) [
  | inl at_end ↦ behind (length lines) (omega arith) (at_end ∙ ap (λ (ls : List Line). from + played_in ls) (sym (take-length lines)))
  | inr before ↦ multiple k is low (omega (arith, high, before))
]

published-on_the_way : (period from : ℕ) (lines : List Line) → All (IsOnTheWay period from lines) (published_by period from lines)
published-on_the_way period from [] = All-nil (IsOnTheWay period from [])
published-on_the_way period from (line ∷ lines) =
    All-append way (on_the_way period from (played_at line)) (published_by period (from + played_at line) lines)
    (All-push way multiples (from + played_at line) kept (behind 1 (omega arith) (omega (arith, sum_by-cons played_at line []))))
    (All-weaker (IsOnTheWay period (from + played_at line) lines) way (on-the_way-more period from line lines) _ (published-on_the_way period (from + played_at line) lines))
  where
    way : ℕ → Type 0
    way = IsOnTheWay period from (line ∷ lines)

    multiples : List ℕ
    multiples = filter (λ p. p % period == 0) (range_with_len (from + 1) (played_at line))

    kept : All way multiples
    kept k d low =
        let q : ℕ = slice_index_or multiples k d in
        let range : (from + 1 ≤ q) × (q < from + 1 + played_at line) =
        All-filter (λ p. p % period == 0) (λ p. (from + 1 ≤ p) × (p < from + 1 + played_at line)) _ (range-within (from + 1) (played_at line)) k d low in
        let no_rest : q % period ≡ 0 = eqb-true _ _ (filter_passes (λ p. p % period == 0) (range_with_len (from + 1) (played_at line)) k d low) in
        on-the_way-upto period from (line ∷ lines) q (q / period) (omega (arith, div-add-mod' q period, no_rest)) (omega (arith, range.0))
        (omega (arith, range.1, sum_by-cons played_at line lines))

-- what lines publish from the second on
next-published : (period from : ℕ) (line : Line) (lines : List Line) (q : ℕ)
    → Contains (phase_positions period (from + played_at line) lines) q → Contains (phase_positions period from (line ∷ lines)) q
next-published period from line lines q there =
    Contains-append_right (from ∷ []) _ q (elim (Contains-append_cases ((from + played_at line) ∷ []) _ q there) [
      | inl here ↦ Contains-append_left (on_the_way period from (played_at line)) _ q (Contains-append_right _ ((from + played_at line) ∷ []) q here)
      | inr rest ↦ Contains-append_right (on_the_way period from (played_at line)) _ q rest
    ])

on_the_way-published : (period from : ℕ) (lines : List Line) (q : ℕ) → IsOnTheWay period from lines q → Contains (phase_positions period from lines) q
on_the_way-published period from lines q (behind zero few is) = (0, omega arith, omega (arith, is))
on_the_way-published period from [] q (behind (suc n) few is) = absurd (omega (arith, few))
on_the_way-published period from (line ∷ lines) q (behind (suc n) few is) =
    next-published period from line lines q
    (on_the_way-published period (from + played_at line) lines q (behind n (omega (arith, few)) (omega (arith, is, sum_by-cons played_at line (take n lines)))))
on_the_way-published period from [] q (multiple k is low high) = absurd (omega (arith, low, high))
on_the_way-published period from (line ∷ lines) q (multiple k is low high) =
    by_order (λ far more. on_the_way-published period (from + played_at line) lines q (multiple k is far more)) (cases_lt q (from + played_at line + 1)) (cases_eq from q)
  where
    by_order : (from + played_at line ≤ q → q < from + played_at line + played_in lines → Contains (phase_positions period (from + played_at line) lines) q)
        → (q < from + played_at line + 1) ⊎ (from + played_at line + 1 ≤ q) → (from ≡ q) ⊎ (from ≡ q → ⊥) → Contains (phase_positions period from (line ∷ lines)) q
    by_order more near (inl first) = (0, omega arith, first)
    by_order more (inl near) (inr later) =
        Contains-append_right (from ∷ []) _ q (Contains-append_left (on_the_way period from (played_at line)) _ q
        (Contains-append_left (filter (λ p. p % period == 0) (range_with_len (from + 1) (played_at line))) _ q
        (filter-kept (λ p. p % period == 0) _ q (range-has (from + 1) (played_at line) q (omega (arith, low, later)) (omega (arith, near)))
        (eq-eqb (q % period) 0 (ap (λ (n : ℕ). n % period) is ∙ mul-mod_left k period)))))
    by_order more (inr far) (inr later) = next-published period from line lines q
        (more (omega (arith, far)) (omega (arith, high, sum_by-cons played_at line lines)))

-- the card publishes the position at the end of each phase
pub last-published : (period from : ℕ) (lines : List Line) → Contains (phase_positions period from lines) (from + played_in lines)
last-published period from lines =
    on_the_way-published period from lines _ (behind (length lines) (omega arith) (ap (λ (ls : List Line). from + played_in ls) (sym (take-length lines))))

take-lines : (clients readers : ℕ) (lines : List Line) (n : ℕ) → All (IsLine clients readers) lines → played_in (take n lines) ≡ script_words.played_in (take n lines)
take-lines clients readers lines n all = played_in-lines clients readers (take n lines) (All-take (IsLine clients readers) n lines all)

-- each phase of a run of a script allows what the script has of it
pub phases-of_scripts : PhasesAreOfScripts
phases-of_scripts script wavs session done others lines stage is = record {
  lines_are = next;
  position = position;
  gone = (stages-of_scripts script wavs session done (item.Phase lines ∷ others) stage is).gone;
  published = λ q. All-contains (IsCardPosition script (stage.phases + 1)) (phase_positions session.card.period stage.position lines) q
      (All-cons (IsCardPosition script (stage.phases + 1)) stage.position _ (inl begins)
      (All-weaker (IsOnTheWay session.card.period stage.position lines) (IsCardPosition script (stage.phases + 1)) of_way _ (published-on_the_way session.card.period stage.position lines)));
  publishes = by_words;
}
  where
    card : IsCardOf script done (item.Phase lines ∷ others) stage
    card = reached-card script wavs session done (item.Phase lines ∷ others) stage is

    each : All (IsLine (length script.clients) (length script.readers)) lines
    each = (subst (IsItem (length script.clients) (length script.readers)) (get_or-append_seam done (item.Phase lines) others (item.Phase lines))
        (subst (All (IsItem (length script.clients) (length script.readers))) is.body is.script_is.body (length done) (item.Phase lines)
        (omega (arith, length-append done (item.Phase lines ∷ others))))).each

    at : stage.phases + 1 - 1 ≡ length (phases_of done)
    at = omega (arith, card.phases)

    next : phase_at script (stage.phases + 1) ≡ lines
    next = ap (λ ps. slice_index_or ps (stage.phases + 1 - 1) []) card.body
        ∙ ap (λ (n : ℕ). slice_index_or (phases_of done ++ lines ∷ phases_of others) n []) at
        ∙ get_or-append_seam (phases_of done) lines (phases_of others) []

    begins : stage.position ≡ position_after_phases script (stage.phases + 1 - 1)
    begins = (stages-of_scripts script wavs session done (item.Phase lines ∷ others) stage is).position ∙ ap (position_after_phases script) (omega arith)

    period : session.card.period ≡ script.card.period
    period = ap (λ c. c.period) is.session_is.card

    frames : frames_played (take (stage.phases + 1) (phases_of script.body)) ≡ frames_played (phases_of done) + script_words.played_in lines
    frames = ap (λ ps. frames_played (take (stage.phases + 1) ps)) card.body
        ∙ ap (λ (n : ℕ). frames_played (take (n + 1) (phases_of done ++ lines ∷ phases_of others))) card.phases
        ∙ ap frames_played (take-append-add (phases_of done) (lines ∷ phases_of others) 1)
        ∙ sum_by-append script_words.played_in (phases_of done) (lines ∷ []) ∙ omega (arith, sum_by-cons script_words.played_in lines [])

    position : stage.position + played_in lines ≡ position_after_phases script (stage.phases + 1)
    position = omega (arith, card.position, frames, played_in-lines (length script.clients) (length script.readers) lines each)

    of_way : (q : ℕ) → IsOnTheWay session.card.period stage.position lines q → IsCardPosition script (stage.phases + 1) q
    of_way q (multiple k same low high) =
        inr (inl (k, same ∙ ap (λ (n : ℕ). k * n) period, omega (arith, low, begins), omega (arith, high, position)))
    of_way q (behind n few same) =
        inr (inr (
          n,
          omega (arith, few, ap length next),
          omega (
            arith,
            same,
            begins,
            take-lines (length script.clients) (length script.readers) lines n each,
            ap (λ (ls : List Line). script_words.played_in (take n ls)) next,
          ),
        ))

    by_words : (q : ℕ) → IsCardPosition script (stage.phases + 1) q → Contains (phase_positions session.card.period stage.position lines) q
    by_words q (inl first) = (0, omega arith, begins ∙ sym first)
    by_words q (inr (inl (k, same, low, high))) = on_the_way-published session.card.period stage.position lines q
        (multiple k (same ∙ ap (λ (n : ℕ). k * n) (sym period)) (omega (arith, low, begins)) (omega (arith, high, position)))
    by_words q (inr (inr (n, few, same))) = on_the_way-published session.card.period stage.position lines q
        (behind n (omega (arith, few, ap length next)) (omega (
          arith,
          same,
          begins,
          take-lines (length script.clients) (length script.readers) lines n each,
          ap (λ (ls : List Line). script_words.played_in (take n ls)) next,
        )))
