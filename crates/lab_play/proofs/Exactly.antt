-- A run that stopped, of a script without a mixed phase, whose gates stopped nobody, is on the way to the script's one run.
use Rattle.lab_play.specs.Prelude.{ap, append_assoc, arith, refl, subst, sym, ◌∙◌, ◌≤◌, append-nil, flat_map-append, flat_map, List, Option, ℕ, ℤ, [], ◌++◌}
use Rattle.lab_play.specs.Prelude.{◌+◌, ◌∷◌, ◌≡◌, Sound, TookPart-first, Files, TookPart, Item, Report, Row, Script, IsScript, report_text, row_line, tail_text}
use Rattle.lab_play.specs.Prelude.{items_text, ItemsMay, AreWithin, CanGoOn, IsOneRun, lab_text, Outcome, outcome_of, recorded_from, report_of, IsSessionOf}
use Rattle.lab_play.specs.Prelude.{Reader, AtPort, first_stage, Session, Stage, Stops, AreGrown, StagesGrow, AreBound, RunInput, AreLonger, head_text}
use Rattle.lab_play.specs.Prelude.{text_so_far, sounds_of, HasStopped, text_at, HaveNoStops}
use Rattle.lab_run.specs.Phases.{AreUnmixed}
use Rattle.lab_run.proofs.EachLaws.{StopsGrow}
use Rattle.lab_run.proofs.RunUnique.{items-grow}
use Rattle.run_laws.specs.Played.{PlayedStays}
use Rattle.lab_play.specs.Exact.{HasStoppedRun, IsFirstPartOf}
use Rattle.lab_play.proofs.ItemsDone.{AreLonger-grown, IsPartOf-longer}

-- what the laws say of runs
pub record StopLaws : Type 0 where
  pub one : (session : Session) (capture : Option Sound) (body : List Item) → IsOneRun session capture body
  pub on : (session : Session) (done others : List Item) (stage : Stage) → ItemsMay session (first_stage session) done stage → CanGoOn session done others stage
  pub grow : StagesGrow
  pub bound : (script : Script) (wavs : List Sound) (session : Session) → IsScript script → IsSessionOf script wavs session → AreBound session
  pub stays : (session : Session) (done others : List Item) (stage later : Stage) → AreBound session → ItemsMay session (first_stage session) done stage
      → ItemsMay session stage others later → PlayedStays session stage later

-- ---- first items, and others

unmixed-first : (done others : List Item) → AreUnmixed (done ++ others) → AreUnmixed done
unmixed-first [] others are = tt
unmixed-first (one ∷ done) others are = (are.0, unmixed-first done others are.1)

-- a stage between them
record IsBetween (session : Session) (first : Stage) (done others : List Item) (end : Stage) : Type 0 where
  stage : Stage
  before : ItemsMay session first done stage
  after : ItemsMay session stage others end

between : (session : Session) (first : Stage) (done others : List Item) (end : Stage) → ItemsMay session first (done ++ others) end → IsBetween session first done others end
between session first [] others end may = record { stage = first; before = refl; after = may }
between session first (one ∷ done) others end (next, may, rest) =
    let there = between session next done others end rest in record { stage = there.stage; before = (next, may, there.before); after = there.after }

-- actors that were stopped no more often later were stopped no more often before
within-before : {S : Type 0} (most : ℕ → ℕ) (number : ℕ) (actors after : List (AtPort × S)) → StopsGrow actors after → AreWithin most number after → AreWithin most number actors
within-before most number [] after grows within = tt
within-before most number (x ∷ actors) [] grows within = absurd grows
within-before most number (x ∷ actors) (y ∷ after) grows within =
    (through x.0.by_gate y.0.by_gate (most number) grows.0 within.0, within-before most (number + 1) actors after grows.1 within.1)
  where
    through : (a b c : ℕ) → a ≤ b → b ≤ c → a ≤ c
    through a b c one two = omega (arith, one, two)

-- readers that read on
grown-same : (readers : List (AtPort × Reader)) → AreGrown readers readers
grown-same [] = tt
grown-same (x ∷ readers) = (([], sym (append-nil x.1.frames)), grown-same readers)

grown-then : (xs ys zs : List (AtPort × Reader)) → AreGrown xs ys → AreGrown ys zs → AreGrown xs zs
grown-then [] [] [] one two = tt
grown-then [] [] (z ∷ zs) one two = absurd two
grown-then [] (y ∷ ys) zs one two = absurd one
grown-then (x ∷ xs) [] zs one two = absurd one
grown-then (x ∷ xs) (y ∷ ys) [] one two = absurd two
grown-then (x ∷ xs) (y ∷ ys) (z ∷ zs) ((more, is), others) ((again, is_then), rest) =
    ((more ++ again, is_then ∙ (ap (λ (frames : List ℕ). frames ++ again) is ∙ append_assoc x.1.frames more again)), grown-then xs ys zs others rest)

grown-items : StagesGrow → (session : Session) (stage end : Stage) (items : List Item) → ItemsMay session stage items end → AreGrown stage.readers end.readers
grown-items grow session stage end [] is = subst (λ (s : Stage). AreGrown stage.readers s.readers) (sym is) (grown-same stage.readers)
grown-items grow session stage end (one ∷ items) (next, may, rest) =
    grown-then stage.readers next.readers end.readers (grow session stage next one may).readers (grown-items grow session next end items rest)

-- ---- the text

text-part : (script : Script) (rows more : List Row) (report : Report) (taken now : Option (List ℕ)) → report.rows ≡ rows ++ more
    → TookPart taken now (text_so_far script rows) → TookPart taken now (report_text script report)
text-part script rows more report taken now are part =
    let first : List ℕ = flat_map (row_line script) rows in
    let later : List ℕ = flat_map (row_line script) more in
    let end : List ℕ = tail_text script report in
    let joined : (head_text ++ first) ++ (later ++ end) ≡ head_text ++ (first ++ later) ++ end = simp append_assoc in
    let all : first ++ later ≡ flat_map (row_line script) report.rows =
    sym (flat_map-append (row_line script) rows more) ∙ ap (flat_map (row_line script)) (sym are) in
    subst (λ (text : List ℕ). TookPart taken now text) (joined ∙ ap (λ (lines : List ℕ). head_text ++ lines ++ end) all)
    (TookPart-first taken now (text_so_far script rows) (later ++ end) part)

text-at : (script : Script) (session : Session) (others : List Item) (stage : Stage) (more : List Row) (report : Report) (taken now : Option (List ℕ))
    → report.rows ≡ stage.rows ++ more → (others ≡ [] → report_of session stage ≡ report) → TookPart taken now (text_at script session others stage)
    → TookPart taken now (report_text script report)
text-at script session [] stage more report taken now are last part = subst (λ (r : Report). TookPart taken now (report_text script r)) (last refl) part
text-at script session (one ∷ others) stage more report taken now are last part = text-part script stage.rows more report taken now are part

-- ---- a run that stopped

module _ (laws : StopLaws) (input : RunInput) (out : List ℕ) (stops : Stops) (before after : Option Files) (taken taken_after : Option (List ℕ))
    (stopped : HasStopped input out stops before after taken taken_after) (none : HaveNoStops stops) (unmixed : AreUnmixed input.script.body) where
  abbrev session : Session
  session = stopped.session

  abbrev stage : Stage
  stage = stopped.stage

  abbrev done : List Item
  done = stopped.done

  abbrev others : List Item
  others = stopped.others

  abbrev last : Stage
  last = items_text session stage others

  abbrev text : Outcome
  text = lab_text session input.capture input.script.body

  all-unmixed : AreUnmixed (done ++ others)
  all-unmixed = subst AreUnmixed stopped.reached.body unmixed

  no-clients : AreWithin (λ n. 0) 0 stage.clients
  no-clients = let none_at : stops.clients ≡ (λ (n : ℕ). 0) = λ k n. none.clients n k in
      subst (λ (most : ℕ → ℕ). AreWithin most 0 stage.clients) none_at stopped.within.clients

  no-readers : AreWithin (λ n. 0) 0 stage.readers
  no-readers = let none_at : stops.readers ≡ (λ (n : ℕ). 0) = λ k n. none.readers n k in
      subst (λ (most : ℕ → ℕ). AreWithin most 0 stage.readers) none_at stopped.within.readers

  goes : CanGoOn session done others stage
  goes = laws.on session done others stage stopped.reached.may

  -- with the items that are left it comes to the one outcome
  whole : outcome_of session input.capture last ≡ text
  whole = (laws.one session input.capture (done ++ others)).only all-unmixed (outcome_of session input.capture last)
      (record { end = last; may = goes.may; clients = goes.clients (λ n. 0) no-clients; readers = goes.readers (λ n. 0) no-readers; is = refl })
      ∙ ap (lab_text session input.capture) (sym stopped.reached.body)

  -- what the items that are done come to is settled too
  settled : (other : Stage) → ItemsMay session (first_stage session) done other → AreWithin (λ n. 0) 0 other.clients → AreWithin (λ n. 0) 0 other.readers
      → outcome_of session input.capture other ≡ lab_text session input.capture done
  settled other may clients readers = (laws.one session input.capture done).only (unmixed-first done others all-unmixed) (outcome_of session input.capture other)
      (record { end = other; may = may; clients = clients; readers = readers; is = refl })

  mid : IsBetween session (first_stage session) done others last
  mid = between session (first_stage session) done others last goes.may

  same-mid : outcome_of session input.capture mid.stage ≡ outcome_of session input.capture stage
  same-mid =
      let grows = items-grow session mid.stage last others mid.after in
      settled mid.stage mid.before (within-before (λ n. 0) 0 mid.stage.clients last.clients grows.clients (goes.clients (λ n. 0) no-clients))
      (within-before (λ n. 0) 0 mid.stage.readers last.readers grows.readers (goes.readers (λ n. 0) no-readers))
      ∙ sym (settled stage stopped.reached.may no-clients no-readers)

  longer : AreLonger (sounds_of (outcome_of session input.capture mid.stage)) (sounds_of (outcome_of session input.capture last))
  longer =
      let bound = laws.bound input.script input.sounds session stopped.reached.script_is stopped.session_is in
      let stays = laws.stays session done others mid.stage last bound mid.before mid.after in (
        IsPartOf-longer (outcome_of session input.capture mid.stage).played stays.0 (outcome_of session input.capture last).played stays.1,
        AreLonger-grown session input.capture 0 mid.stage.readers last.readers (grown-items laws.grow session mid.stage last others mid.after),
      )

  so-far : sounds_of (outcome_of session input.capture stage) ≡ stopped.played ∷ recorded_from session input.capture 0 stage.readers
  so-far = ap (λ (xs : List ℤ). xs ∷ recorded_from session input.capture 0 stage.readers) (sym stopped.mix)

  at-last : others ≡ [] → outcome_of session input.capture stage ≡ text
  at-last is = settled stage stopped.reached.may no-clients no-readers
      ∙ ap (lab_text session input.capture) (sym (append-nil done) ∙ (ap (λ (items : List Item). done ++ items) (sym is) ∙ sym stopped.reached.body))

  rows-are : text.report.rows ≡ stage.rows ++ goes.more
  rows-are = ap (λ (o : Outcome). o.report.rows) (sym whole) ∙ goes.rows

  pub stopped-part : IsFirstPartOf input.script others (stopped.played ∷ recorded_from session input.capture 0 stage.readers) stage.rows text taken taken_after
  stopped-part = record {
    samples = subst (λ (sounds : List (List ℤ)). AreLonger sounds (sounds_of text)) so-far
        (subst (λ (o : Outcome). AreLonger (sounds_of o) (sounds_of text)) same-mid
        (subst (λ (o : Outcome). AreLonger (sounds_of (outcome_of session input.capture mid.stage)) (sounds_of o)) whole longer));
    more = goes.more;
    rows_are = rows-are;
    all = λ is. (sym so-far ∙ ap sounds_of (at-last is), ap (λ (o : Outcome). o.report.rows) (at-last is));
    text = text-at input.script session others stage goes.more text.report taken taken_after rows-are (λ is. ap (λ (o : Outcome). o.report) (at-last is)) stopped.text;
  }

pub HasStoppedRun-stopped : (laws : StopLaws) (input : RunInput) (out : List ℕ) (stops : Stops) (before after : Option Files) (taken taken_after : Option (List ℕ))
    → HasStopped input out stops before after taken taken_after → HasStoppedRun input out stops before after taken taken_after
HasStoppedRun-stopped laws input out stops before after taken taken_after stopped = record {
  stopped = stopped;
  exact = λ none unmixed. stopped-part laws input out stops before after taken taken_after stopped none unmixed;
}
