-- What a lab leaves at the end of its script.
use Rattle.lab_phase.specs.Prelude.{ap, arith, subst, sym, ◌∙◌, ◌≡◌, nat_tests, append-nil, length-append, IsSomeAnd, length, List, Option, Some, ℕ, ℤ, [], ◌*◌}
use Rattle.lab_phase.specs.Prelude.{◌++◌, ◌-◌, ◌∷◌, Geometry, AreExact, AreInOrder, Sound, Item, CardLine, first_frame, held_of, ItemsMay, all_runs}
use Rattle.lab_phase.specs.Prelude.{all_segments, mix_of, outcome_of, recorded_from, first_stage, Session, Stage, CardActor, frames_since_first}
use Rattle.lab_phase.specs.Prelude.{geometry_of_card, Lab, capture_of, IsAtStage, IsCardOf, played_by, session_of, first_word, HasPlayedMix, HaveAllPlaces}
use Rattle.lab_phase.specs.Prelude.{IsAtEnd, IsMixBy, IsMixOf}
use Rattle.mix_core.specs.declared.event.Taken.{Taken}
use Rattle.lab_lines.specs.declared.report.Report.{Report}
use Rattle.lab_phase.specs.Places.{place_count-reached}
use Rattle.lab_phase.specs.Played.{played-mix_of}
use Rattle.snd_base.specs.Places as rings
use Rattle.lab_run.specs.LabRun as runs

abbrev outcome_with : Report → List ℤ → List (List ℤ) → runs.Outcome
outcome_with report played recorded = record { report = report; played = played; recorded = recorded }

-- the parts of what a run leaves
pub outcome-parts : (session : Session) (capture : Option Sound) (stage : Stage) (report : Report) (played : List ℤ) (recorded : List (List ℤ)) → report.rows ≡ stage.rows
    → report.segments ≡ all_segments stage.clients → report.runs ≡ all_runs stage.readers → report.first ≡ first_frame session.card
    → report.frames ≡ stage.position - first_frame session.card → played ≡ mix_of session (all_segments stage.clients) (stage.position - first_frame session.card)
    → recorded ≡ recorded_from session capture 0 stage.readers
    → outcome_with report played recorded ≡ outcome_of session capture stage
outcome-parts session capture stage report played recorded rows segments all first frames mix records = grind (arith, nat_tests)

-- a list of which a part has its length is that part
append-whole : {X : Type 0} (xs ys : List X) → length xs ≡ length (xs ++ ys) → xs ≡ xs ++ ys
append-whole xs [] same = sym (append-nil xs)
append-whole xs (y ∷ ys) same = let sum = length-append xs (y ∷ ys) in absurd (omega (arith, same, sum))

module _ (lab : Lab) (stage : Stage) (at : IsAtStage lab stage) where
  -- all items of its script are done
  pub may-end : IsAtEnd lab → ItemsMay (session_of lab) (first_stage (session_of lab)) lab.script.now.body stage
  may-end end =
      let has = at.has_done in
      let len : length has.done ≡ length (has.done ++ has.others) = sym has.next ∙ (end ∙ ap length has.reached.body) in
      subst (λ (items : List Item). ItemsMay (session_of lab) (first_stage (session_of lab)) items stage) (append-whole has.done has.others len ∙ sym has.reached.body) has.reached.may

-- its card at that stage
module _ (lab : Lab) (stage : Stage) (at : IsAtStage lab stage) (a : CardActor) (is : lab.card ≡ Some a) where
  abbrev session : Session
  session = session_of lab

  own-card : IsCardOf session (capture_of lab) stage lab.clients lab.readers a
  own-card = subst (λ (card : Option CardActor). IsSomeAnd card (IsCardOf session (capture_of lab) stage lab.clients lab.readers)) is at.actors.card_is

  pub HaveAllPlaces-at : HaveAllPlaces lab.clients
  HaveAllPlaces-at = record {
    session = session;
    held = held_of stage;
    xs = stage.clients;
    are = at.actors.clients_are;
    all = place_count-reached session stage at.has_done.done at.has_done.reached.may ∙ sym own-card.all_places;
  }

  first-at : rings.first_frame (geometry_of_card a.card) ≡ first_frame session.card
  first-at = ap rings.first_frame own-card.is.at.ring ∙ sym at.actors.readers_are.card.first

  frames-at : frames_since_first a.card ≡ stage.position - first_frame session.card
  frames-at = ap (λ (n : ℕ). n - rings.first_frame (geometry_of_card a.card)) own-card.is.at.frame ∙ ap (λ (n : ℕ). stage.position - n) first-at

  channels-at : (geometry_of_card a.card).channels ≡ session.card.channels
  channels-at = ap (λ (g : Geometry). g.channels) own-card.is.at.ring
      ∙ (at.has_done.reached.session_is.ring.channels ∙ ap (λ (card : CardLine). card.channels) (sym at.has_done.reached.session_is.card))

  pub mixed-at : IsMixOf session stage.clients a.card → a.played.items ≡ mix_of session (all_segments stage.clients) (stage.position - first_frame session.card)
  mixed-at mix =
      let g : Geometry = geometry_of_card a.card in
      played-mix_of session (all_segments stage.clients) g (first_word g) a.played.items mix.laid (stage.position - first_frame session.card) channels-at first-at
      (subst (λ (words : List Taken). AreInOrder g words) own-card.is.plays.taken mix.in_order)
      (subst (λ (words : List Taken). AreExact mix.laid words) own-card.is.plays.taken mix.values) mix.placed.totals
      (own-card.is.plays.len ∙ (ap (λ (n : ℕ). n * g.channels) frames-at ∙ ap (λ (n : ℕ). (stage.position - first_frame session.card) * n) channels-at))

  -- what it leaves is what a run leaves that ends at its stage
  pub outcome-at : (report : Report) (recorded : List (List ℤ)) → report.rows ≡ lab.rows.items → report.segments ≡ all_segments stage.clients
      → report.runs ≡ all_runs stage.readers → report.first ≡ rings.first_frame (geometry_of_card a.card) → report.frames ≡ frames_since_first a.card
      → IsMixOf session stage.clients a.card → recorded ≡ recorded_from session (capture_of lab) 0 stage.readers
      → outcome_with report a.played.items recorded ≡ outcome_of session (capture_of lab) stage
  outcome-at report recorded rows segments all first frames mix records =
      outcome-parts session (capture_of lab) stage report a.played.items recorded (rows ∙ at.rows) segments all (first ∙ first-at) (frames ∙ frames-at) (mixed-at mix) records

-- once its rings are closed, it is known what its card played
pub played-mixed : (lab : Lab) (a : CardActor) → lab.card ≡ Some a → IsMixBy lab.clients a.card → HasPlayedMix lab
played-mixed lab a is mix stage at =
    ap played_by is ∙ mixed-at lab stage at a is (mix (session_of lab) (held_of stage) stage.clients at.actors.clients_are)
