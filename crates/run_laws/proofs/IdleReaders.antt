-- A reader that couldn't be opened has no frames.
use Rattle.run_laws.specs.Prelude.{ap, arith, List, None, Option, refl, Some, subst, sym, ℕ, [], ◌∙◌, ◌≡◌, get_or-map, nat_tests, map, slice_index_or}
use Rattle.run_laws.specs.Prelude.{slice_set, Sound, Item, Op, Answer, LabRun, Outcome, runs_of, with_numbers, LineMay, runs_by, Reader, reader_kind, AtPort}
use Rattle.run_laws.specs.Prelude.{Rules, first_stage, no_reader, reader_at, Session, UnopenedHaveNoRuns}
use Rattle.run_laws.proofs.HeldReaders.{IsLastingOfReaders, read_at, readers-held}
use Rattle.run_laws.proofs.Numbered.{numbered-at}
use Rattle.run_laws.proofs.OwnReaders.{runs-members}
use Rattle.run_laws.proofs.Stages.{set-fact}

abbrev IsIdle : Reader → Type 0
IsIdle reader = (reader.own ≡ None) × (reader.frames ≡ [])

module _ (session : Session) where
  -- the reader of a number, where it has no setup
  abbrev Unopened : ℕ → AtPort × Reader → Type 0
  Unopened n x = slice_index_or session.readers n None ≡ None → IsIdle x.1

  abbrev AreUnopened : List (AtPort × Reader) → Type 0
  AreUnopened readers = (n : ℕ) → Unopened n (read_at session readers n)

  set-unopened : (readers : List (AtPort × Reader)) (n : ℕ) (y : AtPort × Reader) → Unopened n y → AreUnopened readers → AreUnopened (slice_set readers n y)
  set-unopened readers n y new are = set-fact (no_reader session.ring) Unopened readers n y new (λ m not. are m)

  line-unopened : (rules : Rules) (phase n : ℕ) (x y : AtPort × Reader) (asked : Op) (answer : Answer) → LineMay (reader_kind phase n) rules x asked y answer
      → Unopened n x → Unopened n y
  line-unopened rules phase n x y asked answer may is none = grind (arith, nat_tests)

  unopened-held : IsLastingOfReaders session AreUnopened
  unopened-held = record {
    line = λ rules phase readers n y asked answer within may are. set-unopened readers n y (line-unopened rules phase n (read_at session readers n) y asked answer may (are n)) are;
    opens = λ readers n setup is are. set-unopened readers n _ (λ none. let both : Some setup ≡ None = sym is ∙ none in absurd (cc)) are;
    ends = λ readers n are. set-unopened readers n _ (λ none. (refl, (are n none).1)) are;
  }

  first-unopened : (n : ℕ) → IsIdle (read_at session (map (λ setup. no_reader session.ring) session.readers) n).1
  first-unopened n = subst (λ (x : AtPort × Reader). IsIdle x.1) (sym (get_or-map (λ setup. no_reader session.ring) session.readers n None)) (refl, refl)

pub LabRun-unopened : (session : Session) (capture : Option Sound) (body : List Item) (client_stops reader_stops : ℕ → ℕ) (outcome : Outcome)
    → LabRun session capture body client_stops reader_stops outcome → UnopenedHaveNoRuns session outcome.report
LabRun-unopened session capture body client_stops reader_stops outcome run number none =
    subst (λ (o : Outcome). runs_by number o.report.runs ≡ []) (sym run.is) (
    runs-members number (with_numbers (λ (reader : AtPort × Reader). runs_of reader.1.frames) 0 run.end.readers)
    ∙ numbered-at (λ (reader : AtPort × Reader). runs_of reader.1.frames) (no_reader session.ring) number 0 number run.end.readers (omega arith) refl
    ∙ ap runs_of idle.1
    )
  where
    idle : IsIdle (reader_at session run.end number).1
    idle = readers-held session (AreUnopened session) (unopened-held session) (first_stage session) run.end body run.may
        (λ n setup. first-unopened session n) number none
