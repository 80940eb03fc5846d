-- A run that the script settles is the only one, and each actor does in it what it does by itself.
use Rattle.run_laws.specs.Prelude.{arith, List, Option, subst, sym, ℕ, ◌∙◌, ◌≡◌, nat_tests, Bool, Sound, Actor, Item, Report, Script, IsOneRun, lab_text}
use Rattle.run_laws.specs.Prelude.{LabRun, Outcome, IsSessionOf, AreAlone, client_alone, client_part, HaveLines, IsClientAlone, IsReaderAlone, AreUnmixed}
use Rattle.run_laws.specs.Prelude.{is_client, is_reader, Session}
use Rattle.run_laws.specs.Exact.{DoesTheSame, HasSameClient, IsExactRun, IsOwnRun, IsUnstoppedRun}
use Rattle.run_laws.proofs.RowStages.{client_openings-size, reader_openings-size}

unstopped-is : (session : Session) (capture : Option Sound) (body : List Item) (outcome : Outcome) → IsOneRun session capture body → AreUnmixed body
    → IsUnstoppedRun session capture body outcome → outcome ≡ lab_text session capture body
unstopped-is session capture body outcome one unmixed run =
    let clients : run.client_stops ≡ (λ (n : ℕ). 0) = λ k n. run.clients n k in
    let readers : run.reader_stops ≡ (λ (n : ℕ). 0) = λ k n. run.readers n k in
    let first : LabRun session capture body (λ n. 0) run.reader_stops outcome =
    subst (λ (stops : ℕ → ℕ). LabRun session capture body stops run.reader_stops outcome) clients run.run in
    one.only unmixed outcome (subst (λ (stops : ℕ → ℕ). LabRun session capture body (λ n. 0) stops outcome) readers first)

pub unstopped-exact : (session : Session) (capture : Option Sound) (body : List Item) (outcome : Outcome) → IsOneRun session capture body
    → IsUnstoppedRun session capture body outcome → IsExactRun session capture body outcome
unstopped-exact session capture body outcome one run = record {
  is = λ unmixed. unstopped-is session capture body outcome one unmixed run;
  only = λ unmixed other its.
      unstopped-is session capture body other one unmixed its ∙ sym (unstopped-is session capture body outcome one unmixed run);
}

-- ---- each actor by itself

pub unstopped-own : (script : Script) (wavs : List Sound) (session : Session) (capture : Option Sound) (outcome : Outcome)
    → ((is_theirs : Actor → Bool) → HaveLines is_theirs script.body) → IsSessionOf script wavs session
    → IsOneRun session capture script.body → AreAlone session capture script.body
    → IsUnstoppedRun session capture script.body outcome → IsOwnRun script session outcome
unstopped-own script wavs session capture outcome lines is one alone run = record {
  clients = λ unmixed number low.
      subst (λ (o : Outcome). IsClientAlone session script.body o.report number) (sym (unstopped-is session capture script.body outcome one unmixed run))
      (alone.clients number (omega (arith, low, client_openings-size script.card script.clients wavs session.clients is.clients)) (lines (is_client number)));
  readers = λ unmixed number low.
      subst (λ (o : Outcome). IsReaderAlone session script.body o.report number) (sym (unstopped-is session capture script.body outcome one unmixed run))
      (alone.readers number (omega (arith, low, reader_openings-size script.card script.readers session.readers is.readers)) (lines (is_reader number)));
}

-- a client's part is settled by what is its own
part-same : (session : Session) (body : List Item) (other : Session) (other_body : List Item) (number : ℕ) → HasSameClient session body other other_body number
    → client_part session body number ≡ client_part other other_body number
part-same session body other other_body number same =
    λ k. client_alone (same.ring k) number (same.setup k) (same.file k) (same.first k) (same.items k)

pub alone-same : (session : Session) (body : List Item) (report : Report) (other : Session) (other_body : List Item) (other_report : Report) (number : ℕ)
    → HasSameClient session body other other_body number → IsClientAlone session body report number → IsClientAlone other other_body other_report number
    → DoesTheSame report other_report number
alone-same session body report other other_body other_report number same one two answers = grind (arith, nat_tests)
