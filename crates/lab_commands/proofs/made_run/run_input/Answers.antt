use Rattle.lab_commands.specs.Prelude.{ap, List, rules, subst, sym, ℕ, [], ◌∙◌, ◌≡◌, err_from_is_err_and, Err, Some, outcome_in, Stops, stops_by, RunInput}
use Rattle.lab_commands.specs.Prelude.{input_of, HasPlayedAsking, HasPlayedPart, rises, output_name}
use Rattle.lab_stop.specs.declared.stop.Stop.TheVariants as stops
use Rattle.lab_commands.proofs.made_run.run_input.Goals as goal

pub returns-in_err-outcome : goal.returns-in_err-outcome
returns-in_err-outcome g c =
    let p = err_from_is_err_and c.from_residual.result c.from_residual.ensures.1 in
    let input : RunInput = input_of c.args.input.now in
    let gates : Stops = rises (stops_by g.G.Gate.stops c.args.gates.now) (stops_by g.G.Gate.stops c.play.new.gates) in
    record {
      done = search rules;
      part = rw p.1 (
        c.play.new.out,
        subst (λ (text : List ℕ). HasPlayedPart input output_name gates (g.S.Shelf.files c.args.shelf.now) (g.S.Shelf.files c.play.new.shelf) (Some text) (Some c.play.new.out)) c.new-text.ensures
            c.in_err-outcome.ensures.part,
      );
      only = rw (p.1, p.2) c.in_err-outcome.ensures.stores_and_puts.only;
      fetch_faults = c.in_err-outcome.ensures.stores_and_puts.fetch_faults;
      faults = rw (p.1, p.2) c.in_err-outcome.ensures.stores_and_puts.faults;
      reliable = c.in_err-outcome.ensures.stores_and_puts.reliable;
      never = λ shelf known failed.
          let stopped : p.0 ≡ stops.Write = cc in
          c.play.ensures.never shelf tt known (c.in_err-outcome.was ∙ ap Err (sym p.2 ∙ stopped));
    }

pub returns : goal.returns
returns g c =
    let input : RunInput = input_of c.args.input.now in
    let stops : Stops = rises (stops_by g.G.Gate.stops c.args.gates.now) (stops_by g.G.Gate.stops c.play.new.gates) in
    let played : List ℕ → List ℕ → Type 0 = λ text text_now. HasPlayedAsking g.G.Gate.asked c.args.gates.now c.play.new.gates input output_name stops
    (outcome_in c.in_ok-outcome.outcome) (g.S.Shelf.files c.args.shelf.now)
    (g.S.Shelf.files c.play.new.shelf) (Some text) (Some text_now) in
    record {
      done = subst (λ (text : List ℕ). played [] text) (sym c.into_bytes.ensures)
          (subst (λ (text : List ℕ). played text c.play.new.out) c.new-text.ensures c.in_ok-outcome.ensures.done);
      part = search rules;
      only = search rules;
      fetch_faults = c.in_ok-outcome.ensures.stores_and_puts.fetch_faults;
      faults = c.in_ok-outcome.ensures.stores_and_puts.faults;
      reliable = c.in_ok-outcome.ensures.stores_and_puts.reliable;
      never = search rules;
    }
