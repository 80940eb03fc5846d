use Rattle.lab_phase.specs.Prelude.{refl, rules, ◌+◌, ◌≡◌, Some, Lab, PhaseInput, OnErr-both, OnOk-more, asks_of, HaveSameAsks, IsSameLab, PlaysAlone}
use Rattle.lab_phase.specs.Prelude.{RunsPhase, Stops, AreSameButRoom-card, IsSameButRoom}
use Rattle.lab_phase.proofs.AloneStages.{RunsPhase-alone}
use Rattle.lab_phase.proofs.PhaseStages.{fits-phase, no-rows, phases-few}
use Rattle.lab_phase.proofs.lab.Lab.run_card.Goals as goal

pub overflow_add-asked : goal.overflow_add-asked
overflow_add-asked c =
    let few = phases-few c.args.self.now c.requires.at.stage c.args.lines.now c.requires.at.at c.requires.next c.runs_are_of_scripts.ensures.stages in search (few, rules)

pub play_alone-requires-clause-none : goal.play_alone-requires-clause-none
play_alone-requires-clause-none c =
    let lab : Lab = c.args.self.now in
    let asked : PhaseInput = record { wavs = lab.wavs; capture = lab.capture; phase = lab.phases + 1; lines = c.args.lines } in
    no-rows lab c.requires.at.stage asked c.requires.at.at c.requires.next c.in-Some.card c.in-Some.is c.runs_are_of_scripts.ensures.phases

pub play_alone-requires-clause-fits : goal.play_alone-requires-clause-fits
play_alone-requires-clause-fits c =
    let lab : Lab = c.args.self.now in
    let asked : PhaseInput = record { wavs = lab.wavs; capture = lab.capture; phase = lab.phases + 1; lines = c.args.lines } in
    fits-phase lab c.requires.at.stage asked c.requires.at.at c.requires.next c.in-Some.card c.in-Some.is c.runs_are_of_scripts.ensures.phases

pub returns-clause-kept : goal.returns-clause-kept
returns-clause-kept c =
    let lab : Lab = c.args.self.now in
    let after : Lab = record lab { card = Some c.play_alone.new.card; rows = c.play_alone.new.rows } in
    OnErr-both (IsSameButRoom c.in-Some.card c.play_alone.new.card) (after.rows.items ≡ lab.rows.items) (IsSameLab lab after) c.play_alone.result
    (λ same rows. record {
      same = record { script = refl; wavs = refl; capture = refl; openings = refl };
      rows = rows;
      room = λ count readers has. has;
      phases = refl;
      next = refl;
      card = c.in-Some.card;
      card_after = c.play_alone.new.card;
      card_is = c.in-Some.is;
      card_then = refl;
      actors = AreSameButRoom-card c.in-Some.card c.play_alone.new.card lab.clients lab.readers same;
    })
    c.play_alone.ensures.kept c.play_alone.ensures.rows

pub returns-clause-runs : goal.returns-clause-runs
returns-clause-runs c =
    let lab : Lab = c.args.self.now in
    let asked : PhaseInput = record { wavs = lab.wavs; capture = lab.capture; phase = lab.phases + 1; lines = c.args.lines } in
    let after : Lab = record lab { card = Some c.play_alone.new.card; rows = c.play_alone.new.rows } in
    OnOk-more (PlaysAlone (asks_of asked) lab.rows.items c.play_alone.new.rows.items c.in-Some.card c.play_alone.new.card)
    ((stops : Stops) → RunsPhase HaveSameAsks stops stops lab c.args.lines.now after) c.play_alone.result
    (λ plays. RunsPhase-alone lab after c.args.lines.now c.requires.next c.requires.alone c.in-Some.card c.play_alone.new.card c.in-Some.is refl refl refl plays
    (record { script = refl; wavs = refl; capture = refl; openings = refl }) refl refl refl)
    c.play_alone.ensures.plays
