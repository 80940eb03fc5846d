use Rattle.lab_play.specs.Prelude.{ap, arith, rules, subst, sym, ◌<◌, ◌∙◌, ◌≢◌, ◌≤◌, Err, length, List, slice_index_or, ℤ, Changes, CountsNoFault-then}
use Rattle.lab_play.specs.Prelude.{CountsNoFault-writes, OnlyWrites-after, OnlyWrites-done, OnlyWrites-passed, MayHold, AreLonger-same, IsGoingOn-Changes}
use Rattle.lab_play.specs.Prelude.{sounds_at}
use Rattle.lab_play.proofs.Writing.{all-going, appended-changes, appended-going, caught_up, caught_up-few, few-at, sounds-length}
use Rattle.lab_stop.specs.declared.stop.Stop.TheVariants as stops
use Rattle.lab_play.proofs.write.append_all.Goals as goal

pub samples_of-requires-clause-number : goal.samples_of-requires-clause-number
samples_of-requires-clause-number g c =
    let len = sounds-length c.args.lab.now c.requires.stage c.requires.at in
    let within = c.loop-number-test.true in
    let end = c.len-number-end.ensures in
    let number = c.requires.number in
    omega (arith, len, within, end, number)

pub append-requires-clause-more : goal.append-requires-clause-more
append-requires-clause-more g c =
    let targets : List (List ℤ) = sounds_at c.args.lab.now c.requires.stage in
    subst (λ (s : List ℤ). slice_index_or c.loop-number.outputs.samples.items c.loop-number.number 0 ≤ length s) (sym (c.samples_of.ensures c.requires.stage c.requires.at))
    (caught_up-few c.loop-number.outputs.files.items c.loop-number.outputs.samples.items c.requires.sounds targets c.loop-number.number c.requires.before
    (g.S.Shelf.files c.loop-number.shelf) c.requires.longer
    (c.loop-number.invariant.going_on c.requires.before c.requires.stage c.requires.sounds c.requires.at c.requires.longer c.requires.going_on))

pub append-requires-clause-few : goal.append-requires-clause-few
append-requires-clause-few g c =
    let targets : List (List ℤ) = sounds_at c.args.lab.now c.requires.stage in
    let test = c.loop-number-test.true in
    let end = c.len-number-end.ensures in
    let number = c.requires.number in
    let within : c.loop-number.number < length targets = omega (arith, test, end, number) in
    few-at targets c.loop-number.number c.samples_of.result.now c.requires.few within (c.samples_of.ensures c.requires.stage c.requires.at)

pub returns-in_err-append : goal.returns-in_err-append
returns-in_err-append g c =
    let inv = c.loop-number.invariant in
    let test = c.loop-number-test.true in
    let end = c.len-number-end.ensures in
    let same = ap (λ v. length v.items) inv.files in
    let within : c.loop-number.number < length c.loop-number.outputs.files.items = omega (arith, test, end, same) in
    record {
      going_on = search rules;
      changes = λ before stage sounds at longer going.
          let targets : List (List ℤ) = sounds_at c.args.lab.now stage in
          subst (λ v. Changes (MayHold v.items targets) before (g.S.Shelf.files c.append.new.shelf)) (c.append.ensures.files ∙ inv.files)
          (appended-changes c.loop-number.outputs.files.items c.append.new.self.files.items c.loop-number.outputs.samples.items c.append.new.self.samples.items sounds targets
          c.loop-number.number c.samples_of.result.now before (g.S.Shelf.files c.loop-number.shelf) (g.S.Shelf.files c.append.new.shelf) longer
          (inv.going_on before stage sounds at longer going) within (c.samples_of.ensures stage at) c.append.ensures.changes);
      outputs = c.append.ensures.outputs;
      files = c.append.ensures.files ∙ c.loop-number.invariant.files;
      rows = c.append.ensures.rows ∙ c.loop-number.invariant.rows;
      only_writes = OnlyWrites-passed g.S.Shelf c.from_residual.result c.in_err-append.field-0.0 _ _ c.from_residual.ensures.1
          (OnlyWrites-after g.S.Shelf _ _ _ _ c.loop-number.invariant.counts c.in_err-append.ensures.only_writes);
      never = λ before stage sounds at longer going known reliable.
          let never : c.append.result ≢ Err stops.Write =
          c.append.ensures.never before (caught_up c.loop-number.number sounds (sounds_at c.args.lab.now stage)) (inv.going_on before stage sounds at longer going) known (inv.counts.reliable reliable) in
          search (rules, never);
    }

pub loop-number-preserved : goal.loop-number-preserved
loop-number-preserved g c =
    let inv = c.loop-number.invariant in
    let test = c.loop-number-test.true in
    let end = c.len-number-end.ensures in
    let same = ap (λ v. length v.items) inv.files in
    let within : c.loop-number.number < length c.loop-number.outputs.files.items = omega (arith, test, end, same) in
    record {
      outputs_are = c.append.ensures.outputs;
      files = c.append.ensures.files ∙ inv.files;
      rows = c.append.ensures.rows ∙ inv.rows;
      going_on = λ before stage sounds at longer going.
          appended-going c.loop-number.outputs.files.items c.append.new.self.files.items c.loop-number.outputs.samples.items c.append.new.self.samples.items sounds
          (sounds_at c.args.lab.now stage) c.loop-number.number c.samples_of.result.now before (g.S.Shelf.files c.loop-number.shelf) (g.S.Shelf.files c.append.new.shelf) longer
          (inv.going_on before stage sounds at longer going) within (c.samples_of.ensures stage at) c.in_ok-append.ensures.going_on;
      counts = CountsNoFault-then g.S.Shelf _ _ _ inv.counts (CountsNoFault-writes g.S.Shelf _ _ _ c.in_ok-append.ensures.only_writes);
    }

pub returns : goal.returns
returns g c =
    let inv = c.loop-number.invariant in
    let test = c.loop-number-test.false in
    let end = c.len-number-end.ensures in
    let same = ap (λ v. length v.items) inv.files in
    let all : length c.loop-number.outputs.files.items ≤ c.loop-number.number = omega (arith, test, end, same) in
    record {
      going_on = λ before stage sounds at longer going.
          all-going c.loop-number.outputs.files.items c.loop-number.outputs.samples.items sounds (sounds_at c.args.lab.now stage) c.loop-number.number before
          (g.S.Shelf.files c.loop-number.shelf) longer all (inv.going_on before stage sounds at longer going);
      changes = λ before stage sounds at longer going.
          let targets : List (List ℤ) = sounds_at c.args.lab.now stage in
          subst (λ v. Changes (MayHold v.items targets) before (g.S.Shelf.files c.loop-number.shelf)) inv.files
          (IsGoingOn-Changes c.loop-number.outputs.files.items c.loop-number.outputs.samples.items targets targets before (g.S.Shelf.files c.loop-number.shelf)
          (all-going c.loop-number.outputs.files.items c.loop-number.outputs.samples.items sounds targets c.loop-number.number before (g.S.Shelf.files c.loop-number.shelf) longer all
          (inv.going_on before stage sounds at longer going))
          (AreLonger-same targets));
      outputs = c.loop-number.invariant.outputs_are;
      files = c.loop-number.invariant.files;
      rows = c.loop-number.invariant.rows;
      only_writes = OnlyWrites-done g.S.Shelf _ _ _ c.loop-number.invariant.counts;
      never = search rules;
    }
