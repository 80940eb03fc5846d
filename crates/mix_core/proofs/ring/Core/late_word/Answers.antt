use Rattle.mix_core.specs.Prelude.{arith, get_or, length, refl, rules, subst, sym, ◌<◌, ◌∙◌, ◌≡◌, ◌≢◌, ◌≤◌, nat_tests, get_or_read, first_free, lap, lap_of}
use Rattle.mix_core.specs.Prelude.{IsLateWord, IsUntaken, View, word_at}
use Rattle.mix_core.specs.contracts.ring.Core.{the_view}
use Rattle.mix_core.proofs.Words.{taken-by_lap, untaken-by_lap, word-late}
use Rattle.mix_core.proofs.ring.Core.late_word.Goals as goal

pub returns-then-lap : goal.returns-then-lap
returns-then-lap c =
    let v : View = the_view c.self.inside in
    let within : c.word_index.result < length c.self.inside.words.items = search rules in
    let read : c.index-word.result.now ≡ get_or c.self.inside.words.items c.word_index.result 0 = get_or_read _ _ _ within c.index-word.ensures 0 in
    let word : c.index-word.result.now ≡ word_at v c.args.frame c.args.channel = rw c.word_index.ensures.value at read in
    let in_range = rw (← c.self.view_is) at c.requires.channel in
    let same : lap_of (word_at v c.args.frame c.args.channel) ≡ lap v.geometry c.args.frame = subst (λ w. lap_of w ≡ lap v.geometry c.args.frame) word (sym c.lap.ensures.lap ∙ (c.if-lap.true ∙ c.lap-2.ensures)) in
    let not_before : first_free v.next c.args.channel ≤ c.args.frame = untaken-by_lap v c.args.frame c.args.channel c.self.invariant in_range same in
    let untaken : IsUntaken v c.args.frame c.args.channel = record { untaken = not_before; published = grind (arith, nat_tests, c.self.invariant.position_most) } in
    rw (← c.self.view_is) untaken

pub returns-else-lap : goal.returns-else-lap
returns-else-lap c =
    let v : View = the_view c.self.inside in
    let within : c.word_index.result < length c.self.inside.words.items = search rules in
    let read : c.index-word.result.now ≡ get_or c.self.inside.words.items c.word_index.result 0 = get_or_read _ _ _ within c.index-word.ensures 0 in
    let word : c.index-word.result.now ≡ word_at v c.args.frame c.args.channel = rw c.word_index.ensures.value at read in
    let in_range = rw (← c.self.view_is) at c.requires.channel in
    let ahead = rw (← c.self.view_is) at c.requires.ahead in
    let other : lap_of (word_at v c.args.frame c.args.channel) ≢ lap v.geometry c.args.frame = λ e. c.if-lap.false (c.lap.ensures.lap ∙ (subst (λ w. lap_of w ≡ lap v.geometry c.args.frame) (sym word) e ∙ sym c.lap-2.ensures)) in
    let before = taken-by_lap v c.args.frame c.args.channel c.self.invariant in_range ahead other in
    let late : IsLateWord v c.args.frame c.args.channel (word_at v c.args.frame c.args.channel) = record { shown = refl; past = word-late v c.args.frame c.args.channel c.self.invariant in_range before; taken = before } in
    rw (← c.self.view_is) (rw word late)
