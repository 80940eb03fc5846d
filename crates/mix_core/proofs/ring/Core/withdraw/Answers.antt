use Rattle.mix_core.specs.Prelude.{ap, arith, length, negsuc, pos, rules, subst, sym, ◌+◌, ◌-ℤ◌, ◌<◌, ◌∙◌, ◌≡◌, ◌≤ℤ◌, ints, to_z-of_z, w16, SFits, count_of}
use Rattle.mix_core.specs.Prelude.{lap_of, StandsFor, sum_of, Withdrawn, marks_after, marks_with, value_of, withdrawn_at, marks_at, View, word_at}
use Rattle.mix_core.specs.contracts.ring.Core.{the_view}
use Rattle.mix_core.proofs.Laying.{CanLay, can_withdraw, laid, marks_is, stands_back, value_by, word_is}
use Rattle.mix_core.proofs.Soundness.{HasRoom, IsSound-laid, room-laid}
use Rattle.mix_core.proofs.ring.Core.withdraw.Goals as goal

pub withdraw-requires : goal.withdraw-requires
withdraw-requires c =
    let v : View = the_view c.self.inside in
    let e = c.args.entry in
    let sample : SFits w16 e.sample = search rules in
    let can : CanLay v e = can_withdraw v c.args.self.now e c.self.view_is c.self.invariant sample c.requires.kind c.requires.member c.requires.channel c.requires.from_floor c.requires.before_cursor c.requires.untaken c.requires.ahead in
    let within : c.word_index-at.result < length v.words = search rules in
    let word : c.index-word.result.now ≡ word_at v e.frame e.channel = word_is v _ _ e.frame e.channel c.index-word.ensures c.word_index-at.ensures.value within in
    let room : HasRoom c.index-word.result.now (value_of e) = rw word (room-laid v e c.self.invariant can.member can.now can.more can.low can.high) in
    let low : negsuc 8388607 ≤ℤ (sum_of c.index-word.result.now -ℤ e.sample) = omega (arith, ints, room.low, value_by Withdrawn e c.requires.kind) in
    let high : (sum_of c.index-word.result.now -ℤ e.sample) ≤ℤ pos 8388607 = omega (arith, ints, room.high, value_by Withdrawn e c.requires.kind) in
    record { room = room.count; sum_low = simp to_z-of_z low; sum_high = simp to_z-of_z high }

pub invariant_of-self : goal.invariant_of-self
invariant_of-self c =
    let v : View = the_view c.self.inside in
    let e = c.args.entry in
    let sample : SFits w16 e.sample = search rules in
    let can : CanLay v e = can_withdraw v c.args.self.now e c.self.view_is c.self.invariant sample c.requires.kind c.requires.member c.requires.channel c.requires.from_floor c.requires.before_cursor c.requires.untaken c.requires.ahead in
    let within : c.word_index-at.result < length v.words = search rules in
    let word : c.index-word.result.now ≡ word_at v e.frame e.channel = word_is v _ _ e.frame e.channel c.index-word.ensures c.word_index-at.ensures.value within in
    let stands : StandsFor c.withdraw.result (lap_of c.index-word.result.now) (count_of c.index-word.result.now + 1) (sum_of c.index-word.result.now -ℤ e.sample) = simp to_z-of_z at c.withdraw.ensures.stands in
    let stands_there = stands_back e _ _ _ _ c.requires.kind (subst (λ w. StandsFor c.withdraw.result (lap_of w) (count_of w + 1) (sum_of w -ℤ e.sample)) word stands) in
    let moved : c.withdrawn.result ≡ marks_after v.geometry (marks_at v e.member) e =
    c.withdrawn.ensures ∙ (ap (λ m. withdrawn_at m e.frame e.channel) (marks_is v e.member c.index.result.now c.index.ensures can.member) ∙ ap (λ k. marks_with k v.geometry (marks_at v e.member) e.frame e.channel) (sym c.requires.kind)) in
    rw (c.word_index-at.ensures.value, moved) (IsSound-laid v e c.withdraw.result c.self.invariant can.member can.now can.more can.within can.low can.high stands_there)

pub returns : goal.returns
returns c =
    let v : View = the_view c.self.inside in
    let e = c.args.entry in
    let sample : SFits w16 e.sample = search rules in
    let can : CanLay v e = can_withdraw v c.args.self.now e c.self.view_is c.self.invariant sample c.requires.kind c.requires.member c.requires.channel c.requires.from_floor c.requires.before_cursor c.requires.untaken c.requires.ahead in
    let within : c.word_index-at.result < length v.words = search rules in
    let word : c.index-word.result.now ≡ word_at v e.frame e.channel = word_is v _ _ e.frame e.channel c.index-word.ensures c.word_index-at.ensures.value within in
    let stands : StandsFor c.withdraw.result (lap_of c.index-word.result.now) (count_of c.index-word.result.now + 1) (sum_of c.index-word.result.now -ℤ e.sample) = simp to_z-of_z at c.withdraw.ensures.stands in
    let stands_there = stands_back e _ _ _ _ c.requires.kind (subst (λ w. StandsFor c.withdraw.result (lap_of w) (count_of w + 1) (sum_of w -ℤ e.sample)) word stands) in
    let moved : c.withdrawn.result ≡ marks_after v.geometry (marks_at v e.member) e =
    c.withdrawn.ensures ∙ (ap (λ m. withdrawn_at m e.frame e.channel) (marks_is v e.member c.index.result.now c.index.ensures can.member) ∙ ap (λ k. marks_with k v.geometry (marks_at v e.member) e.frame e.channel) (sym c.requires.kind)) in
    rw (← c.self.view_is, c.word_index-at.ensures.value, moved) (laid v e c.withdraw.result c.self.invariant can stands_there)
