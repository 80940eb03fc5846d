use Rattle.mix_core.specs.Prelude.{ap, arith, length, List, pos, refl, rules, subst, sym, ℕ, ℤ, ◌+◌, ◌<◌, ◌∙◌, ◌≡◌, ◌≢◌, ◌≤◌, nat_tests, to_z-of_z, w16, w32}
use Rattle.mix_core.specs.Prelude.{SFits, Geometry, end_frame, lap, clamp_of, lap_of, StandsFor, StandsFor-fields, sum_of, IsTaken, laid_of, Row, total}
use Rattle.mix_core.specs.Prelude.{IsSound, RepresentsHistory, View, word_at, IsNow-next}
use Rattle.mix_core.specs.contracts.ring.Core.{the_view}
use Rattle.mix_core.proofs.Agreement.{taken_view}
use Rattle.mix_core.proofs.History.{RepresentsHistory-refused, RepresentsHistory-taken}
use Rattle.mix_core.proofs.Laying.{word_is}
use Rattle.mix_core.proofs.Soundness.{IsSound-taken}
use Rattle.mix_core.proofs.ring.Core.take.Goals as goal

-- no frame up to the end has a lap past the last
lap-le : (g : Geometry) (f : ℕ) → f ≤ end_frame g → lap g f ≤ 4294967295
lap-le g f within = grind (arith, nat_tests)

taken : (v : View) (word : ℕ) (value : ℤ) → IsSound v → lap v.geometry v.next.frame ≢ 4294967295
    → StandsFor word (lap_of (word_at v v.next.frame v.next.channel) + 1) 0 (pos 0)
    → value ≡ clamp_of (sum_of (word_at v v.next.frame v.next.channel))
    → IsTaken v (taken_view v word) (record { frame = v.next.frame; channel = v.next.channel; value = value })
taken v word value s more stands value_is =
    let value_of : (h : List Row) → RepresentsHistory v h → value ≡ clamp_of (total (laid_of h) v.next.frame v.next.channel) =
    λ h st. value_is ∙ ap clamp_of (StandsFor-fields _ _ _ _ (st.agrees.words v.next.frame v.next.channel (IsNow-next v.geometry v.next s.next_channel))).2 in
    record {
      geometry = refl;
      marks = refl;
      position = refl;
      gone = refl;
      frame = refl;
      channel = refl;
      next = refl;
      value = value_of;
      stands = λ h st. RepresentsHistory-taken v h word value s more stands (value_of h st) st;
    }

pub returns-then-lap-eq4294967295-clause-err : goal.returns-then-lap-eq4294967295-clause-err
returns-then-lap-eq4294967295-clause-err c = rw (← c.self.view_is) (record {
  same = refl;
  stands = λ h. RepresentsHistory-refused (the_view c.self.inside) h (sym c.lap.ensures ∙ c.if-lap-eq4294967295.true);
})

pub taken-requires : goal.taken-requires
taken-requires c =
    let v : View = the_view c.self.inside in
    let within : c.word_index-at.result < length v.words = search rules in
    let word : c.index-word.result.now ≡ word_at v v.next.frame v.next.channel = word_is v _ _ v.next.frame v.next.channel c.index-word.ensures c.word_index-at.ensures.value within in
    let of_lap : lap_of (word_at v v.next.frame v.next.channel) ≡ lap v.geometry v.next.frame = (c.self.invariant.words_now v.next.frame v.next.channel (IsNow-next v.geometry v.next c.self.invariant.next_channel)).of_lap in
    let most : lap v.geometry v.next.frame ≤ 4294967295 = lap-le v.geometry v.next.frame c.self.invariant.next_most in
    let other : lap v.geometry v.next.frame ≢ 4294967295 = λ e. c.if-lap-eq4294967295.false (c.lap.ensures ∙ e) in
    let room : lap_of (word_at v v.next.frame v.next.channel) < 4294967295 = omega (arith, of_lap, most, other) in
    record { lap_room = subst (λ w. lap_of w < 4294967295) (sym word) room }

pub invariant_of-self : goal.invariant_of-self
invariant_of-self c =
    let v : View = the_view c.self.inside in
    let within : c.word_index-at.result < length v.words = search rules in
    let word : c.index-word.result.now ≡ word_at v v.next.frame v.next.channel = word_is v _ _ v.next.frame v.next.channel c.index-word.ensures c.word_index-at.ensures.value within in
    let most : lap v.geometry v.next.frame ≤ 4294967295 = lap-le v.geometry v.next.frame c.self.invariant.next_most in
    let other : lap v.geometry v.next.frame ≢ 4294967295 = λ e. c.if-lap-eq4294967295.false (c.lap.ensures ∙ e) in
    let fits : lap v.geometry v.next.frame < 4294967295 = omega (arith, most, other) in
    let stands = subst (λ w. StandsFor c.taken.result (lap_of w + 1) 0 (pos 0)) word c.taken.ensures.stands in
    rw (c.word_index-at.ensures.value, c.behind-self-inside.ensures) (IsSound-taken v c.taken.result c.self.invariant fits stands)

pub returns-clause-ok : goal.returns-clause-ok
returns-clause-ok c =
    let v : View = the_view c.self.inside in
    let within : c.word_index-at.result < length v.words = search rules in
    let word : c.index-word.result.now ≡ word_at v v.next.frame v.next.channel = word_is v _ _ v.next.frame v.next.channel c.index-word.ensures c.word_index-at.ensures.value within in
    let other : lap v.geometry v.next.frame ≢ 4294967295 = λ e. c.if-lap-eq4294967295.false (c.lap.ensures ∙ e) in
    let stands = subst (λ w. StandsFor c.taken.result (lap_of w + 1) 0 (pos 0)) word c.taken.ensures.stands in
    let sum_fits : SFits w32 c.sum.result = search rules in
    let clamp_fits : SFits w16 c.clamp.result = search rules in
    let nearest : c.clamp.result ≡ clamp_of c.sum.result = simp to_z-of_z at c.clamp.ensures.nearest in
    let value : c.clamp.result ≡ clamp_of (sum_of (word_at v v.next.frame v.next.channel)) = nearest ∙ (ap clamp_of c.sum.ensures.sum ∙ ap (λ w. clamp_of (sum_of w)) word) in
    rw (← c.self.view_is) (simp to_z-of_z (rw (c.word_index-at.ensures.value, c.behind-self-inside.ensures) (taken v c.taken.result c.clamp.result c.self.invariant other stands value)))
