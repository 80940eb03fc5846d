use Rattle.lab_readers.specs.Prelude.{ap, arith, List, rules, subst, sym, ℕ, [], ◌++◌, ◌+◌, ◌∙◌, ◌∷◌, ◌≡◌, ◌≢◌, ◌≤◌, nat_tests, range_with_len, AreApart}
use Rattle.lab_readers.specs.Prelude.{frames_of_runs, RunList}
use Rattle.lab_readers.proofs.RunLists.{apart-longer, apart-more, frames_of_runs-longer}
use Rattle.lab_readers.proofs.frame_runs.FrameRuns.push.Goals as goal

pub invariant_of-self-then-is_next : goal.invariant_of-self-then-is_next
invariant_of-self-then-is_next c =
    let apart = subst AreApart c.in-Some.ensures.items c.self.invariant in
    subst AreApart (sym c.push_run-then-is_next.ensures.items)
    (apart-longer c.pop.new.self.items c.in-Some.last.0 c.in-Some.last.1 c.args.count apart)

pub returns-then-is_next-clause-frames : goal.returns-then-is_next-clause-frames
returns-then-is_next-clause-frames c =
    let meets : c.in-Some.last.0 + c.in-Some.last.1 ≡ c.args.first = search rules in
    ap frames_of_runs c.push_run-then-is_next.ensures.items
    ∙ frames_of_runs-longer c.pop.new.self.items c.in-Some.last.0 c.in-Some.last.1 c.args.first c.args.count meets
    ∙ ap (λ (frames : List ℕ). frames ++ range_with_len c.args.first c.args.count)
    (ap frames_of_runs (sym c.in-Some.ensures.items) ∙ ap (λ (view : RunList). frames_of_runs view.runs) c.self.view_is)

pub invariant_of-self-2 : goal.invariant_of-self-2
invariant_of-self-2 c =
    let apart = subst AreApart c.in-Some.ensures.items c.self.invariant in
    let differs : c.in-Some.last.0 + c.in-Some.last.1 ≢ c.args.first = search rules in
    let some : 1 ≤ c.args.count = grind (arith, nat_tests, c.if-count-eq0.false) in
    subst AreApart (sym (c.push_run-3.ensures.items ∙ ap (λ (runs : List (ℕ × ℕ)). runs ++ (c.args.first, c.args.count) ∷ []) c.push_run-2.ensures.items))
    (apart-more c.pop.new.self.items c.in-Some.last (c.args.first, c.args.count) apart differs some)
