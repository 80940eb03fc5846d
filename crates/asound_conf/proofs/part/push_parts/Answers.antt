use Rattle.asound_conf.specs.Prelude.{ap, arith, length, length-append, List, refl, subst, sym, take, [], ◌++◌, ◌+◌, ◌∙◌, ◌∷◌, ◌≡◌, ◌≤◌, take-length}
use Rattle.asound_conf.specs.Prelude.{length-take, take-append-le}
use Rattle.asound_conf.proofs.PartLists.{IsPushed, IsPushed-next, piece-place}
use Rattle.asound_conf.specs.declared.part.Part as code
use Rattle.asound_conf.proofs.part.push_parts.Goals as goal

-- the parts that were there before stay in front
kept-push : (old now : List code.Part) (part : code.Part) → take (length old) now ≡ old → take (length old) (now ++ part ∷ []) ≡ old
kept-push old now part kept = take-append-le (length old) now (part ∷ []) (omega (arith, length-take (length old) now, ap length kept)) ∙ kept

pub loop-piece-init : goal.loop-piece-init
loop-piece-init c = record {
  small = omega arith;
  are = λ text whole. record { place = whole; parts = refl };
  kept = take-length c.args.parts.now.items;
}

pub loop-piece-preserved : goal.loop-piece-preserved
loop-piece-preserved c =
    let rest = c.loop-piece.rest.now in
    let piece = c.in-Some.piece.now in
    let behind = c.in-Some.behind.now in
    let at = c.loop-piece.at in
    let sizes = c.in-Some.ensures.sizes in
    record {
      small = omega (arith, sizes, c.loop-piece.invariant.small);
      are = λ text whole.
          let pushed = c.loop-piece.invariant.are text whole in
          let place = piece-place text rest piece at (omega (arith, sizes)) c.in-Some.ensures.piece pushed.place in
          subst (λ (p : List code.Part). IsPushed text c.args.parts.now.items p c.args.word.now behind (at + (length piece + 1))) (sym c.in_ok-push.ensures.items)
          (IsPushed-next text c.args.parts.now.items c.loop-piece.parts.items c.args.word.now rest piece behind at c.part_of.result c.in-Some.ensures.some c.in-Some.ensures.behind sizes (c.part_of.ensures text place) pushed);
      kept = ap (take _) c.in_ok-push.ensures.items ∙ kept-push c.args.parts.now.items c.loop-piece.parts.items c.part_of.result c.loop-piece.invariant.kept;
    }

pub returns-clause-kept : goal.returns-clause-kept
returns-clause-kept c =
    ap (take _) c.in_ok-push-2.ensures.items ∙ kept-push c.args.parts.now.items c.loop-piece.parts.items c.part_of-2.result c.loop-piece.invariant.kept

pub returns-clause-more : goal.returns-clause-more
returns-clause-more c =
    let old = c.args.parts.now.items in
    let now = c.loop-piece.parts.items in
    let kept : take (length old) now ≡ old = c.loop-piece.invariant.kept in
    let low : length old ≤ length now = omega (arith, length-take (length old) now, ap length kept) in
    let count : length c.push-2.new.self.items ≡ length now + 1 = ap length c.in_ok-push-2.ensures.items ∙ length-append now (c.part_of-2.result ∷ []) in
    omega (arith, low, count)
