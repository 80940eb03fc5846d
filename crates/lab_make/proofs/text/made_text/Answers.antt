-- A line or a turn more, and the whole text.
use Rattle.lab_make.specs.Prelude.{ap, append_assoc, arith, codes, string_bytes, sym, [], ◌++◌, ◌∙◌, ◌∷◌, decimal, client_words, open_words, turn_lines}
use Rattle.lab_make.proofs.Appended.{lines_text-push, lines_text-push_all, made_text-parts}
use Rattle.lab_make.proofs.text.made_text.Goals as goal

pub loop-client-preserved : goal.loop-client-preserved
loop-client-preserved c =
    let number = decimal c.loop-client.client-counter in
    let line = append_assoc number (codes " made-" ++ (number ++ codes ".wav")) (10 ∷ []) ∙ ap (λ t. number ++ (codes " made-" ++ t)) (append_assoc number (codes ".wav") (10 ∷ [])) in
    lines_text-push client_words _ _ _ _ c.loop-client.invariant
    (c.in_ok-writeln.ensures.bytes ∙ ap (λ t. string_bytes c.loop-client.text ++ (codes "client c" ++ t)) (sym line))

pub loop-opened-preserved : goal.loop-opened-preserved
loop-opened-preserved c = lines_text-push open_words _ _ _ _ c.loop-opened.invariant c.in_ok-writeln-2.ensures.bytes

pub loop-turn-preserved : goal.loop-turn-preserved
loop-turn-preserved c = lines_text-push_all (turn_lines c.args.clients) _ _ _ _ c.loop-turn.invariant c.in_ok-push_turn.ensures

pub returns : goal.returns
returns c =
    made_text-parts c.args.clients c.args.turns _ _ _ (omega arith) (omega arith) (omega arith) _ _ _ _ c.in_ok-text.ensures.ok
    c.loop-client.invariant c.loop-opened.invariant c.loop-turn.invariant
