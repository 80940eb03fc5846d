-- One line more.
use Rattle.lab_make.specs.Prelude.{ap, append_assoc, arith, codes, string_bytes, sym, [], ◌++◌, ◌+◌, ◌∙◌, ◌∷◌, ◌≡◌, decimal, ◌%◌, frames_written, write_words}
use Rattle.lab_make.proofs.Appended.{lines_text-push}
use Rattle.lab_make.proofs.text.push_turn.Goals as goal

pub loop-client-preserved : goal.loop-client-preserved
loop-client-preserved c =
    let number = decimal c.loop-client.client-counter in
    let frames = frames_written c.args.turn c.loop-client.client-counter in
    let frames_are : 64 + (c.from.result + c.from-in-loop-client.result) % 33 ≡ frames = omega arith in
    let line = ap (λ n. number ++ (codes " write " ++ (decimal n ++ 10 ∷ []))) frames_are ∙ sym (append_assoc number (codes " write " ++ decimal frames) (10 ∷ [])) in
    lines_text-push (write_words c.args.turn) _ _ _ _ c.loop-client.invariant
    (c.in_ok-writeln.ensures.bytes ∙ ap (λ t. string_bytes c.loop-client.text ++ (codes "c" ++ t)) line)
