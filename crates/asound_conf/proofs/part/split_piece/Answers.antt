use Rattle.asound_conf.specs.Prelude.{ap, arith, drop, length, None, sym, take, ℕ, ◌+◌, ◌-◌, ◌<◌, ◌∙◌, ◌≡◌, length-drop, length-take-le, take_rest, position}
use Rattle.std.proofs.lemmas.List.Quantifiers.{position-Some}
use Rattle.text_words.proofs.Cuts.{split_at, split_none}
use Rattle.asound_conf.specs.Key.{is_dot}
use Rattle.asound_conf.proofs.part.split_piece.Goals as goal

pub returns-in_err-end-clause-none : goal.returns-in_err-end-clause-none
returns-in_err-end-clause-none c =
    let none : position is_dot c.args.word.now ≡ None = sym c.in_err-end.ensures in
    rw c.from_residual.ensures (split_none is_dot c.args.word.now none)

pub returns-clause-some : goal.returns-clause-some
returns-clause-some c = split_at is_dot c.args.word.now c.in_ok-end.end (sym c.in_ok-end.ensures)

pub returns-clause-piece : goal.returns-clause-piece
returns-clause-piece c =
    let word = c.args.word.now in
    let inside : c.in_ok-end.end < length word = (position-Some is_dot word c.in_ok-end.end 0 (sym c.in_ok-end.ensures)).0 in
    ap (λ (k : ℕ). take k word) (sym (length-take-le c.in_ok-end.end word (omega (arith, inside))))

pub returns-clause-behind : goal.returns-clause-behind
returns-clause-behind c =
    let word = c.args.word.now in
    let inside : c.in_ok-end.end < length word = (position-Some is_dot word c.in_ok-end.end 0 (sym c.in_ok-end.ensures)).0 in
    take_rest word (c.in_ok-end.end + 1) ∙ ap (λ (k : ℕ). drop (k + 1) word) (sym (length-take-le c.in_ok-end.end word (omega (arith, inside))))

pub returns-clause-sizes : goal.returns-clause-sizes
returns-clause-sizes c =
    let word = c.args.word.now in
    let end = c.in_ok-end.end in
    let inside : end < length word = (position-Some is_dot word end 0 (sym c.in_ok-end.ensures)).0 in
    let piece : length (take end word) ≡ end = length-take-le end word (omega (arith, inside)) in
    let behind : length (take (length word - (end + 1)) (drop (end + 1) word)) ≡ length word - (end + 1) = ap length (take_rest word (end + 1)) ∙ length-drop (end + 1) word in
    omega (arith, inside, piece, behind)
