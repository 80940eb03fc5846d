-- The pieces of the two lines, one after another.
use Rattle.asound_conf.specs.Prelude.{ap, append_assoc, codes, Err, IfOk, List, Ok, Result, ℕ, [], ◌++◌, ◌∙◌, ◌∷◌, ◌≡◌, decimal}
use Rattle.asound_conf.specs.Text.{kind_text}
use Rattle.asound_conf.proofs.print.first_lines.Goals as goal

along : {X E : Type 0} (r : Result X E) (P Q : X → Type 0) → ((x : X) → P x → Q x) → IfOk r P → IfOk r Q
along (Ok x) P Q f is = f x is
along (Err e) P Q f is = tt

joined : (t k e a m b n g p h r : List ℕ) → t ++ (k ++ (e ++ (a ++ (m ++ (b ++ (n ++ (g ++ (p ++ (h ++ (r ++ e)))))))))) ≡ (t ++ k ++ e) ++ ((a ++ m) ++ (b ++ n) ++ (g ++ p) ++ (h ++ r) ++ e)
joined t k e a m b n g p h r = simp append_assoc

pub returns : goal.returns
returns c =
    let d = c.args.device.now in
    let rest = codes "card channels " ++ (decimal d.channels ++ (codes " rate " ++ (decimal d.rate ++ (codes " period " ++ (decimal d.period ++ (codes " ring " ++ (decimal d.ring ++ 10 ∷ []))))))) in
    along c.format.result _ _
    (λ s is.
    is ∙ ap (λ name. codes "type " ++ (name ++ 10 ∷ rest)) c.kind_text-kind.ensures
    ∙ joined (codes "type ") (kind_text d.kind) (10 ∷ []) (codes "card channels ") (decimal d.channels) (codes " rate ") (decimal d.rate) (codes " period ") (decimal d.period) (codes " ring ") (decimal d.ring))
    c.format.ensures.ok
