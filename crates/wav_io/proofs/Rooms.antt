-- Values that are put into room after others.
use Rattle.wav_io.specs.Prelude.{ap, append_assoc, arith, length, length-append, List, sym, take, ℕ, ◌++◌, ◌+◌, ◌∙◌, ◌≡◌, ◌≤◌, length-take, take_all, take_at}

pub placed_behind : {X : Type 0} (n b : ℕ) (xs d p r : List X) → b ≤ length xs → b + length d ≡ n → take n ((take b xs ++ (d ++ p)) ++ r) ≡ take b xs ++ d
placed_behind {X} n b xs d p r inside count =
    ap (take n) (append_assoc (take b xs) (d ++ p) r ∙ ap (λ (zs : List X). take b xs ++ zs) (append_assoc d p r) ∙ sym (append_assoc (take b xs) d (p ++ r)))
    ∙ take_at (take b xs ++ d) (p ++ r) n (omega (arith, length-append (take b xs) d, length-take b xs))

-- what more room leaves in front
pub resized : {X : Type 0} (n b : ℕ) (old new rest : List X) → new ≡ take n old ++ rest → length old ≡ b → b ≤ n → take b new ≡ old
resized {X} n b old new rest is count within =
    ap (take b) (is ∙ ap (λ (zs : List X). zs ++ rest) (take_all n old (omega arith))) ∙ take_at old rest b count
