-- Steps of the generator add up, and give the samples one by one and the files one by one.
use Rattle.lab_make.specs.Prelude.{ap, arith, List, map, suc, suc-add, sym, zero, zero-add, ℕ, ℤ, [], ◌*◌, ◌++◌, ◌+◌, ◌∙◌, ◌∷◌, ◌≡◌, map-range_with_len_more}
use Rattle.lab_make.specs.Prelude.{range_with_len, multiplier_64, Sound, after_words, generator_of, made_sound, next_sample, sound_from}
use Rattle.rand_pcg.specs.Lcg.{Lcg, advance, next, next_state, state_after}

-- steps after other steps are as many steps as both
pub state_after-add : (w m p a b s : ℕ) → state_after w m p b (state_after w m p a s) ≡ state_after w m p (a + b) s
unfolding state_after
state_after-add w m p zero b s = ap (λ n. state_after w m p n s) (sym (zero-add b))
state_after-add w m p (suc a) b s =
    state_after-add w m p a b (next_state w m p s) ∙ ap (λ n. state_after w m p n s) (sym (suc-add a b))

-- a jump after another is one of both
pub advance-advance : (w m a b : ℕ) (g : Lcg) → advance w m b (advance w m a g) ≡ advance w m (a + b) g
advance-advance w m a b g = ap (λ s. record g { state = s }) (state_after-add w m g.increment a b g.state)

-- one step after a jump
pub next-advance : (w m a : ℕ) (g : Lcg) → next w m (advance w m a g) ≡ advance w m (a + 1) g
unfolding state_after
next-advance w m a g = advance-advance w m a 1 g

-- the generator after one word more
pub after_words-next : (i : ℕ) (first g h : Lcg) → g ≡ after_words i first → h ≡ next 64 multiplier_64 g → h ≡ after_words (i + 1) first
after_words-next i first g h before step = step ∙ ap (next 64 multiplier_64) before ∙ next-advance 64 multiplier_64 i first

-- the generator after one file more
pub after_words-file : (i : ℕ) (first g h : Lcg) → g ≡ after_words (8192 * i) first → h ≡ advance 64 multiplier_64 8192 g → h ≡ after_words (8192 * (i + 1)) first
after_words-file i first g h before step =
    let words : 8192 * i + 8192 ≡ 8192 * (i + 1) = omega arith in
    step ∙ ap (advance 64 multiplier_64 8192) before ∙ advance-advance 64 multiplier_64 (8192 * i) 8192 first
    ∙ ap (λ n. after_words n first) words

-- one sample more
pub samples-push : (i : ℕ) (first g : Lcg) (xs ys : List ℤ) (x : ℤ)
    → xs ≡ map (λ index. next_sample (after_words index first)) (range_with_len 0 i) → g ≡ after_words i first → x ≡ next_sample g → ys ≡ xs ++ x ∷ []
    → ys ≡ map (λ index. next_sample (after_words index first)) (range_with_len 0 (i + 1))
samples-push i first g xs ys x before at last all =
    all ∙ ap (λ zs. zs ++ x ∷ []) before
    ∙ ap (λ z. map (λ index. next_sample (after_words index first)) (range_with_len 0 i) ++ z ∷ []) (last ∙ ap next_sample at)
    ∙ sym (map-range_with_len_more (λ index. next_sample (after_words index first)) 0 i i (zero-add i))

-- one file more
pub files-push : (seed i : ℕ) (g : Lcg) (xs ys : List Sound) (x : Sound)
    → xs ≡ map (made_sound seed) (range_with_len 0 i) → g ≡ after_words (8192 * i) (generator_of seed) → x ≡ sound_from g → ys ≡ xs ++ x ∷ []
    → ys ≡ map (made_sound seed) (range_with_len 0 (i + 1))
files-push seed i g xs ys x before at last all =
    all ∙ ap (λ zs. zs ++ x ∷ []) before
    ∙ ap (λ z. map (made_sound seed) (range_with_len 0 i) ++ z ∷ []) (last ∙ ap sound_from at)
    ∙ sym (map-range_with_len_more (made_sound seed) 0 i i (zero-add i))
