-- Which samples a client represents after frames were stored in its local ring.
use Rattle.dmix_client.specs.Prelude.{ap, arith, drop, get_or, inl, inr, length, List, refl, sym, take, ℕ, ◌%◌, ◌*◌, ◌++◌, ◌+◌, ◌-◌, ◌<◌, ◌∙◌, ◌≡◌, ◌≤◌}
use Rattle.dmix_client.specs.Prelude.{mul-le-mul_right, take-append_seam, nat_tests, min, pos, ℤ, PlaybackStream, taken_of, sample_at, Follows, StandsFor}
use Rattle.dmix_client.specs.Prelude.{StandsUpTo, HasRoom, stored-new, stored-old, hw_of, IsConfigured, ring_with}
use Rattle.std.proofs.lemmas.Bool.{cases_lt}
use Rattle.dmix_client.proofs.Sound.{taken_fits}

-- a client represents its samples up to the frames that were stored after those it has, where these are samples too
pub StandsUpTo-stored : (c : PlaybackStream) (ring samples offered : List ℤ) (n m : ℕ) → IsConfigured c ring → m * length c.setup.bindings ≤ length offered
    → m ≤ n → m ≤ c.setup.config.buffer_size
    → c.stretch.written + m ≤ min c.stretch.committed (hw_of c) + c.setup.config.buffer_size → StandsFor c ring samples → Follows c samples offered n
    → StandsUpTo c (ring_with c ring offered m) samples (c.stretch.written + m)
StandsUpTo-stored c ring samples offered n m set held_all few fits near stands follows j q low high in_range = elim (cases_lt j c.stretch.written) [
  | inl before ↦
      stored-old c.setup.config.buffer_size (length c.setup.bindings) ring (c.stretch.source + c.stretch.written) offered m (c.stretch.source + j) q has
      held_all (omega (arith, before)) (omega (arith, near, low)) in_range ∙ stands j q low before in_range
  | inr not_before ↦
      let k : ℕ = j - c.stretch.written in
      let at : c.stretch.written + k ≡ j = omega (arith, not_before) in
      let within : k < m = omega (arith, high, not_before) in
      let there : c.stretch.source + c.stretch.written + k ≡ c.stretch.source + j = omega (arith, at) in
      let new : get_or (ring_with c ring offered m) ((c.stretch.source + c.stretch.written + k) % c.setup.config.buffer_size * length c.setup.bindings + q)
      (pos 0) ≡ get_or offered (k * length c.setup.bindings + q) (pos 0) =
      stored-new c.setup.config.buffer_size (length c.setup.bindings) ring (c.stretch.source + c.stretch.written) offered m k q has
      held_all fits within in_range in
      ap (λ (i : ℕ). get_or (ring_with c ring offered m) (i % c.setup.config.buffer_size * length c.setup.bindings + q) (pos 0)) (sym there) ∙ new
      ∙ sym (follows k q (omega (arith, within, few)) in_range)
      ∙ ap (λ (i : ℕ). sample_at samples (length c.setup.bindings) (c.stretch.source + i) q) at
]
  where
    has : HasRoom c.setup.config.buffer_size (length c.setup.bindings) ring
    has = record { some = set.buffer_least; room = set.room }

taken-near : (n b w k h m : ℕ) → m ≡ min n (min (b + h - w) b) → w ≤ h + b → min w h ≤ k → w + m ≤ min k h + b
taken-near n b w k h m is fits low = grind (arith, nat_tests)

-- so it does after a write, up to the frames that this took
pub StandsUpTo-written : (c : PlaybackStream) (ring samples offered : List ℤ) (n : ℕ) → IsConfigured c ring → n * length c.setup.bindings ≤ length offered
    → c.stretch.written ≤ hw_of c + c.setup.config.buffer_size
    → min c.stretch.written (hw_of c) ≤ c.stretch.committed → StandsFor c ring samples → Follows c samples offered n
    → StandsUpTo c (ring_with c ring offered (taken_of c n)) samples (c.stretch.written + taken_of c n)
StandsUpTo-written c ring samples offered n set held_all fits low stands follows =
    let few = taken_fits c.stretch.written (hw_of c) c.setup.config.buffer_size n (taken_of c n) fits refl in
    let less : taken_of c n * length c.setup.bindings ≤ n * length c.setup.bindings = mul-le-mul_right (length c.setup.bindings) few.2 in
    StandsUpTo-stored c ring samples offered n (taken_of c n) set (omega (arith, less, held_all)) few.2 few.1
    (taken-near n c.setup.config.buffer_size c.stretch.written c.stretch.committed (hw_of c) (taken_of c n) refl fits low) stands follows

-- all of a list that was written is what was written
pub take-written : (n : ℕ) (xs old : List ℤ) → n ≡ length xs → take n (xs ++ drop (length xs) old) ≡ xs
take-written n xs old is = ap (λ (k : ℕ). take k (xs ++ drop (length xs) old)) is ∙ take-append_seam xs (drop (length xs) old)
