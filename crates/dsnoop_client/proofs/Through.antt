-- Frames through bindings.
use Rattle.dsnoop_client.specs.Prelude.{arith, length, List, pos, sym, ℕ, ◌<◌, ◌∙◌, ◌≡◌, ext_get_or, get_or-map, length-map, slice_index, slice_index_or, ℤ}
use Rattle.dsnoop_client.specs.Prelude.{bound_samples}

-- samples that are channel by channel those of a frame through bindings are that frame
pub through-is : (bindings : List ℕ) (frame part : List ℤ) → length part ≡ length bindings
    → ((k : ℕ) → k < length bindings → slice_index_or part k (pos 0) ≡ slice_index_or frame (slice_index bindings k) (pos 0))
    → part ≡ bound_samples bindings frame
through-is bindings frame part size same =
    ext_get_or (pos 0) part (bound_samples bindings frame) (size ∙ sym (length-map bindings (λ channel. slice_index_or frame channel (pos 0))))
    (λ i within. same i (omega (arith, size, within)) ∙ sym (get_or-map (λ channel. slice_index_or frame channel (pos 0)) bindings i 0 (pos 0)
    (omega (arith, size, within))))
