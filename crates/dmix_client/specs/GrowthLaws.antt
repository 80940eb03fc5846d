-- Which samples a client represents that has just begun, and how what it placed adds up.
use Rattle.std.specs.Prelude.{◌≡◌, ℕ, ◌+◌, ◌-◌, ◌*◌, ◌%◌, ℤ, pos, List, ◌++◌, length}
use Rattle.std.proofs.Common.{arith, ap, sym, ◌∙◌, append_assoc, get_or}
use Rattle.std.proofs.lemmas.Bool.Decides.{nat_tests}
use Rattle.snd_base.specs.Relations.{Composes}
use Rattle.mix_core.specs.declared.port.Entry.{Entry}
use Rattle.dmix_client.specs.declared.stream.PlaybackStream.{PlaybackStream}
use Rattle.pcm_states.specs.declared.states.State.TheVariants.{Paused}
use Rattle.dmix_client.specs.Calls.{with_new_base}
use Rattle.dmix_client.specs.Expansion.{sample_at}
use Rattle.dmix_client.specs.Growth.{Grows, StandsFor, segment_entries}
use Rattle.dmix_client.specs.View.{IsSoundClient}

-- a client with nothing written, as after `hw_params` and `prepare`, represents all samples
pub StandsFor-nothing : (c : PlaybackStream) (ring samples : List ℤ) → c.stretch.written ≡ 0
    → StandsFor c ring samples
StandsFor-nothing c ring samples none j q low high in_range = absurd (omega (arith, high, none))

-- a paused client that represents some samples does so with its counts based anew
pub StandsFor-rebased : (c : PlaybackStream) (ring samples : List ℤ) → IsSoundClient c ring
    → c.status.state ≡ Paused → StandsFor c ring samples → StandsFor (with_new_base c) ring samples
StandsFor-rebased c ring samples sound is stands j q low high in_range =
    let most = (sound.paused is).laid_most in
    let at : c.fed - (c.stretch.written - c.stretch.committed) + j ≡ c.stretch.source + (c.stretch.committed + j) = omega (arith, sound.fed, most, high) in
    ap (λ (n : ℕ). get_or ring (n % c.setup.config.buffer_size * length c.setup.bindings + q) (pos 0)) at
    ∙ stands (c.stretch.committed + j) q (grind (arith, nat_tests)) (omega (arith, high)) in_range
    ∙ ap (λ (n : ℕ). sample_at samples (length c.setup.bindings) n q) (sym at)

-- the growths of two calls, one after the other, are one
pub Grows-joined : {S : Type 0} (laid : S → S → List Entry → Type 0) (composes : Composes laid)
    (p q r : S) (c d e : PlaybackStream) (samples : List ℤ)
    → Grows laid p q c d samples → Grows laid q r d e samples → Grows laid p r c e samples
Grows-joined laid composes p q r c d e samples first later = record {
  entries = first.entries ++ later.entries;
  laid_them = composes.joined p q r first.entries later.entries first.laid_them later.laid_them;
  grown = later.grown ∙ ap (λ (es : List Entry). es ++ later.entries) first.grown ∙ append_assoc (segment_entries c samples) first.entries later.entries;
  same_member = later.same_member ∙ first.same_member;
  same_bindings = later.same_bindings ∙ first.same_bindings;
}
