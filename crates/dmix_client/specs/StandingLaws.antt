-- How a caller knows what a rewind asks: a port's standing adds that end in a client's segment still do so after each call, and then
-- they end in the frames that its local ring has.
use Rattle.std.specs.Prelude.{◌≡◌, ℕ, zero, suc, ◌+◌, ◌-◌, ◌≤◌, false, min, ℤ, List, [], ◌∷◌, ◌++◌, length, map, take, Result}
use Rattle.std.specs.List.{flat_map, range_with_len}
use Rattle.std.proofs.Common.{refl, sym, ◌∙◌, ap, subst, arith}
use Rattle.std.proofs.lemmas.Bool.Decides.{nat_tests}
use Rattle.std.proofs.lemmas.List.{append-nil}
use Rattle.snd_base.specs.declared.errors.PcmError.{PcmError}
use Rattle.mix_core.specs.declared.gate.Gate as gates
use Rattle.mix_core.specs.declared.port.Entry.{Entry}
use Rattle.mix_core.specs.declared.port.MixPort as mixport
use Rattle.mix_core.specs.Laid.{AreAdds}
use Rattle.bindings.specs.Bound.{rising}
use Rattle.pcm_states.specs.declared.states.State.TheVariants.{Paused, Running}
use Rattle.dmix_client.specs.declared.stream.PlaybackStream.{PlaybackStream}
use Rattle.dmix_client.specs.Calls.{with_new_base}
use Rattle.dmix_client.specs.Expansion.{frame_entries, run_entries, sample_at}
use Rattle.dmix_client.specs.ExpansionLaws.{run_entries-append, run_entries-same}
use Rattle.dmix_client.specs.Growth.{IsBacked, Keeps, KeepsBack, segment_entries}
use Rattle.dmix_client.specs.GrowthLaws.{StandsFor-rebased}
use Rattle.dmix_client.specs.Rewind.{held_entries}
use Rattle.pcm_stream.specs.Status.{is_moving, is_set_up}
use Rattle.dmix_client.specs.View.{ClientView, IsSoundClient, hw_of, ring_sample}

-- entries are adds: those of two lists, the ones behind others, and those of a frame, of several and of a segment
pub AreAdds-append : (es fs : List Entry) → AreAdds es → AreAdds fs → AreAdds (es ++ fs)
AreAdds-append [] fs one two = two
AreAdds-append (e ∷ es) fs one two = (one.0, AreAdds-append es fs one.1 two)

pub AreAdds-end : (es fs : List Entry) → AreAdds (es ++ fs) → AreAdds fs
AreAdds-end [] fs all = all
AreAdds-end (e ∷ es) fs all = AreAdds-end es fs all.1

AreAdds-map : (entry : ℕ → Entry) → ((q : ℕ) → AreAdds (entry q ∷ [])) → (qs : List ℕ)
    → AreAdds (map entry qs)
AreAdds-map entry add [] = tt
AreAdds-map entry add (q ∷ qs) = ((add q).0, AreAdds-map entry add qs)

pub AreAdds-frame : (member : ℕ) (bindings : List ℕ) (s : ℕ → ℤ) (channels card : ℕ)
    → AreAdds (frame_entries member bindings s channels card)
AreAdds-frame member bindings s channels card = AreAdds-map _ (λ q. (refl, tt)) (take channels (rising bindings))

pub AreAdds-frames : (frame : ℕ → List Entry) → ((j : ℕ) → AreAdds (frame j)) → (js : List ℕ) → AreAdds (flat_map frame js)
AreAdds-frames frame adds [] = tt
AreAdds-frames frame adds (j ∷ js) = AreAdds-append (frame j) (flat_map frame js) (adds j) (AreAdds-frames frame adds js)

pub AreAdds-segment : (c : PlaybackStream) (samples : List ℤ) → AreAdds (segment_entries c samples)
AreAdds-segment c samples =
    AreAdds-append _ _
    (AreAdds-frames _ (λ j. AreAdds-frame c.identity.member c.setup.bindings (λ q. sample_at samples (length c.setup.bindings) (c.stretch.source + j) q)
    (length c.setup.bindings) (c.stretch.card + j)) (range_with_len 0 c.stretch.committed))
    (AreAdds-frame c.identity.member c.setup.bindings (λ q. sample_at samples (length c.setup.bindings) (c.stretch.source + (0 + c.stretch.committed)) q)
    c.stretch.part (c.stretch.card + (0 + c.stretch.committed)))

module _ {S T : Type 0} (P : mixport.Ghosts S) (G : gates.Ghosts T) where
  -- a client that placed nothing and has nothing written, at a port whose standing adds end in nothing
  pub IsBacked-new : (p : S) (c : ClientView) (samples : List ℤ) → c.stream.stretch.written ≡ 0
      → c.stream.stretch.committed ≡ 0 → c.stream.stretch.part ≡ 0 → P.ends_in p []
      → IsBacked P.ends_in p c samples
  IsBacked-new p c samples none no_frame no_part stand = record {
    stands = λ j q low high in_range. absurd (omega (arith, high, none));
    segment = subst (P.ends_in p) (sym (
        ap (λ (k : ℕ). run_entries c.stream.identity.member c.stream.setup.bindings (λ j. sample_at samples (length c.stream.setup.bindings)
        (c.stream.stretch.source + j)) c.stream.stretch.card 0 k c.stream.stretch.part) no_frame
        ∙ ap (λ (k : ℕ). run_entries c.stream.identity.member c.stream.setup.bindings (λ j. sample_at samples (length c.stream.setup.bindings)
        (c.stream.stretch.source + j)) c.stream.stretch.card 0 0 k) no_part
        )) stand;
  }

  -- after a call that places entries
  pub IsBacked-grows : {X : Type 0} (s t : S × T) (c d : ClientView) (answer : Result X PcmError)
      (For : List ℤ → Type 0) (samples : List ℤ)
      → ((p q : S) (xs es : List Entry) → AreAdds es → P.laid p q es → P.ends_in p xs
      → P.ends_in q (xs ++ es))
      → Keeps P G s t c d answer For → For samples → IsBacked P.ends_in s.0 c samples
      → IsBacked P.ends_in t.0 d samples
  IsBacked-grows s t c d answer For samples held_laid keeps for is =
      let w = keeps.grows samples is.stands for in
      let adds : AreAdds w.entries = AreAdds-end (segment_entries c.stream samples) w.entries (subst AreAdds w.grown (AreAdds-segment d.stream samples)) in
      record {
        stands = keeps.stands samples is.stands for;
        segment = subst (P.ends_in t.0) (sym w.grown) (held_laid s.0 t.0 (segment_entries c.stream samples) w.entries adds w.laid_them is.segment);
      }

  -- after a rewind
  pub IsBacked-back : {X : Type 0} (s t : S × T) (c d : ClientView) (answer : Result X PcmError)
      (samples : List ℤ) → KeepsBack P G s t c d answer → IsBacked P.ends_in s.0 c samples
      → IsBacked P.ends_in t.0 d samples
  IsBacked-back s t c d answer samples keeps is = record {
    stands = keeps.stands samples is.stands;
    segment = (keeps.loses samples is.stands).away.held [] is.segment;
  }

  -- with its counts based anew
  pub IsBacked-rebased : (p : S) (c : PlaybackStream) (ring samples : List ℤ)
      → ((q : S) (xs ys : List Entry) → P.ends_in q (xs ++ ys) → P.ends_in q ys) → IsSoundClient c ring
      → c.status.state ≡ Paused
      → IsBacked P.ends_in p (record { stream = c; ring = ring }) samples
      → IsBacked P.ends_in p (record { stream = with_new_base c; ring = ring }) samples
  IsBacked-rebased p c ring samples part sound pauses is = record {
    stands = StandsFor-rebased c ring samples sound pauses is.stands;
    segment = part p (segment_entries c samples) [] (subst (P.ends_in p) (sym (append-nil (segment_entries c samples))) is.segment);
  }

  low-most : (k h : ℕ) → min k h ≤ k
  low-most k h = grind (arith, nat_tests)

  -- what a rewind asks
  pub IsBacked-held : (p : S) (c : ClientView) (samples : List ℤ)
      → ((q : S) (xs ys : List Entry) → P.ends_in q (xs ++ ys) → P.ends_in q ys)
      → IsSoundClient c.stream c.ring → c.stream.status.state ≡ Running → c.stream.status.stopped ≡ false
      → IsBacked P.ends_in p c samples → P.ends_in p (held_entries c.stream c.ring)
  IsBacked-held p c samples part sound runs going is =
      let d = c.stream in
      let m = sound.moving (ap is_moving runs) going in
      let bound = (sound.configured (sound.set_up (ap is_set_up runs))).bound in
      let s : ℕ → ℕ → ℤ = λ j. sample_at samples (length d.setup.bindings) (d.stretch.source + j) in
      let from : ℕ = min d.stretch.committed (hw_of d) in
      let most : from ≤ d.stretch.committed = low-most d.stretch.committed (hw_of d) in
      let split : segment_entries d samples ≡ run_entries d.identity.member d.setup.bindings s d.stretch.card 0 from 0 ++ run_entries d.identity.member
      d.setup.bindings s d.stretch.card from (d.stretch.committed - from) 0 =
      ap (λ (k : ℕ). run_entries d.identity.member d.setup.bindings s d.stretch.card 0 d.stretch.committed k) m.whole
      ∙ ap (λ (k : ℕ). run_entries d.identity.member d.setup.bindings s d.stretch.card 0 k 0)
      (let e : d.stretch.committed ≡ from + (d.stretch.committed - from) = omega (arith, most) in e)
      ∙ run_entries-append d.identity.member d.setup.bindings s d.stretch.card 0 from (d.stretch.committed - from) 0
      ∙ ap (λ (k : ℕ). run_entries d.identity.member d.setup.bindings s d.stretch.card 0 from 0 ++ run_entries d.identity.member d.setup.bindings s
      d.stretch.card k (d.stretch.committed - from) 0) (let e : 0 + from ≡ from = omega arith in e) in
      let same : held_entries d c.ring ≡ run_entries d.identity.member d.setup.bindings s d.stretch.card from (d.stretch.committed - from) 0 =
      run_entries-same d.identity.member d.setup.bindings (ring_sample d c.ring) s d.stretch.card from (d.stretch.committed - from) 0 bound
      (λ j q least below h. is.stands j q least (omega (arith, below, most, m.laid_most)) h) in
      subst (P.ends_in p) (sym same) (part p (run_entries d.identity.member d.setup.bindings s d.stretch.card 0 from 0) _
      (subst (P.ends_in p) split is.segment))
