-- How the segments of a client grow and end by what its port placed.
use Rattle.lab_clients.specs.Prelude.{ap, append_assoc, arith, length, List, refl, subst, sym, ℕ, [], ◌++◌, ◌+◌, ◌∙◌, ◌∷◌, ◌≡◌, nat_tests, ints, append-nil}
use Rattle.lab_clients.specs.Prelude.{flat_map, fold, Bool, false, if◌then◌else◌, nat_eq, true, ℤ, ◌&&◌, Segment, Composes, Entry, total-append, AreAdds}
use Rattle.lab_clients.specs.Prelude.{stand_after, total, PlaybackStream, segment_of, Grows, Loses, segment_entries, AreAdds-end, AreAdds-segment, stretch_of}
use Rattle.lab_clients.specs.Prelude.{entries_by, ExtendsStretches, stretches_entries}
use Rattle.std.proofs.lemmas.List.Concat.{flat_map-append}
use Rattle.std.proofs.lemmas.List.Sums.{fold-append}
use Rattle.mix_core.specs.PortLaws.{standing-adds}
use Rattle.dmix_client.specs.Expansion.{run_entries, sample_at}
use Rattle.mix_core.specs.declared.port.MixPort as mixport

-- a stretch in which nothing was placed has no entries
none-laid : (c : PlaybackStream) (samples : List ℤ) → c.stretch.committed ≡ 0 → c.stretch.part ≡ 0 → segment_entries c samples ≡ []
none-laid c samples no_frame no_part = grind (arith, nat_tests)

-- the entries of a stretch are those of its segment, where it has one
stretch-entries : (c : PlaybackStream) (samples : List ℤ) → flat_map (entries_by c samples) (stretch_of c) ≡ segment_entries c samples
stretch-entries c samples = by_test (nat_eq c.stretch.committed 0 && nat_eq c.stretch.part 0) refl
  where
    by_test : (test : Bool) → (nat_eq c.stretch.committed 0 && nat_eq c.stretch.part 0) ≡ test
        → flat_map (entries_by c samples) (if test then [] else segment_of c ∷ []) ≡ segment_entries c samples
    by_test true none = sym (none-laid c samples (grind (arith, nat_tests, none)) (grind (arith, nat_tests, none)))
    by_test false some = append-nil (segment_entries c samples)

-- the entries of segments are the same for a client of the same member and bindings
same-entries : (c d : PlaybackStream) (samples : List ℤ) (segments : List Segment) → d.identity.member ≡ c.identity.member → d.setup.bindings ≡ c.setup.bindings
    → flat_map (entries_by c samples) segments ≡ flat_map (entries_by d samples) segments
same-entries c d samples [] member bindings = refl
same-entries c d samples (segment ∷ segments) member bindings =
    let one : entries_by c samples segment ≡ entries_by d samples segment =
    ap (λ (m : ℕ). run_entries m c.setup.bindings (λ j. sample_at samples (length c.setup.bindings) (segment.source + j)) segment.card 0 segment.whole segment.part) (sym member)
    ∙ ap (λ (bs : List ℕ). run_entries d.identity.member bs (λ j. sample_at samples (length bs) (segment.source + j)) segment.card 0 segment.whole segment.part) (sym bindings) in
    let rest = same-entries c d samples segments member bindings in
    ap (λ (es : List Entry). es ++ flat_map (entries_by c samples) segments) one ∙ ap (λ (es : List Entry). entries_by d samples segment ++ es) rest

module _ {S : Type 0} (P : mixport.Ghosts S) (composes : Composes P.laid) where
  -- nothing was placed, and the entries are the same
  pub ExtendsStretches-still : (p : S) (c d : PlaybackStream) (samples : List ℤ) (ended : List Segment) → segment_entries c samples ≡ stretches_entries d samples ended
      → d.identity.member ≡ c.identity.member → d.setup.bindings ≡ c.setup.bindings → ExtendsStretches P samples p p c d ended
  ExtendsStretches-still p c d samples ended same member bindings = grind (arith, nat_tests)

  -- the stretch ended
  pub ExtendsStretches-ended : (p : S) (c d : PlaybackStream) (samples : List ℤ) → stretches_entries d samples (stretch_of c) ≡ flat_map (entries_by c samples) (stretch_of c) ++ []
      → d.identity.member ≡ c.identity.member → d.setup.bindings ≡ c.setup.bindings → ExtendsStretches P samples p p c d (stretch_of c)
  ExtendsStretches-ended p c d samples same = ExtendsStretches-still p c d samples (stretch_of c) (sym (same ∙ append-nil (flat_map (entries_by c samples) (stretch_of c)) ∙ stretch-entries c samples))

  -- a segment grew by what was placed
  pub ExtendsStretches-grows : (p q : S) (c d : PlaybackStream) (samples : List ℤ)
      → ((p q : S) (xs es : List Entry) → AreAdds es → P.laid p q es → P.ends_in p xs → P.ends_in q (xs ++ es))
      → Grows P.laid p q c d samples → ExtendsStretches P samples p q c d []
  ExtendsStretches-grows p q c d samples held_laid w =
      let adds : AreAdds w.entries = AreAdds-end (segment_entries c samples) w.entries (subst AreAdds w.grown (AreAdds-segment d samples)) in
      let more : (early : List Entry) → (early ++ segment_entries c samples) ++ w.entries ≡ early ++ segment_entries d samples =
      λ early. append_assoc early (segment_entries c samples) w.entries ∙ ap (λ (es : List Entry). early ++ es) (sym w.grown) in
      record {
        away = record {
          entries = w.entries;
          laid_them = w.laid_them;
          lost = λ early. standing-adds (early ++ segment_entries c samples) w.entries adds ∙ more early;
          held = λ early held. subst (P.ends_in q) (more early) (held_laid p q (early ++ segment_entries c samples) w.entries adds w.laid_them held);
          totals = λ f k.
              sym (total-append (segment_entries c samples) w.entries f k) ∙ ap (λ (es : List Entry). total es f k) (sym w.grown);
        };
        same_member = w.same_member;
        same_bindings = w.same_bindings;
      }

  -- a segment lost what was withdrawn
  pub ExtendsStretches-back : (p q : S) (c d : PlaybackStream) (samples : List ℤ) → Loses P.laid P.ends_in p q c d samples → ExtendsStretches P samples p q c d []
  ExtendsStretches-back p q c d samples loses = record { away = loses.away; same_member = loses.same_member; same_bindings = loses.same_bindings }

  -- one after the other
  pub ExtendsStretches-joined : (p q r : S) (c d e : PlaybackStream) (samples : List ℤ) (ended others : List Segment) → ExtendsStretches P samples p q c d ended → ExtendsStretches P samples q r d e others
      → ExtendsStretches P samples p r c e (ended ++ others)
  ExtendsStretches-joined p q r c d e samples ended others first later =
      let one = first.away in
      let two = later.away in
      let old : List Entry = flat_map (entries_by d samples) ended in
      let was : List Entry = segment_entries d samples in
      let is : old ++ stretches_entries e samples others ≡ stretches_entries e samples (ended ++ others) =
      ap (λ (es : List Entry). es ++ stretches_entries e samples others) (same-entries d e samples ended later.same_member later.same_bindings)
      ∙ sym (append_assoc (flat_map (entries_by e samples) ended) (flat_map (entries_by e samples) others) (segment_entries e samples))
      ∙ ap (λ (es : List Entry). es ++ segment_entries e samples) (sym (flat_map-append (entries_by e samples) ended others)) in
      let there : (early : List Entry) → (early ++ old) ++ stretches_entries e samples others ≡ early ++ stretches_entries e samples (ended ++ others) =
      λ early. append_assoc early old (stretches_entries e samples others) ∙ ap (λ (es : List Entry). early ++ es) is in
      record {
        away = record {
          entries = one.entries ++ two.entries;
          laid_them = composes.joined p q r one.entries two.entries one.laid_them two.laid_them;
          lost = λ early.
              fold-append stand_after (early ++ segment_entries c samples) one.entries two.entries
              ∙ ap (λ (held : List Entry). fold stand_after held two.entries) (one.lost early ∙ sym (append_assoc early old was))
              ∙ two.lost (early ++ old)
              ∙ there early;
          held = λ early held. subst (P.ends_in r) (there early)
              (two.held (early ++ old) (subst (P.ends_in q) (sym (append_assoc early old was)) (one.held early held)));
          totals = λ f k.
              let all = ap (λ (es : List Entry). total es f k) is in
              omega (
                arith,
                ints,
                all,
                total-append one.entries two.entries f k,
                total-append old was f k,
                total-append old (stretches_entries e samples others) f k,
                one.totals f k,
                two.totals f k,
              );
        };
        same_member = later.same_member ∙ first.same_member;
        same_bindings = later.same_bindings ∙ first.same_bindings;
      }
