-- How a client's segment grows by what a commit places, and which samples the client represents then.
use Rattle.dmix_client.specs.Prelude.{ap, arith, length, List, sym, zero-add, ℕ, ◌*◌, ◌++◌, ◌+◌, ◌<◌, ◌∙◌, ◌≡◌, ◌≤◌, nat_tests, min, unwrap_or, ℤ, AreBindings}
use Rattle.dmix_client.specs.Prelude.{Prepared, Status, Entry, Commit, PlaybackStream, accepted_if, Answered, taken_of, window_end, run_entries, sample_at}
use Rattle.dmix_client.specs.Prelude.{run_entries-append, run_entries-same, Follows, segment_entries, StandsFor, StandsUpTo, hw_of, IsSoundClient, ring_sample}
use Rattle.dmix_client.specs.Prelude.{ring_with}
use Rattle.dmix_client.proofs.Sound.{CommitsAs, after, configured-prepared, count-below, min-later, used-below}
use Rattle.dmix_client.proofs.Storing.{StandsUpTo-written}

-- the client after a commit represents the same samples
pub StandsFor-after : (c b : PlaybackStream) (ring samples : List ℤ) (x : Commit) (count upto : ℕ) (s : Status) (written fed : ℕ)
    → CommitsAs c b ring x count upto → written ≤ upto → StandsUpTo c ring samples upto
    → StandsFor (after c b x s written fed) ring samples
StandsFor-after c b ring samples x count upto s written fed y few stands j q low high in_range =
    stands j q (omega (arith, low, min-later c.stretch.committed (hw_of c) x.frames (hw_of b) y.later)) (omega (arith, high, few)) in_range

-- whole frames that are elsewhere are the same where there are none
whole-at : (member : ℕ) (bindings : List ℕ) (s : ℕ → ℕ → ℤ) (card at n part : ℕ) → part ≡ 0 → (0 < n → at ≡ card)
    → run_entries member bindings s at 0 n 0 ≡ run_entries member bindings s card 0 n part
whole-at member bindings s card at n part none same = grind (arith, nat_tests)

-- what a commit placed of a local ring
abbrev pub laid_at : PlaybackStream → PlaybackStream → List ℤ → Commit → List Entry
laid_at c b ring x = run_entries c.identity.member c.setup.bindings (ring_sample c ring) b.stretch.card c.stretch.committed x.frames x.part

-- the entries of the segment grow by that
pub segment_entries-after : (c b : PlaybackStream) (ring samples : List ℤ) (x : Commit) (count upto : ℕ) (s : Status) (written fed : ℕ)
    → CommitsAs c b ring x count upto → AreBindings c.setup.bindings → StandsUpTo c ring samples upto
    → segment_entries (after c b x s written fed) samples ≡ segment_entries c samples ++ laid_at c b ring x
segment_entries-after c b ring samples x count upto s written fed y bound stands =
    let sample : ℕ → ℕ → ℤ = λ j. sample_at samples (length c.setup.bindings) (c.stretch.source + j) in
    let below = count-below upto (window_end c.identity.geometry (unwrap_or b.seen 0)) b.stretch.card c.stretch.committed in
    let within = used-below x.ended c.stretch.committed x.frames x.part count (length c.setup.bindings) upto y.commit_is (omega (arith, y.few, below)) y.low in
    let rest : run_entries c.identity.member c.setup.bindings sample b.stretch.card (0 + c.stretch.committed) x.frames x.part ≡ laid_at c b ring x =
    ap (λ (n : ℕ). run_entries c.identity.member c.setup.bindings sample b.stretch.card n x.frames x.part) (zero-add c.stretch.committed)
    ∙ sym (run_entries-same c.identity.member c.setup.bindings (ring_sample c ring) sample b.stretch.card c.stretch.committed x.frames x.part bound
    (λ j q least most h. stands j q (low-at c.stretch.committed (hw_of c) j least) (omega (arith, most, within)) h)) in
    run_entries-append c.identity.member c.setup.bindings sample b.stretch.card 0 c.stretch.committed x.frames x.part
    ∙ ap (λ (es : List Entry). es ++ run_entries c.identity.member c.setup.bindings sample b.stretch.card (0 + c.stretch.committed) x.frames x.part)
    (whole-at c.identity.member c.setup.bindings sample c.stretch.card b.stretch.card c.stretch.committed c.stretch.part y.whole y.card)
    ∙ ap (λ (es : List Entry). segment_entries c samples ++ es) rest
  where
    low-at : (k h j : ℕ) → k ≤ j → min k h ≤ j
    low-at k h j least = grind (arith, nat_tests)

pub laid_at-none : (c b : PlaybackStream) (ring : List ℤ) (x : Commit) → x.frames ≡ 0 → x.part ≡ 0
    → laid_at c b ring x ≡ laid_at c b ring (record { frames = 0; part = 0; ended = x.ended })
laid_at-none c b ring x no_frame no_part = grind (arith, nat_tests)

-- no frame more is accepted
pub accepted-none : (a : Answered (Unit {0})) → (accepted_if 0 a).0 ≡ a.0
accepted-none a = grind (arith, nat_tests)

-- ---- a client that stored the frames of a write represents its samples up to these

prepared_fits : (w b h k : ℕ) → w ≤ b → h ≡ 0 → (w ≤ h + b) × (min w h ≤ k)
prepared_fits w b h k fits none = (omega (arith, fits, none), grind (arith, nat_tests))

pub StandsUpTo-filled : (c : PlaybackStream) (ring samples offered : List ℤ) (n : ℕ) → IsSoundClient c ring → c.status.state ≡ Prepared
    → n * length c.setup.bindings ≤ length offered
    → StandsFor c ring samples → Follows c samples offered n → StandsUpTo c (ring_with c ring offered (taken_of c n)) samples (c.stretch.written + taken_of c n)
StandsUpTo-filled c ring samples offered n sound waits held_all stands follows =
    let p = sound.prepared waits in
    let fit = prepared_fits c.stretch.written c.setup.config.buffer_size (hw_of c) c.stretch.committed p.fits (let waits_still = p.waiting in cc) in
    StandsUpTo-written c ring samples offered n (configured-prepared c ring sound waits) held_all fit.0 fit.1 stands follows
