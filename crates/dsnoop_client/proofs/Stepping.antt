-- What the calls that load the position, and a read, did, by the courses that they took.
use Rattle.dsnoop_client.specs.Prelude.{ap, arith, drop, length, List, refl, subst, sym, ℕ, [], ◌*◌, ◌++◌, ◌∙◌, ◌≡◌, ◌≤◌, nat_tests, Bool, Err, false, IfOk}
use Rattle.dsnoop_client.specs.Prelude.{if◌then◌else◌, IsErrAnd, nat_eq, Ok, OnOk, Result, true, ℤ, PcmError, Again, Geometry, Composes, Composes-none_before}
use Rattle.dsnoop_client.specs.Prelude.{Call, AsksCompose, Got, GetsAtSnoop, LoadsAtSnoop, NoLay, TakesAtSnoop, ends, Takes-parts, CaptureStream, Answered}
use Rattle.dsnoop_client.specs.Prelude.{read_after, taken_of, waits, gets_frames, reads_first, reads_on, starts, syncs, transfer_on, transfers, IsLookNumber}
use Rattle.dsnoop_client.specs.Prelude.{AreFrames, GivesFrames, through_all, CanUse, HasRoom, IsGoing, IsSoundReader, IsStart, IsSync}
use Rattle.pcm_stream.specs.declared.setup.Setup.{Setup}
use Rattle.dsnoop_client.proofs.CameTo.{gets_frames-come}
use Rattle.dsnoop_client.proofs.Explaining.{After, NeverOvertaken, same_error, start-after, sync-after, explained-error, why-error}
use Rattle.dsnoop_client.proofs.Reading.{IsReadExplained, read-explained}
use Rattle.mix_core.specs.declared.gate.Gate as gates
use Rattle.pcm_states.specs.declared.states.State.TheVariants as state
use Rattle.pcm_states.specs.declared.calls.Call.TheVariants as call
use Rattle.snoop_core.specs.declared.port.SnoopPort as snoopport

no-looks : (e : PcmError) (next channels n : ℕ) → NeverOvertaken e → IsLookNumber (Err e) next channels n 0
no-looks other next channels n never = grind (arith, nat_tests)

module _ {S T : Type 0} (P : snoopport.Ghosts S) (G : gates.Ghosts T) where
  pub syncs-after : (s t : S × T) (c : CaptureStream) (k : Call) (done : Answered (Unit {0})) → IsSoundReader c → c.status.state ≡ state.Running
      → c.status.stopped ≡ false → IsSync k
      → CanUse c (P.view s.0) → TakesAtSnoop P G s (syncs c k) t done → After P G s t c done
  unfolding syncs
  syncs-after s t c k done sound runs unstopped sync can (load, m, step, rest) =
      subst (λ (u : S × T). After P G s u c done) (sym rest.there) (sync-after P G s m c k load done sound runs unstopped sync can step rest.result)

  pub starts-after : (s t : S × T) (c : CaptureStream) (k : Call) (done : Answered (Unit {0})) → IsSoundReader c → c.status.state ≡ state.Prepared
      → c.status.stopped ≡ false → IsStart k
      → CanUse c (P.view s.0) → TakesAtSnoop P G s (starts c k) t done → After P G s t c done
  unfolding starts
  starts-after s t c k done sound waits unstopped start can (load, m, step, rest) =
      subst (λ (u : S × T). After P G s u c done) (sym rest.there) (start-after P G s m c k load done sound waits unstopped start can step rest.result)

  -- a load of the position gets no frame
  pub syncs-none : (s t : S × T) (c : CaptureStream) (k : Call) (done : Answered (Unit {0})) → TakesAtSnoop P G s (syncs c k) t done → P.got s.0 t.0 []
  unfolding syncs
  syncs-none s t c k done (load, m, step, rest) = subst (λ (u : S × T). P.got s.0 u.0 []) (sym rest.there) step.got_nothing

  pub starts-none : (s t : S × T) (c : CaptureStream) (k : Call) (done : Answered (Unit {0})) → TakesAtSnoop P G s (starts c k) t done → P.got s.0 t.0 []
  unfolding starts
  starts-none s t c k done (load, m, step, rest) = subst (λ (u : S × T). P.got s.0 u.0 []) (sym rest.there) step.got_nothing

  -- a reader that went on is ready to read
  pub After-going : (s t : S × T) (c u : CaptureStream) (answer : Result (Unit {0}) PcmError) → After P G s t c (u, answer)
      → OnOk answer (IsGoing u (P.view t.0))
  After-going s t c u answer after = grind (arith, nat_tests)

  -- what followed the load of a read
  transfer_on-explained : Composes P.loaded → AsksCompose G.asked
      → (s m t : S × T) (c : CaptureStream) (first : Answered (Unit {0})) (n : ℕ) (d : Answered ℕ) → After P G s m c first
      → TakesAtSnoop P G m (transfer_on n first) t d → IsReadExplained P G s t c d.0 n d.1
  unfolding transfers explained-error why-error
  transfer_on-explained composes asks s m t c (u, Ok done) n d after takes =
      let parts = Takes-parts (LoadsAtSnoop P G) NoLay (GetsAtSnoop P G) m t (gets_frames (taken_of u n) u.next)
      (λ (end : ℕ × Got). ends (read_after u n end.0 end.1)) d takes in
      subst (λ (w : S × T). IsReadExplained P G s w c d.0 n d.1) (sym parts.3.there)
      (subst (λ (x : Answered ℕ). IsReadExplained P G s parts.0 c x.0 n x.1) (sym parts.3.result)
      (read-explained P G composes asks s m parts.0 c u after.went.0 after.went.1 after.asked n (taken_of u n) parts.1.0 parts.1.1 refl
      (gets_frames-come P G composes asks (taken_of u n) u.next m parts.0 parts.1.0 parts.1.1 parts.2)))
  transfer_on-explained composes asks s m t c (u, Err e) n d after takes =
      subst (λ (w : S × T). IsReadExplained P G s w c d.0 n d.1) (sym takes.there)
      (subst (λ (x : Answered ℕ). IsReadExplained P G s m c x.0 n x.1) (sym takes.result) (record {
        told = explained-error P G s m c u e after.told;
        again = (λ h. absurd (after.ended.1 (same_error {T = ℕ} e Again h)), λ h. absurd (after.ended.0 h.1));
        asks = record { looks = 0; looks_number = no-looks e u.next u.geometry.channels n after.ended.2; asked_them = after.asked };
      }))

  pub reads_on-explained : Composes P.loaded → AsksCompose G.asked → (s t : S × T) (c : CaptureStream) (n : ℕ) (d : Answered ℕ) → IsSoundReader c
      → c.status.state ≡ state.Running → c.status.stopped ≡ false
      → CanUse c (P.view s.0) → TakesAtSnoop P G s (reads_on c n) t d → IsReadExplained P G s t c d.0 n d.1
  unfolding reads_on
  reads_on-explained composes asks s t c n d sound runs unstopped can takes =
      let parts = Takes-parts (LoadsAtSnoop P G) NoLay (GetsAtSnoop P G) s t (syncs c call.Transfer) (transfer_on n) d takes in
      transfer_on-explained composes asks s parts.0 t c parts.1 n d (syncs-after s parts.0 c call.Transfer parts.1 sound runs unstopped tt can parts.2) parts.3

  pub reads_first-explained : Composes P.loaded → AsksCompose G.asked → (s t : S × T) (c : CaptureStream) (n : ℕ) (d : Answered ℕ) → IsSoundReader c
      → c.status.state ≡ state.Prepared → c.status.stopped ≡ false
      → CanUse c (P.view s.0) → TakesAtSnoop P G s (reads_first c n) t d → IsReadExplained P G s t c d.0 n d.1
  unfolding reads_first
  reads_first-explained composes asks s t c n d sound waits unstopped can takes =
      let parts = Takes-parts (LoadsAtSnoop P G) NoLay (GetsAtSnoop P G) s t (starts c call.Transfer) (transfer_on n) d takes in
      transfer_on-explained composes asks s parts.0 t c parts.1 n d (starts-after s parts.0 c call.Transfer parts.1 sound waits
      unstopped tt can parts.2) parts.3

-- what a reader of one ring and setup has room for
pub HasRoom-same : (c d : CaptureStream) (room : List ℤ) → d.geometry ≡ c.geometry → d.setup ≡ c.setup → HasRoom c room → HasRoom d room
HasRoom-same c d room same_ring same_setup holds is =
    holds (subst (λ (x : Setup). x.configured ≡ true) same_setup is) ∙ ap (λ (x : Geometry). x.channels) (sym same_ring)

pub fits-same : (c d : CaptureStream) (frames samples : ℕ) → d.setup ≡ c.setup → frames * length c.setup.bindings ≤ samples
    → frames * length d.setup.bindings ≤ samples
fits-same c d frames samples same_setup fits = subst (λ (x : Setup). frames * length x.bindings ≤ samples) (sym same_setup) fits

-- a call that did nothing, and got no frame
pub reads-none : {S : Type 0} (P : snoopport.Ghosts S) (p q : S) (c d : CaptureStream) (out after : List ℤ) (e : PcmError) → P.got p q []
    → (c.status.state ≡ state.Running → d.next ≡ c.next) → GivesFrames P p q c d out after (Err e)
reads-none P p q c d out after e nothing stays = record {
  first = d.next;
  begins = stays;
  next_is = omega arith;
  frames = [];
  got_them = nothing;
  are = record { numbers = refl; whole = λ k f within. absurd (omega (arith, within)) };
  count = tt;
  samples = tt;
}

-- frames that were got after a load of the position
pub reads-behind : {S : Type 0} (P : snoopport.Ghosts S) → Composes P.got
    → (p m q : S) (c u d : CaptureStream) (before after : List ℤ) (answer : Result ℕ PcmError) → P.got p m [] → u.geometry ≡ c.geometry → u.setup ≡ c.setup
    → u.status.state ≡ state.Running → (c.status.state ≡ state.Running → u.next ≡ c.next) → GivesFrames P m q u d before after answer
    → GivesFrames P p q c d before after answer
reads-behind P composes p m q c u d before after answer nothing same_ring same_setup runs stays reads = record {
  first = reads.first;
  begins = λ is. reads.begins runs ∙ stays is;
  next_is = reads.next_is;
  frames = reads.frames;
  got_them = Composes-none_before P.got p m q reads.frames composes nothing reads.got_them;
  are = subst (λ (g : Geometry). AreFrames reads.frames reads.first g.channels) same_ring reads.are;
  count = reads.count;
  samples = subst (λ (x : Setup). IfOk answer (λ n. after ≡ through_all x.bindings reads.frames ++ drop (n * length x.bindings) before))
      same_setup reads.samples;
}

-- a read that waits gives nothing
reads-if_waits : {S : Type 0} (P : snoopport.Ghosts S) → Composes P.got → (p : S) (c : CaptureStream) (out : List ℤ) (none : Bool)
    → GivesFrames P p p c c out out (if none then Ok 0 else Err Again)
reads-if_waits P composes p c out true = record {
  first = c.next;
  begins = λ runs. refl;
  next_is = omega arith;
  frames = [];
  got_them = composes.none p;
  are = record { numbers = refl; whole = λ k f within. absurd (omega (arith, within)) };
  count = refl;
  samples = ap (λ (n : ℕ). drop n out) (let none : 0 ≡ 0 * length c.setup.bindings = omega arith in none);
}
reads-if_waits P composes p c out false = reads-none P p p c c out out Again (composes.none p) (λ runs. refl)

pub reads-waits : {S : Type 0} (P : snoopport.Ghosts S) → Composes P.got → (p : S) (c : CaptureStream) (out : List ℤ) (n : ℕ) (answer : Result ℕ PcmError)
    → answer ≡ waits n → GivesFrames P p p c c out out answer
reads-waits P composes p c out n answer is =
    subst (λ (r : Result ℕ PcmError). GivesFrames P p p c c out out r) (sym is) (reads-if_waits P composes p c out (nat_eq n 0))

-- a read that was refused gives nothing
pub reads-refused : {S : Type 0} (P : snoopport.Ghosts S) → Composes P.got
    → (p : S) (c : CaptureStream) (out : List ℤ) (e : PcmError) (answer : Result ℕ PcmError) → IsErrAnd answer (λ f. f ≡ e)
    → GivesFrames P p p c c out out answer
reads-refused P composes p c out e (Ok n) is = absurd is
reads-refused P composes p c out e (Err f) is = reads-none P p p c c out out f (composes.none p) (λ runs. refl)
