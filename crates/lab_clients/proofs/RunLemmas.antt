-- Clients with their gates, one after the other: a client that did its lines asked its own gate alone.
use Rattle.lab_clients.specs.Prelude.{arith, length, List, subst, ℕ, ◌+◌, ◌∙◌, ◌≡◌, ◌≤◌, get_or-set_other, get_or_default, length-set, slice_index_or}
use Rattle.lab_clients.specs.Prelude.{slice_set, ◌<◌, ◌≢◌, Sound, Line, AsksGate, no_sound, AreEach, HasWalked, HasWalked-map, HasWalked-step, LabClient}
use Rattle.lab_clients.specs.Prelude.{RunsLines, AreSameFrom, RunsAt, sound_at}
use Rattle.std.specs.Borrow.{MutBor}
use denote.Param.Members.{Shared}
use Rattle.lab_actors.specs.Gates.{AsksGateAt, AsksGateAt-index, AsksGateAt-other, AsksGateAt-set}
use Rattle.lab_actors.specs.Pairs.{AreEach-changed, ChangesPair, ChangesPair-holds, ChangesPairs}
use Rattle.mix_core.specs.declared.gate.Gate as gate

-- the clients up to a place did their lines, and the gates from there on are as they were
pub record HaveRun {T : Type 0} (G : gate.Ghosts T) (before after : List T) (sounds : List Sound) (phase : ℕ) (lines : List Line) (old new : List LabClient) (to : ℕ) : Type 0 where
  pub walked : HasWalked (RunsAt G before after sounds phase lines) old new to
  pub gates : length after ≡ length before
  pub others : AreSameFrom to before after

-- the next client does its lines with the gate of its number
pub HaveRun-next : {T : Type 0} (G : gate.Ghosts T) (before after : List T) (sounds : List Sound) (phase : ℕ) (lines : List Line) (old new : List LabClient) (to : ℕ) (g h : T) (d e : LabClient)
    (s : Sound) → HaveRun G before after sounds phase lines old new to → to < length old → to < length before → to < length sounds → s ≡ slice_index_or sounds to s → d ≡ slice_index_or new to d
    → AsksGate G (slice_index_or after to g) h (λ stops later asks. RunsLines stops later asks phase s lines d e)
    → HaveRun G before (slice_set after to h) sounds phase lines old (slice_set new to e) (to + 1)
HaveRun-next G before after sounds phase lines old new to g h d e s so_far inside gated filed file is run =
    let len = so_far.gates in
    let within : to < length after = omega (arith, gated, len) in
    let own : RunsAt G before (slice_set after to h) sounds phase lines to d e =
    subst (λ (x : Sound). AsksGateAt G before (slice_set after to h) to (λ stops later asks. RunsLines stops later asks phase x lines d e))
    (file ∙ get_or_default sounds to s no_sound filed)
    (AsksGateAt-set G before after to g h (λ stops later asks. RunsLines stops later asks phase s lines d e) gated within (so_far.others to g (omega arith)) run) in
    record {
      walked = HasWalked-step (RunsAt G before (slice_set after to h) sounds phase lines) old new to e d inside
          (HasWalked-map (RunsAt G before after sounds phase lines) (RunsAt G before (slice_set after to h) sounds phase lines) old new to
          (λ i x y below ran.
          let other : i ≢ to = λ same. omega (arith, below, same) in
          AsksGateAt-other G before after i to h (λ stops later asks. RunsLines stops later asks phase (sound_at sounds i) lines x y) other ran)
          so_far.walked)
          (subst (λ (x : LabClient). RunsAt G before (slice_set after to h) sounds phase lines to x e) is own);
      gates = length-set after to h ∙ len;
      others = λ i e from.
          let other : i ≢ to = λ same. omega (arith, from, same) in
          get_or-set_other after to i h e other ∙ so_far.others i e (omega (arith, from));
    }

-- calls on each client with its gate, of a function that does the client's lines
pub AreEach-pairs : {F T : Type 0} (fn : Shared F (ℕ × (MutBor LabClient × (MutBor T × Unit {0}))) ((Unit {0}) × (MutBor LabClient × (MutBor T × Unit {0})))) (f : F) (G : gate.Ghosts T)
    (before after : List T) (sounds : List Sound) (phase : ℕ) (lines : List Line) (old new : List LabClient) → length old ≤ length before → ChangesPairs fn f old new before after
    → ((i : ℕ) (p : MutBor LabClient) (q : MutBor T) (p' : MutBor LabClient) (q' : MutBor T) → fn.post f (i, (p, (q, tt))) (tt, (p', (q', tt)))
    → AsksGate G q.now q'.now (λ stops later asks. RunsLines stops later asks phase (sound_at sounds i) lines p.now p'.now))
    → AreEach (RunsAt G before after sounds phase lines) 0 old new
AreEach-pairs fn f G before after sounds phase lines old new long pairs runs =
    AreEach-changed (ChangesPair fn f) (RunsAt G before after sounds phase lines) old new before after long pairs
    (λ i d g inside pair.
    let x = slice_index_or old i d in
    let y = slice_index_or new i d in
    let sound = sound_at sounds i in
    let len = pairs.gates_len in
    AsksGateAt-index G before after i g (λ stops later asks. RunsLines stops later asks phase sound lines x y) (omega (arith, inside, long)) (omega (arith, inside, long, len))
    (ChangesPair-holds fn f (λ x' g' y' h'. AsksGate G g' h' (λ stops later asks. RunsLines stops later asks phase sound lines x' y')) i x (slice_index_or before i g) y (slice_index_or after i g)
    (runs i) pair))
