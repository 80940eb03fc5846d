-- What a script says of the phase that comes next: its lines are such as its actors can be asked for, and the card's frames fit its rings.
use Rattle.std.specs.Prelude.{◌≡◌, ℕ, zero, suc, ◌+◌, ◌*◌, ◌≤◌, List, [], ◌∷◌, ◌++◌, length, take, All}
use Rattle.std.proofs.Common.{ap, subst, arith}
use Rattle.std.proofs.lemmas.List.Sums.{sum_by-cons}
use Rattle.wav_io.specs.Sound.{Sound}
use Rattle.lab_lines.specs.declared.line.Actor.{Actor}
use Rattle.lab_lines.specs.declared.line.Actor.TheVariants.{Card, Client, Reader}
use Rattle.lab_lines.specs.declared.line.Item.{Item}
use Rattle.lab_lines.specs.declared.line.Item.TheVariants as item
use Rattle.lab_lines.specs.declared.line.Line.{Line}
use Rattle.lab_lines.specs.declared.line.Op.{Op}
use Rattle.lab_lines.specs.declared.line.Op.TheVariants as op
use Rattle.lab_lines.specs.declared.script.Script.{Script}
use Rattle.lab_lines.specs.Limits.{IsItem, IsOpOf, IsPhase, IsScript}
use Rattle.lab_lines.specs.Script as scripts
use Rattle.lab_lines.specs.Script.{frames_played, phases_of, position_after_phases}
use Rattle.lab_run.specs.Phases.{played_in}
use Rattle.lab_run.specs.ScriptWords.{IsReached, PhasesAreOfScripts}
use Rattle.lab_run.specs.Stage.{Session, Stage}
use Rattle.lab_clients.specs.Lines.{IsFew}
use Rattle.lab_readers.specs.Lines.{IsFewRead}

-- what holds of each item of a list holds of one in the middle
All-middle : {X : Type 0} (P : X → Type 0) (xs : List X) (y : X) (ys : List X) → All P (xs ++ y ∷ ys) → P y
All-middle P [] y ys all = all 0 y (omega arith)
All-middle P (x ∷ xs) y ys all = All-middle P xs y ys (λ k d inside. all (suc k) d (omega (arith, inside)))

-- the next phase of a script is one that its actors can be asked for
pub IsPhase-next : (script : Script) (done others : List Item) (lines : List Line) → IsScript script → script.body ≡ done ++ item.Phase lines ∷ others
    → IsPhase (length script.clients) (length script.readers) lines
IsPhase-next script done others lines is body =
    All-middle (IsItem (length script.clients) (length script.readers)) done (item.Phase lines) others
    (subst (λ (items : List Item). All (IsItem (length script.clients) (length script.readers)) items) body is.body)

IsFew-op : (who : Actor) (asked : Op) → IsOpOf who asked → IsFew asked
IsFew-op Card (op.Write frames) may = absurd may
IsFew-op (Client n) (op.Write frames) may = may
IsFew-op (Reader n) (op.Write frames) may = absurd may
IsFew-op who asked may = tt

IsFewRead-op : (who : Actor) (asked : Op) → IsOpOf who asked → IsFewRead asked
IsFewRead-op Card (op.Read frames) may = absurd may
IsFewRead-op (Client n) (op.Read frames) may = absurd may
IsFewRead-op (Reader n) (op.Read frames) may = may
IsFewRead-op who asked may = tt

pub IsFew-lines : (clients readers : ℕ) (lines : List Line) → IsPhase clients readers lines → All (λ (line : Line). IsFew line.op) lines
IsFew-lines clients readers lines is k d inside =
    let line : Line = Rattle.std.specs.Prelude.slice_index_or lines k d in IsFew-op line.actor line.op (is.each k d inside).op

pub IsFewRead-lines : (clients readers : ℕ) (lines : List Line) → IsPhase clients readers lines → All (λ (line : Line). IsFewRead line.op) lines
IsFewRead-lines clients readers lines is k d inside =
    let line : Line = Rattle.std.specs.Prelude.slice_index_or lines k d in IsFewRead-op line.actor line.op (is.each k d inside).op

-- so many phases play no more frames than all
frames_played-take : (n : ℕ) (phases : List (List Line)) → frames_played (take n phases) ≤ frames_played phases
frames_played-take zero phases = omega arith
frames_played-take (suc n) [] = omega arith
frames_played-take (suc n) (lines ∷ phases) =
    let rest = frames_played-take n phases in
    let few : frames_played (take (suc n) (lines ∷ phases)) ≡ scripts.played_in lines + frames_played (take n phases) = sum_by-cons scripts.played_in lines (take n phases) in
    let all : frames_played (lines ∷ phases) ≡ scripts.played_in lines + frames_played phases = sum_by-cons scripts.played_in lines phases in
    omega (arith, rest, few, all)

-- the card's frames of the next phase are before its rings' end
pub FitsRing-next : (script : Script) (wavs : List Sound) (session : Session) (done others : List Item) (lines : List Line) (stage : Stage) → PhasesAreOfScripts
    → IsReached script wavs session done (item.Phase lines ∷ others) stage → stage.position + played_in lines ≤ 4294967295 * session.ring.frames
FitsRing-next script wavs session done others lines stage laws is =
    let rules = laws script wavs session done others lines stage is in
    let at : stage.position + played_in lines ≡ position_after_phases script (stage.phases + 1) = rules.position in
    let few = frames_played-take (stage.phases + 1) (phases_of script.body) in
    let laps = is.script_is.laps in
    let ring : session.ring.frames ≡ script.card.ring = is.session_is.ring.frames in
    let end : 4294967295 * session.ring.frames ≡ 4294967295 * script.card.ring = ap (λ (n : ℕ). 4294967295 * n) ring in
    omega (arith, at, few, laps, end)
