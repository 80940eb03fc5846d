-- A run has as many clients and readers at each stage as its session.
use Rattle.std.specs.Prelude.{◌≡◌, ℕ, suc, ◌+◌, List, [], ◌∷◌, length, map}
use Rattle.std.proofs.Common.{refl, ap, ◌∙◌}
use Rattle.lab_lines.specs.declared.line.Actor.TheVariants as actor
use Rattle.lab_lines.specs.declared.line.Item.{Item}
use Rattle.lab_lines.specs.declared.line.Item.TheVariants as item
use Rattle.lab_lines.specs.declared.line.Line.{Line}
use Rattle.lab_lines.specs.declared.line.Op.{Op}
use Rattle.lab_lines.specs.declared.row.Row.{Row}
use Rattle.lab_run.specs.Items.{ItemMay, ItemsMay, PhaseMay, client_kinds, reader_kinds, reaped_client, reaped_reader, rules_of}
use Rattle.lab_run.specs.Phases.{is_client, is_reader, ops_by}
use Rattle.lab_run.specs.Lines.{EachMay, Kind}
use Rattle.lab_run.specs.Rules.{AtPort, Rules}
use Rattle.lab_run.specs.Stage.{Session, Stage, first_stage, no_client, no_reader}
use Rattle.lab_phase.specs.Borders.{after_close-keeps_clients, after_close-keeps_readers, after_open-keeps_clients, after_open-keeps_readers}

pub record AreAll (session : Session) (stage : Stage) : Type 0 where
  pub clients : length stage.clients ≡ length session.clients
  pub readers : length stage.readers ≡ length session.readers

length-map : {X Y : Type 0} (f : X → Y) (xs : List X) → length (map f xs) ≡ length xs
length-map f [] = refl
length-map f (x ∷ xs) = ap suc (length-map f xs)

EachMay-length : {S : Type 0} (kind : ℕ → Kind S) (rules : Rules) (ops : ℕ → List Op) (number : ℕ) (before after : List (AtPort × S)) (rows : List Row)
    → EachMay kind rules ops number before after rows → length after ≡ length before
EachMay-length kind rules ops number [] after rows may = ap length may.0
EachMay-length {S = S} kind rules ops number (actor ∷ actors) after rows (own, others, own_rows, other_rows, one, more, is, rows_are) =
    ap length is ∙ ap suc (EachMay-length kind rules ops (number + 1) actors others other_rows more)

AreAll-first : (session : Session) → AreAll session (first_stage session)
AreAll-first session = record {
  clients = length-map (λ setup. no_client session.ring) session.clients;
  readers = length-map (λ setup. no_reader session.ring) session.readers;
}

AreAll-phase : (session : Session) (stage after : Stage) (lines : List Line) → PhaseMay session stage lines after → AreAll session stage → AreAll session after
AreAll-phase session stage after lines may are = record {
  clients = ap (λ (s : Stage). length s.clients) may.is ∙ (length-map (reaped_client session.ring) may.clients
      ∙ (EachMay-length (client_kinds session stage) (rules_of session stage lines) (λ n. ops_by (is_client n) lines) 0 stage.clients may.clients may.client_rows
      may.clients_may ∙ are.clients));
  readers = ap (λ (s : Stage). length s.readers) may.is ∙ (length-map (reaped_reader session.ring) may.readers
      ∙ (EachMay-length (reader_kinds stage) (rules_of session stage lines) (λ n. ops_by (is_reader n) lines) 0 stage.readers may.readers may.reader_rows
      may.readers_may ∙ are.readers));
}

AreAll-item : (session : Session) (stage after : Stage) (one : Item) → ItemMay session stage one after → AreAll session stage → AreAll session after
AreAll-item session stage after (item.Phase lines) may are = AreAll-phase session stage after lines may are
AreAll-item session stage after (item.Opens number actor.Card) may are =
    record { clients = ap (λ (s : Stage). length s.clients) may ∙ are.clients; readers = ap (λ (s : Stage). length s.readers) may ∙ are.readers }
AreAll-item session stage after (item.Closes number actor.Card) may are =
    record { clients = ap (λ (s : Stage). length s.clients) may ∙ are.clients; readers = ap (λ (s : Stage). length s.readers) may ∙ are.readers }
AreAll-item session stage after (item.Opens number (actor.Client n)) may are =
    let keeps = after_open-keeps_readers session stage n in record {
      clients = ap (λ (s : Stage). length s.clients) may ∙ (keeps.count ∙ are.clients);
      readers = ap (λ (s : Stage). length s.readers) may ∙ (ap length keeps.readers ∙ are.readers);
    }
AreAll-item session stage after (item.Closes number (actor.Client n)) may are =
    let keeps = after_close-keeps_readers session stage n in record {
      clients = ap (λ (s : Stage). length s.clients) may ∙ (keeps.count ∙ are.clients);
      readers = ap (λ (s : Stage). length s.readers) may ∙ (ap length keeps.readers ∙ are.readers);
    }
AreAll-item session stage after (item.Opens number (actor.Reader n)) may are =
    let keeps = after_open-keeps_clients session stage n in record {
      clients = ap (λ (s : Stage). length s.clients) may ∙ (ap length keeps.clients ∙ are.clients);
      readers = ap (λ (s : Stage). length s.readers) may ∙ (keeps.count ∙ are.readers);
    }
AreAll-item session stage after (item.Closes number (actor.Reader n)) may are =
    let keeps = after_close-keeps_clients session stage n in record {
      clients = ap (λ (s : Stage). length s.clients) may ∙ (ap length keeps.clients ∙ are.clients);
      readers = ap (λ (s : Stage). length s.readers) may ∙ (keeps.count ∙ are.readers);
    }

AreAll-items : (session : Session) (stage after : Stage) (items : List Item) → ItemsMay session stage items after → AreAll session stage → AreAll session after
AreAll-items session stage after [] may are =
    record { clients = ap (λ (s : Stage). length s.clients) may ∙ are.clients; readers = ap (λ (s : Stage). length s.readers) may ∙ are.readers }
AreAll-items session stage after (one ∷ items) (between, first, others) are =
    AreAll-items session between after items others (AreAll-item session stage between one first are)

-- at each stage that a run may reach
pub AreAll-reached : (session : Session) (stage : Stage) (items : List Item) → ItemsMay session (first_stage session) items stage → AreAll session stage
AreAll-reached session stage items may = AreAll-items session (first_stage session) stage items may (AreAll-first session)
