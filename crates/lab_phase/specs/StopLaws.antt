-- How often the actors' own gates stopped them, from the first stage of a run to its end.
use Rattle.std.specs.Prelude.{◌≡◌, ℕ, ◌+◌, ◌-◌, List, [], ◌∷◌, map, Option}
use Rattle.std.proofs.Common.{sym, subst, arith}
use Rattle.snd_base.specs.declared.geometry.Geometry.{Geometry}
use Rattle.lab_lines.specs.declared.line.Actor.TheVariants as actor
use Rattle.lab_lines.specs.declared.line.Item.{Item}
use Rattle.lab_lines.specs.declared.line.Item.TheVariants as item
use Rattle.lab_run.specs.Client.{Client}
use Rattle.lab_run.specs.Items.{ItemMay}
use Rattle.lab_run.specs.LabRun.{AreWithin}
use Rattle.lab_run.specs.Reader.{Reader}
use Rattle.lab_run.specs.Rules.{AtPort}
use Rattle.lab_run.specs.Stage.{Session, Setup, Stage, first_stage, no_client, no_reader}
use Rattle.lab_actors.specs.Gates.{AreCounted}
use Rattle.lab_phase.specs.AtStage.{IsBorderItem}
use Rattle.lab_phase.specs.Borders.{after_close-keeps_clients, after_close-keeps_readers, after_open-keeps_clients, after_open-keeps_readers}
use Rattle.lab_phase.specs.PhaseRuns.{AreStopsOf, Stops}

-- ---- before the first item

AreCounted-no_clients : (ring : Geometry) (stops : ℕ → ℕ) (number : ℕ) (setups : List (Option Setup)) → AreCounted stops stops number (map (λ setup. no_client ring) setups)
AreCounted-no_clients ring stops number [] = tt
AreCounted-no_clients ring stops number (setup ∷ setups) = (omega arith, AreCounted-no_clients ring stops (number + 1) setups)

AreCounted-no_readers : (ring : Geometry) (stops : ℕ → ℕ) (number : ℕ) (setups : List (Option Setup)) → AreCounted stops stops number (map (λ setup. no_reader ring) setups)
AreCounted-no_readers ring stops number [] = tt
AreCounted-no_readers ring stops number (setup ∷ setups) = (omega arith, AreCounted-no_readers ring stops (number + 1) setups)

-- no actor was stopped since the lab began
pub AreStopsOf-first : (stops : Stops) (session : Session) → AreStopsOf stops stops (first_stage session)
AreStopsOf-first stops session = record {
  clients = AreCounted-no_clients session.ring stops.clients 0 session.clients;
  readers = AreCounted-no_readers session.ring stops.readers 0 session.readers;
}

-- ---- an opening or a closing

module _ (base stops : Stops) (session : Session) (stage next : Stage) where
  stops-client : (after : Stage) → next ≡ after → Rattle.lab_phase.specs.Borders.KeepsReaders stage after → AreStopsOf base stops stage → AreStopsOf base stops next
  stops-client after is keeps counted =
      subst (λ (s : Stage). AreStopsOf base stops s) (sym is)
      (record {
        clients = keeps.stops base.clients stops.clients counted.clients;
        readers = subst (λ (xs : List (AtPort × Reader)). AreCounted base.readers stops.readers 0 xs) (sym keeps.readers) counted.readers;
      })

  stops-reader : (after : Stage) → next ≡ after → Rattle.lab_phase.specs.Borders.KeepsClients stage after → AreStopsOf base stops stage → AreStopsOf base stops next
  stops-reader after is keeps counted =
      subst (λ (s : Stage). AreStopsOf base stops s) (sym is)
      (record {
        clients = subst (λ (xs : List (AtPort × Client)). AreCounted base.clients stops.clients 0 xs) (sym keeps.clients) counted.clients;
        readers = keeps.stops base.readers stops.readers counted.readers;
      })

  -- it stops nobody
  pub AreStopsOf-border : (one : Item) → IsBorderItem one → ItemMay session stage one next → AreStopsOf base stops stage → AreStopsOf base stops next
  AreStopsOf-border (item.Phase lines) border may counted = absurd border
  AreStopsOf-border (item.Opens number actor.Card) border may counted =
      subst (λ (s : Stage). AreStopsOf base stops s) (sym may) (record { clients = counted.clients; readers = counted.readers })
  AreStopsOf-border (item.Closes number actor.Card) border may counted =
      subst (λ (s : Stage). AreStopsOf base stops s) (sym may) (record { clients = counted.clients; readers = counted.readers })
  AreStopsOf-border (item.Opens number (actor.Client n)) border may counted = stops-client _ may (after_open-keeps_readers session stage n) counted
  AreStopsOf-border (item.Closes number (actor.Client n)) border may counted = stops-client _ may (after_close-keeps_readers session stage n) counted
  AreStopsOf-border (item.Opens number (actor.Reader n)) border may counted = stops-reader _ may (after_open-keeps_clients session stage n) counted
  AreStopsOf-border (item.Closes number (actor.Reader n)) border may counted = stops-reader _ may (after_close-keeps_clients session stage n) counted

-- ---- at the end

-- each was stopped at most as often as its gate stopped since
pub AreWithin-counted : {S : Type 0} (base stops : ℕ → ℕ) (number : ℕ) (xs : List (AtPort × S)) → AreCounted base stops number xs
    → AreWithin (λ n. stops n - base n) number xs
AreWithin-counted base stops number [] counted = tt
AreWithin-counted base stops number (x ∷ xs) counted = (let own = counted.0 in omega (arith, own), AreWithin-counted base stops (number + 1) xs counted.1)
