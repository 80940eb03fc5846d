-- How often actors asked their own gates, from one stage of a run to a later one.
use Rattle.std.specs.Prelude.{◌≡◌, ℕ, ◌+◌, Bool, true, false, List, [], ◌∷◌, drop, map, slice_index_or, take}
use Rattle.std.proofs.Common.{refl, sym, subst, arith}
use Rattle.snd_base.specs.declared.geometry.Geometry.{Geometry}
use Rattle.mix_core.specs.declared.gate.Pass.{Pass}
use Rattle.mix_core.specs.declared.gate.StepKind.{StepKind}
use Rattle.lab_lines.specs.declared.line.Actor.TheVariants as actor
use Rattle.lab_lines.specs.declared.line.Item.{Item}
use Rattle.lab_lines.specs.declared.line.Item.TheVariants as item
use Rattle.lab_lines.specs.declared.line.Line.{Line}
use Rattle.lab_run.specs.Client.{Client}
use Rattle.lab_run.specs.GateAsks.{HasAsked-joined, HasAsked-none}
use Rattle.lab_run.specs.Items.{ItemMay, is_reader_stopped, is_stopped, reaped_client, reaped_client_if, reaped_reader, reaped_reader_if}
use Rattle.lab_run.specs.Reader.{Reader}
use Rattle.lab_run.specs.Rules.{AtPort}
use Rattle.lab_run.specs.Stage.{Session, Stage}
use Rattle.lab_actors.specs.Gates.{HasAskedMore, HaveAskedMore}
use Rattle.lab_actors.specs.Walks.{AreEach, AreEach-joined, AreEach-map, AreEach-same, AreJoined}
use Rattle.lab_phase.specs.declared.lab.Lab.{Lab}
use Rattle.lab_phase.specs.AtStage.{IsBorderItem}
use Rattle.lab_phase.specs.Borders.{HasSameAsks, KeepsClients, KeepsReaders, after_close-keeps_clients, after_close-keeps_readers, after_open-keeps_clients, after_open-keeps_readers}
use Rattle.lab_phase.specs.PhaseRuns.{HaveAsked, HaveSameAsks, RunsPhase, Stops}

-- ---- of one list of actors

module _ {T S : Type 0} (asked : T → T → List StepKind → Pass → Type 0) where
  -- gates that weren't asked
  pub HaveAskedMore-none : (gates : List T) (xs ys : List (AtPort × S)) → AreEach HasSameAsks 0 xs ys → HaveAskedMore asked gates gates xs ys
  HaveAskedMore-none gates xs ys same = AreEach-map HasSameAsks (HasAskedMore asked gates gates) 0 xs ys
      (λ n x y is. record {
        asks = 0;
        asked_it = λ d. HasAsked-none asked (slice_index_or gates n d) (slice_index_or gates n d) refl;
        more = omega (arith, is);
      })
      same

  -- gates that were asked, and then no more
  pub HaveAskedMore-then : (gates after : List T) (xs ys zs : List (AtPort × S)) → HaveAskedMore asked gates after xs ys → AreEach HasSameAsks 0 ys zs
      → HaveAskedMore asked gates after xs zs
  HaveAskedMore-then gates after xs ys zs more same = AreEach-map (AreJoined (HasAskedMore asked gates after) HasSameAsks) (HasAskedMore asked gates after) 0 xs zs
      (λ n x z both. record {
        asks = both.first.asks;
        asked_it = both.first.asked_it;
        more = let one = both.first.more in let two = both.then in omega (arith, one, two);
      })
      (AreEach-joined (HasAskedMore asked gates after) HasSameAsks 0 xs ys zs more same)

  -- and then asked again
  pub HaveAskedMore-joined : (gates between after : List T) (xs ys zs : List (AtPort × S)) → HaveAskedMore asked gates between xs ys → HaveAskedMore asked between after ys zs
      → HaveAskedMore asked gates after xs zs
  HaveAskedMore-joined gates between after xs ys zs first later =
      AreEach-map (AreJoined (HasAskedMore asked gates between) (HasAskedMore asked between after)) (HasAskedMore asked gates after) 0 xs zs
      (λ n x z both. record {
        asks = both.first.asks + both.then.asks;
        asked_it = λ d. HasAsked-joined asked (slice_index_or gates n d) (slice_index_or between n d) (slice_index_or after n d) both.first.asks both.then.asks
            (both.first.asked_it d) (both.then.asked_it d);
        more = let one = both.first.more in let two = both.then.more in omega (arith, one, two);
      })
      (AreEach-joined (HasAskedMore asked gates between) (HasAskedMore asked between after) 0 xs ys zs first later)

-- ---- of all actors of a stage

pub HaveSameAsks-none : (stage : Stage) → HaveSameAsks stage stage
HaveSameAsks-none stage = record {
  clients = AreEach-same HasSameAsks 0 stage.clients (λ n x. refl);
  readers = AreEach-same HasSameAsks 0 stage.readers (λ n x. refl);
}

module _ {T : Type 0} (asked : T → T → List StepKind → Pass → Type 0) where
  pub HaveAsked-none : (gates : List T) (stage next : Stage) → HaveSameAsks stage next → HaveAsked asked gates gates stage next
  HaveAsked-none gates stage next same = record {
    clients = HaveAskedMore-none asked (take 64 gates) stage.clients next.clients same.clients;
    readers = HaveAskedMore-none asked (drop 64 gates) stage.readers next.readers same.readers;
  }

  pub HaveAsked-joined : (gates between after : List T) (stage middle next : Stage) → HaveAsked asked gates between stage middle → HaveAsked asked between after middle next
      → HaveAsked asked gates after stage next
  HaveAsked-joined gates between after stage middle next first later = record {
    clients = HaveAskedMore-joined asked (take 64 gates) (take 64 between) (take 64 after) stage.clients middle.clients next.clients first.clients later.clients;
    readers = HaveAskedMore-joined asked (drop 64 gates) (drop 64 between) (drop 64 after) stage.readers middle.readers next.readers first.readers later.readers;
  }

  pub HaveAsked-then : (gates after : List T) (stage middle next : Stage) → HaveAsked asked gates after stage middle → HaveSameAsks middle next → HaveAsked asked gates after stage next
  HaveAsked-then gates after stage middle next more same = record {
    clients = HaveAskedMore-then asked (take 64 gates) (take 64 after) stage.clients middle.clients next.clients more.clients same.clients;
    readers = HaveAskedMore-then asked (drop 64 gates) (drop 64 after) stage.readers middle.readers next.readers more.readers same.readers;
  }

-- ---- what is reaped has asked as often as before

pub same_asks-reaped_clients : (ring : Geometry) (number : ℕ) (xs : List (AtPort × Client)) → AreEach HasSameAsks number xs (map (reaped_client ring) xs)
same_asks-reaped_clients ring number [] = tt
same_asks-reaped_clients ring number (x ∷ xs) = (by_stop (is_stopped x.1.own), same_asks-reaped_clients ring (number + 1) xs)
  where
    by_stop : (stopped : Bool) → (reaped_client_if stopped ring x).0.at_gate ≡ x.0.at_gate
    by_stop true = refl
    by_stop false = refl

pub same_asks-reaped_readers : (ring : Geometry) (number : ℕ) (xs : List (AtPort × Reader)) → AreEach HasSameAsks number xs (map (reaped_reader ring) xs)
same_asks-reaped_readers ring number [] = tt
same_asks-reaped_readers ring number (x ∷ xs) = (by_stop (is_reader_stopped x.1.own), same_asks-reaped_readers ring (number + 1) xs)
  where
    by_stop : (stopped : Bool) → (reaped_reader_if stopped ring x).0.at_gate ≡ x.0.at_gate
    by_stop true = refl
    by_stop false = refl

-- ---- an opening or a closing

module _ (session : Session) (stage next : Stage) where
  asks-client : (after : Stage) → next ≡ after → KeepsReaders stage after → HaveSameAsks stage next
  asks-client after is keeps =
      subst (λ (s : Stage). HaveSameAsks stage s) (sym is)
      (record {
        clients = keeps.asks;
        readers = subst (λ (xs : List (AtPort × Reader)). AreEach HasSameAsks 0 stage.readers xs) (sym keeps.readers) (HaveSameAsks-none stage).readers;
      })

  asks-reader : (after : Stage) → next ≡ after → KeepsClients stage after → HaveSameAsks stage next
  asks-reader after is keeps =
      subst (λ (s : Stage). HaveSameAsks stage s) (sym is)
      (record {
        clients = subst (λ (xs : List (AtPort × Client)). AreEach HasSameAsks 0 stage.clients xs) (sym keeps.clients) (HaveSameAsks-none stage).clients;
        readers = keeps.asks;
      })

  -- it asks no gate
  pub HaveSameAsks-border : (one : Item) → IsBorderItem one → ItemMay session stage one next → HaveSameAsks stage next
  HaveSameAsks-border (item.Phase lines) border may = absurd border
  HaveSameAsks-border (item.Opens number actor.Card) border may = subst (λ (s : Stage). HaveSameAsks stage s) (sym may) (HaveSameAsks-none stage)
  HaveSameAsks-border (item.Closes number actor.Card) border may = subst (λ (s : Stage). HaveSameAsks stage s) (sym may) (HaveSameAsks-none stage)
  HaveSameAsks-border (item.Opens number (actor.Client n)) border may = asks-client _ may (after_open-keeps_readers session stage n)
  HaveSameAsks-border (item.Closes number (actor.Client n)) border may = asks-client _ may (after_close-keeps_readers session stage n)
  HaveSameAsks-border (item.Opens number (actor.Reader n)) border may = asks-reader _ may (after_open-keeps_clients session stage n)
  HaveSameAsks-border (item.Closes number (actor.Reader n)) border may = asks-reader _ may (after_close-keeps_clients session stage n)

-- ---- a phase

-- with another fact of the gates, which follows
pub RunsPhase-more : (Gates Others : Stage → Stage → Type 0) → ((stage next : Stage) → Gates stage next → Others stage next)
    → (stops stops_after : Stops) (lab after : Lab) (lines : List Line) → RunsPhase Gates stops stops_after lab lines after → RunsPhase Others stops stops_after lab lines after
RunsPhase-more Gates Others more stops stops_after lab after lines runs = record {
  same = runs.same;
  phases = runs.phases;
  next = runs.next;
  room = runs.room;
  few = runs.few;
  played = runs.played;
  does = λ stage base at counted. let has = runs.does stage base at counted in record {
    next = has.next;
    may = has.may;
    actors = has.actors;
    rows = has.rows;
    counted = has.counted;
    gates = more stage has.next has.gates;
  };
}
