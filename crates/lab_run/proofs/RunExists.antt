-- Each script has a run: the one in which no phase is left a choice.
use Rattle.lab_run.specs.Prelude.{arith, Option, refl, subst, sym, ℕ, ◌+◌, ◌≡◌, ◌≤◌, fold, List, map, slice_index_or, slice_set, suc, zero, [], ◌∷◌, Geometry}
use Rattle.lab_run.specs.Prelude.{Sound, Actor, Item, Line, Row, Client, client_kinds, clients_text, item_text, ItemMay, items_text, ItemsMay, phase_end}
use Rattle.lab_run.specs.Prelude.{phase_text, PhaseMay, reader_kinds, readers_text, reaped_client, reaped_reader, rules_of, AreWithin, lab_text, LabRun}
use Rattle.lab_run.specs.Prelude.{outcome_of, EachMay, is_client, is_reader, ops_by, played_in, Reader, AtPort, after_close, after_open, first_stage, no_client}
use Rattle.lab_run.specs.Prelude.{no_reader, Session, Stage}
use Rattle.lab_run.proofs.ActorKinds.{client-IsKind, reader-IsKind}
use Rattle.lab_run.proofs.BorderLaws.{Border, close-by, open-by}
use Rattle.lab_run.proofs.EachLaws.{AreBehind, IsPublished, behind-map, each-exist, reaped_client-keeps, reaped_reader-keeps}
use Rattle.lab_run.proofs.ScriptWords.{last-published}
use Rattle.lab_lines.specs.declared.line.Item.TheVariants as item

pub behind-more : {S : Type 0} (Q : ℕ → ℕ → Type 0) (p q number : ℕ) (actors : List (AtPort × S)) → p ≤ q → AreBehind Q p number actors → AreBehind Q q number actors
behind-more Q p q number [] more low = tt
behind-more Q p q number (x ∷ actors) more low = (omega (arith, more, low.0), low.1, behind-more Q p q (number + 1) actors more low.2)

-- an actor in the place of one that its own gate stopped as often
behind-set : {S : Type 0} (Q : ℕ → ℕ → Type 0) (p number : ℕ) (actors : List (AtPort × S)) (n : ℕ) (d x : AtPort × S) → x.0.seen ≤ p
    → x.0.by_gate ≡ (slice_index_or actors n d).0.by_gate → AreBehind Q p number actors → AreBehind Q p number (slice_set actors n x)
behind-set Q p number [] n d x seen is low = tt
behind-set Q p number (y ∷ actors) zero d x seen is low = (seen, subst (Q number) (sym is) low.1, low.2)
behind-set Q p number (y ∷ actors) (suc n) d x seen is low = (low.0, low.1, behind-set Q p (number + 1) actors n d x seen is low.2)

least : (p : ℕ) → 0 ≤ p
least p = omega arith

-- no actor saw a position past the card's, and of the stops by each one's own gate a fact holds
pub record IsBehind (Q R : ℕ → ℕ → Type 0) (stage : Stage) : Type 0 where
  pub clients : AreBehind Q stage.position 0 stage.clients
  pub readers : AreBehind R stage.position 0 stage.readers

-- an actor that was reaped saw nothing any more
pub reaped-clients : (Q : ℕ → ℕ → Type 0) (ring : Geometry) (p number : ℕ) (actors : List (AtPort × Client)) → AreBehind Q p number actors → AreBehind Q p number (map (reaped_client ring) actors)
reaped-clients Q ring p number actors low = behind-map (reaped_client ring) (reaped_client-keeps ring) Q p number actors low

pub reaped-readers : (Q : ℕ → ℕ → Type 0) (ring : Geometry) (p number : ℕ) (actors : List (AtPort × Reader)) → AreBehind Q p number actors → AreBehind Q p number (map (reaped_reader ring) actors)
reaped-readers Q ring p number actors low = behind-map (reaped_reader ring) (reaped_reader-keeps ring) Q p number actors low

-- what a stage may go on to, at which no actor saw a position past the card's
pub record GoesOn (Q R : ℕ → ℕ → Type 0) (May : Stage → Type 0) (after : Stage) : Type 0 where
  pub may : May after
  pub behind : IsBehind Q R after

-- actors that are all the same
new-behind : {S X : Type 0} (Q : ℕ → ℕ → Type 0) (p number : ℕ) (actor : AtPort × S) (xs : List X) → actor.0.seen ≤ p → ((n : ℕ) → Q n actor.0.by_gate)
    → AreBehind Q p number (map (λ x. actor) xs)
new-behind Q p number actor [] seen each = tt
new-behind Q p number actor (x ∷ xs) seen each = (seen, each number, new-behind Q p (number + 1) actor xs seen each)

items-fold : (session : Session) (stage : Stage) (items : List Item) → items_text session stage items ≡ fold (item_text session) stage items
items-fold session stage [] = refl
items-fold session stage (one ∷ items) = items-fold session (item_text session stage one) items

module _ (Q R : ℕ → ℕ → Type 0) (none : (n : ℕ) → Q n 0) (reader_none : (n : ℕ) → R n 0) (session : Session) where
  pub first-behind : IsBehind Q R (first_stage session)
  first-behind = record {
    clients = new-behind Q _ 0 (no_client session.ring) session.clients (least _) none;
    readers = new-behind R _ 0 (no_reader session.ring) session.readers (least _) reader_none;
  }

  -- an opening or closing makes a port anew, which its own gate stopped as often
  behind-border : (stage : Stage) (who : Actor) → IsBehind Q R stage → Border session stage who (IsBehind Q R)
  behind-border stage who behind = record {
    none = λ card. behind;
    refused = λ lobby row of. record { clients = behind.clients; readers = behind.readers };
    client = λ n client lobby claims row who_is of same. record {
      clients = behind-set Q stage.position 0 stage.clients n (no_client session.ring) _ (least stage.position) refl behind.clients;
      readers = behind.readers;
    };
    reader = λ n own anew row who_is of. record {
      clients = behind.clients;
      readers = behind-set R stage.position 0 stage.readers n (no_reader session.ring) _ (least stage.position) refl behind.readers;
    };
  }

  pub open-behind : (stage : Stage) (who : Actor) → IsBehind Q R stage → IsBehind Q R (after_open session stage who)
  open-behind stage who behind = open-by session stage (IsBehind Q R) who (behind-border stage who behind)

  pub close-behind : (stage : Stage) (who : Actor) → IsBehind Q R stage → IsBehind Q R (after_close session stage who)
  close-behind stage who behind = close-by session stage (IsBehind Q R) who (behind-border stage who behind)

  -- a phase whose actors' lines may be done so
  pub phase-goes : (stage : Stage) (lines : List Line) (clients : List (AtPort × Client) × List Row) (readers : List (AtPort × Reader) × List Row)
      → EachMay (client_kinds session stage) (rules_of session stage lines) (λ n. ops_by (is_client n) lines) 0 stage.clients clients.0 clients.1
      → EachMay (reader_kinds stage) (rules_of session stage lines) (λ n. ops_by (is_reader n) lines) 0 stage.readers readers.0 readers.1
      → AreBehind Q (stage.position + played_in lines) 0 clients.0 → AreBehind R (stage.position + played_in lines) 0 readers.0
      → GoesOn Q R (PhaseMay session stage lines) (phase_end session stage lines clients readers)
  phase-goes stage lines (clients, client_rows) (readers, reader_rows) clients_may readers_may clients_seen readers_seen = record {
    may = record {
      clients = clients;
      client_rows = client_rows;
      readers = readers;
      reader_rows = reader_rows;
      clients_may = clients_may;
      readers_may = readers_may;
      is = refl;
    };
    behind = record { clients = reaped-clients Q session.ring _ 0 clients clients_seen; readers = reaped-readers R session.ring _ 0 readers readers_seen };
  }

  phase-exists : (stage : Stage) (lines : List Line) → IsBehind Q R stage → GoesOn Q R (PhaseMay session stage lines) (phase_text session stage lines)
  phase-exists stage lines behind =
      let there : IsPublished (rules_of session stage lines) = last-published session.card.period stage.position lines in
      let clients = each-exist Q (client_kinds session stage) (λ n. client-IsKind _ _ n) (rules_of session stage lines) there (λ n. ops_by (is_client n) lines) 0 stage.clients
      (behind-more Q stage.position _ 0 stage.clients (omega arith) behind.clients) in
      let readers = each-exist R (reader_kinds stage) (λ n. reader-IsKind _ n) (rules_of session stage lines) there (λ n. ops_by (is_reader n) lines) 0 stage.readers
      (behind-more R stage.position _ 0 stage.readers (omega arith) behind.readers) in
      phase-goes stage lines (clients_text session stage lines) (readers_text session stage lines) clients.may readers.may clients.seen readers.seen

  -- items, one after the other
  pub items-go : (step : Stage → Item → Stage) → ((stage : Stage) (one : Item) → IsBehind Q R stage → GoesOn Q R (ItemMay session stage one) (step stage one))
      → (stage : Stage) (items : List Item) → IsBehind Q R stage → GoesOn Q R (ItemsMay session stage items) (fold step stage items)
  items-go step each stage [] behind = record { may = refl; behind = behind }
  items-go step each stage (one ∷ items) behind =
      let here = each stage one behind in
      let rest = items-go step each (step stage one) items here.behind in
      record { may = (step stage one, here.may, rest.may); behind = rest.behind }

  item-exists : (stage : Stage) (one : Item) → IsBehind Q R stage → GoesOn Q R (ItemMay session stage one) (item_text session stage one)
  item-exists stage (item.Opens number who) behind = record { may = refl; behind = open-behind stage who behind }
  item-exists stage (item.Closes number who) behind = record { may = refl; behind = close-behind stage who behind }
  item-exists stage (item.Phase lines) behind = phase-exists stage lines behind

  -- items have a run, from each stage on at which no actor saw a position past the card's
  pub items-exist : (stage : Stage) (items : List Item) → IsBehind Q R stage → GoesOn Q R (ItemsMay session stage items) (items_text session stage items)
  items-exist stage items behind =
      subst (GoesOn Q R (ItemsMay session stage items)) (sym (items-fold session stage items)) (items-go (item_text session) item-exists stage items behind)

-- each actor's own gate stopped it so often at most
abbrev pub Within : (ℕ → ℕ) → ℕ → ℕ → Type 0
Within most number stops = stops ≤ most number

pub within : {S : Type 0} (p : ℕ) (most : ℕ → ℕ) (n : ℕ) (actors : List (AtPort × S)) → AreBehind (Within most) p n actors → AreWithin most n actors
within p most n [] low = tt
within p most n (x ∷ actors) low = (low.1, within p most (n + 1) actors low.2)

-- a run that goes so
pub run-goes : (session : Session) (capture : Option Sound) (body : List Item) (client_stops reader_stops : ℕ → ℕ) (end : Stage)
    → (((n : ℕ) → Within client_stops n 0) → ((n : ℕ) → Within reader_stops n 0) → IsBehind (Within client_stops) (Within reader_stops) (first_stage session)
    → GoesOn (Within client_stops) (Within reader_stops) (ItemsMay session (first_stage session) body) end)
    → LabRun session capture body client_stops reader_stops (outcome_of session capture end)
run-goes session capture body client_stops reader_stops end goes =
    let none = λ (n : ℕ). least (client_stops n) in
    let reader_none = λ (n : ℕ). least (reader_stops n) in
    let run = goes none reader_none (first-behind (Within client_stops) (Within reader_stops) none reader_none session) in
    record { end = end; may = run.may; clients = within _ client_stops 0 _ run.behind.clients; readers = within _ reader_stops 0 _ run.behind.readers; is = refl }

-- the run in which no phase is left a choice is a run, of each script
pub text-LabRun : (session : Session) (capture : Option Sound) (body : List Item) (client_stops reader_stops : ℕ → ℕ)
    → LabRun session capture body client_stops reader_stops (lab_text session capture body)
text-LabRun session capture body client_stops reader_stops = run-goes session capture body client_stops reader_stops _
    (λ none reader_none. items-exist (Within client_stops) (Within reader_stops) none reader_none session (first_stage session) body)
