-- What an opening and a closing make of a lab.
use Rattle.std.specs.Prelude.{◌≡◌, ℕ, zero, suc, ◌+◌, ◌<◌, ◌≤◌, List, [], ◌∷◌, ◌++◌, length, slice_get, Option, Some, None, Result, Ok, Err, IfOk, OnErr, OnOk}
use Rattle.std.specs.Global.{Vec}
use Rattle.std.proofs.Common.{refl, sym, ap, subst, ◌∙◌, arith}
use Rattle.std.proofs.lemmas.List.{length-append}
use Rattle.std.proofs.lemmas.Option.{none-some}
use Rattle.sum_table.specs.declared.view.Key.{Key}
use Rattle.wav_io.specs.Sound.{Sound}
use Rattle.lab_lines.specs.declared.line.Item.{Item}
use Rattle.lab_lines.specs.declared.line.Item.TheVariants as item
use Rattle.lab_lines.specs.declared.script.Script.{Script}
use Rattle.lab_lines.specs.declared.row.Row.{Row}
use Rattle.lab_run.specs.Items.{Held, ItemMay, held_of}
use Rattle.lab_run.specs.ScriptWords.{IsReached}
use Rattle.lab_run.specs.Stage.{Session, Stage}
use Rattle.lab_card.specs.declared.card.CardActor.{CardActor}
use Rattle.lab_actors.specs.declared.session.Openings.{Openings}
use Rattle.lab_actors.specs.Sessions.{AreUsable, session_with}
use Rattle.lab_places.specs.Held.{IsSameCard}
use Rattle.lab_clients.specs.AtStage as clients
use Rattle.lab_clients.specs.declared.clients.LabClients.{LabClients}
use Rattle.lab_readers.specs.AtStage as readers
use Rattle.lab_readers.specs.declared.readers.LabReaders.{LabReaders}
use Rattle.lab_phase.specs.declared.lab.Lab.{Lab}
use Rattle.lab_phase.specs.declared.report_room.ReportRoom.{ReportRoom}
use Rattle.lab_phase.specs.ReportRoom.{HasReportRoom, HasReportRoom-fewer}
use Rattle.lab_phase.specs.AtStage.{AddsRow, AreActorsAt, AreActorsOf, DoesItem, DoesRow, HasDone, HasEndRoom, AreSetUp, IsBorderItem, IsAtStage, IsNextItem, IsSameCount, IsSameRing, IsSameScript, border_after, capture_of, session_of}
use Rattle.lab_phase.specs.Borders.{KeepsClients, KeepsReaders}
use Rattle.lab_phase.specs.CardStage.{IsCardIn-same, IsSameActor, IsSameActor-none}
use Rattle.lab_phase.specs.Reached.{IsFirstOf-next, IsReached-next, length-next}

module _ (session : Session) (capture : Option Sound) (stage next : Stage) where
  -- an item of a client: the card played nothing, and the readers are as they were
  pub AreActorsOf-client : (a b : CardActor) (cs ds : LabClients) (rs : LabReaders) → IsSameActor a b → b.rows.items ≡ a.rows.items
      → IsSameCard (clients.places_of cs) (clients.places_of ds) → KeepsReaders stage next → clients.AreAt session (held_of next) next.clients ds
      → AreActorsOf session capture stage (Some a) cs rs → AreActorsOf session capture next (Some b) ds rs
  AreActorsOf-client a b cs ds rs same rows places keeps after are =
      let own = are.card_is in
      record {
        card_is = record {
          is = IsCardIn-same session capture stage next a b same keeps.card own.is;
          rows = rows ∙ own.rows;
          rings = record {
            sum_ring = places.ring ∙ (own.rings.sum_ring ∙ sym same.card.player.ring);
            sum_key = places.key ∙ (own.rings.sum_key ∙ sym same.card.player.key);
            snoop_ring = own.rings.snoop_ring ∙ sym same.card.writer.ring;
            snoop_geometry = own.rings.snoop_geometry ∙ sym same.card.writer.geometry;
          };
          all_places = ap (λ (key : Key). key.places) places.key ∙ own.all_places;
        };
        clients_are = after;
        readers_are = subst (λ xs. readers.AreAt session capture xs rs) (sym keeps.readers) are.readers_are;
      }

  -- an item of a reader: the card and the clients are as they were
  pub AreActorsOf-reader : (card : Option CardActor) (cs : LabClients) (rs ss : LabReaders) → IsSameRing rs ss → KeepsClients stage next
      → readers.AreAt session capture next.readers ss → AreActorsOf session capture stage card cs rs → AreActorsOf session capture next card cs ss
  AreActorsOf-reader None cs rs ss ring keeps after are = absurd are.card_is
  AreActorsOf-reader (Some a) cs rs ss ring keeps after are =
      let own = are.card_is in
      record {
        card_is = record {
          is = IsCardIn-same session capture stage next a a (IsSameActor-none a) keeps.card own.is;
          rows = own.rows;
          rings = record {
            sum_ring = own.rings.sum_ring;
            sum_key = own.rings.sum_key;
            snoop_ring = ring.ring ∙ own.rings.snoop_ring;
            snoop_geometry = ring.geometry ∙ own.rings.snoop_geometry;
          };
          all_places = own.all_places;
        };
        clients_are = subst (λ (held : Held). clients.AreAt session held next.clients cs) (sym keeps.held)
            (subst (λ xs. clients.AreAt session (held_of stage) xs cs) (sym keeps.clients) are.clients_are);
        readers_are = after;
      }

-- the same session
pub session_of-same : (lab after : Lab) → IsSameScript lab after → session_of after ≡ session_of lab
session_of-same lab after same =
    ap (λ (s : Script). session_with s after.wavs.now after.openings) same.script
    ∙ (ap (λ (wavs : List Sound). session_with lab.script.now wavs after.openings) same.wavs ∙ ap (session_with lab.script.now lab.wavs.now) same.openings)

pub AreSetUp-same : (lab after : Lab) → IsSameScript lab after → AreSetUp lab → AreSetUp after
AreSetUp-same lab after same set_up = record {
  clients = subst (λ (s : Script). AreUsable s.card.channels s.card.ring after.openings.clients.items) (sym same.script)
      (subst (λ (o : Openings). AreUsable lab.script.now.card.channels lab.script.now.card.ring o.clients.items) (sym same.openings) set_up.clients);
  readers = subst (λ (s : Script). AreUsable s.card.channels s.card.ring after.openings.readers.items) (sym same.script)
      (subst (λ (o : Openings). AreUsable lab.script.now.card.channels lab.script.now.card.ring o.readers.items) (sym same.openings) set_up.readers);
}

-- a lab that did an item more of its script
pub HasDone-next : (lab after : Lab) (stage next : Stage) (one : Item) → IsSameScript lab after → IsNextItem lab one → ItemMay (session_of lab) stage one next → after.next ≡ lab.next + 1
    → HasDone lab stage → HasDone after next
HasDone-next lab after stage next one same is may count has =
    let first = IsFirstOf-next has.done has.others one (ap (λ (n : ℕ). slice_get (has.done ++ has.others) n) (sym has.next)
    ∙ (ap (λ (items : List Item). slice_get items lab.next) (sym has.reached.body) ∙ is)) in
    record {
      done = has.done ++ one ∷ [];
      others = first.others;
      next = count ∙ (ap (λ (n : ℕ). n + 1) has.next ∙ sym (length-next has.done one));
      reached = subst (λ (s : Session). IsReached after.script.now after.wavs.now s (has.done ++ one ∷ []) first.others next) (sym (session_of-same lab after same))
          (subst (λ (s : Script). IsReached s after.wavs.now (session_of lab) (has.done ++ one ∷ []) first.others next) (sym same.script)
          (subst (λ (wavs : List Sound). IsReached lab.script.now wavs (session_of lab) (has.done ++ one ∷ []) first.others next) (sym same.wavs)
          (IsReached-next lab.script.now lab.wavs.now (session_of lab) has.done first.others one stage next
          (subst (λ (items : List Item). IsReached lab.script.now lab.wavs.now (session_of lab) has.done items stage) first.is has.reached) may)));
    }

-- where there was room for so many rows more, there is room for a report once the lab has some of them
pub HasEndRoom-next : (lab after : Lab) (more : ℕ) → IsSameScript lab after → after.room ≡ lab.room → length after.rows.items ≤ length lab.rows.items + more → HasEndRoom more lab
    → HasEndRoom 0 after
HasEndRoom-next lab after more same room few has =
    subst (λ (s : Script). HasReportRoom (length after.rows.items + 0) (length s.readers) after.room) (sym same.script)
    (subst (λ (r : ReportRoom). HasReportRoom (length after.rows.items + 0) (length lab.script.now.readers) r) (sym room)
    (HasReportRoom-fewer (length lab.rows.items + more) (length after.rows.items + 0) (length lab.script.now.readers) lab.room (omega (arith, few)) has))

-- an item of one row
module _ (lab mid after : Lab) (one : Item) (row : Row) (step : Stage → Stage) (does : DoesRow step lab row mid) (adds : AddsRow row mid after) (is : IsNextItem lab one)
    (has_room : HasEndRoom 1 lab) (may : (stage : Stage) → ItemMay (session_of lab) stage one (step stage)) where
  same-after : IsSameScript lab after
  same-after = record {
    script = adds.same.script ∙ does.same.script;
    wavs = adds.same.wavs ∙ does.same.wavs;
    capture = adds.same.capture ∙ does.same.capture;
    openings = adds.same.openings ∙ does.same.openings;
  }

  actors-after : (stage : Stage) → IsAtStage lab stage → AreActorsAt after (step stage)
  actors-after stage at =
      subst (λ (s : Session). AreActorsOf s (capture_of after) (step stage) after.card after.clients after.readers) (sym (session_of-same lab after same-after))
      (subst (λ (capture : Option Sound). AreActorsOf (session_of lab) capture (step stage) after.card after.clients after.readers) (sym same-after.capture)
      (subst (λ (card : Option CardActor). AreActorsOf (session_of lab) (capture_of lab) (step stage) card after.clients after.readers) (sym adds.card)
      (subst (λ (cs : LabClients). AreActorsOf (session_of lab) (capture_of lab) (step stage) mid.card cs after.readers) (sym adds.clients)
      (subst (λ (rs : LabReaders). AreActorsOf (session_of lab) (capture_of lab) (step stage) mid.card mid.clients rs) (sym adds.readers) (does.does stage at).actors))))

  set-up-after : AreSetUp lab → AreSetUp after
  set-up-after set_up = AreSetUp-same lab after same-after set_up

  rows-after : after.rows.items ≡ lab.rows.items ++ row ∷ []
  rows-after = adds.rows ∙ ap (λ (v : Vec Row). v.items ++ row ∷ []) does.count.rows

  room-after : HasEndRoom 0 after
  room-after =
      let count = ap length rows-after ∙ length-append lab.rows.items (row ∷ []) in
      HasEndRoom-next lab after 1 same-after (adds.room ∙ does.count.room) (omega (arith, count)) has_room

  pub DoesItem-row : DoesItem lab one after
  DoesItem-row = record {
    same = same-after;
    next = adds.next ∙ ap (λ (n : ℕ). n + 1) does.count.next;
    does = λ stage at. record {
      next = step stage;
      may = may stage;
      is = record {
        actors = actors-after stage at;
        rows = rows-after ∙ (ap (λ (rows : List Row). rows ++ row ∷ []) at.rows ∙ sym (does.does stage at).rows);
        phases = adds.phases ∙ (does.count.phases ∙ (at.phases ∙ sym (does.does stage at).phases));
        has_done = HasDone-next lab after stage (step stage) one same-after is (may stage) (adds.next ∙ ap (λ (n : ℕ). n + 1) does.count.next) at.has_done;
        set_up = set-up-after at.set_up;
        room = room-after;
      };
    };
  }

-- what an answer has where it is Ok
pub IfOk-more : {X E : Type 0} (P Q : X → Type 0) (r : Result X E) → ((x : X) → P x → Q x) → IfOk r P → IfOk r Q
IfOk-more P Q (Ok x) more is = more x is
IfOk-more P Q (Err e) more is = tt

module _ (lab after : Lab) (step : Stage → Stage) (row : Row) (same : IsSameScript lab after) (count : IsSameCount lab after) where
  -- an item of a client, beside the card, which played nothing
  pub DoesRow-client : (a b : CardActor) → lab.card ≡ Some a → after.card ≡ Some b → after.readers ≡ lab.readers → IsSameActor a b → b.rows.items ≡ a.rows.items
      → IsSameCard (clients.places_of lab.clients) (clients.places_of after.clients) → ((stage : Stage) → KeepsReaders stage (step stage))
      → ((stage : Stage) → IsAtStage lab stage → clients.AreAfter (session_of lab) stage (step stage) row after.clients) → DoesRow step lab row after
  DoesRow-client a b first then_is others actor rows places keeps is = record {
    same = same;
    count = count;
    does = λ stage at. let done = is stage at in record {
      actors = subst (λ (card : Option CardActor). AreActorsOf (session_of lab) (capture_of lab) (step stage) card after.clients after.readers) (sym then_is)
          (subst (λ (rs : LabReaders). AreActorsOf (session_of lab) (capture_of lab) (step stage) (Some b) after.clients rs) (sym others)
          (AreActorsOf-client (session_of lab) (capture_of lab) stage (step stage) a b lab.clients after.clients lab.readers actor rows places (keeps stage) done.are
          (subst (λ (card : Option CardActor). AreActorsOf (session_of lab) (capture_of lab) stage card lab.clients lab.readers) first at.actors)));
      rows = done.rows;
      phases = (keeps stage).card.phases;
    };
  }

  -- an item of a reader
  pub DoesRow-reader : after.card ≡ lab.card → after.clients ≡ lab.clients → IsSameRing lab.readers after.readers → ((stage : Stage) → KeepsClients stage (step stage))
      → ((stage : Stage) → IsAtStage lab stage → readers.AreAfter (session_of lab) (capture_of lab) stage (step stage) row after.readers) → DoesRow step lab row after
  DoesRow-reader card others ring keeps is = record {
    same = same;
    count = count;
    does = λ stage at. let done = is stage at in record {
      actors = subst (λ (own : Option CardActor). AreActorsOf (session_of lab) (capture_of lab) (step stage) own after.clients after.readers) (sym card)
          (subst (λ (cs : LabClients). AreActorsOf (session_of lab) (capture_of lab) (step stage) lab.card cs after.readers) (sym others)
          (AreActorsOf-reader (session_of lab) (capture_of lab) stage (step stage) lab.card lab.clients lab.readers after.readers ring (keeps stage) done.are at.actors));
      rows = done.rows;
      phases = (keeps stage).card.phases;
    };
  }

-- an item of a client that doesn't touch the card
pub AreActorsOf-clients : (session : Session) (capture : Option Sound) (stage next : Stage) (card : Option CardActor) (cs ds : LabClients) (rs : LabReaders)
    → IsSameCard (clients.places_of cs) (clients.places_of ds) → KeepsReaders stage next → clients.AreAt session (held_of next) next.clients ds
    → AreActorsOf session capture stage card cs rs → AreActorsOf session capture next card ds rs
AreActorsOf-clients session capture stage next None cs ds rs places keeps after are = absurd are.card_is
AreActorsOf-clients session capture stage next (Some a) cs ds rs places keeps after are =
    AreActorsOf-client session capture stage next a a cs ds rs (IsSameActor-none a) refl places keeps after are

pub DoesRow-clients : (lab after : Lab) (step : Stage → Stage) (row : Row) → IsSameScript lab after → IsSameCount lab after → after.card ≡ lab.card → after.readers ≡ lab.readers
    → IsSameCard (clients.places_of lab.clients) (clients.places_of after.clients) → ((stage : Stage) → KeepsReaders stage (step stage))
    → ((stage : Stage) → IsAtStage lab stage → clients.AreAfter (session_of lab) stage (step stage) row after.clients) → DoesRow step lab row after
DoesRow-clients lab after step row same count card others places keeps is = record {
  same = same;
  count = count;
  does = λ stage at. let done = is stage at in record {
    actors = subst (λ (own : Option CardActor). AreActorsOf (session_of lab) (capture_of lab) (step stage) own after.clients after.readers) (sym card)
        (subst (λ (rs : LabReaders). AreActorsOf (session_of lab) (capture_of lab) (step stage) lab.card after.clients rs) (sym others)
        (AreActorsOf-clients (session_of lab) (capture_of lab) stage (step stage) lab.card lab.clients after.clients lab.readers places (keeps stage) done.are at.actors));
    rows = done.rows;
    phases = (keeps stage).card.phases;
  };
}

-- it is what a run may have of it
pub ItemMay-border : (session : Session) (stage : Stage) (one : Item) → IsBorderItem one → ItemMay session stage one (border_after session stage one)
ItemMay-border session stage (item.Opens number actor) border = refl
ItemMay-border session stage (item.Closes number actor) border = refl
ItemMay-border session stage (item.Phase lines) border = absurd border

slice_get-inside : {X : Type 0} (xs : List X) (i : ℕ) (x : X) → slice_get xs i ≡ Some x → i < length xs
slice_get-inside [] i x is = absurd (none-some x is)
slice_get-inside (y ∷ xs) zero x is = omega arith
slice_get-inside (y ∷ xs) (suc i) x is = let more = slice_get-inside xs i x is in omega (arith, more)

pub next-inside : (lab : Lab) (one : Item) → IsNextItem lab one → lab.next < length lab.script.now.body
next-inside lab one is = slice_get-inside lab.script.now.body lab.next one is

pub OnOk-more : {X E : Type 0} (P Q : Type 0) (r : Result X E) → (P → Q) → OnOk r P → OnOk r Q
OnOk-more P Q (Ok x) more is = more is
OnOk-more P Q (Err e) more is = tt

-- a fact, whatever the answer; and one that follows from two others
pub OnErr-always : {X E P : Type 0} (r : Result X E) → P → OnErr r P
OnErr-always (Ok x) is = tt
OnErr-always (Err e) is = is

pub OnErr-both : {X E : Type 0} (P Q S : Type 0) (r : Result X E) → (P → Q → S) → OnErr r P → OnErr r Q → OnErr r S
OnErr-both P Q S (Ok x) more first second = tt
OnErr-both P Q S (Err e) more first second = more first second
