-- What a client does where no phase leaves a choice is what it does by itself.
use Rattle.run_laws.specs.Prelude.{ap, arith, length, List, None, Option, refl, Some, subst, sym, ℕ, [], ◌++◌, ◌<◌, ◌∙◌, ◌∷◌, ◌≡◌, get_or-map, eq-eqb}
use Rattle.run_laws.specs.Prelude.{nat_tests, append-nil, get_or-set_other, get_or-set_same, length-map, length-set, Bool, Err, false, nat_eq, Ok, Result}
use Rattle.run_laws.specs.Prelude.{slice_index_or, true, PcmError, Segment, PlaybackStream, Sound, Actor, Item, Line, Op, Row, first_frame, is_of_card}
use Rattle.run_laws.specs.Prelude.{claim_refusal, Client, segments_of, card_end, client_kinds, clients_text, is_stopped, items_text, no_sound, phase_text}
use Rattle.run_laws.specs.Prelude.{reader_kinds, readers_text, reaped_client, reaped_client_if, lab_text, lines_text, Alone, alone_at, alone_by, answers_of}
use Rattle.run_laws.specs.Prelude.{given_client, HaveLines, IsClientAlone, own_close, own_items, own_open, reaped_by, rows_by, is_client, is_reader, ops_by}
use Rattle.run_laws.specs.Prelude.{after_attach, Lobby, AtPort, CardEnd, after_close, after_open, attached_client, claimed_client, client_at, close_client}
use Rattle.run_laws.specs.Prelude.{first_stage, no_client, open_client, open_client_with, Session, Setup, Stage, Border}
use Rattle.run_laws.proofs.Numbered.{numbered-at}
use Rattle.run_laws.proofs.OwnActors.{IsOwn, ItemAlone, LeavesOthers, Own, PhaseOf, client_row-is, closes-own, reader_row-is, not-own, opens-own, other-view, own-alone, view, view_of}
use Rattle.run_laws.proofs.OwnLines.{EachAt, TextOf, cards-other, each-at, each-other, each-size, phase-rows, text-each, text-of}
use Rattle.lab_lines.specs.declared.line.Actor.TheVariants as actor

-- a client of a session
abbrev client_own : Session → ℕ → Own Client
client_own session n = record {
  is_theirs = is_client n;
  actors = λ stage. stage.clients;
  number = n;
  nobody = no_client session.ring;
  given = given_client session.ring n (slice_index_or session.clients n None) (slice_index_or session.sounds n no_sound);
}

client-border : (session : Session) (n : ℕ) (stage : Stage) (who : Actor) → Border session stage who (LeavesOthers (client_own session n) who stage)
client-border session n stage who = record {
  none = λ card. record { same = λ other. refl; size = refl };
  refused = λ lobby row of. record { same = λ other. other-view (is_client n) _ _ stage row refl (rw of other); size = refl };
  client = λ m client lobby claims row who_is of segments. record {
    same = λ other. let another : nat_eq m n ≡ false = ap (is_client n) (sym who_is) ∙ other in
        other-view (is_client n) _ _ stage row (get_or-set_other stage.clients m n _ _ (not-own n m another)) (ap (is_client n) of ∙ another);
    size = length-set stage.clients m _;
  };
  reader = λ m own anew row who_is of. record { same = λ other. other-view (is_client n) _ _ stage row refl (ap (is_client n) of); size = refl };
}

-- ---- items of the client's own

-- who has the client's rows is the client
is-own : (n : ℕ) → is_client n (actor.Client n) ≡ true
is-own n = eq-eqb n n refl

own-number : (n : ℕ) (who : Actor) → is_client n who ≡ true → actor.Client n ≡ who
own-number n who is = grind (arith, nat_tests)

-- a client with its parts
abbrev client_with : AtPort → Option PlaybackStream → List Segment → AtPort × Client
client_with a own ended = (a, record { own = own; ended = ended })

open-own : (session : Session) (n : ℕ) (stage : Stage) (a : AtPort) (own : Option PlaybackStream) (ended : List Segment) → n < length stage.clients
    → client_at session stage n ≡ client_with a own ended
    → ItemAlone (client_own session n).given (view_of (is_client n) (client_with a own ended) stage)
    (view (client_own session n) (open_client session stage n (client_with a own ended) own)) (own_open ∷ [])
open-own session n stage a (Some c) ended there is = opens-own _ (is_client n) _ _ _ stage _ refl (is-own n) is refl
open-own session n stage a None ended there is = by_setup (slice_index_or session.clients n None) refl
  where
    Opens : Stage → Type 0
    Opens after = ItemAlone (client_own session n).given (view_of (is_client n) (client_with a None ended) stage) (view (client_own session n) after) (own_open ∷ [])

    by_answer : (setup : Setup) (at : Lobby × Result (Unit {0}) PcmError) → slice_index_or session.clients n None ≡ Some setup
        → Opens (attached_client session stage n setup (client_with a None ended) at)
    by_answer setup (lobby, Ok done) given = opens-own _ (is_client n) _ _ _ stage _ refl (is-own n) (get_or-set_same stage.clients n _ _ there) (rw given refl)
    by_answer setup (lobby, Err e) given = opens-own _ (is_client n) _ _ _ stage _ refl (is-own n) is (rw given refl)

    by_claim : (setup : Setup) (refusal : Option PcmError) → slice_index_or session.clients n None ≡ Some setup
        → Opens (claimed_client session stage n setup (client_with a None ended) refusal)
    by_claim setup (Some e) given = opens-own _ (is_client n) _ _ _ stage _ refl (is-own n) is (rw given refl)
    by_claim setup None given = by_answer setup (after_attach n stage.position stage.lobby) given

    by_setup : (setup : Option Setup) → slice_index_or session.clients n None ≡ setup → Opens (open_client_with session stage n setup (client_with a None ended))
    by_setup None given = opens-own _ (is_client n) _ _ _ stage _ refl (is-own n) is (rw given refl)
    by_setup (Some setup) given = by_claim setup (claim_refusal session.card.share stage.claims setup.bindings stage.position) given

close-own : (session : Session) (n : ℕ) (stage : Stage) (a : AtPort) (own : Option PlaybackStream) (ended : List Segment) → n < length stage.clients
    → client_at session stage n ≡ client_with a own ended
    → ItemAlone (client_own session n).given (view_of (is_client n) (client_with a own ended) stage)
    (view (client_own session n) (close_client session stage n (client_with a own ended) own)) (own_close ∷ [])
close-own session n stage a None ended there is = closes-own _ (is_client n) _ _ _ stage _ refl (is-own n) is refl
close-own session n stage a (Some c) ended there is = closes-own _ (is_client n) _ _ _ stage _ refl (is-own n) (get_or-set_same stage.clients n _ _ there) refl

-- ---- a phase

reaped-same : (session : Session) (n : ℕ) (stopped : Bool) (x : AtPort × Client) → reaped_client_if stopped session.ring x ≡ reaped_by (client_own session n).given stopped x
reaped-same session n true (a, client) = refl
reaped-same session n false (a, client) = refl

phase-own : (session : Session) (n : ℕ) (stage : Stage) (lines : List Line) → n < length stage.clients
    → PhaseOf (client_own session n) stage lines (phase_text session stage lines)
phase-own session n stage lines there = record {
  rows = phase-rows (is_client n) stage.rows _ (clients_text session stage lines).1 (readers_text session stage lines).1 _ (cards-other (is_client n) refl _ _ (ops_by is_of_card lines))
      ((λ i. (at.rows_are ∙ at.does.1) i ++ none i) ∙ append-nil _);
  actor = get_or-map (reaped_client session.ring) (clients_text session stage lines).0 n (no_client session.ring)
      ∙ ap (reaped_client session.ring) at.does.0 ∙ reaped-same session n (is_stopped done.0.1.own) done.0;
}
  where
    card : CardEnd
    card = card_end session stage lines

    ops : ℕ → List Op
    ops m = ops_by (is_client m) lines

    done : (AtPort × Client) × List Row
    done = lines_text (client_kinds session stage n) card (client_at session stage n) (ops n)

    at : EachAt (is_client n) n (TextOf (client_kinds session stage) card ops) n stage.clients (clients_text session stage lines).0 (clients_text session stage lines).1 (no_client session.ring)
    at = each-at (is_client n) n (TextOf (client_kinds session stage) card ops)
        (text-of (is_client n) (λ m. nat_eq m n) (client_kinds session stage) card ops (λ m asked client answer. ap (is_client n) (client_row-is _ m asked client.own answer).0))
        0 n stage.clients _ _ (no_client session.ring) (omega arith) there (text-each (client_kinds session stage) card ops 0 stage.clients)

    none : rows_by (is_client n) (readers_text session stage lines).1 ≡ []
    none = each-other (is_client n) (λ m. false) (TextOf (reader_kinds stage) card (λ m. ops_by (is_reader m) lines))
        (text-of (is_client n) (λ m. false) (reader_kinds stage) card (λ m. ops_by (is_reader m) lines) (λ m asked reader answer. ap (is_client n) (reader_row-is _ m asked reader.own answer).0))
        0 stage.readers _ _ (λ m low. refl) (text-each (reader_kinds stage) card (λ m. ops_by (is_reader m) lines) 0 stage.readers)

client-IsOwn : (session : Session) (n : ℕ) → IsOwn session (client_own session n)
client-IsOwn session n = record {
  border = client-border session n;
  opens = λ stage who mine there.
      subst (λ who. ItemAlone (client_own session n).given (view (client_own session n) stage) (view (client_own session n) (after_open session stage who)) (own_open ∷ [])) (own-number n who mine)
      (open-own session n stage (client_at session stage n).0 (client_at session stage n).1.own (client_at session stage n).1.ended there refl);
  closes = λ stage who mine there.
      subst (λ who. ItemAlone (client_own session n).given (view (client_own session n) stage) (view (client_own session n) (after_close session stage who)) (own_close ∷ [])) (own-number n who mine)
      (close-own session n stage (client_at session stage n).0 (client_at session stage n).1.own (client_at session stage n).1.ended there refl);
  phase = phase-own session n;
  size = λ stage lines. length-map (clients_text session stage lines).0 (reaped_client session.ring)
      ∙ each-size _ 0 stage.clients _ _ (text-each (client_kinds session stage) (card_end session stage lines) (λ m. ops_by (is_client m) lines) 0 stage.clients);
  row_op = λ phase asked client answer. (client_row-is phase n asked client.own answer).1;
}

-- a client's rows and segments are those that it has by itself
pub client-alone : (session : Session) (capture : Option Sound) (body : List Item) (n : ℕ) → n < length session.clients → HaveLines (is_client n) body
    → IsClientAlone session body (lab_text session capture body).report n
client-alone session capture body n there lines = record {
  rows = ap (λ (x : Alone Client). x.rows) alone;
  segments = numbered-at (λ (client : AtPort × Client). segments_of client.1) (no_client session.ring) n 0 n end.clients (omega arith) refl
      ∙ ap (λ (x : Alone Client). segments_of x.actor.1) alone;
}
  where
    end : Stage
    end = items_text session (first_stage session) body

    alone : view (client_own session n) end
        ≡ alone_by (client_own session n).given (alone_at (first_frame session.card) (no_client session.ring)) (own_items (is_client n) body) (answers_of (rows_by (is_client n) end.rows))
    alone = own-alone session (client_own session n) (client-IsOwn session n) body (rw (length-map session.clients) there) (get_or-map (λ setup. no_client session.ring) session.clients n None) lines
