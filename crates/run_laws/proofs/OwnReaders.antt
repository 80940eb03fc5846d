-- What a reader does where no phase leaves a choice is what it does by itself.
use Rattle.run_laws.specs.Prelude.{ap, arith, length, List, None, Option, refl, Some, subst, sym, ℕ, [], ◌++◌, ◌<◌, ◌∙◌, ◌∷◌, ◌≡◌, get_or-map, eq-eqb}
use Rattle.run_laws.specs.Prelude.{nat_tests, get_or-set_other, get_or-set_same, length-map, length-set, Bool, false, map, nat_eq, slice_index_or, true}
use Rattle.run_laws.specs.Prelude.{CaptureStream, Sound, Actor, Item, Line, Op, Row, first_frame, is_of_card, card_end, client_kinds, clients_text}
use Rattle.run_laws.specs.Prelude.{is_reader_stopped, items_text, phase_text, reader_kinds, readers_text, reaped_reader, reaped_reader_if, lab_text, runs_of}
use Rattle.run_laws.specs.Prelude.{with_numbers, lines_text, Alone, alone_at, alone_by, answers_of, given_reader, HaveLines, IsReaderAlone, own_close}
use Rattle.run_laws.specs.Prelude.{own_items, own_open, reaped_by, rows_by, runs_by, is_client, is_reader, ops_by, Reader, AtPort, CardEnd, after_close}
use Rattle.run_laws.specs.Prelude.{after_open, close_reader, first_stage, no_reader, open_reader, open_reader_with, reader_at, Session, Setup, Stage, Border}
use Rattle.run_laws.proofs.Numbered.{numbered-at}
use Rattle.run_laws.proofs.OwnActors.{IsOwn, ItemAlone, LeavesOthers, Own, PhaseOf, client_row-is, closes-own, reader_row-is, not-own, opens-own, other-view, own-alone, view, view_of}
use Rattle.run_laws.proofs.OwnLines.{EachAt, TextOf, cards-other, each-at, each-other, each-size, members_of, phase-rows, text-each, text-of}
use Rattle.lab_lines.specs.declared.line.Actor.TheVariants as actor

-- a reader of a session
abbrev pub reader_own : Session → ℕ → Own Reader
reader_own session n = record {
  is_theirs = is_reader n;
  actors = λ stage. stage.readers;
  number = n;
  nobody = no_reader session.ring;
  given = given_reader session.ring n (slice_index_or session.readers n None);
}

pub reader-border : (session : Session) (n : ℕ) (stage : Stage) (who : Actor) → Border session stage who (LeavesOthers (reader_own session n) who stage)
reader-border session n stage who = record {
  none = λ card. record { same = λ other. refl; size = refl };
  refused = λ lobby row of. record { same = λ other. other-view (is_reader n) _ _ stage row refl (rw of other); size = refl };
  client = λ m client lobby claims row who_is of segments. record { same = λ other. other-view (is_reader n) _ _ stage row refl (ap (is_reader n) of); size = refl };
  reader = λ m own anew row who_is of. record {
    same = λ other. let another : nat_eq m n ≡ false = ap (is_reader n) (sym who_is) ∙ other in
        other-view (is_reader n) _ _ stage row (get_or-set_other stage.readers m n _ _ (not-own n m another)) (ap (is_reader n) of ∙ another);
    size = length-set stage.readers m _;
  };
}

-- ---- items of the reader's own

-- who has the reader's rows is the reader
pub is-own : (n : ℕ) → is_reader n (actor.Reader n) ≡ true
is-own n = eq-eqb n n refl

pub own-number : (n : ℕ) (who : Actor) → is_reader n who ≡ true → actor.Reader n ≡ who
own-number n who is = grind (arith, nat_tests)

-- a reader with its parts
abbrev pub reader_with : AtPort → Option CaptureStream → List ℕ → AtPort × Reader
reader_with a own frames = (a, record { own = own; frames = frames })

open-own : (session : Session) (n : ℕ) (stage : Stage) (a : AtPort) (own : Option CaptureStream) (frames : List ℕ) → n < length stage.readers
    → reader_at session stage n ≡ reader_with a own frames
    → ItemAlone (reader_own session n).given (view_of (is_reader n) (reader_with a own frames) stage)
    (view (reader_own session n) (open_reader session stage n (reader_with a own frames) own)) (own_open ∷ [])
open-own session n stage a (Some r) frames there is = opens-own _ (is_reader n) _ _ _ stage _ refl (is-own n) is refl
open-own session n stage a None frames there is = by_setup (slice_index_or session.readers n None) refl
  where
    by_setup : (setup : Option Setup) → slice_index_or session.readers n None ≡ setup
        → ItemAlone (reader_own session n).given (view_of (is_reader n) (reader_with a None frames) stage)
        (view (reader_own session n) (open_reader_with session stage n setup (reader_with a None frames))) (own_open ∷ [])
    by_setup None given = opens-own _ (is_reader n) _ _ _ stage _ refl (is-own n) is (rw given refl)
    by_setup (Some setup) given = opens-own _ (is_reader n) _ _ _ stage _ refl (is-own n) (get_or-set_same stage.readers n _ _ there) (rw given refl)

close-own : (session : Session) (n : ℕ) (stage : Stage) (a : AtPort) (own : Option CaptureStream) (frames : List ℕ) → n < length stage.readers
    → reader_at session stage n ≡ reader_with a own frames
    → ItemAlone (reader_own session n).given (view_of (is_reader n) (reader_with a own frames) stage)
    (view (reader_own session n) (close_reader session stage n (reader_with a own frames) own)) (own_close ∷ [])
close-own session n stage a None frames there is = closes-own _ (is_reader n) _ _ _ stage _ refl (is-own n) is refl
close-own session n stage a (Some r) frames there is = closes-own _ (is_reader n) _ _ _ stage _ refl (is-own n) (get_or-set_same stage.readers n _ _ there) refl

-- ---- a phase

reaped-same : (session : Session) (n : ℕ) (stopped : Bool) (x : AtPort × Reader) → reaped_reader_if stopped session.ring x ≡ reaped_by (reader_own session n).given stopped x
reaped-same session n true (a, reader) = refl
reaped-same session n false (a, reader) = refl

phase-own : (session : Session) (n : ℕ) (stage : Stage) (lines : List Line) → n < length stage.readers
    → PhaseOf (reader_own session n) stage lines (phase_text session stage lines)
phase-own session n stage lines there = record {
  rows = phase-rows (is_reader n) stage.rows _ (clients_text session stage lines).1 (readers_text session stage lines).1 _ (cards-other (is_reader n) refl _ _ (ops_by is_of_card lines))
      (λ i. none i ++ (at.rows_are ∙ at.does.1) i);
  actor = get_or-map (reaped_reader session.ring) (readers_text session stage lines).0 n (no_reader session.ring)
      ∙ ap (reaped_reader session.ring) at.does.0 ∙ reaped-same session n (is_reader_stopped done.0.1.own) done.0;
}
  where
    card : CardEnd
    card = card_end session stage lines

    ops : ℕ → List Op
    ops m = ops_by (is_reader m) lines

    done : (AtPort × Reader) × List Row
    done = lines_text (reader_kinds stage n) card (reader_at session stage n) (ops n)

    at : EachAt (is_reader n) n (TextOf (reader_kinds stage) card ops) n stage.readers (readers_text session stage lines).0 (readers_text session stage lines).1 (no_reader session.ring)
    at = each-at (is_reader n) n (TextOf (reader_kinds stage) card ops)
        (text-of (is_reader n) (λ m. nat_eq m n) (reader_kinds stage) card ops (λ m asked reader answer. ap (is_reader n) (reader_row-is _ m asked reader.own answer).0))
        0 n stage.readers _ _ (no_reader session.ring) (omega arith) there (text-each (reader_kinds stage) card ops 0 stage.readers)

    none : rows_by (is_reader n) (clients_text session stage lines).1 ≡ []
    none = each-other (is_reader n) (λ m. false) (TextOf (client_kinds session stage) card (λ m. ops_by (is_client m) lines))
        (text-of (is_reader n) (λ m. false) (client_kinds session stage) card (λ m. ops_by (is_client m) lines) (λ m asked client answer. ap (is_reader n) (client_row-is _ m asked client.own answer).0))
        0 stage.clients _ _ (λ m low. refl) (text-each (client_kinds session stage) card (λ m. ops_by (is_client m) lines) 0 stage.clients)

reader-IsOwn : (session : Session) (n : ℕ) → IsOwn session (reader_own session n)
reader-IsOwn session n = record {
  border = reader-border session n;
  opens = λ stage who mine there.
      subst (λ who. ItemAlone (reader_own session n).given (view (reader_own session n) stage) (view (reader_own session n) (after_open session stage who)) (own_open ∷ [])) (own-number n who mine)
      (open-own session n stage (reader_at session stage n).0 (reader_at session stage n).1.own (reader_at session stage n).1.frames there refl);
  closes = λ stage who mine there.
      subst (λ who. ItemAlone (reader_own session n).given (view (reader_own session n) stage) (view (reader_own session n) (after_close session stage who)) (own_close ∷ [])) (own-number n who mine)
      (close-own session n stage (reader_at session stage n).0 (reader_at session stage n).1.own (reader_at session stage n).1.frames there refl);
  phase = phase-own session n;
  size = λ stage lines. length-map (readers_text session stage lines).0 (reaped_reader session.ring)
      ∙ each-size _ 0 stage.readers _ _ (text-each (reader_kinds stage) (card_end session stage lines) (λ m. ops_by (is_reader m) lines) 0 stage.readers);
  row_op = λ phase asked reader answer. (reader_row-is phase n asked reader.own answer).1;
}

-- the runs of a number are the members of that number
pub runs-members : (n : ℕ) (pairs : List (ℕ × (ℕ × ℕ)))
    → runs_by n (map (λ (run : ℕ × (ℕ × ℕ)). (run.0, run.1.0, run.1.1)) pairs) ≡ members_of n pairs
runs-members n [] = refl
runs-members n ((m, run) ∷ pairs) = by_number (nat_eq m n) refl (runs-members n pairs)
  where
    by_number : (same : Bool) → nat_eq m n ≡ same
        → runs_by n (map (λ (r : ℕ × (ℕ × ℕ)). (r.0, r.1.0, r.1.1)) pairs) ≡ members_of n pairs
        → runs_by n (map (λ (r : ℕ × (ℕ × ℕ)). (r.0, r.1.0, r.1.1)) ((m, run) ∷ pairs)) ≡ members_of n ((m, run) ∷ pairs)
    by_number true is rest = rw is (ap (λ runs. run ∷ runs) rest)
    by_number false is rest = rw is rest

-- a reader's rows and runs are those that it has by itself
pub reader-alone : (session : Session) (capture : Option Sound) (body : List Item) (n : ℕ) → n < length session.readers → HaveLines (is_reader n) body
    → IsReaderAlone session body (lab_text session capture body).report n
reader-alone session capture body n there lines = record {
  rows = ap (λ (x : Alone Reader). x.rows) alone;
  runs = runs-members n (with_numbers (λ (reader : AtPort × Reader). runs_of reader.1.frames) 0 end.readers)
      ∙ numbered-at (λ (reader : AtPort × Reader). runs_of reader.1.frames) (no_reader session.ring) n 0 n end.readers (omega arith) refl
      ∙ ap (λ (x : Alone Reader). runs_of x.actor.1.frames) alone;
}
  where
    end : Stage
    end = items_text session (first_stage session) body

    alone : view (reader_own session n) end
        ≡ alone_by (reader_own session n).given (alone_at (first_frame session.card) (no_reader session.ring)) (own_items (is_reader n) body) (answers_of (rows_by (is_reader n) end.rows))
    alone = own-alone session (reader_own session n) (reader-IsOwn session n) body (rw (length-map session.readers) there) (get_or-map (λ setup. no_reader session.ring) session.readers n None) lines
