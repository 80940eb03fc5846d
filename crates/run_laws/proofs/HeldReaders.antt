-- What is so of a run's readers in each of its stages.
use Rattle.run_laws.specs.Prelude.{arith, length, List, None, refl, Some, subst, sym, ℕ, [], ◌++◌, ◌+◌, ◌<◌, ◌∷◌, ◌≡◌, nat_tests, append_assoc, length-append}
use Rattle.run_laws.specs.Prelude.{Bool, false, map, slice_index_or, slice_set, true, Actor, Item, Op, Answer, is_reader_stopped, ItemMay, ItemsMay}
use Rattle.run_laws.specs.Prelude.{reader_kinds, reaped_reader, reaped_reader_if, rules_of, LineMay, is_reader, ops_by, Reader, reader_kind, AtPort, Rules}
use Rattle.run_laws.specs.Prelude.{after_close, after_open, ended_reader, no_reader, opened_reader, renewed_port, Session, Setup, Stage, AtBorder, closes-to}
use Rattle.run_laws.specs.Prelude.{opens-to}
use Rattle.run_laws.proofs.Stages.{each-walked, middle-at, middle-set}
use Rattle.lab_lines.specs.declared.line.Item.TheVariants as item
use Rattle.lab_lines.specs.declared.line.Op.TheVariants as op

-- the reader of a number
abbrev pub read_at : Session → List (AtPort × Reader) → ℕ → AtPort × Reader
read_at session readers n = slice_index_or readers n (no_reader session.ring)

-- it, opened
abbrev pub reader_opened : Session → List (AtPort × Reader) → ℕ → Setup → AtPort × Reader
reader_opened session readers n setup =
    (renewed_port session.ring (read_at session readers n).0, record (read_at session readers n).1 { own = Some (opened_reader session.ring setup) })

-- ---- openings and closings

module _ (session : Session) (R : List (AtPort × Reader) → Type 0)
    (opens : (readers : List (AtPort × Reader)) (n : ℕ) (setup : Setup) → slice_index_or session.readers n None ≡ Some setup → R readers
    → R (slice_set readers n (reader_opened session readers n setup)))
    (ends : (readers : List (AtPort × Reader)) (n : ℕ) → R readers → R (slice_set readers n (ended_reader session.ring (read_at session readers n)))) where
  -- a client is opened and closed without a change of the readers
  border-held : (stage : Stage) (who : Actor) (asked : Op) → R stage.readers → AtBorder session stage who asked (λ after. R after.readers)
  border-held stage who asked so = grind (arith, nat_tests)

  pub opening-held : (stage : Stage) (who : Actor) → R stage.readers → R (after_open session stage who).readers
  opening-held stage who so = opens-to session stage (λ after. R after.readers) who (border-held stage who op.Opens so)

  pub closing-held : (stage : Stage) (who : Actor) → R stage.readers → R (after_close session stage who).readers
  closing-held stage who so = closes-to session stage (λ after. R after.readers) who (border-held stage who op.Closes so)

-- ---- the items of a body

-- a fact of the readers stays so by each line of a phase, by an opening, and where a reader ends
pub record IsLastingOfReaders (session : Session) (R : List (AtPort × Reader) → Type 0) : Type 0 where
  pub line : (rules : Rules) (phase : ℕ) (readers : List (AtPort × Reader)) (n : ℕ) (y : AtPort × Reader) (asked : Op) (answer : Answer) → n < length readers
      → LineMay (reader_kind phase n) rules (read_at session readers n) asked y answer → R readers → R (slice_set readers n y)
  pub opens : (readers : List (AtPort × Reader)) (n : ℕ) (setup : Setup) → slice_index_or session.readers n None ≡ Some setup → R readers
      → R (slice_set readers n (reader_opened session readers n setup))
  pub ends : (readers : List (AtPort × Reader)) (n : ℕ) → R readers → R (slice_set readers n (ended_reader session.ring (read_at session readers n)))

module _ (session : Session) (R : List (AtPort × Reader) → Type 0) (held : IsLastingOfReaders session R) where
  -- each reader that was stopped ends
  reaped-held : (done xs : List (AtPort × Reader)) (n : ℕ) → length done ≡ n → R (done ++ xs) → R (done ++ map (reaped_reader session.ring) xs)
  reaped-held done [] n at_n so = so
  reaped-held done (x ∷ xs) n at_n so = subst R (append_assoc done (reaped_reader session.ring x ∷ []) _)
      (reaped-held (done ++ reaped_reader session.ring x ∷ []) xs (n + 1) (omega (arith, length-append done (reaped_reader session.ring x ∷ []), at_n))
      (subst R (sym (append_assoc done (reaped_reader session.ring x ∷ []) xs)) (by_stop (is_reader_stopped x.1.own))))
    where
      by_stop : (stopped : Bool) → R (done ++ reaped_reader_if stopped session.ring x ∷ xs)
      by_stop false = so
      by_stop true = subst R (middle-set done xs n x (ended_reader session.ring x) at_n)
          (subst (λ (z : AtPort × Reader). R (slice_set (done ++ x ∷ xs) n (ended_reader session.ring z))) (middle-at done xs n x (no_reader session.ring) at_n)
          (held.ends (done ++ x ∷ xs) n so))

  item-held : (stage after : Stage) (one : Item) → ItemMay session stage one after → R stage.readers → R after.readers
  item-held stage after (item.Opens number who) is so = rw is (opening-held session R held.opens held.ends stage who so)
  item-held stage after (item.Closes number who) is so = rw is (closing-held session R held.opens held.ends stage who so)
  item-held stage after (item.Phase lines) may so = rw may.is (reaped-held [] may.readers 0 refl
      (each-walked (reader_kinds stage) (rules_of session stage lines) (no_reader session.ring) R
      (λ readers n y asked answer within one. held.line (rules_of session stage lines) (stage.phases + 1) readers n y asked answer within one)
      (λ n. ops_by (is_reader n) lines) [] stage.readers may.readers 0 may.reader_rows refl may.readers_may so))

  pub readers-held : (stage after : Stage) (items : List Item) → ItemsMay session stage items after → R stage.readers → R after.readers
  readers-held stage after [] is so = rw is so
  readers-held stage after (one ∷ items) (between, may, rest) so = readers-held between after items rest (item-held stage between one may so)
