-- An item of a body leaves the rows and each reader's frames, with some more after them; an opening or a closing leaves the frames alone.
use Rattle.run_laws.specs.Prelude.{ap, List, None, refl, Some, sym, ℕ, [], ◌++◌, ◌+◌, ◌∙◌, ◌∷◌, ◌≡◌, append-nil, append_assoc, range_with_len, slice_index_or}
use Rattle.run_laws.specs.Prelude.{slice_set, suc, zero, Reader, AtPort, ended_reader, no_reader, Session, Setup, Stage, HasMore, items-more, AreGrown}
use Rattle.run_laws.specs.Prelude.{BordersKeepFrames, frames_of_readers, IsGrownReader, StagesGrow}
use Rattle.std.proofs.Math.Seq.{map-set_same}
use Rattle.run_laws.proofs.HeldReaders.{IsLastingOfReaders, closing-held, reader_opened, readers-held, opening-held, read_at}
use Rattle.run_laws.proofs.SliceLines.{lines-get_slices}

-- ---- openings and closings

pub borders-keep_frames : BordersKeepFrames
borders-keep_frames session stage next number who = record {
  opens = λ is. ap (λ (s : Stage). frames_of_readers s.readers) is ∙ opening-held session Keeps opens ends stage who refl;
  closes = λ is. ap (λ (s : Stage). frames_of_readers s.readers) is ∙ closing-held session Keeps opens ends stage who refl;
}
  where
    Keeps : List (AtPort × Reader) → Type 0
    Keeps readers = frames_of_readers readers ≡ frames_of_readers stage.readers

    opens : (readers : List (AtPort × Reader)) (n : ℕ) (setup : Setup) → slice_index_or session.readers n None ≡ Some setup → Keeps readers
        → Keeps (slice_set readers n (reader_opened session readers n setup))
    opens readers n setup is same = map-set_same (λ (x : AtPort × Reader). x.1.frames) readers n _ (no_reader session.ring) refl ∙ same

    ends : (readers : List (AtPort × Reader)) (n : ℕ) → Keeps readers → Keeps (slice_set readers n (ended_reader session.ring (read_at session readers n)))
    ends readers n same = map-set_same (λ (x : AtPort × Reader). x.1.frames) readers n _ (no_reader session.ring) refl ∙ same

-- ---- an item

-- a reader in the place of one, with its frames and some more
grown-set : (xs ys : List (AtPort × Reader)) (n : ℕ) (d y : AtPort × Reader) → IsGrownReader (slice_index_or ys n d) y → AreGrown xs ys → AreGrown xs (slice_set ys n y)
grown-set [] [] n d y grown are = tt
grown-set (x ∷ xs) (z ∷ ys) zero d y (more, is) ((before, was), others) =
    ((before ++ more, is ∙ ap (λ frames. frames ++ more) was ∙ append_assoc x.1.frames before more), others)
grown-set (x ∷ xs) (z ∷ ys) (suc n) d y grown (one, others) = (one, grown-set xs ys n d y grown others)
grown-set xs ys n d y grown are = absurd are

grown-same : (xs : List (AtPort × Reader)) → AreGrown xs xs
grown-same [] = tt
grown-same (x ∷ xs) = (([], sym (append-nil x.1.frames)), grown-same xs)

grown-held : (session : Session) (xs : List (AtPort × Reader)) → IsLastingOfReaders session (AreGrown xs)
grown-held session xs = record {
  line = λ rules phase readers n y asked answer within may are.
      let got = lines-get_slices rules phase n (read_at session readers n).0 y.0 (read_at session readers n).1 y.1 asked answer may in
      grown-set xs readers n (no_reader session.ring) y (range_with_len got.first got.count, got.frames) are;
  opens = λ readers n setup is are.
      grown-set xs readers n (no_reader session.ring) (reader_opened session readers n setup) ([], sym (append-nil (read_at session readers n).1.frames)) are;
  ends = λ readers n are. grown-set xs readers n (no_reader session.ring) (ended_reader session.ring (read_at session readers n))
      ([], sym (append-nil (read_at session readers n).1.frames)) are;
}

pub stages-grow : StagesGrow
stages-grow session stage next one may =
    let rows : HasMore stage next = items-more session stage next (one ∷ []) (next, may, refl) in
    record { more = rows.more; rows = rows.rows; readers = readers-held session (AreGrown stage.readers) (grown-held session stage.readers) stage next (one ∷ []) (next, may, refl) (grown-same stage.readers) }
