-- The openings of lists of lines: one more line has one opening more.
use Rattle.lab_actors.specs.Prelude.{get_or, length, List, subst, sym, take, ℕ, [], ◌++◌, ◌+◌, ◌<◌, ◌∷◌, ◌≡◌, take_more, Option, Sound, CardLine, ClientLine}
use Rattle.lab_actors.specs.Prelude.{AreClientOpenings, AreReaderOpenings, IsClientOpening, IsReaderOpening, Setup}
use Rattle.lab_lines.specs.declared.script.ReaderLine.{ReaderLine}

AreClientOpenings-push : (card : CardLine) (lines : List ClientLine) (wavs : List Sound) (setups : List (Option Setup)) (line : ClientLine) (wav : Sound) (setup : Option Setup)
    → AreClientOpenings card lines wavs setups → IsClientOpening card line wav setup
    → AreClientOpenings card (lines ++ line ∷ []) (wavs ++ wav ∷ []) (setups ++ setup ∷ [])
AreClientOpenings-push card [] [] [] line wav setup all one = (one, tt)
AreClientOpenings-push card (l ∷ lines) (w ∷ wavs) (s ∷ setups) line wav setup all one =
    (all.0, AreClientOpenings-push card lines wavs setups line wav setup all.1 one)
AreClientOpenings-push card [] [] (s ∷ setups) line wav setup all one = absurd all
AreClientOpenings-push card [] (w ∷ wavs) [] line wav setup all one = absurd all
AreClientOpenings-push card [] (w ∷ wavs) (s ∷ setups) line wav setup all one = absurd all
AreClientOpenings-push card (l ∷ lines) [] [] line wav setup all one = absurd all
AreClientOpenings-push card (l ∷ lines) [] (s ∷ setups) line wav setup all one = absurd all
AreClientOpenings-push card (l ∷ lines) (w ∷ wavs) [] line wav setup all one = absurd all

pub AreClientOpenings-more : (card : CardLine) (lines : List ClientLine) (wavs : List Sound) (setups : List (Option Setup)) (n : ℕ) (line : ClientLine) (wav : Sound) (setup : Option Setup)
    → n < length lines → n < length wavs → line ≡ get_or lines n line → wav ≡ get_or wavs n wav
    → AreClientOpenings card (take n lines) (take n wavs) setups → IsClientOpening card line wav setup
    → AreClientOpenings card (take (n + 1) lines) (take (n + 1) wavs) (setups ++ setup ∷ [])
AreClientOpenings-more card lines wavs setups n line wav setup in_lines in_wavs is_line is_wav all one =
    let lines_more : take (n + 1) lines ≡ take n lines ++ line ∷ [] = rw is_line (take_more lines n line in_lines) in
    let wavs_more : take (n + 1) wavs ≡ take n wavs ++ wav ∷ [] = rw is_wav (take_more wavs n wav in_wavs) in
    rw (lines_more, wavs_more) (AreClientOpenings-push card (take n lines) (take n wavs) setups line wav setup all one)

AreReaderOpenings-push : (card : CardLine) (lines : List ReaderLine) (setups : List (Option Setup)) (line : ReaderLine) (setup : Option Setup)
    → AreReaderOpenings card lines setups → IsReaderOpening card line setup
    → AreReaderOpenings card (lines ++ line ∷ []) (setups ++ setup ∷ [])
AreReaderOpenings-push card [] [] line setup all one = (one, tt)
AreReaderOpenings-push card (l ∷ lines) (s ∷ setups) line setup all one = (all.0, AreReaderOpenings-push card lines setups line setup all.1 one)
AreReaderOpenings-push card [] (s ∷ setups) line setup all one = absurd all
AreReaderOpenings-push card (l ∷ lines) [] line setup all one = absurd all

pub AreReaderOpenings-more : (card : CardLine) (lines : List ReaderLine) (setups : List (Option Setup)) (n : ℕ) (line : ReaderLine) (setup : Option Setup)
    → n < length lines → line ≡ get_or lines n line → AreReaderOpenings card (take n lines) setups → IsReaderOpening card line setup
    → AreReaderOpenings card (take (n + 1) lines) (setups ++ setup ∷ [])
AreReaderOpenings-more card lines setups n line setup in_lines is_line all one =
    let lines_more : take (n + 1) lines ≡ take n lines ++ line ∷ [] = rw is_line (take_more lines n line in_lines) in
    subst (λ (ls : List ReaderLine). AreReaderOpenings card ls (setups ++ setup ∷ [])) (sym lines_more)
    (AreReaderOpenings-push card (take n lines) setups line setup all one)
