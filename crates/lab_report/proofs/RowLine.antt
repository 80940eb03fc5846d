-- The lines of a report, part by part.
use Rattle.lab_report.specs.Prelude.{append_assoc, codes, List, refl, ℕ, [], ◌++◌, ◌∷◌, ◌≡◌, BadState, state_name, Request, Row, Script, request_of_row}
use Rattle.lab_report.specs.Prelude.{answer_text, error_front, error_rest, error_text, front_text, number_or_dash, row_line}
use Rattle.snd_base.specs.declared.errors.PcmError.{PcmError}

-- a refusal's text is its front and what is said after that
pub error_text_parts : (error : PcmError) → error_text error ≡ error_front error ++ error_rest error
error_text_parts BadState = refl
error_text_parts other = refl

-- the parts of a line, from its front on
pub row_parts : (f a s n e : List ℕ) → (((f ++ 32 ∷ a) ++ 32 ∷ s) ++ 32 ∷ n) ++ e ≡ f ++ 32 ∷ (a ++ 32 ∷ (s ++ 32 ∷ (n ++ e)))
row_parts f a s n e = simp append_assoc

pub segment_parts : (n a b c d e : List ℕ)
    → ((((codes "segment " ++ n ++ 32 ∷ a) ++ 32 ∷ b) ++ 32 ∷ c) ++ 32 ∷ d) ++ e ≡ codes "segment" ++ 32 ∷ (n ++ 32 ∷ (a ++ 32 ∷ (b ++ 32 ∷ (c ++ 32 ∷ (d ++ e)))))
segment_parts n a b c d e = simp append_assoc

pub run_parts : (n a b e : List ℕ) → ((codes "run " ++ n ++ 32 ∷ a) ++ 32 ∷ b) ++ e ≡ codes "run" ++ 32 ∷ (n ++ 32 ∷ (a ++ 32 ∷ (b ++ e)))
run_parts n a b e = simp append_assoc

pub played_parts : (a b e : List ℕ) → (codes "played " ++ a ++ 32 ∷ b) ++ e ≡ codes "played" ++ 32 ∷ (a ++ 32 ∷ (b ++ e))
played_parts a b e = simp append_assoc

appended : (t f a s m : List ℕ)
    → ((((((t ++ f) ++ 32 ∷ []) ++ a) ++ 32 ∷ (s ++ 32 ∷ [])) ++ m) ++ 10 ∷ [])
    ≡ t ++ ((((f ++ 32 ∷ a) ++ 32 ∷ s) ++ 32 ∷ m) ++ 10 ∷ [])
appended t f a s m = simp append_assoc

-- a text to which the parts of a row's line were appended, one after the other
pub row_line-appended : (script : Script) (row : Row) (request : Request) (t0 t1 t2 t3 t4 t5 t6 : List ℕ)
    → request ≡ request_of_row row → t1 ≡ t0 ++ front_text script request → t2 ≡ t1 ++ 32 ∷ [] → t3 ≡ t2 ++ answer_text row.answer
    → t4 ≡ t3 ++ 32 ∷ (state_name row.state ++ 32 ∷ []) → t5 ≡ t4 ++ number_or_dash row.seen → t6 ≡ t5 ++ 10 ∷ []
    → t6 ≡ t0 ++ row_line script row
row_line-appended script row request t0 t1 t2 t3 t4 t5 t6 e e1 e2 e3 e4 e5 e6 =
    rw (e6, e5, e4, e3, e2, e1, e) (appended t0 (front_text script (request_of_row row)) (answer_text row.answer) (state_name row.state) (number_or_dash row.seen))
