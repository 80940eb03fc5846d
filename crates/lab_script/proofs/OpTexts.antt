-- The text of an op is its word, and a number where it has one.
use Rattle.lab_script.specs.Prelude.{ap, append_assoc, List, refl, sym, ℕ, ◌++◌, ◌∙◌, ◌≡◌, Op, count_text, op_count, op_text, op_word}
use Rattle.lab_lines.specs.declared.line.Op.TheVariants as op

op_text_parts : (o : Op) → op_text o ≡ op_word o ++ count_text (op_count o)
op_text_parts (op.Play n) = refl
op_text_parts other = refl

-- a text to which an op's word and number were appended
pub op_text_appended : (text : List ℕ) (o : Op) → (text ++ op_word o) ++ count_text (op_count o) ≡ text ++ op_text o
op_text_appended text o =
    append_assoc text (op_word o) (count_text (op_count o)) ∙ ap (λ said. text ++ said) (sym (op_text_parts o))
