-- The text is read as its script, so that the reader refuses it for want of memory alone.
use Rattle.lab_make.specs.Prelude.{ap, arith, length, List, Ok, sym, ℕ, ◌∙◌, ◌≡◌, ◌≤◌, nat_tests, length-map-range_with_len, Err, Result, Script, ScriptError}
use Rattle.lab_make.specs.Prelude.{RefusesAt, script_of, made_text, made_client, made_script}
use Rattle.lab_script.specs.declared.error.ScriptWhy.{ScriptWhy}
use Rattle.lab_make.proofs.Turns.{script_of-made_text}
use Rattle.lab_script.specs.declared.error.ScriptWhy.TheVariants as why
use Rattle.lab_make.proofs.script.made_script.Goals as goal

-- the script of an answer, where there is one
abbrev script_or : Script → Result Script ScriptError → Script
script_or other (Ok script) = script
script_or other (Err error) = other

-- a text that is a script isn't refused but for want of memory
accepted : (cause : ScriptWhy) (error : ScriptError) (said : Result Script ScriptError) (script : Script) → said ≡ Ok script → (cause ≡ why.Memory → ⊥) → RefusesAt cause error said → ⊥
accepted cause error said script is other refused = grind (arith, nat_tests)

-- the text spells the script
spelled : (clients turns : ℕ) (bytes text : List ℕ) → bytes ≡ text → text ≡ made_text clients turns → clients ≤ 64 → turns ≤ 1000 → script_of bytes ≡ Ok (made_script clients turns)
spelled clients turns bytes text same is few short = ap script_of (same ∙ is) ∙ script_of-made_text clients turns few short

-- so that what is read is the script
read_is : (clients turns : ℕ) (said : Result Script ScriptError) (script : Script) → said ≡ Ok (made_script clients turns) → said ≡ Ok script → script ≡ made_script clients turns
read_is clients turns said script spells reads = ap (script_or script) (sym reads ∙ spells)

pub returns-in-Ok-clause-script : goal.returns-in-Ok-clause-script
returns-in-Ok-clause-script c =
    read_is c.args.clients c.args.turns _ _ (spelled c.args.clients c.args.turns _ _ c.as_bytes.ensures.value c.in_ok-text.ensures c.requires.clients c.requires.turns) c.in-Ok.ensures.exact

pub returns-in-Ok-clause-count : goal.returns-in-Ok-clause-count
returns-in-Ok-clause-count c =
    ap (λ (script : Script). length script.clients) (read_is c.args.clients c.args.turns _ _ (spelled c.args.clients c.args.turns _ _ c.as_bytes.ensures.value c.in_ok-text.ensures c.requires.clients c.requires.turns) c.in-Ok.ensures.exact)
    ∙ length-map-range_with_len made_client 0 c.args.clients

pub unreachable-requires : goal.unreachable-requires
unreachable-requires c =
    accepted c.in-Err.error.why c.in-Err.error _ _
    (spelled c.args.clients c.args.turns _ _ c.as_bytes.ensures.value c.in_ok-text.ensures c.requires.clients c.requires.turns)
    c.in_default.not-Memory c.in-Err.ensures.exact
