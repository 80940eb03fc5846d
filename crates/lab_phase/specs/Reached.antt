-- A lab that did one item more of its script.
use Rattle.std.specs.Prelude.{◌≡◌, ◌+◌, List, [], ◌∷◌, ◌++◌, length, slice_get, Some}
use Rattle.std.proofs.Common.{refl, sym, ap, subst, ◌∙◌, append_assoc}
use Rattle.std.proofs.lemmas.List.{length-append}
use Rattle.std.proofs.lemmas.Option.{none-some, same_Some}
use Rattle.wav_io.specs.Sound.{Sound}
use Rattle.lab_lines.specs.declared.line.Item.{Item}
use Rattle.lab_lines.specs.declared.script.Script.{Script}
use Rattle.lab_run.specs.Items.{ItemMay, ItemsMay}
use Rattle.lab_run.specs.ScriptWords.{IsReached}
use Rattle.lab_run.specs.Stage.{Session, Stage, first_stage}

-- one item more
ItemsMay-next : (session : Session) (first between after : Stage) (items : List Item) (item : Item) → ItemsMay session first items between → ItemMay session between item after
    → ItemsMay session first (items ++ item ∷ []) after
ItemsMay-next session first between after [] item done next = (after, subst (λ (stage : Stage). ItemMay session stage item after) done next, refl)
ItemsMay-next session first between after (one ∷ items) item (stage, may, done) next = (stage, may, ItemsMay-next session stage between after items item done next)

pub IsReached-next : (script : Script) (wavs : List Sound) (session : Session) (done others : List Item) (item : Item) (stage after : Stage)
    → IsReached script wavs session done (item ∷ others) stage → ItemMay session stage item after → IsReached script wavs session (done ++ item ∷ []) others after
IsReached-next script wavs session done others item stage after is may = record {
  script_is = is.script_is;
  session_is = is.session_is;
  body = is.body ∙ sym (append_assoc done (item ∷ []) others);
  may = ItemsMay-next session (first_stage session) stage after done item is.may may;
}

pub length-next : (done : List Item) (item : Item) → length (done ++ item ∷ []) ≡ length done + 1
length-next done item = length-append done (item ∷ [])

-- the next item of a body is the first of those that aren't done
pub record IsFirstOf (item : Item) (items : List Item) : Type 0 where
  pub others : List Item
  pub is : items ≡ item ∷ others

slice_get-done : (done others : List Item) → slice_get (done ++ others) (length done) ≡ slice_get others 0
slice_get-done [] others = refl
slice_get-done (one ∷ done) others = slice_get-done done others

pub IsFirstOf-next : (done others : List Item) (item : Item) → slice_get (done ++ others) (length done) ≡ Some item → IsFirstOf item others
IsFirstOf-next done [] item is = absurd (none-some item (sym (slice_get-done done []) ∙ is))
IsFirstOf-next done (one ∷ others) item is = record { others = others; is = ap (λ (x : Item). x ∷ others) (same_Some one item (sym (slice_get-done done (one ∷ others)) ∙ is)) }
