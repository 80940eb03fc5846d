-- What the text in a file asks, and what the command that answers it leaves.
use Rattle.std.specs.Prelude.{◌≡◌, ◌++◌, ℕ, List, Option, Result, Ok, Err}
use Rattle.std.specs.Option.{ForSome, option_map}
use Rattle.lab_script.specs.declared.error.ScriptError.{ScriptError}
use Rattle.lab_shelf.specs.Files.{Files, TookPart}
use Rattle.lab_refine.specs.declared.request.Request.{Request}
use Rattle.lab_stop.specs.Causes.{Cause, script_refused, first_bytes, ◌>>=◌}
use Rattle.lab_refine.specs.Reading.{request_of_text}
use Rattle.lab_refine.specs.Answers.{AreAnswers}

-- what a text asks, or its refusal as a cause
abbrev pub as_request : Result Request ScriptError → Result Request Cause
as_request (Ok request) = Ok request
as_request (Err e) = Err (script_refused e)

-- what the text in a file asks, of which one byte more is fetched than a text may have
unfoldable pub request_in : Files → List ℕ → Result Request Cause
request_in files name = do
  text ← first_bytes files name 1048577
  as_request (request_of_text text)

-- a text has the answers to what the text in a file asks, and no other text has them
pub record IsAnswerTo (files : Option Files) (name text : List ℕ) : Type 0 where
  pub request : Request
  pub read : ForSome files (λ m. request_in m name ≡ Ok request)
  pub answers : AreAnswers request text
  pub only : (other : List ℕ) → AreAnswers request other → other ≡ text

-- the answers were put, and no file changed; `taken` is what the output took before, and `took` what it took by now
pub record HasAnswered (name : List ℕ) (before after : Option Files) (taken took : Option (List ℕ)) : Type 0 where
  pub text : List ℕ
  pub answers : IsAnswerTo before name text
  pub files : after ≡ before
  pub put : took ≡ option_map (λ t. t ++ text) taken

-- the first bytes of the answers were put, and no file changed
pub record AnsweredPart (name : List ℕ) (before after : Option Files) (taken took : Option (List ℕ)) : Type 0 where
  pub text : List ℕ
  pub answers : IsAnswerTo before name text
  pub files : after ≡ before
  pub put : TookPart taken took text
