-- Why what the text in a file asks can't be had: the file is missing, or the text is refused.
use Rattle.lab_refine.specs.Prelude.{ap, Err, inl, inr, List, refl, subst, sym, ℕ, ◌∙◌, ◌≡◌, ◌⊎◌, Ok, Option, Result, ScriptError, ScriptWhy, Cause}
use Rattle.lab_refine.specs.Prelude.{first_bytes, Request, Refuses, request_of_text}
use Rattle.std.specs.Option.{ForSome}
use Rattle.lab_shelf.specs.Files.{Files}
use Rattle.lab_stop.specs.declared.stop.Stop.{Stop}
use Rattle.lab_stop.specs.Causes.{◌>>=◌}
use Rattle.lab_stop.specs.Stops.{FetchFaults, IsCauseOf, IsScriptStop, Misses}
use Rattle.lab_refine.specs.Answered.{as_request, request_in}
use Rattle.lab_script.specs.declared.error.ScriptWhy.TheVariants as why
use Rattle.lab_stop.specs.declared.stop.Stop.TheVariants as stops

-- a stop at a text that is refused: for memory, or with the refusal
IsScriptStop-either : (cause : ScriptWhy) (error : ScriptError) (stop : Stop) → IsScriptStop cause error stop → (stop ≡ stops.Memory) ⊎ (stop ≡ stops.Script error)
IsScriptStop-either why.Memory error stop is = inl is
IsScriptStop-either cause error stop is = inr is

IsCauseOf-text : (cause : ScriptWhy) (error : ScriptError) (stop : Stop) (asked : Result Request ScriptError) → Refuses cause error asked → IsScriptStop cause error stop
    → IsCauseOf stop (as_request asked)
IsCauseOf-text why.Memory error stop asked refuses is = rw is tt
IsCauseOf-text cause error stop asked refuses is = rw is (ap as_request refuses)

-- a stop at a text that is refused is at no missing file
pub Misses-refused : {Y : Type 0} (error : ScriptError) (stop : Stop) (asked : Result Request ScriptError) (given : Result Y Cause)
    → Refuses error.why error asked → IsScriptStop error.why error stop
    → Misses {X = Unit {0}} (Err stop) given
Misses-refused error stop asked given refuses is = elim (IsScriptStop-either error.why error stop is) [ inl e ↦ rw e tt | inr e ↦ rw e tt ]

-- a stop at a text that is refused counts no fault
pub FetchFaults-refused : (error : ScriptError) (stop : Stop) (asked : Result Request ScriptError) (before now : ℕ)
    → Refuses error.why error asked → IsScriptStop error.why error stop
    → now ≡ before → FetchFaults {X = Unit {0}} (Err stop) before now
FetchFaults-refused error stop asked before now refuses is same = elim (IsScriptStop-either error.why error stop is) [ inl e ↦ rw e same | inr e ↦ rw e same ]

-- what is asked, where this is what the bytes of the text are
abbrev request_from : Result (List ℕ) Cause → Result Request Cause
request_from bytes = bytes >>= λ text. as_request (request_of_text text)

-- what a text asks whose bytes are these, or are refused so
pub request_in-text : (files : Files) (name : List ℕ) (bytes : Result (List ℕ) Cause) → first_bytes files name 1048577 ≡ bytes
    → request_in files name ≡ request_from bytes
unfolding request_in
request_in-text files name bytes is = ap request_from is

-- what a text asks that is read, or why it is refused
pub request_in-read : (files : Option Files) (name text spelled : List ℕ) (asked : Result Request ScriptError)
    → ForSome files (λ m. first_bytes m name 1048577 ≡ Ok text) → spelled ≡ text → request_of_text spelled ≡ asked
    → ForSome files (λ m. request_in m name ≡ as_request asked)
request_in-read files name text spelled asked read same is m told =
    request_in-text m name (Ok text) (read m told)
    ∙ ap (λ (t : List ℕ). as_request (request_of_text t)) (sym same)
    ∙ ap as_request is

-- a stop at a text that is refused is at that cause
pub request_in-refused : (files : Option Files) (name text spelled : List ℕ) (error : ScriptError) (stop : Stop)
    → ForSome files (λ m. first_bytes m name 1048577 ≡ Ok text) → spelled ≡ text
    → Refuses error.why error (request_of_text spelled) → IsScriptStop error.why error stop
    → ForSome files (λ m. IsCauseOf stop (request_in m name))
request_in-refused files name text spelled error stop read same refuses is m told =
    subst (λ (r : Result Request Cause). IsCauseOf stop r)
    (sym (request_in-read files name text spelled (request_of_text spelled) read same refl m told))
    (IsCauseOf-text error.why error stop (request_of_text spelled) refuses is)
