-- What the test of a call says: that the call is refused, or that it isn't.
use Rattle.std.proofs.Common.{◌≡◌, sym, ◌∙◌, ap}
use Rattle.std.specs.Prelude.{Option, None, Some, Result, Ok, Err, IsErrAnd}
use Rattle.std.proofs.lemmas.Option.{none-some, same_Some}
use Rattle.snd_base.specs.declared.errors.PcmError.{PcmError}
use Rattle.pcm_stream.specs.Status.{refused_by}

refusal-by_err : (refusal : Option PcmError) (e : PcmError) → refused_by refusal ≡ Err e → refusal ≡ Some e
refusal-by_err None e is = absurd (cc)
refusal-by_err (Some f) e is = cc

pub refusal-of_err : (refusal : Option PcmError) (r : Result (Unit {0}) PcmError) (e : PcmError) → r ≡ refused_by refusal → r ≡ Err e → refusal ≡ Some e
refusal-of_err refusal r e is err = refusal-by_err refusal e (sym is ∙ err)

refusal-by_ok : (refusal : Option PcmError) → refused_by refusal ≡ Ok tt → refusal ≡ None
refusal-by_ok None is = cc
refusal-by_ok (Some f) is = absurd (cc)

pub refusal-of_ok : (refusal : Option PcmError) (r : Result (Unit {0}) PcmError) → r ≡ refused_by refusal → r ≡ Ok tt → refusal ≡ None
refusal-of_ok refusal r is ok = refusal-by_ok refusal (sym is ∙ ok)

-- an answer that is passed on
pub passed-on : {X : Type 0} (answer : Result X PcmError) (e : PcmError) → IsErrAnd answer (λ x. x ≡ e) → answer ≡ Err e
passed-on (Ok x) e is = absurd is
passed-on {X} (Err x) e is = ap (λ (y : PcmError). let r : Result X PcmError = Err y in r) is

-- a call isn't both refused and admitted, nor refused by two errors
pub not-both : (refusal : Option PcmError) (e : PcmError) → refusal ≡ Some e → refusal ≡ None → ⊥
not-both refusal e some none = none-some e (sym none ∙ some)

pub same-refusal : (refusal : Option PcmError) (e f : PcmError) → refusal ≡ Some e → refusal ≡ Some f → e ≡ f
same-refusal refusal e f one other = same_Some e f (sym one ∙ other)
