-- Tests of bytes.
use Rattle.lab_commands.specs.Prelude.{List, sym, ℕ, ◌≡◌, Err, is_ok, MatchResult, Ok, Result}
use Rattle.std.proofs.lemmas.Bool.{false_from_ne_true}
use Rattle.std.proofs.lemmas.Str.{IsUtf8-from_is_utf8, is_utf8-from_IsUtf8}
use Rattle.std.specs.Str.{IsUtf8, is_utf8}

-- a reading that works exactly at UTF-8 shows whether bytes are UTF-8
pub is_ok-is_utf8 : {T E : Type 0} (r : Result T E) (bs : List ℕ) (P : T → Type 0) (Q : E → Type 0)
    → MatchResult r (λ s. P s × IsUtf8 bs) (λ e. ¬ (IsUtf8 bs) × Q e) → is_ok r ≡ is_utf8 bs
is_ok-is_utf8 (Ok s) bs P Q h = sym (is_utf8-from_IsUtf8 bs h.1)
is_ok-is_utf8 (Err e) bs P Q h = sym (false_from_ne_true _ (λ is. h.0 (IsUtf8-from_is_utf8 bs is)))
