-- What lines ask, read one after the other.
use Rattle.lab_refine.specs.Prelude.{All, ap, append_assoc, Err, List, refl, subst, sym, ℕ, [], ◌++◌, ◌∙◌, ◌∷◌, ◌≡◌, append-nil, All-append, All-cons, All-nil}
use Rattle.lab_refine.specs.Prelude.{IfOk, None, Ok, Result, Some, first_and_rest, ScriptError, ScriptWhy, Ask, Request, ask_of, IsAsk, slave_of, asked_in}
use Rattle.lab_refine.specs.Prelude.{asks_of, on_line, Reads, Refuses, ◌>>=◌}
use Rattle.std.specs.Result.{IsErrAnd}
use Rattle.lab_script.proofs.Pairs.{first-is}
use Rattle.lab_refine.specs.declared.request.SlaveLine.{SlaveLine}
use Rattle.lab_script.specs.declared.error.ScriptWhy.TheVariants as why

-- asks that were read before others
abbrev pub joined : List Ask → Result (List Ask) ScriptError → Result (List Ask) ScriptError
joined front (Ok rest) = Ok (front ++ rest)
joined front (Err e) = Err e

-- no line is left
pub asks_of-none : (front : List Ask) (lines : List (ℕ × List (List ℕ))) → None ≡ first_and_rest lines
    → joined front (asks_of lines) ≡ Ok front
unfolding asks_of
asks_of-none front [] e = ap Ok (append-nil front)
asks_of-none front (line ∷ lines) e = absurd (let n = e in cc)

-- one more in front
joined-cons : (front : List Ask) (ask : Ask) (rest : Result (List Ask) ScriptError)
    → joined front (rest >>= λ asks. Ok (ask ∷ asks)) ≡ joined (front ++ ask ∷ []) rest
joined-cons front ask (Ok asks) = ap Ok (sym (append_assoc front (ask ∷ []) asks))
joined-cons front ask (Err e) = refl

-- one line more asks something
pub asks_of-more : (front longer : List Ask) (lines more : List (ℕ × List (List ℕ))) (number : ℕ) (words : List (List ℕ))
    (ask : Ask)
    → Some ((number, words), more) ≡ first_and_rest lines
    → Ok ask ≡ on_line number (ask_of words)
    → longer ≡ front ++ ask ∷ []
    → joined longer (asks_of more) ≡ joined front (asks_of lines)
unfolding asks_of
asks_of-more front longer lines more number words ask first is longer_is =
    rw (longer_is, first-is (number, words) more lines first, ← is) (sym (joined-cons front ask (asks_of more)))

-- the next line is refused
pub asks_of-refused : (front : List Ask) (lines more : List (ℕ × List (List ℕ))) (number : ℕ) (words : List (List ℕ))
    (e : ScriptError)
    → Some ((number, words), more) ≡ first_and_rest lines
    → Err e ≡ on_line number (ask_of words)
    → joined front (asks_of lines) ≡ Err e
unfolding asks_of
asks_of-refused front lines more number words e first is = rw (first-is (number, words) more lines first, ← is) refl

-- what is given is refused so, for want of memory or else
Refuses-of : {X : Type 0} (cause : ScriptWhy) (e : ScriptError) (given : Result X ScriptError) → given ≡ Err e
    → Refuses cause e given
Refuses-of why.Memory e given is = tt
Refuses-of cause e given is = is

-- a call that ended so read what is given
pub Reads-refused : {X Y : Type 0} (view : X → Y) (r : Result X ScriptError) (e : ScriptError) (given : Result Y ScriptError)
    → IsErrAnd r (λ x. x ≡ e) → given ≡ Err e → Reads view r given
Reads-refused view (Ok x) e given is same = absurd is
Reads-refused view (Err x) e given is same = Refuses-of x.why x given (same ∙ ap Err (sym is))

-- a line that says something can say it
pub All-read : (ask : Ask) (number : ℕ) (r : Result Ask ScriptWhy) → Ok ask ≡ on_line number r → IfOk r IsAsk → IsAsk ask
All-read ask number (Ok a) is can = subst IsAsk (let e : a ≡ ask = cc in e) can
All-read ask number (Err cause) is can = absurd (let e = is in cc)

-- one more that can be asked
pub All-asks : (asks longer : List Ask) (ask : Ask) → All IsAsk asks → IsAsk ask → longer ≡ asks ++ ask ∷ [] → All IsAsk longer
All-asks asks longer ask can one is =
    subst (All IsAsk) (sym is) (All-append IsAsk asks (ask ∷ []) can (All-cons IsAsk ask [] one (All-nil IsAsk)))

-- a refusal of a part is one of the whole
pub Refuses-passed : {X Y : Type 0} (cause : ScriptWhy) (e : ScriptError) (part : Result X ScriptError) (given : Result Y ScriptError)
    → (part ≡ Err e → given ≡ Err e) → Refuses cause e part → Refuses cause e given
Refuses-passed why.Memory e part given passes refuses = tt
Refuses-passed cause e part given passes refuses = passes refuses

-- no line is a slave's
pub asked_in-none : (lines : List (ℕ × List (List ℕ))) → None ≡ first_and_rest lines
    → asked_in lines ≡ Err (record { line = 0; why = why.NoCard })
unfolding asked_in
asked_in-none [] e = refl
asked_in-none (line ∷ lines) e = absurd (let n = e in cc)

-- a request with this slave, once what is asked is known
abbrev pub request_with : SlaveLine → Result (List Ask) ScriptError → Result Request ScriptError
request_with slave asked = asked >>= λ asks. Ok (record { slave = slave; asks = asks })

-- what is asked, by the slave's line
pub asked_in-first : (lines more : List (ℕ × List (List ℕ))) (number : ℕ) (words : List (List ℕ)) (slave : Result SlaveLine ScriptError)
    → Some ((number, words), more) ≡ first_and_rest lines → slave ≡ on_line number (slave_of words)
    → asked_in lines ≡ (slave >>= λ s. request_with s (asks_of more))
unfolding asked_in
asked_in-first lines more number words slave first is = rw (first-is (number, words) more lines first, is) refl
