-- Tests over a list of references, products of numbers of 32 bits, and what is refused after a first word or line.
use Rattle.lab_script.specs.Prelude.{ap, arith, Bool, List, map, Ok, refl, Result, Some, sym, ℕ, [], ◌*◌, ◌++◌, ◌||◌, ◌∙◌, ◌∷◌, ◌≡◌, ◌≤◌, list_any}
use Rattle.lab_script.specs.Prelude.{first_and_rest, ScriptError, ScriptWhy, Kind, Takes, Refuses, ◌>>=◌, key_value, keys_from, value_of, card_line, on_line}
use Rattle.lab_script.specs.Prelude.{refusal_at, RefusesAt, script_of_lines}
use Rattle.std.proofs.Math.Nat.{mul-le-mul_left}
use Rattle.lab_script.specs.declared.error.ScriptWhy.TheVariants as why

-- a test over the values of a function
pub list_any_map : {X Y : Type 0} (p : Y → Bool) (f : X → Y) (xs : List X) → list_any p (map f xs) ≡ list_any (λ x. p (f x)) xs
list_any_map p f [] = refl
list_any_map p f (x ∷ xs) = ap (λ b. p (f x) || b) (list_any_map p f xs)

-- the product of two numbers of 32 bits
pub product_most : (a b : ℕ) → a ≤ 4294967295 → b ≤ 4294967295 → a * b ≤ 18446744065119617025
product_most a b ha hb = omega (arith, mul-le-mul_left a hb)

-- a first and the rest are all
pub first-is : {X : Type 0} (k : X) (more ws : List X) → Some (k, more) ≡ first_and_rest ws → ws ≡ k ∷ more
first-is {X = X} k more [] e = absurd (cc)
first-is {X = X} k more (x ∷ xs) e =
    let both : ◌≡◌ {A = X × List X} (k, more) (x, xs) = cc in
    sym (ap (λ p. p.0 ∷ p.1) both)

-- a key, the word after it, and the rest are all words
pub pair-is : (k word : List ℕ) (ws mid more : List (List ℕ)) → Some (k, mid) ≡ first_and_rest ws → Some (word, more) ≡ first_and_rest mid → ws ≡ k ∷ word ∷ more
pair-is k word ws mid more a b = first-is k mid ws a ∙ ap (λ m. k ∷ m) (first-is word more mid b)

-- what is refused is refused whatever follows
pub refuses_bind : {A B : Type 0} (e : ScriptWhy) (r : Result A ScriptWhy) (f : A → Result B ScriptWhy) → Refuses e r → Refuses e (r >>= f)
refuses_bind why.Memory r f h = tt
refuses_bind e r f h = rw h refl

-- a line that is refused, whatever follows
pub refuses_line : {X Y : Type 0} (e : ScriptWhy) (n : ℕ) (r : Result X ScriptWhy) (f : X → Result Y ScriptError) → Refuses e r → RefusesAt e (refusal_at n e) (on_line n r f)
refuses_line why.Memory n r f h = tt
refuses_line e n r f h = rw h refl

-- the word after a key is refused
pub keys_wrong : (line : Kind) (earlier : List (List ℕ)) (k word : List ℕ) (ws mid more : List (List ℕ)) (value : Takes) (e : ScriptWhy)
    → Some (k, mid) ≡ first_and_rest ws → Some (word, more) ≡ first_and_rest mid → Ok value ≡ key_value line earlier k → Refuses e (value_of value word)
    → Refuses e (keys_from line earlier ws)
keys_wrong line earlier k word ws mid more value e a b c r =
    rw (pair-is k word ws mid more a b, ← c) (refuses_bind e (value_of value word) (λ u. keys_from line (earlier ++ k ∷ []) more) r)

-- a key and the word after it more
pub keys_next : (line : Kind) (earlier : List (List ℕ)) (k word : List ℕ) (ws mid more : List (List ℕ)) (value : Takes)
    → Some (k, mid) ≡ first_and_rest ws → Some (word, more) ≡ first_and_rest mid → Ok value ≡ key_value line earlier k → value_of value word ≡ Ok tt
    → keys_from line (earlier ++ k ∷ []) more ≡ keys_from line earlier ws
keys_next line earlier k word ws mid more value a b c d = rw (pair-is k word ws mid more a b, ← c, d) refl

-- the card's line is refused
pub first_refused : (n : ℕ) (ws : List (List ℕ)) (rest lines : List (ℕ × List (List ℕ))) (e : ScriptWhy)
    → Some ((n, ws), rest) ≡ first_and_rest lines → Refuses e (card_line n ws) → RefusesAt e (refusal_at n e) (script_of_lines lines)
first_refused n ws rest lines e a r = rw (first-is (n, ws) rest lines a) (refuses_line e n (card_line n ws) _ r)
