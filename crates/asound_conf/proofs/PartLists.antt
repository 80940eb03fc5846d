-- The parts of a key, as they are added and looked at.
use Rattle.asound_conf.specs.Prelude.{ap, append_assoc, arith, Bool, drop, length, List, map, refl, subst, sym, take, ℕ, [], ◌++◌, ◌+◌, ◌-◌, ◌||◌, ◌∙◌, ◌∷◌}
use Rattle.asound_conf.specs.Prelude.{◌≡◌, ◌≤◌, map-append, list_any, slice_split, part_in, parts_in, span_in}
use Rattle.asound_conf.specs.Key.{Part, is_dot, key_part, word_parts}
use Rattle.asound_conf.proofs.Starts.{span-drop, span-take}
use Rattle.asound_conf.specs.declared.part.Part as code

-- the first parts of a word were added, and those of this rest of it are left
pub record IsPushed (text : List ℕ) (old now : List code.Part) (word rest : List ℕ) (at : ℕ) : Type 0 where
  pub place : span_in text (record { start = at; count = length rest }) ≡ rest
  pub parts : parts_in text now ++ word_parts rest ≡ parts_in text old ++ word_parts word

pub parts_in-push : (text : List ℕ) (parts : List code.Part) (part : code.Part) → parts_in text (parts ++ part ∷ []) ≡ parts_in text parts ++ part_in text part ∷ []
parts_in-push text parts part = map-append (part_in text) parts (part ∷ [])

-- one piece more was added
pub IsPushed-next : (text : List ℕ) (old now : List code.Part) (word rest piece behind : List ℕ) (at : ℕ) (part : code.Part)
    → slice_split is_dot rest ≡ piece ∷ slice_split is_dot behind → behind ≡ drop (length piece + 1) rest → length piece + 1 + length behind ≡ length rest
    → part_in text part ≡ key_part piece → IsPushed text old now word rest at → IsPushed text old (now ++ part ∷ []) word behind (at + (length piece + 1))
IsPushed-next text old now word rest piece behind at part split follows sizes is pushed =
    let within : length piece + 1 ≤ length rest = omega (arith, sizes) in
    let count : length rest - (length piece + 1) ≡ length behind = omega (arith, sizes) in
    let span = span-drop text rest at (length piece + 1) within pushed.place in
    let parts : word_parts rest ≡ key_part piece ∷ word_parts behind = ap (map key_part) split in
    record {
      place = subst (λ (k : ℕ). span_in text (record { start = at + (length piece + 1); count = k }) ≡ behind) count (span ∙ sym follows);
      parts =
          ap (λ (p : List Part). p ++ word_parts behind) (parts_in-push text now part ∙ ap (λ (p : Part). parts_in text now ++ p ∷ []) is)
          ∙ append_assoc (parts_in text now) (key_part piece ∷ []) (word_parts behind) ∙ ap (λ (p : List Part). parts_in text now ++ p) (sym parts) ∙ pushed.parts;
    }

-- the place of the piece
pub piece-place : (text rest piece : List ℕ) (at : ℕ) → length piece ≤ length rest → piece ≡ take (length piece) rest → span_in text (record { start = at; count = length rest }) ≡ rest
    → span_in text (record { start = at; count = length piece }) ≡ piece
piece-place text rest piece at within is place = span-take text rest at (length piece) within place ∙ sym is

-- a test over the values of a function
pub list_any_map : {X Y : Type 0} (p : Y → Bool) (f : X → Y) (xs : List X) → list_any p (map f xs) ≡ list_any (λ x. p (f x)) xs
list_any_map p f [] = refl
list_any_map p f (x ∷ xs) = ap (λ b. p (f x) || b) (list_any_map p f xs)
