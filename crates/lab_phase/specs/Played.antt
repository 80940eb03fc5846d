-- What a card played in all, once its ring is closed: each sample is the saturated total of what was placed there.
use Rattle.std.specs.Prelude.{◌≡◌, ℕ, zero, suc, ◌+◌, ◌*◌, ◌/◌, ◌%◌, ◌<◌, ℤ, List, [], ◌∷◌, length, map, slice_index_or, pos}
use Rattle.std.specs.List.{range_with_len}
use Rattle.std.proofs.Common.{refl, sym, ap, ◌∙◌, arith}
use Rattle.snd_base.specs.declared.geometry.Geometry.{Geometry}
use Rattle.snd_base.specs.declared.places.Cursor.{Cursor}
use Rattle.snd_base.specs.declared.places.Segment.{Segment}
use Rattle.snd_base.specs.Places as places
use Rattle.snd_base.specs.Places.{cursor_after}
use Rattle.lap_word.specs.Clamp.{clamp_of}
use Rattle.mix_core.specs.declared.event.Taken.{Taken}
use Rattle.mix_core.specs.declared.port.Entry.{Entry}
use Rattle.mix_core.specs.History.{AreExact, AreInOrder, taken_place}
use Rattle.mix_core.specs.Laid.{total}
use Rattle.card_player.specs.Plays.{words_at}
use Rattle.lab_lines.specs.Script.{first_frame}
use Rattle.lab_run.specs.LabRun.{entries_of, mix_of, mixed_at}
use Rattle.lab_run.specs.Stage.{Session}

-- a list is what a function gives at the numbers of its items
list-is-map : {X : Type 0} (f : ℕ → X) (from : ℕ) (xs : List X) (n : ℕ) → length xs ≡ n → ((i : ℕ) (d : X) → i < length xs → slice_index_or xs i d ≡ f (from + i)) → xs ≡ map f (range_with_len from n)
list-is-map f from [] zero len each = refl
list-is-map f from [] (suc n) len each = absurd (omega (arith, len))
list-is-map f from (x ∷ xs) zero len each = absurd (omega (arith, len))
list-is-map {X = X} f from (x ∷ xs) (suc n) len each =
    let here : x ≡ f from = each 0 x (omega arith) ∙ ap f (let e : from + 0 ≡ from = omega arith in e) in
    ap (λ (y : X). y ∷ xs) here
    ∙ ap (λ (ys : List X). f from ∷ ys) (list-is-map f (from + 1) xs n (omega (arith, len))
    (λ i d inside. each (suc i) d (omega (arith, inside)) ∙ ap f (let e : from + suc i ≡ (from + 1) + i = omega arith in e)))

length-words_at : (g : Geometry) (at : Cursor) (xs : List ℤ) → length (words_at g at xs) ≡ length xs
length-words_at g at [] = refl
length-words_at g at (x ∷ xs) = ap suc (length-words_at g (cursor_after g at.frame at.channel) xs)

value-words_at : (g : Geometry) (at : Cursor) (xs : List ℤ) (i : ℕ) (d : ℤ) (t : Taken) → i < length xs → (slice_index_or (words_at g at xs) i t).value ≡ slice_index_or xs i d
value-words_at g at [] i d t inside = absurd (omega (arith, inside))
value-words_at g at (x ∷ xs) zero d t inside = refl
value-words_at g at (x ∷ xs) (suc i) d t inside = value-words_at g (cursor_after g at.frame at.channel) xs i d t (omega (arith, inside))

no_word : Taken
no_word = record { frame = 0; channel = 0; value = pos 0 }

-- The played samples, of which all words were taken in order and each with the total of what was placed there, are the mix of segments whose entries give
-- the same totals.
pub played-mix_of : (session : Session) (segments : List (ℕ × Segment)) (g : Geometry) (at : Cursor) (xs : List ℤ) (es : List Entry) (frames : ℕ)
    → g.channels ≡ session.card.channels → places.first_frame g ≡ first_frame session.card → AreInOrder g (words_at g at xs) → AreExact es (words_at g at xs)
    → ((f k : ℕ) → total es f k ≡ total (entries_of session segments) f k) → length xs ≡ frames * session.card.channels → xs ≡ mix_of session segments frames
played-mix_of session segments g at xs es frames channels first in_order exact totals len =
    list-is-map (mixed_at session.card.channels (first_frame session.card) (entries_of session segments)) 0 xs (frames * session.card.channels) len each
  where
    each : (i : ℕ) (d : ℤ) → i < length xs → slice_index_or xs i d ≡ mixed_at session.card.channels (first_frame session.card) (entries_of session segments) (0 + i)
    each i d inside =
        let words : List Taken = words_at g at xs in
        let within : i < length words = let len_is = length-words_at g at xs in omega (arith, inside, len_is) in
        let word : Taken = slice_index_or words i no_word in
        let place : taken_place word ≡ places.next_word g i = in_order i no_word within in
        let frame : word.frame ≡ first_frame session.card + i / session.card.channels =
        ap (λ (c : Cursor). c.frame) place ∙ (ap (λ (n : ℕ). n + i / g.channels) first ∙ ap (λ (n : ℕ). first_frame session.card + i / n) channels) in
        let channel : word.channel ≡ i % session.card.channels = ap (λ (c : Cursor). c.channel) place ∙ ap (λ (n : ℕ). i % n) channels in
        sym (value-words_at g at xs i d no_word inside)
        ∙ (exact i no_word within
        ∙ (ap clamp_of (totals word.frame word.channel)
        ∙ (ap (λ (n : ℕ). clamp_of (total (entries_of session segments) n word.channel)) frame
        ∙ (ap (λ (n : ℕ). clamp_of (total (entries_of session segments) (first_frame session.card + i / session.card.channels) n)) channel
        ∙ ap (mixed_at session.card.channels (first_frame session.card) (entries_of session segments)) (let e : i ≡ 0 + i = omega arith in e)))))
