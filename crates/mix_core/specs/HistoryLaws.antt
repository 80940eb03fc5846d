-- What histories that were joined placed and took, and the sums of lists of entries that were joined.
use Rattle.std.specs.Prelude.{◌≡◌, ℕ, None, Some, List, [], ◌∷◌, ◌++◌, ℤ, pos, ◌+ℤ◌, filter, fold, map}
use Rattle.std.proofs.Common.{refl, ap, ◌∙◌, arith}
use Rattle.std.proofs.lemmas.Int.{ints}
use Rattle.std.proofs.lemmas.List.{append-nil, map-append}
use Rattle.std.proofs.lemmas.List.Elements.{filter-append, filter_map-append}
use Rattle.mix_core.specs.declared.event.Event.TheVariants.{Publish, Take}
use Rattle.mix_core.specs.declared.event.Reply.TheVariants.{In, Late, Published, Took}
use Rattle.mix_core.specs.declared.event.Reply.{Reply}
use Rattle.mix_core.specs.declared.port.Kind.{Kind}
use Rattle.mix_core.specs.declared.port.Kind.TheVariants.{Added, Withdrawn}
use Rattle.mix_core.specs.declared.port.Entry.{Entry}
use Rattle.mix_core.specs.History.{Row, entry_of, event_by, event_of, laid_of, late_row, position_after, entry_row, taken_words, taking_of}
use Rattle.mix_core.specs.Laid.{at, is_at, sum_of_samples, total, value_of}

-- the row of an entry placed it, and took nothing
pub entry_of-row : (e : Entry) → entry_of (entry_row e) ≡ Some e
entry_of-row e = by_kind e.kind e.member e.frame e.channel e.sample where
  by_kind : (k : Kind) (m f c : ℕ) (s : ℤ) → entry_of (event_by k m f c s, In) ≡ Some (record { member = m; frame = f; channel = c; sample = s; kind = k })
  by_kind Added m f c s = refl
  by_kind Withdrawn m f c s = refl

pub entry_of-late : (e : Entry) → entry_of (late_row e) ≡ None
entry_of-late e = by_kind e.kind e.member e.frame e.channel e.sample where
  by_kind : (k : Kind) (m f c : ℕ) (s : ℤ) → entry_of (event_by k m f c s, Late) ≡ None
  by_kind Added m f c s = refl
  by_kind Withdrawn m f c s = refl

pub taking_of-row : (e : Entry) (r : Reply) → taking_of (event_of e, r) ≡ None
taking_of-row e r = by_kind e.kind e.member e.frame e.channel e.sample where
  by_kind : (k : Kind) (m f c : ℕ) (s : ℤ) → taking_of (event_by k m f c s, r) ≡ None
  by_kind Added m f c s = refl
  by_kind Withdrawn m f c s = refl

pub position_after-row : (p : ℕ) (e : Entry) (r : Reply) → position_after p (event_of e, r) ≡ p
position_after-row p e r = by_kind e.kind e.member e.frame e.channel e.sample where
  by_kind : (k : Kind) (m f c : ℕ) (s : ℤ) → position_after p (event_by k m f c s, r) ≡ p
  by_kind Added m f c s = refl
  by_kind Withdrawn m f c s = refl

-- the rows of entries placed these, and took nothing
pub laid_of-rows : (es : List Entry) → laid_of (map entry_row es) ≡ es
laid_of-rows [] = refl
laid_of-rows (e ∷ es) = rw (entry_of-row e) (ap (λ xs. e ∷ xs) (laid_of-rows es))

pub taken_words-rows : (es : List Entry) → taken_words (map entry_row es) ≡ []
taken_words-rows [] = refl
taken_words-rows (e ∷ es) = rw (taking_of-row e In) (taken_words-rows es)

-- a history that goes on with the rows of entries
pub laid_of-append_rows : (h : List Row) (es : List Entry) → laid_of (h ++ map entry_row es) ≡ laid_of h ++ es
laid_of-append_rows h es = filter_map-append entry_of h (map entry_row es) ∙ ap (λ xs. laid_of h ++ xs) (laid_of-rows es)

pub taken_words-append_rows : (h : List Row) (es : List Entry) → taken_words (h ++ map entry_row es) ≡ taken_words h
taken_words-append_rows h es = filter_map-append taking_of h (map entry_row es) ∙ (ap (λ xs. taken_words h ++ xs) (taken_words-rows es) ∙ append-nil (taken_words h))

-- one that goes on with a take
pub laid_of-append_took : (h : List Row) (f c : ℕ) (v : ℤ) → laid_of (h ++ (Take, Took f c v) ∷ []) ≡ laid_of h
laid_of-append_took h f c v = filter_map-append entry_of h ((Take, Took f c v) ∷ []) ∙ append-nil (laid_of h)

pub taken_words-append_took : (h : List Row) (f c : ℕ) (v : ℤ) → taken_words (h ++ (Take, Took f c v) ∷ []) ≡ taken_words h ++ record { frame = f; channel = c; value = v } ∷ []
taken_words-append_took h f c v = filter_map-append taking_of h ((Take, Took f c v) ∷ [])

-- and with a publication
pub laid_of-append_published : (h : List Row) (frame : ℕ) → laid_of (h ++ (Publish, Published frame) ∷ []) ≡ laid_of h
laid_of-append_published h frame = filter_map-append entry_of h ((Publish, Published frame) ∷ []) ∙ append-nil (laid_of h)

pub taken_words-append_published : (h : List Row) (frame : ℕ) → taken_words (h ++ (Publish, Published frame) ∷ []) ≡ taken_words h
taken_words-append_published h frame = filter_map-append taking_of h ((Publish, Published frame) ∷ []) ∙ append-nil (taken_words h)

-- the samples at a frame and channel, and their sum, of joined lists
pub at-append : (xs ys : List Entry) (f c : ℕ) → at (xs ++ ys) f c ≡ at xs f c ++ at ys f c
at-append xs ys f c =
    ap (map value_of) (filter-append (is_at f c) xs ys)
    ∙ map-append value_of (filter (is_at f c) xs) (filter (is_at f c) ys)

pub fold-from : (a : ℤ) (xs : List ℤ) → fold (λ a s. a +ℤ s) a xs ≡ a +ℤ sum_of_samples xs
fold-from a [] = omega (arith, ints)
fold-from a (x ∷ xs) =
    let first : fold (λ a s. a +ℤ s) (a +ℤ x) xs ≡ (a +ℤ x) +ℤ sum_of_samples xs = fold-from (a +ℤ x) xs in
    let rest : fold (λ a s. a +ℤ s) (pos 0 +ℤ x) xs ≡ (pos 0 +ℤ x) +ℤ sum_of_samples xs = fold-from (pos 0 +ℤ x) xs in
    omega (arith, ints, first, rest)

pub fold-append_sum : (a : ℤ) (xs ys : List ℤ) → fold (λ a s. a +ℤ s) a (xs ++ ys) ≡ fold (λ a s. a +ℤ s) a xs +ℤ sum_of_samples ys
fold-append_sum a [] ys = fold-from a ys
fold-append_sum a (x ∷ xs) ys = fold-append_sum (a +ℤ x) xs ys

pub total-append : (xs ys : List Entry) (f c : ℕ) → total (xs ++ ys) f c ≡ total xs f c +ℤ total ys f c
total-append xs ys f c = ap sum_of_samples (at-append xs ys f c) ∙ fold-append_sum (pos 0) (at xs f c) (at ys f c)
