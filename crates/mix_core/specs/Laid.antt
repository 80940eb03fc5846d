-- What was placed in a ring: a list of entries, each by its member, frame, channel, sample and kind.
use Rattle.std.specs.Prelude.{◌≡◌, ℕ, Bool, ◌==◌, ◌&&◌, Option, None, Some, List, [], ◌∷◌, ◌++◌, map, filter, fold, length, ⊤, ℤ, pos, ◌+ℤ◌, ◌-ℤ◌}
use Rattle.snd_base.specs.declared.geometry.Geometry.{Geometry}
use Rattle.snd_base.specs.declared.places.Cursor.{Cursor}
use Rattle.mix_core.specs.declared.marks.Marks.{Marks}
use Rattle.mix_core.specs.declared.port.Entry.{Entry}
use Rattle.mix_core.specs.declared.port.Kind.{Kind}
use Rattle.mix_core.specs.declared.port.Kind.TheVariants.{Added, Withdrawn}
use Rattle.mix_core.specs.Marks.{added_at, start_marks, withdrawn_at}

-- an entry that adds a sample, and one that withdraws it
abbrev pub an_add : ℕ → ℕ → ℕ → ℤ → Entry
an_add m f c s = record { member = m; frame = f; channel = c; sample = s; kind = Added }

abbrev pub a_withdrawal : ℕ → ℕ → ℕ → ℤ → Entry
a_withdrawal m f c s = record { member = m; frame = f; channel = c; sample = s; kind = Withdrawn }

-- what an entry of a kind gives to the sum: its sample, or, where it is withdrawn, the negated one
abbrev pub signed_sample : Kind → ℤ → ℤ
signed_sample Added s = s
signed_sample Withdrawn s = pos 0 -ℤ s

abbrev pub value_of : Entry → ℤ
value_of e = signed_sample e.kind e.sample

-- whether an entry was placed at a frame and channel
abbrev pub is_at : ℕ → ℕ → Entry → Bool
is_at f c e = (e.frame == f) && (e.channel == c)

-- what the entries at a frame and channel give
abbrev pub at : List Entry → ℕ → ℕ → List ℤ
at es f c = map value_of (filter (is_at f c) es)

-- the sum of some samples
abbrev pub sum_of_samples : List ℤ → ℤ
sum_of_samples samples = fold (λ a s. a +ℤ s) (pos 0) samples

-- the sum at a frame and channel, and 0 where there is no entry
abbrev pub total : List Entry → ℕ → ℕ → ℤ
total es f c = sum_of_samples (at es f c)

-- how many entries are at a frame and channel
abbrev pub count : List Entry → ℕ → ℕ → ℕ
count es f c = length (at es f c)

-- a list without its last member
abbrev pub without_last : {X : Type 0} → List X → List X
without_last [] = []
without_last (x ∷ []) = []
without_last (x ∷ y ∷ ys) = x ∷ without_last (y ∷ ys)

-- the standing adds after one more entry: an add goes to their end, and a withdrawal takes the last one away
abbrev pub standing_with : Kind → List Entry → Entry → List Entry
standing_with Added held e = held ++ e ∷ []
standing_with Withdrawn held e = without_last held

abbrev pub stand_after : List Entry → Entry → List Entry
stand_after held e = standing_with e.kind held e

-- the adds of a list of entries that no withdrawal took away
abbrev pub standing : List Entry → List Entry
standing es = fold stand_after [] es

-- the last one of some entries
abbrev pub last_entry : List Entry → Option Entry
last_entry es = fold (λ a e. Some e) None es

-- a list ends in another
abbrev pub EndsIn : {X : Type 0} → List X → List X → Type 0
EndsIn {X} xs ys = (early : List X) × (xs ≡ early ++ ys)

-- the entries of one member
abbrev pub own_entries : ℕ → List Entry → List Entry
own_entries m es = filter (λ (e : Entry). e.member == m) es

-- the marks after one more entry
abbrev pub marks_with : Kind → Geometry → Marks → ℕ → ℕ → Marks
marks_with Added g at f c = added_at g at f c
marks_with Withdrawn g at f c = withdrawn_at at f c

abbrev pub marks_after : Geometry → Marks → Entry → Marks
marks_after g at e = marks_with e.kind g at e.frame e.channel

-- the marks after some entries of one member
abbrev pub marks_from : Geometry → Marks → List Entry → Marks
marks_from g m es = fold (marks_after g) m es

abbrev pub marks_by : Geometry → List Entry → Marks
marks_by g es = marks_from g (start_marks g) es

-- a member's marks, its cursor, and its standing adds
abbrev pub marks_of : Geometry → ℕ → List Entry → Marks
marks_of g m es = marks_by g (own_entries m es)

abbrev pub cursor_of : Geometry → ℕ → List Entry → Cursor
cursor_of g m es = (marks_of g m es).cursor

abbrev pub standing_of : ℕ → List Entry → List Entry
standing_of m es = standing (own_entries m es)

-- all of a list's entries are adds
abbrev pub AreAdds : List Entry → Type 0
AreAdds [] = ⊤
AreAdds (e ∷ es) = (e.kind ≡ Added) × AreAdds es
