-- A late row of a report that passes names a place without a sample of its client, or, of a rewind, with one.
use Rattle.lab_check.specs.Prelude.{ap, List, refl, Some, subst, sym, ℕ, [], ◌∙◌, ◌∷◌, ◌≡◌, ◌≢◌, and_parts, ltb-true, not-true, list_any-append, flat_map}
use Rattle.lab_check.specs.Prelude.{list_any, Bool, false, filter, if◌then◌else◌, map, nat_eq, nat_lt, not, true, ◌&&◌, ◌||◌, Segment, Entry, at, is_at}
use Rattle.lab_check.specs.Prelude.{value_of, Sound, Report, Row, Script, segments_by, covers, entries_of_segment, has_sample, is_covered, is_right_place}
use Rattle.lab_check.specs.Prelude.{is_right_row, late_place, ShowsLate}
use Rattle.lab_lines.specs.declared.row.Answer.{Answer}
use Rattle.run_laws.specs.Late.{IsLate}
use Rattle.run_laws.specs.LateRows.{is_rewind}

-- no entry is at a place
none-at : (es : List Entry) (frame channel : ℕ) → has_sample es frame channel ≡ false → at es frame channel ≡ []
none-at [] frame channel is = refl
none-at (e ∷ es) frame channel is = by_test (λ free. none-at es frame channel free) (is_at frame channel e) is
  where
    by_test : (has_sample es frame channel ≡ false → at es frame channel ≡ []) → (b : Bool) → (b || list_any (is_at frame channel) es) ≡ false
        → map value_of (if b then e ∷ filter (is_at frame channel) es else filter (is_at frame channel) es) ≡ []
    by_test others true free = absurd cc
    by_test others false free = others free

-- some entry is
some-at : (es : List Entry) (frame channel : ℕ) → has_sample es frame channel ≡ true → at es frame channel ≢ []
some-at [] frame channel is = absurd cc
some-at (e ∷ es) frame channel is = by_test (λ held. some-at es frame channel held) (is_at frame channel e) is
  where
    by_test : (has_sample es frame channel ≡ true → at es frame channel ≢ []) → (b : Bool) → (b || list_any (is_at frame channel) es) ≡ true
        → map value_of (if b then e ∷ filter (is_at frame channel) es else filter (is_at frame channel) es) ≢ []
    by_test others true held = λ none. absurd cc
    by_test others false held = others held

module _ (script : Script) (wavs : List Sound) (number frame channel : ℕ) where
  -- the samples of the client's segments of a list
  abbrev pub entries_in : List (ℕ × Segment) → List Entry
  entries_in segments = flat_map (entries_of_segment script wavs number) (segments_by number segments)

  covers-at : (segments : List (ℕ × Segment)) → list_any (covers script wavs number frame channel) segments ≡ has_sample (entries_in segments) frame channel
  covers-at [] = refl
  covers-at ((client, segment) ∷ segments) = by_client (covers-at segments) (nat_eq client number)
    where
      own : List Entry
      own = entries_of_segment script wavs number segment

      by_client : list_any (covers script wavs number frame channel) segments ≡ has_sample (entries_in segments) frame channel → (b : Bool)
          → ((b && has_sample own frame channel) || list_any (covers script wavs number frame channel) segments)
          ≡ has_sample (flat_map (entries_of_segment script wavs number)
          (map (λ (pair : ℕ × Segment). pair.1) (if b then (client, segment) ∷ filter (λ (pair : ℕ × Segment). nat_eq pair.0 number) segments else filter (λ (pair : ℕ × Segment). nat_eq pair.0 number) segments))) frame channel
      by_client others true = ap (λ t. has_sample own frame channel || t) others ∙ sym (list_any-append (is_at frame channel) own (entries_in segments))
      by_client others false = others

  pub uncovered : (segments : List (ℕ × Segment)) → list_any (covers script wavs number frame channel) segments ≡ false → at (entries_in segments) frame channel ≡ []
  uncovered segments is = none-at (entries_in segments) frame channel (sym (covers-at segments) ∙ is)

  pub covered : (segments : List (ℕ × Segment)) → list_any (covers script wavs number frame channel) segments ≡ true → at (entries_in segments) frame channel ≢ []
  covered segments is = some-at (entries_in segments) frame channel (sym (covers-at segments) ∙ is)

-- a row that passes
module _ (script : Script) (wavs : List Sound) (report : Report) (row : Row) (right : is_right_row script wavs report row ≡ true) where
  placed : (frame channel : ℕ) → IsLate row.answer frame channel → is_right_place script wavs report row (Some (frame, channel)) ≡ true
  placed frame channel late = subst (λ (a : Answer). is_right_place script wavs report row (late_place a) ≡ true) late right

  second : (frame channel : ℕ) → IsLate row.answer frame channel
      → (if is_rewind row.op then is_covered script wavs report row.actor frame channel else not (is_covered script wavs report row.actor frame channel)) ≡ true
  second frame channel late = (and_parts (nat_lt channel script.card.channels) _ (placed frame channel late)).1

  pub row-shows : ShowsLate script wavs report row
  row-shows = record {
    channel = λ frame channel late. ltb-true channel script.card.channels (and_parts (nat_lt channel script.card.channels) _ (placed frame channel late)).0;
    missed = λ number frame channel of not_rewind late.
        let free : not (is_covered script wavs report row.actor frame channel) ≡ true =
        subst (λ b. (if b then is_covered script wavs report row.actor frame channel else not (is_covered script wavs report row.actor frame channel)) ≡ true) not_rewind (second frame channel late) in
        uncovered script wavs number frame channel report.segments
        (not-true _ (subst (λ a. not (is_covered script wavs report a frame channel) ≡ true) of free));
    rewinds = λ number frame channel of rewind late.
        let held : is_covered script wavs report row.actor frame channel ≡ true =
        subst (λ b. (if b then is_covered script wavs report row.actor frame channel else not (is_covered script wavs report row.actor frame channel)) ≡ true) rewind (second frame channel late) in
        covered script wavs number frame channel report.segments
        (subst (λ a. is_covered script wavs report a frame channel ≡ true) of held);
  }
