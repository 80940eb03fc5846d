-- The lines of a report that is read: each is spelled as what was read of it.
use Rattle.lab_report.specs.Prelude.{ap, arith, Bool, bytes_eq, codes, cond, Err, false, get_or, length, List, Ok, refl, Result, Some, sym, true, ℕ, [], ◌++◌}
use Rattle.lab_report.specs.Prelude.{◌+◌, ◌<◌, ◌∙◌, ◌∷◌, ◌≡◌, nat_tests, slice_get-get_or, bytes_eq-Decides, decimal, position, slice_get, slice_split}
use Rattle.lab_report.specs.Prelude.{option_map_or, Segment, state_name, is_feed, is_space, Request, Row, ClientLine, ReaderLine, Script, request_of_row, ok_to}
use Rattle.lab_report.specs.Prelude.{ReportError, ReportWhy, answer_at, state_at, some_or, ◌>>=◌, client_and_rest, on_line, played_run, reader_and_rest}
use Rattle.lab_report.specs.Prelude.{row_after_front, row_of_line, run_at, segment_at, segment_end, version_of, answer_text, client_name, front_text}
use Rattle.lab_report.specs.Prelude.{HasStateText, HasText, IsRunOf, IsSegmentOf, number_or_dash, played_line, reader_name, row_line, run_line, segment_line}
use Rattle.lab_report.specs.Prelude.{expect_words, feed_of, front_word, lines_of, most_frames, next_number, number_or_dash_at, onto_first, space_of}
use Rattle.std.proofs.lemmas.List.Quantifiers.{position-Some}
use Rattle.lab_report.proofs.RowLine.{played_parts, row_parts, run_parts, segment_parts}
use Rattle.lab_report.proofs.Spelled.{bind_ok, some_is, small_frames, small_byte, front_word-is, space_of-is, feed_of-is, next_number-is, number_or_dash_at-is, word_choice, expect_words-is, answer_at-is, state_at-is}
use Rattle.lab_report.specs.declared.error.ReportWhy.TheVariants as why

pub on_line-ok : {X Y : Type 0} (line : ℕ) (r : Result X ReportWhy) (f : X → Result Y ReportError) (y : Y) → on_line line r f ≡ Ok y → (x : X) × (r ≡ Ok x) × (f x ≡ Ok y)
on_line-ok line (Ok x) f y e = (x, refl, e)
on_line-ok line (Err cause) f y e = absurd (cc)

-- a line has a line feed at its end at most
abbrev pub IsOneLine : List ℕ → Type 0
IsOneLine line = (before after : List ℕ) → line ≡ before ++ 10 ∷ after → after ≡ []

abbrev pub AreLines : List (List ℕ) → Type 0
AreLines [] = Unit {0}
AreLines (line ∷ lines) = IsOneLine line × (AreLines lines)

no_more : (before after : List ℕ) → ◌≡◌ {A = List ℕ} [] (before ++ 10 ∷ after) → after ≡ []
no_more [] after e = absurd (cc)
no_more (b ∷ bs) after e = absurd (cc)

feed_is_line : (b : ℕ) (before after : List ℕ) → b ∷ [] ≡ before ++ 10 ∷ after → after ≡ []
feed_is_line b [] after e = cc (e)
feed_is_line b (c ∷ cs) after e = no_more cs after (cc (e))

-- a byte that is no line feed, before a line
more_is_line : (b : ℕ) (line : List ℕ) → is_feed b ≡ false → IsOneLine line → (before after : List ℕ) → b ∷ line ≡ before ++ 10 ∷ after → after ≡ []
more_is_line b line n h [] after e = absurd (let same : b ≡ 10 = cc (e) in not_feed b n same)
  where
    not_feed : (b : ℕ) → is_feed b ≡ false → b ≡ 10 → ⊥
    not_feed b n e = grind (arith, nat_tests)
more_is_line b line n h (c ∷ cs) after e = h cs after (cc (e))

onto_first-lines : (b : ℕ) (lines : List (List ℕ)) → is_feed b ≡ false → AreLines lines → AreLines (onto_first b lines)
onto_first-lines b [] n h = (feed_is_line b, tt)
onto_first-lines b (line ∷ lines) n h = (more_is_line b line n h.0, h.1)

lines_by : (b : ℕ) (lines : List (List ℕ)) (t : Bool) → is_feed b ≡ t → AreLines lines → AreLines (cond t ((b ∷ []) ∷ lines) (onto_first b lines))
lines_by b lines true t h = (feed_is_line b, h)
lines_by b lines false t h = onto_first-lines b lines t h

pub lines_of-lines : (text : List ℕ) → AreLines (lines_of text)
lines_of-lines [] = tt
lines_of-lines (b ∷ bs) = lines_by b (lines_of bs) (is_feed b) refl (lines_of-lines bs)

-- lines joined
abbrev pub joined : List (List ℕ) → List ℕ
joined [] = []
joined (line ∷ lines) = line ++ joined lines

joined-onto_first : (b : ℕ) (lines : List (List ℕ)) → joined (onto_first b lines) ≡ b ∷ joined lines
joined-onto_first b [] = refl
joined-onto_first b (line ∷ lines) = refl

joined_by : (b : ℕ) (lines : List (List ℕ)) (t : Bool) → joined (cond t ((b ∷ []) ∷ lines) (onto_first b lines)) ≡ b ∷ joined lines
joined_by b lines true = refl
joined_by b lines false = joined-onto_first b lines

-- the lines of a text, joined, are the text
pub joined-lines_of : (text : List ℕ) → joined (lines_of text) ≡ text
joined-lines_of [] = refl
joined-lines_of (b ∷ bs) = joined_by b (lines_of bs) (is_feed b) ∙ ap (λ r. b ∷ r) (joined-lines_of bs)

-- a line whose words and line feed are known
pub one_line : (line words after : List ℕ) → IsOneLine line → line ≡ words ++ 10 ∷ after → line ≡ words ++ 10 ∷ []
one_line line words after h e = e ∙ ap (λ r. words ++ 10 ∷ r) (h words after e)

-- a row that is read is about its request, has a text, and its line is spelled as the row
pub record IsRead (script : Script) (request : Request) (line : List ℕ) (row : Row) : Type 0 where
  pub tells : request_of_row row ≡ request
  pub answer : HasText row.answer
  pub state : HasStateText row.state
  pub spelled : line ≡ row_line script row

pub row_of_line-is : (script : Script) (request : Request) (line : List ℕ) (row : Row) → IsOneLine line → row_of_line script request line ≡ Ok row → IsRead script request line row
unfolding row_of_line row_after_front
row_of_line-is script request line row h e =
    let front = bind_ok (expect_words (slice_split is_space (front_text script request)) line) _ row e in
    let answer = bind_ok (answer_at front.0) _ row front.2 in
    let before = bind_ok (space_of answer.0.1) _ row answer.2 in
    let state = bind_ok (state_at before.0) _ row before.2 in
    let more = bind_ok (space_of state.0.1) _ row state.2 in
    let seen = bind_ok (number_or_dash_at more.0) _ row more.2 in
    let end = bind_ok (feed_of seen.0.1) _ row seen.2 in
    let feed = feed_of-is seen.0.1 end.0 end.1 in
    let a = answer_at-is front.0 answer.0 answer.1 in
    let s = state_at-is before.0 state.0 state.1 in
    let f : List ℕ = front_text script request in
    let at : line ≡ f ++ 32 ∷ (answer_text answer.0.0 ++ 32 ∷ (state_name state.0.0 ++ 32 ∷ (number_or_dash seen.0.0 ++ 10 ∷ feed.0))) =
    expect_words-is f line front.0 front.1
    ∙ ap (λ r. f ++ 32 ∷ r) (a.is ∙ ap (λ r. answer_text answer.0.0 ++ r) (space_of-is answer.0.1 before.0 before.1
    ∙ ap (λ r. 32 ∷ r) (s.is ∙ ap (λ r. state_name state.0.0 ++ r) (space_of-is state.0.1 more.0 more.1
    ∙ ap (λ r. 32 ∷ r) (number_or_dash_at-is more.0 seen.0 seen.1 ∙ ap (λ r. number_or_dash seen.0.0 ++ r) feed.1))))) in
    ok_to (IsRead script request line) _ row end.2 (record {
      tells = refl;
      answer = a.has;
      state = s.has;
      spelled = one_line line (((f ++ 32 ∷ answer_text answer.0.0) ++ 32 ∷ state_name state.0.0) ++ 32 ∷ number_or_dash seen.0.0) feed.0 h
          (at ∙ sym (row_parts f (answer_text answer.0.0) (state_name state.0.0) (number_or_dash seen.0.0) (10 ∷ feed.0)));
    })

-- who a word names first is in the list, and has this name
named-is : {X : Type 0} (name : X → List ℕ) (items : List X) (w : List ℕ) (n : ℕ) → position (λ x. bytes_eq (name x) w) items ≡ Some n
    → (n < length items) × (w ≡ option_map_or name (slice_get items n) [])
named-is name [] w n e = absurd (cc)
named-is name (x ∷ items) w n e =
    let first = position-Some (λ y. bytes_eq (name y) w) (x ∷ items) n x e in
    (first.0, sym ((bytes_eq-Decides (name (get_or (x ∷ items) n x)) w).0 first.1) ∙ sym (ap (λ o. option_map_or name o []) (slice_get-get_or (x ∷ items) n x first.0)))

-- who is named after a space, and the rest
record IsNamed {X : Type 0} (name : X → List ℕ) (items : List X) (xs : List ℕ) (y : ℕ × List ℕ) : Type 0 where
  inside : y.0 < length items
  spelled : xs ≡ 32 ∷ (option_map_or name (slice_get items y.0) [] ++ y.1)

named_and_rest-is : {X : Type 0} (name : X → List ℕ) (items : List X) (xs : List ℕ) (y : ℕ × List ℕ)
    → ((space_of xs) >>= (λ more. (front_word more) >>= (λ word. (some_or why.Word (position (λ x. bytes_eq (name x) word.0) items)) >>= (λ n. Ok (n, word.1))))) ≡ Ok y
    → IsNamed name items xs y
named_and_rest-is name items xs y e =
    let a = bind_ok (space_of xs) _ y e in
    let w = bind_ok (front_word a.0) _ y a.2 in
    let n = bind_ok (some_or why.Word (position (λ x. bytes_eq (name x) w.0.0) items)) _ y w.2 in
    let named = named-is name items w.0.0 n.0 (some_is why.Word _ n.0 n.1) in
    ok_to (IsNamed name items xs) (n.0, w.0.1) y n.2 (record {
      inside = named.0;
      spelled = space_of-is xs a.0 a.1 ∙ ap (λ r. 32 ∷ r) (front_word-is a.0 w.0 w.1 ∙ ap (λ x. x ++ w.0.1) named.1);
    })

-- the numbers at the end of a segment's line, and what is after it
segment_end-is : (xs : List ℕ) (s : Segment) → segment_end xs ≡ Ok s
    → (after : List ℕ) × (xs ≡ 32 ∷ (decimal s.source ++ 32 ∷ (decimal s.card ++ 32 ∷ (decimal s.whole ++ 32 ∷ (decimal s.part ++ 10 ∷ after)))))
unfolding segment_end
segment_end-is xs s e =
    let source = bind_ok (next_number most_frames xs) _ s e in
    let card = bind_ok (next_number most_frames source.0.1) _ s source.2 in
    let whole = bind_ok (next_number most_frames card.0.1) _ s card.2 in
    let part = bind_ok (next_number 255 whole.0.1) _ s whole.2 in
    let end = bind_ok (feed_of part.0.1) _ s part.2 in
    let feed = feed_of-is part.0.1 end.0 end.1 in
    ok_to (λ (s : Segment). (after : List ℕ) × (xs ≡ 32 ∷ (decimal s.source ++ 32 ∷ (decimal s.card ++ 32 ∷ (decimal s.whole ++ 32 ∷ (decimal s.part ++ 10 ∷ after))))))
    (record { source = source.0.0; card = card.0.0; whole = whole.0.0; part = part.0.0 }) s end.2 (
      feed.0,
      next_number-is most_frames xs source.0 small_frames source.1
          ∙ ap (λ r. 32 ∷ (decimal source.0.0 ++ r)) (next_number-is most_frames source.0.1 card.0 small_frames card.1
          ∙ ap (λ r. 32 ∷ (decimal card.0.0 ++ r)) (next_number-is most_frames card.0.1 whole.0 small_frames whole.1
          ∙ ap (λ r. 32 ∷ (decimal whole.0.0 ++ r)) (next_number-is 255 whole.0.1 part.0 small_byte part.1
          ∙ ap (λ r. 32 ∷ (decimal part.0.0 ++ r)) feed.1))),
    )

-- a segment is of the script, and its line is spelled as the segment
pub segment_at-is : (script : Script) (xs : List ℕ) (y : ℕ × Segment) → IsOneLine (codes "segment" ++ xs) → segment_at script xs ≡ Ok y
    → IsSegmentOf script y × (codes "segment" ++ xs ≡ segment_line script y)
unfolding segment_at
segment_at-is script xs y h e =
    let client = bind_ok (client_and_rest script xs) _ y e in
    let segment = bind_ok (segment_end client.0.1) _ y client.2 in
    let s : Segment = segment.0 in
    let end = segment_end-is client.0.1 s segment.1 in
    let name : List ℕ = client_name script client.0.0 in
    let named = named_and_rest-is (λ (client : ClientLine). client.name) script.clients xs client.0 client.1 in
    ok_to (λ (z : ℕ × Segment). IsSegmentOf script z × (codes "segment" ++ xs ≡ segment_line script z)) (client.0.0, s) y segment.2 (
      named.inside,
      one_line (codes "segment" ++ xs) ((((codes "segment " ++ name ++ 32 ∷ decimal s.source) ++ 32 ∷ decimal s.card) ++ 32 ∷ decimal s.whole) ++ 32 ∷ decimal s.part) end.0 h
          (ap (λ r. codes "segment" ++ r) (named.spelled ∙ ap (λ r. 32 ∷ (name ++ r)) end.1)
          ∙ sym (segment_parts name (decimal s.source) (decimal s.card) (decimal s.whole) (decimal s.part) (10 ∷ end.0))),
    )

-- two numbers at the end of a line, and what is after it
played_run-is : (xs : List ℕ) (y : ℕ × ℕ) → played_run xs ≡ Ok y → (after : List ℕ) × (xs ≡ 32 ∷ (decimal y.0 ++ 32 ∷ (decimal y.1 ++ 10 ∷ after)))
unfolding played_run
played_run-is xs y e =
    let first = bind_ok (next_number most_frames xs) _ y e in
    let count = bind_ok (next_number most_frames first.0.1) _ y first.2 in
    let end = bind_ok (feed_of count.0.1) _ y count.2 in
    let feed = feed_of-is count.0.1 end.0 end.1 in
    ok_to (λ (p : ℕ × ℕ). (after : List ℕ) × (xs ≡ 32 ∷ (decimal p.0 ++ 32 ∷ (decimal p.1 ++ 10 ∷ after)))) (first.0.0, count.0.0) y end.2 (
      feed.0,
      next_number-is most_frames xs first.0 small_frames first.1
          ∙ ap (λ r. 32 ∷ (decimal first.0.0 ++ r)) (next_number-is most_frames first.0.1 count.0 small_frames count.1 ∙ ap (λ r. 32 ∷ (decimal count.0.0 ++ r)) feed.1),
    )

-- a run is of the script, and its line is spelled as the run
pub run_at-is : (script : Script) (xs : List ℕ) (y : ℕ × ℕ × ℕ) → IsOneLine (codes "run" ++ xs) → run_at script xs ≡ Ok y → IsRunOf script y × (codes "run" ++ xs ≡ run_line script y)
unfolding run_at
run_at-is script xs y h e =
    let reader = bind_ok (reader_and_rest script xs) _ y e in
    let frames = bind_ok (played_run reader.0.1) _ y reader.2 in
    let end = played_run-is reader.0.1 frames.0 frames.1 in
    let name : List ℕ = reader_name script reader.0.0 in
    let named = named_and_rest-is (λ (reader : ReaderLine). reader.name) script.readers xs reader.0 reader.1 in
    ok_to (λ (z : ℕ × ℕ × ℕ). IsRunOf script z × (codes "run" ++ xs ≡ run_line script z)) (reader.0.0, frames.0.0, frames.0.1) y frames.2 (
      named.inside,
      one_line (codes "run" ++ xs) ((codes "run " ++ name ++ 32 ∷ decimal frames.0.0) ++ 32 ∷ decimal frames.0.1) end.0 h
          (ap (λ r. codes "run" ++ r) (named.spelled ∙ ap (λ r. 32 ∷ (name ++ r)) end.1)
          ∙ sym (run_parts name (decimal frames.0.0) (decimal frames.0.1) (10 ∷ end.0))),
    )

-- the line of what was played is spelled so
pub played_run-spelled : (xs : List ℕ) (y : ℕ × ℕ) → IsOneLine (codes "played" ++ xs) → played_run xs ≡ Ok y → codes "played" ++ xs ≡ played_line y.0 y.1
played_run-spelled xs y h e =
    let end = played_run-is xs y e in
    one_line (codes "played" ++ xs) (codes "played " ++ decimal y.0 ++ 32 ∷ decimal y.1) end.0 h
    (ap (λ r. codes "played" ++ r) end.1 ∙ sym (played_parts (decimal y.0) (decimal y.1) (10 ∷ end.0)))

pub version_of-is : (xs r : List ℕ) → version_of xs ≡ Ok r → xs ≡ codes "1" ++ r
version_of-is xs r e =
    let w = bind_ok (front_word xs) _ r e in
    front_word-is xs w.0 w.1
    ∙ word_choice w.0.0 (codes "1") (Ok w.0.1) (Err why.Word) r (w.0.0 ++ w.0.1 ≡ codes "1" ++ r)
    (λ v f. let same : w.0.1 ≡ r = cc (f) in ap (λ x. x ++ w.0.1) v ∙ ap (λ x. codes "1" ++ x) same) (λ f. absurd (cc (f))) w.2
