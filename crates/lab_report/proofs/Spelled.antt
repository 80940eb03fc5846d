-- What is read is spelled so: each word, number, answer and state of a report has a text, and only one.
use Rattle.lab_report.specs.Prelude.{ap, append_assoc, arith, Bool, bytes_eq, codes, cond, drop, Err, false, length, List, None, Ok, Option, option_map, refl}
use Rattle.lab_report.specs.Prelude.{Result, Some, subst, sym, take, true, ℕ, [], ◌++◌, ◌<◌, ◌^◌, ◌∙◌, ◌∷◌, ◌≡◌, nat_tests, take-append-drop}
use Rattle.lab_report.specs.Prelude.{join_with_byte-slice_split, length-slice_split, bytes_eq-Decides, decimal, join_with_byte, position_or_len, slice_split}
use Rattle.lab_report.specs.Prelude.{Busy, Xrun, XrunWhy, Already, Avail, Empty, Late, Overtaken, State as PcmState, state_name, row_of, decimal_of, is_feed}
use Rattle.lab_report.specs.Prelude.{is_space, decimal_of-is, Answer, Count, Failed, ok_to, ReportWhy, answer_at, answer_by, busy_of, count_and_rest}
use Rattle.lab_report.specs.Prelude.{frame_and_channel, longer_answer, plain_answers, state_at, states, xrun_by, xrun_of, some_or, ◌>>=◌, answer_text}
use Rattle.lab_report.specs.Prelude.{HasStateText, HasText, HasXrunText, number_or_dash, xrun_text, dash_or_number, expect_word, expect_words, feed_of}
use Rattle.lab_report.specs.Prelude.{front_word, is_end, most_frames, next_number, not_word, number_at, number_or_dash_at, space_of}
use Rattle.lab_report.specs.declared.error.ReportWhy.TheVariants as why

-- what a value after a step says
pub bind_ok : {A B : Type 0} (r : Result A ReportWhy) (f : A → Result B ReportWhy) (y : B) → (r >>= f) ≡ Ok y → (x : A) × (r ≡ Ok x) × (f x ≡ Ok y)
bind_ok (Ok x) f y e = (x, refl, e)
bind_ok (Err w) f y e = absurd (cc)

pub some_is : {A : Type 0} (w : ReportWhy) (o : Option A) (x : A) → some_or w o ≡ Ok x → o ≡ Some x
some_is w None x e = absurd (cc)
some_is w (Some y) x e = cc

-- a word and the rest are the text that they were read from
pub front_word-is : (xs : List ℕ) (y : List ℕ × List ℕ) → front_word xs ≡ Ok y → xs ≡ y.0 ++ y.1
front_word-is [] y e = absurd (cc)
front_word-is (b ∷ bs) y e =
    let n = position_or_len is_end (b ∷ bs) in
    let same : ◌≡◌ {A = List ℕ × List ℕ} (take n (b ∷ bs), drop n (b ∷ bs)) y = cc (e) in
    sym (take-append-drop n (b ∷ bs)) ∙ ap (λ p. p.0 ++ p.1) same

space_by : (b : ℕ) (bs r : List ℕ) (t : Bool) → is_space b ≡ t → cond t (Ok bs) (Err why.Word) ≡ Ok r → b ∷ bs ≡ 32 ∷ r
space_by b bs r is t e = grind (arith, nat_tests)

-- a space that is read is one
pub space_of-is : (xs r : List ℕ) → space_of xs ≡ Ok r → xs ≡ 32 ∷ r
space_of-is [] r e = absurd (cc)
space_of-is (b ∷ bs) r e = space_by b bs r (is_space b) refl e

feed_by : (b : ℕ) (bs : List ℕ) (u : Unit {0}) (t : Bool) → is_feed b ≡ t → cond t (Ok tt) (Err why.Extra) ≡ Ok u → b ∷ bs ≡ 10 ∷ bs
feed_by b bs u true t e = let byte : b ≡ 10 = grind (arith, nat_tests) in cc
feed_by b bs u false t e = absurd (cc)

-- a line feed that is read is one
pub feed_of-is : (xs : List ℕ) (u : Unit {0}) → feed_of xs ≡ Ok u → (bs : List ℕ) × (xs ≡ 10 ∷ bs)
feed_of-is [] u e = absurd (cc)
feed_of-is (b ∷ bs) u e = (bs, feed_by b bs u (is_feed b) refl e)

-- what is read at the front of a text: a value that a report can have, spelled there, and the rest
pub record Begins {A : Type 0} (P : A → Type 0) (f : A → List ℕ) (xs : List ℕ) (y : A × List ℕ) : Type 0 where
  pub has : P y.0
  pub is : xs ≡ f y.0 ++ y.1

begins : {A : Type 0} (P : A → Type 0) (f : A → List ℕ) (x : A) (r : List ℕ) (y : A × List ℕ) (xs : List ℕ) → ◌≡◌ {A = Result (A × List ℕ) ReportWhy} (Ok (x, r)) (Ok y) → P x → xs ≡ f x ++ r → Begins P f xs y
begins P f x r y xs e has is = ok_to (Begins P f xs) (x, r) y e (record { has = has; is = is })

number_at-is : (most : ℕ) (xs : List ℕ) (y : ℕ × List ℕ) → most < 2 ^ 64 → number_at most xs ≡ Ok y → xs ≡ decimal y.0 ++ y.1
number_at-is most xs y small e =
    let w = bind_ok (front_word xs) _ y e in
    let n = bind_ok (some_or why.Number (decimal_of most w.0.0)) _ y w.2 in
    ok_to (λ (p : ℕ × List ℕ). xs ≡ decimal p.0 ++ p.1) (n.0, w.0.1) y n.2
    (front_word-is xs w.0 w.1 ∙ ap (λ x. x ++ w.0.1) (decimal_of-is most n.0 w.0.0 small (some_is why.Number _ n.0 n.1)))

pub next_number-is : (most : ℕ) (xs : List ℕ) (y : ℕ × List ℕ) → most < 2 ^ 64 → next_number most xs ≡ Ok y → xs ≡ 32 ∷ (decimal y.0 ++ y.1)
next_number-is most xs y small e =
    let s = bind_ok (space_of xs) (number_at most) y e in
    space_of-is xs s.0 s.1 ∙ ap (λ x. 32 ∷ x) (number_at-is most s.0 y small s.2)

pub small_frames : most_frames < 2 ^ 64
small_frames = omega arith

pub small_byte : 255 < 2 ^ 64
small_byte = omega arith

dash_by : (w : List ℕ) (o : Option ℕ) (t : Bool) (d : Option ℕ) → bytes_eq w (codes "-") ≡ t → decimal_of most_frames w ≡ d → cond t (Some None) (option_map Some d) ≡ Some o → w ≡ number_or_dash o
dash_by w o true d t e g = let same : None ≡ o = cc (g) in (bytes_eq-Decides w (codes "-")).0 t ∙ ap number_or_dash same
dash_by w o false None t e g = absurd (cc)
dash_by w o false (Some n) t e g = let same : Some n ≡ o = cc (g) in decimal_of-is most_frames n w small_frames e ∙ ap number_or_dash same

pub number_or_dash_at-is : (xs : List ℕ) (y : Option ℕ × List ℕ) → number_or_dash_at xs ≡ Ok y → xs ≡ number_or_dash y.0 ++ y.1
number_or_dash_at-is xs y e =
    let w = bind_ok (front_word xs) _ y e in
    let n = bind_ok (some_or why.Word (dash_or_number w.0.0)) _ y w.2 in
    ok_to (λ (p : Option ℕ × List ℕ). xs ≡ number_or_dash p.0 ++ p.1) (n.0, w.0.1) y n.2
    (front_word-is xs w.0 w.1 ∙ ap (λ x. x ++ w.0.1) (dash_by w.0.0 n.0 (bytes_eq w.0.0 (codes "-")) (decimal_of most_frames w.0.0) refl refl (some_is why.Word _ n.0 n.1)))

expect_by : (want : List ℕ) (w : List ℕ × List ℕ) (r : List ℕ) (t : Bool) (x : ReportWhy) → bytes_eq w.0 want ≡ t → cond t (Ok w.1) (Err x) ≡ Ok r → (w.0 ≡ want) × (w.1 ≡ r)
expect_by want w r true x t e = ((bytes_eq-Decides w.0 want).0 t, cc (e))
expect_by want w r false x t e = absurd (cc)

pub expect_word-is : (want xs r : List ℕ) → expect_word want xs ≡ Ok r → xs ≡ want ++ r
expect_word-is want xs r e =
    let w = bind_ok (front_word xs) _ r e in
    let same = expect_by want w.0 r (bytes_eq w.0.0 want) (not_word want w.0.0) refl w.2 in
    front_word-is xs w.0 w.1 ∙ ap (λ x. x ++ w.0.1) same.0 ∙ ap (λ x. want ++ x) same.1

expect_joined : (want : List ℕ) (wants : List (List ℕ)) (xs r : List ℕ) → expect_words (want ∷ wants) xs ≡ Ok r → xs ≡ join_with_byte 32 (want ∷ wants) ++ 32 ∷ r
expect_joined want [] xs r e =
    let a = bind_ok (expect_word want xs) _ r e in
    let s = bind_ok (space_of a.0) (expect_words []) r a.2 in
    let last : s.0 ≡ r = cc (s.2) in
    expect_word-is want xs a.0 a.1 ∙ ap (λ x. want ++ x) (space_of-is a.0 s.0 s.1 ∙ ap (λ x. 32 ∷ x) last)
expect_joined want (next ∷ more) xs r e =
    let a = bind_ok (expect_word want xs) _ r e in
    let s = bind_ok (space_of a.0) (expect_words (next ∷ more)) r a.2 in
    expect_word-is want xs a.0 a.1 ∙ ap (λ x. want ++ x) (space_of-is a.0 s.0 s.1 ∙ ap (λ x. 32 ∷ x) (expect_joined next more s.0 r s.2))
    ∙ sym (append_assoc want (32 ∷ join_with_byte 32 (next ∷ more)) (32 ∷ r))

front_by : (ws : List (List ℕ)) (front xs r : List ℕ) → 0 < length ws → join_with_byte 32 ws ≡ front → expect_words ws xs ≡ Ok r → xs ≡ front ++ 32 ∷ r
front_by [] front xs r some j e = absurd (omega arith)
front_by (w ∷ ws) front xs r some j e = expect_joined w ws xs r e ∙ ap (λ x. x ++ 32 ∷ r) j

-- a front that is read is spelled so
pub expect_words-is : (front xs r : List ℕ) → expect_words (slice_split is_space front) xs ≡ Ok r → xs ≡ front ++ 32 ∷ r
expect_words-is front xs r e =
    front_by (slice_split is_space front) front xs r (omega (arith, length-slice_split is_space front)) (join_with_byte-slice_split 32 front) e

-- what a test of a word says
pub word_choice : {A : Type 0} (w v : List ℕ) (r s : Result A ReportWhy) (x : A) (P : Type 0) → (w ≡ v → r ≡ Ok x → P) → (s ≡ Ok x → P) → cond (bytes_eq w v) r s ≡ Ok x → P
word_choice w v r s x P f g e = by (bytes_eq w v) refl e
  where
    by : (t : Bool) → bytes_eq w v ≡ t → cond t r s ≡ Ok x → P
    by true t e = f ((bytes_eq-Decides w v).0 t) e
    by false t e = g e

place_of-is : (xs : List ℕ) (y : (ℕ × ℕ) × List ℕ) → frame_and_channel xs ≡ Ok y → xs ≡ 32 ∷ ((decimal y.0.0 ++ 32 ∷ decimal y.0.1) ++ y.1)
place_of-is xs y e =
    let a = bind_ok (next_number most_frames xs) _ y e in
    let b = bind_ok (next_number 255 a.0.1) _ y a.2 in
    ok_to (λ (p : (ℕ × ℕ) × List ℕ). xs ≡ 32 ∷ ((decimal p.0.0 ++ 32 ∷ decimal p.0.1) ++ p.1)) ((a.0.0, b.0.0), b.0.1) y b.2
    (next_number-is most_frames xs a.0 small_frames a.1
    ∙ ap (λ r. 32 ∷ (decimal a.0.0 ++ r)) (next_number-is 255 a.0.1 b.0 small_byte b.1)
    ∙ ap (λ r. 32 ∷ r) (sym (append_assoc (decimal a.0.0) (32 ∷ decimal b.0.0) b.0.1)))

-- why there was an xrun
xrun_by-is : (w rest : List ℕ) (y : XrunWhy × List ℕ) → xrun_by w rest ≡ Ok y → Begins HasXrunText xrun_text (w ++ rest) y
xrun_by-is w rest y e =
    let P : Type 0 = Begins HasXrunText xrun_text (w ++ rest) y in
    word_choice w (codes "empty") _ _ y P (λ v f. begins HasXrunText xrun_text Empty rest y (w ++ rest) f tt (ap (λ x. x ++ rest) v))
    (λ g. word_choice w (codes "already") _ _ y P (λ v f. begins HasXrunText xrun_text Already rest y (w ++ rest) f tt (ap (λ x. x ++ rest) v))
    (λ h. word_choice w (codes "avail") _ _ y P
    (λ v f.
    let a = bind_ok (next_number most_frames rest) _ y f in
    begins HasXrunText xrun_text (Avail a.0.0 0) a.0.1 y (w ++ rest) a.2 refl
    (ap (λ x. x ++ rest) v ∙ ap (λ r. codes "avail" ++ r) (next_number-is most_frames rest a.0 small_frames a.1)))
    (λ i. word_choice w (codes "late") _ _ y P
    (λ v f.
    let a = bind_ok (frame_and_channel rest) _ y f in
    begins HasXrunText xrun_text (Late a.0.0.0 a.0.0.1 0) a.0.1 y (w ++ rest) a.2 refl
    (ap (λ x. x ++ rest) v ∙ ap (λ r. codes "late" ++ r) (place_of-is rest a.0 a.1)))
    (λ j. word_choice w (codes "overtaken") _ _ y P
    (λ v f.
    let a = bind_ok (frame_and_channel rest) _ y f in
    begins HasXrunText xrun_text (Overtaken a.0.0.0 a.0.0.1 0) a.0.1 y (w ++ rest) a.2 refl
    (ap (λ x. x ++ rest) v ∙ ap (λ r. codes "overtaken" ++ r) (place_of-is rest a.0 a.1)))
    (λ k. absurd (cc (k))) j) i) h) g) e

xrun_of-is : (w rest : List ℕ) (y : Answer × List ℕ) → w ≡ codes "EPIPE" → xrun_of rest ≡ Ok y → Begins HasText answer_text (w ++ rest) y
xrun_of-is w rest y v e =
    let a = bind_ok (space_of rest) _ y e in
    let u = bind_ok (front_word a.0) _ y a.2 in
    let x = bind_ok (xrun_by u.0.0 u.0.1) _ y u.2 in
    let why = xrun_by-is u.0.0 u.0.1 x.0 x.1 in
    begins HasText answer_text (Failed (Xrun x.0.0)) x.0.1 y (w ++ rest) x.2 why.has
    (ap (λ p. p ++ rest) v ∙ ap (λ r. codes "EPIPE" ++ r) (space_of-is rest a.0 a.1)
    ∙ ap (λ r. codes "EPIPE " ++ r) (front_word-is a.0 u.0 u.1 ∙ why.is))

busy_of-is : (w rest : List ℕ) (y : Answer × List ℕ) → w ≡ codes "EBUSY" → busy_of rest ≡ Ok y → Begins HasText answer_text (w ++ rest) y
busy_of-is w rest y v e =
    let a = bind_ok (space_of rest) _ y e in
    let u = bind_ok (number_or_dash_at a.0) _ y a.2 in
    let s = bind_ok (next_number most_frames u.0.1) _ y u.2 in
    begins HasText answer_text (Failed (Busy u.0.0 s.0.0)) s.0.1 y (w ++ rest) s.2 tt
    (ap (λ p. p ++ rest) v ∙ ap (λ r. codes "EBUSY" ++ r) (space_of-is rest a.0 a.1)
    ∙ ap (λ r. codes "EBUSY " ++ r) (number_or_dash_at-is a.0 u.0 u.1)
    ∙ ap (λ r. codes "EBUSY " ++ (number_or_dash u.0.0 ++ r)) (next_number-is most_frames u.0.1 s.0 small_frames s.1)
    ∙ ap (λ r. codes "EBUSY " ++ r) (sym (append_assoc (number_or_dash u.0.0) (32 ∷ decimal s.0.0) s.0.1)))

count_and_rest-is : (w rest : List ℕ) (y : Answer × List ℕ) → count_and_rest w rest ≡ Ok y → Begins HasText answer_text (w ++ rest) y
count_and_rest-is w rest y e =
    let n = bind_ok (some_or why.Word (decimal_of most_frames w)) _ y e in
    begins HasText answer_text (Count n.0) rest y (w ++ rest) n.2 tt (ap (λ x. x ++ rest) (decimal_of-is most_frames n.0 w small_frames (some_is why.Word _ n.0 n.1)))

longer_answer-is : (w rest : List ℕ) (y : Answer × List ℕ) → longer_answer w rest ≡ Ok y → Begins HasText answer_text (w ++ rest) y
longer_answer-is w rest y e =
    let P : Type 0 = Begins HasText answer_text (w ++ rest) y in
    word_choice w (codes "EPIPE") _ _ y P (xrun_of-is w rest y)
    (λ g. word_choice w (codes "EBUSY") _ _ y P (busy_of-is w rest y) (count_and_rest-is w rest y) g) e

-- each value of a table can be in a report, and is named by its text
abbrev pub AreNamed : {A : Type 0} → (A → Type 0) → (A → List ℕ) → List (List ℕ × A) → Type 0
AreNamed P f [] = Unit {0}
AreNamed P f (row ∷ rows) = (P row.1 × (row.0 ≡ f row.1)) × (AreNamed P f rows)

named_by : {A : Type 0} (P : A → Type 0) (f : A → List ℕ) (w v : List ℕ) (y x : A) (rest : Option A) (t : Bool) → bytes_eq w v ≡ t → P y × (v ≡ f y) → (rest ≡ Some x → P x × (w ≡ f x)) → cond t (Some y) rest ≡ Some x → P x × (w ≡ f x)
named_by P f w v y x rest true t n r e = let same : y ≡ x = cc (e) in (subst P same n.0, (bytes_eq-Decides w v).0 t ∙ n.1 ∙ ap f same)
named_by P f w v y x rest false t n r e = r e

-- a word of a table is the text of its value
row_of-is : {A : Type 0} (P : A → Type 0) (f : A → List ℕ) (rows : List (List ℕ × A)) (w : List ℕ) (x : A) → AreNamed P f rows → row_of rows w ≡ Some x → P x × (w ≡ f x)
row_of-is P f [] w x h e = absurd (cc)
row_of-is P f (row ∷ rows) w x h e = named_by P f w row.0 row.1 x (row_of rows w) (bytes_eq w row.0) refl h.0 (row_of-is P f rows w x h.1) e

answers_named : AreNamed HasText answer_text plain_answers
answers_named = ((tt, refl), ((tt, refl), ((tt, refl), ((tt, refl), ((refl, refl), ((tt, refl), ((tt, refl), tt)))))))

answer_by-is : (o : Option Answer) (w rest : List ℕ) (y : Answer × List ℕ) → row_of plain_answers w ≡ o → answer_by o w rest ≡ Ok y → Begins HasText answer_text (w ++ rest) y
answer_by-is (Some a) w rest y o e =
    let row = row_of-is HasText answer_text plain_answers w a answers_named o in
    begins HasText answer_text a rest y (w ++ rest) e row.0 (ap (λ x. x ++ rest) row.1)
answer_by-is None w rest y o e = longer_answer-is w rest y e

-- an answer that is read
pub answer_at-is : (xs : List ℕ) (y : Answer × List ℕ) → answer_at xs ≡ Ok y → Begins HasText answer_text xs y
answer_at-is xs y e =
    let w = bind_ok (front_word xs) _ y e in
    let by = answer_by-is (row_of plain_answers w.0.0) w.0.0 w.0.1 y refl w.2 in
    record { has = by.has; is = front_word-is xs w.0 w.1 ∙ by.is }

states_named : AreNamed HasStateText state_name states
states_named = ((tt, refl), ((tt, refl), ((tt, refl), ((tt, refl), ((tt, refl), ((tt, refl), ((tt, refl), ((tt, refl), tt))))))))

-- a state that is read
pub state_at-is : (xs : List ℕ) (y : PcmState × List ℕ) → state_at xs ≡ Ok y → Begins HasStateText state_name xs y
state_at-is xs y e =
    let w = bind_ok (front_word xs) _ y e in
    let s = bind_ok (some_or why.Word (row_of states w.0.0)) _ y w.2 in
    let row = row_of-is HasStateText state_name states w.0.0 s.0 states_named (some_is why.Word _ s.0 s.1) in
    begins HasStateText state_name s.0 w.0.1 y xs s.2 row.0 (front_word-is xs w.0 w.1 ∙ ap (λ x. x ++ w.0.1) row.1)
