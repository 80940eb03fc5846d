-- The rows of a report that is printed are read back.
use Rattle.lab_report.specs.Prelude.{ap, append_assoc, arith, codes, List, Ok, Option, refl, true, ℕ, [], ◌++◌, ◌<◌, ◌^◌, ◌∙◌, ◌∷◌, ◌≡◌, ◌≤◌, digits_decimal}
use Rattle.lab_report.specs.Prelude.{decimal, list_all, Busy, Invalid, LapEnd, Memory, Xrun, XrunWhy, Already, Avail, Empty, Late, Overtaken, State as PcmState}
use Rattle.lab_report.specs.Prelude.{state_name, row_of, decimal_of-decimal, own, Answer, Count, Failed, Row, Script, request_of_row, answer_at, answer_by}
use Rattle.lab_report.specs.Prelude.{busy_of, frame_and_channel, plain_answers, state_at, states, xrun_by, xrun_of, some_or, ◌>>=◌, IsAnswerInRange}
use Rattle.lab_report.specs.Prelude.{IsRowInRange, IsWide, IsWideWhere, IsXrunInRange, row_after_front, row_of_line, answer_text, front_text, HasStateText}
use Rattle.lab_report.specs.Prelude.{HasText, HasXrunText, number_or_dash, row_line, xrun_text, most_frames}
use Rattle.lab_report.proofs.Printed.{in_word, in_line, front_word-printed, decimal_in_word, next_number-printed, not_digits, expect_words-printed, number_or_dash-printed, wide}
use Rattle.lab_report.proofs.RowLine.{row_parts}
use Rattle.pcm_states.specs.declared.states.State.TheVariants as state
use Rattle.lab_report.specs.declared.error.ReportWhy.TheVariants as why

-- a frame and a channel are read
place_of-printed : (f c : ℕ) (r : List ℕ) → IsWide f → c ≤ 255 → frame_and_channel (32 ∷ (decimal f ++ 32 ∷ (decimal c ++ 32 ∷ r))) ≡ Ok ((f, c), 32 ∷ r)
place_of-printed f c r hf hc =
    let small : c < 2 ^ 64 = omega arith in
    rw (next_number-printed most_frames f 32 (decimal c ++ 32 ∷ r) (wide f hf) hf refl, next_number-printed 255 c 32 r hc small refl) refl

xrun_word : (w r : List ℕ) → list_all in_word w ≡ true
    → xrun_of (32 ∷ (w ++ 32 ∷ r)) ≡ (xrun_by w (32 ∷ r)) >>= (λ xrun. Ok (Failed (Xrun xrun.0), xrun.1))
xrun_word w r h = ap (λ x. x >>= (λ word. (xrun_by word.0 word.1) >>= (λ xrun. Ok (Failed (Xrun xrun.0), xrun.1)))) (front_word-printed w 32 r h refl)

-- why there was an xrun is read
xrun_of-printed : (w : XrunWhy) (r : List ℕ) → HasXrunText w → IsXrunInRange w → xrun_of (32 ∷ (xrun_text w ++ 32 ∷ r)) ≡ Ok (Failed (Xrun w), 32 ∷ r)
xrun_of-printed Empty r h n = xrun_word (codes "empty") r refl
xrun_of-printed Already r h n = xrun_word (codes "already") r refl
xrun_of-printed (Avail a s) r h n =
    rw h (xrun_word (codes "avail") (decimal a ++ 32 ∷ r) refl
    ∙ rw (next_number-printed most_frames a 32 r (wide a n) n refl) refl)
xrun_of-printed (Late f c s) r h n =
    rw (h, append_assoc (decimal f) (32 ∷ decimal c) (32 ∷ r)) (xrun_word (codes "late") (decimal f ++ 32 ∷ (decimal c ++ 32 ∷ r)) refl
    ∙ rw (place_of-printed f c r n.0 n.1) refl)
xrun_of-printed (Overtaken f c s) r h n =
    rw (h, append_assoc (decimal f) (32 ∷ decimal c) (32 ∷ r)) (xrun_word (codes "overtaken") (decimal f ++ 32 ∷ (decimal c ++ 32 ∷ r)) refl
    ∙ rw (place_of-printed f c r n.0 n.1) refl)

-- until when no place is free is read
busy_of-printed : (u : Option ℕ) (s : ℕ) (r : List ℕ) → IsWideWhere u → IsWide s
    → busy_of (32 ∷ ((number_or_dash u ++ 32 ∷ decimal s) ++ 32 ∷ r)) ≡ Ok (Failed (Busy u s), 32 ∷ r)
busy_of-printed u s r hu hs =
    rw (append_assoc (number_or_dash u) (32 ∷ decimal s) (32 ∷ r), number_or_dash-printed u 32 (decimal s ++ 32 ∷ r) hu refl, next_number-printed most_frames s 32 r (wide s hs) hs refl) refl

answer_word : (w r : List ℕ) → list_all in_word w ≡ true → answer_at (w ++ 32 ∷ r) ≡ answer_by (row_of plain_answers w) w (32 ∷ r)
answer_word w r h = ap (λ x. x >>= (λ word. answer_by (row_of plain_answers word.0) word.0 word.1)) (front_word-printed w 32 r h refl)

-- a number is read as an answer
count-printed : (n : ℕ) (r : List ℕ) → IsWide n → answer_at (decimal n ++ 32 ∷ r) ≡ Ok (Count n, 32 ∷ r)
count-printed n r h =
    let d = digits_decimal own n h in
    answer_word (decimal n) r (decimal_in_word n h)
    ∙ rw (
      not_digits (decimal n) (codes "ok") d refl,
      not_digits (decimal n) (codes "EBADFD") d refl,
      not_digits (decimal n) (codes "EAGAIN") d refl,
      not_digits (decimal n) (codes "ENODEV") d refl,
      not_digits (decimal n) (codes "EINVAL") d refl,
      not_digits (decimal n) (codes "EIO") d refl,
      not_digits (decimal n) (codes "stopped") d refl,
      not_digits (decimal n) (codes "EPIPE") d refl,
      not_digits (decimal n) (codes "EBUSY") d refl,
      decimal_of-decimal most_frames n (wide n h) h,
    ) refl

-- an answer is read
pub answer_at-printed : (a : Answer) (r : List ℕ) → HasText a → IsAnswerInRange a → answer_at (answer_text a ++ 32 ∷ r) ≡ Ok (a, 32 ∷ r)
answer_at-printed (Count k) r h n = count-printed k r n
answer_at-printed (Failed (Invalid w)) r h n = rw h (answer_word (codes "EINVAL") r refl)
answer_at-printed (Failed (Xrun w)) r h n = answer_word (codes "EPIPE") (xrun_text w ++ 32 ∷ r) refl ∙ xrun_of-printed w r h n
answer_at-printed (Failed (Busy u s)) r h n = answer_word (codes "EBUSY") ((number_or_dash u ++ 32 ∷ decimal s) ++ 32 ∷ r) refl ∙ busy_of-printed u s r n.0 n.1
answer_at-printed (Failed LapEnd) r h n = absurd h
answer_at-printed (Failed Memory) r h n = absurd h
answer_at-printed other r h n = answer_word (answer_text other) r refl

state_word : (w r : List ℕ) → list_all in_word w ≡ true → state_at (w ++ 32 ∷ r) ≡ (some_or why.Word (row_of states w)) >>= (λ s. Ok (s, 32 ∷ r))
state_word w r h = ap (λ x. x >>= (λ word. (some_or why.Word (row_of states word.0)) >>= (λ s. Ok (s, word.1)))) (front_word-printed w 32 r h refl)

-- a state is read
pub state_at-printed : (s : PcmState) (r : List ℕ) → HasStateText s → state_at (state_name s ++ 32 ∷ r) ≡ Ok (s, 32 ∷ r)
state_at-printed state.Suspended r h = absurd h
state_at-printed other r h = state_word (state_name other) r refl

-- a row's line is read as the row
pub row_of_line-printed : (script : Script) (row : Row) → list_all in_line (front_text script (request_of_row row)) ≡ true → HasText row.answer → HasStateText row.state → IsRowInRange row
    → row_of_line script (request_of_row row) (row_line script row) ≡ Ok row
unfolding row_of_line row_after_front
row_of_line-printed script row whole answer state n =
    let a : List ℕ = answer_text row.answer in
    let s : List ℕ = state_name row.state in
    let m : List ℕ = number_or_dash row.seen in
    rw (
      row_parts (front_text script (request_of_row row)) a s m (10 ∷ []),
      expect_words-printed (front_text script (request_of_row row)) (a ++ 32 ∷ (s ++ 32 ∷ (m ++ 10 ∷ []))) whole,
      answer_at-printed row.answer (s ++ 32 ∷ (m ++ 10 ∷ [])) answer n.answer,
      state_at-printed row.state (m ++ 10 ∷ []) state,
      number_or_dash-printed row.seen 10 [] n.seen refl,
    ) refl
