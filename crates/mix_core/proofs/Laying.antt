-- What the caller of an add or of a withdrawal shows, at the core's fields, and what it then does.
use Rattle.mix_core.specs.Prelude.{ap, arith, get_or, inl, inr, length, List, negsuc, pos, refl, set, slice_index, subst, sym, ℕ, ℤ, ◌+ℤ◌, ◌+◌, ◌-ℤ◌, ◌<◌, ◌≡◌}
use Rattle.mix_core.specs.Prelude.{◌≤ℤ◌, ◌≤◌, cases_eq, cases_lt, nat_tests, ints, get_or-set_other, get_or-set_same, get_or_read, length-set, set_past, w16}
use Rattle.mix_core.specs.Prelude.{SFits, suc-le-end_frame, first_frame, first_free, IsFrom, lap, word_index, count_of, lap_of, StandsFor, sum_of, Marks, Entry}
use Rattle.mix_core.specs.Prelude.{Kind, Added, Withdrawn, IsLaidBy, marks_after, signed_sample, value_of, IsNotBefore, AreWithin, IsNow, IsSound, cursor_at}
use Rattle.mix_core.specs.Prelude.{marks_at, View, word_at}
use Rattle.mix_core.specs.PortLaws.{IsNotBefore-refl}
use Rattle.mix_core.proofs.Agreement.{laid_view}
use Rattle.mix_core.proofs.History.{RepresentsHistory-laid, untaken-now}
use Rattle.mix_core.proofs.Soundness.{AreWithin-added, HoldsMoreAt, holds-added}
use Rattle.mix_core.proofs.Words.{IsNow-of}

pub record CanLay (v : View) (e : Entry) : Type 0 where
  pub member : e.member < length v.marks
  pub now : IsNow v.geometry v.next e.frame e.channel
  pub ahead : e.frame < v.position + v.geometry.frames
  pub more : HoldsMoreAt v.geometry (marks_at v e.member) (marks_after v.geometry (marks_at v e.member) e) e.frame e.channel
  pub within : AreWithin v.geometry (marks_after v.geometry (marks_at v e.member) e)
  pub low : negsuc 32767 ≤ℤ value_of e
  pub high : value_of e ≤ℤ pos 32768

pub marks_within : (v : View) (m : ℕ) → IsSound v → m < length v.marks → AreWithin v.geometry (marks_at v m)
marks_within v m s inside = s.marks_within m _ inside

pub can_add : (v w : View) (e : Entry) → v ≡ w → IsSound v → SFits w16 e.sample → e.kind ≡ Added
    → e.member < length w.marks → e.channel < w.geometry.channels → IsFrom (cursor_at w e.member) e.frame e.channel
    → first_free w.next e.channel ≤ e.frame → e.frame < w.position + w.geometry.frames → lap w.geometry e.frame < 4294967295 → CanLay v e
can_add v w e same s sample kind member channel from untaken ahead fits = subst (λ x. IsSound x → CanLay x e) (sym same) (λ (t : IsSound w).
    let least : first_frame w.geometry ≤ e.frame = grind (arith, nat_tests, untaken, t.next_least) in
    let own : AreWithin w.geometry (marks_at w e.member) = marks_within w e.member t member in
    record {
      member = member;
      now = IsNow-of w e.frame e.channel t channel untaken ahead;
      ahead = ahead;
      more = rw kind (holds-added w.geometry (marks_at w e.member) e.frame e.channel own channel from);
      within = rw kind (AreWithin-added w.geometry (marks_at w e.member) e.frame e.channel own least (suc-le-end_frame w.geometry e.frame fits));
      low = rw kind (omega (arith, ints, sample));
      high = rw kind (omega (arith, ints, sample));
    }) s

pub can_withdraw : (v w : View) (e : Entry) → v ≡ w → IsSound v → SFits w16 e.sample → e.kind ≡ Withdrawn
    → e.member < length w.marks → e.channel < w.geometry.channels → IsFrom (marks_at w e.member).floor e.frame e.channel
    → e.frame < first_free (cursor_at w e.member) e.channel
    → first_free w.next e.channel ≤ e.frame → e.frame < w.position + w.geometry.frames → CanLay v e
can_withdraw v w e same s sample kind member channel from before untaken ahead = grind (arith, nat_tests)

-- a word whose count rose on its own lap is not before what it was, and no other word changed
word-later : (word old : ℕ) (sum : ℤ) → StandsFor word (lap_of old) (count_of old + 1) sum → IsNotBefore old word
word-later word old sum stands = grind (arith, ints, stands.layout, stands.low, stands.high)

no_word_falls : (ws : List ℕ) (k i word : ℕ) → IsNotBefore (slice_index ws k) word → IsNotBefore (slice_index ws i) (slice_index (set ws k word) i)
no_word_falls ws k i word later = elim (cases_eq i k) [
  | inl same ↦ elim (cases_lt k (length ws)) [
    | inl within ↦ subst (λ n. IsNotBefore (slice_index ws n) (slice_index (set ws k word) n)) (sym same) (rw (get_or-set_same ws k word 0 within) later)
    | inr past ↦ subst (λ n. IsNotBefore (slice_index ws n) (slice_index (set ws k word) n)) (sym same) (rw (set_past ws k word past) (IsNotBefore-refl (slice_index ws k)))
  ]
  | inr other ↦ rw (get_or-set_other ws k i word 0 other) (IsNotBefore-refl (slice_index ws i))
]

pub laid : (v : View) (e : Entry) (word : ℕ) → IsSound v → CanLay v e
    → StandsFor word (lap_of (word_at v e.frame e.channel)) (count_of (word_at v e.frame e.channel) + 1) (sum_of (word_at v e.frame e.channel) +ℤ value_of e)
    → IsLaidBy v (laid_view v e word) e
laid v e word s can stands = record {
  geometry = refl;
  words = λ i. no_word_falls v.words (word_index v.geometry e.frame e.channel) i word (word-later word (word_at v e.frame e.channel) _ stands);
  members = length-set v.marks e.member _;
  own = λ d. get_or-set_same v.marks e.member _ d can.member;
  others = λ m d other. get_or-set_other v.marks e.member m _ d other;
  next = refl;
  position = refl;
  gone = refl;
  untaken = λ h st. untaken-now v h e.frame e.channel s can.now st;
  stands = λ h st reply. RepresentsHistory-laid v h e word s can.member can.now can.ahead stands st reply;
}

-- what was read is the word there, and the member's marks
pub word_is : (v : View) (i w f c : ℕ) → w ≡ get_or v.words i w → i ≡ word_index v.geometry f c → i < length v.words → w ≡ word_at v f c
word_is v i w f c read index within = subst (λ k. w ≡ get_or v.words k 0) index (get_or_read v.words i w within read 0)

pub marks_is : (v : View) (m : ℕ) (x : Marks) → x ≡ get_or v.marks m x → m < length v.marks → x ≡ marks_at v m
marks_is v m x read within = get_or_read v.marks m x within read _

minus_is : (a b : ℤ) → a -ℤ b ≡ a +ℤ signed_sample Withdrawn b
minus_is a b = omega (arith, ints)

pub stands_by : (k : Kind) (e : Entry) (word l c : ℕ) (a : ℤ) → e.kind ≡ k → StandsFor word l c (a +ℤ signed_sample k e.sample) → StandsFor word l c (a +ℤ value_of e)
stands_by k e word l c a kind stands = subst (λ x. StandsFor word l c (a +ℤ signed_sample x e.sample)) (sym kind) stands

pub stands_back : (e : Entry) (word l c : ℕ) (a : ℤ) → e.kind ≡ Withdrawn → StandsFor word l c (a -ℤ e.sample) → StandsFor word l c (a +ℤ value_of e)
stands_back e word l c a kind stands = stands_by Withdrawn e word l c a kind (subst (StandsFor word l c) (minus_is a e.sample) stands)

pub value_by : (k : Kind) (e : Entry) → e.kind ≡ k → value_of e ≡ signed_sample k e.sample
value_by k e kind = ap (λ x. signed_sample x e.sample) kind
