-- Each event of a core appends its row to every history that the core represents.
use Rattle.mix_core.specs.Prelude.{ap, arith, Bool, false, length, List, pos, refl, subst, sym, ℕ, ℤ, [], ◌++◌, ◌+ℤ◌, ◌+◌, ◌<◌, ◌∙◌, ◌∷◌, ◌≡◌, ◌≢◌, ◌≤◌}
use Rattle.mix_core.specs.Prelude.{nat_tests, length-set, fold_push, Cursor, first_frame, lap, clamp_of, count_of, lap_of, StandsFor, sum_of, Publish, Take, In}
use Rattle.mix_core.specs.Prelude.{LapEnd, Published, Took, Taken, Entry, entry_of, entry_row, is_taken, IsReply, laid_of, position_after, position_of, Row}
use Rattle.mix_core.specs.Prelude.{taken_words, taking_of, total, value_of, IsLegal-more, filter_map-none, filter_map-some, IsNow, IsSound, Agrees}
use Rattle.mix_core.specs.Prelude.{RepresentsHistory, View, word_at}
use Rattle.mix_core.specs.HistoryLaws.{entry_of-row, position_after-row, taking_of-row}
use Rattle.mix_core.proofs.Agreement.{Agrees-laid, Agrees-published, Agrees-taken, laid_view, taken_view}

-- a publication
pub RepresentsHistory-published : (v : View) (h : List Row) → v.position ≤ v.next.frame → RepresentsHistory v h
    → RepresentsHistory (record v { position = v.next.frame }) (h ++ (Publish, Published v.next.frame) ∷ [])
RepresentsHistory-published v h up s =
    let r : Row = (Publish, Published v.next.frame) in
    let laid : laid_of (h ++ r ∷ []) ≡ laid_of h = filter_map-none entry_of h r refl in
    let taken : taken_words (h ++ r ∷ []) ≡ taken_words h = filter_map-none taking_of h r refl in
    let w : View = record v { position = v.next.frame } in
    let a : Agrees w (laid_of h) (taken_words h) = Agrees-published v (laid_of h) (taken_words h) v.next.frame up s.agrees in
    record {
      legal = IsLegal-more v.geometry (length v.marks) h r s.legal (ap (λ (x : Cursor). x.frame) s.agrees.next);
      position = sym (fold_push position_after (first_frame v.geometry) h r);
      agrees = subst (λ ts. Agrees w (laid_of (h ++ r ∷ [])) ts) (sym taken) (subst (λ es. Agrees w es (taken_words h)) (sym laid) a);
    }

-- the card is gone
pub RepresentsHistory-unplugged : (v : View) (h : List Row) (gone : Bool) → RepresentsHistory v h → RepresentsHistory (record v { gone = gone }) h
RepresentsHistory-unplugged v h gone s = grind (arith, nat_tests)

-- a take that was refused
pub RepresentsHistory-refused : (v : View) (h : List Row) → lap v.geometry v.next.frame ≡ 4294967295 → RepresentsHistory v h → RepresentsHistory v (h ++ (Take, LapEnd) ∷ [])
RepresentsHistory-refused v h last s =
    let r : Row = (Take, LapEnd) in
    let laid : laid_of (h ++ r ∷ []) ≡ laid_of h = filter_map-none entry_of h r refl in
    let taken : taken_words (h ++ r ∷ []) ≡ taken_words h = filter_map-none taking_of h r refl in
    record {
      legal = IsLegal-more v.geometry (length v.marks) h r s.legal (subst (λ (x : Cursor). lap v.geometry x.frame ≡ 4294967295) s.agrees.next last);
      position = s.position ∙ sym (fold_push position_after (first_frame v.geometry) h r);
      agrees = subst (λ ts. Agrees v (laid_of (h ++ r ∷ [])) ts) (sym taken) (subst (λ es. Agrees v es (taken_words h)) (sym laid) s.agrees);
    }

-- a take, of the value that the samples placed there have in total
pub RepresentsHistory-taken : (v : View) (h : List Row) (word : ℕ) (value : ℤ) → IsSound v → lap v.geometry v.next.frame ≢ 4294967295
    → StandsFor word (lap_of (word_at v v.next.frame v.next.channel) + 1) 0 (pos 0)
    → value ≡ clamp_of (total (laid_of h) v.next.frame v.next.channel)
    → RepresentsHistory v h → RepresentsHistory (taken_view v word) (h ++ (Take, Took v.next.frame v.next.channel value) ∷ [])
RepresentsHistory-taken v h word value sound more stands value_is s =
    let r : Row = (Take, Took v.next.frame v.next.channel value) in
    let t : Taken = record { frame = v.next.frame; channel = v.next.channel; value = value } in
    let laid : laid_of (h ++ r ∷ []) ≡ laid_of h = filter_map-none entry_of h r refl in
    let taken : taken_words (h ++ r ∷ []) ≡ taken_words h ++ t ∷ [] = filter_map-some taking_of h r t refl in
    let w : View = taken_view v word in
    let a : Agrees w (laid_of h) (taken_words h ++ t ∷ []) =
    subst (λ x. Agrees w (laid_of h) (taken_words h ++ record { frame = v.next.frame; channel = v.next.channel; value = x } ∷ [])) (sym value_is)
    (Agrees-taken v (laid_of h) (taken_words h) word sound stands s.agrees) in
    record {
      legal = IsLegal-more v.geometry (length v.marks) h r s.legal
          (subst (λ (x : Cursor). lap v.geometry x.frame ≢ 4294967295) s.agrees.next more, ap (λ (x : Cursor). x.frame) s.agrees.next, ap (λ (x : Cursor). x.channel) s.agrees.next, value_is);
      position = s.position ∙ sym (fold_push position_after (first_frame v.geometry) h r);
      agrees = subst (λ ts. Agrees w (laid_of (h ++ r ∷ [])) ts) (sym taken) (subst (λ es. Agrees w es (taken_words h ++ t ∷ [])) (sym laid) a);
    }

-- an add or a withdrawal that was in time
pub RepresentsHistory-laid : (v : View) (h : List Row) (e : Entry) (word : ℕ) → IsSound v
    → e.member < length v.marks → IsNow v.geometry v.next e.frame e.channel → e.frame < v.position + v.geometry.frames
    → StandsFor word (lap_of (word_at v e.frame e.channel)) (count_of (word_at v e.frame e.channel) + 1) (sum_of (word_at v e.frame e.channel) +ℤ value_of e)
    → RepresentsHistory v h → IsReply v.geometry (length v.marks) h (entry_row e) → RepresentsHistory (laid_view v e word) (h ++ entry_row e ∷ [])
RepresentsHistory-laid v h e word sound member now ahead stands s reply =
    let r : Row = entry_row e in
    let laid : laid_of (h ++ r ∷ []) ≡ laid_of h ++ e ∷ [] = filter_map-some entry_of h r e (entry_of-row e) in
    let taken : taken_words (h ++ r ∷ []) ≡ taken_words h = filter_map-none taking_of h r (taking_of-row e In) in
    let w : View = laid_view v e word in
    let a : Agrees w (laid_of h ++ e ∷ []) (taken_words h) = Agrees-laid v e (laid_of h) (taken_words h) word sound member now ahead stands s.agrees in
    let same_members : length w.marks ≡ length v.marks = length-set v.marks e.member _ in
    record {
      legal = rw same_members (IsLegal-more v.geometry (length v.marks) h r s.legal reply);
      position = s.position ∙ sym (fold_push position_after (first_frame v.geometry) h r ∙ position_after-row (position_of v.geometry h) e In);
      agrees = subst (λ ts. Agrees w (laid_of (h ++ r ∷ [])) ts) (sym taken) (subst (λ es. Agrees w es (taken_words h)) (sym laid) a);
    }

-- nothing was taken at a frame and channel that the ring has now
pub untaken-now : (v : View) (h : List Row) (f c : ℕ) → IsSound v → IsNow v.geometry v.next f c → RepresentsHistory v h → is_taken (taken_words h) f c ≡ false
untaken-now v h f c sound now s = grind (arith, nat_tests)
