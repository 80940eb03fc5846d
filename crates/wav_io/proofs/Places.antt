-- Places in a file, and the steps from one to the next.
use Rattle.wav_io.specs.Prelude.{ap, append-nil, append_assoc, arith, cond, drop, false, inl, inr, length, length-append, List, ltb, None, Option, refl, Some}
use Rattle.wav_io.specs.Prelude.{sym, take, true, ℕ, [], ◌%◌, ◌++◌, ◌+◌, ◌-◌, ◌<◌, ◌∙◌, ◌≡◌, ◌≢◌, ◌≤◌, drop-append-add, take-append-add, take-append_seam}
use Rattle.wav_io.specs.Prelude.{cases_lt, cond-false, le-ltb, lt-ltb, nat_tests, drop-append-le, drop-drop, drop_all, length-drop, length-take}
use Rattle.wav_io.specs.Prelude.{nil_from_length, take-append-le, take-take, take_all, w32, codes, IfSome, is_some, min, bytes_eq, WavError, FormatTwice}
use Rattle.wav_io.specs.Prelude.{Memory, NotRiff, NotWave, ShortFormat, Depths, Format, Place, DataBody, FormatBody, Head, Opening, Refused, chunks, number_at}
use Rattle.wav_io.specs.Prelude.{format_of, IsFormat, bytes_after, chunk_of_size, found_from, GoesOn, LeadsTo, body_found, Finding, finding_after, format_chunk}
use Rattle.wav_io.specs.Prelude.{format_cut, found_in, refused, scan_of, verdict_of, verdict_of_format}
use Rattle.std.proofs.lemmas.Slice.{take-put_mid}
use borrow.Rule.Slice.PartMut.{put_mid}
use Rattle.wav_io.proofs.Cutting.{scan_of-headed}

-- ---- places with no byte kept

pub leads_head : (depths : Depths) (format : Option Format) (skip : ℕ) (find : List ℕ → Finding)
    → ((more : List ℕ) → scan_of depths format (chunks (drop skip more)) ≡ find more) → IfSome format IsFormat → LeadsTo depths (Head format skip) find
unfolding found_from
leads_head depths format skip find same in_order = record { same = same; place = (omega arith, in_order); opened = λ kept n. tt }

pub leads_refused : (depths : Depths) (e : WavError) (find : List ℕ → Finding) → ((more : List ℕ) → refused e ≡ find more) → e ≢ Memory → LeadsTo depths (Refused e) find
unfolding found_from
leads_refused depths e find same other = record { same = same; place = other; opened = λ kept n. tt }

pub leads_data : (depths : Depths) (f : Format) (size : ℕ) (find : List ℕ → Finding) → ((more : List ℕ) → body_found f (take size more) ≡ find more) → IsFormat f → LeadsTo depths (DataBody f size) find
unfolding found_from
leads_data depths f size find same in_order = record { same = same; place = in_order; opened = λ kept n. tt }

-- the result of scanning a format chunk of which the head is known
abbrev format_found : Depths → ℕ → List ℕ → Finding
format_found depths size more =
    cond (ltb (length more) size) format_cut (finding_after (verdict_of_format (format_of depths (take 40 (take size more)))) (λ f. scan_of depths f (chunks (drop (size + size % 2) more))))

format_found-is : (depths : Depths) (name : List ℕ) (size : ℕ) (more : List ℕ) → 16 ≤ size
    → format_found depths size more ≡ finding_after (format_chunk depths None (chunk_of_size name size more)) (λ f. scan_of depths f (chunks (bytes_after size more)))
format_found-is depths name size more big = elim (cases_lt (length more) size) [
  | inl short ↦ rw (lt-ltb (length more) size short, le-ltb size 16 big, lt-ltb (length (take size more)) size (omega (arith, length-take size more))) refl
  | inr long ↦ rw (le-ltb (length more) size long, le-ltb size 16 big, le-ltb (length (take size more)) size (omega (arith, length-take size more))) refl
]

pub leads_twice : (depths : Depths) (format : Option Format) (name : List ℕ) (size : ℕ) → is_some format ≡ true
    → LeadsTo depths (Refused FormatTwice) (λ more. finding_after (format_chunk depths format (chunk_of_size name size more)) (λ f. scan_of depths f (chunks (bytes_after size more))))
leads_twice depths None name size is = absurd (cc)
leads_twice depths (Some f) name size is = leads_refused depths FormatTwice _ (λ more. refl) (λ e. cc)

pub leads_first_short : (depths : Depths) (format : Option Format) (name : List ℕ) (size : ℕ) → is_some format ≡ false → size < 16
    → LeadsTo depths (Refused ShortFormat) (λ more. finding_after (format_chunk depths format (chunk_of_size name size more)) (λ f. scan_of depths f (chunks (bytes_after size more))))
leads_first_short depths None name size is small = leads_refused depths ShortFormat _ (λ more. rw (lt-ltb size 16 small) refl) (λ e. cc)
leads_first_short depths (Some f) name size is small = absurd (cc)

pub leads_first : (depths : Depths) (format : Option Format) (name : List ℕ) (size : ℕ) → is_some format ≡ false → 16 ≤ size
    → LeadsTo depths (FormatBody size (size % 2)) (λ more. finding_after (format_chunk depths format (chunk_of_size name size more)) (λ f. scan_of depths f (chunks (bytes_after size more))))
unfolding found_from
leads_first depths None name size is big = record {
  same = λ more. format_found-is depths name size more big;
  place = (omega arith, omega arith, omega arith);
  opened = λ kept n. tt;
}
leads_first depths (Some f) name size is big = absurd (cc)

-- ---- a chunk whose head is known

-- where a head leads is where the verdict on its chunk does
pub leads_by : (depths : Depths) (format : Option Format) (head : List ℕ) (size : ℕ) (place : Place) → length head ≡ 8 → size ≡ number_at w32 4 head
    → LeadsTo depths place (λ more. finding_after (verdict_of depths format (chunk_of_size (take 4 head) size more)) (λ f. scan_of depths f (chunks (bytes_after size more))))
    → LeadsTo depths place (λ more. scan_of depths format (chunks (head ++ more)))
leads_by depths format head size place eight is leads =
    record { same = λ more. leads.same more ∙ rw is (sym (scan_of-headed depths format head more eight)); place = leads.place; opened = leads.opened }

-- ---- the first twelve bytes

pub found_in-front : (depths : Depths) (bytes more : List ℕ) → length bytes ≡ 12
    → found_in depths (bytes ++ more)
    ≡ cond (bytes_eq (take 4 bytes) (codes "RIFF")) (cond (bytes_eq (take 4 (drop 8 bytes)) (codes "WAVE")) (scan_of depths None (chunks more)) (refused NotWave)) (refused NotRiff)
unfolding found_in
found_in-front depths bytes more twelve =
    let wave : take 4 (drop 8 (bytes ++ more)) ≡ take 4 (drop 8 bytes) =
    ap (take 4) (drop-append-le 8 bytes more (omega arith)) ∙ take-append-le 4 (drop 8 bytes) more (omega (arith, length-drop 8 bytes)) in
    let chunks_are : drop 12 (bytes ++ more) ≡ more = drop-append-le 12 bytes more (omega arith) ∙ ap (λ (b : List ℕ). b ++ more) (drop_all 12 bytes (omega arith)) in
    rw (take-append-le 4 bytes more (omega arith), wave, chunks_are) refl

-- ---- steps

-- two cuts of the same bytes
pub regroup : (a b c d more : List ℕ) → a ++ b ≡ c ++ d → a ++ (b ++ more) ≡ c ++ (d ++ more)
regroup a b c d more same = sym (append_assoc a b more) ∙ ap (λ (front : List ℕ). front ++ more) same ∙ append_assoc c d more

pub goes_on-leads : (depths : Depths) (old : Place) (before bytes : List ℕ) (new : Place) (rest : List ℕ) (find : List ℕ → Finding) → LeadsTo depths new find
    → ((more : List ℕ) → find (rest ++ more) ≡ found_from depths old before (bytes ++ more)) → GoesOn depths old before bytes new [] rest
goes_on-leads depths old before bytes new rest find leads same = grind (arith, nat_tests)

pub opening-stays : (depths : Depths) (before bytes after rest : List ℕ) → after ++ rest ≡ before ++ bytes → length after < 12 → GoesOn depths Opening before bytes Opening after rest
unfolding found_from
opening-stays depths before bytes after rest same few = record {
  same = λ more. ap (found_in depths) (regroup after rest before bytes more same);
  place = few;
  seen = λ n was. was ∙ ap length (sym same);
}

pub opening-leads : (depths : Depths) (before bytes opening rest : List ℕ) (new : Place) → opening ++ rest ≡ before ++ bytes → LeadsTo depths new (λ more. found_in depths (opening ++ more)) → GoesOn depths Opening before bytes new [] rest
unfolding found_from
opening-leads depths before bytes opening rest new same leads =
    goes_on-leads depths Opening before bytes new rest _ leads (λ more. ap (found_in depths) (regroup opening rest before bytes more same))

pub head-stays : (depths : Depths) (format : Option Format) (before bytes after rest : List ℕ) → after ++ rest ≡ before ++ bytes → length after < 8 → IfSome format IsFormat → GoesOn depths (Head format 0) before bytes (Head format 0) after rest
unfolding found_from
head-stays depths format before bytes after rest same few in_order = record {
  same = λ more. ap (λ (b : List ℕ). scan_of depths format (chunks b)) (regroup after rest before bytes more same);
  place = (few, in_order);
  seen = λ n was. tt;
}

pub head-leads : (depths : Depths) (format : Option Format) (before bytes head rest : List ℕ) (new : Place) → head ++ rest ≡ before ++ bytes → LeadsTo depths new (λ more. scan_of depths format (chunks (head ++ more))) → GoesOn depths (Head format 0) before bytes new [] rest
unfolding found_from
head-leads depths format before bytes head rest new same leads =
    goes_on-leads depths (Head format 0) before bytes new rest _ leads (λ more. ap (λ (b : List ℕ). scan_of depths format (chunks b)) (regroup head rest before bytes more same))

-- what is skipped in two parts
skipped : (skip gone : ℕ) (bytes more : List ℕ) → gone ≤ skip → gone ≤ length bytes → drop (skip - gone) (drop gone bytes ++ more) ≡ drop skip (bytes ++ more)
skipped skip gone bytes more few inside =
    let sum : gone + (skip - gone) ≡ skip = omega arith in
    rw (← drop-append-le gone bytes more inside, drop-drop (skip - gone) gone (bytes ++ more), sum) refl

pub gap-stays : (depths : Depths) (format : Option Format) (skip gone : ℕ) (kept bytes : List ℕ) → gone ≤ skip → gone ≤ length bytes → (length kept < 8) × IfSome format IsFormat
    → GoesOn depths (Head format skip) kept bytes (Head format (skip - gone)) kept (drop gone bytes)
unfolding found_from
gap-stays depths format skip gone kept bytes few inside place = record {
  same = λ more. ap (λ (b : List ℕ). scan_of depths format (chunks (kept ++ b))) (skipped skip gone bytes more few inside);
  place = place;
  seen = λ n was. tt;
}

-- fewer bytes are left
pub fewer : (want : ℕ) (kept rest before bytes : List ℕ) → kept ++ rest ≡ before ++ bytes → length kept ≡ min want (length before + length bytes) → length before < want → 0 < length bytes → length rest < length bytes
fewer want kept rest before bytes same len room some =
    let all : length kept + length rest ≡ length before + length bytes = omega (arith, ap length same, length-append kept rest, length-append before bytes) in
    omega (arith, all, len)

-- bytes that were kept, and those that are kept after them
pub filled : (len count k : ℕ) (held front behind bytes now : List ℕ) → take len held ≡ now → len ≤ length held → length front ≡ count → front ++ behind ≡ bytes
    → take (len + count) (put_mid len k held front) ++ behind ≡ now ++ bytes
filled len count k held front behind bytes now view inside some all =
    ap (λ (b : List ℕ). b ++ behind) (take-put_mid len k held front (len + count) (omega arith) inside ∙ ap (λ (b : List ℕ). b ++ front) view)
    ∙ append_assoc now front behind ∙ ap (λ (b : List ℕ). now ++ b) all

-- bytes of which the first forty are kept
pub front_is : (want : ℕ) (kept rest before body : List ℕ) → kept ++ rest ≡ before ++ body → length kept ≡ min want (length before + length body) → kept ≡ take want (before ++ body)
front_is want kept rest before body same len =
    let all : length kept + length rest ≡ length before + length body = omega (arith, ap length same, length-append kept rest, length-append before body) in
    elim (cases_lt want (length kept + length rest)) [
      | inl more ↦
          let full : want ≡ length kept = omega (arith, all, len) in
          sym (ap (λ (n : ℕ). take n (kept ++ rest)) full ∙ take-append_seam kept rest) ∙ ap (take want) same
      | inr within ↦
          let none : length rest ≡ 0 = omega (arith, all, len) in
          sym (append-nil kept) ∙ ap (λ (b : List ℕ). kept ++ b) (sym (nil_from_length rest none)) ∙ same ∙ sym (take_all want (before ++ body) (omega (arith, all, length-append before body)))
    ]

-- the first bytes of a list that grows
take-take_front : (n : ℕ) (a b : List ℕ) → take n (take n a ++ b) ≡ take n (a ++ b)
take-take_front n a b =
    elim (cases_lt n (length a)) [
      | inl long ↦
          let few : length (take n a) ≡ n = omega (arith, length-take n a) in
          take-append-le n (take n a) b (omega arith) ∙ take-take n n a (omega arith) ∙ sym (take-append-le n a b (omega arith))
      | inr short ↦ ap (λ (front : List ℕ). take n (front ++ b)) (take_all n a short)
    ]

pub body-stays : (depths : Depths) (missing pad : ℕ) (before bytes after : List ℕ) → after ≡ take 40 (before ++ bytes) → length bytes < missing → (length before ≤ 40) × (16 ≤ length before + missing)
    → GoesOn depths (FormatBody missing pad) before bytes (FormatBody (missing - length bytes) pad) after []
unfolding found_from
body-stays depths missing pad before bytes after kept few place =
    record { same = same; place = (omega arith, omega (arith, ap length kept, length-take 40 (before ++ bytes)), omega (arith, ap length kept, length-take 40 (before ++ bytes), length-append before bytes)); seen = λ n was. tt }
  where
    whole : missing ≡ length bytes + (missing - length bytes)
    whole = omega arith

    body : (more : List ℕ) → take 40 (after ++ take (missing - length bytes) more) ≡ take 40 (before ++ take missing (bytes ++ more))
    body more =
        rw (kept, take-take_front 40 (before ++ bytes) (take (missing - length bytes) more), append_assoc before bytes (take (missing - length bytes) more))
        (rw (← take-append-add bytes more (missing - length bytes), ← whole) refl)

    later : (more : List ℕ) → drop ((missing - length bytes) + pad) more ≡ drop (missing + pad) (bytes ++ more)
    later more =
        sym (ap (λ (n : ℕ). drop n (bytes ++ more)) (omega arith) ∙ drop-append-add bytes more ((missing - length bytes) + pad))

    same : (more : List ℕ) → found_from depths (FormatBody (missing - length bytes) pad) after more ≡ found_from depths (FormatBody missing pad) before (bytes ++ more)
    same more = elim (cases_lt (length more) (missing - length bytes)) [
      | inl short ↦ rw (lt-ltb (length more) (missing - length bytes) short, lt-ltb (length (bytes ++ more)) missing (omega (arith, length-append bytes more))) refl
      | inr long ↦ rw (le-ltb (length more) (missing - length bytes) long, le-ltb (length (bytes ++ more)) missing (omega (arith, length-append bytes more)), body more, later more) refl
    ]

pub body-leads : (depths : Depths) (missing pad : ℕ) (before bytes body : List ℕ) (new : Place) → body ≡ take 40 (before ++ take missing bytes) → missing ≤ length bytes
    → LeadsTo depths new (λ more. finding_after (verdict_of_format (format_of depths body)) (λ f. scan_of depths f (chunks (drop pad more))))
    → GoesOn depths (FormatBody missing pad) before bytes new [] (drop missing bytes)
unfolding found_from
body-leads depths missing pad before bytes body new kept whole leads =
    goes_on-leads depths (FormatBody missing pad) before bytes new (drop missing bytes) _ leads same
  where
    later : (more : List ℕ) → drop pad (drop missing bytes ++ more) ≡ drop (missing + pad) (bytes ++ more)
    later more = ap (drop pad) (sym (drop-append-le missing bytes more whole)) ∙ drop-drop pad missing (bytes ++ more)

    same : (more : List ℕ) → finding_after (verdict_of_format (format_of depths body)) (λ f. scan_of depths f (chunks (drop pad (drop missing bytes ++ more)))) ≡ found_from depths (FormatBody missing pad) before (bytes ++ more)
    same more =
        ap (λ (b : List ℕ). finding_after (verdict_of_format (format_of depths b)) (λ f. scan_of depths f (chunks (drop pad (drop missing bytes ++ more))))) (kept ∙ ap (λ (b : List ℕ). take 40 (before ++ b)) (sym (take-append-le missing bytes more whole)))
        ∙ ap (λ (b : List ℕ). finding_after (verdict_of_format (format_of depths (take 40 (before ++ take missing (bytes ++ more))))) (λ f. scan_of depths f (chunks b))) (later more)
        ∙ sym (cond-false (ltb (length (bytes ++ more)) missing) format_cut _ (le-ltb _ _ (omega (arith, length-append bytes more))))
