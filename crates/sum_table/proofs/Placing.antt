-- A placement or withdrawal, which is several steps: how it goes on, and what it is at its end.
use Rattle.sum_table.specs.Prelude.{ap, append_assoc, arith, Bool, Err, inl, inr, length, List, map, nat_lt, Ok, refl, Result, Some, subst, suc, sym, zero, ℕ}
use Rattle.sum_table.specs.Prelude.{ℤ, [], ◌*◌, ◌++◌, ◌+◌, ◌-◌, ◌<◌, ◌^◌, ◌∙◌, ◌∷◌, ◌≡◌, ◌≢◌, ◌≤◌, cases_lt, false≢true, nat_tests, append-nil, length-append}
use Rattle.sum_table.specs.Prelude.{map-append, Geometry, first_frame, IsFrom, lap, count_of, lap_of, StandsFor-of, sum_of, Go, Stop, Again, Exchange, Look}
use Rattle.sum_table.specs.Prelude.{Marks, Entry, Kind, Added, Withdrawn, Position, AsksCompose, placement_asks, IsLegal, IsReply, late_row, Row, marks_after}
use Rattle.sum_table.specs.Prelude.{load_of, Loads, PortView, index_of, rank, MixSeat, View, BeginsWith, by_member, entry_by, HasLaid, HasLocated, HasLost}
use Rattle.sum_table.specs.Prelude.{HasNoted, IsLaterSeat, IsLaterSeat-joined, IsLaterSeat-same, IsTurned, LaysCounted, MakesIn, MakesLate, MayLay, noted_word}
use Rattle.sum_table.specs.Prelude.{pass_count, seat_view, SeatLaid, SeatLaid-composes, SeatLays, SeatLoaded, SeatLoaded-composes, view_of, HoldsLast, in_row}
use Rattle.sum_table.specs.Prelude.{IsStep, Makes, MayStand, sighting}
use Rattle.std.proofs.Common.{replicate}
use Rattle.std.specs.Result.{IsErr}
use Rattle.snd_base.specs.declared.errors.PcmError.{PcmError}
use Rattle.mix_core.specs.declared.gate.Pass.{Pass}
use Rattle.mix_core.specs.declared.gate.StepKind.{StepKind}
use Rattle.mix_core.specs.declared.port.Ended.{Ended}
use Rattle.mix_core.specs.declared.port.Ended.TheVariants.{Whole, Late, Stopped}
use Rattle.sum_table.specs.declared.view.Key.{Key}
use Rattle.sum_table.proofs.Rows.{BeginsWith-same}
use Rattle.sum_table.proofs.Seated.{holds_facts, holds_of, lay_facts}
use Rattle.sum_table.proofs.Views.{rank-of}
use Rattle.mix_core.specs.declared.gate.StepKind.TheVariants as kind

-- a step, and those before it
step_since : (u v w : View) (by members : ℕ) (between rows : List Row) → v.key ≡ u.key → (begins : BeginsWith v.history u.history)
    → IsStep v w by members between rows → IsStep u w by members (begins.0 ++ between) rows
step_since u v w by members between rows same begins is = record {
  history = is.history ∙ ap (λ x. x ++ rows) (ap (λ x. x ++ between) begins.1 ∙ append_assoc u.history begins.0 between);
  legal = subst (λ (k : Key). IsLegal k.geometry members w.history) same is.legal;
  in_range = is.in_range;
  own_adds = is.own_adds;
}

same_view_key : (s t : MixSeat) → IsLaterSeat s t → (view_of t).key ≡ (view_of s).key
same_view_key s t goes = t.known.same_key ∙ (goes.key ∙ sym s.known.same_key)

-- an entry was placed at last
pub in_made : (s t u : MixSeat) (e : Entry) → IsLaterSeat s t → HasLaid t u e → MakesIn s u e
in_made s t u e goes laid =
    let made : Makes (view_of t) (view_of u) (λ by. in_row by e ∷ []) = laid.event in
    (made.0, made.1, goes.history.0 ++ made.2, step_since (view_of s) (view_of t) (view_of u) made.0 made.1 made.2 (in_row made.0 e ∷ []) (same_view_key s t goes) goes.history made.3)

-- a seat may add at a frame and channel, or withdraw
pub record IsAt (s : MixSeat) (f c : ℕ) : Type 0 where
  pub channel : c < s.key.geometry.channels
  pub least : first_frame s.key.geometry ≤ f
  pub ahead : f < s.seen + s.key.geometry.frames
  pub may : MayStand (view_of s) f c

pub at_lay : (s : MixSeat) (k : Kind) (f c : ℕ) (x : ℤ) → MayLay k s f c x → IsAt s f c
at_lay s Added f c x lay =
    let facts = lay_facts s Added f c x lay in
    record {
      channel = facts.channel;
      least = facts.low;
      ahead = lay.3;
      may = inl (omega (arith, lay.0, s.known.same_places), subst (λ (m : Marks). IsFrom m.cursor f c) (sym s.known.same_marks) lay.2);
    }
at_lay s Withdrawn f c x lay =
    let holds : HoldsLast (view_of s) f c x = holds_of s f c x lay.0 lay.1 in
    let facts = holds_facts s f c x holds in
    record { channel = facts.channel; least = facts.low; ahead = omega (arith, facts.ahead, s.known.same_seen); may = inr (x, holds) }

-- what a word that was found says, at the seat's fields
pub record TellsSeat (s : MixSeat) (n f c : ℕ) : Type 0 where
  pub not_before : lap s.key.geometry f ≤ lap_of n
  pub late : f < s.seen → lap s.key.geometry f < lap_of n
  pub room : lap_of n ≡ lap s.key.geometry f → count_of n < 3 * s.key.places

-- a word that was found at last says that the entry was late
late_step : (s t u : MixSeat) (n : ℕ) (e : Entry) → IsLaterSeat s t → (noted : HasNoted t u e.frame e.channel n)
    → IsReply (view_of t).key.geometry noted.event.1 (view_of u).history (late_row (by_member noted.event.0 e)) → MakesLate s u e
late_step s t u n e goes noted reply =
    let look = noted.event in (
      look.0,
      look.1,
      goes.history.0 ++ look.2,
      step_since (view_of s) (view_of t) (view_of u) look.0 look.1 look.2 [] (same_view_key s t goes) goes.history look.3,
      subst (λ (k : Key). IsReply k.geometry look.1 (view_of u).history (late_row (by_member look.0 e))) (t.known.same_key ∙ goes.key) reply,
    )

tells_seat : (s u : MixSeat) (f c n : ℕ) → HasNoted s u f c n → IsAt s f c → TellsSeat s n f c
tells_seat s u f c n noted at_it = grind (arith, nat_tests)

-- a seat's last standing add, after steps that placed nothing
holds_on : (s t : MixSeat) (f c : ℕ) (sample : ℤ) → (view_of t).laid ≡ (view_of s).laid → t.reach.marks ≡ s.reach.marks → HoldsLast (view_of s) f c sample → HoldsLast (view_of t) f c sample
holds_on s t f c sample laid marks holds = grind (arith, nat_tests)

pub at_on : (s t : MixSeat) (f c : ℕ) → IsLaterSeat s t → (view_of t).laid ≡ (view_of s).laid → t.reach.marks ≡ s.reach.marks → t.seen ≡ s.seen → IsAt s f c → IsAt t f c
at_on s t f c goes laid marks seen at_it = grind (arith, nat_tests)

-- the rank of a word of 64 bits
rank-fields : (w : ℕ) → w < 2 ^ 64 → rank w ≡ lap_of w * 256 + count_of w
rank-fields w fits = rank-of w (lap_of w) (count_of w) (sum_of w) (StandsFor-of w fits)

-- a seat only found some words at a frame and channel: it placed nothing, and loaded no position
pub record HasFound (s t : MixSeat) (f c : ℕ) (words : List ℕ) : Type 0 where
  pub goes : IsLaterSeat s t
  pub laid : (view_of t).laid ≡ (view_of s).laid
  pub mine : (view_of t).mine ≡ (view_of s).mine
  pub positions : (view_of t).positions ≡ (view_of s).positions
  pub seen_gone : (view_of t).seen_gone ≡ (view_of s).seen_gone
  pub sightings : (view_of t).sightings ≡ (view_of s).sightings ++ map (sighting (index_of s.key.geometry f c)) words
  pub marks : t.reach.marks ≡ s.reach.marks
  pub seen : t.seen ≡ s.seen

pub found_none : (s : MixSeat) (f c : ℕ) → HasFound s s f c []
found_none s f c = record {
  goes = IsLaterSeat-same s;
  laid = refl;
  mine = refl;
  positions = refl;
  seen_gone = refl;
  sightings = sym (append-nil (view_of s).sightings);
  marks = refl;
  seen = refl;
}

pub found_more : (s t u : MixSeat) (f c n : ℕ) (words : List ℕ) → HasFound s t f c words → HasNoted t u f c n → HasFound s u f c (words ++ n ∷ [])
found_more s t u f c n words is noted =
    let i : ℕ = index_of s.key.geometry f c in
    let same : index_of t.key.geometry f c ≡ i = ap (λ (k : Key). index_of k.geometry f c) is.goes.key in
    record {
      goes = IsLaterSeat-joined s t u is.goes noted.goes;
      laid = ap (λ (x : View). x.laid) noted.view ∙ is.laid;
      mine = ap (λ (x : View). x.mine) noted.view ∙ is.mine;
      positions = ap (λ (x : View). x.positions) noted.view ∙ is.positions;
      seen_gone = ap (λ (x : View). x.seen_gone) noted.view ∙ is.seen_gone;
      sightings = ap (λ (x : View). x.sightings) noted.view
          ∙ (ap (λ j. (view_of t).sightings ++ sighting j n ∷ []) same
          ∙ (ap (λ xs. xs ++ sighting i n ∷ []) is.sightings
          ∙ (append_assoc (view_of s).sightings (map (sighting i) words) (sighting i n ∷ [])
          ∙ ap (λ xs. (view_of s).sightings ++ xs) (sym (map-append (sighting i) words (n ∷ []))))));
      marks = noted.marks ∙ is.marks;
      seen = noted.seen ∙ is.seen;
    }

-- a word of a later lap was found at last
pub late_made_by : (s t u : MixSeat) (k : Kind) (f c n : ℕ) (x : ℤ) (words : List ℕ) → HasFound s t f c words → HasNoted t u f c n → MayLay k s f c x
    → lap s.key.geometry f < lap_of n → MakesLate s u (entry_by s k f c x)
late_made_by s t u Added f c n x words is noted lay past =
    let own : (view_of t).key ≡ s.key = t.known.same_key ∙ is.goes.key in
    late_step s t u n (entry_by s Added f c x) is.goes noted (noted.event.4 f c x (record {
      index = ap (λ (k : Key). index_of k.geometry f c) t.known.same_key;
      channel = rw own lay.1;
      from_cursor = rw (t.known.same_marks, is.marks) lay.2;
      ahead = omega (arith, lay.3, t.known.same_seen, is.seen, ap (λ (k : Key). k.geometry.frames) own);
      past = rw own past;
    }))
late_made_by s t u Withdrawn f c n x words is noted lay past =
    late_step s t u n (entry_by s Withdrawn f c x) is.goes noted (noted.event.5 f c x (record {
      index = ap (λ (k : Key). index_of k.geometry f c) t.known.same_key;
      holds = holds_on s t f c x is.laid is.marks (holds_of s f c x lay.0 lay.1);
      past = rw (t.known.same_key, is.goes.key) past;
    }))

-- the exchanges go on: the seat found some words, the last of them at the frame's own lap, after i exchanges that were lost
pub record IsTrying (s t : MixSeat) (f c word i before ticks : ℕ) : Type 0 where
  pub words : List ℕ
  pub found : HasFound s t f c words
  pub number : length words ≡ i + 1
  pub noted : noted_word t f c ≡ Some word
  pub of_lap : lap_of word ≡ lap s.key.geometry f
  pub not_before : s.seen ≤ f
  pub counted : i ≤ count_of word
  pub room : count_of word < 3 * s.key.places
  pub ticked : ticks ≡ before + 1 + i

-- they begin where the first word that was found has the frame's lap
pub first_trying : (s u : MixSeat) (f c n before after : ℕ) → HasNoted s u f c n → IsAt s f c → lap_of n ≡ lap s.key.geometry f → after ≡ before + 1 → IsTrying s u f c n 0 before after
first_trying s u f c n before after noted at_it same ticked =
    let told : TellsSeat s n f c = tells_seat s u f c n noted at_it in
    record {
      words = n ∷ [];
      found = found_more s s u f c n [] (found_none s f c) noted;
      number = refl;
      noted = noted.shows;
      of_lap = same;
      not_before = elim (cases_lt f s.seen) [ inl before_seen ↦ absurd (omega (arith, told.late before_seen, same)) | inr from ↦ from ];
      counted = omega arith;
      room = told.room same;
      ticked = omega (arith, ticked);
    }

more_words : (words : List ℕ) (n i : ℕ) → length words ≡ i → length (words ++ n ∷ []) ≡ i + 1
more_words words n i number = omega (arith, length-append words (n ∷ []), number)

-- after an exchange that was lost at the frame's own lap they go on
pub trying_on : (s t u : MixSeat) (f c word found i before ticks after : ℕ) → IsTrying s t f c word i before ticks → HasLost t u f c word found
    → IsAt s f c → lap_of found ≡ lap s.key.geometry f → after ≡ ticks + 1
    → IsTrying s u f c found (i + 1) before after
trying_on s t u f c word found i before ticks after is lost at_it same ticked =
    let noted : HasNoted t u f c found = lost.noted in
    let at_t : IsAt t f c = at_on s t f c is.found.goes is.found.laid is.found.marks is.found.seen at_it in
    let told : TellsSeat t found f c = tells_seat t u f c found noted at_t in
    let room : count_of found < 3 * t.key.places = told.room (subst (λ (k : Key). lap_of found ≡ lap k.geometry f) (sym is.found.goes.key) same) in
    let places : t.key.places ≡ s.key.places = ap (λ (k : Key). k.places) is.found.goes.key in
    let old_fits : word < 2 ^ 64 = (t.known.noted.words (index_of t.key.geometry f c) word is.noted).fits in
    let up : count_of word < count_of found = omega (arith, lost.past, rank-fields word old_fits, rank-fields found noted.found.word.fits, is.of_lap, same) in
    record {
      words = is.words ++ found ∷ [];
      found = found_more s t u f c found is.words is.found noted;
      number = more_words is.words found (i + 1) is.number;
      noted = noted.shows;
      of_lap = same;
      not_before = is.not_before;
      counted = omega (arith, is.counted, up);
      room = omega (arith, room, places);
      ticked = omega (arith, is.ticked, ticked);
    }

-- a word of another lap is past the frame's, while they go on
pub past_on : (s t u : MixSeat) (f c n : ℕ) (words : List ℕ) → HasFound s t f c words → HasNoted t u f c n
    → IsAt s f c → lap_of n ≢ lap s.key.geometry f → lap s.key.geometry f < lap_of n
past_on s t u f c n words is noted at_it other = grind (arith, nat_tests)

-- a seat that only found words placed nothing, and loaded nothing
nothing_laid : (s t : MixSeat) (f c : ℕ) (words : List ℕ) → HasFound s t f c words → SeatLaid s t []
nothing_laid s t f c words is =
    let laid : (view_of t).laid ≡ (view_of s).laid ++ [] = is.laid ∙ sym (append-nil (view_of s).laid) in
    let mine : (view_of t).mine ≡ (view_of s).mine ++ [] = is.mine ∙ sym (append-nil (view_of s).mine) in
    assumption

loads_nothing : (s t : MixSeat) → (view_of t).positions ≡ (view_of s).positions → (view_of t).seen_gone ≡ (view_of s).seen_gone → t.seen ≡ s.seen → SeatLoaded s t []
loads_nothing s t positions gone seen =
    let none : SeatLoaded s s [] = SeatLoaded-composes.none s in
    assumption (positions ∙ none.positions, seen ∙ none.last, gone ∙ none.gone)

-- or it placed one entry
one_laid : (s t u : MixSeat) (f c : ℕ) (words : List ℕ) (e : Entry) → HasFound s t f c words → HasLaid t u e → SeatLaid s u (e ∷ [])
one_laid s t u f c words e is laid =
    let mine : (view_of u).mine ≡ (view_of s).mine ++ e ∷ [] = ap (λ (x : View). x.mine) laid.view ∙ ap (λ es. es ++ e ∷ []) is.mine in
    let made : MakesIn s u e = in_made s t u e is.goes laid in
    let step : IsStep (view_of s) (view_of u) made.0 made.1 made.2 (in_row made.0 e ∷ []) = made.3 in
    record {
      goes = IsLaterSeat-joined s t u is.goes laid.goes;
      marks = laid.marks ∙ (ap (λ (k : Key). marks_after k.geometry t.reach.marks e) is.goes.key ∙ ap (λ m. marks_after s.key.geometry m e) is.marks);
      laid = ap (λ (x : View). x.laid) laid.view ∙ ap (λ es. es ++ e ∷ []) is.laid;
      mine = mine;
      adds = (
        made.0,
        made.1,
        made.2,
        (view_of u).history,
        step.history,
        subst (λ (k : Key). IsLegal k.geometry made.1 (view_of u).history) s.known.same_key step.legal,
        step.own_adds ∙ ap (map (by_member made.0)) mine,
        BeginsWith-same (view_of u).history,
      );
    }

abbrev pub port_view : Geometry → ℕ → Bool → Marks → ℕ → PortView
port_view g m can marks seen = record { geometry = g; member = m; can_add = can; marks = marks; seen = seen }

pub view_same : (g k : Geometry) (m n : ℕ) (can may : Bool) (a b : Marks) (p q : ℕ) → g ≡ k → m ≡ n → can ≡ may → a ≡ b → p ≡ q → port_view g m can a p ≡ port_view k n may b q
view_same g k m n can may a b p q e1 e2 e3 e4 e5 = cc

seat_view_is : (s t : MixSeat) (m : Marks) → IsLaterSeat s t → t.reach.marks ≡ m → t.seen ≡ s.seen → seat_view t ≡ record (seat_view s) { marks = m }
seat_view_is s t m goes marks seen =
    view_same _ _ _ _ _ _ _ _ _ _ (ap (λ (k : Key). k.geometry) goes.key) goes.member (ap (λ n. nat_lt 0 n) goes.places) marks seen

-- what a step is that the gate stopped
pub stopped_lays : {T : Type 0} {stops : T → ℕ} {asked : T → T → List StepKind → Pass → Type 0} {s t : MixSeat} {g h : T} {e : Entry} {words : List ℕ} {before after : ℕ} (n : ℕ)
    → HasFound s t e.frame e.channel words → length words ≡ n - 1 → 1 ≤ n → (e.frame < s.seen → n ≡ 1) → asked g h (placement_asks n) Stop → stops h ≡ stops g + 1
    → after ≡ before + (n - 1) → n - 1 ≤ 1 + 3 * s.key.places
    → LaysCounted stops asked s g before e Stopped t h after
stopped_lays {s = s} {t = t} {e = e} {words = words} n is number some early asks up counted bound = record {
  step = record {
    view_is = seat_view_is s t s.reach.marks is.goes is.marks is.seen;
    laid_it = nothing_laid s t e.frame e.channel words is;
    loaded_nothing = loads_nothing s t is.positions is.seen_gone is.seen;
    not_before_seen = tt;
    shown = tt;
    words = words;
    found = record { sightings = is.sightings; in_event = tt; late_event = tt };
    found_last = tt;
    asks = n;
    asks_number = (some, early);
    words_number = number;
    asked_them = asks;
    stopped = up;
  };
  counted = counted;
  bound = bound;
}

-- one that was late
pub late_lays : {T : Type 0} {stops : T → ℕ} {asked : T → T → List StepKind → Pass → Type 0} {s t u : MixSeat} {g h : T} {k : Kind} {f c : ℕ} {x : ℤ}
    {words : List ℕ} {word before after : ℕ} (n : ℕ)
    → HasFound s t f c words → HasNoted t u f c word → MayLay k s f c x → lap_of word ≢ lap s.key.geometry f
    → length words + 1 ≡ n → (f < s.seen → n ≡ 1) → asked g h (placement_asks n) Go → stops h ≡ stops g
    → after ≡ before + n → n ≤ 1 + 3 * s.key.places
    → LaysCounted stops asked s g before (entry_by s k f c x) (Late word) u h after
late_lays {s = s} {t = t} {u = u} {k = k} {f = f} {c = c} {x = x} {words = words} {word = word} n is noted lay other number early asks same counted bound =
    let at_it : IsAt s f c = at_lay s k f c x lay in
    let past : lap s.key.geometry f < lap_of word = past_on s t u f c word words is noted at_it other in
    let all : HasFound s u f c (words ++ word ∷ []) = found_more s t u f c word words is noted in
    record {
      step = record {
        view_is = seat_view_is s u s.reach.marks all.goes all.marks all.seen;
        laid_it = nothing_laid s u f c (words ++ word ∷ []) all;
        loaded_nothing = loads_nothing s u all.positions all.seen_gone all.seen;
        not_before_seen = tt;
        shown = record {
          channel = rw all.goes.key at_it.channel;
          shown = noted.shows;
          past = rw all.goes.key past;
        };
        words = words ++ word ∷ [];
        found = record { sightings = all.sightings; in_event = tt; late_event = late_made_by s t u k f c word x words is noted lay past };
        found_last = (words, refl);
        asks = n;
        asks_number = (omega (arith, number), early);
        words_number = more_words words word (n - 1) (omega (arith, number)) ∙ omega (arith, number);
        asked_them = asks;
        stopped = same;
      };
      counted = counted;
      bound = bound;
    }

-- and one that was done
pub whole_lays : {T : Type 0} {stops : T → ℕ} {asked : T → T → List StepKind → Pass → Type 0} {s t u : MixSeat} {g h : T} {e : Entry} {words : List ℕ} {before after : ℕ} (n : ℕ)
    → HasFound s t e.frame e.channel words → HasLaid t u e → s.seen ≤ e.frame
    → length words + 1 ≡ n → 2 ≤ n → asked g h (placement_asks n) Go → stops h ≡ stops g
    → after ≡ before + n → n ≤ 1 + 3 * s.key.places
    → LaysCounted stops asked s g before e Whole u h after
whole_lays {s = s} {t = t} {u = u} {e = e} {words = words} n is laid not_before number two asks same counted bound =
    let one : SeatLaid s u (e ∷ []) = one_laid s t u e.frame e.channel words e is laid in
    record {
      step = record {
        view_is = seat_view_is s u (marks_after s.key.geometry s.reach.marks e) one.goes one.marks (laid.seen ∙ is.seen);
        laid_it = one;
        loaded_nothing = loads_nothing s u (ap (λ (x : View). x.positions) laid.view ∙ is.positions) (ap (λ (x : View). x.seen_gone) laid.view ∙ is.seen_gone) (laid.seen ∙ is.seen);
        not_before_seen = not_before;
        shown = tt;
        words = words;
        found = record { sightings = ap (λ (x : View). x.sightings) laid.view ∙ is.sightings; in_event = in_made s t u e is.goes laid; late_event = tt };
        found_last = tt;
        asks = n;
        asks_number = two;
        words_number = omega (arith, number);
        asked_them = asks;
        stopped = same;
      };
      counted = counted;
      bound = bound;
    }

-- the asks of a further exchange
pub placing_more : (i : ℕ) → placement_asks (suc (suc i)) ++ Again ∷ [] ≡ placement_asks (suc (suc (suc i)))
placing_more i = ap (λ ks. Look ∷ Exchange ∷ ks) (more i) where
  more : (i : ℕ) → replicate i Again ++ Again ∷ [] ≡ replicate (suc i) Again
  more zero = refl
  more (suc i) = ap (λ ks. Again ∷ ks) (more i)

pub asked_again : {T : Type 0} (asked : T → T → List StepKind → Pass → Type 0) → AsksCompose asked → (g h k : T) (i : ℕ) (last : Pass)
    → asked g h (placement_asks (suc (suc i))) Go → asked h k (Again ∷ []) last → asked g k (placement_asks (suc (suc (suc i)))) last
asked_again asked composes g h k i last first then =
    subst (λ ks. asked g k ks last) (placing_more i) (composes.joined g h k (placement_asks (suc (suc i))) (Again ∷ []) last first then)

-- the member of the entry, and its sample, are those of the seat that began
pub laid_as : (s t u : MixSeat) (k : Kind) (f c : ℕ) (z x : ℤ) → t.member ≡ s.member → z ≡ x → HasLaid t u (entry_by t k f c z) → HasLaid t u (entry_by s k f c x)
laid_as s t u k f c z x member same laid =
    subst (λ y. HasLaid t u (entry_by s k f c y)) same (subst (λ m. HasLaid t u (record { member = m; frame = f; channel = c; sample = z; kind = k })) member laid)

-- ---- a load of the position, as a step of the seat and its gate

one_loaded : (s t : MixSeat) (p : Position) → HasLocated s t p → SeatLoaded s t (p ∷ [])
one_loaded s t p is = grind (arith, nat_tests)

pub loads_one : {T : Type 0} (stops : T → ℕ) (asked : T → T → List StepKind → Pass → Type 0) (s t : MixSeat) (g h : T) (p : Position)
    → HasLocated s t p → asked g h (kind.Position ∷ []) Go → stops h ≡ stops g → Loads seat_view SeatLaid SeatLoaded stops asked s g (Some p) t h
loads_one stops asked s t g h p is asks same = record {
  view_is = view_same _ _ _ _ _ _ _ _ _ _ (ap (λ (k : Key). k.geometry) is.goes.key) is.goes.member (ap (λ n. nat_lt 0 n) is.goes.places) is.marks is.seen;
  newer = is.not_before;
  within = is.within;
  loaded_it = one_loaded s t p is;
  laid_nothing = record {
    goes = is.goes;
    marks = is.marks;
    laid = ap (λ (v : View). v.laid) is.view ∙ sym (append-nil (view_of s).laid);
    mine = ap (λ (v : View). v.mine) is.view ∙ sym (append-nil (view_of s).mine);
    adds = is.goes.history;
  };
  asked_it = asks;
  stopped = same;
}

-- where the gate stopped it, nothing was loaded
pub loads_none : {T : Type 0} (stops : T → ℕ) (asked : T → T → List StepKind → Pass → Type 0) (s : MixSeat) (g h : T) (r : Result Position PcmError)
    → IsErr r → asked g h (kind.Position ∷ []) Stop → stops h ≡ stops g + 1 → Loads seat_view SeatLaid SeatLoaded stops asked s g (load_of r) s h
loads_none stops asked s g h (Ok p) is asks up = absurd (false≢true is)
loads_none stops asked s g h (Err e) is asks up = record {
  view_is = refl;
  newer = tt;
  within = tt;
  loaded_it = SeatLoaded-composes.none s;
  laid_nothing = SeatLaid-composes.none s;
  asked_it = asks;
  stopped = up;
}

-- ---- a seat that went to the lap of a frame, and then placed an entry there: this is what it placed from the first

-- it may withdraw what it could before
pub turned_may : (s p : MixSeat) (f c : ℕ) (x : ℤ) → IsTurned s p f → MayLay Withdrawn s f c x → MayLay Withdrawn p f c x
turned_may s p f c x is may = grind (arith, nat_tests)

turned_lays : {T : Type 0} (stops : T → ℕ) (asked : T → T → List StepKind → Pass → Type 0) (s p t : MixSeat) (f : ℕ) (g h : T) (e : Entry) (ended : Ended)
    → IsTurned s p f → SeatLays stops asked p g e ended t h → SeatLays stops asked s g e ended t h
turned_lays stops asked s p t f g h e ended is lays = grind (arith, nat_tests)

-- the entry is of the seat's member before and after
pub turned_counted : {T : Type 0} (stops : T → ℕ) (asked : T → T → List StepKind → Pass → Type 0) (s p t : MixSeat) (f : ℕ) (g h : T) (k : Kind) (c : ℕ) (x : ℤ) (ended : Ended) (before after : ℕ)
    → IsTurned s p f → LaysCounted stops asked p g before (entry_by p k f c x) ended t h after → LaysCounted stops asked s g before (entry_by s k f c x) ended t h after
unfolding turned_lays
turned_counted stops asked s p t f g h k c x ended before after is lays =
    let same : LaysCounted stops asked p g before (entry_by s k f c x) ended t h after =
    subst (λ m. LaysCounted stops asked p g before (record { member = m; frame = f; channel = c; sample = x; kind = k }) ended t h after) is.member lays in
    record {
      step = turned_lays stops asked s p t f g h (entry_by s k f c x) ended is same.step;
      counted = same.counted;
      bound = subst (λ (y : Key). pass_count ended same.step.asks ≤ 1 + 3 * y.places) is.key same.bound;
    }
