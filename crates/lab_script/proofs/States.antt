-- What the lines that are read so far keep: ranges, names that differ, actors that there are, and the card's limits.
use Rattle.lab_script.specs.Prelude.{ap, arith, Bool, cond, Err, false, get_or, is_some, length, length-append, List, nat_lt, None, not, Ok, Option, option_map}
use Rattle.lab_script.specs.Prelude.{refl, Result, Some, subst, suc, sym, true, ℕ, [], ◌&&◌, ◌*◌, ◌++◌, ◌+◌, ◌<◌, ◌==◌, ◌||◌, ◌∙◌, ◌∷◌, ◌≡◌, ◌≢◌, ◌≤◌}
use Rattle.lab_script.specs.Prelude.{ltb-false, or_parts, nat_tests, not_from_Decides, append-nil, bytes_eq-Decides, All, AllPairs, list_any, position}
use Rattle.lab_script.specs.Prelude.{position_or_len, row_of, Actor, Card, Client, Reader, CardLine, ClientLine, ReaderLine, IsActor, IsAlone, IsBorder}
use Rattle.lab_script.specs.Prelude.{IsCardLine, IsClientLine, IsGoneAfter, IsItem, IsLine, IsReaderLine, IsScript, ScriptError, ScriptWhy, end_of, refuse_if}
use Rattle.lab_script.specs.Prelude.{actor_named, border_of, card_alone, client_of, ends_lap, inside, is_beside, is_client, is_reader, keywords, line_at}
use Rattle.lab_script.specs.Prelude.{or_else, outside, reader_of, State, unknown_inside, unknown_outside, with_client, with_close, with_end, with_line}
use Rattle.lab_script.specs.Prelude.{with_open, with_phase, with_reader, with_words, op_of, after, Answers, card_line, first_by, on_line, script_at}
use Rattle.lab_script.specs.Prelude.{script_at_end, script_of_lines}
use Rattle.std.proofs.lemmas.List.Elements.{All-push, All-nil}
use Rattle.std.proofs.lemmas.List.Folds.{list_any-append, list_any_at}
use Rattle.std.proofs.lemmas.List.Quantifiers.{all_pairs_push}
use Rattle.std.proofs.lemmas.List.Sums.{fails_before_first, sum_by_push}
use Rattle.std.specs.Result.{IfOk}
use Rattle.lab_lines.specs.declared.line.Item.{Item}
use Rattle.lab_lines.specs.declared.line.Line.{Line}
use Rattle.lab_lines.specs.declared.script.Script.{Script}
use Rattle.lab_lines.specs.Script.{first_frame, frames_played, is_card_line, is_of_card, is_unplug, phases_of, played_by, played_in, unplugs}
use Rattle.lab_script.specs.declared.keyword.Keyword.{Keyword}
use Rattle.lab_script.proofs.Kept.{card_of-ranges, IsNewClient, client_of-ranges, IsNewReader, reader_of-ranges, op_of-is}
use Rattle.lab_script.proofs.Ranges.{bind_ok, ok_to, not_refused}
use Rattle.lab_script.specs.declared.error.ScriptWhy.TheVariants as why
use Rattle.lab_script.specs.declared.keyword.Keyword.TheVariants as keyword
use Rattle.lab_lines.specs.declared.line.Item.TheVariants as item

-- whether a phase is open
abbrev pub open_phases : Option ℕ → ℕ
open_phases None = 0
open_phases (Some line) = 1

-- clients and readers that are declared: they are in their ranges, and their names differ
pub record AreDeclared (card : CardLine) (clients : List ClientLine) (readers : List ReaderLine) : Type 0 where
  pub few_clients : length clients ≤ 64
  pub few_readers : length readers ≤ 64
  pub each_client : All (IsClientLine card) clients
  pub each_reader : All (IsReaderLine card) readers
  pub clients_differ : AllPairs (λ (a : ClientLine) (b : ClientLine). a.name ≢ b.name) clients
  pub readers_differ : AllPairs (λ (a : ReaderLine) (b : ReaderLine). a.name ≢ b.name) readers
  pub apart : All (λ (client : ClientLine). All (λ (reader : ReaderLine). client.name ≢ reader.name) readers) clients

-- items, and the lines of the phase that is open, where so many clients and readers are declared
pub record AreItems (clients readers : ℕ) (body : List Item) (lines : List Line) : Type 0 where
  pub each_item : All (IsItem clients readers) body
  pub each_line : All (IsLine clients readers) lines
  pub alone : IsAlone lines

-- phases, and the lines of the one that is open: how many they are, and whether the card is unplugged
pub record ArePhases (phases : List (List Line)) (lines : List Line) (phase : Option ℕ) (count : ℕ) (gone : Bool) : Type 0 where
  pub count_is : length phases + open_phases phase ≡ count
  pub few : count ≤ 4096
  pub after : AllPairs IsGoneAfter phases
  pub lines_after : All (λ (before : List Line). IsGoneAfter before lines) phases
  pub gone_is : gone ≡ (list_any unplugs phases || unplugs lines)

-- so many frames are played in them
pub record ArePlayed (card : CardLine) (phases : List (List Line)) (lines : List Line) (played : ℕ) : Type 0 where
  pub sum : frames_played phases + played_in lines ≡ played
  pub frames : played ≤ 4194304
  pub laps : first_frame card + played + card.ring ≤ 4294967295 * card.ring

-- what is read so far keeps the limits of a script
pub record IsState (s : State) : Type 0 where
  pub card : IsCardLine s.card
  pub declared : AreDeclared s.card s.clients s.readers
  pub items : AreItems (length s.clients) (length s.readers) s.body s.lines
  pub phases : ArePhases (phases_of s.body) s.lines s.phase s.phases s.gone
  pub played : ArePlayed s.card (phases_of s.body) s.lines s.played

-- a card alone
pub begun-kept : (card : CardLine) → IsCardLine card → IsState (card_alone card)
begun-kept card h = grind (arith, nat_tests)

-- a place of a list, where there is one
abbrev pub IsPlaceIn : ℕ → Option ℕ → Type 0
IsPlaceIn n None = Unit {0}
IsPlaceIn n (Some i) = i < n

named_by : (m n : ℕ) (o p : Option ℕ) (actor : Actor) → IsPlaceIn m o → IsPlaceIn n p
    → or_else (option_map Client o) (option_map Reader p) ≡ Some actor → IsBorder m n actor
named_by m n o p actor a b e = grind (arith, nat_tests)

-- who is named is declared
pub named-is : (s : State) (w : List ℕ) (actor : Actor) → actor_named s w ≡ Some actor → IsBorder (length s.clients) (length s.readers) actor
named-is s w actor e = grind (arith, nat_tests)

pub border-actor : (m n : ℕ) (actor : Actor) → IsBorder m n actor → IsActor m n actor
border-actor m n actor h = grind (arith, nat_tests)

unnamed : (o p : Option ℕ) → is_some (or_else (option_map Client o) (option_map Reader p)) ≡ false → (o ≡ None) × (p ≡ None)
unnamed o p e = grind (arith, nat_tests)

none_by : (i n : ℕ) (b : Bool) → nat_lt i n ≡ b → cond b (Some i) None ≡ None → n ≤ i
none_by i n true e g = absurd (cc)
none_by i n false e g = grind (arith, nat_tests)

position-none : {X : Type 0} (p : X → Bool) (xs : List X) (k : ℕ) (d : X) → position p xs ≡ None → k < length xs → p (get_or xs k d) ≡ false
position-none p xs k d e h =
    let past : length xs ≤ position_or_len p xs = none_by (position_or_len p xs) (length xs) (nat_lt (position_or_len p xs) (length xs)) refl e in
    fails_before_first p xs k d (omega arith)

client-differs : (s : State) (w : List ℕ) → is_some (actor_named s w) ≡ false → (k : ℕ) (d : ClientLine) → k < length s.clients → (get_or s.clients k d).name ≢ w
client-differs s w e k d h =
    let none = unnamed (position (is_client w) s.clients) (position (is_reader w) s.readers) e in
    not_from_Decides _ (bytes_eq-Decides (get_or s.clients k d).name w) (position-none (is_client w) s.clients k d none.0 h)

reader-differs : (s : State) (w : List ℕ) → is_some (actor_named s w) ≡ false → (k : ℕ) (d : ReaderLine) → k < length s.readers → (get_or s.readers k d).name ≢ w
reader-differs s w e k d h =
    let none = unnamed (position (is_client w) s.clients) (position (is_reader w) s.readers) e in
    not_from_Decides _ (bytes_eq-Decides (get_or s.readers k d).name w) (position-none (is_reader w) s.readers k d none.1 h)

more_actor : (m n p q : ℕ) (actor : Actor) → m ≤ p → n ≤ q → IsActor m n actor → IsActor p q actor
more_actor m n p q actor a b h = grind (arith, nat_tests)

more_lines : (m n p q : ℕ) (lines : List Line) → m ≤ p → n ≤ q → All (IsLine m n) lines → All (IsLine p q) lines
more_lines m n p q lines a b all = λ k d h. let line = all k d h in record { actor = more_actor m n p q _ a b line.actor; op = line.op }

more_item : (m n p q : ℕ) (i : Item) → m ≤ p → n ≤ q → IsItem m n i → IsItem p q i
more_item m n p q i a b h = grind (arith, nat_tests)

more : (m n p q : ℕ) (body : List Item) (lines : List Line) → m ≤ p → n ≤ q → AreItems m n body lines → AreItems p q body lines
more m n p q body lines a b are = record { each_item = λ k d h. more_item m n p q _ a b (are.each_item k d h); each_line = more_lines m n p q lines a b are.each_line; alone = are.alone }

-- one client more
client-kept : (s : State) (client : ClientLine) → IsNewClient s client → IsState s → IsState (record s { clients = s.clients ++ client ∷ [] })
client-kept s client new st =
    let count : length (s.clients ++ client ∷ []) ≡ length s.clients + 1 = length-append s.clients (client ∷ []) in
    let at_least : length s.clients ≤ length (s.clients ++ client ∷ []) = omega arith in
    let same : length s.readers ≤ length s.readers = omega arith in
    let before = st.declared in
    let few : length (s.clients ++ client ∷ []) ≤ 64 = omega (arith, new.room) in
    let each = All-push (IsClientLine s.card) s.clients client before.each_client new.line in
    let differ = all_pairs_push (λ (a : ClientLine) (b : ClientLine). a.name ≢ b.name) s.clients client before.clients_differ (client-differs s client.name new.new) in
    let apart = All-push (λ (c : ClientLine). All (λ (reader : ReaderLine). c.name ≢ reader.name) s.readers) s.clients client before.apart (λ k d h e. reader-differs s client.name new.new k d h (sym e)) in
    let items = more _ _ _ _ s.body s.lines at_least same st.items in
    assumption

-- one reader more
reader-kept : (s : State) (reader : ReaderLine) → IsNewReader s reader → IsState s → IsState (record s { readers = s.readers ++ reader ∷ [] })
reader-kept s reader new st =
    let count : length (s.readers ++ reader ∷ []) ≡ length s.readers + 1 = length-append s.readers (reader ∷ []) in
    let at_least : length s.readers ≤ length (s.readers ++ reader ∷ []) = omega arith in
    let same : length s.clients ≤ length s.clients = omega arith in
    let before = st.declared in
    let few : length (s.readers ++ reader ∷ []) ≤ 64 = omega (arith, new.room) in
    let each = All-push (IsReaderLine s.card) s.readers reader before.each_reader new.line in
    let differ = all_pairs_push (λ (a : ReaderLine) (b : ReaderLine). a.name ≢ b.name) s.readers reader before.readers_differ (reader-differs s reader.name new.new) in
    let apart : All (λ (client : ClientLine). All (λ (r : ReaderLine). client.name ≢ r.name) (s.readers ++ reader ∷ [])) s.clients =
    λ k d h. All-push (λ (r : ReaderLine). (get_or s.clients k d).name ≢ r.name) s.readers reader (before.apart k d h) (client-differs s reader.name new.new k d h) in
    let items = more _ _ _ _ s.body s.lines same at_least st.items in
    assumption

with_client-kept : (s : State) (number : ℕ) (ws : List (List ℕ)) (t : State) → with_client s number ws ≡ Ok t → IsState s → IsState t
unfolding with_client
with_client-kept s number ws t e st =
    let order = bind_ok (refuse_if (not (length s.body == 0)) why.Order) _ t e in
    let client = bind_ok (client_of s number ws) _ t order.2 in
    ok_to IsState _ t client.2 (client-kept s client.0 (client_of-ranges s number ws client.0 client.1) st)

with_reader-kept : (s : State) (number : ℕ) (ws : List (List ℕ)) (t : State) → with_reader s number ws ≡ Ok t → IsState s → IsState t
unfolding with_reader
with_reader-kept s number ws t e st =
    let order = bind_ok (refuse_if (not (length s.body == 0)) why.Order) _ t e in
    let reader = bind_ok (reader_of s number ws) _ t order.2 in
    ok_to IsState _ t reader.2 (reader-kept s reader.0 (reader_of-ranges s number ws reader.0 reader.1) st)

phases_of-append : (xs ys : List Item) → phases_of (xs ++ ys) ≡ phases_of xs ++ phases_of ys
phases_of-append [] ys = refl
phases_of-append (item.Phase lines ∷ xs) ys = ap (λ ps. lines ∷ ps) (phases_of-append xs ys)
phases_of-append (item.Opens number actor ∷ xs) ys = phases_of-append xs ys
phases_of-append (item.Closes number actor ∷ xs) ys = phases_of-append xs ys

-- an item that is no phase
border-kept : (s : State) (i : Item) → phases_of (i ∷ []) ≡ [] → IsItem (length s.clients) (length s.readers) i → IsState s → IsState (record s { body = s.body ++ i ∷ [] })
border-kept s i none it st =
    let same : phases_of s.body ≡ phases_of (s.body ++ i ∷ []) = sym (phases_of-append s.body (i ∷ []) ∙ ap (λ ps. phases_of s.body ++ ps) none ∙ append-nil (phases_of s.body)) in
    let each = All-push (IsItem (length s.clients) (length s.readers)) s.body i st.items.each_item it in
    let phases = subst (λ (ps : List (List Line)). ArePhases ps s.lines s.phase s.phases s.gone) same st.phases in
    let played = subst (λ (ps : List (List Line)). ArePlayed s.card ps s.lines s.played) same st.played in
    assumption

border_of-is : (s : State) (ws : List (List ℕ)) (actor : Actor) → border_of s ws ≡ Ok actor → IsBorder (length s.clients) (length s.readers) actor
unfolding border_of
border_of-is s ws actor e = grind (arith, nat_tests)

with_open-kept : (s : State) (number : ℕ) (ws : List (List ℕ)) (t : State) → with_open s number ws ≡ Ok t → IsState s → IsState t
unfolding with_open
with_open-kept s number ws t e st =
    let who = bind_ok (border_of s ws) _ t e in
    ok_to IsState _ t who.2 (border-kept s (item.Opens number who.0) refl (border_of-is s ws who.0 who.1) st)

with_close-kept : (s : State) (number : ℕ) (ws : List (List ℕ)) (t : State) → with_close s number ws ≡ Ok t → IsState s → IsState t
unfolding with_close
with_close-kept s number ws t e st =
    let who = bind_ok (border_of s ws) _ t e in
    ok_to IsState _ t who.2 (border-kept s (item.Closes number who.0) refl (border_of-is s ws who.0 who.1) st)

open_by : (phase : Option ℕ) (number n phases : ℕ) → phase ≡ None → n + open_phases phase ≡ phases → n + 1 ≡ phases + 1
open_by None number n phases e h = omega arith
open_by (Some k) number n phases e h = absurd (cc)

with_phase-kept : (s : State) (number : ℕ) (ws : List (List ℕ)) (t : State) → s.phase ≡ None → with_phase s number ws ≡ Ok t → IsState s → IsState t
unfolding with_phase
with_phase-kept s number ws t none e st = grind (arith, nat_tests)

end_by : (phase : Option ℕ) (k n phases : ℕ) → phase ≡ Some k → n + open_phases phase ≡ phases → n + 1 + 0 ≡ phases
end_by None k n phases e h = absurd (cc)
end_by (Some m) k n phases e h = omega arith

or_false : (a b : Bool) → (a || b) ≡ ((a || (b || false)) || false)
or_false a b = grind (arith, nat_tests)

with_end-kept : (s : State) (k : ℕ) (ws : List (List ℕ)) (t : State) → s.phase ≡ Some k → with_end s ws ≡ Ok t → IsState s → IsState t
unfolding with_end
with_end-kept s k ws t some e st =
    let end = bind_ok (end_of ws) _ t e in
    let same : phases_of s.body ++ s.lines ∷ [] ≡ phases_of (s.body ++ item.Phase s.lines ∷ []) = sym (phases_of-append s.body (item.Phase s.lines ∷ [])) in
    let more : length (phases_of s.body ++ s.lines ∷ []) ≡ length (phases_of s.body) + 1 = length-append (phases_of s.body) (s.lines ∷ []) in
    let before = st.phases in
    let one : length (phases_of s.body) + 1 + 0 ≡ s.phases = end_by s.phase k (length (phases_of s.body)) s.phases some before.count_is in
    let any : list_any unplugs (phases_of s.body ++ s.lines ∷ []) ≡ (list_any unplugs (phases_of s.body) || (unplugs s.lines || false)) = list_any-append unplugs (phases_of s.body) (s.lines ∷ []) in
    let sum : frames_played (phases_of s.body ++ s.lines ∷ []) ≡ frames_played (phases_of s.body) + played_in s.lines = sum_by_push played_in (phases_of s.body) s.lines in
    let each = All-push (IsItem (length s.clients) (length s.readers)) s.body (item.Phase s.lines) st.items.each_item (record { each = st.items.each_line; alone = st.items.alone }) in
    ok_to IsState _ t end.2 (record {
      card = st.card;
      declared = st.declared;
      items = record { each_item = each; each_line = All-nil (IsLine (length s.clients) (length s.readers)); alone = λ e. absurd (cc) };
      phases = subst (λ (ps : List (List Line)). ArePhases ps [] None s.phases s.gone) same (record {
        count_is = omega arith;
        few = before.few;
        after = all_pairs_push IsGoneAfter (phases_of s.body) s.lines before.after before.lines_after;
        lines_after = λ i d h e. refl;
        gone_is = before.gone_is ∙ or_false (list_any unplugs (phases_of s.body)) (unplugs s.lines) ∙ sym (ap (λ b. b || false) any);
      });
      played = subst (λ (ps : List (List Line)). ArePlayed s.card ps [] s.played) same
          (record { sum = let p = st.played.sum in omega arith; frames = st.played.frames; laps = st.played.laps });
    })

-- one line more of a phase: the one that unplugs is alone
alone-more : (lines : List Line) (line : Line) → IsAlone lines → is_beside lines line.op ≡ false → IsAlone (lines ++ line ∷ [])
alone-more [] line h e = λ g. refl
alone-more (first ∷ []) line h e = λ g.
    let no = or_parts (is_unplug first.op) (is_unplug line.op) e in
    absurd (cc (rw (no.0, no.1) at g))
alone-more (first ∷ second ∷ more) line h e = λ g.
    let no = or_parts (is_unplug first.op) (is_unplug line.op) e in
    let parts : unplugs ((first ∷ second ∷ more) ++ line ∷ []) ≡ (unplugs (first ∷ second ∷ more) || (is_unplug line.op || false)) = list_any-append (λ (l : Line). is_unplug l.op) (first ∷ second ∷ more) (line ∷ []) in
    alone_by (unplugs (first ∷ second ∷ more)) (is_unplug line.op) (length more) _ h no.1 (sym parts ∙ g)
  where
    alone_by : (a b : Bool) (n : ℕ) (P : Type 0) → (a ≡ true → suc (suc n) ≡ 1) → b ≡ false → (a || (b || false)) ≡ true → P
    alone_by true b n P h e g = absurd (omega (arith, h refl))
    alone_by false true n P h e g = absurd (cc)
    alone_by false false n P h e g = absurd (cc)

or_more : (g a u b : Bool) → g ≡ (a || u) → (g || b) ≡ (a || (u || (b || false)))
or_more g a u b e = grind (arith, nat_tests)

-- one line more of a phase
line-kept : (s : State) (line : Line) → IsLine (length s.clients) (length s.readers) line → is_beside s.lines line.op ≡ false → (s.gone && is_of_card line.actor) ≡ false
    → s.played + played_by line.op ≤ 4194304 → first_frame s.card + (s.played + played_by line.op) + s.card.ring ≤ 4294967295 * s.card.ring → IsState s
    → IsState (record s { lines = s.lines ++ line ∷ []; played = s.played + played_by line.op; gone = s.gone || is_unplug line.op })
line-kept s line ok beside plugged frames laps st =
    let sum : played_in (s.lines ++ line ∷ []) ≡ played_in s.lines + played_by line.op = sum_by_push (λ (l : Line). played_by l.op) s.lines line in
    let card : list_any is_card_line (s.lines ++ line ∷ []) ≡ (list_any is_card_line s.lines || (is_card_line line || false)) = list_any-append is_card_line s.lines (line ∷ []) in
    let any : unplugs (s.lines ++ line ∷ []) ≡ (unplugs s.lines || (is_unplug line.op || false)) = list_any-append (λ (l : Line). is_unplug l.op) s.lines (line ∷ []) in
    let before = st.phases in
    let each = All-push (IsLine (length s.clients) (length s.readers)) s.lines line st.items.each_line ok in
    let alone = alone-more s.lines line st.items.alone beside in
    let after : All (λ (earlier : List Line). IsGoneAfter earlier (s.lines ++ line ∷ [])) (phases_of s.body) =
    λ k d h e.
    let here : is_card_line line ≡ false = rw (before.gone_is, list_any_at unplugs (phases_of s.body) k d h e) at plugged in
    rw (card, before.lines_after k d h e, here) refl in
    let gone = or_more s.gone (list_any unplugs (phases_of s.body)) (unplugs s.lines) (is_unplug line.op) before.gone_is ∙ sym (ap (λ b. list_any unplugs (phases_of s.body) || b) any) in
    let played : frames_played (phases_of s.body) + played_in (s.lines ++ line ∷ []) ≡ s.played + played_by line.op = let p = st.played.sum in omega arith in
    assumption

with_line-kept : (s : State) (number : ℕ) (actor : Actor) (ws : List (List ℕ)) (t : State) → IsActor (length s.clients) (length s.readers) actor → with_line s number actor ws ≡ Ok t → IsState s → IsState t
unfolding with_line
with_line-kept s number actor ws t who e st =
    let asked = bind_ok (op_of actor ws) _ t e in
    let played = s.played + played_by asked.0 in
    let alone = bind_ok (refuse_if (is_beside s.lines asked.0) why.Alone) _ t asked.2 in
    let plugged = bind_ok (refuse_if (s.gone && is_of_card actor) why.Unplugged) _ t alone.2 in
    let frames = bind_ok (refuse_if (nat_lt 4194304 played) why.Frames) _ t plugged.2 in
    let laps = bind_ok (refuse_if (ends_lap s.card played) why.LapEnd) _ t frames.2 in
    ok_to IsState _ t laps.2 (line-kept s (record { number = number; actor = actor; op = asked.0 })
    (record { actor = who; op = op_of-is actor ws asked.0 asked.1 })
    (not_refused _ why.Alone alone.0 alone.1) (not_refused _ why.Unplugged plugged.0 plugged.1)
    (ltb-false 4194304 played (not_refused _ why.Frames frames.0 frames.1))
    (ltb-false _ _ (not_refused (ends_lap s.card played) why.LapEnd laps.0 laps.1)) st)

unknown_outside-kept : (o : Option Actor) (t : State) (P : Type 0) → unknown_outside o ≡ Ok t → P
unknown_outside-kept None t P e = absurd (cc)
unknown_outside-kept (Some actor) t P e = absurd (cc)

outside-kept : (s : State) (number : ℕ) (word : List ℕ) (k : Option Keyword) (ws : List (List ℕ)) (t : State) → s.phase ≡ None → outside s number word k ws ≡ Ok t → IsState s → IsState t
outside-kept s number word (Some keyword.Client) ws t none e st = with_client-kept s number ws t e st
outside-kept s number word (Some keyword.Reader) ws t none e st = with_reader-kept s number ws t e st
outside-kept s number word (Some keyword.Open) ws t none e st = with_open-kept s number ws t e st
outside-kept s number word (Some keyword.Close) ws t none e st = with_close-kept s number ws t e st
outside-kept s number word (Some keyword.Phase) ws t none e st = with_phase-kept s number ws t none e st
outside-kept s number word (Some other) ws t none e st = absurd (cc)
outside-kept s number word None ws t none e st = unknown_outside-kept (actor_named s word) t (IsState t) e

unknown_inside-kept : (s : State) (number : ℕ) (word : List ℕ) (o : Option Actor) (ws : List (List ℕ)) (t : State) → actor_named s word ≡ o → unknown_inside s number o ws ≡ Ok t → IsState s → IsState t
unknown_inside-kept s number word None ws t who e st = absurd (cc)
unknown_inside-kept s number word (Some actor) ws t who e st =
    with_line-kept s number actor ws t (border-actor (length s.clients) (length s.readers) actor (named-is s word actor who)) e st

inside-kept : (s : State) (opened number : ℕ) (word : List ℕ) (k : Option Keyword) (ws : List (List ℕ)) (t : State) → s.phase ≡ Some opened → inside s number word k ws ≡ Ok t → IsState s → IsState t
inside-kept s opened number word (Some keyword.Card) ws t some e st = with_line-kept s number Card ws t tt e st
inside-kept s opened number word (Some keyword.End) ws t some e st = with_end-kept s opened ws t some e st
inside-kept s opened number word (Some other) ws t some e st = absurd (cc)
inside-kept s opened number word None ws t some e st = unknown_inside-kept s number word (actor_named s word) ws t refl e st

line_at-kept : (o : Option ℕ) (s : State) (number : ℕ) (word : List ℕ) (ws : List (List ℕ)) (t : State) → s.phase ≡ o → line_at o s number word ws ≡ Ok t → IsState s → IsState t
line_at-kept None s number word ws t is e st = outside-kept s number word (row_of keywords word) ws t is e st
line_at-kept (Some opened) s number word ws t is e st = inside-kept s opened number word (row_of keywords word) ws t is e st

-- one line more
pub with_words-kept : (s : State) (number : ℕ) (ws : List (List ℕ)) (t : State) → with_words s number ws ≡ Ok t → IsState s → IsState t
with_words-kept s number [] t e st = ok_to IsState s t e st
with_words-kept s number (word ∷ ws) t e st = line_at-kept s.phase s number word ws t refl e st

-- what a value of a line says
pub on_line-ok : {X Y : Type 0} (line : ℕ) (r : Result X ScriptWhy) (f : X → Result Y ScriptError) (y : Y) → on_line line r f ≡ Ok y → (x : X) × (r ≡ Ok x) × (f x ≡ Ok y)
on_line-ok line (Ok x) f y e = (x, refl, e)
on_line-ok line (Err cause) f y e = absurd (cc)

after-kept : (s : State) (lines : List (ℕ × List (List ℕ))) (t : State) → after s lines ≡ Ok t → IsState s → IsState t
after-kept s [] t e st = let same : s ≡ t = cc (e) in subst IsState same st
after-kept s (line ∷ lines) t e st =
    let next = on_line-ok line.0 (with_words s line.0 line.1) (λ n. after n lines) t e in
    after-kept next.0 lines t next.2 (with_words-kept s line.0 line.1 next.0 next.1 st)

ended-is : (s : State) (o : Option ℕ) (script : Script) → script_at_end s o ≡ Ok script → IsState s → IsScript script
ended-is s o script e st = grind (arith, nat_tests)

script_at-is : (r : Result State ScriptError) (script : Script) → script_at r ≡ Ok script → ((s : State) → r ≡ Ok s → IsState s) → IsScript script
script_at-is (Ok s) script e h = ended-is s s.phase script e (h s refl)
script_at-is (Err x) script e h = absurd (cc)

first_by-ranges : (number : ℕ) (k : Option Keyword) (ws : List (List ℕ)) (card : CardLine) → first_by number k ws ≡ Ok card → IsCardLine card
first_by-ranges number (Some keyword.Card) ws card e = card_of-ranges number ws card e
first_by-ranges number other ws card e = absurd (cc)

card_line-ranges : (number : ℕ) (ws : List (List ℕ)) (card : CardLine) → card_line number ws ≡ Ok card → IsCardLine card
card_line-ranges number [] card e = absurd (cc)
card_line-ranges number (word ∷ ws) card e = first_by-ranges number (row_of keywords word) ws card e

script_of_lines-is : (lines : List (ℕ × List (List ℕ))) (script : Script) → script_of_lines lines ≡ Ok script → IsScript script
script_of_lines-is [] script e = absurd (cc)
script_of_lines-is (line ∷ lines) script e =
    let card = on_line-ok line.0 (card_line line.0 line.1) (λ c. script_at (after (card_alone c) lines)) script e in
    script_at-is (after (card_alone card.0) lines) script card.2
    (λ s r. after-kept (card_alone card.0) lines s r (begun-kept card.0 (card_line-ranges line.0 line.1 card.0 card.1)))

-- what is read of a text that isn't too long keeps all limits
pub answers-valid : (lines : List (ℕ × List (List ℕ))) (r : Result Script ScriptError) → Answers (λ s. s) r (script_of_lines lines) → IfOk r IsScript
answers-valid lines (Ok script) h = script_of_lines-is lines script h
answers-valid lines (Err e) h = tt
