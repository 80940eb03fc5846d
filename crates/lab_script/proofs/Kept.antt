-- The card, the clients, the readers and the ops of their lines are in their ranges.
use Rattle.lab_script.specs.Prelude.{arith, bytes_eq, codes, false, inl, inr, is_some, length, List, nat_le, not, Ok, refl, Some, subst, ℕ, [], ◌/◌, ◌<◌, ◌∷◌}
use Rattle.lab_script.specs.Prelude.{◌≡◌, ◌≤◌, cases_Bool, leb-false, nat_tests, row_of, Actor, Card, Client, Reader, Op, CardLine, ClientLine, ReaderLine}
use Rattle.lab_script.specs.Prelude.{IsCardLine, IsClientLine, IsIn, IsOpOf, IsReaderLine, refuse_if, some_or, word_and_rest, actor_named, card_of, client_of}
use Rattle.lab_script.specs.Prelude.{divides, reader_of, State, bindings_where, byte_given, file_of, file_where, keys_from, name_of, number_given, small_given}
use Rattle.lab_script.specs.Prelude.{word_after, op_of, op_with, ops_of, with_count}
use Rattle.lab_script.specs.declared.ops.Form.{Form}
use Rattle.lab_script.specs.declared.ops.Form.TheVariants.{Plain, Counted}
use Rattle.lab_script.proofs.Ranges.{bind_ok, ok_to, not_refused, some_is, given_number, given_where, given_stop, limited_in, name_of-is, file_of-is, file_where-is, bindings_where-is, divides-half, divides-rest}
use Rattle.lab_script.specs.declared.error.ScriptWhy.TheVariants as why
use Rattle.lab_script.specs.declared.keys.Kind.TheVariants as kind

-- the card of its line is in its ranges
pub card_of-ranges : (number : ℕ) (ws : List (List ℕ)) (card : CardLine) → card_of number ws ≡ Ok card → IsCardLine card
unfolding card_of
card_of-ranges number ws card e =
    let a = bind_ok (keys_from kind.Card [] ws) _ card e in
    let keys : keys_from kind.Card [] ws ≡ Ok tt = a.1 in
    let p = number_given (codes "period") 1024 ws in
    let r = small_given (codes "ring") 8192 ws in
    let b = bind_ok (refuse_if (not (divides p r)) why.Fit) _ card a.2 in
    let f = bind_ok (file_where (word_after (codes "capture") ws)) _ card b.2 in
    let fits : not (divides p r) ≡ false = not_refused (not (divides p r)) why.Fit b.0 b.1 in
    let channels : IsIn 1 8 (byte_given (codes "channels") 2 ws) = limited_in 255 1 8 _ (omega arith) (given_number kind.Card (codes "channels") 2 1 8 ws keys refl (record { low = omega arith; high = omega arith })) in
    let rate : IsIn 4000 192000 (small_given (codes "rate") 48000 ws) = limited_in 4294967295 4000 192000 _ (omega arith) (given_number kind.Card (codes "rate") 48000 4000 192000 ws keys refl (record { low = omega arith; high = omega arith })) in
    let ring : IsIn 64 16384 r = limited_in 4294967295 64 16384 _ (omega arith) (given_number kind.Card (codes "ring") 8192 64 16384 ws keys refl (record { low = omega arith; high = omega arith })) in
    let period : IsIn 16 9999999999999999999 p = given_number kind.Card (codes "period") 1024 16 9999999999999999999 ws keys refl (record { low = omega arith; high = omega arith }) in
    let places : IsIn 1 64 (small_given (codes "places") 64 ws) = limited_in 4294967295 1 64 _ (omega arith) (given_number kind.Card (codes "places") 64 1 64 ws keys refl (record { low = omega arith; high = omega arith })) in
    let lap : IsIn 0 4294967294 (small_given (codes "lap") 0 ws) = limited_in 4294967295 0 4294967294 _ (omega arith) (given_number kind.Card (codes "lap") 0 0 4294967294 ws keys refl (record { low = omega arith; high = omega arith })) in
    let half : p ≤ r / 2 = divides-half p r fits in
    ok_to IsCardLine _ card f.2 (record {
      channels = channels;
      rate = rate;
      ring = ring;
      period_low = period.low;
      period_high = omega arith;
      period_divides = divides-rest p r fits;
      places = places;
      lap = lap.high;
      capture = file_where-is (word_after (codes "capture") ws) f.0 f.1;
    })

-- a client that is read: it is in its ranges, its name is new, and there is room for it
pub record IsNewClient (s : State) (client : ClientLine) : Type 0 where
  pub line : IsClientLine s.card client
  pub new : is_some (actor_named s client.name) ≡ false
  pub room : length s.clients < 64

pub client_of-ranges : (s : State) (number : ℕ) (ws : List (List ℕ)) (client : ClientLine) → client_of s number ws ≡ Ok client → IsNewClient s client
unfolding client_of
client_of-ranges s number ws client e =
    let first = bind_ok (word_and_rest ws) _ client e in
    let name = bind_ok (name_of first.0.0) _ client first.2 in
    let second = bind_ok (word_and_rest first.0.1) _ client name.2 in
    let file = bind_ok (file_of second.0.0) _ client second.2 in
    let ks = second.0.1 in
    let a = bind_ok (keys_from kind.Client [] ks) _ client file.2 in
    let keys : keys_from kind.Client [] ks ≡ Ok tt = a.1 in
    let once = bind_ok (refuse_if (is_some (actor_named s first.0.0)) why.NameTwice) _ client a.2 in
    let room = bind_ok (refuse_if (nat_le 64 (length s.clients)) why.TooMany) _ client once.2 in
    let fits = bind_ok (refuse_if (nat_le s.card.ring (number_given (codes "lead") s.card.period ks)) why.Fit) _ client room.2 in
    let bindings = bind_ok (bindings_where s.card.channels (word_after (codes "bindings") ks)) _ client fits.2 in
    let form = name_of-is first.0.0 name.0 name.1 in
    ok_to (IsNewClient s) _ client bindings.2 (record {
      line = record {
        name = form.0;
        file = file_of-is second.0.0 file.0 file.1;
        bindings = bindings_where-is s.card.channels (word_after (codes "bindings") ks) bindings.0 bindings.1;
        buffer = given_where kind.Client (codes "buffer") 32 16384 ks (omega arith) keys refl;
        period = given_where kind.Client (codes "period") 16 8192 ks (omega arith) keys refl;
        start = given_number kind.Client (codes "start") 1 1 65536 ks keys refl (record { low = omega arith; high = omega arith });
        stop = given_stop kind.Client ks keys refl;
        lead = leb-false s.card.ring (number_given (codes "lead") s.card.period ks) (not_refused _ why.Fit fits.0 fits.1);
      };
      new = subst (λ (w : List ℕ). is_some (actor_named s w) ≡ false) form.1 (not_refused _ why.NameTwice once.0 once.1);
      room = leb-false 64 (length s.clients) (not_refused _ why.TooMany room.0 room.1);
    })

-- a reader that is read: it is in its ranges, its name is new, and there is room for it
pub record IsNewReader (s : State) (reader : ReaderLine) : Type 0 where
  pub line : IsReaderLine s.card reader
  pub new : is_some (actor_named s reader.name) ≡ false
  pub room : length s.readers < 64

pub reader_of-ranges : (s : State) (number : ℕ) (ws : List (List ℕ)) (reader : ReaderLine) → reader_of s number ws ≡ Ok reader → IsNewReader s reader
unfolding reader_of
reader_of-ranges s number ws reader e =
    let first = bind_ok (word_and_rest ws) _ reader e in
    let name = bind_ok (name_of first.0.0) _ reader first.2 in
    let ks = first.0.1 in
    let a = bind_ok (keys_from kind.Reader [] ks) _ reader name.2 in
    let keys : keys_from kind.Reader [] ks ≡ Ok tt = a.1 in
    let once = bind_ok (refuse_if (is_some (actor_named s first.0.0)) why.NameTwice) _ reader a.2 in
    let room = bind_ok (refuse_if (nat_le 64 (length s.readers)) why.TooMany) _ reader once.2 in
    let bindings = bind_ok (bindings_where s.card.channels (word_after (codes "bindings") ks)) _ reader room.2 in
    let form = name_of-is first.0.0 name.0 name.1 in
    ok_to (IsNewReader s) _ reader bindings.2 (record {
      line = record {
        name = form.0;
        bindings = bindings_where-is s.card.channels (word_after (codes "bindings") ks) bindings.0 bindings.1;
        buffer = given_where kind.Reader (codes "buffer") 32 16384 ks (omega arith) keys refl;
        period = given_where kind.Reader (codes "period") 16 8192 ks (omega arith) keys refl;
        start = given_number kind.Reader (codes "start") 1 1 65536 ks keys refl (record { low = omega arith; high = omega arith });
        stop = given_stop kind.Reader ks keys refl;
      };
      new = subst (λ (w : List ℕ). is_some (actor_named s w) ≡ false) form.1 (not_refused _ why.NameTwice once.0 once.1);
      room = leb-false 64 (length s.readers) (not_refused _ why.TooMany room.0 room.1);
    })

-- what each row of a table has, its choice has
abbrev pub RowsHave : {A : Type 0} → (A → Type 0) → List (List ℕ × A) → Type 0
RowsHave P [] = Unit {0}
RowsHave P (row ∷ rows) = P row.1 × (RowsHave P rows)

pub row_of-has : {A : Type 0} (P : A → Type 0) (rows : List (List ℕ × A)) (w : List ℕ) (x : A) → RowsHave P rows → row_of rows w ≡ Some x → P x
row_of-has P [] w x h e = absurd (cc)
row_of-has P (row ∷ rows) w x h e = elim (cases_Bool (bytes_eq w row.0)) [
  | inl is ↦ let same : row.1 ≡ x = cc (rw is at e) in subst P same h.0
  | inr isnt ↦ row_of-has P rows w x h.1 (rw isnt at e)
]

-- what a form of an op asks for is in its range
abbrev pub IsFormOf : Actor → Form → Type 0
IsFormOf actor (Plain o) = IsOpOf actor o
IsFormOf actor (Counted o most) = (n : ℕ) → n ≤ most → IsOpOf actor (with_count o n)

ops_of-have : (actor : Actor) → RowsHave (IsFormOf actor) (ops_of actor)
ops_of-have actor = grind (arith, nat_tests)

op_with-is : (actor : Actor) (form : Form) (ws : List (List ℕ)) (o : Op) → IsFormOf actor form → op_with form ws ≡ Ok o → IsOpOf actor o
op_with-is actor form ws o h e = grind (arith, nat_tests)

-- what is asked for is something that the actor can be asked for
pub op_of-is : (actor : Actor) (ws : List (List ℕ)) (o : Op) → op_of actor ws ≡ Ok o → IsOpOf actor o
unfolding op_of
op_of-is actor ws o e =
    let word = bind_ok (word_and_rest ws) _ o e in
    let form = bind_ok (some_or why.Word (row_of (ops_of actor) word.0.0)) _ o word.2 in
    op_with-is actor form.0 word.0.1 o
    (row_of-has (IsFormOf actor) (ops_of actor) word.0.0 form.0 (ops_of-have actor) (some_is why.Word _ form.0 form.1)) form.2
