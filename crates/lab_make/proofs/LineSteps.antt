-- What a reader of scripts makes of one line: of lines of words that it takes.
use Rattle.lab_make.specs.Prelude.{arith, codes, false, length, List, nat_le, nat_lt, None, Ok, refl, Some, true, ℕ, [], ◌&&◌, ◌++◌, ◌+◌, ◌||◌, ◌∷◌, ◌≡◌}
use Rattle.lab_make.specs.Prelude.{nat_tests, Actor, Card, Client, is_file, is_name, actor_named, border_of, card_of, client_of, ends_lap, is_beside, State}
use Rattle.lab_make.specs.Prelude.{with_end, with_line, with_open, with_phase, card_line, card_words, made_card}
use Rattle.text_words.specs.Word.{number_of_word}
use Rattle.lab_lines.specs.declared.line.Op.{Op}
use Rattle.lab_lines.specs.Script.{is_of_card, is_unplug, played_by}
use Rattle.lab_script.specs.Keys.{key_value}
use Rattle.lab_script.specs.Ops.{op_of}
use Rattle.lab_lines.specs.declared.line.Item.TheVariants as item
use Rattle.lab_lines.specs.declared.line.Op.TheVariants as op

-- the card's line
pub card_line-made : card_line 1 card_words ≡ Ok made_card
unfolding card_of key_value
card_line-made = refl

-- a client's line without keys
pub client_of-plain : (s : State) (n : ℕ) (name file : List ℕ) → is_name name ≡ true → is_file file ≡ true → actor_named s name ≡ None
    → nat_le 64 (length s.clients) ≡ false → nat_le s.card.ring s.card.period ≡ false
    → client_of s n (name ∷ file ∷ []) ≡ Ok (record {
      number = n;
      name = name;
      file = file;
      bindings = None;
      buffer = None;
      period = None;
      start = 1;
      stop = None;
      lead = s.card.period;
      plug = false;
    })
unfolding client_of
client_of-plain s n name file is_one names new room fits = rw (is_one, names, new, room, fits) refl

-- a line that opens an actor
pub with_open-plain : (s : State) (n : ℕ) (name : List ℕ) (actor : Actor) → actor_named s name ≡ Some actor
    → with_open s n (name ∷ []) ≡ Ok (record s { body = s.body ++ item.Opens n actor ∷ [] })
unfolding with_open border_of
with_open-plain s n name actor e = rw e refl

-- the line at which a phase begins
pub with_phase-plain : (s : State) (n : ℕ) → nat_le 4096 s.phases ≡ false → with_phase s n [] ≡ Ok (record s { phase = Some n; phases = s.phases + 1 })
unfolding with_phase
with_phase-plain s n e = rw e refl

-- the line at which a phase ends
pub with_end-plain : (s : State) → with_end s [] ≡ Ok (record s { body = s.body ++ item.Phase s.lines ∷ []; phase = None; lines = [] })
unfolding with_end
with_end-plain s = refl

-- a line of a phase is one that the card's limits allow
pub record IsTaken (s : State) (actor : Actor) (asked : Op) : Type 0 where
  pub alone : is_beside s.lines asked ≡ false
  pub plugged : (s.gone && is_of_card actor) ≡ false
  pub frames : nat_lt 4194304 (s.played + played_by asked) ≡ false
  pub laps : ends_lap s.card (s.played + played_by asked) ≡ false

-- a line of a phase
pub with_line-plain : (s : State) (n : ℕ) (actor : Actor) (words : List (List ℕ)) (asked : Op) → op_of actor words ≡ Ok asked → IsTaken s actor asked
    → with_line s n actor words ≡ Ok (record s {
      lines = s.lines ++ (record { number = n; actor = actor; op = asked }) ∷ [];
      played = s.played + played_by asked;
      gone = s.gone || is_unplug asked;
    })
unfolding with_line
with_line-plain s n actor words asked e is = rw (e, is.alone, is.plugged, is.frames, is.laps) refl

-- a client writes
pub op_of-write : (client n : ℕ) (word : List ℕ) → number_of_word word ≡ Some n → nat_le n 4194304 ≡ true → op_of (Client client) (codes "write" ∷ word ∷ []) ≡ Ok (op.Write n)
unfolding op_of
op_of-write client n word e most = grind (arith, nat_tests)

-- the card plays one period
pub op_of-play : op_of Card (codes "play" ∷ codes "64" ∷ []) ≡ Ok (op.Play 64)
unfolding op_of
op_of-play = refl
