-- The answers to a request, line by line.
use Rattle.lab_refine.specs.Prelude.{ap, append_assoc, get_or, length, List, refl, subst, sym, take, ℕ, [], ◌++◌, ◌+◌, ◌<◌, ◌∙◌, ◌∷◌, ◌≡◌, append-nil}
use Rattle.lab_refine.specs.Prelude.{take_more, Option, unwrap_or, Ask, Request, Answers, AreAnswers, chosen_line, IsAnswer, IsAppended, IsNarrowing, left_line}
use Rattle.hw_space.specs.declared.param.Param.{Param}
use Rattle.hw_space.specs.declared.param.Param.TheVariants.{Access, Format}
use Rattle.hw_space.specs.declared.param.ParamKind.{ParamKind}
use Rattle.hw_space.specs.declared.param_box.ParamBox.{ParamBox}
use Rattle.hw_space.specs.ChoiceLaws.{Leaves-unique, IsNear-unique, IsChoice-unique}
use Rattle.hw_space.specs.Narrowings.{IsNearKind, with_value, with_min, with_max, with_integer}
use Rattle.hw_space.specs.Params.{kind_of}
use Rattle.hw_space.specs.SettledLaws.{IsGreatest-unique}
use Rattle.hw_space.specs.Widest.{widest}
use Rattle.hw_space.specs.declared.param.ParamKind.TheVariants as kinds
use Rattle.lab_refine.specs.declared.request.Ask.TheVariants as ask_kinds

-- one more line is answered
pub Answers-more : (period : ℕ) (old between new : ParamBox) (asks : List Ask) (ask : Ask) (before after : List ℕ)
    → Answers period old asks before between → IsAppended period between new ask before after
    → Answers period old (asks ++ ask ∷ []) after new
Answers-more period old between new [] ask before after so_far more = record {
  line = more.line;
  rest = [];
  next = new;
  answers = subst (λ b. IsAnswer period b ask more.line new) so_far.1 more.answers;
  others = (refl, refl);
  is_text = more.put ∙ ap (λ t. t ++ more.line) so_far.0 ∙ sym (append-nil more.line);
}
Answers-more period old between new (first ∷ asks) ask before after so_far more = record {
  line = so_far.line;
  rest = so_far.rest ++ more.line;
  next = so_far.next;
  answers = so_far.answers;
  others =
      Answers-more period so_far.next between new asks ask so_far.rest (so_far.rest ++ more.line) so_far.others
      (record { line = more.line; answers = more.answers; put = refl });
  is_text = more.put ∙ ap (λ t. t ++ more.line) so_far.is_text ∙ append_assoc so_far.line so_far.rest more.line;
}

-- the next of some is answered
pub Answers-next : (period : ℕ) (old between new : ParamBox) (asks : List Ask) (i : ℕ) (d : Ask) (before after : List ℕ)
    → Answers period old (take i asks) before between → i < length asks
    → IsAppended period between new (get_or asks i d) before after
    → Answers period old (take (i + 1) asks) after new
Answers-next period old between new asks i d before after so_far within more =
    subst (λ list. Answers period old list after new) (sym (take_more asks i d within))
    (Answers-more period old between new (take i asks) (get_or asks i d) before after so_far more)

-- a narrowing is answered in one way
IsNarrowing-unique : {leaves : Option ParamBox → Type 0} {param : Param} {old new another : ParamBox} {line other : List ℕ} → ((o p : Option ParamBox) → leaves o → leaves p → o ≡ p)
    → IsNarrowing leaves param old line new → IsNarrowing leaves param old other another → (line ≡ other) × (new ≡ another)
IsNarrowing-unique {param = param} {old = old} unique one two =
    let same = unique one.left two.left one.is_left two.is_left in (
      one.is_line ∙ ap (left_line param) same ∙ sym two.is_line,
      one.stays ∙ ap (λ left. unwrap_or left old) same ∙ sym two.stays,
    )

-- the nearest end leaves one box, or nothing
IsNearKind-unique : (b : ParamBox) (kind : ParamKind) (n : ℕ) (o p : Option ParamBox)
    → IsNearKind b kind n o → IsNearKind b kind n p → o ≡ p
IsNearKind-unique b kinds.Access n o p one other = absurd one
IsNearKind-unique b kinds.Format n o p one other = absurd one
IsNearKind-unique b (kinds.Number q) n o p one other = IsNear-unique b q n o p one other

-- a line is answered in one way
IsAnswer-unique : (period : ℕ) (old : ParamBox) (ask : Ask) (line other : List ℕ) (new another : ParamBox)
    → IsAnswer period old ask line new → IsAnswer period old ask other another → (line ≡ other) × (new ≡ another)
IsAnswer-unique period old (ask_kinds.Set param value) line other new another one two = IsNarrowing-unique (Leaves-unique (with_value old param value)) one two
IsAnswer-unique period old (ask_kinds.Min param value) line other new another one two = IsNarrowing-unique (Leaves-unique (with_min old param value)) one two
IsAnswer-unique period old (ask_kinds.Max param value) line other new another one two = IsNarrowing-unique (Leaves-unique (with_max old param value)) one two
IsAnswer-unique period old (ask_kinds.Near param value) line other new another one two = IsNarrowing-unique (IsNearKind-unique old (kind_of param) value) one two
IsAnswer-unique period old (ask_kinds.Integer param) line other new another one two = IsNarrowing-unique (Leaves-unique (with_integer old param)) one two
IsAnswer-unique period old (ask_kinds.Show param) line other new another one two = (one.is_line ∙ sym two.is_line, one.stays ∙ sym two.stays)
IsAnswer-unique period old ask_kinds.Choose line other new another one two = (
  one.is_line ∙ ap chosen_line (IsChoice-unique old period one.choice two.choice one.is_choice two.is_choice) ∙ sym two.is_line,
  one.stays ∙ sym two.stays,
)

-- lines are answered in one way
Answers-unique : (period : ℕ) (old : ParamBox) (asks : List Ask) (text other : List ℕ) (new another : ParamBox)
    → Answers period old asks text new → Answers period old asks other another → text ≡ other
Answers-unique period old [] text other new another one two = one.0 ∙ sym two.0
Answers-unique period old (ask ∷ asks) text other new another one two =
    let same = IsAnswer-unique period old ask one.line two.line one.next two.next one.answers two.answers in
    let rest = Answers-unique period one.next asks one.rest two.rest new another one.others
    (subst (λ b. Answers period b asks two.rest another) (sym same.1) two.others) in
    one.is_text ∙ ap (λ l. l ++ one.rest) same.0 ∙ ap (λ r. two.line ++ r) rest ∙ sym two.is_text

-- a request has the answers of one text
pub AreAnswers-unique : (request : Request) (text other : List ℕ)
    → AreAnswers request text → AreAnswers request other → other ≡ text
AreAnswers-unique request text other one two =
    let same = IsGreatest-unique (widest request.slave.channels request.slave.rate request.slave.ring) two.first one.first
    two.begins one.begins in
    Answers-unique request.slave.period one.first request.asks other text two.last one.last
    (subst (λ b. Answers request.slave.period b request.asks other two.last) same two.answered) one.answered
