-- What goes on past a frame goes on past those before it; and a client that isn't open stays as it is.
use Rattle.run_laws.specs.Prelude.{arith, inl, inr, None, Option, Some, sym, ℕ, ◌∙◌, ◌≡◌, ◌≤◌, false≢true, nat_tests, false, IfSome, Marks, PlaybackStream}
use Rattle.run_laws.specs.Prelude.{Sound, Op, Answer, Failed, Client, client_kind, LineMay, AtPort, Rules}
use Rattle.run_laws.proofs.Onward.{Onward}
use Rattle.run_laws.proofs.OnwardLines.{InOpen, has_none, waits-none}
use Rattle.snd_base.specs.declared.errors.PcmError.TheVariants as error

pub onward-less : (p q x y v w : ℕ) (m : Marks) (c : PlaybackStream) → p ≤ q → v ≤ x → w ≤ y → Onward p x y m c → Onward q v w m c
onward-less p q x y v w m c later less lower is = grind (arith, nat_tests)

-- a stretch in which something is placed began past x
pub placed-past : (p x y : ℕ) (m : Marks) (c : PlaybackStream) → has_none c ≡ false → Onward p x y m c → x ≤ c.stretch.card
placed-past p x y m c some (inl is) = is.lies.past
placed-past p x y m c some (inr is) = absurd (false≢true (sym some ∙ waits-none p x y m c is))

pub in-open : (F : PlaybackStream → Type 0) (own : Option PlaybackStream) → InOpen own F → IfSome own F
in-open F None is = tt
in-open F (Some c) is = is

pub open-map : (F G : PlaybackStream → Type 0) (own : Option PlaybackStream) → ((c : PlaybackStream) → F c → G c) → InOpen own F → InOpen own G
open-map F G None map is = is
open-map F G (Some c) map is = map c is

-- a line of a client that isn't open
pub closed-line : (rules : Rules) (phase : ℕ) (wav : Sound) (number : ℕ) (a b : AtPort) (client after : Client) (asked : Op) (answer : Answer) → client.own ≡ None
    → LineMay (client_kind phase wav number) rules (a, client) asked (b, after) answer → (after ≡ client) × (answer ≡ Failed error.BadState)
closed-line rules phase wav number a b client after asked answer closed may = grind (arith, nat_tests)

pub still-client : (rules : Rules) (phase : ℕ) (wav : Sound) (number : ℕ) (a b : AtPort) (client after : Client) (asked : Op) (answer : Answer) → client.own ≡ None
    → LineMay (client_kind phase wav number) rules (a, client) asked (b, after) answer → after ≡ client
still-client rules phase wav number a b client after asked answer closed may = (closed-line rules phase wav number a b client after asked answer closed may).0
