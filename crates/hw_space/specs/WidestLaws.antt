-- Laws of widest boxes: each holds a configuration, so refinement leaves something of it.
use Rattle.std.specs.Prelude.{◌≡◌, ℕ, ◌*◌, ◌/◌, ◌%◌, ◌<◌, ◌≤◌, List, [], ◌∷◌, All, refl}
use Rattle.std.specs.List.{AllByRecursion}
use Rattle.std.proofs.Common.{arith, zero, suc, lit<}
use Rattle.std.proofs.Math.Nat.{div-le_of_le-mul}
use Rattle.std.proofs.lemmas.Nat.{le-div}
use Rattle.pcm_interval.specs.Arithmetic.{end_max}
use Rattle.pcm_interval.specs.Intervals.{IsMember}
use Rattle.hw_space.specs.declared.quantity.Quantity.{Quantity}
use Rattle.hw_space.specs.declared.quantity.Quantity.TheVariants.{SampleBits, FrameBits, Channels, Rate, PeriodTime, PeriodSize, PeriodBytes, Periods, BufferTime, BufferSize, BufferBytes}
use Rattle.hw_space.specs.declared.rule.Rule.{Rule}
use Rattle.hw_space.specs.Boxes.{part}
use Rattle.hw_space.specs.Rules.{rules}
use Rattle.hw_space.specs.Settled.{Fraction, Configuration, IsResult, IsExact, LiesInBox}
use Rattle.hw_space.specs.Widest.{whole_from_to, from_to, widest}

all_at : {X : Type 0} (P : X → Type 0) (xs : List X) → AllByRecursion P xs → All P xs
all_at P [] each k d below = absurd (omega arith)
all_at P (x ∷ xs) each zero d below = each.0
all_at P (x ∷ xs) each (suc k) d below = all_at P xs each.1 k d (omega arith)

abbrev whole : ℕ → Fraction
whole n = record { over = n; under = 1 }

abbrev over : ℕ → ℕ → Fraction
over n d = record { over = n; under = d }

-- the configuration of one channel with the period and the ring of a slave
abbrev slave_value : ℕ → ℕ → ℕ → Quantity → Fraction
slave_value rate period ring SampleBits = whole 16
slave_value rate period ring FrameBits = whole 16
slave_value rate period ring Channels = whole 1
slave_value rate period ring Rate = whole rate
slave_value rate period ring PeriodTime = over (period * 1000000) rate
slave_value rate period ring PeriodSize = whole period
slave_value rate period ring PeriodBytes = whole (2 * period)
slave_value rate period ring Periods = whole (ring / period)
slave_value rate period ring BufferTime = over (ring * 1000000) rate
slave_value rate period ring BufferSize = whole ring
slave_value rate period ring BufferBytes = whole (2 * ring)

abbrev pub slave_configuration : ℕ → ℕ → ℕ → Configuration
slave_configuration rate period ring = record {
  access = 3;
  format = 2;
  value = slave_value rate period ring;
}

pub slave-IsExact : (rate period ring : ℕ) → 0 < period → ring % period ≡ 0 → IsExact (slave_configuration rate period ring)
slave-IsExact rate period ring positive divides =
    let product : ring ≡ period * (ring / period) = omega arith in
    record {
      format = lit< tt;
      sample_bits = refl;
      by_rules =
          all_at
          (λ (r : Rule). IsResult r.operation (slave_value rate period ring r.first) (slave_value rate period ring r.second) (slave_value rate period ring r.target))
          rules (
            refl,
            (
              refl,
              (
                refl,
                (
                  omega arith,
                  (
                    omega arith,
                    (
                      omega arith,
                      (
                        omega arith,
                        (
                          omega arith,
                          (
                            omega arith,
                            (
                              omega arith,
                              (omega arith, (omega arith, (omega arith, (omega arith, (omega arith, (omega arith, (omega arith, (omega arith, tt)))))))),
                            ),
                          ),
                        ),
                      ),
                    ),
                  ),
                ),
              ),
            ),
          );
    }

IsMember-whole : (a b n : ℕ) → a ≤ n → n ≤ b → IsMember (whole_from_to a b) n 1
IsMember-whole a b n low high = record {
  positive = lit< tt;
  lower = omega arith;
  above = λ is_open. absurd (cc);
  upper = omega arith;
  below = λ is_open. absurd (cc);
  whole = λ is_integer. omega arith;
}

IsMember-fraction : (a b n d : ℕ) → 0 < d → a * d ≤ n → n ≤ b * d → IsMember (from_to a b) n d
IsMember-fraction a b n d positive low high = record {
  positive = positive;
  lower = low;
  above = λ is_open. absurd (cc);
  upper = high;
  below = λ is_open. absurd (cc);
  whole = λ is_integer. absurd (cc);
}

module _ (channels rate period ring : ℕ) (some : 1 ≤ channels) (least_rate : 4000 ≤ rate) (most_rate : rate ≤ 192000)
    (least_period : 16 ≤ period) (most_period : 2 * period ≤ ring) (divides : ring % period ≡ 0) (most_ring : ring ≤ 16384) where
  least-periods : 2 ≤ ring / period
  least-periods = le-div 2 ring period (omega arith) most_period

  most-periods : ring / period ≤ 1024
  most-periods = div-le_of_le-mul period (omega arith)

  held-part : (q : Quantity) → IsMember (part (widest channels rate ring) q) (slave_value rate period ring q).over (slave_value rate period ring q).under
  held-part SampleBits = IsMember-whole 1 end_max 16 (omega arith) (omega arith)
  held-part FrameBits = IsMember-whole 1 end_max 16 (omega arith) (omega arith)
  held-part Channels = IsMember-whole 1 channels 1 (omega arith) some
  held-part Rate = IsMember-whole rate rate rate (omega arith) (omega arith)
  held-part PeriodTime = IsMember-fraction 1 end_max (period * 1000000) rate (omega arith) (omega arith) (omega arith)
  held-part PeriodSize = IsMember-whole 16 (ring / 2) period least_period (omega arith)
  held-part PeriodBytes = IsMember-whole 1 end_max (2 * period) (omega arith) (omega arith)
  held-part Periods = IsMember-whole 2 1024 (ring / period) least-periods most-periods
  held-part BufferTime = IsMember-fraction 1 end_max (ring * 1000000) rate (omega arith) (omega arith) (omega arith)
  held-part BufferSize = IsMember-whole 32 ring ring (omega arith) (omega arith)
  held-part BufferBytes = IsMember-whole 1 end_max (2 * ring) (omega arith) (omega arith)

  -- the widest box of a slave holds it
  pub widest-LiesInBox : LiesInBox (widest channels rate ring) (slave_configuration rate period ring)
  widest-LiesInBox = record {
    access = refl;
    format = refl;
    parts = held-part;
  }
