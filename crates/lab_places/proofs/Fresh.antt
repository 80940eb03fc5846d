-- The marks of a seat that is given out at a position past its last frame.
use Rattle.lab_places.specs.Prelude.{arith, Bool, false, IfSome, if◌then◌else◌, None, Option, refl, Some, subst, true, ℕ, ◌<◌, ◌≡◌, ◌≤◌, nat_tests, high_frame}
use Rattle.lab_places.specs.Prelude.{is_before, last_before, start_marks, start_of, free_from, IsLow, MarksAlike, untouched}
use Rattle.snd_base.specs.declared.geometry.Geometry.{Geometry}
use Rattle.snd_base.specs.declared.places.Cursor.{Cursor}
use Rattle.snd_base.specs.Places.{IsFrom, first_frame}
use Rattle.mix_core.specs.declared.marks.Marks.{Marks}

free-low : (g : Geometry) (position : ℕ) (last : Option ℕ) → IfSome last (λ frame. frame < position) → first_frame g ≤ position → free_from g last ≤ position
free-low g position None below first = first
free-low g position (Some frame) below first = omega (arith, below)

high-low : (g : Geometry) (position : ℕ) (high : Cursor) (past : Bool) → is_before (start_of g) high ≡ past
    → IfSome (if past then Some (last_before high) else None) (λ frame. frame < position) → first_frame g ≤ position → IsLow position high
high-low g position high true past below first = grind (arith, nat_tests)
high-low g position high false past below first = grind (arith, nat_tests)

pub given-alike : (g : Geometry) (position : ℕ) (marks : Marks) (last : Option ℕ) → last ≡ high_frame g marks → IsFrom marks.cursor (free_from g last) 0
    → IsFrom marks.floor (free_from g last) 0 → IfSome last (λ frame. frame < position) → first_frame g ≤ position
    → MarksAlike g position marks.high (start_marks g) marks
given-alike g position marks last high cursor floor below first =
    let free : free_from g last ≤ position = free-low g position last below first in
    untouched (record {
      own_high = refl;
      port_high = refl;
      own_low = grind (arith, nat_tests);
      port_low = high-low g position marks.high (is_before (start_of g) marks.high) refl (subst (λ o. IfSome o (λ frame. frame < position)) high below) first;
      own_floor = grind (arith, nat_tests);
      port_floor = omega (arith, floor, free);
    }) (grind (arith, nat_tests)) (omega (arith, cursor, free))
