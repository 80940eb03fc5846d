-- Facts of an answer, by others.
use Rattle.std.specs.Prelude.{Result, Ok, Err, OnOk, OnErr}

pub OnOk-both : {X E : Type 0} (A B C : Type 0) (r : Result X E) → (A → B → C) → OnOk r A → OnOk r B → OnOk r C
OnOk-both A B C (Ok x) f a b = f a b
OnOk-both A B C (Err e) f a b = tt

pub OnOk-more : {X E : Type 0} (P Q : Type 0) (r : Result X E) → (P → Q) → OnOk r P → OnOk r Q
OnOk-more P Q (Ok x) more is = more is
OnOk-more P Q (Err e) more is = tt

pub OnErr-always : {X E P : Type 0} (r : Result X E) → P → OnErr r P
OnErr-always (Ok x) is = tt
OnErr-always (Err e) is = is
