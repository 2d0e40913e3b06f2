-- What follows from what holds on an answer.
use Rattle.std.specs.Prelude.{OnErr, OnOk, Result, Ok, Err}

pub on_ok_part : {T E : Type 0} {P Q : Type 0} (r : Result T E) → (P → Q) → OnOk r P → OnOk r Q
on_ok_part (Ok x) f h = f h
on_ok_part (Err e) f h = tt

pub on_err_part : {T E : Type 0} {P Q : Type 0} (r : Result T E) → (P → Q) → OnErr r P → OnErr r Q
on_err_part (Ok x) f h = tt
on_err_part (Err e) f h = f h
