-- What reading answers (document 01): the bytes read, 0 after a refusal.
use Rattle.std.specs.Prelude.{ℕ, Result, Ok, Err}
use Rattle.refusal.specs.declared.Refusal.{Refusal}

abbrev pub length_of : Result ℕ Refusal → ℕ
length_of (Ok n) = n
length_of (Err e) = 0
