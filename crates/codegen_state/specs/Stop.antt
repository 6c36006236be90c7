-- The numbers of what stops lowering.
use Rattle.std.specs.Prelude.{ℕ, Option, Some, None}
use Rattle.codegen_state.specs.declared.Stop.{Stop}
use Rattle.codegen_state.specs.declared.Stop.TheVariants.{NotAssignable, SecondDefault, Negation, TooMany, MarkedTwice}

abbrev pub number_of : Stop → ℕ
number_of NotAssignable = 5
number_of SecondDefault = 6
number_of Negation = 7
number_of TooMany = 8
number_of MarkedTwice = 24

-- 0 where there is none
abbrev pub refusal_of : Option Stop → ℕ
refusal_of None = 0
refusal_of (Some s) = number_of s
