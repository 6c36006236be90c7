-- The numbers of the refusals (document 01, 'Refusals').
use Rattle.std.specs.Prelude.{ℕ, Result, Ok, Err}
use Rattle.refusal.specs.declared.Refusal.{Refusal}
use Rattle.refusal.specs.declared.Refusal.TheVariants.{BrokenRule, NotUtf8, Unsupported, OverLimit, NotAssignable, SecondDefault, Negation, TooMany, ZeroByte, TooLong, TooFar, ShortOutput, ShortList, NotActions}

abbrev pub number_of : Refusal → ℕ
number_of BrokenRule = 1
number_of NotUtf8 = 2
number_of Unsupported = 3
number_of OverLimit = 4
number_of NotAssignable = 5
number_of SecondDefault = 6
number_of Negation = 7
number_of TooMany = 8
number_of ZeroByte = 9
number_of TooLong = 10
number_of TooFar = 11
number_of ShortOutput = 12
number_of ShortList = 13
number_of NotActions = 14

-- the refusal's number, 0 where there is none
abbrev pub refusal_of : {A : Type 0} → Result A Refusal → ℕ
refusal_of (Ok a) = 0
refusal_of (Err e) = number_of e
