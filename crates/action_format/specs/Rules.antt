-- What a list is (document 01, 'A list').
use Rattle.std.specs.Prelude.{ℕ, ◌+◌, ◌^◌, List, [], ◌∷◌, Bool, true, false, ◌&&◌, T, leb, ltb, length, drop}
use Rattle.std.proofs.Math.Option.{Option, none, some}
use Rattle.hir.specs.Hir.{Str}
use Rattle.pcode.specs.Pcode.{Value, Param, Header, Plain, Action, Null, Undefined, True, False, String, Integer, Float, Register, Constant, DefineFunction, DefineFunction2, op, ConstantPool, StoreRegister, GotoFrame, GotoFrame2, GotoLabel, plain, push, branch, define}
use Rattle.action_format.specs.Lists.{Lists, all_lists, all, Numbered}
use Rattle.action_format.specs.Strings.{zero_free, lists_are_utf8}

-- operands in their ranges, in a list of so many actions; pool is the pool's count

abbrev pub value_fits : (pool : ℕ) → Value → Bool
value_fits pool (String s) = true
value_fits pool Null = true
value_fits pool Undefined = true
value_fits pool True = true
value_fits pool False = true
value_fits pool (Integer v) = ltb v (2 ^ 32)
value_fits pool (Float v) = ltb v (2 ^ 64)
value_fits pool (Register r) = ltb r 256
value_fits pool (Constant i) = ltb i pool

abbrev pub plain_fits : Plain → Bool
plain_fits (op o) = true
plain_fits (ConstantPool ss) = true
plain_fits (StoreRegister r) = ltb r 256
plain_fits (GotoFrame n) = ltb n 65536
plain_fits (GotoFrame2 p) = true
plain_fits (GotoLabel s) = true

-- DefineFunction2 has 2 registers or more, and nine marks
abbrev pub header_fits : Header → Bool
header_fits (DefineFunction n ps) = true
header_fits (DefineFunction2 n ps r m) = leb 2 r && ltb r 256 && ltb m 512 && all (λ (p : Param). ltb p.register 256) ps

abbrev pub filled : List Value → Bool
filled [] = false
filled (v ∷ vs) = true

abbrev pub fits : (pool places : ℕ) → Action → Bool
fits pool n (plain p) = plain_fits p
fits pool n (push vs) = filled vs && all (value_fits pool) vs
fits pool n (branch b p) = leb p n
fits pool n (define h k) = header_fits h

abbrev pub list_fits : (pool : ℕ) → List Action → Bool
list_fits pool xs = all (fits pool (length xs)) xs

-- ConstantPool first in the top list and nowhere else

abbrev pub plain_pool : Plain → Option (List Str)
plain_pool (op o) = none
plain_pool (ConstantPool ss) = some ss
plain_pool (StoreRegister r) = none
plain_pool (GotoFrame n) = none
plain_pool (GotoFrame2 p) = none
plain_pool (GotoLabel s) = none

abbrev pub action_pool : Action → Option (List Str)
action_pool (plain p) = plain_pool p
action_pool (push vs) = none
action_pool (branch b p) = none
action_pool (define h n) = none

abbrev pub no_pool : Action → Bool
no_pool a = elim (action_pool a) [ none ↦ true | some ss ↦ false ]

abbrev pub first_pool : List Action → Option (List Str)
first_pool [] = none
first_pool (a ∷ xs) = action_pool a

abbrev pub pool_first : Lists → Bool
pool_first l = elim (first_pool l.top) [ none ↦ false | some ss ↦ all no_pool (drop 1 l.top) && all (all no_pool) l.functions ]

abbrev pub pool_count : Lists → ℕ
pool_count l = elim (first_pool l.top) [ none ↦ 0 | some ss ↦ length ss ]

-- the limits on all lists together; the pool is an action too

pub record Limits : Type 0 where
  pub actions : ℕ
  pub values : ℕ

-- document 01's
abbrev pub limits_01 : Limits
limits_01 = record { actions = 1024; values = 2048 }

abbrev pub total : {A : Type 0} → (A → ℕ) → List A → ℕ
total f [] = 0
total f (x ∷ xs) = f x + total f xs

abbrev pub action_values : Action → ℕ
action_values (plain p) = 0
action_values (push vs) = length vs
action_values (branch b p) = 0
action_values (define h n) = 0

abbrev pub within : Limits → Lists → Bool
within limits l = leb (total length (all_lists l)) limits.actions && leb (total (total action_values) (all_lists l)) limits.values

-- the rules that a test decides
abbrev pub shaped : Limits → Lists → Bool
shaped limits l = pool_first l && all (list_fits (pool_count l)) (all_lists l) && lists_are_utf8 l && within limits l

-- lists as lowering makes them: all rules but the one on zero bytes, which refusal 9 tests
pub record OfLowering (limits : Limits) (l : Lists) : Type 0 where
  pub tested : T (shaped limits l)
  pub numbered : Numbered l.functions 0 l.top (length l.functions)

pub record IsLists (limits : Limits) (l : Lists) : Type 0 where
  pub of_lowering : OfLowering limits l
  pub no_zeros : T (zero_free l)
