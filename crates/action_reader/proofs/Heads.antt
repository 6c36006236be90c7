-- What a head says of the record that is read.
use Prim.Native.Nat.{ℕ, ◌+◌, ◌-◌, ◌≤◌}
use mathlib.Core.Path.{◌≡◌, refl, sym, ap, ◌∙◌}
use mathlib.Core.List.{List}
use mathlib.Core.Bool.{Bool, true, false, ◌&&◌, true≢false}
use mathlib.Core.Option.{Option, none, some}
use native.Mathlib.Omega.{arith}
use Rattle.std.proofs.Common.{Some, None}
use Rattle.std.proofs.lemmas.Option.{same_Some}
use Rattle.std.proofs.lemmas.Bool.{and_parts, both_ways, false_from_ne_true}
use Rattle.std.proofs.Math.Bool.{and_assoc}
use lib.Dec.{T}
use lib.ListN.{length, drop}
use Rattle.hir.specs.Hir.{Str}
use Rattle.utf8.specs.Utf8.{utf8}
use Rattle.pcode.specs.Pcode.{Value, Plain, Header, Branching, op, ConstantPool, StoreRegister, GotoFrame, GotoFrame2, GotoLabel, plain, push, branch, define}
use Rattle.action_format.specs.Lists.{all, simple, pushing, branching, single}
use Rattle.action_format.specs.Strings.{no_zero, plain_strings, values_strings, header_strings}
use Rattle.action_format.specs.Rules.{plain_fits, value_fits, header_fits, filled, no_pool}
use Rattle.action_format.specs.Bytes.{Bytes}
use Rattle.action_format.specs.Decode.{Record, alone, header, read_record}
use Rattle.action_format.proofs.Tests.{and_first, and_second, and_both}
use Rattle.action_format.proofs.Records.{record_bytes}
use Rattle.list_slice.specs.Entry.{entry_of, branch_code}
use Rattle.list_slice.specs.Items.{plain_piece}
use Rattle.list_slice.specs.Read.{Placed, at, chosen_at}
use Rattle.record_reader.specs.declared.Kind.{Kind}
use Rattle.record_reader.specs.declared.Kind.TheVariants as kind
use Rattle.record_reader.specs.declared.Head.{Head}
use Rattle.record_reader.specs.Heads.{plain_kind, record_kind, record_holds_in, head_of, head_at}
use Rattle.record_reader.proofs.Laws.{RecordAt, record_at}
use Rattle.action_reader.specs.Walk.{aimable, holds}

-- the action that a record makes, before its body's list has a number
abbrev pub made : ℕ → Record → Placed
made p (alone a) = at (single a) p
made p (header h size) = at (define h 0) p

-- a head's record
pub data Told (d : Bytes) (p pool : ℕ) (h : Head) : Type 0 where
  there : (x : Record) (r : Bytes) → read_record (drop p d) ≡ some (x, r) → h.kind ≡ record_kind p x → h.next ≡ p + length (record_bytes x) → h.fits ≡ record_holds_in pool x → RecordAt d p x r → Told d p pool h

pub told : (d : Bytes) (p pool : ℕ) (h : Head) → p ≤ length d → Some h ≡ head_at d p pool → Told d p pool h
unfolding head_at
told d p pool h l e = go (read_record (drop p d)) refl e
  where
    go : (o : Option (Record × Bytes)) → read_record (drop p d) ≡ o → Some h ≡ head_of p (length d) pool o → Told d p pool h
    go none q z = cc
    go (some x) q z =
        let k = record_at x.0 x.1 l q in
        let y = same_Some h (record { kind = record_kind p x.0; next = length d - length x.1; fits = record_holds_in pool x.0 }) z in
        there x.0 x.1 q (ap (λ (y : Head). y.kind) y) (ap (λ (y : Head). y.next) y ∙ k.next) (ap (λ (y : Head). y.fits) y) k

-- where there is no head, there is no record
pub untold : (d : Bytes) (p pool : ℕ) → None ≡ head_at d p pool → read_record (drop p d) ≡ none
unfolding head_at
untold d p pool e = go (read_record (drop p d)) e
  where
    go : (o : Option (Record × Bytes)) → None ≡ head_of p (length d) pool o → o ≡ none
    go none z = refl
    go (some x) z = cc

-- a record that breaks a rule makes an action that does

-- The library's `and_parts` is of two tests. This gives the middle two of four.
middle : (a b c d : Bool) → a && (b && (c && d)) ≡ true → (b && c) ≡ true
middle a b c d h = (and_parts (b && c) d (and_assoc b c d ∙ (and_parts a (b && (c && d)) h).1)).0

pub breaks : (p pool : ℕ) (x : Record) → record_holds_in pool x ≡ false → holds pool (made p x) ≡ false
breaks p pool (alone (simple a)) h =
    false_from_ne_true (holds pool (at (plain a) p))
    (λ e. both_ways (plain_fits a && all utf8 (plain_strings a)) h (middle (no_pool (plain a)) (plain_fits a) (all utf8 (plain_strings a)) (all no_zero (plain_strings a)) e))
breaks p pool (alone (pushing vs)) h =
    false_from_ne_true (holds pool (at (push vs) p))
    (λ e. both_ways ((filled vs && all (value_fits pool) vs) && all utf8 (values_strings vs)) h
    (middle true (filled vs && all (value_fits pool) vs) (all utf8 (values_strings vs)) (all no_zero (values_strings vs)) e))
breaks p pool (alone (branching b o)) h = absurd (true≢false h)
breaks p pool (header x size) h =
    false_from_ne_true (holds pool (at (define x 0) p))
    (λ e. both_ways (header_fits x && all utf8 (header_strings x)) h (middle true (header_fits x) (all utf8 (header_strings x)) (all no_zero (header_strings x)) e))

-- The library's `and_from` is of two equations. This puts the middle two of four tests between the others.
four : (a b c d : Bool) → T a → T (b && c) → T d → T (a && (b && (c && d)))
four a b c d p q r = and_both a (b && (c && d)) p (and_both b (c && d) (and_first b c q) (and_both c d (and_second b c q) r))

-- and one that breaks none makes one that holds, if it is no pool and no branch

pub plain_holds : (p pool : ℕ) (a : Plain) → T (no_pool (plain a)) → T (record_holds_in pool (alone (simple a))) → T (all no_zero (plain_strings a)) → T (holds pool (at (plain a) p))
plain_holds p pool a n h z = four (no_pool (plain a)) (plain_fits a) (all utf8 (plain_strings a)) (all no_zero (plain_strings a)) n h z

pub push_holds : (p pool : ℕ) (vs : List Value) → T (record_holds_in pool (alone (pushing vs))) → T (all no_zero (values_strings vs)) → T (holds pool (at (push vs) p))
push_holds p pool vs h z = four true (filled vs && all (value_fits pool) vs) (all utf8 (values_strings vs)) (all no_zero (values_strings vs)) tt h z

pub branch_holds : (p pool : ℕ) (b : Branching) (o : ℕ) → T (aimable p o) → T (holds pool (at (branch b o) p))
branch_holds p pool b o h = and_both (aimable p o) true h tt

pub branch_breaks : (p pool : ℕ) (b : Branching) (o : ℕ) → aimable p o ≡ false → holds pool (at (branch b o) p) ≡ false
branch_breaks p pool b o h = rw h

pub header_holds : (p pool : ℕ) (x : Header) (size : ℕ) → T (record_holds_in pool (header x size)) → T (all no_zero (header_strings x)) → T (holds pool (at (define x 0) p))
header_holds p pool x size h z = four true (header_fits x) (all utf8 (header_strings x)) (all no_zero (header_strings x)) tt h z

-- kinds

tag : Kind → ℕ
tag (kind.Plain c f) = 1
tag (kind.Pool n) = 2
tag (kind.Push n) = 3
tag (kind.Branch c o) = 4
tag (kind.Function n) = 5

first_of : Kind → ℕ
first_of (kind.Plain c f) = c
first_of (kind.Pool n) = n
first_of (kind.Push n) = n
first_of (kind.Branch c o) = c
first_of (kind.Function n) = n

second_of : Kind → ℕ
second_of (kind.Plain c f) = f
second_of (kind.Pool n) = 0
second_of (kind.Push n) = 0
second_of (kind.Branch c o) = o
second_of (kind.Function n) = 0

pub record IsPlain (p : ℕ) (x : Record) (c f : ℕ) : Type 0 where
  pub action : Plain
  pub is : x ≡ alone (simple action)
  pub pool_free : T (no_pool (plain action))
  pub code : c ≡ (entry_of (plain_piece (chosen_at p) action)).code
  pub first : f ≡ (entry_of (plain_piece (chosen_at p) action)).first
  pub second : (entry_of (plain_piece (chosen_at p) action)).second ≡ 0

other : {A : Type 0} (m n : ℕ) (k l : Kind) → tag k ≡ m → tag l ≡ n → (m ≡ n → ⊥) → k ≡ l → A
other m n k l p q h e = absurd (h (sym p ∙ ap tag e ∙ q))

pub plain_told : (p : ℕ) (x : Record) (c f : ℕ) → record_kind p x ≡ kind.Plain c f → IsPlain p x c f
unfolding tag first_of second_of
plain_told p (alone (simple (op o))) c f e = record { action = op o; is = refl; pool_free = tt; code = sym (ap first_of e); first = sym (ap second_of e); second = refl }
plain_told p (alone (simple (ConstantPool ss))) c f e = other 2 1 (kind.Pool (length ss)) (kind.Plain c f) refl refl (λ z. omega arith) e
plain_told p (alone (simple (StoreRegister r))) c f e = record { action = StoreRegister r; is = refl; pool_free = tt; code = sym (ap first_of e); first = sym (ap second_of e); second = refl }
plain_told p (alone (simple (GotoFrame n))) c f e = record { action = GotoFrame n; is = refl; pool_free = tt; code = sym (ap first_of e); first = sym (ap second_of e); second = refl }
plain_told p (alone (simple (GotoFrame2 t))) c f e = record { action = GotoFrame2 t; is = refl; pool_free = tt; code = sym (ap first_of e); first = sym (ap second_of e); second = refl }
plain_told p (alone (simple (GotoLabel s))) c f e = record { action = GotoLabel s; is = refl; pool_free = tt; code = sym (ap first_of e); first = sym (ap second_of e); second = refl }
plain_told p (alone (pushing vs)) c f e = other 3 1 (kind.Push (length vs)) (kind.Plain c f) refl refl (λ z. omega arith) e
plain_told p (alone (branching b o)) c f e = other 4 1 (kind.Branch (branch_code b) o) (kind.Plain c f) refl refl (λ z. omega arith) e
plain_told p (header h size) c f e = other 5 1 (kind.Function size) (kind.Plain c f) refl refl (λ z. omega arith) e

plain_tag : (p : ℕ) (a : Plain) → tag (plain_kind p a) ≤ 2
unfolding tag
plain_tag p (op o) = omega arith
plain_tag p (ConstantPool ss) = omega arith
plain_tag p (StoreRegister r) = omega arith
plain_tag p (GotoFrame n) = omega arith
plain_tag p (GotoFrame2 t) = omega arith
plain_tag p (GotoLabel s) = omega arith

pub record IsPush (x : Record) (n : ℕ) : Type 0 where
  pub values : List Value
  pub is : x ≡ alone (pushing values)
  pub count : length values ≡ n

pub push_told : (p : ℕ) (x : Record) (n : ℕ) → record_kind p x ≡ kind.Push n → IsPush x n
unfolding tag first_of
push_told p (alone (simple a)) n e = absurd (omega (arith, plain_tag p a, ap tag e))
push_told p (alone (pushing vs)) n e = record { values = vs; is = refl; count = ap first_of e }
push_told p (alone (branching b o)) n e = other 4 3 (kind.Branch (branch_code b) o) (kind.Push n) refl refl (λ z. omega arith) e
push_told p (header h size) n e = other 5 3 (kind.Function size) (kind.Push n) refl refl (λ z. omega arith) e

pub record IsBranch (x : Record) (c o : ℕ) : Type 0 where
  pub branching' : Branching
  pub is : x ≡ alone (branching branching' o)
  pub code : c ≡ branch_code branching'

pub branch_told : (p : ℕ) (x : Record) (c o : ℕ) → record_kind p x ≡ kind.Branch c o → IsBranch x c o
unfolding tag first_of second_of
branch_told p (alone (simple a)) c o e = absurd (omega (arith, plain_tag p a, ap tag e))
branch_told p (alone (pushing vs)) c o e = other 3 4 (kind.Push (length vs)) (kind.Branch c o) refl refl (λ z. omega arith) e
branch_told p (alone (branching b n)) c o e = record { branching' = b; is = ap (λ (m : ℕ). alone (branching b m)) (ap second_of e); code = sym (ap first_of e) }
branch_told p (header h size) c o e = other 5 4 (kind.Function size) (kind.Branch c o) refl refl (λ z. omega arith) e

pub record IsFunction (x : Record) (size : ℕ) : Type 0 where
  pub header' : Header
  pub is : x ≡ header header' size

pub function_told : (p : ℕ) (x : Record) (n : ℕ) → record_kind p x ≡ kind.Function n → IsFunction x n
unfolding tag first_of
function_told p (alone (simple a)) n e = absurd (omega (arith, plain_tag p a, ap tag e))
function_told p (alone (pushing vs)) n e = other 3 5 (kind.Push (length vs)) (kind.Function n) refl refl (λ z. omega arith) e
function_told p (alone (branching b o)) n e = other 4 5 (kind.Branch (branch_code b) o) (kind.Function n) refl refl (λ z. omega arith) e
function_told p (header h size) n e = record { header' = h; is = ap (header h) (ap first_of e) }

pub record IsPool (x : Record) (n : ℕ) : Type 0 where
  pub strings : List Str
  pub is : x ≡ alone (simple (ConstantPool strings))
  pub count : length strings ≡ n

pub pool_told : (p : ℕ) (x : Record) (n : ℕ) → record_kind p x ≡ kind.Pool n → IsPool x n
unfolding tag first_of
pool_told p (alone (simple (op o))) n e = other 1 2 (plain_kind p (op o)) (kind.Pool n) refl refl (λ z. omega arith) e
pool_told p (alone (simple (ConstantPool ss))) n e = record { strings = ss; is = refl; count = ap first_of e }
pool_told p (alone (simple (StoreRegister r))) n e = other 1 2 (plain_kind p (StoreRegister r)) (kind.Pool n) refl refl (λ z. omega arith) e
pool_told p (alone (simple (GotoFrame m))) n e = other 1 2 (plain_kind p (GotoFrame m)) (kind.Pool n) refl refl (λ z. omega arith) e
pool_told p (alone (simple (GotoFrame2 t))) n e = other 1 2 (plain_kind p (GotoFrame2 t)) (kind.Pool n) refl refl (λ z. omega arith) e
pool_told p (alone (simple (GotoLabel s))) n e = other 1 2 (plain_kind p (GotoLabel s)) (kind.Pool n) refl refl (λ z. omega arith) e
pool_told p (alone (pushing vs)) n e = other 3 2 (kind.Push (length vs)) (kind.Pool n) refl refl (λ z. omega arith) e
pool_told p (alone (branching b o)) n e = other 4 2 (kind.Branch (branch_code b) o) (kind.Pool n) refl refl (λ z. omega arith) e
pool_told p (header h size) n e = other 5 2 (kind.Function size) (kind.Pool n) refl refl (λ z. omega arith) e

-- a pool makes no action that holds
pub pool_breaks : (p pool : ℕ) (x : Record) (n : ℕ) → record_kind p x ≡ kind.Pool n → holds pool (made p x) ≡ false
pool_breaks p pool x n e = let q = pool_told p x n e in ap (λ (z : Record). holds pool (made p z)) q.is
