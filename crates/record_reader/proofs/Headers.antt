-- The data of functions' records, and of the pool.
use Rattle.std.proofs.Common.{ℕ, ◌<◌, ◌≡◌, refl, ap, sym, ◌∙◌, List, [], ◌∷◌, map, Bool, true, false, ◌&&◌, Some, None, leb, ltb, length}
use mathlib.Core.Option as math
use mathlib.Core.Option.{none, some}
use borrow.Author.Tests.{lt-ltb}
use Rattle.utf8.specs.Utf8.{utf8}
use Rattle.pcode.specs.Pcode.{Param, DefineFunction, DefineFunction2, ConstantPool}
use Rattle.action_format.specs.Lists.{all, simple}
use Rattle.action_format.specs.Bytes.{Bytes}
use Rattle.action_format.specs.Readers.{P, bind, pure, read_byte, word_reader, read_string, read_many}
use Rattle.action_format.specs.Decode.{Record, alone, header, read_param, read_pool, read_function, read_function2}
use Rattle.action_format.proofs.Readers.{Reads, reads_byte, reads_many, reads_string}
use Rattle.record_reader.specs.declared.Kind.TheVariants as kind
use Rattle.record_reader.specs.Heads.{record_holds_in}
use Rattle.record_reader.specs.Steps.{judged, itself, whole, some_of, content_of, param_holds}
use Rattle.record_reader.proofs.Bools.{and_four}
use Rattle.record_reader.proofs.Judged.{Got, got, got_none, all_used, not_used, whole_pure, many_judged}

-- strings and parameters as the code judges them

abbrev pub Strings : (k : ℕ) → Bytes → math.Option (Bool × Bytes)
Strings k r = judged (all itself) (read_many (λ d. judged utf8 (read_string d)) k r)

abbrev pub Params : (k : ℕ) → Bytes → math.Option (Bool × Bytes)
Params k r = judged (all itself) (read_many (λ d. judged param_holds (read_param d)) k r)

no_strings : (k : ℕ) (r : Bytes) → none ≡ Strings k r → read_many read_string k r ≡ none
no_strings k r e = got_none (all utf8) (read_many read_string k r) (e ∙ many_judged utf8 read_string k r)

strings_of : (k : ℕ) (r : Bytes) {t : Bool} {rest : Bytes} → some (t, rest) ≡ Strings k r → Got (all utf8) (read_many read_string k r) t rest
strings_of k r e = got (e ∙ many_judged utf8 read_string k r)

no_params : (k : ℕ) (r : Bytes) → none ≡ Params k r → read_many read_param k r ≡ none
no_params k r e = got_none (all param_holds) (read_many read_param k r) (e ∙ many_judged param_holds read_param k r)

params_of : (k : ℕ) (r : Bytes) {t : Bool} {rest : Bytes} → some (t, rest) ≡ Params k r → Got (all param_holds) (read_many read_param k r) t rest
params_of k r e = got (e ∙ many_judged param_holds read_param k r)

-- data that hold a body's size last

module _ (f : ℕ → Record) (r : Bytes) where
  no_size : None ≡ some_of (whole (word_reader 2 r)) → whole (bind (word_reader 2 r) (λ n. pure (f n))) ≡ none
  no_size e = whole_pure (word_reader 2 r) f ∙ ap (math.map f) (not_used e)

  sized : {n : ℕ} → Some n ≡ some_of (whole (word_reader 2 r)) → whole (bind (word_reader 2 r) (λ n. pure (f n))) ≡ some (f n)
  sized e = whole_pure (word_reader 2 r) f ∙ ap (math.map f) (all_used e)

module _ (p pool : ℕ) (d : Bytes) where
  module _ {r1 r2 : Bytes} {name : Bool} {k : ℕ} (a : some (name, r1) ≡ judged utf8 (read_string d)) (b : some (k, r2) ≡ word_reader 2 r1) where
    pub function_params : none ≡ Strings k r2 → None ≡ content_of p pool (whole (read_function d))
    function_params e = rw ((got a).is, ← b, no_strings k r2 e)

    module _ {r3 : Bytes} {params : Bool} (s : some (params, r3) ≡ Strings k r2) where
      pub function_open : None ≡ some_of (whole (word_reader 2 r3)) → None ≡ content_of p pool (whole (read_function d))
      function_open e =
          let x = got a in
          let y = strings_of k r2 s in
          rw (x.is, ← b, y.is, no_size (header (DefineFunction x.value y.value)) r3 e)

      pub function_whole : {n : ℕ} → Some n ≡ some_of (whole (word_reader 2 r3)) → Some (record { kind = kind.Function n; fits = name && params }) ≡ content_of p pool (whole (read_function d))
      function_whole e =
          let x = got a in
          let y = strings_of k r2 s in
          rw (x.is, ← b, y.is, sized (header (DefineFunction x.value y.value)) r3 e, x.tested, y.tested)

-- the rules on DefineFunction2

params_hold : (ps : List Param) → all param_holds ps ≡ (all (λ (p : Param). ltb p.register 256) ps && all utf8 (map (λ (p : Param). p.name) ps))
params_hold [] = refl
params_hold (p ∷ ps) =
    rw (params_hold ps) (and_four (ltb p.register 256) (utf8 p.name) (all (λ (p : Param). ltb p.register 256) ps) (all utf8 (map (λ (p : Param). p.name) ps)))

-- The library has the order of two tests and the brackets of three. Five tests change places here, from the order of the bytes to that of the rules.
ordered : (a m n rs us : Bool) → (((a && m) && n) && (rs && us)) ≡ ((((a && true) && m) && rs) && (n && us))
ordered true true true rs us = refl
ordered true true false true us = refl
ordered true true false false us = refl
ordered true false n rs us = refl
ordered false m n rs us = refl

holds2 : (g m : ℕ) {name params : Bool} → g < 256 → (s : Bytes) (ps : List Param) → utf8 s ≡ name → all param_holds ps ≡ params →
    (((leb 2 g && ltb m 512) && name) && params) ≡ record_holds_in 0 (header (DefineFunction2 s ps g m) 0)
holds2 g m l s ps e f =
    rw (lt-ltb g 256 l, ← e, ← f, params_hold ps)
    (ordered (leb 2 g) (ltb m 512) (utf8 s) (all (λ (p : Param). ltb p.register 256) ps) (all utf8 (map (λ (p : Param). p.name) ps)))

module _ (p pool : ℕ) (d : Bytes) where
  module _ {r1 r2 r3 r4 : Bytes} {name : Bool} {k g m : ℕ} (a : some (name, r1) ≡ judged utf8 (read_string d)) (b : some (k, r2) ≡ word_reader 2 r1)
      (c : some (g, r3) ≡ read_byte r2) (e : some (m, r4) ≡ word_reader 2 r3) where
    pub function2_params : none ≡ Params k r4 → None ≡ content_of p pool (whole (read_function2 d))
    function2_params h = rw ((got a).is, ← b, ← c, ← e, no_params k r4 h)

    module _ {r5 : Bytes} {params : Bool} (s : some (params, r5) ≡ Params k r4) where
      pub function2_open : None ≡ some_of (whole (word_reader 2 r5)) → None ≡ content_of p pool (whole (read_function2 d))
      function2_open h =
          let x = got a in
          let y = params_of k r4 s in
          rw (x.is, ← b, ← c, ← e, y.is, no_size (header (DefineFunction2 x.value y.value g m)) r5 h)

      pub function2_whole : {n : ℕ} → Some n ≡ some_of (whole (word_reader 2 r5)) →
          Some (record { kind = kind.Function n; fits = ((leb 2 g && ltb m 512) && name) && params }) ≡ content_of p pool (whole (read_function2 d))
      function2_whole {n} h =
          let x = got a in
          let y = params_of k r4 s in
          rw (x.is, ← b, ← c, ← e, y.is, sized (header (DefineFunction2 x.value y.value g m)) r5 h)
          (ap (λ (z : Bool). Some (record { kind = kind.Function n; fits = z })) (holds2 g m (reads_byte.run r2 g r3 (sym c)).fact.1 x.value y.value x.tested y.tested))

-- the pool: a count, and as many strings

abbrev pooled : List Bytes → Record
pooled ss = alone (simple (ConstantPool ss))

pub many_length : {A : Type 0} {p : P A} {f : A → Bytes} → Reads p (λ x w. w ≡ f x) → (n : ℕ) (b r : Bytes) (xs : List A) → read_many p n b ≡ some (xs, r) → length xs ≡ n
many_length h n b r xs e = ((reads_many h n).run b xs r e).fact.1

module _ (p pool : ℕ) (d : Bytes) {r : Bytes} {k : ℕ} (b : some (k, r) ≡ word_reader 2 d) where
  pub pool_open : None ≡ some_of (whole (Strings k r)) → None ≡ content_of p pool (whole (read_pool d))
  pool_open e = rw (← b, whole_pure (read_many read_string k r) pooled) (go (read_many read_string k r) (e ∙ rw (many_judged utf8 read_string k r)))
    where
      go : (o : math.Option (List Bytes × Bytes)) → None ≡ some_of (whole (judged (all utf8) o)) → None ≡ content_of p pool (math.map pooled (whole o))
      go none e = refl
      go (some (x, [])) e = cc
      go (some (x, y ∷ l)) e = refl

  pub pool_whole : {t : Bool} → Some t ≡ some_of (whole (Strings k r)) → Some (record { kind = kind.Pool k; fits = t }) ≡ content_of p pool (whole (read_pool d))
  pool_whole {t} e = rw (← b, whole_pure (read_many read_string k r) pooled) (go (read_many read_string k r) refl (e ∙ rw (many_judged utf8 read_string k r)))
    where
      go : (o : math.Option (List Bytes × Bytes)) → read_many read_string k r ≡ o → Some t ≡ some_of (whole (judged (all utf8) o)) →
          Some (record { kind = kind.Pool k; fits = t }) ≡ content_of p pool (math.map pooled (whole o))
      go none q e = cc
      go (some (x, [])) q e =
          let l = many_length reads_string k r [] x q in
          let f : t ≡ all utf8 x = cc in
          rw (l, f)
      go (some (x, y ∷ l)) q e = cc
