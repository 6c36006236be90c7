-- Reading step by step: each step leaves what the whole gives.
use Prim.Native.Nat.{ℕ, zero, suc, ◌+◌, ◌<◌}
use mathlib.Core.Path.{◌≡◌, refl, ap, ap₂, sym, ◌∙◌}
use mathlib.Core.List.{List, [], ◌∷◌, ◌++◌, append_assoc, append-nil}
use mathlib.Core.Option.{Option, none, some}
use native.Mathlib.Omega.{arith}
use native.Mathlib.Nat.{not-suc-le-zero}
use lib.ListN.{length, length-append}
use Rattle.pcode.specs.Pcode.{Header, Action, define}
use Rattle.action_format.specs.Lists.{Single, single}
use Rattle.action_format.specs.Code.{Code, end, act, fun, flat}
use Rattle.action_format.specs.Bytes.{Bytes}
use Rattle.action_format.specs.Offsets.{and_then}
use Rattle.action_format.specs.Readers.{bind, ◌>>=◌, pure, read_bytes, spent, read_inside}
use Rattle.action_format.specs.Decode.{Record, alone, header, read_record, next, continue, read_code, read_list}
use Rattle.action_format.specs.Resume.{own_with, lists_with, Rest, close, after_list}
use Rattle.action_format.proofs.Readers.{Split, reads_bytes}
use Rattle.action_format.proofs.Records.{record_bytes, Written, reads_one}
use Rattle.action_format.proofs.Bodies.{record_fills}

-- a record takes a byte or more
shorter : (r : Bytes) (x : Record) (s : Bytes) → read_record r ≡ some (x, s) → length s < length r
shorter r x s e =
    let p : Split Written r x s = reads_one.run r x s e in
    let f : 0 < length (record_bytes x) = record_fills x in
    let n : length r ≡ length p.own + length s = ap length p.is ∙ length-append p.own s in
    let m : length p.own ≡ length (record_bytes x) = ap length p.fact.bytes_are in
    omega arith

-- the parts of what so many bytes were cut from
parts : (n : ℕ) (r d rest : Bytes) → read_bytes n r ≡ some (d, rest) → length r ≡ length d + length rest
parts n r d rest e =
    let p : Split (λ d w. (w ≡ d) × (length d ≡ n)) r d rest = (reads_bytes n).run r d rest e in
    ap length p.is ∙ length-append p.own rest ∙ ap (λ (z : Bytes). length z + length rest) p.fact.0

-- a limit above the number of bytes left is never met

module _ (n m : ℕ) (ih : (s : Bytes) → length s < n → length s < m → read_code n s ≡ read_code m s) where
  same_rest : (h : Header) (b : Code) (left rest : Bytes) → length rest < n → length rest < m →
      bind (spent b left rest) (λ b. read_code n >>= λ c. pure (fun h b c)) ≡ bind (spent b left rest) (λ b. read_code m >>= λ c. pure (fun h b c))
  same_rest h b [] rest k l = rw (ih rest k l)
  same_rest h b (y ∷ left) rest k l = refl

  same_body : (h : Header) (o : Option (Code × Bytes)) (rest : Bytes) → length rest < n → length rest < m →
      bind (bind o (λ b left. spent b left rest)) (λ b. read_code n >>= λ c. pure (fun h b c)) ≡ bind (bind o (λ b left. spent b left rest)) (λ b. read_code m >>= λ c. pure (fun h b c))
  same_body h none rest k l = refl
  same_body h (some x) rest k l = same_rest h x.0 x.1 rest k l

  same_next : (x : Record) (s : Bytes) → length s < n → length s < m → next (read_code n) x s ≡ next (read_code m) x s
  same_next (alone a) s k l = rw (ih s k l)
  same_next (header h size) s k l = go (read_bytes size s) refl
    where
      go : (o : Option (Bytes × Bytes)) → read_bytes size s ≡ o →
          bind o (λ d. read_inside (read_code n) d >>= λ b. read_code n >>= λ c. pure (fun h b c)) ≡ bind o (λ d. read_inside (read_code m) d >>= λ b. read_code m >>= λ c. pure (fun h b c))
      go none q = refl
      go (some y) q =
          let p : length s ≡ length y.0 + length y.1 = parts size s y.0 y.1 q in
          rw (ih y.0 (omega arith) (omega arith)) (same_body h (read_code m y.0) y.1 (omega arith) (omega arith))

pub enough : (n m : ℕ) (r : Bytes) → length r < n → length r < m → read_code n r ≡ read_code m r
unfolding read_code
enough zero m r h k = absurd (not-suc-le-zero h)
enough (suc n) zero r h k = absurd (not-suc-le-zero k)
enough (suc n) (suc m) r h k = go (read_record r) refl (λ s p q. enough n m s p q)
  where
    go : (o : Option (Record × Bytes)) → read_record r ≡ o → ((s : Bytes) → length s < n → length s < m → read_code n s ≡ read_code m s) →
        continue (read_code n) o r ≡ continue (read_code m) o r
    go none q ih = refl
    go (some x) q ih =
        let l : length x.1 < length r = shorter r x.0 x.1 q in
        same_next n m ih x.0 x.1 (omega arith) (omega arith)

-- how a list's reading goes on

pub list_single : (r : Bytes) (a : Single) (s : Bytes) → read_record r ≡ some (alone a, s) → read_list r ≡ bind (read_list s) (λ c. pure (act a c))
unfolding read_code
list_single r a s e =
    let l : length s < length r = shorter r (alone a) s e in
    rw e (ap (λ (o : Option (Code × Bytes)). bind o (λ c. pure (act a c))) (enough (length r) (suc (length s)) s l (omega arith)))

pub list_header : (r : Bytes) (h : Header) (size : ℕ) (s d rest : Bytes) → read_record r ≡ some (header h size, s) → read_bytes size s ≡ some (d, rest) →
    read_list r ≡ bind (read_inside read_list d rest) (λ b. read_list >>= λ c. pure (fun h b c))
unfolding read_code
list_header r h size s d rest e q =
    let l : length s < length r = shorter r (header h size) s e in
    let p : length s ≡ length d + length rest = parts size s d rest q in
    rw (e, q) (rw (enough (length r) (suc (length d)) d (omega arith) (omega arith)) (go (read_list d) (enough (length r) (suc (length rest)) rest (omega arith) (omega arith))))
  where
    go : (o : Option (Code × Bytes)) → read_code (length r) rest ≡ read_list rest →
        bind (bind o (λ b left. spent b left rest)) (λ b. read_code (length r) >>= λ c. pure (fun h b c)) ≡ bind (bind o (λ b left. spent b left rest)) (λ b. read_list >>= λ c. pure (fun h b c))
    go none z = refl
    go (some x) z = last x.1
      where
        last : (left : Bytes) → bind (spent x.0 left rest) (λ b. read_code (length r) >>= λ c. pure (fun h b c)) ≡ bind (spent x.0 left rest) (λ b. read_list >>= λ c. pure (fun h b c))
        last [] = rw z
        last (y ∷ left) = refl

pub list_short : (r : Bytes) (h : Header) (size : ℕ) (s : Bytes) → read_record r ≡ some (header h size, s) → read_bytes size s ≡ none → read_list r ≡ none
unfolding read_code
list_short r h size s e q = rw (e, q)

pub list_end_lem : (r : Bytes) → read_record r ≡ none → read_list r ≡ some (end, r)
unfolding read_code
list_end_lem r e = rw e

-- the steps, whatever comes after the present list

module _ (k : Rest) (own : List Action) (ls : List (List Action)) (r : Bytes) where
  -- an action without a body joins the present list
  pub step_single : (a : Single) (s : Bytes) → read_record r ≡ some (alone a, s) → after_list k own ls r ≡ after_list k (own ++ (single a ∷ [])) ls s
  step_single a s e = rw (list_single r a s e) (go (read_list s))
    where
      go : (o : Option (Code × Bytes)) → and_then (bind o (λ c. pure (act a c))) (λ x. k (own_with own ls x.0) (lists_with ls x.0) x.1) ≡
          and_then o (λ x. k (own_with (own ++ (single a ∷ [])) ls x.0) (lists_with ls x.0) x.1)
      go none = refl
      go (some x) = ap (λ (zs : List Action). k zs (lists_with ls x.0) x.1) (sym (append_assoc own (single a ∷ []) (flat (length ls) x.0).own))

  -- a function's body is the present list from now on
  pub step_header : (h : Header) (size : ℕ) (s d rest : Bytes) → read_record r ≡ some (header h size, s) → read_bytes size s ≡ some (d, rest) →
      after_list k own ls r ≡ after_list (close (after_list k) (record { header = h; around = own; rest = rest })) [] ls d
  step_header h size s d rest e q = rw (list_header r h size s d rest e q) (go (read_list d))
    where
      after_body : (b : Code) (o : Option (Code × Bytes)) →
          and_then (bind o (λ c. pure (fun h b c))) (λ x. k (own_with own ls x.0) (lists_with ls x.0) x.1) ≡
          and_then o (λ x. k (own_with (own ++ (define h (suc (length (lists_with ls b))) ∷ [])) (lists_with ls b ++ (own_with [] ls b ∷ [])) x.0)
          (lists_with (lists_with ls b ++ (own_with [] ls b ∷ [])) x.0) x.1)
      after_body b none = refl
      after_body b (some x) =
          let c : Code = x.0 in
          let done : List (List Action) = (flat (length ls) b).lists in
          let inner : List Action = (flat (length ls) b).own in
          let m : ℕ = length ls + length done in
          let n : length (ls ++ done) ≡ m = length-append ls done in
          let n' : length ((ls ++ done) ++ (inner ∷ [])) ≡ suc m = simp length-append (omega arith) in
          let p : own ++ (define h (suc m) ∷ (flat (suc m) c).own) ≡ (own ++ (define h (suc (length (ls ++ done))) ∷ [])) ++ (flat (length ((ls ++ done) ++ (inner ∷ []))) c).own =
          rw (n', n) (sym (append_assoc own (define h (suc m) ∷ []) (flat (suc m) c).own)) in
          let q : ls ++ (done ++ (inner ∷ (flat (suc m) c).lists)) ≡ ((ls ++ done) ++ (inner ∷ [])) ++ (flat (length ((ls ++ done) ++ (inner ∷ []))) c).lists = rw n' (simp append_assoc) in
          ap₂ (λ (xs : List Action) (ks : List (List Action)). k xs ks x.1) p q

      body : (b : Code) (left : Bytes) →
          and_then (bind (spent b left rest) (λ b. read_list >>= λ c. pure (fun h b c))) (λ x. k (own_with own ls x.0) (lists_with ls x.0) x.1) ≡
          close (after_list k) (record { header = h; around = own; rest = rest }) (own_with [] ls b) (lists_with ls b) left
      body b [] = after_body b (read_list rest)
      body b (y ∷ left) = refl

      go : (o : Option (Code × Bytes)) →
          and_then (bind (bind o (λ b left. spent b left rest)) (λ b. read_list >>= λ c. pure (fun h b c))) (λ x. k (own_with own ls x.0) (lists_with ls x.0) x.1) ≡
          and_then o (λ x. close (after_list k) (record { header = h; around = own; rest = rest }) (own_with [] ls x.0) (lists_with ls x.0) x.1)
      go none = refl
      go (some x) = body x.0 x.1

  -- a body longer than what is left
  pub step_short : (h : Header) (size : ℕ) (s : Bytes) → read_record r ≡ some (header h size, s) → read_bytes size s ≡ none → after_list k own ls r ≡ none
  step_short h size s e q = rw (list_short r h size s e q)

  -- no further record can be read: the present list ends
  pub step_end : read_record r ≡ none → after_list k own ls r ≡ k own ls r
  step_end e = rw (list_end_lem r e) (ap₂ (λ (xs : List Action) (ks : List (List Action)). k xs ks r) (append-nil own) (append-nil ls))
