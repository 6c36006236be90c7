-- Reading step by step, with positions: each step leaves what the whole gives.
use Prim.Native.Nat.{ℕ, suc, ◌+◌}
use mathlib.Core.Path.{◌≡◌, refl, ap, ap₂, sym, ◌∙◌}
use mathlib.Core.List.{List, [], ◌∷◌, ◌++◌, append_assoc, append-nil}
use mathlib.Core.Option.{Option, none, some}
use native.Mathlib.Omega.{arith}
use native.Mathlib.Nat.{add-zero}
use lib.ListN.{length, length-append}
use Rattle.pcode.specs.Pcode.{Header, define}
use Rattle.action_format.specs.Lists.{Single, single}
use Rattle.action_format.specs.Code.{Code, act, fun}
use Rattle.action_format.specs.Bytes.{Bytes, single_bytes, header_bytes, code_bytes}
use Rattle.action_format.specs.Offsets.{and_then}
use Rattle.action_format.specs.Readers.{bind, ◌>>=◌, pure, read_bytes, spent}
use Rattle.action_format.specs.Decode.{alone, header, read_record, read_list}
use Rattle.action_format.proofs.Readers.{Split, reads_bytes}
use Rattle.action_format.proofs.Bodies.{WrittenCode, reads_code, three}
use Rattle.action_format.proofs.Resume.{list_single, list_header, list_short, list_end_lem}
use Rattle.list_slice.specs.Read.{Placed, at, body_at_code}
use Rattle.action_reader.specs.Walk.{Ended, ended_at, spread, Open, Rest, defined, close, after_list}

-- what is read whole has the bytes of its code
pub body_length : (d : Bytes) (b : Code) (left : Bytes) → read_list d ≡ some (b, left) → length d ≡ length (code_bytes b) + length left
body_length d b left e =
    let p : Split WrittenCode d b left = (reads_code (suc (length d))).run d b left e in
    ap length p.is ∙ length-append p.own left ∙ ap (λ (z : Bytes). length z + length left) p.fact.bytes_are

cut_length : (n : ℕ) (r d rest : Bytes) → read_bytes n r ≡ some (d, rest) → length d ≡ n
cut_length n r d rest e = ((reads_bytes n).run r d rest e).fact.1

module _ (k : Rest) (own : List Placed) (ls : List Ended) (p : ℕ) (r : Bytes) where
  -- an action without a body joins the present list
  pub step_single : (a : Single) (s : Bytes) → read_record r ≡ some (alone a, s) →
      after_list k own ls p r ≡ after_list k (own ++ (at (single a) p ∷ [])) ls (p + length (single_bytes a)) s
  unfolding spread code_bytes
  step_single a s e = rw (list_single r a s e) (go (read_list s))
    where
      go : (o : Option (Code × Bytes)) →
          and_then (bind o (λ c. pure (act a c))) (λ x. k (own ++ (spread (length ls) p x.0).own) (ls ++ (spread (length ls) p x.0).lists) (p + length (code_bytes x.0)) x.1) ≡
          and_then o (λ x. k ((own ++ (at (single a) p ∷ [])) ++ (spread (length ls) (p + length (single_bytes a)) x.0).own)
          (ls ++ (spread (length ls) (p + length (single_bytes a)) x.0).lists) (p + length (single_bytes a) + length (code_bytes x.0)) x.1)
      go none = refl
      go (some x) =
          let q : p + length (single_bytes a ++ code_bytes x.0) ≡ p + length (single_bytes a) + length (code_bytes x.0) =
          rw (length-append (single_bytes a) (code_bytes x.0)) (omega arith) in
          ap₂ (λ (zs : List Placed) (i : ℕ). k zs (ls ++ (spread (length ls) (p + length (single_bytes a)) x.0).lists) i x.1)
          (sym (append_assoc own (at (single a) p ∷ []) (spread (length ls) (p + length (single_bytes a)) x.0).own)) q

  -- a body longer than what is left
  pub step_short : (h : Header) (size : ℕ) (s : Bytes) → read_record r ≡ some (header h size, s) → read_bytes size s ≡ none → after_list k own ls p r ≡ none
  step_short h size s e q = rw (list_short r h size s e q)

  -- no further record can be read: the present list ends
  pub step_end : read_record r ≡ none → after_list k own ls p r ≡ k own ls p r
  unfolding spread code_bytes
  step_end e = rw (list_end_lem r e, append-nil own, append-nil ls, add-zero p)

  -- a function's body is the present list from now on
  pub step_header : (h : Header) (size : ℕ) (s d rest : Bytes) (stop : ℕ) → read_record r ≡ some (header h size, s) → read_bytes size s ≡ some (d, rest) →
      after_list k own ls p r ≡ after_list (close (after_list k) (record { header = h; position = p; around = own; rest = rest; stop = stop })) [] ls (p + length (header_bytes h size)) d
  unfolding spread code_bytes
  step_header h size s d rest stop e q = rw (list_header r h size s d rest e q) (go (read_list d) (λ b left z. body_length d b left z))
    where
      f : Open
      f = record { header = h; position = p; around = own; rest = rest; stop = stop }

      from : ℕ
      from = p + length (header_bytes h size)

      whole : length d ≡ size
      whole = cut_length size s d rest q

      after_this : (b : Code) → length (code_bytes b) ≡ size → (o : Option (Code × Bytes)) →
          and_then (bind o (λ c. pure (fun h b c))) (λ x. k (own ++ (spread (length ls) p x.0).own) (ls ++ (spread (length ls) p x.0).lists) (p + length (code_bytes x.0)) x.1) ≡
          and_then o (λ x.
          k ((own ++ (defined f (suc (length (ls ++ (spread (length ls) from b).lists))) ∷ [])) ++ (spread (length ((ls ++ (spread (length ls) from b).lists) ++ (ended_at (spread (length ls) from b).own (from + length (code_bytes b)) ∷ []))) (from + length (code_bytes b)) x.0).own)
          (((ls ++ (spread (length ls) from b).lists) ++ (ended_at (spread (length ls) from b).own (from + length (code_bytes b)) ∷ [])) ++ (spread (length ((ls ++ (spread (length ls) from b).lists) ++ (ended_at (spread (length ls) from b).own (from + length (code_bytes b)) ∷ []))) (from + length (code_bytes b)) x.0).lists)
          (from + length (code_bytes b) + length (code_bytes x.0)) x.1)
      after_this b z none = refl
      after_this b z (some x) =
          let c : Code = x.0 in
          let bp : body_at_code p h b ≡ from = ap (λ (i : ℕ). p + length (header_bytes h i)) z in
          let done : List Ended = (spread (length ls) from b).lists in
          let inner : Ended = ended_at (spread (length ls) from b).own (from + length (code_bytes b)) in
          let m : ℕ = length ls + length done in
          let n : length (ls ++ done) ≡ m = length-append ls done in
          let n' : length ((ls ++ done) ++ (inner ∷ [])) ≡ suc m = simp length-append (omega arith) in
          let l : p + length (code_bytes (fun h b c)) ≡ from + length (code_bytes b) + length (code_bytes c) =
          rw (three (header_bytes h (length (code_bytes b))) (code_bytes b) (code_bytes c), z) (omega arith) in
          rw (
            l,
            bp,
            n',
            n,
            append_assoc own (at (define h (suc m)) p ∷ []) (spread (suc m) (from + length (code_bytes b)) c).own,
            append_assoc (ls ++ done) (inner ∷ []) (spread (suc m) (from + length (code_bytes b)) c).lists,
            append_assoc ls done (inner ∷ (spread (suc m) (from + length (code_bytes b)) c).lists),
          )

      body : (b : Code) (left : Bytes) → length d ≡ length (code_bytes b) + length left →
          and_then (bind (spent b left rest) (λ b. read_list >>= λ c. pure (fun h b c))) (λ x. k (own ++ (spread (length ls) p x.0).own) (ls ++ (spread (length ls) p x.0).lists) (p + length (code_bytes x.0)) x.1) ≡
          close (after_list k) f (spread (length ls) from b).own (ls ++ (spread (length ls) from b).lists) (from + length (code_bytes b)) left
      body b [] z = after_this b (omega (arith, whole)) (read_list rest)
      body b (y ∷ left) z = refl

      go : (o : Option (Code × Bytes)) → ((b : Code) (left : Bytes) → o ≡ some (b, left) → length d ≡ length (code_bytes b) + length left) →
          and_then (bind (bind o (λ b left. spent b left rest)) (λ b. read_list >>= λ c. pure (fun h b c))) (λ x. k (own ++ (spread (length ls) p x.0).own) (ls ++ (spread (length ls) p x.0).lists) (p + length (code_bytes x.0)) x.1) ≡
          and_then o (λ x. close (after_list k) f ([] ++ (spread (length ls) from x.0).own) (ls ++ (spread (length ls) from x.0).lists) (from + length (code_bytes x.0)) x.1)
      go none z = refl
      go (some x) z = body x.0 x.1 (z x.0 x.1 refl)
