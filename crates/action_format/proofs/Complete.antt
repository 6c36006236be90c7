-- What lists write is read back as those lists.
use Prim.Native.Nat.{ℕ, suc, ◌<◌, ◌≤◌}
use mathlib.Core.Path.{◌≡◌, ap, ◌∙◌}
use mathlib.Core.List.{List, [], ◌∷◌, ◌++◌}
use mathlib.Core.Option.{some}
use mathlib.Core.Bool.{Bool, true, false, ◌&&◌}
use native.Mathlib.Omega.{arith}
use lib.Dec.{T, leb, leb→le}
use lib.ListN.{length, length-append}
use Rattle.pcode.specs.Pcode.{Action}
use Rattle.utf8.specs.Utf8.{utf8}
use Rattle.action_format.specs.Lists.{Lists, all_lists, all, all_actions}
use Rattle.action_format.specs.Strings.{strings, no_zero, zero_free}
use Rattle.action_format.specs.Rules.{fits, list_fits, pool_first, pool_count, Limits, within, shaped, OfLowering}
use Rattle.action_format.specs.Code.{Code, code}
use Rattle.action_format.specs.Bytes.{Bytes, code_bytes}
use Rattle.action_format.specs.Offsets.{sizes, by_offset, all_near, from_offset}
use Rattle.action_format.specs.Encode.{short, written, Answer, bytes, refused, refusals, unless_refused, encode}
use Rattle.action_format.specs.Decode.{read_code, tested, decode}
use Rattle.action_format.proofs.Tests.{is_true, and_first, and_second, and_both, All, given_true}
use Rattle.action_format.proofs.Bodies.{CodeOk, count, no_more, stops_at_End, code_law}
use Rattle.action_format.proofs.Offsets.{same_sizes, same_short, sizes_fill, places_law}
use Rattle.action_format.proofs.Numbers.{flat_nest}
use Rattle.action_format.proofs.Rules.{every_code, fits_inside, code_ok, pool_small}

-- what an answer of bytes says: no refusal applies
pub record Encoded (l : Lists) (room : ℕ) (b : Bytes) : Type 0 where
  pub no_zeros : T (zero_free l)
  pub is_short : T (short (code l))
  pub is_near : T (all_near (code l))
  pub has_room : length (written (code l)) ≤ room
  pub bytes_are : written (code l) ≡ b

passed : (xs : List (Bool × ℕ)) (a : Answer) (b : Bytes) → unless_refused xs a ≡ bytes b → All (λ (x : Bool × ℕ). T x.0) xs × (a ≡ bytes b)
passed [] a b e = (tt, e)
passed (x ∷ xs) a b e = go x.0 e (λ h. passed xs a b h)
  where
    go : (t : Bool) → elim t as (λ _. Answer) [ true ↦ unless_refused xs a | false ↦ refused x.1 ] ≡ bytes b →
        (unless_refused xs a ≡ bytes b → All (λ (x : Bool × ℕ). T x.0) xs × (a ≡ bytes b)) → (T t × All (λ (x : Bool × ℕ). T x.0) xs) × (a ≡ bytes b)
    go true e h = ((tt, (h e).0), (h e).1)
    go false e h = let z : ◌≡◌ {A = ℕ} 0 1 = cc in let w : ⊥ = omega arith in absurd w

pub encoded : (l : Lists) (room : ℕ) (b : Bytes) → encode l room ≡ bytes b → Encoded l room b
unfolding encode
encoded l room b e =
    let h : All (λ (x : Bool × ℕ). T x.0) (refusals l room) × (bytes (written (code l)) ≡ bytes b) = passed (refusals l room) (bytes (written (code l))) b e in
    let enough : T (leb (length (written (code l))) room) = search in
    record { no_zeros = search; is_short = search; is_near = search; has_room = leb→le (length (written (code l))) room enough; bytes_are = cc h.1 }

pub not_refused : (l : Lists) (room : ℕ) → T (zero_free l) → T (short (code l)) → T (all_near (code l)) → T (leb (length (written (code l))) room) →
    encode l room ≡ bytes (written (code l))
unfolding encode
not_refused l room z s n r =
    rw (is_true (zero_free l) z, is_true (short (code l)) s, is_true (all_near (code l)) n, is_true (leb (length (written (code l))) room) r)

-- lists that were encoded, as their nested list: its records can be read, and its offsets lead to its places

module _ (limits : Limits) (l : Lists) (h : OfLowering limits l) where
  abbrev rules : T (pool_first l && all (list_fits (pool_count l)) (all_lists l))
  rules =
      let p : Bool = pool_first l && all (list_fits (pool_count l)) (all_lists l) in
      let u : Bool = all_actions (λ (a : Action). all utf8 (strings a)) l in
      and_first p u (and_first (p && u) (within limits l) h.tested)

  pub operands : T (all (list_fits (pool_count l)) (all_lists l))
  operands = and_second (pool_first l) (all (list_fits (pool_count l)) (all_lists l)) rules

  pub readable : T (zero_free l) → T (short (code l)) → CodeOk (by_offset (code l))
  readable z s =
      code_ok (pool_count l) (pool_small l s) (sizes (code l)) 0 (length (sizes (code l))) (code l) (every_code (fits (pool_count l)) l operands)
      (every_code (λ _ a. all no_zero (strings a)) l z)

  pub landing : T (all_near (code l)) → from_offset (by_offset (code l)) ≡ some (code l)
  landing n =
      rw (same_sizes (sizes (code l)) 0 (code l))
      (places_law (sizes (code l)) (sizes_fill (code l)) 0 (code l) (fits_inside (pool_count l) (length (sizes (code l))) (code l) (every_code (fits (pool_count l)) l operands)) n)

  -- the records up to End
  pub up_to_End : (room : ℕ) (b : Bytes) → Encoded l room b → (n : ℕ) → count (by_offset (code l)) < n → (r : Bytes) →
      read_code n (code_bytes (by_offset (code l)) ++ (0 ∷ r)) ≡ some (by_offset (code l), 0 ∷ r)
  up_to_End room b e n k r =
      code_law (by_offset (code l)) n (0 ∷ r) k (readable e.no_zeros e.is_short) (rw (same_short (sizes (code l)) 0 (code l)) e.is_short) (stops_at_End r)

  -- reading what was written yields the list
  pub complete : (room : ℕ) (b : Bytes) → encode l room ≡ bytes b → decode limits b ≡ some l
  unfolding decode
  complete room b e =
      let c : Code = code l in
      let d : Code = by_offset c in
      let x : Encoded l room b = encoded l room b e in
      let n : count d < suc (length (written c)) = rw (length-append (code_bytes d) (0 ∷ [])) (omega (arith, no_more d)) in
      rw (← x.bytes_are, up_to_End room b x (suc (length (written c))) n [], landing x.is_near)
      (ap (tested limits) (flat_nest l h.numbered)
      ∙ given_true (shaped limits l && zero_free l) (some l) (and_both (shaped limits l) (zero_free l) h.tested x.no_zeros))
