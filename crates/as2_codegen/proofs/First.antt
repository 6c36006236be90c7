-- The words that lowering begins with.
use Prim.Native.Nat.{ℕ, zero, suc, ◌+◌, ◌*◌, ◌≤◌, ◌<◌}
use mathlib.Core.Path.{◌≡◌, refl, ap, ◌∙◌}
use mathlib.Core.List.{List}
use native.Mathlib.Omega.{arith}
use lib.ListN.{length, get_or, replicate}
use Rattle.std.specs.Prelude.{None}
use Rattle.lowering.specs.Builder.{limits01}
use Rattle.lowering.specs.Statement.{start}
use Rattle.list_slice.specs.Entry.{entry, entry_of, piece_of}
use Rattle.list_slice.specs.Words.{zeros_of, entry_at, run, cut}
use Rattle.list_slice.specs.Items.{gathered}
use Rattle.codegen_state.specs.declared.BuilderState.{BuilderState}
use Rattle.codegen_state.specs.View.{state, gather}
use Rattle.codegen_state.specs.Does.{Fine, marked, Written}
use Rattle.codegen_state.specs.Index.{latest}
use Rattle.builder.specs.Entries.{put3}
use Rattle.builder.proofs.Words.{length_put, entry_same, entry_other, getD_put}
use Rattle.as2_codegen.specs.Begin.{Begun}

-- The library's get_or-replicate is of places within the list; behind it the default is 0 too.
zero_at : (n i : ℕ) → get_or {A = ℕ} (replicate n 0) i 0 ≡ 0
zero_at zero i = refl
zero_at (suc n) zero = refl
zero_at (suc n) (suc i) = zero_at n i

pub zeros_at : (n i : ℕ) → get_or (zeros_of n) i 0 ≡ 0
unfolding zeros_of
zeros_at n i = zero_at n i

abbrev pub begun : BuilderState
begun = record {
  actions = 1;
  size = 0;
  refused = None;
  values = 0;
  low = 0;
  top = 4095;
  base = 4096;
  labels = 0;
  marks = 0;
  constants = 0;
  total = 2;
  lists = 0;
  sizes = 0;
}

module _ (w : List ℕ) (long : 20480 ≤ length w) (zeros : w ≡ zeros_of (length w)) where
  abbrev first : List ℕ
  first = put3 w 4095 0x88 0 0

  zero_of : (i : ℕ) → get_or w i 0 ≡ 0
  zero_of i = ap (λ (x : List ℕ). get_or x i 0) zeros ∙ zeros_at (length w) i

  entry_zero : (i : ℕ) → entry_at w i ≡ entry 0 0 0
  unfolding entry_at
  entry_zero i = rw (zero_of (i * 3), zero_of (i * 3 + 1), zero_of (i * 3 + 2))

  pool_entry : entry_at first 4095 ≡ entry 0x88 0 0
  pool_entry = entry_same w 4095 0x88 0 0 (omega arith)

  word_zero : (j : ℕ) → 12288 ≤ j → get_or first j 0 ≡ 0
  word_zero j h = getD_put w 4095 0x88 0 0 j (λ e. omega arith) (λ e. omega arith) (λ e. omega arith) ∙ zero_of j

  written_one : entry_of (piece_of (entry 0x88 0 0)) ≡ entry 0x88 0 0
  unfolding piece_of
  written_one = refl

  written : Written first 4095
  written = rw pool_entry written_one

  at_4095 : (i : ℕ) → 4095 ≤ i → i < 4096 → i ≡ 4095
  at_4095 i p q = omega arith

  code_small : (entry_at first 4095).code < 0x120
  code_small = rw pool_entry (omega arith)

  fine : Fine begun first
  unfolding marked
  fine = record {
    long = rw (length_put w 4095 0x88 0 0) long;
    low = omega arith;
    base = omega arith;
    cap = omega arith;
    bottom = omega arith;
    used = omega arith;
    actions = omega arith;
    values = omega arith;
    labels = omega arith;
    marks = refl;
    size = omega arith;
    lists = omega arith;
    constants = omega arith;
    total = omega arith;
    ends = refl;
    gap = λ i p q. entry_other w 4095 0x88 0 0 i (λ e. omega arith) ∙ entry_zero i;
    pool_entry = pool_entry;
    written_low = λ i h. absurd (omega arith);
    written_top = λ i p q. rw (at_4095 i p q) written;
    later = λ i p q. absurd (omega arith);
    first = λ h. code_small;
    no_label = λ i p q. word_zero (12288 + i) (omega arith);
    no_end = λ i p q. word_zero (13312 + i) (omega arith);
    no_string_lem = λ i p q. word_zero (14336 + i) (omega arith);
  }

  starts : (F : List ℕ) → state F begun first ≡ start limits01
  unfolding state cut gather gathered run piece_of
  starts F = rw pool_entry

  pub begins : (F : List ℕ) → Begun F begun first
  unfolding latest
  begins F = record {
    fine = fine;
    named = record { finished = λ i h. absurd (omega arith); unfinished = λ i p q. absurd (omega arith); strings = λ i h. absurd (omega arith); indexed = record { heads = λ h p. word_zero (16384 + h) (omega arith); links = λ k p. absurd (omega arith) } };
    starts = starts F;
    base = refl;
    unrefused = refl;
  }
