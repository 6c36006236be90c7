-- What is cleared keeps its length.
use Prim.Native.Nat.{ℕ}
use mathlib.Core.Path.{◌≡◌, ap, sym, ◌∙◌}
use mathlib.Core.List.{List}
use lib.ListN.{length}
use Rattle.list_slice.specs.Words.{zeros_of}
use Rattle.list_slice.proofs.Areas.{zeros_length}

pub zeros_zeros : (n : ℕ) → zeros_of n ≡ zeros_of (length (zeros_of n))
zeros_zeros n = ap zeros_of (sym (zeros_length n))

pub cleared_long : (w₀ : List ℕ) {w : List ℕ} → w ≡ zeros_of (length w₀) → length w ≡ length w₀
cleared_long w₀ e = ap length e ∙ zeros_length (length w₀)

pub cleared : (w₀ : List ℕ) {w : List ℕ} → w ≡ zeros_of (length w₀) → w ≡ zeros_of (length w)
cleared w₀ e = e ∙ ap zeros_of (sym (cleared_long w₀ e))
