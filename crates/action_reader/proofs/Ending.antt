-- What `read` answers.
use Prim.Native.Nat.{ℕ, ◌≤◌, ◌<◌}
use mathlib.Core.Path.{◌≡◌}
use mathlib.Core.List.{List}
use mathlib.Core.Option.{none}
use lib.ListN.{length}
use borrow.Author.Tests.{lt-ltb, le-ltb}
use Rattle.lowering.specs.Builder.{limits01}
use Rattle.list_slice.specs.Words.{zeros_of}
use Rattle.definition.specs.Read.{read_with}
use Rattle.definition.specs.Left.{Reads}
use Rattle.action_format.specs.Decode.{decode}
use Rattle.definition.specs.Outcome.{byte_limits}
use Rattle.action_reader.specs.Walked.{Done}

pub too_short : (b w : List ℕ) {n : ℕ} → n < 16384 → w ≡ zeros_of n → Reads limits01 b n 13 0 w
unfolding read_with
too_short b w {n} l z = rw z (record { answer = rw (lt-ltb n 16384 l); count = rw (lt-ltb n 16384 l); whole_list = rw (lt-ltb n 16384 l) })

module _ {b w : List ℕ} (n : ℕ) (l : 16384 ≤ n) where
  pub lists_read : length w ≡ n → Done b w → Reads limits01 b n 0 (length b) w
  unfolding read_with
  lists_read e h = record {
    answer = rw (le-ltb n 16384 l, h.is);
    count = rw (le-ltb n 16384 l, h.is);
    whole_list = rw (le-ltb n 16384 l, h.is, ← e) h.words;
  }

  pub no_lists : decode (byte_limits limits01) b ≡ none → w ≡ zeros_of n → Reads limits01 b n 14 0 w
  unfolding read_with
  no_lists h z = rw z (record { answer = rw (le-ltb n 16384 l, h); count = rw (le-ltb n 16384 l, h); whole_list = rw (le-ltb n 16384 l, h) })
