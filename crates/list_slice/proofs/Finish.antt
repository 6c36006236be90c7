-- When the words hold the lists: what code that fills the slice has to show at its end.
use Prim.Native.Nat.{ℕ, ◌-◌, ◌≤◌, ◌<◌}
use mathlib.Core.Path.{◌≡◌, sym, ap, ◌∙◌}
use mathlib.Core.List.{List, [], ◌∷◌, map}
use mathlib.Core.Bool.{◌&&◌}
use native.Mathlib.Omega.{arith}
use lib.Dec.{T}
use lib.ListN.{length, drop}
use Rattle.pcode.specs.Pcode.{Item}
use Rattle.lowering.specs.Builder.{Limits}
use Rattle.action_format.specs.Lists.{all}
use Rattle.list_slice.specs.Entry.{Piece, entry, entries_of}
use Rattle.list_slice.specs.Words.{units, slice_length, zeros_of, area, joined, LastFilled, Fits, entry_at, cut, labels_in, ends_in, pool_in}
use Rattle.list_slice.specs.Items.{items_of}
use Rattle.list_slice.specs.File.{names_string, in_file}
use Rattle.list_slice.specs.Compiled.{finishing, label_words, piece_named, pool_count, Holds}
use Rattle.list_slice.proofs.Parse.{ends_length}
use Rattle.list_slice.proofs.Laid.{Rising, ends_of_cut, entries_are, run_length, laid}
use Rattle.list_slice.proofs.Labels.{labels_length}

-- of the words: the lists end at ends, the last at low, and zeros stand in the gap after them and after each table
pub record Filled (limits : Limits) (lists : List (List Item)) (w ends pool : List ℕ) (low : ℕ) : Type 0 where
  pub room : slice_length limits ≤ length w
  pub rising : Rising 0 ends low
  pub below : low ≤ units limits
  pub gap : (i : ℕ) → low ≤ i → i < units limits → entry_at w i ≡ entry 0 0 0
  pub labels_are : labels_in limits w ≡ area limits.labels (label_words limits.labels lists)
  pub ends_are : ends_in limits w ≡ area limits.actions ends
  pub pool_is : pool_in limits w ≡ area limits.values pool
  pub rest_is : drop (slice_length limits) w ≡ zeros_of (length w - slice_length limits)
  pub ends_fit : length ends ≤ limits.actions
  pub pool_fits : length pool ≤ limits.values
  pub last_filled : LastFilled (cut w 0 ends)

pub filled_holds : (limits : Limits) (F : List ℕ) (lists : List (List Item)) (w ends pool : List ℕ) (low : ℕ) → Filled limits lists w ends pool low →
    (pieces : List (List Piece)) → cut w 0 ends ≡ map entries_of pieces →
    map (items_of (in_file F pool)) pieces ≡ finishing lists →
    joined (map pool_count (joined pieces)) ≡ length pool ∷ [] →
    T (all (piece_named F) (joined pieces) && all (names_string F) pool) →
    Holds limits F lists w
filled_holds limits F lists w ends pool low f pieces e r c n =
    let labels = label_words limits.labels lists in
    let many : length (cut w 0 ends) ≡ length ends = sym (ends_length 0 (cut w 0 ends)) ∙ ap length (ends_of_cut w 0 ends low f.rising) in
    let long : length (joined (cut w 0 ends)) ≡ low =
    ap length (entries_are limits w ends labels pool low f.room f.rising f.below f.gap) ∙ run_length w 0 low in
    let fit : Fits limits (cut w 0 ends) labels pool (length w) = record {
      entries_fit = rw long f.below;
      lists_fit = rw many f.ends_fit;
      labels_fit = rw (labels_length lists 0 limits.labels) (omega arith);
      pool_fits = f.pool_fits;
      slice_fits = f.room;
      last_filled = f.last_filled;
    } in
    record {
      pieces = pieces;
      pool = pool;
      fits = rw (← e) fit;
      words = rw (← e) (laid limits w ends labels pool low f.room f.rising f.below f.gap f.labels_are f.ends_are f.pool_is f.rest_is);
      reads = r;
      counted = c;
      named = n;
    }
