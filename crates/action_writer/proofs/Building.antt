-- A list under writing: the entries from i on have been written.
use Prim.Native.Nat.{ℕ, ◌+◌, ◌-◌, ◌*◌, ◌%◌, ◌≤◌, ◌<◌}
use mathlib.Core.Path.{◌≡◌, ap, ◌∙◌, subst}
use mathlib.Core.List.{List, ◌++◌, append_assoc}
use native.Mathlib.Omega.{arith}
use lib.ListN.{length, get_or, length-append}
use borrow.Author.Tests.{ne_eqb, lt-ltb, le-ltb}
use Rattle.script_records.specs.declared.layout.Layout.{Layout}
use Rattle.action_format.specs.Bytes.{Bytes}
use Rattle.byte_writer.specs.Written.{Room, Wrote}
use Rattle.byte_writer.specs.Data.{frame, framed, value_data, action_bytes}
use Rattle.byte_writer.specs.Header.{function_bytes}
use Rattle.byte_writer.specs.declared.Writer.{Writer}
use Rattle.byte_writer.specs.Writer.{Writes, Frames}
use Rattle.byte_writer.proofs.Writes.{written_long, wrote_none, wrote_then, written_append, written_before, written_over}
use Rattle.byte_writer.proofs.Frames.{frame_length, framed_length}
use Rattle.resolver.specs.Walk.{start_of, end_of}
use Rattle.action_writer.specs.Bodies.{body_at, items_from, bytes_of}
use Rattle.action_writer.specs.Steps.{Joined, Joins, an-action, a-first-value, a-later-value, sort_of, OpenIn, Defines, Acts, Begins, Continues, Step, WritableList}

-- a value written, and the length of the record that began there
pub later_joins : {w w₁ w₂ : Writer} {begun : ℕ} {v : Bytes} → Writes w v w₁ → Frames w₁ begun 0x96 w₂ → Joins w begun v w₂
later_joins {w₁ = w₁} {w₂ = w₂} {begun = begun} p q = record {
  same_script = q.same_script ∙ p.same_script;
  same_output = q.same_output ∙ p.same_output;
  joined = record {
    after = q.same_place ∙ p.wrote.after;
    output = rw (← p.wrote.output, q.same_place) q.output;
    long = ap length q.output ∙ written_long w₁.output.now begun (frame 0x96 (w₁.at - (begun + 3))) ∙ p.wrote.long;
  };
}

-- the first value of a record that has just begun
pub first_joins : (w : Writer) {w₂ : Writer} (v : Bytes) → Joins (record w { at = w.at + 3 }) w.at v w₂ → Writes w (framed 0x96 v) w₂
first_joins w {w₂} v q =
    let n : w₂.at - (w.at + 3) ≡ length v = omega (arith, q.joined.after) in
    record {
      same_script = q.same_script;
      same_output = q.same_output;
      wrote = record {
        after = rw (framed_length 0x96 v) (omega (arith, q.joined.after));
        output = rw n at q.joined.output ∙ rw (frame_length 0x96 (length v)) at (written_before w.output.now w.at (frame 0x96 (length v)) v);
        long = q.joined.long;
      };
    }

-- the sort of an entry by the tests of its code

action_sort : (c : ℕ) → (c ≡ 257 → ⊥) → (c ≡ 256 → ⊥) → c < 0x110 → sort_of c ≡ an-action
action_sort c m f h = rw (ne_eqb c 257 m, ne_eqb c 256 f, lt-ltb c 0x110 h)

first_sort : (c : ℕ) → 0x110 ≤ c → c < 0x120 → sort_of c ≡ a-first-value
first_sort c g h = rw (ne_eqb c 257 (λ e. omega arith), ne_eqb c 256 (λ e. omega arith), le-ltb c 0x110 g, lt-ltb c 0x120 h)

later_sort : (c : ℕ) → 0x120 ≤ c → sort_of c ≡ a-later-value
later_sort c g = rw (ne_eqb c 257 (λ e. omega arith), ne_eqb c 256 (λ e. omega arith), le-ltb c 0x110 (omega arith), le-ltb c 0x120 g)

-- a later value written, and the record's length anew
pub joined : {o o' o'' : List ℕ} {at m n : ℕ} (begun : ℕ) (a d v : Bytes) → Wrote o at (a ++ framed 0x96 d) m o' → begun ≡ at + length a → Joined o' begun m v n o'' →
    Wrote o at (a ++ framed 0x96 (d ++ v)) n o''
joined {o} {o'} {o''} {at} {m} {n} begun a d v p b q =
    let f = frame_length 0x96 (length d) in
    let g = frame_length 0x96 (length (d ++ v)) in
    let s = length-append a (framed 0x96 d) in
    let t = length-append (frame 0x96 (length d)) d in
    let u = length-append d v in
    let k : n - (begun + 3) ≡ length (d ++ v) = omega (arith, p.after, q.after) in
    let x : (a ++ framed 0x96 d) ++ v ≡ a ++ (frame 0x96 (length d) ++ (d ++ v)) = simp append_assoc in
    record {
      after = rw (length-append a (framed 0x96 (d ++ v)), length-append (frame 0x96 (length (d ++ v))) (d ++ v)) (omega (arith, p.after, q.after));
      output =
          rw (q.output, k, p.output, p.after, written_append o at (a ++ framed 0x96 d) v, x, b)
          (written_over o at a (frame 0x96 (length d)) (frame 0x96 (length (d ++ v))) (d ++ v) (omega arith));
      long = q.long ∙ p.long;
    }

pub record Building (F : List ℕ) (l : Layout) (w sizes offsets : List ℕ) (j : ℕ) (o : List ℕ) (at : ℕ) (o' : List ℕ) (i next begun : ℕ) : Type 0 where
  pub low : start_of w j ≤ i
  pub high : i ≤ end_of w j
  pub wrote : Wrote o at (bytes_of F w j (items_from F w j i)) next o'
  pub opened : OpenIn F l w sizes offsets j 0 (items_from F w j i) at begun

module _ {F : List ℕ} {l : Layout} {w sizes offsets : List ℕ} {j : ℕ} (s : WritableList F l w sizes offsets j) (o : List ℕ) (at : ℕ) where
  pub building_start : Building F l w sizes offsets j o at o (end_of w j) at at
  building_start = record { low = s.order; high = omega arith; wrote = rw s.none (wrote_none o at); opened = s.start at at }

  module _ (room : Room o at (body_at F w j)) {o' : List ℕ} {i next begun : ℕ} (b : Building F l w sizes offsets j o at o' i next begun) (q : start_of w j < i) where
    abbrev e : ℕ
    e = i - 1

    back : e + 1 ≡ i
    back = omega (arith, b.low)

    low : start_of w j ≤ e
    low = omega (arith, b.low)

    high : e < end_of w j
    high = omega (arith, b.low, b.high)

    step : Step F l w sizes offsets j e (sort_of (get_or w (e * 3) 0))
    step = s.step e low high

    abbrev prior : Bytes
    prior = bytes_of F w j (items_from F w j (e + 1))

    given : Wrote o at prior next o'
    given = rw back b.wrote

    within : length (bytes_of F w j (items_from F w j e)) ≤ length (body_at F w j)
    within = s.rest e low (omega (arith, high))

    -- room for what the entry adds
    room_for : (x : Bytes) → bytes_of F w j (items_from F w j e) ≡ prior ++ x → Room o' next x
    room_for x k = omega (arith, within, ap length k, length-append prior x, given.after, given.long, room)

    next_is : {x : Bytes} {n : ℕ} {o'' : List ℕ} → bytes_of F w j (items_from F w j e) ≡ prior ++ x → Wrote o' next x n o'' → {f : ℕ} → OpenIn F l w sizes offsets j 0 (items_from F w j e) at f →
        Building F l w sizes offsets j o at o'' e n f
    next_is k d p = record { low = low; high = omega (arith, high); wrote = rw k (wrote_then given d); opened = p }

    pub in_table : e < 4096
    in_table = omega (arith, high, s.cap)

    module _ (c : get_or w (e * 3) 0 ≡ 256) where
      pub defines : Defines F l w sizes offsets j e
      defines = rw c at step

      abbrev header' : Bytes
      header' = function_bytes F l (get_or w (e * 3 + 2) 0) (get_or sizes (get_or w (e * 3 + 1) 0) 0)

      abbrev body' : Bytes
      body' = body_at F w (get_or w (e * 3 + 1) 0 - 1)

      pub header_room : Room o' next header'
      header_room = omega (arith, room_for (header' ++ body') defines.adds, length-append header' body')

      module _ {m : ℕ} {o₁ : List ℕ} (d : Wrote o' next header' m o₁) where
        pub body_room : Room o₁ m body'
        body_room = omega (arith, room_for (header' ++ body') defines.adds, length-append header' body', d.after, d.long)

        pub function_next : {n : ℕ} {o₂ : List ℕ} → Wrote o₁ m body' n o₂ → Building F l w sizes offsets j o at o₂ e n begun
        function_next k = next_is defines.adds (wrote_then d k) (defines.free at begun)

    module _ (m : get_or w (e * 3) 0 ≡ 257 → ⊥) (f : get_or w (e * 3) 0 ≡ 256 → ⊥) (h : get_or w (e * 3) 0 < 0x110) where
      pub acts : Acts F l w sizes offsets j e
      acts = subst (Step F l w sizes offsets j e) (action_sort (get_or w (e * 3) 0) m f h) step

      pub action_room : Room o' next (action_bytes F l w (get_or w (e * 3) 0) (get_or w (e * 3 + 1) 0) (get_or offsets e 0))
      action_room = room_for _ acts.adds

      pub action_next : {n : ℕ} {o₁ : List ℕ} → Wrote o' next (action_bytes F l w (get_or w (e * 3) 0) (get_or w (e * 3 + 1) 0) (get_or offsets e 0)) n o₁ → Building F l w sizes offsets j o at o₁ e n begun
      action_next k = next_is acts.adds k (acts.free at begun)

    abbrev value' : Bytes
    value' = value_data F l (get_or w (e * 3) 0 % 16) (get_or w (e * 3 + 1) 0) (get_or w (e * 3 + 2) 0)

    module _ (g : 0x110 ≤ get_or w (e * 3) 0) (h : get_or w (e * 3) 0 < 0x120) where
      pub begins : Begins F l w sizes offsets j e
      begins = subst (Step F l w sizes offsets j e) (first_sort (get_or w (e * 3) 0) g h) step

      pub first_next : {n : ℕ} {o₁ : List ℕ} → Wrote o' next (framed 0x96 value') n o₁ → Building F l w sizes offsets j o at o₁ e n next
      first_next k = next_is begins.adds k (rw given.after (begins.opens at))

    module _ (g : 0x120 ≤ get_or w (e * 3) 0) where
      continues : Continues F l w sizes offsets j e
      continues = subst (Step F l w sizes offsets j e) (later_sort (get_or w (e * 3) 0) g) step

      abbrev front' : Bytes
      front' = continues.front

      abbrev old' : Bytes
      old' = continues.data'

      begun_at : begun ≡ at + length front'
      begun_at = continues.opened at begun (rw back b.opened)

      before_is : Wrote o at (front' ++ framed 0x96 old') next o'
      before_is = rw continues.was at given

      pub later_fits : Room o' next value' × ((begun + 3 ≤ next) × (next + length value' ≤ begun + 65538))
      later_fits =
          let a = begun_at in
          let p = before_is.after in
          let q = before_is.long in
          let k = ap length continues.adds in
          let r = within in
          let t = continues.short in
          let u = length-append front' (framed 0x96 old') in
          let v = framed_length 0x96 old' in
          let x = length-append front' (framed 0x96 (old' ++ value')) in
          let y = framed_length 0x96 (old' ++ value') in
          let z = length-append old' value' in
          (omega arith, (omega arith, omega arith))

      pub later_next : {n : ℕ} {o₁ : List ℕ} → Joined o' begun next value' n o₁ → Building F l w sizes offsets j o at o₁ e n begun
      later_next k = record {
        low = low;
        high = omega (arith, high);
        wrote = rw continues.adds (joined begun front' old' value' before_is begun_at k);
        opened = rw begun_at (continues.opens at);
      }
