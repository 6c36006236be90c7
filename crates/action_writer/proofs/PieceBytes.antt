-- What the writers put for an entry is the bytes of its piece.
use Prim.Native.Nat.{ℕ, ◌+◌, ◌*◌, ◌/◌, ◌%◌, ◌^◌, ◌≤◌, ◌<◌}
use mathlib.Core.Path.{◌≡◌, refl, ap, ap₂, ◌∙◌}
use mathlib.Core.List.{List, [], ◌∷◌, ◌++◌, map}
use mathlib.Core.Bool.{Bool, true, false, cond}
use native.Mathlib.Omega.{arith}
use lib.Dec.{T, ltb, ltb→lt}
use lib.ListN.{length, take, drop, length-map, length-take, length-drop}
use lib.Seq.{take-take}
use borrow.Author.Tests.{ne_eqb, lt-leb, le-leb, ltb-true, ltb-false}
use Rattle.pcode.specs.declared.Op.{Op}
use Rattle.pcode.specs.Pcode.{Plain, row_of, Jump, If, Branching}
use Rattle.script_records.specs.declared.layout.Layout.{Layout}
use Rattle.script_records.specs.Layout.{layout_of}
use Rattle.lowering.specs.Builder.{limits01}
use Rattle.action_format.specs.Lists.{simple, branching}
use Rattle.action_format.specs.Bytes.{Bytes, word, zero_ended, stored, flag, value_bytes, bytes_of_record, plain_data, single_bytes, branch_code}
use Rattle.action_format.specs.Rules.{value_fits}
use Rattle.list_slice.specs.Entry.{Pushed, Null, Undefined, Boolean, String, Register, Float, Integer, Constant, value_entry, base, bit}
use Rattle.list_slice.specs.Words.{pool_in}
use Rattle.list_slice.specs.Items.{References, value_of}
use Rattle.list_slice.specs.File.{text_in}
use Rattle.slice_words.specs.References.{text_at}
use Rattle.byte_writer.specs.Data.{operand_data, value_data, frame, framed, texts_from, pool_data, action_data, action_bytes}
use Rattle.resolver.specs.Walk.{references_in}
use Rattle.resolver.proofs.OpCodes.{op_code, OpCode, op_says}

pub small_byte : (n : ℕ) → n < 256 → word 1 n ≡ n ∷ []
unfolding word
small_byte n h = let e : n % 256 ≡ n = omega arith in rw e

-- a number of eight bytes is its low four and its high four
split_words : (a b : ℕ) → a < 4294967296 → word 4 a ++ word 4 b ≡ word 8 (a + 4294967296 * b)
unfolding word
split_words a b h =
    let e₀ : (a + 4294967296 * b) % 256 ≡ a % 256 = omega arith in
    let d₀ : (a + 4294967296 * b) / 256 ≡ a / 256 + 16777216 * b = omega arith in
    let e₁ : (a / 256 + 16777216 * b) % 256 ≡ a / 256 % 256 = omega arith in
    let d₁ : (a / 256 + 16777216 * b) / 256 ≡ a / 256 / 256 + 65536 * b = omega arith in
    let e₂ : (a / 256 / 256 + 65536 * b) % 256 ≡ a / 256 / 256 % 256 = omega arith in
    let d₂ : (a / 256 / 256 + 65536 * b) / 256 ≡ a / 256 / 256 / 256 + 256 * b = omega arith in
    let e₃ : (a / 256 / 256 / 256 + 256 * b) % 256 ≡ a / 256 / 256 / 256 % 256 = omega arith in
    let d₃ : (a / 256 / 256 / 256 + 256 * b) / 256 ≡ b = omega arith in
    rw (e₀, d₀, e₁, d₁, e₂, d₂, e₃, d₃)

pub two_words : (v : ℕ) → word 4 (v % 2 ^ 32) ++ word 4 (v / 2 ^ 32) ≡ word 8 v
two_words v =
    let e : v % 2 ^ 32 + 4294967296 * (v / 2 ^ 32) ≡ v = omega arith in
    split_words (v % 2 ^ 32) (v / 2 ^ 32) (omega arith) ∙ ap (word 8) e

pub record_is : (c : ℕ) (d : Bytes) → c < 256 → cond (ltb c 0x80) (word 1 c) (framed c d) ≡ bytes_of_record c d
unfolding frame
record_is c d h = by (ltb c 0x80) refl
  where
    by : (t : Bool) → ltb c 0x80 ≡ t → cond (ltb c 0x80) (word 1 c) ((word 1 c ++ word 2 (length d)) ++ d) ≡ bytes_of_record c d
    by true e = rw (e, small_byte c h, lt-leb 0x80 c (ltb-true c 0x80 e))
    by false e = rw (e, small_byte c h, le-leb 0x80 c (ltb-false c 0x80 e))

-- the type of a value
abbrev pub tag : Pushed → ℕ
tag (String r) = 0
tag Null = 2
tag Undefined = 3
tag (Register r) = 4
tag (Boolean b) = 5
tag (Float v) = 6
tag (Integer v) = 7
tag (Constant i) = 8

pub tag_code : (first : Bool) (v : Pushed) → (value_entry (base first) v).code % 16 ≡ tag v
tag_code true (String r) = refl
tag_code true Null = refl
tag_code true Undefined = refl
tag_code true (Register r) = refl
tag_code true (Boolean b) = refl
tag_code true (Float v) = refl
tag_code true (Integer v) = refl
tag_code true (Constant i) = refl
tag_code false (String r) = refl
tag_code false Null = refl
tag_code false Undefined = refl
tag_code false (Register r) = refl
tag_code false (Boolean b) = refl
tag_code false (Float v) = refl
tag_code false (Integer v) = refl
tag_code false (Constant i) = refl

module _ (F : List ℕ) (l : Layout) (w : List ℕ) (layout : l ≡ layout_of F) where
  abbrev r : References
  r = references_in F w

  text_in_lem : (s : ℕ) → text_at F l s ≡ text_in F s
  unfolding text_at text_in
  text_in_lem s = rw layout

  typed : (n pool : ℕ) (v : Pushed) → T (value_fits pool (value_of r v)) → value_data F l (tag v) (value_entry n v).first (value_entry n v).second ≡ value_bytes (value_of r v)
  unfolding value_data operand_data word stored
  typed n pool (String s) h = rw (text_in_lem s)
  typed n pool Null h = refl
  typed n pool Undefined h = refl
  typed n pool (Register k) h = let q = ltb→lt k 256 h in let e : k % 256 ≡ k = omega arith in rw e
  typed n pool (Boolean true) h = refl
  typed n pool (Boolean false) h = refl
  typed n pool (Float v) h = ap (λ (x : Bytes). 6 ∷ x) (two_words v)
  typed n pool (Integer v) h = refl
  typed n pool (Constant i) h = refl

  pub value_is : (first : Bool) (pool : ℕ) (v : Pushed) → T (value_fits pool (value_of r v)) →
      value_data F l ((value_entry (base first) v).code % 16) (value_entry (base first) v).first (value_entry (base first) v).second ≡ value_bytes (value_of r v)
  value_is first pool v h = rw (tag_code first v) (typed (base first) pool v h)

  -- actions

  pool_texts : (n : ℕ) → n ≤ 2048 → 16384 ≤ length w → pool_data F l w n ≡ plain_data (Plain.ConstantPool (map (text_in F) (take n (pool_in limits01 w))))
  unfolding pool_data texts_from
  pool_texts n h k =
      let t : take n (pool_in limits01 w) ≡ take n (drop 14336 w) = take-take n 2048 (drop 14336 w) h in
      let c : length (map (text_in F) (take n (drop 14336 w))) ≡ n =
      omega (arith, length-map (take n (drop 14336 w)) (text_in F), length-take n (drop 14336 w), length-drop 14336 w) in
      rw (t, c, same_texts (take n (drop 14336 w)))
    where
      same_texts : (xs : List ℕ) → map (text_at F l) xs ≡ map (text_in F) xs
      same_texts [] = refl
      same_texts (x ∷ xs) = ap₂ ◌∷◌ (text_in_lem x) (same_texts xs)

  module _ (offset : ℕ) where
    abbrev data_at : ℕ → ℕ → Bytes
    data_at c a = action_data F l w c a offset

    abbrev bytes_at : ℕ → ℕ → Bytes
    bytes_at c a = action_bytes F l w c a offset

    op_data : (c : ℕ) → OpCode c → data_at c 0 ≡ []
    unfolding action_data
    op_data c q =
        rw (
          ne_eqb c 0x88 q.not_pool,
          ne_eqb c 0x8C q.not_label,
          ne_eqb c 0x87 q.not_store,
          ne_eqb c 0x9F q.not_frame2,
          ne_eqb c 0x81 q.not_frame,
          ne_eqb c 0x99 q.not_jump,
          ne_eqb c 0x9D q.not_if,
        )

    -- a record's data, and so the record
    framed_is : (c a : ℕ) (d : Bytes) → c < 256 → data_at c a ≡ d → bytes_at c a ≡ bytes_of_record c d
    unfolding action_bytes
    framed_is c a d h e = rw e (record_is c d h)

    pub op_is : (o : Op) → (data_at (row_of o).code 0 ≡ []) × (bytes_at (row_of o).code 0 ≡ single_bytes (simple (Plain.op o)))
    op_is o =
        let q = op_says (row_of o).code (op_code o) in
        let d = op_data (row_of o).code q in
        (d, framed_is (row_of o).code 0 [] q.small d)

    pub pool_is : (n : ℕ) → n ≤ 2048 → 16384 ≤ length w →
        (data_at 0x88 n ≡ plain_data (Plain.ConstantPool (map (text_in F) (take n (pool_in limits01 w))))) ×
        (bytes_at 0x88 n ≡ single_bytes (simple (Plain.ConstantPool (map (text_in F) (take n (pool_in limits01 w))))))
    unfolding action_data
    pool_is n h k = let d = pool_texts n h k in (d, framed_is 0x88 n _ (omega arith) d)

    pub store_is : (n : ℕ) → n < 256 → (data_at 0x87 n ≡ n ∷ []) × (bytes_at 0x87 n ≡ single_bytes (simple (Plain.StoreRegister n)))
    unfolding action_data
    store_is n h = let d = small_byte n h in (d, framed_is 0x87 n _ (omega arith) d)

    pub frame_is : (n : ℕ) → (data_at 0x81 n ≡ word 2 n) × (bytes_at 0x81 n ≡ single_bytes (simple (Plain.GotoFrame n)))
    unfolding action_data
    frame_is n = (refl, framed_is 0x81 n (word 2 n) (omega arith) refl)

    flag_data : (b : Bool) → data_at 0x9F (bit b) ≡ flag b ∷ []
    unfolding action_data word
    flag_data true = refl
    flag_data false = refl

    pub frame2_is : (b : Bool) → (data_at 0x9F (bit b) ≡ flag b ∷ []) × (bytes_at 0x9F (bit b) ≡ single_bytes (simple (Plain.GotoFrame2 b)))
    frame2_is b = (flag_data b, framed_is 0x9F (bit b) _ (omega arith) (flag_data b))

    label_data : (s : ℕ) → data_at 0x8C s ≡ zero_ended (text_in F s)
    unfolding action_data
    label_data s = rw (text_in_lem s)

    pub label_is : (s : ℕ) → (data_at 0x8C s ≡ zero_ended (text_in F s)) × (bytes_at 0x8C s ≡ single_bytes (simple (Plain.GotoLabel (text_in F s))))
    label_is s = (label_data s, framed_is 0x8C s _ (omega arith) (label_data s))

    branch_data : (b : Branching) (n : ℕ) → data_at (branch_code b) n ≡ word 2 offset
    unfolding action_data
    branch_data Jump n = refl
    branch_data If n = refl

    pub branch_is : (b : Branching) (n : ℕ) → (data_at (branch_code b) n ≡ word 2 offset) × (bytes_at (branch_code b) n ≡ single_bytes (branching b offset))
    branch_is Jump n = (branch_data Jump n, framed_is 0x99 n _ (omega arith) (branch_data Jump n))
    branch_is If n = (branch_data If n, framed_is 0x9D n _ (omega arith) (branch_data If n))
