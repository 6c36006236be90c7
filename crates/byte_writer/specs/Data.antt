-- The bytes that an entry's words stand for, by its code.
use Rattle.std.specs.Prelude.{ℕ, List, [], ◌∷◌, ◌++◌, map, cond, eqb, leb, ltb, length, take, drop}
use Rattle.script_records.specs.declared.layout.Layout.{Layout}
use Rattle.list_slice.specs.Entry.{bit, is_one}
use Rattle.slice_words.specs.References.{text_at}
use Rattle.action_format.specs.Bytes.{Bytes, word, zero_ended, join, constant_bytes}

-- a pushed value after its type
unfoldable pub operand_data : List ℕ → Layout → (type a b : ℕ) → Bytes
operand_data F l t a b =
    cond (eqb t 0) (zero_ended (text_at F l a))
    (cond (eqb t 4) (word 1 a)
    (cond (eqb t 5) (word 1 (bit (is_one a)))
    (cond (eqb t 6) (word 4 a ++ word 4 b)
    (cond (eqb t 7) (word 4 a) []))))

-- a constant's type is 8 for an index below 256, and 9 else
unfoldable pub value_data : List ℕ → Layout → (type a b : ℕ) → Bytes
value_data F l t a b = cond (eqb t 8) (constant_bytes a (leb 256 a)) (t ∷ operand_data F l t a b)

-- a record's code and the length of its data
unfoldable pub frame : (code length' : ℕ) → Bytes
frame c n = word 1 c ++ word 2 n

abbrev pub framed : (code : ℕ) → (data' : Bytes) → Bytes
framed c d = frame c (length d) ++ d

-- where the pool words begin in the list slice
abbrev pub pool_at01 : ℕ
pool_at01 = 14336

-- the strings of n words from word i on
unfoldable pub texts_from : (F : List ℕ) → Layout → (list : List ℕ) → (i n : ℕ) → Bytes
texts_from F l w i n = join zero_ended (map (text_at F l) (take n (drop i w)))

unfoldable pub pool_data : (F : List ℕ) → Layout → (list : List ℕ) → ℕ → Bytes
pool_data F l w n = word 2 n ++ texts_from F l w pool_at01 n

unfoldable pub action_data : (F : List ℕ) → Layout → (list : List ℕ) → (code a offset : ℕ) → Bytes
action_data F l w c a o =
    cond (eqb c 0x88) (pool_data F l w a)
    (cond (eqb c 0x8C) (zero_ended (text_at F l a))
    (cond (eqb c 0x87) (word 1 a)
    (cond (eqb c 0x9F) (word 1 (bit (is_one a)))
    (cond (eqb c 0x81) (word 2 a)
    (cond (eqb c 0x99) (word 2 o)
    (cond (eqb c 0x9D) (word 2 o) []))))))

unfoldable pub action_bytes : (F : List ℕ) → Layout → (list : List ℕ) → (code a offset : ℕ) → Bytes
action_bytes F l w c a o = cond (ltb c 0x80) (word 1 c) (framed c (action_data F l w c a o))
