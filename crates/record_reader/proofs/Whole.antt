-- A whole record: its code, its length and its data.
use Rattle.std.proofs.Common.{ℕ, ◌+◌, ◌-◌, ◌≤◌, ◌<◌, ◌≡◌, refl, ap, sym, ◌∙◌, [], ◌∷◌, true, false, ◌⊎◌, inl, inr, Option, Some, None, arith, length, take, drop, length-drop, length-append, one-add}
use mathlib.Core.Option as math
use mathlib.Core.Option.{none, some}
use lib.ListN.{drop_of_length-le}
use borrow.Author.Tests.{le-leb, lt-leb}
use Rattle.std.proofs.lemmas.List.{take_rest}
use Rattle.action_format.specs.Bytes.{Bytes}
use Rattle.action_format.specs.Readers.{P, bind, read_byte, read_bytes, word_reader, spent, read_inside}
use Rattle.action_format.specs.Decode.{Record, in_record, read_record}
use Rattle.action_format.proofs.Readers.{word_length, reads_byte, reads_word}
use Rattle.record_reader.specs.declared.Content.{Content}
use Rattle.record_reader.specs.declared.Head.{Head}
use Rattle.record_reader.specs.declared.Kind.TheVariants as kind
use Rattle.record_reader.specs.Heads.{head_of, head_at}
use Rattle.record_reader.specs.Shape.{is_short, data_reader}
use Rattle.record_reader.specs.Steps.{whole, content_of}
use Rattle.record_reader.proofs.Tables.{long_record, short_record}

-- what follows a number

after_word : (k : ℕ) (d : Bytes) (n : ℕ) (r : Bytes) → word_reader k d ≡ some (n, r) → length d ≡ k + length r
after_word k d n r e =
    let s = (reads_word k).run d n r e in
    ap length s.is ∙ length-append s.own r ∙ rw (s.fact.0, word_length k n)

-- a record whose data are d, with r after them

with_next : (n : ℕ) → Option Content → Option Head
with_next n None = None
with_next n (Some c) = Some (record { kind = c.kind; next = n; fits = c.fits })

inside : (rd : P Record) (d r : Bytes) (p n pool : ℕ) → head_of p n pool (read_inside rd d r) ≡ with_next (n - length r) (content_of p pool (whole (rd d)))
unfolding with_next
inside rd d r p n pool = go (rd d)
  where
    go : (o : math.Option (Record × Bytes)) → head_of p n pool (bind o (λ a left. spent a left r)) ≡ with_next (n - length r) (content_of p pool (whole o))
    go none = refl
    go (some (x, [])) = refl
    go (some (x, y ∷ left)) = refl

pub head_past : (b : Bytes) (p pool : ℕ) → (length b < p) ⊎ (length b < length b) → None ≡ head_at b p pool
unfolding head_at read_record read_byte
head_past b p pool (inl h) = let k : length b ≤ p = omega arith in rw (drop_of_length-le b k)
head_past b p pool (inr h) = absurd (omega arith)

module _ (b : Bytes) (p pool : ℕ) {d : Bytes} (e : d ≡ take (length b - p) (drop p b)) where
  there : drop p b ≡ d
  there = sym (e ∙ take_rest b p)

  pub head_none : none ≡ read_byte d → None ≡ head_at b p pool
  unfolding head_at read_record
  head_none f = rw (there, ← f)

  module _ {c : ℕ} {r : Bytes} (f : some (c, r) ≡ read_byte d) where
    small : c < 256
    small = (reads_byte.run d c r (sym f)).fact.1

    first : drop p b ≡ c ∷ r
    first = let s = reads_byte.run d c r (sym f) in there ∙ s.is ∙ rw s.fact.0

    left : length b - p ≡ 1 + length r
    left = sym (length-drop p b) ∙ ap length first ∙ sym (one-add (length r))

    pub head_short : p ≤ length b → is_short c ≡ true → Some (record { kind = kind.Plain c 0; next = p + 1; fits = true }) ≡ head_at b p pool
    unfolding head_at
    head_short h y =
        let n : length b - length r ≡ p + 1 = omega (arith, left) in
        rw (first, ← n) (short_record c r small y p (length b) pool)

    module _ (l : is_short c ≡ false) where
      opened : read_record (drop p b) ≡ in_record (data_reader c) r
      opened = rw first (long_record c r small l)

      pub head_unsized : none ≡ word_reader 2 r → None ≡ head_at b p pool
      unfolding head_at
      head_unsized w = rw (opened, ← w)

      module _ {n m : ℕ} {q : Bytes} (w : some (n, q) ≡ word_reader 2 r) (z : m ≡ n) where
        pub head_cut : (m < 0) ⊎ (length q < m) → None ≡ head_at b p pool
        unfolding head_at read_bytes
        head_cut (inl h) = absurd (omega arith)
        head_cut (inr h) = rw (opened, ← w, lt-leb n (length q) (omega arith))

        module _ {x : Bytes} (i : x ≡ take (m - 0) q) (k : m ≤ length q) (h : p ≤ length b) where
          with_data : head_at b p pool ≡ with_next (p + 3 + m) (content_of p pool (whole (data_reader c x)))
          unfolding head_at read_bytes
          with_data =
              let l : length b - length (drop n q) ≡ p + 3 + m = omega (arith, left, after_word 2 r n q (sym w), length-drop n q) in
              let t : take n q ≡ x = rw (i, ← z) (ap (λ (v : ℕ). take v q) (omega arith)) in
              rw (opened, ← w, le-leb n (length q) (omega arith), inside (data_reader c) (take n q) (drop n q) p (length b) pool, l, t)

          pub head_broken : None ≡ content_of p pool (whole (data_reader c x)) → None ≡ head_at b p pool
          unfolding with_next
          head_broken g = rw (with_data, ← g)

          pub head_whole : {t : Content} → Some t ≡ content_of p pool (whole (data_reader c x)) → Some (record { kind = t.kind; next = p + 3 + m; fits = t.fits }) ≡ head_at b p pool
          unfolding with_next
          head_whole g = rw (with_data, ← g)
