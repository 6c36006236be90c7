-- The parts of a header, one after the other.
use Prim.Native.Nat.{ℕ, ◌+◌, ◌≤◌}
use mathlib.Core.Path.{◌≡◌, refl, ap, ◌∙◌}
use mathlib.Core.List.{[], ◌∷◌, ◌++◌}
use native.Mathlib.Omega.{arith}
use native.Mathlib.Numerals.{add-one}
use lib.ListN.{length, length-append}
use Rattle.hir.specs.Hir.{Rec}
use Rattle.hir.specs.Tree.{Forest, none, more}
use Rattle.decode.specs.declared.Function.{Function}
use Rattle.script_records.specs.declared.layout.ScriptFile.{ScriptFile}
use Rattle.script_records.specs.declared.part.Part.{Part}
use Rattle.lowering.specs.Meaning.{param, width}
use Rattle.list_slice.specs.File.{params_of}
use Rattle.slice_words.specs.References.{text_at}
use Rattle.action_format.specs.Bytes.{Bytes, word, zero_ended}
use Rattle.tree.specs.Trees.{trees}
use Rattle.byte_writer.specs.declared.Writer.{Writer}
use Rattle.byte_writer.specs.Header.{name_reference, is_wide, params_data, marks_data, header_data}
use Rattle.byte_writer.specs.Writer.{HasRoom, Writes}
use Rattle.byte_writer.proofs.Writes.{writes_then, has_first, has_rest}

pub params_width : (f : Forest Rec) → length (params_of f) ≡ width f
unfolding params_of
params_width none = refl
params_width (more ps p kids) = length-append (params_of ps) (param p ∷ []) ∙ (ap (λ (n : ℕ). n + 1) (params_width ps) ∙ add-one (width ps))

-- in the writer w, of the trees in part p of the records of a script file s, which is the writer's
module _ (w : Writer) (f : Function) (s : ScriptFile) (p : Part) (size : ℕ) {n : ℕ} (q : n ≡ name_reference f.name) where
  abbrev header' : Bytes
  header' = header_data w.script.bytes.now w.script.layout f (params_of (trees s.bytes.now p)) size

  abbrev name' : ScriptFile → Bytes
  name' s = zero_ended (text_at s.bytes.now s.layout n)

  abbrev count' : Bytes
  count' = word 2 (width (trees s.bytes.now p))

  abbrev marks' : Bytes
  marks' = marks_data (is_wide f) f.register_count f.marks

  abbrev params' : Bytes
  params' = params_data (is_wide f) (params_of (trees s.bytes.now p))

  abbrev size' : Bytes
  size' = word 2 size

  whole : header' ≡ name' w.script ++ (count' ++ (marks' ++ (params' ++ size')))
  unfolding header_data
  whole = rw (q, ← params_width (trees s.bytes.now p))

  pub params_short : length header' ≤ 65535 → length params' ≤ 65535
  params_short h =
      omega (
        arith,
        ap length whole,
        length-append (name' w.script) (count' ++ (marks' ++ (params' ++ size'))),
        length-append count' (marks' ++ (params' ++ size')),
        length-append marks' (params' ++ size'),
        length-append params' size',
      )

  module _ (room : HasRoom w header') where
    pub name_room : HasRoom w (name' w.script)
    name_room = has_first w (name' w.script) (count' ++ (marks' ++ (params' ++ size'))) (rw whole at room)

    module _ {w₁ : Writer} (d₁ : Writes w (name' w.script) w₁) where
      rest₁ : HasRoom w₁ (count' ++ (marks' ++ (params' ++ size')))
      rest₁ = has_rest (count' ++ (marks' ++ (params' ++ size'))) d₁ (rw whole at room)

      pub count_room : HasRoom w₁ count'
      count_room = has_first w₁ count' (marks' ++ (params' ++ size')) rest₁

      module _ {w₂ : Writer} (d₂ : Writes w₁ count' w₂) where
        rest₂ : HasRoom w₂ (marks' ++ (params' ++ size'))
        rest₂ = has_rest (marks' ++ (params' ++ size')) d₂ rest₁

        pub marks_room : HasRoom w₂ marks'
        marks_room = has_first w₂ marks' (params' ++ size') rest₂

        module _ {w₃ : Writer} (d₃ : Writes w₂ marks' w₃) where
          rest₃ : HasRoom w₃ (params' ++ size')
          rest₃ = has_rest (params' ++ size') d₃ rest₂

          pub params_room : HasRoom w₃ params'
          params_room = has_first w₃ params' size' rest₃

          module _ {w₄ : Writer} (d₄ : Writes w₃ params' w₄) where
            pub size_room : HasRoom w₄ size'
            size_room = has_rest size' d₄ rest₃

            pub header_done : {w₅ : Writer} → Writes w₄ size' w₅ → Writes w header' w₅
            header_done d₅ = rw whole (writes_then d₁ (writes_then d₂ (writes_then d₃ (writes_then d₄ d₅))))
