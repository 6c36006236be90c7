-- How reading stands after a step: going on, at its end, or refused.
use Rattle.std.specs.Prelude.{ℕ, ◌+◌, ◌-◌, ◌*◌, ◌<◌, ◌≡◌, List, true, false, Option, Some, MatchOption, length, take, drop}
use Rattle.std.proofs.Math.Option.{none, some}
use Rattle.lowering.specs.Builder.{limits01}
use Rattle.action_format.specs.Lists.{Lists}
use Rattle.action_format.specs.Bytes.{Bytes}
use Rattle.action_format.specs.Decode.{decode}
use Rattle.list_slice.specs.Read.{read_words}
use Rattle.definition.specs.Outcome.{byte_limits}
use Rattle.record_reader.specs.declared.Head.{Head}
use Rattle.record_reader.specs.Heads.{head_at}
use Rattle.action_reader.specs.declared.walk.Walk.{Walk}
use Rattle.action_reader.specs.State.{depth, is_end}
use Rattle.action_reader.specs.View.{Stands}

-- the bytes are no action bytes where the answer is `None`
abbrev pub OrRefused : {A : Type 0} → Bytes → Option A → (A → Type 0) → Type 0
OrRefused b r P = MatchOption r (decode (byte_limits limits01) b ≡ none) P

-- the lists are read, and the slice is theirs
pub record Done (b w : List ℕ) : Type 0 where
  pub lists : Lists
  pub is : decode (byte_limits limits01) b ≡ some lists
  pub words : w ≡ read_words limits01 lists (length w)

-- what is left to do
abbrev pub ahead : Walk → ℕ
ahead s = (length s.bytes.now - s.at) * 2 + depth s

-- reading goes on
pub record Further (s r : Walk) (w : List ℕ) : Type 0 where
  pub same : r.bytes ≡ s.bytes
  pub stands : Stands s.bytes.now w r
  pub less : ahead r < ahead s

abbrev pub Stepped : {A : Type 0} → (s r : Walk) → Option A → List ℕ → Type 0
Stepped s r o w = OrRefused s.bytes.now o (λ _. Further s r w)

-- neither a body nor the top list ends here
pub record Inside (s : Walk) : Type 0 where
  pub body : (depth s ≡ 0 → ⊥) → s.at ≡ s.span.end → ⊥
  pub top : depth s ≡ 0 → is_end (drop s.at s.bytes.now) ≡ false

-- the record that is next keeps the rules by itself, and there is room for its action
pub record Next (w : List ℕ) (s : Walk) (h : Head) : Type 0 where
  pub stands : Stands s.bytes.now w s
  pub head : Some h ≡ head_at (take s.span.end s.bytes.now) s.at s.pool
  pub fits : h.fits ≡ true
  pub few : s.actions < 1024
