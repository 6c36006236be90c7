-- What has been read, after each step.
use Prim.Native.Nat.{ℕ, suc, ◌+◌, ◌-◌, ◌≤◌, ◌<◌}
use mathlib.Core.Path.{◌≡◌, refl, sym, ap, ◌∙◌}
use mathlib.Core.List.{List, [], ◌∷◌, ◌++◌}
use mathlib.Core.Bool.{true}
use mathlib.Core.Option.{none, some}
use native.Mathlib.Omega.{arith}
use lib.Dec.{T, leb, le→leb}
use lib.ListN.{length, take, drop, length-take, length-drop}
use lib.Seq.{slice_empty, drop-drop, take-take}
use Rattle.std.proofs.lemmas.List.{drop-take}
use Rattle.hir.specs.Hir.{Str}
use Rattle.pcode.specs.Pcode.{Header, define}
use Rattle.action_format.specs.Lists.{Single, single, all}
use Rattle.action_format.specs.Rules.{total, action_values}
use Rattle.action_format.specs.Bytes.{Bytes, single_bytes, header_bytes}
use Rattle.action_format.specs.Readers.{read_byte, read_bytes}
use Rattle.action_format.specs.Decode.{alone, header, read_record}
use Rattle.action_format.proofs.Tests.{is_true}
use Rattle.list_slice.specs.Read.{Placed, at}
use Rattle.action_reader.specs.declared.walk.Walk.{Walk}
use Rattle.action_reader.specs.Walk.{Ended, ended_at, Open, defined, ending, resume, weight, one, valued, bad, lost, holds, bounds, raw, lands}
use Rattle.action_reader.specs.View.{Held}
use Rattle.action_reader.proofs.Steps.{step_single, step_header, step_end}
use Rattle.action_reader.proofs.Weights.{total_append}

-- parts of bytes

take_of_drop : (b : Bytes) (n k e : ℕ) → n + k ≤ e → take k (drop n (take e b)) ≡ drop n (take (n + k) b)
take_of_drop b n k e h =
    let m : e ≡ n + (e - n) = omega arith in
    ap (λ (i : ℕ). take k (drop n (take i b))) m ∙ rw (drop-take n (e - n) b, drop-take n k b) (take-take k (e - n) (drop n b) (omega arith))

cut_law : (b : Bytes) (n k e : ℕ) → n + k ≤ e → e ≤ length b → read_bytes k (drop n (take e b)) ≡ some (drop n (take (n + k) b), drop (n + k) (take e b))
unfolding read_bytes
cut_law b n k e h l =
    let z : length (drop n (take e b)) ≡ e - n = rw (length-drop n (take e b), length-take e b) (omega arith) in
    rw (is_true (leb k (length (drop n (take e b)))) (le→leb k (length (drop n (take e b))) (omega arith)), take_of_drop b n k e h, drop-drop k n (take e b))

-- weights

module _ (f : Placed → ℕ) (fs : List Open) (ls : List Ended) where
  pub weight_last : (own : List Placed) (a : Placed) → weight f fs (own ++ (a ∷ [])) ls ≡ weight f fs own ls + f a
  weight_last own a = rw (total_append f own (a ∷ [])) (omega arith)

  pub weight_open : (g : Open) → weight f (g ∷ fs) [] ls ≡ weight f fs g.around ls + f (defined g 0)
  weight_open g = omega arith

  pub weight_close : (g : Open) (own : List Placed) (n e : ℕ) → f (defined g n) ≡ f (defined g 0) →
      weight f fs (g.around ++ (defined g n ∷ [])) (ls ++ (ended_at own e ∷ [])) ≡ weight f (g ∷ fs) own ls
  weight_close g own n e q =
      rw (total_append f g.around (defined g n ∷ []), total_append (λ (l : Ended). total f l.actions) ls (ended_at own e ∷ []), q) (omega arith)

bad_none : (k : ℕ) (a : Placed) → T (holds k a) → bad k a ≡ 0
bad_none k a h = rw (is_true (holds k a) h)

pub nothing_read : read_record [] ≡ none
unfolding read_record read_byte
nothing_read = refl

module _ {b : Bytes} {s : Walk} {ss : List Str} {fs : List Open} {own : List Placed} {ls : List Ended} (h : Held b s ss fs own ls) where
  abbrev here : Bytes
  here = drop s.at (take s.span.end b)

  -- an action without a body
  pub held_single : (a : Single) (r : Bytes) (s' : Walk) → read_record here ≡ some (alone a, r) → s'.at ≡ s.at + length (single_bytes a) → r ≡ drop s'.at (take s.span.end b) →
      s'.at ≤ s.span.end → length (single_bytes a) ≤ 65538 → T (holds (length ss) (at (single a) s.at)) → s.actions < 1024 → s'.span.end ≡ s.span.end → s'.actions ≡ s.actions + 1 →
      s'.values ≡ s.values + action_values (single a) → s'.values ≤ 2048 → s'.pool ≡ s.pool → Held b s' ss fs (own ++ (at (single a) s.at ∷ [])) ls
  held_single a r s' e n q inside short good few end_is actions-are values-are few_values pool_is = record {
    pool = h.pool;
    pool_is = pool_is ∙ h.pool_is;
    left = sym (rw (end_is, n) (step_single (ending fs) own ls s.at here a r e ∙ ap (resume fs (own ++ (at (single a) s.at ∷ [])) ls (s.at + length (single_bytes a)))
        (q ∙ ap (λ (i : ℕ). drop i (take s.span.end b)) n))) ∙ h.left;
    framed = rw end_is h.framed;
    within = omega arith;
    actions = rw (weight_last one fs ls own (at (single a) s.at)) (omega (arith, h.actions));
    values = rw (weight_last valued fs ls own (at (single a) s.at)) (omega (arith, h.values));
    good = rw (weight_last (bad (length ss)) fs ls own (at (single a) s.at), bad_none (length ss) (at (single a) s.at) good) (omega (arith, h.good));
    landed = h.landed;
    few_actions = omega arith;
    few_values = few_values;
    far = omega (arith, h.far);
  }

  -- a function's body begins
  pub held_open : (x : Header) (size : ℕ) (r : Bytes) (s' : Walk) → read_record here ≡ some (header x size, r) → s'.at ≡ s.at + length (header_bytes x size) →
      r ≡ drop s'.at (take s.span.end b) → s'.at + size ≤ s.span.end → s.span.end ≤ length b → length (header_bytes x size) ≤ 65538 → T (holds (length ss) (at (define x 0) s.at)) →
      s.actions < 1024 → s'.span.end ≡ s'.at + size → s'.actions ≡ s.actions + 1 → s'.values ≡ s.values → s'.pool ≡ s.pool →
      Held b s' ss (record { header = x; position = s.at; around = own; rest = drop s'.span.end (take s.span.end b); stop = s.span.end } ∷ fs) [] ls
  held_open x size r s' e n q inside long short good few end_is actions-are values-are pool_is = record {
    pool = h.pool;
    pool_is = pool_is ∙ h.pool_is;
    left = sym (step_header (ending fs) own ls s.at here x size r (drop s'.at (take s'.span.end b)) (drop s'.span.end (take s.span.end b)) s.span.end e cut_is
        ∙ ap (λ (i : ℕ). resume (g ∷ fs) [] ls i (drop s'.at (take s'.span.end b))) (sym n)) ∙ h.left;
    framed = (refl, omega arith, h.framed);
    within = omega arith;
    actions = rw (weight_open one fs ls g) (omega (arith, h.actions));
    values = rw (weight_open valued fs ls g) (omega (arith, h.values));
    good = rw (weight_open (bad (length ss)) fs ls g, bad_none (length ss) (at (define x 0) s.at) good) (omega (arith, h.good));
    landed = h.landed;
    few_actions = omega arith;
    few_values = rw values-are h.few_values;
    far = omega (arith, h.far);
  }
    where
      g : Open
      g = record { header = x; position = s.at; around = own; rest = drop s'.span.end (take s.span.end b); stop = s.span.end }

      cut_is : read_bytes size r ≡ some (drop s'.at (take s'.span.end b), drop s'.span.end (take s.span.end b))
      cut_is = rw (q, end_is) (cut_law b s'.at size s.span.end inside long)

-- a body has ended: its function is an action of the list around it
pub held_close : {b : Bytes} {s : Walk} {ss : List Str} {g : Open} {fs : List Open} {own : List Placed} {ls : List Ended} → Held b s ss (g ∷ fs) own ls → (s' : Walk) →
    s.at ≡ s.span.end → all (lands (bounds (ended_at own s.at))) (raw own) ≡ true → s'.at ≡ s.at → s'.span.end ≡ g.stop → s'.actions ≡ s.actions → s'.values ≡ s.values → s'.pool ≡ s.pool →
    Held b s' ss fs (g.around ++ (defined g (suc (length ls)) ∷ [])) (ls ++ (ended_at own s.at ∷ []))
held_close {b} {s} {ss} {g} {fs} {own} {ls} h s' done lands-all at-is end_is actions-are values-are pool_is = record {
  pool = h.pool;
  pool_is = pool_is ∙ h.pool_is;
  left = rw (at-is, end_is) (ap (resume fs (g.around ++ (defined g (suc (length ls)) ∷ [])) (ls ++ (ended_at own s.at ∷ [])) s.at) rest_is
      ∙ sym (ap (resume (g ∷ fs) own ls s.at) empty ∙ step_end (ending (g ∷ fs)) own ls s.at [] nothing_read)) ∙ h.left;
  framed = rw end_is h.framed.2;
  within = omega (arith, h.framed.1);
  actions = weight_close one fs ls g own (suc (length ls)) s.at refl ∙ h.actions ∙ sym actions-are;
  values = weight_close valued fs ls g own (suc (length ls)) s.at refl ∙ h.values ∙ sym values-are;
  good = weight_close (bad (length ss)) fs ls g own (suc (length ls)) s.at refl ∙ h.good;
  landed = rw (total_append lost ls (ended_at own s.at ∷ []), h.landed, lands-all);
  few_actions = rw actions-are h.few_actions;
  few_values = rw values-are h.few_values;
  far = rw (at-is, actions-are) h.far;
}
  where
    empty : drop s.at (take s.span.end b) ≡ []
    empty = ap (λ (i : ℕ). drop i (take s.span.end b)) done ∙ slice_empty s.span.end b

    rest_is : drop s.at (take g.stop b) ≡ g.rest
    rest_is = ap (λ (i : ℕ). drop i (take g.stop b)) done ∙ sym h.framed.0
