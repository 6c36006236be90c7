use Rattle.std.proofs.Common.{ℕ, ◌≡◌, ◌⊎◌, inl, inr, Option}
use Rattle.pcode.specs.Pcode.{Branching, Jump, If}
use Rattle.action_format.specs.Bytes.{Bytes}
use Rattle.action_format.specs.Decode.{read_branch}
use Rattle.list_slice.specs.Entry.{branch_code}
use Rattle.record_reader.specs.declared.Content.{Content}
use Rattle.record_reader.specs.Steps.{whole, content_of}
use Rattle.record_reader.specs.Shape.{data_reader}
use Rattle.record_reader.proofs.with_data.Goals as goal

pub returns-in-135 : goal.returns-in-135
unfolding data_reader
returns-in-135 c = rw c.in-135.is (c.register.ensures c.args.at c.args.pool)

pub returns-in-142 : goal.returns-in-142
unfolding data_reader
returns-in-142 c = rw c.in-142.is (c.function2.ensures c.args.at c.args.pool)

pub returns-in-155 : goal.returns-in-155
unfolding data_reader
returns-in-155 c = rw c.in-155.is (c.function.ensures c.args.at c.args.pool)

branches : (p pool : ℕ) (d : Bytes) {code : ℕ} {r : Option Content} → (code ≡ 153) ⊎ (code ≡ 157) → ((b : Branching) → code ≡ branch_code b → r ≡ content_of p pool (whole (read_branch b d))) →
    r ≡ content_of p pool (whole (data_reader code d))
unfolding data_reader
branches p pool d (inl e) f = rw e (f Jump e)
branches p pool d (inr e) f = rw e (f If e)

pub returns-in-153 : goal.returns-in-153
returns-in-153 c = branches c.args.at c.args.pool c.args.d.now c.in-153.is (λ b. c.branch-d.ensures b c.args.at c.args.pool)
